-- The rows of assertions, where names and rows come behind others.
use Rattle.std.proofs.Common.{◌≡◌, ℕ, suc, List, [], ◌∷◌, ◌++◌, length, refl, ap}
use Rattle.kn_trees.specs.declared.assertion.Assertion.{Assertion}
use Rattle.kn_meaning.specs.Equations.{Part}
use Rattle.kn_system.specs.Rows.{SystemRow}
use Rattle.kn_rows.specs.Numbering.{IsNumber}
use Rattle.kn_rows.specs.Extending.{Keeps}
use Rattle.kn_rows.specs.BaseRows.{AreBaseRows, AreNumbersOf, IsBaseRow}
use Rattle.kn_rows.proofs.NewNames.{ArePiecesOf-kept}

pub length-base : (names : List (List ℕ)) (parts : List Part) (rows : List SystemRow) → AreBaseRows names parts rows
    → length parts ≡ length rows
length-base names [] [] are = refl
length-base names [] (row ∷ rows) are = absurd are
length-base names (part ∷ parts) [] are = absurd are
length-base names (part ∷ parts) (row ∷ rows) are = ap suc (length-base names parts rows are.1)

-- rows stay those of the assertions where names keep their numbers
pub IsBaseRow-kept : (old new : List (List ℕ)) → Keeps old new → (assertion : Assertion) (row : SystemRow)
    → IsBaseRow old assertion row → IsBaseRow new assertion row
IsBaseRow-kept old new keeps assertion row is = record {
  authorizer = keeps row.authorizer assertion.authorizer is.authorizer;
  pieces = ArePiecesOf-kept old new keeps _ row.formula is.pieces;
  licensees = λ top at levels have. is.licensees top at levels (λ p name here. have p name (keeps p name here));
}

pub AreBaseRows-kept : (old new : List (List ℕ)) → Keeps old new → (parts : List Part) (rows : List SystemRow)
    → AreBaseRows old parts rows → AreBaseRows new parts rows
AreBaseRows-kept old new keeps [] [] are = tt
AreBaseRows-kept old new keeps [] (row ∷ rows) are = absurd are
AreBaseRows-kept old new keeps (part ∷ parts) [] are = absurd are
AreBaseRows-kept old new keeps (part ∷ parts) (row ∷ rows) are =
    (IsBaseRow-kept old new keeps part.assertion row are.0, AreBaseRows-kept old new keeps parts rows are.1)

pub AreBaseRows-longer : (names : List (List ℕ)) (parts : List Part) (rows : List SystemRow)
    → AreBaseRows names parts rows → (part : Part) (row : SystemRow) → IsBaseRow names part.assertion row
    → AreBaseRows names (parts ++ part ∷ []) (rows ++ row ∷ [])
AreBaseRows-longer names [] [] are part row is = (is, tt)
AreBaseRows-longer names [] (r ∷ rows) are part row is = absurd are
AreBaseRows-longer names (p ∷ parts) [] are part row is = absurd are
AreBaseRows-longer names (p ∷ parts) (r ∷ rows) are part row is =
    (are.0, AreBaseRows-longer names parts rows are.1 part row is)

-- numbers stay those of the principals
pub AreNumbersOf-kept : (old new : List (List ℕ)) → Keeps old new → (principals : List (List ℕ)) (numbers : List ℕ)
    → AreNumbersOf old principals numbers → AreNumbersOf new principals numbers
AreNumbersOf-kept old new keeps [] [] are = tt
AreNumbersOf-kept old new keeps [] (p ∷ ps) are = absurd are
AreNumbersOf-kept old new keeps (r ∷ rs) [] are = absurd are
AreNumbersOf-kept old new keeps (r ∷ rs) (p ∷ ps) are = (keeps p r are.0, AreNumbersOf-kept old new keeps rs ps are.1)

pub AreNumbersOf-longer : (names : List (List ℕ)) (principals : List (List ℕ)) (numbers : List ℕ)
    → AreNumbersOf names principals numbers → (name : List ℕ) (p : ℕ) → IsNumber names name p
    → AreNumbersOf names (principals ++ name ∷ []) (numbers ++ p ∷ [])
AreNumbersOf-longer names [] [] are name p is = (is, tt)
AreNumbersOf-longer names [] (q ∷ qs) are name p is = absurd are
AreNumbersOf-longer names (r ∷ rs) [] are name p is = absurd are
AreNumbersOf-longer names (r ∷ rs) (q ∷ qs) are name p is = (are.0, AreNumbersOf-longer names rs qs are.1 name p is)
