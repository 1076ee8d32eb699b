-- Lists of rows by names and by numbers, row by row.
use Rattle.std.proofs.Common.{◌≡◌, ℕ, suc, zero, ◌+◌, ◌<◌, ◌≤◌, Bool, true, false, cond, List, [], ◌∷◌, ◌++◌, get_or}
use Rattle.std.proofs.Common.{take, slice_set, length, sym, ap, ◌∙◌, subst, arith}
use Rattle.std.specs.Str.{bytes_eq}
use Rattle.std.proofs.lemmas.List.{take_more}
use Rattle.kn_principal.specs.Principals.{policy}
use Rattle.kn_proof.specs.declared.named.NamedRow.{NamedRow}
use Rattle.kn_proof.specs.declared.row.Row.{Row}
use Rattle.kn_meaning.specs.Equations.{Equations, is_requester}
use Rattle.kn_meaning.specs.Proofs.{row_level, levels_by, AreRows}
use Rattle.kn_meaning.specs.Proofs as proof
use Rattle.kn_system.specs.Equations.{SystemEquations}
use Rattle.kn_system.specs.Proofs.{AreSteps}
use Rattle.kn_answer.specs.Built.{Interned}
use Rattle.kn_answer.specs.Located.{IsLocated, AreLocated, AreOfSystem}

AreLocated-push : (built : Interned) (rows : List NamedRow) (located : List Row) → AreLocated built rows located
    → (named : NamedRow) (row : Row) → IsLocated built named row
    → AreLocated built (rows ++ named ∷ []) (located ++ row ∷ [])
AreLocated-push built [] [] are named row is = (is, tt)
AreLocated-push built [] (r ∷ located) are named row is = absurd are
AreLocated-push built (n ∷ rows) [] are named row is = absurd are
AreLocated-push built (n ∷ rows) (r ∷ located) are named row is =
    (are.0, AreLocated-push built rows located are.1 named row is)

-- one more row by names has been located
pub located-more : (built : Interned) (rows : List NamedRow) (located : List Row) (i : ℕ) (named : NamedRow) (row : Row)
    → i < length rows → named ≡ get_or rows i named → AreLocated built (take i rows) located → IsLocated built named row
    → AreLocated built (take (i + 1) rows) (located ++ row ∷ [])
located-more built rows located i named row within here are is =
    subst (λ xs. AreLocated built xs (located ++ row ∷ [])) (ap (λ n. take i rows ++ n ∷ []) here
    ∙ sym (take_more rows i named within)) (AreLocated-push built (take i rows) located are named row is)

-- one more row by numbers has been named
pub named-more : (built : Interned) (rows : List NamedRow) (located : List Row) (i : ℕ) (named : NamedRow) (d : Row)
    → i < length located → AreLocated built rows (take i located) → IsLocated built named (get_or located i d)
    → AreLocated built (rows ++ named ∷ []) (take (i + 1) located)
named-more built rows located i named d within are is =
    subst (λ xs. AreLocated built (rows ++ named ∷ []) xs) (sym (take_more located i d within))
    (AreLocated-push built rows (take i located) are named (get_or located i d) is)

-- the numbers of steps are in range
pub AreOfSystem-steps : (s : SystemEquations) (levels : List ℕ) (rows : List Row) → AreSteps s levels rows
    → AreOfSystem s rows
AreOfSystem-steps s levels [] steps i d l = absurd (omega arith)
AreOfSystem-steps s levels (row ∷ rows) steps zero d l = record { principal = steps.0.principal; by = steps.0.named }
AreOfSystem-steps s levels (row ∷ rows) steps (suc i) d l =
    AreOfSystem-steps s (slice_set levels row.principal row.value) rows steps.1 i d (omega arith)

-- no row gives a level above the top
row_level-most : (e : Equations) (before rows : List NamedRow) → AreRows e before rows → (name : List ℕ)
    → row_level rows name ≤ e.top
row_level-most e before [] are name = omega arith
row_level-most e before (row ∷ rows) are name =
    by (bytes_eq row.principal name) are.0.within (row_level-most e (before ++ row ∷ []) rows are.1 name)
  where
    by : (b : Bool) → row.value ≤ e.top → row_level rows name ≤ e.top → cond b row.value (row_level rows name) ≤ e.top
    by true first rest = first
    by false first rest = rest

-- nor does a proof
pub level-most : (e : Equations) (rows : List NamedRow) (level : ℕ) → proof.IsProof e rows level → level ≤ e.top
level-most e rows level proves =
    subst (λ l. l ≤ e.top) proves.claim (by (is_requester e policy) (row_level-most e [] rows proves.in_order policy))
  where
    by : (b : Bool) → row_level rows policy ≤ e.top → cond b e.top (row_level rows policy) ≤ e.top
    by true most = omega arith
    by false most = most
