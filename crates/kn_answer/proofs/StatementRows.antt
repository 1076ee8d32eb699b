-- A row of the system and the statement that it is of.
use Rattle.std.proofs.Common.{◌≡◌, ℕ, suc, zero, ◌+◌, ◌-◌, ◌^◌, ◌<◌, ◌≤◌, Bool, true, List, [], ◌∷◌, slice_get}
use Rattle.std.proofs.Common.{slice_index, slice_index_or, get_or, length, map, All, Some, None, refl, ap, ◌∙◌, subst}
use Rattle.std.proofs.Common.{arith}
use Rattle.std.specs.Option.{option_map}
use Rattle.std.proofs.lemmas.Option.{slice_get_within, get_or_from_slice_get, slice_get-map, slice_get-get_or}
use Rattle.kn_proof.specs.declared.named.Id.TheVariants.{Shared}
use Rattle.kn_meaning.specs.Formulas.{Levels}
use Rattle.kn_meaning.specs.Equations.{Equations, Statement, is_requester}
use Rattle.kn_meaning.specs.Equations as named
use Rattle.kn_meaning.specs.Proofs as proof
use Rattle.kn_system.specs.Rows.{SystemRow}
use Rattle.kn_system.specs.Equations.{SystemEquations, IsSystemRow, IsSystem, row_at, node_total}
use Rattle.kn_system.specs.Forms.{AreForms}
use Rattle.kn_system.specs.Least.{worth}
use Rattle.kn_system.specs.Proofs.{IsClosed}
use Rattle.kn_rows.specs.Numbering.{IsNumber, HaveLevels, IsRowOf, AreRowsOf, IsSystemOf}
use Rattle.kn_answer.specs.Built.{Interned, IsBuilt}
use Rattle.kn_answer.proofs.NamedLevels.{worth-same}

-- The system states what the query does, and each row has the id of its statement.
pub record IsStated (e : Equations) (built : Interned) : Type 0 where
  pub well_formed : IsSystem built.system
  pub of : IsSystemOf e built.names built.system
  pub ids : built.ids ≡ map (λ s. s.id) e.statements

pub IsBuilt-stated : (e : Equations) (built : Interned) → IsBuilt e built → IsStated e built
IsBuilt-stated e built is = record { well_formed = is.well_formed; of = is.of; ids = is.ids }

pub length-rows : (top : ℕ) (names : List (List ℕ)) (statements : List Statement) (rows : List SystemRow)
    → AreRowsOf top names statements rows → length statements ≡ length rows
length-rows top names [] [] are = refl
length-rows top names [] (row ∷ rows) are = absurd are
length-rows top names (s ∷ statements) [] are = absurd are
length-rows top names (s ∷ statements) (row ∷ rows) are = ap suc (length-rows top names statements rows are.1)

-- the row of a number is that of the statement at this place
row-of : (top : ℕ) (names : List (List ℕ)) (statements : List Statement) (rows : List SystemRow)
    → AreRowsOf top names statements rows → (i : ℕ) (d : Statement) → i < length statements
    → IsRowOf top names (get_or statements i d) (row_at rows i)
row-of top names [] [] are i d l = absurd (omega arith)
row-of top names [] (row ∷ rows) are i d l = absurd are
row-of top names (s ∷ statements) [] are i d l = absurd are
row-of top names (s ∷ statements) (row ∷ rows) are zero d l = are.0
row-of top names (s ∷ statements) (row ∷ rows) are (suc i) d l =
    row-of top names statements rows are.1 i d (omega arith)

-- The row of this number is that of the statement.
pub record IsAt (e : Equations) (built : Interned) (i : ℕ) (s : Statement) : Type 0 where
  pub within : i < length built.system.rows
  pub listed : i < length e.statements
  pub here : slice_index_or e.statements i s ≡ s
  pub row : IsRowOf e.top built.names s (row_at built.system.rows i)
  pub id : IsNumber built.ids s.id i

pub at-statement : (e : Equations) (built : Interned) → IsStated e built → (i : ℕ) (s : Statement)
    → slice_get e.statements i ≡ Some s → IsAt e built i s
at-statement e built is i s there =
    let listed : i < length e.statements = slice_get_within e.statements i s there in
    let here : slice_index_or e.statements i s ≡ s = get_or_from_slice_get e.statements i s s there in
    record {
      within = let size : length e.statements ≡ length built.system.rows =
          length-rows e.top built.names e.statements built.system.rows is.of.rows in omega arith;
      listed = listed;
      here = here;
      row = subst (λ x. IsRowOf e.top built.names x (row_at built.system.rows i)) here
          (row-of e.top built.names e.statements built.system.rows is.of.rows i s listed);
      id = ap (λ ids. slice_get ids i) is.ids ∙ slice_get-map (λ x. x.id) e.statements i
          ∙ ap (option_map (λ x. x.id)) there;
    }

-- any statement
some_statement : Statement
some_statement = record { id = Shared 0; authorizer = []; ceiling = 0; licensees = None }

-- each row is that of a statement
pub at-row : (e : Equations) (built : Interned) → IsStated e built → (i : ℕ) → i < length built.system.rows
    → (s : Statement) × IsAt e built i s
at-row e built is i l =
    let size : length e.statements ≡ length built.system.rows =
    length-rows e.top built.names e.statements built.system.rows is.of.rows in
    let s : Statement = get_or e.statements i some_statement in
    (s, at-statement e built is i s (slice_get-get_or e.statements i some_statement (omega arith)))

-- a system has as many levels as the query has compliance values
pub top-of : (e : Equations) (built : Interned) → IsStated e built → built.system.levels - 1 ≡ e.top
top-of e built is = let top : built.system.levels ≡ e.top + 1 = is.of.top in omega arith

-- the row is worth what its statement is
pub worth-at : (e : Equations) (built : Interned) → IsStated e built → (at : Levels) (levels : List ℕ)
    → HaveLevels built.names at levels → (i : ℕ) (s : Statement) → IsAt e built i s
    → worth (built.system.levels - 1) levels (row_at built.system.rows i) ≡ named.worth e.top at s
worth-at e built is at levels have i s here =
    ap (λ top. worth top levels (row_at built.system.rows i)) (top-of e built is)
    ∙ worth-same e.top built.names at levels have s (row_at built.system.rows i) here.row

-- a principal is a requester by number where it is one by name
pub flag-at : (requesters names : List (List ℕ)) (flags : List Bool) (asks : List ℕ → Bool) → flags ≡ map asks names
    → (name : List ℕ) (p : ℕ) → IsNumber names name p → slice_index_or flags p true ≡ asks name
flag-at requesters names flags asks flagged name p number =
    ap (λ fs. slice_index_or fs p true) flagged
    ∙ get_or_from_slice_get (map asks names) p (asks name) true (slice_get-map asks names p
    ∙ ap (option_map asks) number)

some_node : (principals : ℕ) (row : SystemRow) → AreForms principals 1 row.formula → 1 ≤ length row.formula
some_node principals row one = by row.formula one
  where
    by : (pieces : _) → AreForms principals 1 pieces → 1 ≤ length pieces
    by [] forms = absurd forms
    by (piece ∷ pieces) forms = omega arith

-- each row has a node at least
length-node_total : (levels principals : ℕ) (rows : List SystemRow) → All (IsSystemRow levels principals) rows
    → length rows ≤ node_total rows
length-node_total levels principals [] fit = omega arith
length-node_total levels principals (row ∷ rows) fit =
    let first : IsSystemRow levels principals row = fit 0 row (omega arith) in
    let node : 1 ≤ length row.formula = some_node principals row first.formula.one in
    let rest : length rows ≤ node_total rows =
    length-node_total levels principals rows (λ i d l. fit (suc i) d (omega arith)) in
    omega arith

-- fewer rows than 2^24
pub rows-few : (s : SystemEquations) → IsSystem s → length s.rows < 2 ^ 24
rows-few s fits = let few : length s.rows ≤ node_total s.rows =
    length-node_total s.levels (length s.requesters) s.rows fits.rows_fit in let nodes : node_total s.rows < 2 ^ 24 =
    fits.nodes_fit in omega arith

-- no row is worth more than its authorizer has, by name where by number
pub closed-named : (e : Equations) (built : Interned) → IsStated e built → (at : Levels) (levels : List ℕ)
    → HaveLevels built.names at levels → IsClosed built.system levels → proof.IsClosed e at
closed-named e built is at levels have closed = λ i d l.
    let s : Statement = get_or e.statements i d in
    let here : IsAt e built i s = at-statement e built is i s (slice_get-get_or e.statements i d l) in
    let low = closed i here.within in
    let value = worth-at e built is at levels have i s here in
    let own : slice_index levels (row_at built.system.rows i).authorizer ≡ at s.authorizer =
    have (row_at built.system.rows i).authorizer s.authorizer here.row.authorizer in
    omega arith

-- and by number where by name
pub closed-numbered : (e : Equations) (built : Interned) → IsStated e built → (at : Levels) (levels : List ℕ)
    → HaveLevels built.names at levels → proof.IsClosed e at → IsClosed built.system levels
closed-numbered e built is at levels have closed = λ i l.
    let s : Statement = (at-row e built is i l).0 in
    let here : IsAt e built i s = (at-row e built is i l).1 in
    let first = closed i s here.listed in
    let low : named.worth e.top at s ≤ at s.authorizer =
    subst (λ x. named.worth e.top at x ≤ at x.authorizer) here.here first in
    let value = worth-at e built is at levels have i s here in
    let own : slice_index levels (row_at built.system.rows i).authorizer ≡ at s.authorizer =
    have (row_at built.system.rows i).authorizer s.authorizer here.row.authorizer in
    omega arith
