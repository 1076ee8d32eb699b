-- A proof determines the levels.
use Rattle.std.proofs.Common.{◌≡◌, ℕ, suc, zero, ◌≤◌, Bool, true, false, cond, List, [], ◌∷◌, ◌++◌, All, Any, max, refl}
use Rattle.std.proofs.Common.{sym, ap, ◌∙◌, subst, append_assoc, append-nil, arith}
use Rattle.std.specs.Str.{bytes_eq}
use Rattle.std.proofs.lemmas.Slice.Eq.{bytes_eq-Decides}
use Rattle.kn_principal.specs.Principals.{policy}
use Rattle.kn_proof.specs.declared.named.NamedRow.{NamedRow}
use Rattle.kn_meaning.specs.Formulas.{Levels}
use Rattle.kn_meaning.specs.Equations.{Equations, Statement, worth, highest_worth, is_requester, round, IsLeast}
use Rattle.kn_meaning.specs.Proofs.{row_level, levels_by, Supports, IsRow, AreRows, IsClosed, IsProof}
use Rattle.kn_laws.specs.Laws.{IsDetermined}
use Rattle.kn_laws.proofs.Rounds.{Below, worth-below, round-below}

-- there is one least solution at most
pub one_least : (e : Equations) (at other : Levels) → IsLeast e at → IsLeast e other → (name : List ℕ)
    → at name ≡ other name
one_least e at other least others name =
    let below = least.least other (λ n. omega (arith, others.solves n)) name in
    let above = others.least at (λ n. omega (arith, least.solves n)) name in
    omega (arith, below, above)

-- levels under which no assertion is worth more than its authorizer has are raised by none
highest_worth-closed : (top : ℕ) (at : Levels) (ss : List Statement) → All (λ s. worth top at s ≤ at s.authorizer) ss
    → (name : List ℕ) → highest_worth top at name ss ≤ at name
highest_worth-closed top at [] closed name = omega arith
highest_worth-closed top at (s ∷ ss) closed name =
    let rest = highest_worth-closed top at ss (λ i d l. closed (suc i) d (omega arith)) name in
    let own : worth top at s ≤ at s.authorizer = closed 0 s (omega arith) in
    by (bytes_eq s.authorizer name) (λ same. let e : at s.authorizer ≡ at name =
    ap at ((bytes_eq-Decides s.authorizer name).0 same) in omega arith) rest
  where
    by : (t : Bool) → (t ≡ true → worth top at s ≤ at name) → highest_worth top at name ss ≤ at name
        → max (cond t (worth top at s) 0) (highest_worth top at name ss) ≤ at name
    by true first rest = let le = first refl in omega arith
    by false first rest = omega arith

-- so a round doesn't raise a proof's levels
levels_by-closed : (e : Equations) (rows : List NamedRow) → IsClosed e (levels_by e rows)
    → Below (round e (levels_by e rows)) (levels_by e rows)
levels_by-closed e rows closed name =
    by (is_requester e name) refl (highest_worth-closed e.top (levels_by e rows) e.statements closed name)
  where
    by : (t : Bool) → is_requester e name ≡ t
        → highest_worth e.top (levels_by e rows) name e.statements ≤ levels_by e rows name
        → cond t e.top (highest_worth e.top (levels_by e rows) name e.statements)
        ≤ cond (is_requester e name) e.top (row_level rows name)
    by true is le = let same : cond (is_requester e name) e.top (row_level rows name) ≡ e.top =
        ap (λ t. cond t e.top (row_level rows name)) is in omega arith
    by false is le = le

-- what a row may state, its principal has after a round of levels that are as high as those before it
highest_worth-supported : (e : Equations) (before at : Levels) → Below before at
    → (row : NamedRow) (ss : List Statement) → Any (Supports e before row) ss
    → row.value ≤ highest_worth e.top at row.principal ss
highest_worth-supported e before at below row [] (k, x, within, is, supports) = absurd (omega arith)
highest_worth-supported e before at below row (s ∷ ss) (zero, x, within, is, supports) =
    let raised = worth-below e.top before at below s in
    let enough : row.value ≤ worth e.top before s =
    subst (λ z. row.value ≤ worth e.top before z) (sym is) supports.enough in
    let own : s.authorizer ≡ row.principal = ap (λ z. z.authorizer) is ∙ supports.own in
    let named : bytes_eq s.authorizer row.principal ≡ true = (bytes_eq-Decides s.authorizer row.principal).1 own in
    let first : max (cond (bytes_eq s.authorizer row.principal) (worth e.top at s) 0)
    (highest_worth e.top at row.principal ss) ≡ max (worth e.top at s) (highest_worth e.top at row.principal ss) =
    ap (λ t. max (cond t (worth e.top at s) 0) (highest_worth e.top at row.principal ss)) named in
    omega arith
highest_worth-supported e before at below row (s ∷ ss) (suc k, x, within, is, supports) =
    let rest = highest_worth-supported e before at below row ss (k, x, omega arith, is, supports) in
    omega arith

-- one row more leaves the level of a principal, or gives it the row's
row_level-push : (rows : List NamedRow) (row : NamedRow) (name : List ℕ) (most : ℕ) → row_level rows name ≤ most
    → (row.principal ≡ name → row.value ≤ most) → row_level (rows ++ row ∷ []) name ≤ most
row_level-push [] row name most before last = by (bytes_eq row.principal name) refl
  where
    by : (t : Bool) → bytes_eq row.principal name ≡ t → cond t row.value 0 ≤ most
    by true same = last ((bytes_eq-Decides row.principal name).0 same)
    by false same = omega arith
row_level-push (first ∷ rows) row name most before last =
    by (bytes_eq first.principal name) before (λ le. row_level-push rows row name most le last)
  where
    by : (t : Bool) → cond t first.value (row_level rows name) ≤ most
        → (row_level rows name ≤ most → row_level (rows ++ row ∷ []) name ≤ most)
        → cond t first.value (row_level (rows ++ row ∷ []) name) ≤ most
    by true le rest = le
    by false le rest = rest le

-- levels that no round raises are above those of rows in order
module _ (e : Equations) (at : Levels) (raised : Below (round e at) at) where
  requesters-top : (name : List ℕ) → is_requester e name ≡ true → e.top ≤ at name
  requesters-top name is =
      let after : round e at name ≡ e.top = ap (λ t. cond t e.top (highest_worth e.top at name e.statements)) is in
      let le = raised name in
      omega arith

  row-below : (before : List NamedRow) (row : NamedRow) → Below (levels_by e before) at → IsRow e before row
      → row.value ≤ at row.principal
  row-below before row below is =
      let enough = highest_worth-supported e (levels_by e before) at below row e.statements is.supported in
      let after : round e at row.principal ≡ highest_worth e.top at row.principal e.statements =
      ap (λ t. cond t e.top (highest_worth e.top at row.principal e.statements)) is.other in
      let le = raised row.principal in
      omega arith

  by_requester : (rows : List NamedRow) (name : List ℕ) → (is_requester e name ≡ false → row_level rows name ≤ at name)
      → (t : Bool) → is_requester e name ≡ t → cond t e.top (row_level rows name) ≤ at name
  by_requester rows name others true is = requesters-top name is
  by_requester rows name others false is = others is

  first-below : Below (levels_by e []) at
  first-below name = by_requester [] name (λ is. omega arith) (is_requester e name) refl

  next-below : (before : List NamedRow) (row : NamedRow) → Below (levels_by e before) at → IsRow e before row
      → Below (levels_by e (before ++ row ∷ [])) at
  next-below before row below is name =
      by_requester (before ++ row ∷ []) name (λ other.
      let earlier : levels_by e before name ≡ row_level before name =
      ap (λ t. cond t e.top (row_level before name)) other in
      let le = below name in
      row_level-push before row name (at name) (omega arith)
      (λ same. subst (λ n. row.value ≤ at n) same (row-below before row below is)))
      (is_requester e name) refl

  pub rows-below : (before rows : List NamedRow) → Below (levels_by e before) at → AreRows e before rows
      → Below (levels_by e (before ++ rows)) at
  rows-below before [] below are = subst (λ all. Below (levels_by e all) at) (sym (append-nil before)) below
  rows-below before (row ∷ rows) below are =
      subst (λ all. Below (levels_by e all) at) (append_assoc before (row ∷ []) rows)
      (rows-below (before ++ row ∷ []) rows (next-below before row below are.0) are.1)

  pub proof-below : (rows : List NamedRow) → AreRows e [] rows → Below (levels_by e rows) at
  proof-below rows are = rows-below [] rows first-below are

-- the levels after a proof's rows are the least ones
pub proof-least : (e : Equations) (rows : List NamedRow) (level : ℕ) → IsProof e rows level
    → IsLeast e (levels_by e rows)
proof-least e rows level h =
    let found : Levels = levels_by e rows in
    let kept : Below (round e found) found = levels_by-closed e rows h.closed in
    let above : Below found (round e found) =
    proof-below e (round e found) (round-below e (round e found) found kept) rows h.in_order in
    record {
      solves = λ name. let le = kept name in let ge = above name in omega arith;
      least = λ other raised. proof-below e other raised rows h.in_order;
    }

pub proof-determines : (e : Equations) (rows : List NamedRow) (level : ℕ) → IsProof e rows level
    → IsDetermined e rows level
proof-determines e rows level h =
    let least = proof-least e rows level h in
    record {
      least = least;
      claim = λ at is. one_least e at (levels_by e rows) is least policy ∙ h.claim;
      only = λ others other is. sym is.claim
          ∙ one_least e (levels_by e others) (levels_by e rows) (proof-least e others other is) least policy ∙ h.claim;
    }
