-- What holds of narrowed assertions holds of the assertions: no principal but the policy, the authorizers and the
-- requesters has a level above the lowest.
use Rattle.std.proofs.Common.{◌≡◌, ℕ, zero, suc, ◌≤◌, Bool, true, false, cond, List, [], ◌∷◌, ◌++◌, map, All}
use Rattle.std.proofs.Common.{min, max, refl, sym, ap, ◌∙◌, subst, arith, le_refl, le_trans, true≢false}
use Rattle.std.specs.Prelude.{Any}
use Rattle.std.specs.List.{list_any}
use Rattle.std.specs.Str.{bytes_eq}
use Rattle.std.proofs.lemmas.Bool.{or_parts, or_left, or_right}
use Rattle.std.proofs.lemmas.List.Elements.{All-nil, All-cons, All-head, All-tail, All-push}
use Rattle.std.proofs.lemmas.List.Folds.{list_any-append}
use Rattle.kn_principal.specs.Principals.{policy}
use Rattle.kn_proof.specs.declared.named.NamedRow.{NamedRow}
use Rattle.kn_env.specs.Environment.{Asked}
use Rattle.kn_meaning.specs.Formulas.{Levels}
use Rattle.kn_meaning.specs.Equations.{Equations, Part, Statement, statement_of, equations_over, worth}
use Rattle.kn_meaning.specs.Equations.{highest_worth, is_requester, round, IsPolicyLevel}
use Rattle.kn_meaning.specs.Proofs.{row_level, levels_by, Supports, IsRow, AreRows, IsProof}
use Rattle.kn_rows.proofs.Names.{bytes_eq-same, bytes_eq-true}
use Rattle.kn_answer.specs.Narrowed.{principals_with_level, narrow_parts, NarrowedAreSame, narrowed_part}
use Rattle.kn_answer.proofs.NarrowedFormulas.{levels_among, levels_among-all, levels_among-below}
use Rattle.kn_answer.proofs.NarrowedFormulas.{licensees_level-narrowed, licensees_level-below}
use Rattle.kn_answer.proofs.Removing.{any-there}

-- a narrowed assertion is worth what the assertion is under the levels of these principals alone
worth-narrowed : (asked : Asked) (names : List (List ℕ)) (top : ℕ) (at : Levels) (part : Part)
    → worth top at (statement_of asked (narrowed_part names part))
    ≡ worth top (levels_among names at) (statement_of asked part)
worth-narrowed asked names top at part =
    ap (min (statement_of asked part).ceiling) (licensees_level-narrowed names top at part.assertion.licensees)

highest-narrowed : (asked : Asked) (names : List (List ℕ)) (top : ℕ) (at : Levels) (name : List ℕ) (parts : List Part)
    → highest_worth top at name (map (statement_of asked) (map (narrowed_part names) parts))
    ≡ highest_worth top (levels_among names at) name (map (statement_of asked) parts)
highest-narrowed asked names top at name [] = refl
highest-narrowed asked names top at name (part ∷ parts) =
    ap (λ w. max (cond (bytes_eq part.assertion.authorizer name) w 0)
    (highest_worth top at name (map (statement_of asked) (map (narrowed_part names) parts))))
    (worth-narrowed asked names top at part)
    ∙ ap (max (cond (bytes_eq part.assertion.authorizer name)
    (worth top (levels_among names at) (statement_of asked part)) 0)) (highest-narrowed asked names top at name parts)

-- higher levels make an assertion worth no less
worth-below : (top : ℕ) (at other : Levels) → ((name : List ℕ) → at name ≤ other name) → (s : Statement)
    → worth top at s ≤ worth top other s
worth-below top at other below s = let licensees = licensees_level-below top at other below s.licensees in omega arith

max-own : (b : Bool) (w v x y : ℕ) → w ≤ v → x ≤ y → max (cond b w 0) x ≤ max (cond b v 0) y
max-own true w v x y l m = omega arith
max-own false w v x y l m = omega arith

highest-below : (top : ℕ) (at other : Levels) → ((name : List ℕ) → at name ≤ other name) → (name : List ℕ)
    (ss : List Statement) → highest_worth top at name ss ≤ highest_worth top other name ss
highest-below top at other below name [] = omega arith
highest-below top at other below name (s ∷ ss) =
    max-own (bytes_eq s.authorizer name) _ _ _ _ (worth-below top at other below s)
    (highest-below top at other below name ss)

round-below : (e : Equations) (at other : Levels) → ((name : List ℕ) → at name ≤ other name) → (name : List ℕ)
    → round e at name ≤ round e other name
round-below e at other below name =
    by (is_requester e name) (highest-below e.top at other below name e.statements)
  where
    by : (b : Bool) → highest_worth e.top at name e.statements ≤ highest_worth e.top other name e.statements
        → cond b e.top (highest_worth e.top at name e.statements)
        ≤ cond b e.top (highest_worth e.top other name e.statements)
    by true rest = le_refl e.top
    by false rest = rest

-- who is no authorizer has no assertion of worth
highest-none : (asked : Asked) (top : ℕ) (at : Levels) (name : List ℕ) (parts : List Part)
    → list_any (bytes_eq name) (map (λ part. part.assertion.authorizer) parts) ≡ false
    → highest_worth top at name (map (statement_of asked) parts) ≡ 0
highest-none asked top at name [] none = refl
highest-none asked top at name (part ∷ parts) none =
    let apart = or_parts (bytes_eq name part.assertion.authorizer)
    (list_any (bytes_eq name) (map (λ part. part.assertion.authorizer) parts)) none in
    by (bytes_eq part.assertion.authorizer name) refl apart.0 (highest-none asked top at name parts apart.1)
  where
    by : (b : Bool) → bytes_eq part.assertion.authorizer name ≡ b → bytes_eq name part.assertion.authorizer ≡ false
        → highest_worth top at name (map (statement_of asked) parts) ≡ 0
        → max (cond b (worth top at (statement_of asked part)) 0)
        (highest_worth top at name (map (statement_of asked) parts)) ≡ 0
    by true same differs rest =
        absurd (true≢false (sym (bytes_eq-same name part.assertion.authorizer
        (sym (bytes_eq-true part.assertion.authorizer name same))) ∙ differs))
    by false same differs rest = omega (arith, rest)

module _ (asked : Asked) (parts : List Part) where
  abbrev names : List (List ℕ)
  names = principals_with_level asked parts

  abbrev authorizers : List (List ℕ)
  authorizers = map (λ part. part.assertion.authorizer) parts

  abbrev whole : Equations
  whole = equations_over asked parts

  abbrev narrower : Equations
  narrower = equations_over asked (narrow_parts asked parts)

  abbrev IsOther : List ℕ → Type 0
  IsOther name = list_any (bytes_eq name) names ≡ false

  -- who is none of these is no authorizer and no requester
  apart : (name : List ℕ) → IsOther name
      → (list_any (bytes_eq name) authorizers ≡ false) × (is_requester whole name ≡ false)
  apart name other =
      let behind = or_parts (bytes_eq name policy) (list_any (bytes_eq name) (authorizers ++ asked.requesters)) other in
      or_parts (list_any (bytes_eq name) authorizers) (is_requester whole name)
      (sym (list_any-append (bytes_eq name) authorizers asked.requesters) ∙ behind.1)

  authorizer-among : (name : List ℕ) → list_any (bytes_eq name) authorizers ≡ true
      → list_any (bytes_eq name) names ≡ true
  authorizer-among name is =
      or_right (bytes_eq name policy) (list_any (bytes_eq name) (authorizers ++ asked.requesters))
      (list_any-append (bytes_eq name) authorizers asked.requesters
      ∙ or_left (list_any (bytes_eq name) authorizers) (is_requester whole name) is)

  -- a round over the narrowed assertions is one under the levels of these alone
  round-narrowed : (at : Levels) (name : List ℕ) → round narrower at name ≡ round whole (levels_among names at) name
  round-narrowed at name =
      ap (cond (is_requester whole name) whole.top) (highest-narrowed asked names whole.top at name parts)

  round-other : (at : Levels) (name : List ℕ) → IsOther name → round narrower at name ≡ 0
  round-other at name other =
      let none = apart name other in
      round-narrowed at name
      ∙ ap (λ b. cond b whole.top (highest_worth whole.top (levels_among names at) name whole.statements)) none.1
      ∙ highest-none asked whole.top (levels_among names at) name parts none.0

  level-narrowed : (v : ℕ) → IsPolicyLevel narrower v → IsPolicyLevel whole v
  level-narrowed v h = record {
    levels = h.levels;
    least = record {
      solves = λ name. ap (λ at. round whole at name) (sym all) ∙ sym (round-narrowed h.levels name)
          ∙ h.least.solves name;
      least = λ other raised name. h.least.least other (λ n. le_trans (lower other n) (raised n)) name;
    };
    here = h.here;
  }
    where
      all : levels_among names h.levels ≡ h.levels
      all = levels_among-all names h.levels (λ name other. sym (h.least.solves name) ∙ round-other h.levels name other)

      lower : (other : Levels) (n : List ℕ) → round narrower other n ≤ round whole other n
      lower other n =
          subst (λ w. w ≤ round whole other n) (sym (round-narrowed other n))
          (round-below whole (levels_among names other) other (levels_among-below names other) n)

  abbrev IsAmong : NamedRow → Type 0
  IsAmong row = list_any (bytes_eq row.principal) names ≡ true

  -- rows of these principals give all others the lowest level
  row_level-other : (rows : List NamedRow) → All IsAmong rows → (name : List ℕ) → IsOther name
      → row_level rows name ≡ 0
  row_level-other [] among name other = refl
  row_level-other (row ∷ rows) among name other =
      by (bytes_eq row.principal name) refl
      (row_level-other rows (All-tail IsAmong row rows among) name other)
    where
      by : (b : Bool) → bytes_eq row.principal name ≡ b → row_level rows name ≡ 0
          → cond b row.value (row_level rows name) ≡ 0
      by true same rest =
          absurd (true≢false (sym (All-head IsAmong row rows among)
          ∙ ap (λ n. list_any (bytes_eq n) names) (bytes_eq-true row.principal name same) ∙ other))
      by false same rest = rest

  levels_by-all : (rows : List NamedRow) → All IsAmong rows
      → levels_among names (levels_by whole rows) ≡ levels_by whole rows
  levels_by-all rows among =
      levels_among-all names (levels_by whole rows) (λ name other.
      ap (λ b. cond b whole.top (row_level rows name)) (apart name other).1 ∙ row_level-other rows among name other)

  -- under such levels a narrowed assertion is worth what the assertion is
  worth-same : (at : Levels) → levels_among names at ≡ at → (part : Part)
      → worth whole.top at (statement_of asked (narrowed_part names part))
      ≡ worth whole.top at (statement_of asked part)
  worth-same at all part = worth-narrowed asked names whole.top at part
      ∙ ap (λ l. worth whole.top l (statement_of asked part)) all

  supported-narrowed : (at : Levels) → levels_among names at ≡ at → (row : NamedRow) (ps : List Part)
      → Any (Supports narrower at row) (map (statement_of asked) (map (narrowed_part names) ps))
      → Any (Supports whole at row) (map (statement_of asked) ps)
  supported-narrowed at all row [] (n, s, l, here, h) = absurd (omega (arith, l))
  supported-narrowed at all row (part ∷ ps) (zero, s, l, here, h) =
      let own : Supports narrower at row (statement_of asked (narrowed_part names part)) =
      subst (Supports narrower at row) (sym here) h in (
        0,
        statement_of asked part,
        omega arith,
        refl,
        record {
          named = own.named;
          own = own.own;
          enough = subst (λ w. row.value ≤ w) (worth-same at all part) own.enough;
        },
      )
  supported-narrowed at all row (part ∷ ps) (suc n, s, l, here, h) =
      any-there (Supports whole at row) (statement_of asked part) (map (statement_of asked) ps)
      (supported-narrowed at all row ps (n, s, omega (arith, l), here, h))

  -- the principal of a row that is supported is an authorizer
  supported-authorizer : (e : Equations) (at : Levels) (row : NamedRow) (ps : List Part)
      → Any (Supports e at row) (map (statement_of asked) (map (narrowed_part names) ps))
      → list_any (bytes_eq row.principal) (map (λ part. part.assertion.authorizer) ps) ≡ true
  supported-authorizer e at row [] (n, s, l, here, h) = absurd (omega (arith, l))
  supported-authorizer e at row (part ∷ ps) (zero, s, l, here, h) =
      let own : Supports e at row (statement_of asked (narrowed_part names part)) =
      subst (Supports e at row) (sym here) h in
      or_left (bytes_eq row.principal part.assertion.authorizer)
      (list_any (bytes_eq row.principal) (map (λ part. part.assertion.authorizer) ps))
      (bytes_eq-same row.principal part.assertion.authorizer (sym own.own))
  supported-authorizer e at row (part ∷ ps) (suc n, s, l, here, h) =
      or_right (bytes_eq row.principal part.assertion.authorizer)
      (list_any (bytes_eq row.principal) (map (λ part. part.assertion.authorizer) ps))
      (supported-authorizer e at row ps (n, s, omega (arith, l), here, h))

  row-among : (before : List NamedRow) (row : NamedRow) → IsRow narrower before row → IsAmong row
  row-among before row one =
      authorizer-among row.principal (supported-authorizer narrower (levels_by narrower before) row parts one.supported)

  all-among : (before rows : List NamedRow) → AreRows narrower before rows → All IsAmong rows
  all-among before [] h = All-nil IsAmong
  all-among before (row ∷ rows) h =
      All-cons IsAmong row rows (row-among before row h.0) (all-among (before ++ row ∷ []) rows h.1)

  rows-narrowed : (before rows : List NamedRow) → All IsAmong before → AreRows narrower before rows
      → AreRows whole before rows
  rows-narrowed before [] among h = tt
  rows-narrowed before (row ∷ rows) among h =
      let one : IsRow narrower before row = h.0 in (
        record {
          other = one.other;
          fresh = one.fresh;
          above_lowest = one.above_lowest;
          within = one.within;
          supported = supported-narrowed (levels_by whole before) (levels_by-all before among) row parts one.supported;
        },
        rows-narrowed (before ++ row ∷ []) rows (All-push IsAmong before row among (row-among before row one)) h.1,
      )

  closed-narrowed : (at : Levels) → levels_among names at ≡ at → (ps : List Part)
      → All (λ s. worth whole.top at s ≤ at s.authorizer) (map (statement_of asked) (map (narrowed_part names) ps))
      → All (λ s. worth whole.top at s ≤ at s.authorizer) (map (statement_of asked) ps)
  closed-narrowed at all [] h = All-nil (λ s. worth whole.top at s ≤ at s.authorizer)
  closed-narrowed at all (part ∷ ps) h =
      let P : Statement → Type 0 = λ s. worth whole.top at s ≤ at s.authorizer in
      let first : Statement = statement_of asked (narrowed_part names part) in
      let rest : List Statement = map (statement_of asked) (map (narrowed_part names) ps) in
      All-cons P (statement_of asked part) (map (statement_of asked) ps)
      (subst (λ w. w ≤ at part.assertion.authorizer) (worth-same at all part) (All-head P first rest h))
      (closed-narrowed at all ps (All-tail P first rest h))

  proof-narrowed : (rows : List NamedRow) (v : ℕ) → IsProof narrower rows v → IsProof whole rows v
  proof-narrowed rows v h = record {
    in_order = rows-narrowed [] rows (All-nil IsAmong) h.in_order;
    closed = closed-narrowed (levels_by whole rows) (levels_by-all rows (all-among [] rows h.in_order)) parts h.closed;
    claim = h.claim;
  }

pub narrowed_same : (asked : Asked) (parts : List Part) → NarrowedAreSame asked parts
narrowed_same asked parts = record { level = level-narrowed asked parts; proof = proof-narrowed asked parts }
