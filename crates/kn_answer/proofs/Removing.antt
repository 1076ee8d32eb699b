-- Assertions that are worth nothing change no level, and no row of a proof names them.
use Rattle.std.proofs.Common.{◌≡◌, ℕ, zero, suc, ◌≤◌, Bool, true, false, cond, List, [], ◌∷◌, ◌++◌, All, min, max, refl}
use Rattle.std.proofs.Common.{sym, ap, ◌∙◌, subst, arith}
use Rattle.std.specs.Prelude.{Any}
use Rattle.std.specs.Str.{bytes_eq}
use Rattle.std.proofs.lemmas.List.Elements.{All-nil, All-cons, All-head, All-tail}
use Rattle.kn_proof.specs.declared.named.NamedRow.{NamedRow}
use Rattle.kn_meaning.specs.Formulas.{Levels}
use Rattle.kn_meaning.specs.Equations.{Equations, Statement, worth, highest_worth, round, is_requester, licensees_level}
use Rattle.kn_meaning.specs.Equations.{IsPolicyLevel}
use Rattle.kn_meaning.specs.Proofs.{AreRows, IsRow, Supports, levels_by}
use Rattle.kn_answer.specs.Removed.{Kept, RemovedIsWorthless, capped_statements, query_equations, capped_statement}
use Rattle.kn_answer.specs.Removed.{live_statements}

worthless : (top : ℕ) (at : Levels) (k : Kept) → k.is_live ≡ false → worth top at (capped_statement k) ≡ 0
worthless top at k e = let none : min 0 (licensees_level top at k.statement.licensees) ≡ 0 = omega arith in
    ap (λ b. min (cond b k.statement.ceiling 0) (licensees_level top at k.statement.licensees)) e ∙ none

worth-live : (top : ℕ) (at : Levels) (k : Kept) → k.is_live ≡ true
    → worth top at (capped_statement k) ≡ worth top at k.statement
worth-live top at k e = ap (λ b. min (cond b k.statement.ceiling 0) (licensees_level top at k.statement.licensees)) e

none-highest : (b : Bool) (x y : ℕ) → x ≡ 0 → max (cond b x 0) y ≡ y
none-highest true x y e = omega (arith, e)
none-highest false x y e = omega arith

-- the highest worth is that of those which are still there
highest-live : (top : ℕ) (at : Levels) (name : List ℕ) (ks : List Kept)
    → highest_worth top at name (capped_statements ks) ≡ highest_worth top at name (live_statements ks)
highest-live top at name [] = refl
highest-live top at name (k ∷ ks) = by k.is_live refl (highest-live top at name ks)
  where
    by : (b : Bool) → k.is_live ≡ b
        → highest_worth top at name (capped_statements ks) ≡ highest_worth top at name (live_statements ks)
        → highest_worth top at name (capped_statements (k ∷ ks)) ≡ highest_worth top at name (live_statements (k ∷ ks))
    by true e rest =
        ap (λ w. max (cond (bytes_eq k.statement.authorizer name) w 0)
        (highest_worth top at name (capped_statements ks))) (worth-live top at k e)
        ∙ ap (max (cond (bytes_eq k.statement.authorizer name) (worth top at k.statement) 0)) rest
        ∙ sym (ap (λ b. highest_worth top at name (cond b (k.statement ∷ live_statements ks) (live_statements ks))) e)
    by false e rest =
        none-highest (bytes_eq k.statement.authorizer name) (worth top at (capped_statement k))
        (highest_worth top at name (capped_statements ks)) (worthless top at k e)
        ∙ rest
        ∙ sym (ap (λ b. highest_worth top at name (cond b (k.statement ∷ live_statements ks) (live_statements ks))) e)

round-live : (top : ℕ) (requesters : List (List ℕ)) (ks : List Kept) (at : Levels) (name : List ℕ)
    → round (query_equations top requesters (capped_statements ks)) at name
    ≡ round (query_equations top requesters (live_statements ks)) at name
round-live top requesters ks at name =
    ap (λ w. cond (is_requester (query_equations top requesters []) name) top w) (highest-live top at name ks)

level-live : (top : ℕ) (requesters : List (List ℕ)) (ks : List Kept) (v : ℕ)
    → IsPolicyLevel (query_equations top requesters (capped_statements ks)) v
    → IsPolicyLevel (query_equations top requesters (live_statements ks)) v
level-live top requesters ks v h = record {
  levels = h.levels;
  least = record {
    solves = λ name. sym (round-live top requesters ks h.levels name) ∙ h.least.solves name;
    least = λ other below name.
        h.least.least other (λ n. subst (λ x. x ≤ other n) (sym (round-live top requesters ks other n)) (below n)) name;
  };
  here = h.here;
}

-- what stands behind another stands there
pub any-there : {X : Type 0} (P : X → Type 0) (y : X) (l : List X) → Any P l → Any P (y ∷ l)
any-there P y l a = (suc a.0, a.1, omega (arith, a.2), a.3, a.4)

-- who supports a row above the lowest is still there
supports-live : (e : Equations) (at : Levels) (row : NamedRow) (ks : List Kept) → 1 ≤ row.value
    → Any (Supports e at row) (capped_statements ks) → Any (Supports e at row) (live_statements ks)
supports-live e at row [] some (n, s, l, here, h) = absurd (omega (arith, l))
supports-live e at row (k ∷ ks) some (zero, s, l, here, h) = by k.is_live refl
  where
    own : Supports e at row (capped_statement k)
    own = subst (Supports e at row) (sym here) h

    by : (b : Bool) → k.is_live ≡ b → Any (Supports e at row) (live_statements (k ∷ ks))
    by true a =
        let enough : row.value ≤ worth e.top at k.statement =
        subst (λ w. row.value ≤ w) (worth-live e.top at k a) own.enough in
        subst (λ b. Any (Supports e at row) (cond b (k.statement ∷ live_statements ks) (live_statements ks))) (sym a)
        (0, k.statement, omega arith, refl, record { named = own.named; own = own.own; enough = enough })
    by false a = let none : worth e.top at (capped_statement k) ≡ 0 = worthless e.top at k a in
        absurd (omega (arith, none, own.enough, some))
supports-live e at row (k ∷ ks) some (suc n, s, l, here, h) =
    by k.is_live refl (supports-live e at row ks some (n, s, omega (arith, l), here, h))
  where
    by : (b : Bool) → k.is_live ≡ b → Any (Supports e at row) (live_statements ks)
        → Any (Supports e at row) (live_statements (k ∷ ks))
    by true a rest =
        subst (λ b. Any (Supports e at row) (cond b (k.statement ∷ live_statements ks) (live_statements ks))) (sym a)
        (any-there (Supports e at row) k.statement (live_statements ks) rest)
    by false a rest =
        subst (λ b. Any (Supports e at row) (cond b (k.statement ∷ live_statements ks) (live_statements ks))) (sym a)
        rest

supports-same : (top : ℕ) (requesters : List (List ℕ)) (xs ys : List Statement) (at : Levels) (row : NamedRow)
    (s : Statement) → Supports (query_equations top requesters xs) at row s
    → Supports (query_equations top requesters ys) at row s
supports-same top requesters xs ys at row s h = record { named = h.named; own = h.own; enough = h.enough }

any-same : {X : Type 0} (P Q : X → Type 0) (l : List X) → ((x : X) → P x → Q x) → Any P l → Any Q l
any-same P Q l f a = (a.0, a.1, a.2, a.3, f a.1 a.4)

rows-live : (top : ℕ) (requesters : List (List ℕ)) (ks : List Kept) (before rows : List NamedRow)
    → AreRows (query_equations top requesters (capped_statements ks)) before rows
    → AreRows (query_equations top requesters (live_statements ks)) before rows
rows-live top requesters ks before [] h = tt
rows-live top requesters ks before (row ∷ rows) h =
    let all : Equations = query_equations top requesters (capped_statements ks) in
    let some : Equations = query_equations top requesters (live_statements ks) in
    let one : IsRow all before row = h.0 in
    let at : Levels = levels_by all before in (
      record {
        other = one.other;
        fresh = one.fresh;
        above_lowest = one.above_lowest;
        within = one.within;
        supported = any-same (Supports all at row) (Supports some at row) (live_statements ks)
            (supports-same top requesters (capped_statements ks) (live_statements ks) at row)
            (supports-live all at row ks one.above_lowest one.supported);
      },
      rows-live top requesters ks (before ++ row ∷ []) rows h.1,
    )

closed-live : (top : ℕ) (at : Levels) (ks : List Kept)
    → All (λ s. worth top at s ≤ at s.authorizer) (capped_statements ks)
    → All (λ s. worth top at s ≤ at s.authorizer) (live_statements ks)
closed-live top at [] h = All-nil (λ s. worth top at s ≤ at s.authorizer)
closed-live top at (k ∷ ks) h =
    by k.is_live refl
    (closed-live top at ks (All-tail (λ s. worth top at s ≤ at s.authorizer) (capped_statement k) (capped_statements ks)
    h))
  where
    first : worth top at (capped_statement k) ≤ at k.statement.authorizer
    first = All-head (λ s. worth top at s ≤ at s.authorizer) (capped_statement k) (capped_statements ks) h

    by : (b : Bool) → k.is_live ≡ b → All (λ s. worth top at s ≤ at s.authorizer) (live_statements ks)
        → All (λ s. worth top at s ≤ at s.authorizer) (live_statements (k ∷ ks))
    by true a rest =
        subst (λ b. All (λ s. worth top at s ≤ at s.authorizer)
        (cond b (k.statement ∷ live_statements ks) (live_statements ks))) (sym a)
        (All-cons (λ s. worth top at s ≤ at s.authorizer) k.statement (live_statements ks)
        (subst (λ w. w ≤ at k.statement.authorizer) (worth-live top at k a) first) rest)
    by false a rest =
        subst (λ b. All (λ s. worth top at s ≤ at s.authorizer)
        (cond b (k.statement ∷ live_statements ks) (live_statements ks))) (sym a) rest

pub removed : (top : ℕ) (requesters : List (List ℕ)) (kept : List Kept) → RemovedIsWorthless top requesters kept
removed top requesters kept = record {
  level = level-live top requesters kept;
  proof = λ rows v h. record {
    in_order = rows-live top requesters kept [] rows h.in_order;
    closed = closed-live top (levels_by (query_equations top requesters []) rows) kept h.closed;
    claim = h.claim;
  };
}
