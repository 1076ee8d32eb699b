-- Rounds from the levels at first climb to the least levels.
use Rattle.std.proofs.Common.{◌≡◌, ℕ, suc, zero, ◌+◌, ◌*◌, ◌<◌, ◌≤◌, ◌⊎◌, Bool, true, false, cond, ◌||◌, List, [], ◌∷◌}
use Rattle.std.proofs.Common.{◌++◌, length, flat_map, max, inl, inr, refl, sym, ap, ◌∙◌, arith}
use Rattle.std.specs.List.{list_any}
use Rattle.std.specs.Str.{bytes_eq}
use Rattle.std.proofs.lemmas.Bool.{cases_lt, or_cases, or_right}
use Rattle.std.proofs.lemmas.Slice.Eq.{bytes_eq-Decides}
use Rattle.std.proofs.lemmas.List.Folds.{list_any-append}
use Rattle.kn_principal.specs.Principals.{policy}
use Rattle.kn_meaning.specs.Formulas.{Levels}
use Rattle.kn_meaning.specs.Equations.{Equations, Statement, worth, highest_worth, is_requester, round, IsLeast}
use Rattle.kn_meaning.specs.Equations.{IsPolicyLevel}
use Rattle.kn_meaning.specs.Occurring.{licensees_names, statement_names, occurring}
use Rattle.kn_laws.specs.Least.{each_once, principals, at_first, rounds, least_levels}
use Rattle.kn_laws.proofs.Rounds.{Below, round-below, round-le}
use Rattle.kn_laws.proofs.Proven.{one_least}

abbrev pub is_among : List ℕ → List (List ℕ) → Bool
is_among name names = list_any (bytes_eq name) names

pub bytes_eq-both : (x y : List ℕ) → bytes_eq x y ≡ true → bytes_eq y x ≡ true
bytes_eq-both x y same = (bytes_eq-Decides y x).1 (sym ((bytes_eq-Decides x y).0 same))

-- who is among names is among them each once
among-each_once : (name : List ℕ) (names : List (List ℕ)) → is_among name names ≡ true
    → is_among name (each_once names) ≡ true
among-each_once name [] h = h
among-each_once name (first ∷ names) h =
    by (is_among first names) refl (or_cases (bytes_eq name first) (is_among name names) h) (among-each_once name names)
  where
    by : (t : Bool) → is_among first names ≡ t → (bytes_eq name first ≡ true) ⊎ (is_among name names ≡ true)
        → (is_among name names ≡ true → is_among name (each_once names) ≡ true)
        → is_among name (cond t (each_once names) (first ∷ each_once names)) ≡ true
    by true is (inl same) rest = rest (ap (λ n. is_among n names) ((bytes_eq-Decides name first).0 same) ∙ is)
    by true is (inr later) rest = rest later
    by false is (inl same) rest = ap (λ t. t || is_among name (each_once names)) same
    by false is (inr later) rest = or_right (bytes_eq name first) (is_among name (each_once names)) (rest later)

pub among-left : (name : List ℕ) (xs ys : List (List ℕ)) → is_among name xs ≡ true → is_among name (xs ++ ys) ≡ true
among-left name xs ys h = list_any-append (bytes_eq name) xs ys ∙ ap (λ t. t || is_among name ys) h

pub among-right : (name : List ℕ) (xs ys : List (List ℕ)) → is_among name ys ≡ true → is_among name (xs ++ ys) ≡ true
among-right name xs ys h = list_any-append (bytes_eq name) xs ys ∙ or_right (is_among name xs) (is_among name ys) h

-- who has an assertion that is worth something occurs
highest_worth-occurs : (top : ℕ) (at : Levels) (name : List ℕ) (ss : List Statement) → 0 < highest_worth top at name ss
    → is_among name (flat_map statement_names ss) ≡ true
highest_worth-occurs top at name [] h = absurd (omega arith)
highest_worth-occurs top at name (s ∷ ss) h =
    by (bytes_eq s.authorizer name) refl h (highest_worth-occurs top at name ss)
  where
    by : (t : Bool) → bytes_eq s.authorizer name ≡ t
        → 0 < max (cond t (worth top at s) 0) (highest_worth top at name ss)
        → (0 < highest_worth top at name ss → is_among name (flat_map statement_names ss) ≡ true)
        → is_among name (statement_names s ++ flat_map statement_names ss) ≡ true
    by true is l rest = ap (λ t. t || is_among name (licensees_names s.licensees ++ flat_map statement_names ss))
        (bytes_eq-both s.authorizer name is)
    by false is l rest = among-right name (statement_names s) (flat_map statement_names ss) (rest (omega arith))

-- who has a level after a round occurs
round-occurs : (e : Equations) (at : Levels) (name : List ℕ) → 0 < round e at name → is_among name (occurring e) ≡ true
round-occurs e at name h = by (is_requester e name) refl h
  where
    behind : is_among name (e.requesters ++ flat_map statement_names e.statements) ≡ true
        → is_among name (occurring e) ≡ true
    behind = or_right (bytes_eq name policy) (is_among name (e.requesters ++ flat_map statement_names e.statements))

    by : (t : Bool) → is_requester e name ≡ t → 0 < cond t e.top (highest_worth e.top at name e.statements)
        → is_among name (occurring e) ≡ true
    by true is l = behind (among-left name e.requesters (flat_map statement_names e.statements) is)
    by false is l = behind
        (among-right name e.requesters (flat_map statement_names e.statements)
        (highest_worth-occurs e.top at name e.statements l))

-- the sum of the levels of these
abbrev total : Levels → List (List ℕ) → ℕ
total at [] = 0
total at (name ∷ names) = at name + total at names

total-below : (at other : Levels) → Below at other → (names : List (List ℕ)) → total at names ≤ total other names
total-below at other b [] = omega arith
total-below at other b (name ∷ names) = let le = b name in let rest = total-below at other b names in omega arith

-- levels in order are equal for these names, or their sum is less
equal_or_less : (at other : Levels) → Below at other → (names : List (List ℕ))
    → ((name : List ℕ) → is_among name names ≡ true → at name ≡ other name) ⊎ (total at names < total other names)
equal_or_less at other b [] = inl (λ name among. absurd (cc))
equal_or_less at other b (first ∷ names) = by (equal_or_less at other b names) (cases_lt (at first) (other first))
  where
    here : at first ≡ other first → ((name : List ℕ) → is_among name names ≡ true → at name ≡ other name)
        → (name : List ℕ) → (bytes_eq name first ≡ true) ⊎ (is_among name names ≡ true) → at name ≡ other name
    here same rest name (inl is) = let is_first = (bytes_eq-Decides name first).0 is in ap at is_first ∙ same
        ∙ ap other (sym is_first)
    here same rest name (inr later) = rest name later

    by : ((name : List ℕ) → is_among name names ≡ true → at name ≡ other name) ⊎ (total at names < total other names)
        → (at first < other first) ⊎ (other first ≤ at first)
        → ((name : List ℕ) → is_among name (first ∷ names) ≡ true → at name ≡ other name)
        ⊎ (total at (first ∷ names) < total other (first ∷ names))
    by (inl same) (inr no_lower) = let le = b first in
        inl (λ name among. here (omega arith) same name (or_cases (bytes_eq name first) (is_among name names) among))
    by (inl same) (inl lower) = let le = total-below at other b names in inr (omega arith)
    by (inr less) order = let le = b first in inr (omega arith)

-- the sum of levels at or below the top
total-le : (top : ℕ) (at : Levels) → ((name : List ℕ) → at name ≤ top) → (names : List (List ℕ))
    → total at names ≤ length names * top
total-le top at low [] = omega arith
total-le top at low (name ∷ names) =
    let first = low name in
    let rest = total-le top at low names in
    omega arith

-- all levels are these
abbrev pub Same : Levels → Levels → Type 0
Same at other = (name : List ℕ) → at name ≡ other name

Below-both : (at other : Levels) → Below at other → Below other at → Same at other
Below-both at other below above name = let le = below name in let ge = above name in omega arith

-- the same levels are the same after a round
pub round-same : (e : Equations) (at other : Levels) → Same at other → Same (round e at) (round e other)
round-same e at other same =
    Below-both (round e at) (round e other)
    (round-below e at other (λ name. let is = same name in omega arith))
    (round-below e other at (λ name. let is = same name in omega arith))

-- levels that a round leaves stay after rounds
rounds-fixed : (e : Equations) (n : ℕ) (at : Levels) → Same (round e at) at → Same (rounds e n at) at
rounds-fixed e zero at fixed name = refl
rounds-fixed e (suc n) at fixed name = rounds-fixed e n (round e at) (round-same e (round e at) at fixed) name
    ∙ fixed name

-- names among which is each principal that has a level after a round
abbrev pub Covers : Equations → List (List ℕ) → Type 0
Covers e names = (at : Levels) (name : List ℕ) → 0 < round e at name → is_among name names ≡ true

module _ (e : Equations) (names : List (List ℕ)) (covers : Covers e names) where
  -- a round changes nothing, or the sum rises
  turn : (at : Levels) → Below at (round e at) → Same at (round e at) ⊎ (total at names < total (round e at) names)
  turn at b = by (equal_or_less at (round e at) b names)
    where
      same_at : ((name : List ℕ) → is_among name names ≡ true → at name ≡ round e at name) → (name : List ℕ)
          → at name ≡ round e at name
      same_at same name =
          let le = b name in
          elim (cases_lt 0 (round e at name)) [
            | inl some ↦ same name (covers at name some)
            | inr none ↦ omega arith
          ]

      by : ((name : List ℕ) → is_among name names ≡ true → at name ≡ round e at name)
          ⊎ (total at names < total (round e at) names) → Same at (round e at)
          ⊎ (total at names < total (round e at) names)
      by (inl same) = inl (same_at same)
      by (inr less) = inr less

  -- after n rounds that begin with a rise the levels stay, or the sum has risen by more than n
  stays_or_rises : (n : ℕ) (at : Levels) → Below at (round e at)
      → Same (round e (rounds e n at)) (rounds e n at) ⊎ (n + total at names < total (round e (rounds e n at)) names)
  stays_or_rises zero at b =
      elim (turn at b) [
        | inl same ↦ inl (λ name. sym (same name))
        | inr less ↦ inr (omega arith)
      ]
  stays_or_rises (suc n) at b =
      let after : Levels = round e at in
      let later = stays_or_rises n after (round-below e at after b) in
      elim (turn at b) [
        | inl same ↦
            let fixed : Same (round e after) after = round-same e after at (λ name. sym (same name)) in
            let all : Same (rounds e n after) after = rounds-fixed e n after fixed in
            inl (λ name. round-same e (rounds e n after) after all name ∙ fixed name ∙ sym (all name))
        | inr less ↦ elim later [ inl stays ↦ inl stays | inr rises ↦ inr (omega arith) ]
      ]

rounds-le : (e : Equations) (n : ℕ) (at : Levels) → ((name : List ℕ) → at name ≤ e.top) → (name : List ℕ)
    → rounds e n at name ≤ e.top
rounds-le e zero at low = low
rounds-le e (suc n) at low = rounds-le e n (round e at) (round-le e at low)

-- the levels at first are at or below those after any round
at_first-below : (e : Equations) (at : Levels) → Below (at_first e) (round e at)
at_first-below e at name = by (is_requester e name)
  where
    by : (t : Bool) → cond t e.top 0 ≤ cond t e.top (highest_worth e.top at name e.statements)
    by true = omega arith
    by false = omega arith

at_first-le : (e : Equations) (name : List ℕ) → at_first e name ≤ e.top
at_first-le e name = by (is_requester e name)
  where
    by : (t : Bool) → cond t e.top 0 ≤ e.top
    by true = omega arith
    by false = omega arith

-- as many rounds as names that cover all levels, times the top, end where a round changes nothing
rounds-solve : (e : Equations) (names : List (List ℕ)) → Covers e names
    → Same (round e (rounds e (length names * e.top) (at_first e))) (rounds e (length names * e.top) (at_first e))
rounds-solve e names covers =
    let n : ℕ = length names * e.top in
    let at : Levels = rounds e n (at_first e) in
    let most : total (round e at) names ≤ n =
    total-le e.top (round e at) (round-le e at (rounds-le e n (at_first e) (at_first-le e))) names in
    elim (stays_or_rises e names covers n (at_first e) (at_first-below e (at_first e))) [
      | inl stays ↦ stays
      | inr rises ↦ absurd (omega arith)
    ]

-- rounds from below levels that no round raises stay below them
rounds-below : (e : Equations) (n : ℕ) (at other : Levels) → Below at other → Below (round e other) other
    → Below (rounds e n at) other
rounds-below e zero at other b raised = b
rounds-below e (suc n) at other b raised =
    rounds-below e n (round e at) other (λ name. let turned = round-below e at other b name in let le = raised name in
    omega arith) raised

pub rounds-are_least : (e : Equations) (names : List (List ℕ)) → Covers e names
    → IsLeast e (rounds e (length names * e.top) (at_first e))
rounds-are_least e names covers = record {
  solves = rounds-solve e names covers;
  least = λ other raised. rounds-below e (length names * e.top) (at_first e) other (λ name. let first =
      at_first-below e other name in let le = raised name in omega arith) raised;
}

pub least_levels-is_least : (e : Equations) → IsLeast e (least_levels e)
least_levels-is_least e =
    rounds-are_least e (principals e) (λ at name some. among-each_once name (occurring e) (round-occurs e at name some))

pub has_level : (e : Equations) → (level : ℕ) × IsPolicyLevel e level
has_level e = (least_levels e policy, record { levels = least_levels e; least = least_levels-is_least e; here = refl })

pub has_one_level : (e : Equations) (level other : ℕ) → IsPolicyLevel e level → IsPolicyLevel e other → level ≡ other
has_one_level e level other is others = sym is.here ∙ one_least e is.levels others.levels is.least others.least policy
    ∙ others.here

pub least-within : (e : Equations) (at : Levels) → IsLeast e at → (name : List ℕ) → at name ≤ e.top
least-within e at is = is.least (λ name. e.top) (round-le e (λ name. e.top) (λ name. omega arith))
