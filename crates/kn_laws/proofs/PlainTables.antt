-- The rounds of the plain program's table are the rounds of all levels: who is in no entry has none.
use Rattle.std.proofs.Common.{◌≡◌, ℕ, suc, zero, ◌*◌, ◌<◌, Bool, true, false, cond, ◌||◌, List, [], ◌∷◌, ◌++◌, length}
use Rattle.std.proofs.Common.{map, max, inl, inr, refl, sym, ap, ◌∙◌, subst, arith}
use Rattle.std.specs.List.{list_any}
use Rattle.std.specs.Str.{bytes_eq}
use Rattle.std.proofs.lemmas.Bool.{cases_lt, false≢true}
use Rattle.std.proofs.lemmas.List.{length-map}
use Rattle.std.proofs.lemmas.Slice.Eq.{bytes_eq-Decides}
use Rattle.kn_meaning.specs.Formulas.{Levels}
use Rattle.kn_meaning.specs.Equations.{Equations, worth, highest_worth, round, IsLeast}
use Rattle.kn_meaning.specs.Tables.{level_in, statement_in, equations_from, next_levels_of, next_table, entries_of}
use Rattle.kn_meaning.specs.Tables.{authorizers_of, first_table, table_after, last_table}
use Rattle.kn_meaning.specs.declared.plain.Level.{Level}
use Rattle.kn_meaning.specs.declared.plain.Stated.{Stated}
use Rattle.kn_laws.specs.Least.{at_first, rounds}
use Rattle.kn_laws.proofs.Settles.{is_among, bytes_eq-both, among-left, among-right, Same, round-same, Covers}
use Rattle.kn_laws.proofs.Settles.{rounds-are_least}

-- the names of a table's entries
abbrev names_in : List Level → List (List ℕ)
names_in table = map (λ entry. entry.name) table

next-names : (e : Equations) (table entries : List Level) → names_in (next_levels_of e table entries) ≡ names_in entries
next-names e table [] = refl
next-names e table (entry ∷ entries) = ap (λ names. entry.name ∷ names) (next-names e table entries)

after-names : (e : Equations) (first : List Level) (n : ℕ) → names_in (table_after e first n) ≡ names_in first
after-names e first zero = refl
after-names e first (suc n) = next-names e (table_after e first n) (table_after e first n) ∙ after-names e first n

first-names : (top : ℕ) (requesters : List (List ℕ)) (rest : List Level)
    → names_in (entries_of top requesters ++ rest) ≡ requesters ++ names_in rest
first-names top [] rest = refl
first-names top (requester ∷ requesters) rest = ap (λ names. requester ∷ names) (first-names top requesters rest)

bytes_eq-flip : (x y : List ℕ) → bytes_eq x y ≡ bytes_eq y x
bytes_eq-flip x y = by (bytes_eq x y) refl (bytes_eq y x) refl
  where
    by : (a : Bool) → bytes_eq x y ≡ a → (b : Bool) → bytes_eq y x ≡ b → a ≡ b
    by true x_y true y_x = refl
    by false x_y false y_x = refl
    by true x_y false y_x = absurd (false≢true (sym y_x ∙ bytes_eq-both x y x_y))
    by false x_y true y_x = absurd (false≢true (sym x_y ∙ bytes_eq-both y x y_x))

-- a table of the next round tells the round's level of each name that it has, and 0 of others
next-tells : (e : Equations) (table entries : List Level) (name : List ℕ)
    → level_in (next_levels_of e table entries) name
    ≡ cond (is_among name (names_in entries)) (round e (level_in table) name) 0
next-tells e table [] name = refl
next-tells e table (entry ∷ entries) name =
    ap (λ same. cond same (round e (level_in table) entry.name) (level_in (next_levels_of e table entries) name))
    (bytes_eq-flip entry.name name)
    ∙ by (bytes_eq name entry.name) refl (next-tells e table entries name)
  where
    by : (same : Bool) → bytes_eq name entry.name ≡ same
        → level_in (next_levels_of e table entries) name
        ≡ cond (is_among name (names_in entries)) (round e (level_in table) name) 0
        → cond same (round e (level_in table) entry.name) (level_in (next_levels_of e table entries) name)
        ≡ cond (same || is_among name (names_in entries)) (round e (level_in table) name) 0
    by true is rest = ap (round e (level_in table)) (sym ((bytes_eq-Decides name entry.name).0 is))
    by false is rest = rest

-- and so of each name, where it has all that may have a level
next-is_round : (e : Equations) (table : List Level) → Covers e (names_in table)
    → Same (level_in (next_table e table)) (round e (level_in table))
next-is_round e table covers name = next-tells e table table name ∙ by (is_among name (names_in table)) refl
  where
    by : (among : Bool) → is_among name (names_in table) ≡ among
        → cond among (round e (level_in table) name) 0 ≡ round e (level_in table) name
    by true is = refl
    by false is =
        elim (cases_lt 0 (round e (level_in table) name)) [
          | inl some ↦ absurd (false≢true (sym is ∙ covers (level_in table) name some))
          | inr none ↦ omega arith
        ]

-- a round more behind rounds
round-last : (e : Equations) (n : ℕ) (at : Levels) → rounds e (suc n) at ≡ round e (rounds e n at)
round-last e zero at = refl
round-last e (suc n) at = round-last e n (round e at)

after-rounds : (e : Equations) (first : List Level) → Covers e (names_in first) → (n : ℕ)
    → Same (level_in (table_after e first n)) (rounds e n (level_in first))
after-rounds e first covers zero name = refl
after-rounds e first covers (suc n) name =
    next-is_round e (table_after e first n) (subst (Covers e) (sym (after-names e first n)) covers) name
    ∙ round-same e (level_in (table_after e first n)) (rounds e n (level_in first)) (after-rounds e first covers n) name
    ∙ sym (ap (λ (at : Levels). at name) (round-last e n (level_in first)))

rounds-same : (e : Equations) (n : ℕ) (at other : Levels) → Same at other → Same (rounds e n at) (rounds e n other)
rounds-same e zero at other same = same
rounds-same e (suc n) at other same = rounds-same e n (round e at) (round e other) (round-same e at other same)

-- the first table tells the levels at first
no_level : (stated : List Stated) (name : List ℕ) → level_in (authorizers_of stated) name ≡ 0
no_level [] name = refl
no_level (s ∷ stated) name = by (bytes_eq s.authorizer name) (no_level stated name)
  where
    by : (same : Bool) → level_in (authorizers_of stated) name ≡ 0
        → cond same 0 (level_in (authorizers_of stated) name) ≡ 0
    by true rest = refl
    by false rest = rest

first-tells : (top : ℕ) (requesters : List (List ℕ)) (stated : List Stated) (name : List ℕ)
    → level_in (entries_of top requesters ++ authorizers_of stated) name
    ≡ cond (list_any (bytes_eq name) requesters) top 0
first-tells top [] stated name = no_level stated name
first-tells top (requester ∷ requesters) stated name =
    ap (λ same. cond same top (level_in (entries_of top requesters ++ authorizers_of stated) name))
    (bytes_eq-flip requester name)
    ∙ by (bytes_eq name requester) (first-tells top requesters stated name)
  where
    by : (same : Bool) → level_in (entries_of top requesters ++ authorizers_of stated) name
        ≡ cond (list_any (bytes_eq name) requesters) top 0
        → cond same top (level_in (entries_of top requesters ++ authorizers_of stated) name)
        ≡ cond (same || list_any (bytes_eq name) requesters) top 0
    by true rest = refl
    by false rest = rest

-- who has an assertion that is worth something is among the authorizers
authorized : (top : ℕ) (at : Levels) (name : List ℕ) (stated : List Stated)
    → 0 < highest_worth top at name (map statement_in stated)
    → is_among name (names_in (authorizers_of stated)) ≡ true
authorized top at name [] h = absurd (omega arith)
authorized top at name (s ∷ stated) h =
    ap (λ same. same || is_among name (names_in (authorizers_of stated))) (bytes_eq-flip name s.authorizer)
    ∙ by (bytes_eq s.authorizer name) h (authorized top at name stated)
  where
    by : (same : Bool)
        → 0 < max (cond same (worth top at (statement_in s)) 0) (highest_worth top at name (map statement_in stated))
        → (0 < highest_worth top at name (map statement_in stated)
        → is_among name (names_in (authorizers_of stated)) ≡ true)
        → (same || is_among name (names_in (authorizers_of stated))) ≡ true
    by true some rest = refl
    by false some rest = rest (omega arith)

-- levels that are the same as least ones are least
same-is_least : (e : Equations) (at other : Levels) → Same other at → IsLeast e at → IsLeast e other
same-is_least e at other same is = record {
  solves = λ name. round-same e other at same name ∙ is.solves name ∙ sym (same name);
  least = λ above raised name. let told = same name in let le = is.least above raised name in omega arith;
}

module _ (top : ℕ) (requesters : List (List ℕ)) (stated : List Stated) where
  abbrev e : Equations
  e = equations_from top requesters stated

  abbrev first : List Level
  first = first_table top requesters stated

  -- the first table has all that may have a level
  covered : Covers e (names_in first)
  covered at name some =
      ap (is_among name) (first-names top requesters (authorizers_of stated))
      ∙ by (list_any (bytes_eq name) requesters) refl some
    where
      by : (t : Bool) → list_any (bytes_eq name) requesters ≡ t
          → 0 < cond t top (highest_worth top at name (map statement_in stated))
          → is_among name (requesters ++ names_in (authorizers_of stated)) ≡ true
      by true is l = among-left name requesters (names_in (authorizers_of stated)) is
      by false is l = among-right name requesters (names_in (authorizers_of stated)) (authorized top at name stated l)

  table_tells : Same (level_in (last_table top requesters stated))
      (rounds e (length (names_in first) * top) (at_first e))
  table_tells name =
      let count : length (names_in first) ≡ length first = simp length-map in
      after-rounds e first covered (length first * top) name
      ∙ rounds-same e (length first * top) (level_in first) (at_first e) (first-tells top requesters stated) name
      ∙ ap (λ n. rounds e (n * top) (at_first e) name) (sym count)

  pub table-is_least : IsLeast e (level_in (last_table top requesters stated))
  table-is_least =
      same-is_least e (rounds e (length (names_in first) * top) (at_first e))
      (level_in (last_table top requesters stated)) table_tells
      (rounds-are_least e (names_in first) covered)
