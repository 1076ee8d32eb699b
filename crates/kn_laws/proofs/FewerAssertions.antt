-- Fewer assertions never raise a level.
use Rattle.std.proofs.Common.{ℕ, ◌≤◌, Bool, true, false, cond, List, [], ◌∷◌, map, filter, max, subst, arith, le_refl}
use Rattle.std.specs.Str.{bytes_eq}
use Rattle.kn_env.specs.Environment.{Asked}
use Rattle.kn_principal.specs.Principals.{policy}
use Rattle.kn_meaning.specs.Formulas.{Levels}
use Rattle.kn_meaning.specs.Equations.{Part, statement_of, equations_over, worth, highest_worth, is_requester, round}
use Rattle.kn_meaning.specs.Equations.{IsLeast}
use Rattle.kn_laws.specs.Laws.{FewerLowerAll, FewerNeverRaise}

max-more : (a b c : ℕ) → b ≤ c → max a b ≤ max a c
max-more a b c l = omega (arith, l)

max-other : (a b c : ℕ) → b ≤ c → b ≤ max a c
max-other a b c l = omega (arith, l)

module _ (asked : Asked) (keeps : Part → Bool) (top : ℕ) (at : Levels) (name : List ℕ) where
  abbrev highest : List Part → ℕ
  highest parts = highest_worth top at name (map (statement_of asked) parts)

  abbrev own : Part → ℕ
  own part = cond (bytes_eq (statement_of asked part).authorizer name) (worth top at (statement_of asked part)) 0

  highest-fewer : (parts : List Part) → highest (filter keeps parts) ≤ highest parts
  highest-fewer [] = omega arith
  highest-fewer (part ∷ parts) = by (keeps part) (highest-fewer parts)
    where
      by : (b : Bool) → highest (filter keeps parts) ≤ highest parts
          → highest (cond b (part ∷ filter keeps parts) (filter keeps parts)) ≤ max (own part) (highest parts)
      by true rest = max-more (own part) (highest (filter keeps parts)) (highest parts) rest
      by false rest = max-other (own part) (highest (filter keeps parts)) (highest parts) rest

  round-fewer : (b : Bool) (parts : List Part) → cond b top (highest (filter keeps parts)) ≤ cond b top (highest parts)
  round-fewer true parts = le_refl top
  round-fewer false parts = highest-fewer parts

pub fewer-lower_all : FewerLowerAll
fewer-lower_all asked keeps parts at lower all some name = some.least at raised name
  where
    raised : (other : List ℕ) → round (equations_over asked (filter keeps parts)) at other ≤ at other
    raised other =
        subst (λ n. round (equations_over asked (filter keeps parts)) at other ≤ n) (all.solves other)
        (round-fewer asked keeps (equations_over asked parts).top at other
        (is_requester (equations_over asked parts) other) parts)

pub fewer-never_raise : FewerNeverRaise
fewer-never_raise asked keeps parts level lower all some =
    let below = fewer-lower_all asked keeps parts all.levels some.levels all.least some.least policy in
    let here = all.here in
    let there = some.here in
    omega (arith, below, here, there)
