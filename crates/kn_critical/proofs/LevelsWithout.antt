-- Where more assertions are taken out, the policy's level is no higher.
use Rattle.std.proofs.Common.{◌≡◌, ℕ, zero, suc, ◌<◌, ◌≤◌, Bool, true, false, cond, not, List, [], ◌∷◌, length, map}
use Rattle.std.proofs.Common.{max, replicate, slice_set, refl, sym, ap, ◌∙◌, subst, arith, le_refl}
use Rattle.std.specs.Str.{bytes_eq}
use Rattle.kn_env.specs.Environment.{Asked}
use Rattle.kn_principal.specs.Principals.{policy}
use Rattle.kn_proof.specs.declared.named.Id.{Id}
use Rattle.kn_proof.specs.declared.named.NamedRow.{NamedRow}
use Rattle.kn_meaning.specs.Formulas.{Levels}
use Rattle.kn_meaning.specs.Critical.{is_row_by}
use Rattle.kn_meaning.specs.Equations.{Part, statement_of, equations_over, worth, highest_worth, is_requester, round}
use Rattle.kn_meaning.specs.Equations.{IsLeast, IsPolicyLevel}
use Rattle.kn_answer.specs.Removed.{live_parts}
use Rattle.kn_critical.specs.Searching.{HasRow, flags_without}

-- each flag that is set among the first is set among the others
abbrev pub AreBelow : List Bool → List Bool → Type 0
AreBelow [] more = Unit {0}
AreBelow (f ∷ fewer) [] = ⊥
AreBelow (f ∷ fewer) (m ∷ more) = (f ≡ true → m ≡ true) × AreBelow fewer more

max-more : (a b c : ℕ) → b ≤ c → max a b ≤ max a c
max-more a b c l = omega (arith, l)

max-other : (a b c : ℕ) → b ≤ c → b ≤ max a c
max-other a b c l = omega (arith, l)

module _ (asked : Asked) (top : ℕ) (at : Levels) (name : List ℕ) where
  abbrev highest : List Part → ℕ
  highest parts = highest_worth top at name (map (statement_of asked) parts)

  abbrev own : Part → ℕ
  own part = cond (bytes_eq (statement_of asked part).authorizer name) (worth top at (statement_of asked part)) 0

  highest-fewer : (parts : List Part) (fewer more : List Bool) → AreBelow fewer more
      → highest (live_parts parts fewer) ≤ highest (live_parts parts more)
  highest-fewer [] fewer more below = omega arith
  highest-fewer (part ∷ parts) [] more below = omega arith
  highest-fewer (part ∷ parts) (f ∷ fewer) [] below = absurd below
  highest-fewer (part ∷ parts) (f ∷ fewer) (m ∷ more) below = by f m below.0 (highest-fewer parts fewer more below.1)
    where
      by : (f m : Bool) → (f ≡ true → m ≡ true) → highest (live_parts parts fewer) ≤ highest (live_parts parts more)
          → highest (cond f (part ∷ live_parts parts fewer) (live_parts parts fewer))
          ≤ highest (cond m (part ∷ live_parts parts more) (live_parts parts more))
      by true true set rest =
          max-more (own part) (highest (live_parts parts fewer)) (highest (live_parts parts more)) rest
      by true false set rest = let both : false ≡ true = set refl in absurd (cc)
      by false true set rest = max-other (own part) (highest (live_parts parts fewer)) (highest (live_parts parts more))
          rest
      by false false set rest = rest

  round-fewer : (b : Bool) (parts : List Part) (fewer more : List Bool) → AreBelow fewer more
      → cond b top (highest (live_parts parts fewer)) ≤ cond b top (highest (live_parts parts more))
  round-fewer true parts fewer more below = le_refl top
  round-fewer false parts fewer more below = highest-fewer parts fewer more below

module _ (asked : Asked) (parts : List Part) (fewer more : List Bool) (below : AreBelow fewer more) where
  fewer-lower_all : (at lower : Levels) → IsLeast (equations_over asked (live_parts parts more)) at
      → IsLeast (equations_over asked (live_parts parts fewer)) lower → (name : List ℕ) → lower name ≤ at name
  fewer-lower_all at lower all some name = some.least at raised name
    where
      raised : (other : List ℕ) → round (equations_over asked (live_parts parts fewer)) at other ≤ at other
      raised other =
          subst (λ n. round (equations_over asked (live_parts parts fewer)) at other ≤ n) (all.solves other)
          (round-fewer asked (equations_over asked parts).top at other (is_requester (equations_over asked parts) other)
          parts fewer more below)

  pub fewer-never_raise : (level lower : ℕ) → IsPolicyLevel (equations_over asked (live_parts parts more)) level
      → IsPolicyLevel (equations_over asked (live_parts parts fewer)) lower → lower ≤ level
  fewer-never_raise level lower all some =
      let below = fewer-lower_all all.levels some.levels all.least some.least policy in
      let here = all.here in
      let there = some.here in
      omega (arith, below, here, there)

module _ (rows : List NamedRow) where
  all-below : (parts : List Part) (start end : ℕ)
      → AreBelow (flags_without rows parts start end) (replicate (length parts) true)
  all-below [] start end = tt
  all-below (p ∷ parts) zero zero = (λ set. refl, all-below parts zero zero)
  all-below (p ∷ parts) zero (suc end) = (λ set. refl, all-below parts zero end)
  all-below (p ∷ parts) (suc start) zero = (λ set. refl, all-below parts start zero)
  all-below (p ∷ parts) (suc start) (suc end) = (λ set. refl, all-below parts start end)

  -- a run is no more than without one of its assertions that a proof names
  pub run-below : (parts : List Part) (start end row : ℕ) (id : Id) → start ≤ row → row < end → HasRow parts id row
      → is_row_by rows id ≡ true
      → AreBelow (flags_without rows parts start end) (slice_set (replicate (length parts) true) row false)
  run-below [] start end row id from to here is = absurd (cc)
  run-below (p ∷ parts) zero zero row id from to here is = absurd (omega (arith, to))
  run-below (p ∷ parts) zero (suc end) zero id from to here is =
      let same : id ≡ p.id = cc in
      let out : not (is_row_by rows p.id) ≡ false = ap (λ i. not (is_row_by rows i)) (sym same) ∙ ap not is in
      (λ set. sym out ∙ set, all-below parts zero end)
  run-below (p ∷ parts) zero (suc end) (suc row) id from to here is =
      (λ set. refl, run-below parts zero end row id (omega arith) (omega (arith, to)) here is)
  run-below (p ∷ parts) (suc start) zero row id from to here is = absurd (omega (arith, to))
  run-below (p ∷ parts) (suc start) (suc end) zero id from to here is = absurd (omega (arith, from))
  run-below (p ∷ parts) (suc start) (suc end) (suc row) id from to here is =
      (λ set. refl, run-below parts start end row id (omega (arith, from)) (omega (arith, to)) here is)
