-- An assertion that no row of a proof names isn't critical, and which ones are is one list.
use Rattle.std.proofs.Common.{◌≡◌, ◌⊎◌, ℕ, suc, zero, ◌<◌, ◌≤◌, Bool, true, false, cond, not, ◌||◌, List, [], ◌∷◌, ◌++◌}
use Rattle.std.proofs.Common.{map, filter, All, Any, inl, inr, refl, sym, ap, ◌∙◌, subst, arith}
use Rattle.std.specs.List.{list_any, AllByRecursion}
use Rattle.std.proofs.lemmas.Bool.{or_parts}
use Rattle.std.proofs.lemmas.List.Elements.{All-from_recursion, recursion_from_All}
use Rattle.kn_env.specs.Environment.{Asked}
use Rattle.kn_proof.specs.declared.named.Id.{Id}
use Rattle.kn_proof.specs.declared.named.NamedRow.{NamedRow}
use Rattle.kn_meaning.specs.Formulas.{Levels}
use Rattle.kn_meaning.specs.Equations.{Part, Statement, Equations, statement_of, equations_over, worth}
use Rattle.kn_meaning.specs.Proofs.{levels_by, Supports, IsRow, AreRows, IsProof}
use Rattle.kn_meaning.specs.Critical.{is_same_id, without_part, is_row_by, IsCritical, AreCritical}
use Rattle.kn_laws.proofs.Proven.{proof-determines}

-- what supports a row of another id stays
any-kept : (asked : Asked) (id : Id) (row : NamedRow) (P Q : Statement → Type 0) → is_same_id row.id id ≡ false
    → ((s : Statement) → P s → s.id ≡ row.id) → ((s : Statement) → P s → Q s)
    → (parts : List Part) → Any P (map (statement_of asked) parts)
    → Any Q (map (statement_of asked) (without_part id parts))
any-kept asked id row P Q other named same [] (k, x, within, is, ok) = absurd (omega arith)
any-kept asked id row P Q other named same (p ∷ parts) (zero, x, within, is, ok) =
    let kept : is_same_id p.id id ≡ false = ap (λ (i : Id). is_same_id i id) (ap (λ (s : Statement). s.id) is
    ∙ named x ok) ∙ other in
    subst (λ t. Any Q (map (statement_of asked) (cond (not t) (p ∷ without_part id parts) (without_part id parts))))
    (sym kept) (0, x, omega arith, is, same x ok)
any-kept asked id row P Q other named same (p ∷ parts) (suc k, x, within, is, ok) =
    by (is_same_id p.id id) (any-kept asked id row P Q other named same parts (k, x, omega arith, is, ok))
  where
    by : (t : Bool) → Any Q (map (statement_of asked) (without_part id parts))
        → Any Q (map (statement_of asked) (cond (not t) (p ∷ without_part id parts) (without_part id parts)))
    by true rest = rest
    by false (k, x, within, is, ok) = (suc k, x, omega arith, is, ok)

all-kept : (asked : Asked) (id : Id) (P : Statement → Type 0) (parts : List Part)
    → AllByRecursion P (map (statement_of asked) parts)
    → AllByRecursion P (map (statement_of asked) (without_part id parts))
all-kept asked id P [] h = tt
all-kept asked id P (p ∷ parts) h = by (is_same_id p.id id) (all-kept asked id P parts h.1)
  where
    by : (t : Bool) → AllByRecursion P (map (statement_of asked) (without_part id parts))
        → AllByRecursion P (map (statement_of asked) (cond (not t) (p ∷ without_part id parts) (without_part id parts)))
    by true rest = rest
    by false rest = (h.0, rest)

module _ (asked : Asked) (id : Id) (parts : List Part) where
  abbrev whole : Equations
  whole = equations_over asked parts

  abbrev fewer : Equations
  fewer = equations_over asked (without_part id parts)

  row-kept : (before : List NamedRow) (row : NamedRow) → is_same_id row.id id ≡ false → IsRow whole before row
      → IsRow fewer before row
  row-kept before row other r =
      record {
        other = r.other;
        fresh = r.fresh;
        above_lowest = r.above_lowest;
        within = r.within;
        supported =
            any-kept asked id row (Supports whole (levels_by whole before) row)
            (Supports fewer (levels_by fewer before) row) other (λ s p. p.named)
            (λ s p. record { named = p.named; own = p.own; enough = p.enough }) parts r.supported;
      }

  rows-kept : (before rows : List NamedRow) → is_row_by rows id ≡ false → AreRows whole before rows
      → AreRows fewer before rows
  rows-kept before [] none h = tt
  rows-kept before (row ∷ rows) none h =
      let parts_of = or_parts (is_same_id row.id id) (is_row_by rows id) none in
      (row-kept before row parts_of.0 h.0, rows-kept (before ++ row ∷ []) rows parts_of.1 h.1)

  closed-kept : (at : Levels) → All (λ s. worth whole.top at s ≤ at s.authorizer) whole.statements
      → All (λ s. worth whole.top at s ≤ at s.authorizer) fewer.statements
  closed-kept at closed =
      let P : Statement → Type 0 = λ s. worth whole.top at s ≤ at s.authorizer in
      All-from_recursion P fewer.statements (all-kept asked id P parts (recursion_from_All P whole.statements closed))

  pub rows-stay_a_proof : (rows : List NamedRow) (level : ℕ) → IsProof whole rows level → is_row_by rows id ≡ false
      → IsProof fewer rows level
  rows-stay_a_proof rows level p none =
      record {
        in_order = rows-kept [] rows none p.in_order;
        closed = closed-kept (levels_by whole rows) p.closed;
        claim = p.claim;
      }

pub unnamed-is_not_critical : (asked : Asked) (parts : List Part) (id : Id) (rows : List NamedRow) (level : ℕ)
    → IsProof (equations_over asked parts) rows level → is_row_by rows id ≡ false → IsCritical asked parts id → ⊥
unnamed-is_not_critical asked parts id rows level p none c =
    let with_it = (proof-determines (equations_over asked parts) rows level p).claim c.least.levels c.least.least in
    let without_it =
    (proof-determines (equations_over asked (without_part id parts)) rows level
    (rows-stay_a_proof asked id parts rows level p none)).claim c.least_without.levels c.least_without.least in
    let here = c.least.here in
    let there = c.least_without.here in
    let lowers = c.lowers in
    omega (arith, with_it, without_it, here, there, lowers)

pub critical-is_one : (asked : Asked) (all parts : List Part) (ids others : List Id) → AreCritical asked all parts ids
    → AreCritical asked all parts others → ids ≡ others
critical-is_one asked all [] ids others h k = h ∙ sym k
critical-is_one asked all (p ∷ parts) ids others (rest, more, here) (rest', more', there) =
    by here there (critical-is_one asked all parts rest rest' more more')
  where
    by : ((IsCritical asked all p.id × (ids ≡ p.id ∷ rest)) ⊎ ((IsCritical asked all p.id → ⊥) × (ids ≡ rest)))
        → ((IsCritical asked all p.id × (others ≡ p.id ∷ rest')) ⊎ ((IsCritical asked all p.id → ⊥) × (others ≡ rest')))
        → rest ≡ rest' → ids ≡ others
    by (inl one) (inl two) same = one.1 ∙ ap (λ l. p.id ∷ l) same ∙ sym two.1
    by (inl one) (inr two) same = absurd (two.0 one.0)
    by (inr one) (inl two) same = absurd (one.0 two.0)
    by (inr one) (inr two) same = one.1 ∙ same ∙ sym two.1
