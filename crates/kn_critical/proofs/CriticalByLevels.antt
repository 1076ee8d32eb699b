-- Whether assertions are critical, by the levels with them and without them.
use Rattle.std.proofs.Common.{◌≡◌, ℕ, zero, suc, ◌<◌, ◌≤◌, ◌+◌, Bool, true, false, nat_eq, List, Some, length, map}
use Rattle.std.proofs.Common.{refl, sym, ap, ◌∙◌, subst, arith}
use Rattle.std.proofs.lemmas.Bool.{eqb-true}
use Rattle.kn_env.specs.Environment.{Asked}
use Rattle.kn_proof.specs.declared.named.Id.{Id}
use Rattle.kn_proof.specs.declared.named.NamedRow.{NamedRow}
use Rattle.kn_meaning.specs.Critical.{IsCritical, is_row_by}
use Rattle.kn_meaning.specs.Equations.{Part, equations_over, IsPolicyLevel}
use Rattle.kn_meaning.specs.Proofs.{IsProof}
use Rattle.kn_rows.specs.Numbering.{AreDistinct}
use Rattle.kn_answer.specs.Removed.{live_parts}
use Rattle.kn_laws.specs.Laws.{EveryQueryHasOneLevel, UnnamedIsNotCritical}
use Rattle.kn_critical.specs.Searching.{AreUncritical, DecidesCritical, HasRow, IsLevelWithoutRun, IsRowCritical}
use Rattle.kn_critical.specs.Searching.{IsRowNamed, flags_without}
use Rattle.kn_critical.proofs.Flags.{alone-out}
use Rattle.kn_critical.proofs.LevelsWithout.{fewer-never_raise, run-below}
use Rattle.kn_critical.proofs.Rows.{live-without, row-has}

-- one row has one id
pub one-id : (parts : List Part) (row : ℕ) (a b : Id) → HasRow parts a row → HasRow parts b row → a ≡ b
one-id parts row a b has here =
    let both : Some a ≡ Some b = sym has ∙ here in
    cc

module _ (asked : Asked) (parts : List Part) (row : ℕ) where
  -- an assertion that isn't critical is told so
  pub decides-none : (own : Id) → HasRow parts own row → (IsCritical asked parts own → ⊥)
      → DecidesCritical asked parts row false
  decides-none own has none id here = (
    λ e. absurd (cc),
    λ critical. absurd (none (subst (IsCritical asked parts) (one-id parts row id own here has) critical)),
  )

  pub row-critical : (id : Id) → HasRow parts id row → IsCritical asked parts id → IsRowCritical asked parts row
  row-critical id has critical other here = subst (IsCritical asked parts) (one-id parts row id other has here) critical

module _ (asked : Asked) (parts : List Part) (rows : List NamedRow) (level : ℕ)
    (least : IsPolicyLevel (equations_over asked parts) level)
    (distinct : AreDistinct (map (λ (p : Part). p.id) parts)) where
  -- one that a proof names and without which the level is lower is critical
  pub alone-critical : (row lower : ℕ) → IsRowNamed rows parts row
      → IsLevelWithoutRun asked rows parts row (suc row) lower → lower < level
      → IsRowCritical asked parts row
  alone-critical row lower named without below id here = record {
    level = level;
    lower = lower;
    least = least;
    least_without = subst (λ ps. IsPolicyLevel (equations_over asked ps) lower)
        (ap (live_parts parts) (alone-out rows parts row id here (named id here))
        ∙ live-without parts row id distinct here) without;
    lowers = below;
  }

  module _ (one : EveryQueryHasOneLevel) (unnamed : UnnamedIsNotCritical)
      (proof : IsProof (equations_over asked parts) rows level) where
    -- where the level stays without a run, it stays without each one of it
    not-lower : (start end row lower : ℕ) (id : Id) → IsLevelWithoutRun asked rows parts start end lower → level ≤ lower
        → start ≤ row → row < end
        → HasRow parts id row → is_row_by rows id ≡ true → IsCritical asked parts id → ⊥
    not-lower start end row lower id without stays from to here is c =
        let alone = subst (λ ps. IsPolicyLevel (equations_over asked ps) c.lower)
        (sym (live-without parts row id distinct here)) c.least_without in
        let above : lower ≤ c.lower =
        fewer-never_raise asked parts (flags_without rows parts start end) _
        (run-below rows parts start end row id from to here is) c.lower lower alone without in
        let same : level ≡ c.level = one (equations_over asked parts) level c.level least c.least in
        let lowers = c.lowers in
        absurd (omega (arith, above, same, lowers, stays))

    -- so none of a run is critical
    pub run-uncritical : (start end lower : ℕ) → end ≤ length parts → IsLevelWithoutRun asked rows parts start end lower
        → level ≤ lower
        → AreUncritical asked parts start end
    run-uncritical start end lower within without stays row from to critical = by (is_row_by rows own.0) refl
      where
        own : (id : Id) × HasRow parts id row
        own = row-has parts row (omega (arith, within, to))

        by : (b : Bool) → is_row_by rows own.0 ≡ b → ⊥
        by true is = not-lower start end row lower own.0 without stays from to own.1 is (critical own.0 own.1)
        by false is = unnamed asked parts own.0 rows level proof is (critical own.0 own.1)

-- a row that was cleared with others isn't critical
pub decides-cleared : (asked : Asked) (parts : List Part) (start end row : ℕ) → start ≤ row → row < end
    → AreUncritical asked parts start end
    → DecidesCritical asked parts row false
decides-cleared asked parts start end row from to cleared id here =
    decides-none asked parts row id here
    (λ critical. cleared row from to (row-critical asked parts row id here critical)) id here

-- the rows behind one of these
pub later-uncritical : (asked : Asked) (parts : List Part) (start end : ℕ) → AreUncritical asked parts start end
    → AreUncritical asked parts (start + 1) end
later-uncritical asked parts start end cleared row from to = cleared row (omega (arith, from)) to

-- how many rows were cleared tells whether the first is critical
pub decides-tried : (asked : Asked) (parts : List Part) (row count : ℕ) → AreUncritical asked parts row (row + count)
    → (count ≡ 0 → IsRowCritical asked parts row) → DecidesCritical asked parts row (nat_eq count 0)
decides-tried asked parts row zero cleared critical id here = (λ e. critical refl id here, λ c. refl)
decides-tried asked parts row (suc count) cleared critical id here = (
  λ e. let none : suc count ≡ 0 = eqb-true (suc count) 0 e in absurd (omega (arith, none)),
  λ c. absurd (cleared row (omega arith) (omega arith) (row-critical asked parts row id here c)),
)
