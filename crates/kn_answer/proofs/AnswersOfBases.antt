-- A query that is answered from a base: the base is its system, and what is found there holds of the assertions that
-- are still there.
use Rattle.std.proofs.Common.{◌≡◌, ℕ, ◌-◌, ◌<◌, ◌≤◌, Bool, false, All, List, length, map, slice_index, sym, ap, ◌∙◌}
use Rattle.std.proofs.Common.{subst, arith}
use Rattle.std.specs.List.{list_any}
use Rattle.std.specs.Str.{bytes_eq}
use Rattle.kn_principal.specs.Principals.{policy}
use Rattle.kn_env.specs.Environment.{Asked}
use Rattle.kn_proof.specs.declared.named.NamedRow.{NamedRow}
use Rattle.kn_proof.specs.declared.row.Row.{Row}
use Rattle.kn_meaning.specs.Equations.{Equations, IsPolicyLevel, Part, Statement, equations_over}
use Rattle.kn_meaning.specs.Proofs as proof
use Rattle.kn_system.specs.Equations.{SystemEquations, IsSystem}
use Rattle.kn_system.specs.Lawful.{IsLeast}
use Rattle.kn_system.specs.Least.{at_first, least_levels}
use Rattle.kn_system.specs.Proofs.{IsProof}
use Rattle.kn_settle.specs.QuerySystem.{query_system, IsOther}
use Rattle.kn_settle.proofs.QuerySystems.{length-capped, length-flags, query_system-system}
use Rattle.kn_rows.specs.Numbering.{IsSystemOf}
use Rattle.kn_rows.specs.BaseRows.{AreNumbersOf, IsBaseOf}
use Rattle.kn_rows.proofs.BaseRows.{length-base}
use Rattle.kn_answer.specs.Built.{Interned}
use Rattle.kn_answer.specs.Located.{AreLocated, AreOfSystem, IsOfSystem}
use Rattle.kn_answer.specs.Removed.{capped_statements, kept_of, live_parts, query_equations}
use Rattle.kn_answer.specs.Based.{ceilings_of}
use Rattle.kn_answer.proofs.BaseSystems.{bases-state, ids-kept, live-kept, others-numbered}
use Rattle.kn_answer.proofs.NamedLevels.{IsPolicyLevel-by_name}
use Rattle.kn_answer.proofs.Capped.{ceilings-low, length-ceilings}
use Rattle.kn_answer.proofs.RowLists.{AreOfSystem-steps, level-most}
use Rattle.kn_answer.proofs.Located.{proof-named}
use Rattle.kn_answer.proofs.Removing.{removed}
use Rattle.kn_answer.proofs.StatementRows.{IsStated}

-- A query, a base in which its requesters have been looked up, and what is known of them.
pub record Answering : Type 0 where
  pub asked : Asked
  pub parts : List Part
  pub live : List Bool
  pub names : List (List ℕ)
  pub base : SystemEquations
  pub numbers : List ℕ
  pub levels : ℕ
  pub ceilings : List ℕ
  pub count : levels ≡ length asked.values
  pub several : 2 ≤ levels
  pub few : levels ≤ 64
  pub well_formed : IsSystem base
  pub is : IsBaseOf parts names base
  pub one_each : length names ≡ length base.requesters
  pub flags : length live ≡ length base.rows
  pub are : AreNumbersOf names asked.requesters numbers
  pub others : list_any (bytes_eq policy) asked.requesters ≡ false
  pub capped : ceilings ≡ ceilings_of asked parts live

module _ (a : Answering) where
  abbrev found : SystemEquations
  found = query_system a.base a.levels a.numbers a.ceilings

  abbrev all : Equations
  all =
      query_equations (length a.asked.values - 1) a.asked.requesters
      (capped_statements (kept_of a.asked a.parts a.live))

  abbrev built : Interned
  built = record { names = a.names; system = found; ids = map (λ part. part.id) a.parts }

  size : length a.live ≡ length a.parts
  size = a.flags ∙ sym (length-base a.names a.parts a.base.rows a.is.rows)

  pub answering-others : All (IsOther (length a.base.requesters)) a.numbers
  answering-others =
      others-numbered a.names (length a.base.requesters) a.one_each a.is.first a.asked.requesters a.numbers a.are
      a.others

  pub answering-each : length a.ceilings ≡ length a.base.rows
  answering-each =
      ap length a.capped ∙ length-ceilings a.asked a.parts a.live size
      ∙ length-base a.names a.parts a.base.rows a.is.rows

  pub answering-low : All (λ ceiling. ceiling < a.levels) a.ceilings
  answering-low =
      subst (All (λ ceiling. ceiling < a.levels)) (sym a.capped)
      (ceilings-low a.asked a.parts a.live a.levels a.count (omega (arith, a.several)))

  of : IsSystemOf all a.names found
  of =
      let some : 1 ≤ length a.asked.values = omega (arith, a.count, a.several) in
      subst (λ cs. IsSystemOf all a.names (query_system a.base a.levels a.numbers cs)) (sym a.capped)
      (subst (λ n. IsSystemOf all a.names (query_system a.base n a.numbers (ceilings_of a.asked a.parts a.live)))
      (sym a.count) (bases-state a.parts a.names a.base a.is a.one_each a.asked a.live a.numbers some size a.are))

  stated : IsStated all built
  stated = record {
    well_formed = query_system-system a.base a.levels a.numbers a.ceilings a.well_formed a.several a.few
        answering-others answering-low;
    of = of;
    ids = sym (ids-kept a.asked a.parts a.live size);
  }

  -- the numbers in a proof's rows are those of principals and rows of the base
  pub answering-rows : (rows : List Row) (value : ℕ) → IsProof found rows value → AreOfSystem a.base rows
  answering-rows rows value proves = λ k d l.
      let is : IsOfSystem found _ = AreOfSystem-steps found (at_first found) rows proves.steps k d l in
      record {
        principal = omega (arith, is.principal, length-flags a.numbers 0 (length a.base.requesters));
        by = omega (arith, is.by, length-capped a.ceilings 0 a.base.rows);
      }

  pub answering-proof : (named : List NamedRow) (rows : List Row) (least value : ℕ) → AreLocated built named rows
      → IsProof found rows least → value ≡ least
      → proof.IsProof (equations_over a.asked (live_parts a.parts a.live)) named value
  answering-proof named rows least value are proves same =
      subst (proof.IsProof (equations_over a.asked (live_parts a.parts a.live)) named) (sym same)
      (subst (λ (ss : List Statement). proof.IsProof (query_equations (length a.asked.values - 1) a.asked.requesters
      ss) named least) (live-kept a.asked a.parts a.live)
      ((removed (length a.asked.values - 1) a.asked.requesters (kept_of a.asked a.parts a.live)).proof named least
      (proof-named all built stated named rows are least proves)))

  pub answering-least : IsLeast found (least_levels found) → (value : ℕ) → value ≡ slice_index (least_levels found) 0
      → IsPolicyLevel (equations_over a.asked (live_parts a.parts a.live)) value
  answering-least least value same =
      subst (IsPolicyLevel (equations_over a.asked (live_parts a.parts a.live))) (sym same)
      (subst (λ (ss : List Statement). IsPolicyLevel (query_equations (length a.asked.values - 1) a.asked.requesters
      ss) (slice_index (least_levels found) 0)) (live-kept a.asked a.parts a.live)
      ((removed (length a.asked.values - 1) a.asked.requesters (kept_of a.asked a.parts a.live)).level
      (slice_index (least_levels found) 0)
      (IsPolicyLevel-by_name all a.names found of (least_levels found) least)))

  pub answering-below : (named : List NamedRow) (value : ℕ)
      → proof.IsProof (equations_over a.asked (live_parts a.parts a.live)) named value
      → value < length a.asked.values
  answering-below named value proves =
      let most : value ≤ length a.asked.values - 1 =
      level-most (equations_over a.asked (live_parts a.parts a.live)) named value proves in
      omega (arith, most, a.count, a.several)
