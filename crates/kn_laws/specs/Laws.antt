-- Laws of least levels and of proofs.
use Rattle.std.specs.Prelude.{ℕ, ◌≡◌, ◌≤◌, Bool, false, List, filter}
use Rattle.kn_env.specs.Environment.{Asked}
use Rattle.kn_proof.specs.declared.named.Id.{Id}
use Rattle.kn_principal.specs.Principals.{policy}
use Rattle.kn_proof.specs.declared.named.NamedRow.{NamedRow}
use Rattle.kn_meaning.specs.Formulas.{Levels}
use Rattle.kn_meaning.specs.Equations.{Part, Equations, equations_over, IsLeast, IsPolicyLevel}
use Rattle.kn_meaning.specs.Critical.{without_part, is_row_by, IsCritical, AreCritical}
use Rattle.kn_meaning.specs.Proofs.{levels_by, IsProof}
use Rattle.kn_meaning.specs.Tables.{level_in, equations_from, last_table}
use Rattle.kn_meaning.specs.declared.plain.Stated.{Stated}
use Rattle.kn_laws.specs.Least.{least_levels}

-- as many rounds as there are principals times the top give the least levels
abbrev pub LeastLevelsAreLeast : Type 0
LeastLevelsAreLeast = (e : Equations) → IsLeast e (least_levels e)

-- and what the table of the plain program tells are the least levels too
abbrev pub PlainLevelsAreLeast : Type 0
PlainLevelsAreLeast = (top : ℕ) (requesters : List (List ℕ)) (stated : List Stated)
    → IsLeast (equations_from top requesters stated) (level_in (last_table top requesters stated))

-- so it tells the policy's level
abbrev pub PlainLevelIsThePolicys : Type 0
PlainLevelIsThePolicys = (top : ℕ) (requesters : List (List ℕ)) (stated : List Stated)
    → IsPolicyLevel (equations_from top requesters stated) (level_in (last_table top requesters stated) policy)

-- each query gives the policy a level
abbrev pub EveryQueryHasALevel : Type 0
EveryQueryHasALevel = (e : Equations) → (level : ℕ) × IsPolicyLevel e level

-- one alone
abbrev pub EveryQueryHasOneLevel : Type 0
EveryQueryHasOneLevel = (e : Equations) (level other : ℕ) → IsPolicyLevel e level → IsPolicyLevel e other
    → level ≡ other

-- and no least level is above the top, however high the ceilings are
abbrev pub LeastLevelsAreWithin : Type 0
LeastLevelsAreWithin = (e : Equations) (at : Levels) → IsLeast e at → (name : List ℕ) → at name ≤ e.top

-- The rows of a proof give each principal its least level. The policy's is the level that they prove, whatever levels
-- are the least, and no other level has a proof.
pub record IsDetermined (e : Equations) (rows : List NamedRow) (level : ℕ) : Type 0 where
  pub least : IsLeast e (levels_by e rows)
  pub claim : (at : Levels) → IsLeast e at → at policy ≡ level
  pub only : (others : List NamedRow) (other : ℕ) → IsProof e others other → other ≡ level

abbrev pub ProofDeterminesLevel : Type 0
ProofDeterminesLevel = (e : Equations) (rows : List NamedRow) (level : ℕ) → IsProof e rows level
    → IsDetermined e rows level

-- each query has a proof
abbrev pub EveryQueryHasAProof : Type 0
EveryQueryHasAProof = (e : Equations) → (level : ℕ) × (rows : List NamedRow) × IsProof e rows level

-- rows that don't name an assertion prove the same level without it
abbrev pub RowsStayAProof : Type 0
RowsStayAProof = (asked : Asked) (id : Id) (parts : List Part) (rows : List NamedRow) (level : ℕ)
    → IsProof (equations_over asked parts) rows level → is_row_by rows id ≡ false
    → IsProof (equations_over asked (without_part id parts)) rows level

-- so it isn't critical
abbrev pub UnnamedIsNotCritical : Type 0
UnnamedIsNotCritical = (asked : Asked) (parts : List Part) (id : Id) (rows : List NamedRow) (level : ℕ)
    → IsProof (equations_over asked parts) rows level → is_row_by rows id ≡ false
    → IsCritical asked parts id → ⊥

-- the critical assertions are one list
abbrev pub CriticalIsOne : Type 0
CriticalIsOne = (asked : Asked) (all parts : List Part) (ids others : List Id) → AreCritical asked all parts ids
    → AreCritical asked all parts others → ids ≡ others

-- Where some of the assertions are taken away, no principal's least level rises,
abbrev pub FewerLowerAll : Type 0
FewerLowerAll = (asked : Asked) (keeps : Part → Bool) (parts : List Part) (at lower : Levels)
    → IsLeast (equations_over asked parts) at
    → IsLeast (equations_over asked (filter keeps parts)) lower → (name : List ℕ) → lower name ≤ at name

-- and so the policy's doesn't.
abbrev pub FewerNeverRaise : Type 0
FewerNeverRaise = (asked : Asked) (keeps : Part → Bool) (parts : List Part) (level lower : ℕ)
    → IsPolicyLevel (equations_over asked parts) level
    → IsPolicyLevel (equations_over asked (filter keeps parts)) lower → lower ≤ level
