-- Assertions for one query alone: a principal who is no authorizer and no requester has the lowest level in it, and so
-- has a formula over no parts (keynoted's own).
use Rattle.std.specs.Prelude.{ℕ, List, ◌∷◌, ◌++◌, map}
use Rattle.kn_principal.specs.Principals.{policy}
use Rattle.kn_proof.specs.declared.named.NamedRow.{NamedRow}
use Rattle.kn_env.specs.Environment.{Asked}
use Rattle.kn_meaning.specs.Equations.{Part, IsPolicyLevel, equations_over}
use Rattle.kn_meaning.specs.Proofs.{IsProof}
use Rattle.kn_rows.specs.Narrowing.{narrowed_assertion}

-- who may have a level above the lowest, or the policy's: the policy, the authorizers and the requesters
abbrev pub principals_with_level : Asked → List Part → List (List ℕ)
principals_with_level asked parts = policy ∷ map (λ part. part.assertion.authorizer) parts ++ asked.requesters

abbrev pub narrowed_part : List (List ℕ) → Part → Part
narrowed_part names part = record part { assertion = narrowed_assertion names part.assertion }

-- the assertions of a query, narrowed to those who have a level in it
abbrev pub narrow_parts : Asked → List Part → List Part
narrow_parts asked parts = map (narrowed_part (principals_with_level asked parts)) parts

-- what holds of the narrowed assertions holds of the assertions
pub record NarrowedAreSame (asked : Asked) (parts : List Part) : Type 0 where
  pub level : (v : ℕ) → IsPolicyLevel (equations_over asked (narrow_parts asked parts)) v
      → IsPolicyLevel (equations_over asked parts) v
  pub proof : (rows : List NamedRow) (v : ℕ) → IsProof (equations_over asked (narrow_parts asked parts)) rows v
      → IsProof (equations_over asked parts) rows v
