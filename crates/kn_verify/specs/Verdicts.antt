-- Whether a reply proves the value of a query (keynoted's own).
use Rattle.std.specs.Prelude.{ℕ, ◌≡◌, ◌<◌, List, [], length, slice_index_or}
use Rattle.kn_proof.specs.declared.row.Row.{Row}
use Rattle.kn_proof.specs.declared.reply.ReadReply.{ReadReply}
use Rattle.kn_check.specs.declared.reject.Reject.{Reject}
use Rattle.kn_check.specs.Rejects.{IsReject}
use Rattle.kn_system.specs.Equations.{SystemEquations}
use Rattle.kn_system.specs.Proofs as numbered
use Rattle.kn_meaning.specs.Equations.{Equations, IsPolicyLevel}
use Rattle.kn_meaning.specs.Proofs.{IsProof}
use Rattle.kn_verify.specs.Rejections.{IsRejected}
use Rattle.kn_verify.specs.declared.verdict.Refused.{Refused}
use Rattle.kn_verify.specs.declared.verdict.Refused.TheVariants.{Other, Rejected, NoMemory}

-- the reply tells this version, and a value among these by its name
pub record IsReplyTo (version : ℕ) (values : List (List ℕ)) (reply : ReadReply) : Type 0 where
  pub same_version : reply.version ≡ version
  pub within : reply.value < length values
  pub name : reply.name ≡ slice_index_or values reply.value []

-- the rows of the reply prove its value, which is the policy's level in the least fixed point
pub record IsProved (e : Equations) (version : ℕ) (values : List (List ℕ)) (reply : ReadReply) : Type 0 where
  pub to_query : IsReplyTo version values reply
  pub proof : IsProof e reply.rows reply.value
  pub least : IsPolicyLevel e reply.value

-- The reply is one to the query, but its rows prove no such value: this is the first item that fails, and the only
-- reason that can be given.
pub record IsUnproved (e : Equations) (version : ℕ) (values : List (List ℕ)) (reply : ReadReply) (reject : Reject) :
    Type 0 where
  pub to_query : IsReplyTo version values reply
  pub unproved : ¬ IsProof e reply.rows reply.value
  pub rejected : IsRejected e reply.rows reply.value reject
  pub only : (other : Reject) → IsRejected e reply.rows reply.value other → reject ≡ other

-- why a reply is refused; memory runs out only for one that is to the query
abbrev pub IsRefusal : Equations → ℕ → List (List ℕ) → ReadReply → Refused → Type 0
IsRefusal e version values reply Other = ¬ IsReplyTo version values reply
IsRefusal e version values reply (Rejected reject) = IsUnproved e version values reply reject
IsRefusal e version values reply NoMemory = IsReplyTo version values reply

-- why rows by numbers are refused
abbrev pub IsStepsRefusal : SystemEquations → List Row → ℕ → Refused → Type 0
IsStepsRefusal s rows level Other = ⊥
IsStepsRefusal s rows level (Rejected reject) = (¬ numbered.IsProof s rows level) × IsReject s rows level reject
IsStepsRefusal s rows level NoMemory = Unit {0}
