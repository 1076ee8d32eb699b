-- What the checker of rows by numbers says of a reply, which tells them by names.
use Rattle.std.proofs.Common.{◌≡◌, ℕ, ◌<◌, Bool, List, [], length, map, slice_get, slice_index, slice_index_or, Result}
use Rattle.std.proofs.Common.{Ok, Err, OnOk, IfErr, IsTrue, ◌↔◌, Some, sym, ap, ◌∙◌, subst, arith}
use Rattle.std.specs.Str.{bytes_eq}
use Rattle.std.proofs.lemmas.Option.{get_or_from_slice_get}
use Rattle.std.proofs.lemmas.Slice.Eq.{bytes_eq-Decides}
use Rattle.kn_proof.specs.declared.named.Id.{Id}
use Rattle.kn_proof.specs.declared.row.Row.{Row}
use Rattle.kn_proof.specs.declared.reply.ReadReply.{ReadReply}
use Rattle.kn_proof.specs.Reading.{IsHeadOf}
use Rattle.kn_system.specs.Least.{least_levels}
use Rattle.kn_system.specs.Lawful.{LeastLevelsAreLeast}
use Rattle.kn_system.specs.Proofs.{IsProof}
use Rattle.kn_meaning.specs.Equations.{Equations, Statement, IsPolicyLevel}
use Rattle.kn_rows.specs.Numbering.{AreDistinct}
use Rattle.kn_answer.specs.Built.{Interned, IsBuilt}
use Rattle.kn_answer.specs.Located.{AreLocated}
use Rattle.kn_answer.specs.Laws.{LocatedProofs}
use Rattle.kn_answer.proofs.NamedLevels.{IsPolicyLevel-by_name}
use Rattle.kn_verify.specs.declared.verdict.Refused.{Refused}
use Rattle.kn_verify.specs.declared.verdict.Refused.TheVariants.{Other, Rejected, NoMemory}
use Rattle.kn_verify.specs.Verdicts.{IsReplyTo, IsProved, IsRefusal, IsStepsRefusal}
use Rattle.kn_check.specs.declared.reject.Reject.{Reject}
use Rattle.kn_check.specs.Rejects.{IsReject}
use Rattle.kn_verify.specs.Rejections.{IsRejected}
use Rattle.kn_verify.proofs.RefusedRows.{rejected-named}
use Rattle.kn_verify.proofs.OneReason.{one_reason}

-- rows that were located in the system of a query
pub record AreOf (e : Equations) (built : Interned) (reply : ReadReply) (rows : List Row) : Type 0 where
  pub is_built : IsBuilt e built
  pub distinct : AreDistinct built.ids
  pub located : AreLocated built reply.rows rows

-- rows that prove the value by numbers
pub proved_by_name : LocatedProofs → LeastLevelsAreLeast
    → (e : Equations) (version : ℕ) (values : List (List ℕ)) (reply : ReadReply) (built : Interned) (rows : List Row) →
    IsReplyTo version values reply → AreOf e built reply rows → IsProof built.system rows reply.value
    → reply.value ≡ slice_index (least_levels built.system) 0 →
    IsProved e version values reply
proved_by_name law leasts e version values reply built rows to_query of proof level = record {
  to_query = to_query;
  proof = (law e built of.is_built of.distinct reply.rows rows of.located reply.value).0 proof;
  least = subst (IsPolicyLevel e) (sym level)
      (IsPolicyLevel-by_name e built.names built.system of.is_built.of (least_levels built.system)
      (leasts built.system));
}

distinct_ids : (e : Equations) (built : Interned) (reply : ReadReply) (rows : List Row) → AreOf e built reply rows
    → AreDistinct (map (λ (s : Statement). s.id) e.statements)
distinct_ids e built reply rows of = subst (λ (l : List Id). AreDistinct l) of.is_built.ids of.distinct

first_item : (e : Equations) (built : Interned) (reply : ReadReply) (rows : List Row) (reject : Reject)
    → AreOf e built reply rows → IsReject built.system rows reply.value reject
    → IsRejected e reply.rows reply.value reject
first_item e built reply rows reject of cause =
    rejected-named e built of.is_built reply.rows rows of.located reply.value reject cause

-- rows that don't
pub refused_by_name : LocatedProofs
    → (e : Equations) (version : ℕ) (values : List (List ℕ)) (reply : ReadReply) (built : Interned) (rows : List Row)
    (refused : Refused) →
    IsReplyTo version values reply → AreOf e built reply rows → IsStepsRefusal built.system rows reply.value refused →
    IsRefusal e version values reply refused
refused_by_name law e version values reply built rows Other to_query of cause = absurd cause
refused_by_name law e version values reply built rows (Rejected reject) to_query of cause = record {
  to_query = to_query;
  unproved = λ proof. cause.0 ((law e built of.is_built of.distinct reply.rows rows of.located reply.value).1 proof);
  rejected = first_item e built reply rows reject of cause.1;
  only = λ other others. one_reason e (distinct_ids e built reply rows of) reply.rows reply.value reject other
      (first_item e built reply rows reject of cause.1) others;
}
refused_by_name law e version values reply built rows NoMemory to_query of cause = to_query

-- the same of a checker's answer
pub ok_by_name : LocatedProofs → LeastLevelsAreLeast
    → (e : Equations) (version : ℕ) (values : List (List ℕ)) (reply : ReadReply) (built : Interned) (rows : List Row)
    (result : Result (Unit {0}) Refused) →
    IsReplyTo version values reply → AreOf e built reply rows → OnOk result (IsProof built.system rows reply.value)
    → OnOk result (reply.value ≡ slice_index (least_levels built.system) 0) →
    OnOk result (IsProved e version values reply)
ok_by_name law leasts e version values reply built rows (Ok u) to_query of proof level =
    proved_by_name law leasts e version values reply built rows to_query of proof level
ok_by_name law leasts e version values reply built rows (Err refused) to_query of proof level = tt

pub err_by_name : LocatedProofs
    → (e : Equations) (version : ℕ) (values : List (List ℕ)) (reply : ReadReply) (built : Interned) (rows : List Row)
    (result : Result (Unit {0}) Refused) →
    IsReplyTo version values reply → AreOf e built reply rows
    → IfErr result (λ refused. IsStepsRefusal built.system rows reply.value refused) →
    IfErr result (λ refused. IsRefusal e version values reply refused)
err_by_name law e version values reply built rows (Ok u) to_query of cause = tt
err_by_name law e version values reply built rows (Err refused) to_query of cause =
    refused_by_name law e version values reply built rows refused to_query of cause

-- a reply is one to the query exactly where its head is
pub same_query : (number version : ℕ) (values : List (List ℕ)) (reply : ReadReply) (value : ℕ) (name : List ℕ)
    (told : ℕ) (test : Bool) → number ≡ version → IsHeadOf reply value name told
    → (IsTrue test ↔ IsReplyTo number values (record { value = value; name = name; version = told; rows = [] }))
    → (IsTrue test ↔ IsReplyTo version values reply)
same_query number version values reply value name told test same head decides = (
  λ yes. let to = decides.0 yes in record {
    same_version = head.tells_version ∙ to.same_version ∙ same;
    within = let v = head.tells_value in let w = to.within in omega arith;
    name = head.tells_name ∙ to.name ∙ ap (λ (v : ℕ). slice_index_or values v []) (sym head.tells_value);
  },
  λ to. decides.1 (record {
    same_version = sym head.tells_version ∙ to.same_version ∙ sym same;
    within = let v = head.tells_value in let w = to.within in omega arith;
    name = sym head.tells_name ∙ to.name ∙ ap (λ (v : ℕ). slice_index_or values v []) head.tells_value;
  }),
)

-- the name of a value that is there decides
pub name_decides : (version : ℕ) (values : List (List ℕ)) (reply : ReadReply) (name : List ℕ) (test : Bool)
    → reply.version ≡ version → reply.value < length values →
    slice_get values reply.value ≡ Some name → test ≡ bytes_eq reply.name name →
    (IsTrue test → IsReplyTo version values reply) × (IsReplyTo version values reply → IsTrue test)
name_decides version values reply name test same within here is =
    let there : slice_index_or values reply.value [] ≡ name = get_or_from_slice_get values reply.value name [] here in (
      (λ yes. record {
        same_version = same;
        within = within;
        name = (bytes_eq-Decides reply.name name).0 (sym is ∙ yes)
            ∙ sym there;
      }),
      (λ to. is ∙ (bytes_eq-Decides reply.name name).1 (to.name ∙ there)),
    )
