-- What the daemon answers to a query proves its value, and what proves its value is accepted.
use Rattle.std.proofs.Common.{◌≡◌, ℕ, ◌+◌, ◌-◌, ◌<◌, ◌≤◌, Bool, true, false, cond, List, [], ◌∷◌, ◌++◌, length, refl}
use Rattle.std.proofs.Common.{sym, subst, arith}
use Rattle.std.specs.Str.{bytes_eq}
use Rattle.kn_principal.specs.Principals.{policy}
use Rattle.kn_proof.specs.declared.named.NamedRow.{NamedRow}
use Rattle.kn_proof.specs.declared.reply.ReadReply.{ReadReply}
use Rattle.kn_meaning.specs.Equations.{Equations, is_requester}
use Rattle.kn_meaning.specs.Proofs.{row_level, AreRows, IsProof}
use Rattle.kn_daemon.specs.Daemon.{equations_of}
use Rattle.kn_verify.specs.Verdicts.{IsProved, IsRefusal}
use Rattle.kn_verify.specs.Accepted.{AnswersAreProved, ProvedIsAccepted}
use Rattle.kn_verify.specs.declared.verdict.Refused.{Refused}
use Rattle.kn_verify.specs.declared.verdict.Refused.TheVariants as R

-- no row states more than the top
rows-within : (e : Equations) (before rows : List NamedRow) (name : List ℕ) → AreRows e before rows
    → row_level rows name ≤ e.top
rows-within e before [] name stand = omega arith
rows-within e before (row ∷ rows) name stand =
    by (rows-within e (before ++ row ∷ []) rows name stand.1) (bytes_eq row.principal name)
  where
    first : row.value ≤ e.top
    first = stand.0.within

    by : row_level rows name ≤ e.top → (t : Bool) → cond t row.value (row_level rows name) ≤ e.top
    by later true = first
    by later false = later

-- nor has the policy
level-within : (e : Equations) (rows : List NamedRow) (level : ℕ) → IsProof e rows level → level ≤ e.top
level-within e rows level proof = subst (λ (n : ℕ). n ≤ e.top) proof.claim (by (is_requester e policy))
  where
    inner : row_level rows policy ≤ e.top
    inner = rows-within e [] rows policy proof.in_order

    by : (t : Bool) → cond t e.top (row_level rows policy) ≤ e.top
    by true = omega arith
    by false = inner

pub answers_are_proved : AnswersAreProved
answers_are_proved session values reply some answer =
    let within : answer.level ≤ length values - 1 =
    level-within (equations_of session values) answer.rows answer.level answer.proved in (
      _,
      answer.exact,
      record {
        to_query = record { same_version = refl; within = omega arith; name = refl };
        proof = answer.proved;
        least = answer.least;
      },
    )

pub proved_is_accepted : ProvedIsAccepted
proved_is_accepted e version values read R.Other proved refusal = absurd (refusal proved.to_query)
proved_is_accepted e version values read (R.Rejected reject) proved refusal = absurd (refusal.unproved proved.proof)
proved_is_accepted e version values read R.NoMemory proved refusal = refl
