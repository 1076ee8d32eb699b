-- Laws of answers and verdicts.
use Rattle.std.specs.Prelude.{ℕ, ◌≡◌, ◌<◌, List, length}
use Rattle.kn_proof.specs.declared.reply.ReadReply.{ReadReply}
use Rattle.kn_session.specs.Sessions.{Session}
use Rattle.kn_meaning.specs.Equations.{Equations}
use Rattle.kn_reply.specs.Replies.{Reply, Value}
use Rattle.kn_daemon.specs.Daemon.{equations_of, IsAnswer}
use Rattle.kn_verify.specs.Verdicts.{IsProved, IsRefusal}
use Rattle.kn_verify.specs.declared.verdict.Refused.{Refused}
use Rattle.kn_verify.specs.declared.verdict.Refused.TheVariants.{NoMemory}

-- what the daemon answers to a query is a VALUE reply whose rows prove its value of that query
abbrev pub AnswersAreProved : Type 0
AnswersAreProved = (session : Session) (values : List (List ℕ)) (reply : Reply) → 0 < length values
    → IsAnswer session values reply
    → (read : ReadReply) × (reply ≡ Value read.value read.name read.version read.rows)
    × IsProved (equations_of session values) (length session.pinned) values read

-- a reply that proves its value is refused only when out of memory
abbrev pub ProvedIsAccepted : Type 0
ProvedIsAccepted = (e : Equations) (version : ℕ) (values : List (List ℕ)) (read : ReadReply) (refused : Refused)
    → IsProved e version values read → IsRefusal e version values read refused → refused ≡ NoMemory
