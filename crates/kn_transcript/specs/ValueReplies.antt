-- A VALUE reply at the front of bytes, judged by its rows (keynoted's own).
use Rattle.std.specs.Prelude.{ℕ, List, length, Option, Some, None}
use Rattle.kn_proof.specs.declared.reply.ReadReply.{ReadReply}
use Rattle.kn_reply_reader.specs.ValueReplies.{IsValueAt}
use Rattle.kn_session.specs.Sessions.{Session}
use Rattle.kn_daemon.specs.Daemon.{equations_of}
use Rattle.kn_verify.specs.Verdicts.{IsProved}

-- the rows of a reply prove its value of what a session asks for these compliance values, and it tells the session's
-- version
abbrev pub ProvesAnswer : Session → List (List ℕ) → ReadReply → Type 0
ProvesAnswer session values reply = IsProved (equations_of session values) (length session.pinned) values reply

-- Such a reply stands there, and this is left behind it; or none does.
abbrev pub JudgesValue : Session → List (List ℕ) → List ℕ → Option (List ℕ) → Type 0
JudgesValue session values left None =
    (reply : ReadReply) (rest : List ℕ) → IsValueAt left reply rest → ¬ ProvesAnswer session values reply
JudgesValue session values left (Some rest) =
    (reply : ReadReply) × IsValueAt left reply rest × ProvesAnswer session values reply
