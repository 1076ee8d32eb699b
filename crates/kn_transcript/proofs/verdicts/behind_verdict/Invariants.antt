use Rattle.std.proofs.Common.{◌≢◌, ◌≤◌, ◌<◌, ℕ, List, ◌++◌}
use Rattle.kn_reply.specs.Replies.{No, reply_text}
use Rattle.kn_transcript.specs.Verdicts.{verdict_refusal}
use Rattle.kn_transcript.proofs.verdicts.behind_verdict.Given as goal

-- the bytes begin with the refusal for none of the faults so far
abbrev pub invariant-loop-fault : goal.invariant-loop-fault
invariant-loop-fault l =
    (1 ≤ l.fault) × ((fault : ℕ) (rest : List ℕ) → 1 ≤ fault → fault < l.fault
    → l.left ≢ reply_text (No (verdict_refusal l.item fault)) ++ rest)
