use Rattle.std.proofs.Common.{ℕ, ◌-◌, List, Option}
use Rattle.kn_reply.specs.Replies.{need_text}
use Rattle.kn_reply_reader.specs.Fronts.{IsBehindOne, Items}
use Rattle.kn_reply_reader.specs.Kinds.{IsAnyId}
use Rattle.kn_reply_reader.proofs.Fronts.{Many}
use Rattle.kn_reply_reader.proofs.ReplyLaws.{IsNeed}
use Rattle.kn_reply_reader.proofs.replies.behind_needs.Given as goal

-- what is behind the other lines is behind all
abbrev pub invariant-loop : goal.invariant-loop
invariant-loop l = (found : Option (List ℕ)) → IsBehindOne (Many IsNeed (l.count - l.counter)) l.rest found
    → IsBehindOne (Items IsAnyId need_text l.count) l.left found
