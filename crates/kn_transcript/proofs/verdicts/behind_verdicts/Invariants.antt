use Rattle.std.proofs.Common.{◌≡◌, ◌≢◌, ◌+◌, ◌<◌, ℕ, true, List, ◌++◌, map}
use Rattle.kn_wire.specs.ItemsInCode as C
use Rattle.kn_reply.specs.declared.refusal.Refusal.TheVariants as R
use Rattle.kn_reply.specs.declared.refusal.ItemRefusal.TheVariants as I
use Rattle.kn_reply.specs.Replies.{No, reply_text}
use Rattle.kn_transcript.specs.Verdicts.{IsAuthFault, adds_anew}
use Rattle.kn_transcript.proofs.verdicts.behind_verdicts.Given as goal

-- the bytes begin with no refusal of an item so far by an authenticator
abbrev pub invariant-loop-place : goal.invariant-loop-place
invariant-loop-place l =
    (place fault : ℕ) (rest : List ℕ) → place < l.place → adds_anew (map C.item_of l.items) place ≡ true
    → IsAuthFault fault → l.left ≢ reply_text (No (R.Item (place + 1) (I.Auth fault))) ++ rest
