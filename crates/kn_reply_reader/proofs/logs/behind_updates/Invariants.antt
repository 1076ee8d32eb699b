use Rattle.std.proofs.Common.{ℕ, ◌-◌, List, Option}
use Rattle.kn_reply.specs.Logs.{update_text}
use Rattle.kn_reply_reader.specs.Fronts.{IsBehindOne, Items, TextOf}
use Rattle.kn_reply_reader.specs.Texts.{IsReadUpdate}
use Rattle.kn_reply_reader.proofs.Fronts.{Many}
use Rattle.kn_reply_reader.proofs.logs.behind_updates.Given as goal

-- what is behind the others is behind all
abbrev pub invariant-loop : goal.invariant-loop
invariant-loop l = (found : Option (List ℕ))
    → IsBehindOne (Many (TextOf IsReadUpdate update_text) (l.count - l.counter)) l.rest found
    → IsBehindOne (Items IsReadUpdate update_text l.count) l.left found
