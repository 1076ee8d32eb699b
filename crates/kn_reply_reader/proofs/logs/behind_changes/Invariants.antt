use Rattle.std.proofs.Common.{ℕ, ◌-◌, List, Option}
use Rattle.kn_reply.specs.Logs.{change_text}
use Rattle.kn_reply_reader.specs.Fronts.{IsBehindOne, Items, TextOf}
use Rattle.kn_reply_reader.specs.Kinds.{IsReadNumbered}
use Rattle.kn_reply_reader.proofs.Fronts.{Many}
use Rattle.kn_reply_reader.proofs.logs.behind_changes.Given as goal

-- what is behind the others is behind all
abbrev pub invariant-loop : goal.invariant-loop
invariant-loop l = (found : Option (List ℕ))
    → IsBehindOne (Many (TextOf IsReadNumbered change_text) (l.count - l.counter)) l.rest found
    → IsBehindOne (Items IsReadNumbered change_text l.count) l.left found
