use Rattle.std.proofs.Common.{drop, length}
use Rattle.kn_turn.proofs.turn.Turn.append_all.Given as goal

-- what the value's list has beyond what was taken
abbrev pub ghosts-append_as : goal.ghosts-append_as
ghosts-append_as g a = record { entries = drop (length a.pass.now.taken) (g.S.Logged.log a.value.now) }
