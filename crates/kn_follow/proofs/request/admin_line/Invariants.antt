use Rattle.std.proofs.Common.{◌≡◌, ◌++◌, take, codes}
use Rattle.std.specs.Prelude.{flat_map}
use Rattle.kn_follow.specs.Answers.{hex_digits}
use Rattle.kn_follow.proofs.request.admin_line.Given as goal

abbrev pub invariant-loop-byte : goal.invariant-loop-byte
invariant-loop-byte l = l.line ≡ codes "ADMIN " ++ flat_map hex_digits (take l.byte-index l.secret)
