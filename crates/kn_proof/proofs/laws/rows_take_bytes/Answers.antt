use Rattle.std.proofs.Common.{arith}
use Rattle.kn_proof.proofs.Sizes.{reply_bytes}
use Rattle.kn_proof.proofs.laws.rows_take_bytes.Goals as goal

pub returns-clause-bytes : goal.returns-clause-bytes
returns-clause-bytes c = reply_bytes

pub returns-clause-rows : goal.returns-clause-rows
returns-clause-rows c = λ text reply is fits. let bytes = reply_bytes text reply is in omega arith
