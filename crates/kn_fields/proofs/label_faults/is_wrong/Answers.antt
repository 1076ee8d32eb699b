use Rattle.std.proofs.Common.{arith}
use Rattle.kn_fields.specs.Fields.{is_this}
use Rattle.kn_fields.proofs.Headings.{any_numbered}
use Rattle.kn_fields.proofs.label_faults.is_wrong.Goals as goal

pub returns-in-Some : goal.returns-in-Some
returns-in-Some c labels label before own =
    grind (arith, any_numbered (is_this c.in-Some.number) labels c.args.before.now before.1, own.1)

pub returns-in-BehindSignature : goal.returns-in-BehindSignature
returns-in-BehindSignature c labels label before own =
    grind (arith, any_numbered (is_this 7) labels c.args.before.now before.1, own.0)
