use Rattle.std.proofs.Common.{◌<◌, length, arith, ap, Err}
use Rattle.std.proofs.lemmas.Bool.Decides.{nat_tests}
use Rattle.std.proofs.lemmas.Grind.{common_steps}
use Rattle.kn_assert.proofs.parts.principal_in.Goals as goal

pub returns-in-Err-TooLong : goal.returns-in-Err-TooLong
returns-in-Err-TooLong c =
    let h = (c.in-Err-TooLong.ensures.too_long c.in-Err-TooLong.field-0-0).0 (ap Err c.in-Err-TooLong.field-0-is) in
    let same = h.0 in
    let long = h.1 in
    let more : 4096 < length c.args.text.now = omega (arith, same, long) in
    grind (arith, common_steps, nat_tests)
