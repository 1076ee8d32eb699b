use Rattle.std.proofs.Common.{◌≡◌, length, [], Err, ap, ◌∙◌, arith}
use Rattle.kn_env.specs.Environment.{IsPrincipalSize}
use Rattle.kn_session.proofs.Requesters.{principal_size}
use Rattle.kn_session.proofs.session.normal_of.Goals as goal

pub returns-in-Err-Empty : goal.returns-in-Err-Empty
returns-in-Err-Empty c =
    let size : IsPrincipalSize c.args.principal.now = principal_size c.args.principal.now c.requires in
    let nothing : c.args.principal.now ≡ [] =
    c.normal.ensures.empty.0 (c.in-Err-Empty.is ∙ ap Err c.in-Err-Empty.field-0-is) in
    absurd (omega (arith, size.some, ap length nothing))

pub returns-in-Err-TooLong-clause-err : goal.returns-in-Err-TooLong-clause-err
returns-in-Err-TooLong-clause-err c =
    let size : IsPrincipalSize c.args.principal.now = principal_size c.args.principal.now c.requires in
    let long = (c.normal.ensures.too_long c.in-Err-TooLong.field-0-0).0 (c.in-Err-TooLong.is
    ∙ ap Err c.in-Err-TooLong.field-0-is) in
    absurd (omega (arith, size.short, long.0, long.1))
