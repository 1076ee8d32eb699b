use Rattle.std.proofs.Common.{◌<◌, ◌^◌, arith, sym}
use Rattle.kn_reply_reader.proofs.Written.{no_numeral, no_small, number_at}
use Rattle.kn_reply_reader.proofs.numerals.read_number.Goals as goal

pub returns-then-not-is_numeral : goal.returns-then-not-is_numeral
returns-then-not-is_numeral c =
    let small : c.args.most < 2 ^ 64 = omega arith in
    no_numeral c.args.most c.args.end c.args.left.now c.in_ok-digits.digits.now c.in_ok-digits.rest.now small c.requires
    c.in_ok-digits.ensures.cut
    c.in_ok-digits.ensures.first (sym c.if-not-is_numeral.ensures)

pub returns-in_err-number : goal.returns-in_err-number
returns-in_err-number c =
    let small : c.args.most < 2 ^ 64 = omega arith in
    rw c.from_residual-in_err-number.ensures
    (no_small c.args.most c.args.end c.args.left.now c.in_ok-digits.digits.now c.in_ok-digits.rest.now small c.requires
    c.in_ok-digits.ensures.cut
    c.in_ok-digits.ensures.first c.in_err-number.ensures)

pub returns : goal.returns
returns c =
    let small : c.args.most < 2 ^ 64 = omega arith in
    number_at c.args.most c.args.end c.args.left.now c.in_ok-digits.digits.now c.in_ok-digits.rest.now small c.requires
    c.in_ok-digits.ensures.cut
    c.in_ok-digits.ensures.first c.in_ok-number.number (sym c.if-not-is_numeral.ensures) c.in_ok-number.ensures
