use Rattle.std.proofs.Common.{ap, ◌∙◌}
use Rattle.std.specs.List.{list_all}
use Rattle.kn_base.specs.Decimal.{is_digit}
use Rattle.kn_cond.proofs.Digits.{all_digits}
use Rattle.kn_cond.proofs.numbers.front_number.Goals as goal

pub digits_number-requires : goal.digits_number-requires
digits_number-requires c = ap (list_all is_digit) c.front_digits.ensures ∙ all_digits c.in-Some.rest.now

pub digits_number-requires-else-first-eq45 : goal.digits_number-requires-else-first-eq45
digits_number-requires-else-first-eq45 c = ap (list_all is_digit) c.front_digits-else-first-eq45.ensures
    ∙ all_digits c.args.text.now
