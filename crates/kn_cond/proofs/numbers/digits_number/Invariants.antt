use Rattle.std.proofs.Common.{◌≡◌, ◌≤◌, ◌^◌, ◌+◌, ◌*◌, true, length, drop}
use Rattle.std.specs.List.{list_all}
use Rattle.kn_base.specs.Decimal.{digits_value, is_digit}
use Rattle.kn_cond.proofs.numbers.digits_number.Given as goal

-- what is read counts by the power of ten of what is left
abbrev pub invariant-loop-digit : goal.invariant-loop-digit
invariant-loop-digit l =
    record {
      value : l.number * 10 ^ length (drop l.digit-index l.digits) + digits_value (drop l.digit-index l.digits)
          ≡ digits_value l.digits;
      digits : list_all is_digit (drop l.digit-index l.digits) ≡ true;
      small : l.number ≤ 21474836489;
    }
