use Rattle.std.proofs.Common.{◌≡◌, ◌<◌, ◌^◌, ◌+◌, ◌*◌, length, drop}
use Rattle.std.specs.List.{list_all}
use Rattle.kn_base.specs.Decimal.{digits_value, is_digit}
use Rattle.kn_base.proofs.number.digits_number.Given as goal

-- what is read counts by the power of ten of what is left
abbrev pub invariant-loop-byte : goal.invariant-loop-byte
invariant-loop-byte l =
    record {
      value : l.number * 10 ^ length (drop l.byte-index l.text) + digits_value (drop l.byte-index l.text)
          ≡ digits_value l.text;
      digits : list_all is_digit (drop l.byte-index l.text) ≡ list_all is_digit l.text;
      small : l.number < 10 ^ l.byte-index;
    }
