use Rattle.std.proofs.Common.{◌≡◌, true, take}
use Rattle.std.specs.List.{list_all}
use Rattle.kn_base.specs.Decimal.{is_digit}
use Rattle.kn_reply_reader.proofs.numerals.split_digits.Given as goal

abbrev pub invariant-loop-place : goal.invariant-loop-place
invariant-loop-place l = list_all is_digit (take l.place l.text) ≡ true
