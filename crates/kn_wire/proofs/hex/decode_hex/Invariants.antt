use Rattle.std.proofs.Common.{◌≡◌, ◌++◌, true, length}
use Rattle.std.specs.List.{list_all}
use Rattle.kn_wire.specs.Hex.{bytes_of_hex}
use Rattle.kn_wire.specs.Requests.{is_hex_digit}
use Rattle.kn_wire.proofs.hex.decode_hex.Given as goal

abbrev pub invariant-bytes : goal.invariant-bytes
invariant-bytes l =
    record {
      so_far : bytes_of_hex l.digits ≡ l.bytes ++ bytes_of_hex l.rest;
      is_hex : list_all is_hex_digit l.rest ≡ true;
    }

abbrev pub decreases-bytes : goal.decreases-bytes
decreases-bytes l = length l.rest
