use Rattle.std.proofs.Common.{◌≡◌, length}
use Rattle.kn_env.specs.Values.{stood_before, twice_place}
use Rattle.kn_env.proofs.Places.{place_from}
use Rattle.kn_env.proofs.values.twice_place.Given as goal

abbrev pub invariant-loop-at : goal.invariant-loop-at
invariant-loop-at l = place_from (stood_before l.names) l.at (length l.names) ≡ twice_place l.names
