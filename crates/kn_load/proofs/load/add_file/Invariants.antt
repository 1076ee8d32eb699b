use Rattle.std.proofs.Common.{◌-◌, ◌≤◌, length, take}
use Rattle.kn_files.specs.Pieces.{pieces_of}
use Rattle.kn_load.specs.Loaded.{IsLoaded}
use Rattle.kn_load.proofs.load.add_file.Given as goal

abbrev pub invariant-loop-from : goal.invariant-loop-from
invariant-loop-from g l = (l.from ≤ length l.fn.spans)
    × IsLoaded (take l.from (pieces_of l.fn.file)) l.fn.registry l.root

abbrev pub decreases-loop-from : goal.decreases-loop-from
decreases-loop-from g l = length l.fn.spans - l.from
