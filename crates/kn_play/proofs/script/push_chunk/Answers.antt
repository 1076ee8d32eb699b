use Rattle.std.proofs.Common.{◌≤◌, length, arith}
use Rattle.std.specs.List.{slice_range}
use Rattle.kn_wire.specs.Feeds.{held}
use Rattle.kn_play.proofs.ScriptLoops.{feeds-piece, range-joins}
use Rattle.kn_play.proofs.script.push_chunk.Goals as goal
use Rattle.kn_play.proofs.script.push_chunk.Goals.{then-script-from-gt-CHUNK_BYTES, else-script-from-gt-CHUNK_BYTES}

-- the piece ends behind its beginning, within the script
bounds : (c : goal.After-push) → (c.args.from ≤ c.if-script-from-gt-CHUNK_BYTES.end)
    × (c.if-script-from-gt-CHUNK_BYTES.end ≤ length c.args.script.now)
bounds c =
    elim c.if-script-from-gt-CHUNK_BYTES.branch [
      | then-script-from-gt-CHUNK_BYTES w ↦ (omega arith, omega arith)
      | else-script-from-gt-CHUNK_BYTES w ↦ (omega arith, omega arith)
    ]

pub returns-clause-fed : goal.returns-clause-fed
returns-clause-fed c = λ requests fed.
    feeds-piece c.args.script.now c.args.from c.if-script-from-gt-CHUNK_BYTES.end (held c.args.feed.now)
    (held c.push.new.self)
    (slice_range c.args.script.now c.args.from c.if-script-from-gt-CHUNK_BYTES.end) requests fed (bounds c).1
    (range-joins c.args.script.now c.args.from c.if-script-from-gt-CHUNK_BYTES.end (bounds c).0) c.push.ensures
