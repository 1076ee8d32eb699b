-- A reply to BATCH tells the ids of its additions.
use Rattle.std.proofs.Common.{◌≡◌, length, map, ◌∙◌}
use Rattle.kn_history.specs.History.{additions}
use Rattle.kn_history.specs.Batches.{numbered_from, batch_by}
use Rattle.kn_reply.specs.Logs.{item_of}
use Rattle.kn_reply.specs.Replies.{Batched}
use Rattle.kn_daemon.specs.PermissionLaws.{BatchTellsIds}
use Rattle.kn_daemon.proofs.Answered.{batch-answered}

pub batch-tells_ids : BatchTellsIds
batch-tells_ids g caller past old block first added version new p =
    let a = batch-answered caller past old block (Batched first added version) p.answered in
    let items = map item_of a.items in
    let b = a.batch in
    let same : Batched first added version
    ≡ Batched b.first (additions (numbered_from b.first items)) (length past) = b.exact in
    let first_is : first ≡ b.first = cc same in (
      record {
        before = b.committed.before;
        update = batch_by caller b.first items;
        ends = b.committed.ends;
        first_is = first_is ∙ b.first_is;
        added_is = cc same;
      },
      cc same,
    )
