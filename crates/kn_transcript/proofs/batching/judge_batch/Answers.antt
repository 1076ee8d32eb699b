use Rattle.std.proofs.Common.{◌≡◌, ◌∙◌, ◌+◌, ◌≤◌, ℕ, ap, sym, map, None, Option, Ok, List, option_map, length, subst}
use Rattle.std.proofs.Common.{arith}
use Rattle.std.proofs.lemmas.List.{length-map}
use Rattle.kn_wire.specs.declared.items.BatchItem.{BatchItem as ItemInCode}
use Rattle.kn_wire.specs.Items.{items_of}
use Rattle.kn_wire.specs.ItemsInCode as C
use Rattle.kn_reply.specs.declared.refusal.ItemRefusal.{ItemRefusal}
use Rattle.kn_daemon.specs.Shapes.{ApplyBlock}
use Rattle.kn_transcript.specs.Judging.{state_of}
use Rattle.kn_transcript.specs.Verdicts.{AreRead, IsBehindVerdicts}
use Rattle.kn_transcript.proofs.VerdictLaws.{update_unshown}
use Rattle.kn_transcript.proofs.ItemLaws.{read_within}
use Rattle.kn_transcript.proofs.BatchingLaws.{batch_unread, batch_unadmitted, batch_unread_item, none_stand}
use Rattle.kn_transcript.proofs.BatchingLaws.{none_behind_all, some_behind_all}
use Rattle.kn_transcript.proofs.batching.judge_batch.Goals as goal

pub returns-then-not-connection : goal.returns-then-not-connection
returns-then-not-connection c = record {
  judged = update_unshown c.args.book.now (state_of c.args.connection.now) (ApplyBlock c.args.block.now) c.args.left.now
      c.behind_reply.result (λ found. option_map (λ rest. rest.now) found) c.if-not-connection.true
      c.behind_reply.ensures.behind;
}

pub returns-in-Err : goal.returns-in-Err
returns-in-Err c = record {
  judged = batch_unread c.args.book.now (state_of c.args.connection.now) c.args.block.now c.args.left.now
      c.if-not-connection.false c.behind_refusal.result (λ found. option_map (λ rest. rest.now) found) c.in-Err.fault
      c.refusal_of_block.result c.in-Err.ensures.fault c.refusal_of_block.ensures c.behind_refusal.ensures.behind;
}

pub behind_verdicts-requires : goal.behind_verdicts-requires
behind_verdicts-requires c =
    let parts = map C.item_of c.as_slice-parts.result.now in
    let few : length c.in_ok-read.read.items ≤ length parts =
    read_within parts c.in_ok-read.read c.in_ok-read.ensures.read in
    let size : length parts ≡ length c.as_slice-parts.result.now = length-map c.as_slice-parts.result.now C.item_of in
    let count = c.len-count.ensures in
    record { within = omega (arith, few, size, count) }

pub overflow_add-item : goal.overflow_add-item
overflow_add-item c =
    let parts = map C.item_of c.as_slice-parts.result.now in
    let few : length c.in_ok-read.read.items ≤ length parts =
    read_within parts c.in_ok-read.read c.in_ok-read.ensures.read in
    let size : length parts ≡ length c.as_slice-parts.result.now = length-map c.as_slice-parts.result.now C.item_of in
    let same : length c.as_slice-parts.result.now ≡ length c.in-Ok.items = ap length c.as_slice-parts.ensures in
    let all = c.in-Ok.ensures.few in
    let count = c.len-count.ensures in
    omega (arith, few, size, same, all, count)

pub returns-in-Some : goal.returns-in-Some
returns-in-Some c =
    let parts = map C.item_of c.as_slice-parts.result.now in
    let reads : items_of c.args.block.now ≡ Ok parts =
    c.in-Ok.ensures.items ∙ ap (λ (l : List ItemInCode). Ok (map C.item_of l)) (sym c.as_slice-parts.ensures) in
    record {
      judged = batch_unadmitted c.args.book.now (state_of c.args.connection.now) c.args.block.now c.args.left.now
          c.if-not-connection.false parts reads c.in_ok-read.read c.in_ok-read.ensures.read c.len-count.result
          c.len-count.ensures c.in-Some.rest.now
          (some_behind_all (λ rest. rest.now) parts c.len-count.result c.args.left.now c.in_ok-rest.field-0
          c.in-Some.rest
          c.in-Some.is c.in_ok-rest.ensures.behind);
    }

pub returns-in-Some-refusal : goal.returns-in-Some-refusal
returns-in-Some-refusal c =
    let past = c.args.book.now in
    let old = state_of c.args.connection.now in
    let block = c.args.block.now in
    let left = c.args.left.now in
    let parts = map C.item_of c.as_slice-parts.result.now in
    let reads : items_of block ≡ Ok parts =
    c.in-Ok.ensures.items ∙ ap (λ (l : List ItemInCode). Ok (map C.item_of l)) (sym c.as_slice-parts.ensures) in
    record {
      judged = batch_unread_item past old block left c.if-not-connection.false parts reads c.in_ok-read.read
          c.in_ok-read.ensures.read
          (none_stand past old block left c.if-not-connection.false parts reads c.in_ok-read.read
          c.in_ok-read.ensures.read
          c.len-count.result c.len-count.ensures
          (none_behind_all (λ rest. rest.now) parts c.len-count.result left c.in_ok-rest.field-0 c.in-None.is
          c.in_ok-rest.ensures.behind))
          c.behind_reply-in-Some-refusal.result (λ found. option_map (λ rest. rest.now) found) c.in-Some-refusal.inner
          (c.len-count.result + 1) c.in-Some-refusal.is (ap (λ (n : ℕ). n + 1) c.len-count.ensures)
          c.behind_reply-in-Some-refusal.ensures.behind;
    }

pub returns : goal.returns
returns c =
    let left = c.args.left.now in
    let parts = map C.item_of c.as_slice-parts.result.now in
    let reads : items_of c.args.block.now ≡ Ok parts =
    c.in-Ok.ensures.items ∙ ap (λ (l : List ItemInCode). Ok (map C.item_of l)) (sym c.as_slice-parts.ensures) in
    let missing : IsBehindVerdicts parts c.len-count.result left None =
    none_behind_all (λ rest. rest.now) parts c.len-count.result left c.in_ok-rest.field-0 c.in-None.is
    c.in_ok-rest.ensures.behind in
    record {
      judged = c.behind_batch.ensures.judged (state_of c.args.connection.now) c.args.block.now parts reads
          (subst (λ (o : Option ItemRefusal). AreRead parts (record { items = c.in_ok-read.read.items; refusal = o }))
          c.in-None-refusal.is c.in_ok-read.ensures.read)
          c.if-not-connection.false
          (subst (λ (n : ℕ). IsBehindVerdicts parts n left None) c.len-count.ensures missing);
    }
