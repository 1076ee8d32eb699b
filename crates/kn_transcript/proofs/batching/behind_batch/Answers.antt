use Rattle.std.proofs.Common.{◌∙◌, refl, option_map, None, length}
use Rattle.kn_history.specs.History.{next_id}
use Rattle.kn_transcript.proofs.BatchingLaws.{all_asked, none_stand, batch_made, batch_refused}
use Rattle.kn_transcript.proofs.batching.behind_batch.Goals as goal

pub returns-in-Ok : goal.returns-in-Ok
returns-in-Ok c = record {
  judged = λ now block parts reads read admin missing.
      let past = c.args.book.now in
      let left = c.args.left.now in
      batch_made past now block left admin parts reads (record { items = c.args.items; refusal = None }) read
      (none_stand past now block left admin parts reads (record { items = c.args.items; refusal = None }) read
      (length c.args.items) refl missing)
      c.behind_reply.result (λ found. option_map (λ rest. rest.now) found) refl c.args.items
      (all_asked parts c.args.items read) c.commit-done.new.self c.commit-done.result.id c.count_additions-added.result
      c.commit-done.result.version (c.commit-done.ensures.log ∙ c.in-Ok.ensures.log) c.in-Ok.ensures.follows
      (c.commit-done.ensures.id ∙ c.in-Ok.ensures.id) c.commit-done.ensures.version
      (c.count_additions-added.ensures (next_id past)) c.behind_reply.ensures.behind;
}

pub returns-in-Err : goal.returns-in-Err
returns-in-Err c = record {
  judged = λ now block parts reads read admin missing.
      let past = c.args.book.now in
      let left = c.args.left.now in
      batch_refused past now block left admin parts reads (record { items = c.args.items; refusal = None }) read
      (none_stand past now block left admin parts reads (record { items = c.args.items; refusal = None }) read
      (length c.args.items) refl missing)
      c.behind_refusal.result (λ found. option_map (λ rest. rest.now) found) refl c.args.items
      (all_asked parts c.args.items read) c.prepare_batch.new.self c.in-Err.fault c.refusal_of_batch.result
      c.prepare_batch.ensures.kept c.in-Err.ensures.refused c.refusal_of_batch.ensures c.behind_refusal.ensures.behind;
}
