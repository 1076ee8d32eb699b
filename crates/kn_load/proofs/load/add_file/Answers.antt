use Rattle.std.proofs.Common.{List, ℕ, take, drop, subst}
use Rattle.kn_files.specs.Pieces.{pieces_of}
use Rattle.kn_load.specs.Loaded.{IsLoaded, StopsLoading}
use Rattle.kn_load.proofs.ReadResultLaws.{batch_is}
use Rattle.kn_load.proofs.load.add_file.Goals as goal

pub loop-from-preserved : goal.loop-from-preserved
loop-from-preserved g c =
    let batch = batch_is c.args.file.now c.as_slice.result.now c.args.spans.now c.loop-from.from c.batch_end-to.result
    c.in_ok-readings.readings
    c.as_slice.ensures c.requires.spans c.batch_end-to.ensures.some c.batch_end-to.ensures.within
    (c.in_ok-readings.ensures _ c.in_ok-results.ensures) in (
      c.batch_end-to.ensures.within,
      subst (λ (l : List (List ℕ)). IsLoaded l c.args.registry.now c.add_readings.new.root) batch.upto
          (c.in-Ok.ensures.loaded (take c.loop-from.from (pieces_of c.args.file.now)) batch.texts batch.are
          c.loop-from.invariant.1),
    )

pub returns-in-Err-clause-stopped : goal.returns-in-Err-clause-stopped
returns-in-Err-clause-stopped g c =
    let texts = pieces_of c.args.file.now in
    let batch = batch_is c.args.file.now c.as_slice.result.now c.args.spans.now c.loop-from.from c.batch_end-to.result
    c.in_ok-readings.readings
    c.as_slice.ensures c.requires.spans c.batch_end-to.ensures.some c.batch_end-to.ensures.within
    (c.in_ok-readings.ensures _ c.in_ok-results.ensures) in
    subst (λ (l : List (List ℕ)). StopsLoading l c.in-Err.fault) batch.whole
    (c.in-Err.ensures.stopped (take c.loop-from.from texts) batch.texts (drop c.batch_end-to.result texts) batch.are
    c.loop-from.invariant.1 batch.place)
