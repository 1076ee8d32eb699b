use Rattle.std.proofs.Common.{◌≤◌, length, List, ℕ, arith, subst}
use Rattle.std.proofs.lemmas.Result.{err_from_is_err_and}
use Rattle.kn_follow.specs.Answers.{Awaits}
use Rattle.kn_follow.proofs.PullSteps.{held-first, waited-not}
use Rattle.kn_follow.proofs.asking.wait.Goals as goal

pub pieces-init : goal.pieces-init
pieces-init g c = held-first _ _

pub returns-in_err-read_chunk-clause-fault : goal.returns-in_err-read_chunk-clause-fault
returns-in_err-read_chunk-clause-fault g c =
    let told = err_from_is_err_and c.from_residual-in_err-read_chunk.result
    c.from_residual-in_err-read_chunk.ensures.1 in
    let P : List ℕ → Type 0 = λ t. Awaits c.args.request t in
    let waits : Awaits c.args.request c.pieces.held =
    subst P c.as_slice.ensures (rw c.in_default.is at c.in_ok-count.ensures.none) in
    let short : length c.pieces.held ≤ 300000 = omega (arith, c.len.ensures, c.if-len-gt-REPLY_BYTES.false) in
    rw (told.1, told.2)
    (waited-not c.args.request c.args.held.now c.pieces.held (g.L.Sink.seen c.args.link.now)
    (g.L.Sink.seen c.pieces.link) (g.L.Sink.seen c.read_chunk.new.link)
    c.in_err-read_chunk.field-0.0 c.pieces.invariant waits short c.in_err-read_chunk.ensures.fault)
