use Rattle.std.proofs.Common.{ℕ, Bool, true, false, List, [], ◌++◌, sym, subst}
use Rattle.kn_outside.specs.Printing.{Prints}
use Rattle.kn_reply.specs.Gathering.{Gathered, GatheredBy}
use Rattle.kn_reply.proofs.Gathering.{gathered_written, gathered_cut}
use Rattle.kn_reply.proofs.printer.Printer.flush.Goals as goal

pub returns-in-Ok-clause-same : goal.returns-in-Ok-clause-same
unfolding Gathered
returns-in-Ok-clause-same g c = λ text first before.
    let pending = c.args.self.now.pending.items in
    let old = g.O.Sink.seen c.args.out.now in
    let new = g.O.Sink.seen c.write_all.new.sink in
    let printed : Prints true pending old new =
    subst (λ (bytes : List ℕ). Prints true bytes old new) c.as_slice.ensures.value c.in-Ok.ensures in
    subst (λ (failed : Bool). GatheredBy failed c.clear.new.self.items (text ++ []) first new) (sym c.if-self.false)
    (subst (λ (items : List ℕ). GatheredBy false items (text ++ []) first new) (sym c.clear.ensures)
    (gathered_written pending text first old new
    (subst (λ (failed : Bool). GatheredBy failed pending text first old) c.if-self.false before) printed))

pub returns-in-Err-clause-same : goal.returns-in-Err-clause-same
unfolding Gathered
returns-in-Err-clause-same g c = λ text first before.
    let pending = c.args.self.now.pending.items in
    let old = g.O.Sink.seen c.args.out.now in
    let new = g.O.Sink.seen c.write_all.new.sink in
    let printed : Prints false pending old new =
    subst (λ (bytes : List ℕ). Prints false bytes old new) c.as_slice.ensures.value c.in-Err.ensures in
    gathered_cut pending pending text first old new
    (subst (λ (failed : Bool). GatheredBy failed pending text first old) c.if-self.false before) printed
