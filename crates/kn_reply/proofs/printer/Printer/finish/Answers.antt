use Rattle.std.proofs.Common.{ℕ, Bool, true, false, List, [], ◌++◌, subst, append-nil}
use Rattle.kn_outside.specs.Printing.{Prints}
use Rattle.kn_reply.specs.Gathering.{Gathered, GatheredBy}
use Rattle.kn_reply.proofs.Gathering.{gathered_all}
use Rattle.kn_reply.proofs.printer.Printer.finish.Goals as goal

pub returns-then-self : goal.returns-then-self
unfolding Gathered
returns-then-self g c = λ text first before.
    let new = g.O.Sink.seen c.flush.new.out in
    let printer = c.flush.new.self in
    subst (λ (t : List ℕ). Prints false t first new) (append-nil text)
    (subst (λ (failed : Bool). GatheredBy failed printer.pending.items (text ++ []) first new) c.if-self.true
    (c.flush.ensures.same text first before))

pub returns-else-self : goal.returns-else-self
unfolding Gathered
returns-else-self g c = λ text first before.
    let new = g.O.Sink.seen c.flush.new.out in
    let printer = c.flush.new.self in
    subst (λ (t : List ℕ). Prints true t first new) (append-nil text)
    (gathered_all (text ++ []) first new
    (subst (λ (items : List ℕ). GatheredBy false items (text ++ []) first new) (c.flush.ensures.empty c.if-self.false)
    (subst (λ (failed : Bool). GatheredBy failed printer.pending.items (text ++ []) first new) c.if-self.false
    (c.flush.ensures.same text first before))))
