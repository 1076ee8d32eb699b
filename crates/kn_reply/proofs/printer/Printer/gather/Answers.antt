use Rattle.std.proofs.Common.{ℕ, Bool, false, List, ◌++◌, sym, subst}
use Rattle.kn_reply.specs.Gathering.{Gathered, GatheredBy}
use Rattle.kn_reply.proofs.Gathering.{gathered_more, gathered_failed}
use Rattle.kn_reply.proofs.printer.Printer.gather.Goals as goal

pub returns-then-self-clause-put : goal.returns-then-self-clause-put
unfolding Gathered
returns-then-self-clause-put g c = λ taken seen text first before.
    let pending = c.args.self.now.pending.items in
    subst (λ (failed : Bool). GatheredBy failed pending (text ++ c.args.bytes.now) first seen) (sym c.if-self.true)
    (gathered_failed pending c.args.bytes.now text first seen
    (subst (λ (failed : Bool). GatheredBy failed pending text first seen) c.if-self.true before))

pub returns-in-Ok-clause-put : goal.returns-in-Ok-clause-put
unfolding Gathered
returns-in-Ok-clause-put g c = λ taken seen text first before.
    let pending = c.args.self.now.pending.items in
    let bytes = c.args.bytes.now in
    subst (λ (failed : Bool). GatheredBy failed c.try_extend_from_slice.new.self.items (text ++ bytes) first seen)
    (sym c.if-self.false)
    (subst (λ (items : List ℕ). GatheredBy false items (text ++ bytes) first seen) (sym c.in-Ok.ensures.ok)
    (gathered_more pending bytes text first seen
    (subst (λ (failed : Bool). GatheredBy failed pending text first seen) c.if-self.false before)))
