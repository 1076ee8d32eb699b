use Rattle.std.proofs.Common.{◌≡◌, ℕ, Bool, false, List, [], ◌++◌, sym, subst}
use Rattle.kn_reply.specs.Gathering.{Gathered, GatheredBy}
use Rattle.kn_reply.specs.declared.printer.Printer.{Printer}
use Rattle.kn_reply.proofs.Gathering.{gathered_direct, gathered_direct_cut}
use Rattle.kn_reply.proofs.printer.Printer.put_first.Goals as goal

pub returns-in-Ok : goal.returns-in-Ok
unfolding Gathered
returns-in-Ok g c = λ text first before.
    let printer = c.args.self.now in
    let bytes = c.args.bytes.now in
    let old = g.O.Sink.seen c.args.out.now in
    let new = g.O.Sink.seen c.write_all.new.sink in
    let going : printer.failed ≡ false = c.gather.ensures.going c.if-gather.false in
    let empty : printer.pending.items ≡ [] = c.requires going in
    let same : c.gather.new.self ≡ printer = c.gather.ensures.full c.if-gather.false in
    let begun : GatheredBy false [] text first old =
    subst (λ (items : List ℕ). GatheredBy false items text first old) empty
    (subst (λ (failed : Bool). GatheredBy failed printer.pending.items text first old) going before) in
    subst (λ (p : Printer g.row.N). GatheredBy p.failed p.pending.items (text ++ bytes) first new) (sym same)
    (subst (λ (failed : Bool). GatheredBy failed printer.pending.items (text ++ bytes) first new) (sym going)
    (subst (λ (items : List ℕ). GatheredBy false items (text ++ bytes) first new) (sym empty)
    (gathered_direct bytes text first old new begun c.in-Ok.ensures)))

pub returns-in-Err : goal.returns-in-Err
unfolding Gathered
returns-in-Err g c = λ text first before.
    let printer = c.args.self.now in
    let old = g.O.Sink.seen c.args.out.now in
    let new = g.O.Sink.seen c.write_all.new.sink in
    let going : printer.failed ≡ false = c.gather.ensures.going c.if-gather.false in
    let empty : printer.pending.items ≡ [] = c.requires going in
    let begun : GatheredBy false [] text first old =
    subst (λ (items : List ℕ). GatheredBy false items text first old) empty
    (subst (λ (failed : Bool). GatheredBy failed printer.pending.items text first old) going before) in
    gathered_direct_cut c.args.bytes.now c.gather.new.self.pending.items text first old new begun c.in-Err.ensures
