use Rattle.std.proofs.Common.{ℕ, List, ◌∙◌, sym, subst}
use Rattle.kn_reply.specs.Gathering.{Puts}
use Rattle.kn_reply.proofs.Gathering.{plain_text}
use Rattle.kn_reply.proofs.value_printing.put_quoted.Goals as goal

pub returns-then-are_plain : goal.returns-then-are_plain
returns-then-are_plain g c =
    subst (λ (text : List ℕ). Puts text c.args.printer.now (g.O.Sink.seen c.args.out.now) c.put.new.self
    (g.O.Sink.seen c.put.new.out))
    (sym (plain_text c.args.principal.now (sym c.are_plain.ensures ∙ c.if-are_plain.true))) c.put.ensures
