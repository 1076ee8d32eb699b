use Rattle.std.proofs.Common.{ℕ, false, List, [], sym, subst}
use Rattle.kn_reply.specs.Gathering.{Gathered, GatheredBy}
use Rattle.kn_reply.proofs.Gathering.{gathered_nothing}
use Rattle.kn_reply.proofs.printer.Printer.new.Goals as goal

pub returns : goal.returns
unfolding Gathered
returns g c = λ seen. subst (λ (pending : List ℕ). GatheredBy false pending [] seen seen) (sym c.new.ensures)
    (gathered_nothing seen)
