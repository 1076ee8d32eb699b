use Rattle.kn_serve.proofs.HandlingLaws.{faulty_told}
use Rattle.kn_serve.proofs.answering.refuse.Goals as goal

pub returns : goal.returns
returns g c = record {
  exact = λ g' now. faulty_told g' _ now _ _ c.args.fault c.refusal_of_fault.result c.refusal_of_fault.ensures
      c.print.ensures;
}
