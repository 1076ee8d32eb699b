use Rattle.kn_serve.proofs.HandlingLaws.{bye_told}
use Rattle.kn_serve.proofs.answering.say_bye.Goals as goal

pub returns : goal.returns
returns g c = record { exact = λ g' now. bye_told g' _ now _ _ c.print.ensures }
