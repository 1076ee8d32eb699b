use Rattle.kn_generate.proofs.Loads.{generated_load}
use Rattle.kn_generate.proofs.laws.generated_texts_load.Goals as goal

pub returns : goal.returns
returns c = λ start n most. generated_load start n most
