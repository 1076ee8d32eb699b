use Rattle.kn_rows.proofs.Pieces.{rows-nodes}
use Rattle.kn_answer.proofs.laws.bases_have_nodes.Goals as goal

pub returns : goal.returns
returns c = λ parts names base is asked. rows-nodes asked names parts base.rows is.rows
