use Rattle.kn_wire.proofs.LineFits.{form_answer}
use Rattle.kn_wire.proofs.feed.Feed.read_spent.Goals as goal

pub returns-clause-form : goal.returns-clause-form
returns-clause-form c = form_answer c.read_line.result c.of.result.now c.read_line.ensures
