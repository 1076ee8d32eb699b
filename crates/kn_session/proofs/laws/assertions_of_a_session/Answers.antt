use Rattle.kn_session.proofs.SessionTexts.{texts_are_short, ids_differ, privates_are_read}
use Rattle.kn_session.proofs.laws.assertions_of_a_session.Goals as goal

pub returns : goal.returns
returns c = record { bytes = texts_are_short; ids = ids_differ; read = privates_are_read }
