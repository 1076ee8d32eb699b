use Rattle.kn_serve.proofs.CompletenessLaws.{completes}
use Rattle.kn_serve.proofs.serving.serve_with_base.Goals as goal

pub returns-clause-complete : goal.returns-clause-complete
returns-clause-complete g c = completes _ _ _ _ _ _ c.serve_requests.ensures.serves
