use Rattle.kn_session.specs.contracts.session.OpenSession.{the_view}
use Rattle.kn_session.proofs.Keeping.{kept_cleared}
use Rattle.kn_session.proofs.session.OpenSession.clear.Goals as goal

pub invariant_of-self : goal.invariant_of-self
invariant_of-self c =
    rw (c.clear.ensures, c.new.ensures)
    (kept_cleared c.self.inside.private c.self.inside.private_bytes (the_view c.self.inside) c.self.invariant)
