use Rattle.std.specs.Arc.{arc_value}
use Rattle.kn_session.proofs.Keeping.{kept_new}
use Rattle.kn_session.proofs.session.OpenSession.new.Goals as goal

pub invariant_of-result : goal.invariant_of-result
invariant_of-result c =
    rw (c.new.ensures, c.new-2.ensures, c.new-3.ensures) (kept_new c.args.number (arc_value c.args.snapshot))
