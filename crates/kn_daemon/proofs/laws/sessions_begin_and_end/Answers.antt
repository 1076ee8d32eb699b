use Rattle.kn_daemon.proofs.Lifetimes.{open-new, started-never_falls, close-ends, unwatch-ends}
use Rattle.kn_daemon.proofs.laws.sessions_begin_and_end.Goals as goal

pub returns : goal.returns
returns c = record {
  begins = open-new;
  count = started-never_falls;
  ends = close-ends;
  standing = unwatch-ends;
}
