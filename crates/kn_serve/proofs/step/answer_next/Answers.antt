use Rattle.kn_wire.specs.Requests.{Faulty}
use Rattle.kn_serve.proofs.StepLaws.{refused_took, refused_as, refused_line}
use Rattle.kn_serve.proofs.step.answer_next.Goals as goal

pub returns-in-Block-clause-stepped : goal.returns-in-Block-clause-stepped
returns-in-Block-clause-stepped g c =
    refused_as _ _ _ _ _ _ _ _ c.in-Err.fault c.next.follows.holds-at-none c.in-Err.is _ _
    (c.in-Ok-refuse.ensures.exact _ _) c.in-Block.is

pub returns-in-Syntax : goal.returns-in-Syntax
returns-in-Syntax g c = record {
  ready = c.requires.ready;
  of_history = c.requires.of_history;
  last = c.requires.last;
  stepped = refused_line _ _ _ _ _ _ _ _ c.in-Err.fault c.next.follows.holds-at-none c.in-Err.is
      (c.in-Ok-refuse.ensures.exact _ _) c.in-Syntax.is;
}

pub returns-in-Err-refuse-clause-stepped : goal.returns-in-Err-refuse-clause-stepped
returns-in-Err-refuse-clause-stepped g c = (
  Faulty c.in-Err.fault,
  refused_took _ _ _ _ _ _ _ _ c.in-Err.fault c.next.follows.holds-at-none c.in-Err.is _
      (c.in-Err-refuse.ensures.exact _ _),
)
