use Rattle.std.proofs.Math.Seq.{take-add}
use Rattle.kn_outside.proofs.Parts.{left_after}
use Rattle.kn_outside.proofs.mem_link.MemLinkLink.read.Goals as goal

pub returns-clause-ok : goal.returns-clause-ok
returns-clause-ok c =
    rw (
      ← c.self.view_is,
      take-add c.self.inside.at c.cut-bytes.result c.self.inside.input,
      left_after c.self.inside.input c.self.inside.at c.cut-bytes.result,
      c.saturating_add-self-inside.ensures,
      c.saturating_add-self-inside-2.ensures,
    )
