use Rattle.std.proofs.Common.{refl, ◌∙◌, arith}
use Rattle.kn_fields.proofs.Steps.{whole_end, whole_more, whole_fault}
use Rattle.kn_formula.proofs.Steps.{read_is}
use Rattle.kn_formula.proofs.grammar.written.Goals as goal

pub returns-in_err-whole : goal.returns-in_err-whole
returns-in_err-whole c =
    whole_fault _ _ _ _ _ c.from_residual.ensures.1 c.in_err-whole.ensures
    (read_is _ _ _ (omega (arith, c.len.ensures)) refl)

pub returns-in-Some : goal.returns-in-Some
returns-in-Some c = read_is _ _ _ (omega (arith, c.len.ensures)) c.in_ok-whole.ensures
    ∙ whole_more _ _ _ _ c.in-Some.ensures

pub returns-in-None : goal.returns-in-None
returns-in-None c = read_is _ _ _ (omega (arith, c.len.ensures)) c.in_ok-whole.ensures ∙ whole_end _ _ c.in-None.ensures
