use Rattle.std.proofs.Common.{◌≡◌, arith, sym, ◌∙◌, ap, subst}
use Rattle.std.specs.Prelude.{IfOk}
use Rattle.kn_lex.specs.Literal.{value_behind}
use Rattle.kn_lex.proofs.Values.{value_same, value_whole}
use Rattle.kn_lex.proofs.escapes.literal.Goals as goal

pub returns-in_default : goal.returns-in_default
returns-in_default c =
    subst (λ bytes. IfOk c.from_slice.result (λ value. value ≡ bytes))
    (sym (value_same _ c.in_default.ensures) ∙ ap (value_behind 0) c.inside-inside.ensures) c.from_slice.ensures

pub returns : goal.returns
returns c = value_whole c.loop-at.value c.inside-inside.result.now c.loop-at.at (omega arith) c.loop-at.invariant.value
    ∙ ap (value_behind 0) c.inside-inside.ensures
