use Rattle.std.proofs.Common.{ℕ, refl, List, Some, None, ap, sym, ◌∙◌}
use Rattle.kn_fields.proofs.Words.{took, passed, is_itself, not_itself}
use Rattle.kn_fields.proofs.Steps.{not_none, going_more, going_last, going_none, going_over, fault_handed_on}
use Rattle.kn_fields.proofs.Steps.{reads_along}
use Rattle.kn_formula.specs.declared.written.Principal.TheVariants.{Literal, Name}
use Rattle.kn_formula.specs.declared.written.Written.TheVariants.{Who, Several}
use Rattle.kn_lex.specs.declared.token.Sort.TheVariants.{Name as SortName, Text}
use Rattle.kn_formula.specs.Reading.{parts_at, one_at}
use Rattle.kn_formula.proofs.Steps.{parts_read, parts_more, parts_alone, parts_start, whole_several, one_end, one_word}
use Rattle.kn_formula.proofs.Steps.{one_number, one_sign, one_other}
use Rattle.kn_formula.proofs.grammar.+form.Goals as goal

pub parts-returns-then-budget-eq0 : goal.parts-returns-then-budget-eq0
unfolding parts_at
parts-returns-then-budget-eq0 t c = rw c.if-budget-eq0.true refl

pub parts-returns-in_err-first : goal.parts-returns-in_err-first
parts-returns-in_err-first t c =
    fault_handed_on _ _ _ _ c.from_residual.ensures.1 c.in_err-first.ensures
    (parts_read c.args.budget c.args.rule _ None)

pub parts-returns-then-take_sign : goal.parts-returns-then-take_sign
parts-returns-then-take_sign t c =
    reads_along c.more_parts.result _
    (parts_read c.args.budget c.args.rule _ _ c.in_ok-first.ensures
    ∙ parts_more c.args.budget c.args.rule c.in_ok-first.first _ _ c.if-budget-eq0.false
    (took _ _ _ _ _ c.if-take_sign.true c.take_sign.ensures.taken c.rule_text.ensures))
    c.more_parts.ensures

pub parts-returns-in_ok-whole : goal.parts-returns-in_ok-whole
parts-returns-in_ok-whole t c =
    parts_read c.args.budget c.args.rule _ _ c.in_ok-first.ensures
    ∙ parts_alone c.args.budget c.args.rule c.in_ok-first.first _ _ _ c.if-budget-eq0.false
    (passed _ _ _ _ _ c.if-take_sign.false c.take_sign.ensures.taken c.rule_text.ensures)
    (c.take_sign.ensures.kept c.if-take_sign.false) c.in_ok-whole.ensures

pub more_parts-loop-left-init : goal.more_parts-loop-left-init
more_parts-loop-left-init t c = record {
  some = not_none _ _ c.args.first c.in_ok-add.ensures.ok;
  going = parts_start c.args.budget c.args.rule c.args.first _ _ _ c.new-parts.ensures c.in_ok-add.ensures.ok;
}

pub more_parts-returns-in_err-part : goal.more_parts-returns-in_err-part
more_parts-returns-in_err-part t c =
    fault_handed_on _ _ _ _ c.from_residual-in_err-part.ensures.1 c.in_err-part.ensures
    (going_none c.loop-left.invariant.going)

pub more_parts-returns-then-not-take_sign : goal.more_parts-returns-then-not-take_sign
more_parts-returns-then-not-take_sign t c =
    going_last c.loop-left.invariant.going c.loop-left-test.true c.in_ok-part.ensures
    (passed _ _ _ _ _ c.if-not-take_sign.true c.take_sign.ensures.taken c.rule_text.ensures)
    (c.take_sign.ensures.kept c.if-not-take_sign.true)
    (ap (Several c.args.rule) c.in_ok-add-2.ensures.ok
    ∙ whole_several c.args.rule _ c.in_ok-part.part c.loop-left.invariant.some)

pub more_parts-loop-left-preserved : goal.more_parts-loop-left-preserved
more_parts-loop-left-preserved t c = record {
  some = not_none _ _ c.in_ok-part.part c.in_ok-add-2.ensures.ok;
  going = going_more c.loop-left.invariant.going c.loop-left-test.true c.in_ok-part.ensures c.in_ok-add-2.ensures.ok
      (took _ _ _ _ _ c.if-not-take_sign.false c.take_sign.ensures.taken c.rule_text.ensures);
}

pub more_parts-returns : goal.more_parts-returns
more_parts-returns t c = going_over c.loop-left.invariant.going c.loop-left-test.false

pub one-returns-then-budget-eq0 : goal.one-returns-then-budget-eq0
unfolding one_at
one-returns-then-budget-eq0 t c = rw c.if-budget-eq0.true refl

pub one-returns-in_default : goal.one-returns-in_default
one-returns-in_default t c = one_end c.args.budget _ c.if-budget-eq0.false c.in_default.ensures

pub one-returns-in_ok-value-in-Text : goal.one-returns-in_ok-value-in-Text
one-returns-in_ok-value-in-Text t c =
    one_word c.args.budget _ _ c.in-Some.token.now.sort Text c.in-Some.token.now.text.now c.if-budget-eq0.false
    c.in-Some.ensures c.in-Text.is
    ∙ ap (λ (value : List ℕ). Some (Who (Literal value), c.take.new.self)) (sym c.in_ok-value-in-Text.ensures)

pub one-returns-in_ok-name-in-Name : goal.one-returns-in_ok-name-in-Name
one-returns-in_ok-name-in-Name t c =
    one_word c.args.budget _ _ c.in-Some.token.now.sort SortName c.in-Some.token.now.text.now c.if-budget-eq0.false
    c.in-Some.ensures c.in-Name.is
    ∙ ap (λ (name : List ℕ). Some (Who (Name name), c.take.new.self)) (sym c.in_ok-name-in-Name.ensures)

pub one-returns-in_err-of_front-in-Number : goal.one-returns-in_err-of_front-in-Number
one-returns-in_err-of_front-in-Number t c =
    fault_handed_on _ _ _ _ c.from_residual-in_err-of_front-in-Number.ensures.1 c.in_err-of_front-in-Number.ensures
    (one_number c.args.budget _ _ c.in-Some.token.now.sort c.in-Some.token.now.text.now None c.if-budget-eq0.false
    c.in-Some.ensures c.in-Number.is)

pub one-returns-in_ok-of_front-in-Number : goal.one-returns-in_ok-of_front-in-Number
one-returns-in_ok-of_front-in-Number t c =
    reads_along c.read_brackets.result _
    (one_number c.args.budget _ _ c.in-Some.token.now.sort c.in-Some.token.now.text.now _ c.if-budget-eq0.false
    c.in-Some.ensures c.in-Number.is c.in_ok-of_front-in-Number.ensures)
    (rw c.need_of.ensures at c.read_brackets.ensures)

pub one-returns-then-is_opening : goal.one-returns-then-is_opening
one-returns-then-is_opening t c =
    reads_along c.read_brackets-then-is_opening.result _
    (one_sign c.args.budget _ _ c.in-Some.token.now.sort c.in-Some.token.now.text.now _ c.if-budget-eq0.false
    c.in-Some.ensures c.in-Sign.is (is_itself _ _ (sym c.is_opening.ensures ∙ c.if-is_opening.true)))
    c.read_brackets-then-is_opening.ensures

pub one-returns-else-is_opening : goal.one-returns-else-is_opening
one-returns-else-is_opening t c =
    one_sign c.args.budget _ _ c.in-Some.token.now.sort c.in-Some.token.now.text.now None c.if-budget-eq0.false
    c.in-Some.ensures c.in-Sign.is (not_itself _ _ (sym c.is_opening.ensures ∙ c.if-is_opening.false))

pub one-returns-in_default-sort : goal.one-returns-in_default-sort
one-returns-in_default-sort t c =
    one_other c.args.budget _ _ c.in-Some.token.now.sort c.in-Some.token.now.text.now c.if-budget-eq0.false
    c.in-Some.ensures c.in_default-sort.not-Text c.in_default-sort.not-Name c.in_default-sort.not-Number
    c.in_default-sort.not-Sign
