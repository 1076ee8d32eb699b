use Rattle.std.proofs.Common.{◌≡◌, ◌∙◌, Some, sym}
use Rattle.std.proofs.lemmas.Option.{same_Some}
use Rattle.kn_reply_reader.proofs.ValueReplyLaws.{value_cut, value_there}
use Rattle.kn_reply_reader.proofs.value_reply.read_value.Goals as goal

pub returns-in_default-clause-only : goal.returns-in_default-clause-only
returns-in_default-clause-only c = λ reply rest at.
    c.in_default.ensures.only at.text rest (value_cut c.args.left.now reply rest at)

pub returns-in-Some-2-clause-only : goal.returns-in-Some-2-clause-only
returns-in-Some-2-clause-only c = λ reply rest at.
    let same = c.in-Some.ensures.only at.text rest (value_cut c.args.left.now reply rest at) in
    let told : c.in_ok-reply.field-0 ≡ Some reply = c.in_ok-reply.ensures.only reply
    (value_there c.args.left.now c.in-Some.text.now c.in-Some.rest.now reply rest at same) in
    (same_Some c.in-Some-2.reply reply (sym c.in-Some-2.is ∙ told), same.1)

pub returns-in-None-clause-only : goal.returns-in-None-clause-only
returns-in-None-clause-only c = λ reply rest at.
    let same = c.in-Some.ensures.only at.text rest (value_cut c.args.left.now reply rest at) in
    let told : c.in_ok-reply.field-0 ≡ Some reply = c.in_ok-reply.ensures.only reply
    (value_there c.args.left.now c.in-Some.text.now c.in-Some.rest.now reply rest at same) in
    absurd (let none = c.in-None.is in cc (told, none))
