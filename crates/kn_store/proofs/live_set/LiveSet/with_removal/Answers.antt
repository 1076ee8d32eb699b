use Rattle.std.proofs.Common.{rules, refl, sym, ap, length, ◌∙◌, subst, inr}
use Rattle.std.specs.Prelude.{◌≡◌, Some, None}
use Rattle.std.proofs.lemmas.Option.{same_Some}
use Rattle.kn_history.specs.declared.fault.StoreFault.TheVariants.{Unknown, HistoryFull}
use Rattle.kn_store.specs.LiveView.{refusal_of_removal, with_removal}
use Rattle.kn_pages.specs.Pages.{without_item}
use Rattle.kn_store.proofs.LiveLemmas.{cut_at}
use Rattle.kn_store.proofs.LiveSetLemmas.{removed_set, removed_view, removed_size, removed_count, removal_accepted}
use Rattle.kn_store.proofs.LiveSetLemmas.{refused_unknown, refused_full}
use Rattle.kn_store.specs.declared.live_set.TheConstants.{CREDENTIALS_PAGE}
use Rattle.kn_pages.proofs.PageLemmas.{sized-some}
use Rattle.kn_store.proofs.live_set.LiveSet.with_removal.Goals as goal

pub returns-in_default-clause-refused : goal.returns-in_default-clause-refused
returns-in_default-clause-refused c =
    inr (subst (λ v. refusal_of_removal v c.args.id ≡ Some (Unknown c.args.id)) c.self.view_is
    (refused_unknown c.self.inside c.args.id (search rules)))

pub returns-then-self-ge-UPDATES-clause-refused : goal.returns-then-self-ge-UPDATES-clause-refused
returns-then-self-ge-UPDATES-clause-refused c =
    let cut = cut_at c.self.inside.pages c.args.id c.in-Some.page c.in-Some.place c.in-Some.ensures in
    inr (subst (λ v. refusal_of_removal v c.args.id ≡ Some (HistoryFull c.self.inside.changes)) c.self.view_is
    (refused_full c.self.inside c.args.id c.in-Some.page c.in-Some.place cut (search rules)))

pub overflow_cast-size : goal.overflow_cast-size
overflow_cast-size c =
    let cut = cut_at c.self.inside.pages c.args.id c.in-Some.page c.in-Some.place c.in-Some.ensures in
    let long : c.len-size.result ≡ length cut.credential.text =
    c.len-size.ensures
    ∙ ap length (c.credential.ensures.text
    ∙ ap (λ x. x.text) (same_Some c.item.result.now cut.credential (sym c.item.ensures ∙ cut.there))) in
    let few = removed_size c.self.inside (without_item c.self.inside.pages c.in-Some.page c.in-Some.place) c.args.id
    c.in-Some.page c.in-Some.place c.len-size.result cut refl long
    c.self.invariant in
    let most = c.self.invariant.bytes_limit in
    search rules

pub without_item-requires-clause-none_empty : goal.without_item-requires-clause-none_empty
without_item-requires-clause-none_empty c = sized-some CREDENTIALS_PAGE c.self.inside.pages c.self.invariant.pages

pub overflow_sub-result : goal.overflow_sub-result
overflow_sub-result c =
    let cut = cut_at c.self.inside.pages c.args.id c.in-Some.page c.in-Some.place c.in-Some.ensures in
    let long : c.len-size.result ≡ length cut.credential.text =
    c.len-size.ensures
    ∙ ap length (c.credential.ensures.text
    ∙ ap (λ x. x.text) (same_Some c.item.result.now cut.credential (sym c.item.ensures ∙ cut.there))) in
    removed_count c.self.inside c.in-Ok.pages c.args.id c.in-Some.page c.in-Some.place c.len-size.result cut
    c.in-Ok.ensures long c.self.invariant

pub overflow_sub-result-2 : goal.overflow_sub-result-2
overflow_sub-result-2 c =
    let cut = cut_at c.self.inside.pages c.args.id c.in-Some.page c.in-Some.place c.in-Some.ensures in
    let long : c.len-size.result ≡ length cut.credential.text =
    c.len-size.ensures
    ∙ ap length (c.credential.ensures.text
    ∙ ap (λ x. x.text) (same_Some c.item.result.now cut.credential (sym c.item.ensures ∙ cut.there))) in
    removed_size c.self.inside c.in-Ok.pages c.args.id c.in-Some.page c.in-Some.place c.len-size.result cut
    c.in-Ok.ensures long c.self.invariant

pub invariant_of-result : goal.invariant_of-result
invariant_of-result c =
    let cut = cut_at c.self.inside.pages c.args.id c.in-Some.page c.in-Some.place c.in-Some.ensures in
    let long : c.len-size.result ≡ length cut.credential.text =
    c.len-size.ensures
    ∙ ap length (c.credential.ensures.text
    ∙ ap (λ x. x.text) (same_Some c.item.result.now cut.credential (sym c.item.ensures ∙ cut.there))) in
    removed_set c.self.inside c.in-Ok.pages c.args.id c.in-Some.page c.in-Some.place c.len-size.result cut
    c.in-Ok.ensures long c.self.invariant c.if-self-ge-UPDATES.false

pub returns-clause-ok : goal.returns-clause-ok
returns-clause-ok c =
    let cut = cut_at c.self.inside.pages c.args.id c.in-Some.page c.in-Some.place c.in-Some.ensures in
    let long : c.len-size.result ≡ length cut.credential.text =
    c.len-size.ensures
    ∙ ap length (c.credential.ensures.text
    ∙ ap (λ x. x.text) (same_Some c.item.result.now cut.credential (sym c.item.ensures ∙ cut.there))) in
    removed_view c.self.inside c.in-Ok.pages c.args.id c.in-Some.page c.in-Some.place c.len-size.result cut
    c.in-Ok.ensures long c.self.invariant
    ∙ ap (λ v. with_removal v c.args.id) c.self.view_is

pub returns-clause-accepted : goal.returns-clause-accepted
returns-clause-accepted c =
    let cut = cut_at c.self.inside.pages c.args.id c.in-Some.page c.in-Some.place c.in-Some.ensures in
    subst (λ v. refusal_of_removal v c.args.id ≡ None) c.self.view_is
    (removal_accepted c.self.inside c.args.id c.in-Some.page c.in-Some.place cut c.if-self-ge-UPDATES.false)
