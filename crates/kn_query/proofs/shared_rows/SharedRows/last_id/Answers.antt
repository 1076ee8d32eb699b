use Rattle.std.proofs.Common.{◌≡◌, ℕ, suc, ◌-◌, List, length, Some, sym, subst, ◌∙◌, arith}
use Rattle.std.specs.Prelude.{slice_get}
use Rattle.std.proofs.lemmas.Option.{slice_get_within}
use Rattle.kn_history.specs.History.{NumberedText}
use Rattle.kn_history.specs.Ids.{IdsAscend}
use Rattle.kn_query.specs.Following.{AreUpTo}
use Rattle.kn_query.proofs.Rows.{last-up_to}
use Rattle.kn_query.proofs.shared_rows.SharedRows.last_id.Goals as goal

pub returns-in-Some-clause-last : goal.returns-in-Some-clause-last
returns-in-Some-clause-last c =
    let seen : List NumberedText = c.as_slice.result.now in
    let last : NumberedText = c.in-Some.last.now in
    let here : slice_get seen (length seen - 1) ≡ Some last = sym c.in-Some.ensures.value in
    let within = slice_get_within seen (length seen - 1) last here in
    let long : length seen ≡ suc (length seen - 1) = omega (arith, within) in
    let ids : IdsAscend 0 seen = subst (IdsAscend 0) (sym c.as_slice.ensures) c.self.invariant.1 in
    subst (λ (l : List NumberedText). AreUpTo c.id.result l) (c.as_slice.ensures ∙ c.self.view_is)
    (subst (λ (n : ℕ). AreUpTo n seen) (sym c.id.ensures) (last-up_to 0 seen last (length seen - 1) ids long here))
