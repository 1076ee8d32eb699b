use Rattle.std.proofs.Common.{◌≡◌, ℕ, ◌+◌, ◌≤◌, ◌<◌, length, get_or, ap, ◌∙◌, subst, arith}
use Rattle.kn_rows.specs.Extending.{AddsRequester}
use Rattle.kn_rows.proofs.NewNames.{AddsNames-requester, is_among}
use Rattle.kn_rows.proofs.numbered.Numbered.add_requesters.Goals as goal

pub loop-requester-preserved : goal.loop-requester-preserved
loop-requester-preserved c =
    let items : c.as_slice-requester-items.result.now ≡ c.args.requesters.now = c.as_slice-requester-items.ensures in
    let i : ℕ = c.loop-requester.requester-index in
    let within : i < length c.args.requesters.now = omega (arith, ap length items) in
    let here : c.requester-item.result ≡ get_or c.args.requesters.now i c.requester-item.result = c.requester-item.is
    ∙ ap (λ xs. get_or xs i c.requester-item.result) items in
    let added : AddsRequester c.requester-item.result c.loop-requester.self c.add_requester.new.self =
    subst (λ name. AddsRequester name c.loop-requester.self c.add_requester.new.self) c.as_slice.ensures
    c.in_ok-add_requester.ensures in
    record {
      few = let few : length c.add_requester.new.self.names ≤ length c.loop-requester.self.names + 1 = added.few in
          omega (arith, c.loop-requester.invariant.few);
      numbered = added.numbered c.args.requesters.now
          (is_among c.args.requesters.now i c.requester-item.result within here) c.loop-requester.invariant.numbered;
      reached = AddsNames-requester c.args.requesters.now i c.requester-item.result c.args.self.now.names
          c.loop-requester.self c.add_requester.new.self within here added c.loop-requester.invariant.reached;
      levels = added.levels ∙ c.loop-requester.invariant.levels;
      rows = added.rows ∙ c.loop-requester.invariant.rows;
    }
