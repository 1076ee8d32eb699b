use Rattle.std.proofs.Common.{◌∙◌, ap, sym}
use Rattle.std.specs.Prelude.{option_map}
use Rattle.kn_refusals.specs.Refusals.{request_refusal}
use Rattle.kn_refusals.proofs.Stores.{refusal_of_store-request}
use Rattle.kn_refusals.proofs.updates.refusal_of_store.Goals as goal

pub returns : goal.returns
returns c = c.refusal_as_request.ensures ∙ ap (option_map request_refusal) c.item_refusal_of_store.ensures
    ∙ sym (refusal_of_store-request c.args.fault)
