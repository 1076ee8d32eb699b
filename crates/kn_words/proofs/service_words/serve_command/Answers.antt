use Rattle.std.proofs.Common.{◌∙◌, ap₂}
use Rattle.std.proofs.lemmas.Result.{IfOk-weaker}
use Rattle.clap.specs.Words.{with_rule}
use Rattle.kn_words.proofs.service_words.serve_command.Goals as goal

pub returns : goal.returns
returns c =
    let one = c.in_ok-with_address.ensures.shape c.address_arg.ensures.local ∙ ap₂ with_rule c.new-command.ensures.app
    c.address_arg.ensures.rule in
    let two = c.in_ok-with_policy.ensures.shape c.policy_arg.ensures.local ∙ ap₂ with_rule one
    c.policy_arg.ensures.rule in
    let three = c.in_ok-with_keys.ensures.shape c.keys_arg.ensures.local ∙ ap₂ with_rule two c.keys_arg.ensures.rule in
    let four = c.in_ok-with_workers.ensures.shape c.workers_arg.ensures.local ∙ ap₂ with_rule three
    c.workers_arg.ensures.rule in
    IfOk-weaker c.arg-5.result _ _ (λ command adds. adds.shape c.connections_arg.ensures.local ∙ ap₂ with_rule four
    c.connections_arg.ensures.rule) c.arg-5.ensures
