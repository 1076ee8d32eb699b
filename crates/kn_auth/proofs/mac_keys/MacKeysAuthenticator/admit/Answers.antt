use Rattle.std.proofs.Common.{sym, ◌∙◌}
use Rattle.kn_auth.proofs.Signatures.{of_another}
use Rattle.kn_auth.proofs.mac_keys.MacKeysAuthenticator.admit.Goals as goal

pub returns-in_default-behind : goal.returns-in_default-behind
returns-in_default-behind c =
    sym (of_another c.args.self.now c.args.text.now c.args.assertion.now c.in-Some.signature c.in-Some.is
    (λ digits e. c.in_default-behind.ensures digits (c.as_slice.ensures ∙ e)))
