-- What the worked connections of an administrator share.
use Rattle.std.proofs.Common.{ℕ, ◌≡◌, List, codes, refl, ap, ◌∙◌, Result, Ok, true, None, ◌==◌}
use Rattle.std.proofs.lemmas.Bool.{eq-eqb}
use Rattle.std.specs.Prelude.{is_some}
use Rattle.std.specs.Result.{result_ok}
use Rattle.kn_trees.specs.declared.assertion.Assertion.{Assertion}
use Rattle.kn_assert.specs.Reading.{reading_of}
use Rattle.kn_fields.specs.declared.fault.ReadFault.{ReadFault}
use Rattle.kn_wire.specs.Requests.{Open, Admin}
use Rattle.kn_daemon.specs.Shapes.{shape_of}
use Rattle.kn_daemon.specs.Daemon.{DaemonConfig, State, first_state, state_after, refusal_at_reading}
use Rattle.kn_daemon.specs.Daemon.{refusal_at_verdict}
use Rattle.kn_worked.specs.Texts.{credential_text, credential_assertion}
use Rattle.kn_worked.specs.Connections.{policy_history}
use Rattle.kn_worked.proofs.Readings.{credential_reading}

abbrev pub after_open : State
after_open = state_after policy_history first_state (shape_of Open)

abbrev pub after_admin : State
after_admin = state_after policy_history after_open (shape_of (Admin (codes "733363726574")))

pub credential_valid : is_some (result_ok (reading_of credential_text)) ≡ true
credential_valid = ap (λ (r : Result Assertion ReadFault). is_some (result_ok r)) credential_reading

-- a text that is read and has no verdict against it is admitted, however a refusal would be told
pub admits : {X : Type 0} {text : List ℕ} {a : Assertion} (read : ℕ → ℕ → X) (auth : ℕ → X) (g : DaemonConfig)
    → reading_of text ≡ Ok a → g.verdict text a ≡ 0
    → refusal_at_reading read (reading_of text) (λ a. refusal_at_verdict auth (g.verdict text a)) ≡ None
admits {text} read auth g reading verdict =
    ap (λ (r : Result Assertion ReadFault). refusal_at_reading read r
    (λ a. refusal_at_verdict auth (g.verdict text a))) reading
    ∙ ap (refusal_at_verdict auth) verdict

pub admitted : {X : Type 0} (read : ℕ → ℕ → X) (auth : ℕ → X) (g : DaemonConfig)
    → g.verdict credential_text credential_assertion ≡ 0
    → refusal_at_reading read (reading_of credential_text)
    (λ a. refusal_at_verdict auth (g.verdict credential_text a)) ≡ None
admitted read auth g verdict = admits read auth g credential_reading verdict

pub same_caller : (caller : ℕ) → (caller == caller) ≡ true
same_caller caller = eq-eqb caller caller refl
