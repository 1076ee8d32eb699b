-- A session that is pinned to a version by its number.
use Rattle.std.proofs.Common.{◌≡◌, ℕ, Option, Some, None, List, refl}
use Rattle.std.specs.Option.{option_map_or}
use Rattle.kn_history.specs.declared.update.Update.{Update}
use Rattle.kn_history.specs.Retained.{retained_version}
use Rattle.kn_session.specs.Sessions.{OpenSessions}
use Rattle.kn_reply.specs.declared.refusal.Refusal.{Refusal}
use Rattle.kn_daemon.specs.Shapes.{Looks, ForPinAt}
use Rattle.kn_daemon.specs.Daemon.{State, own_refusal, pinned_to}
use Rattle.kn_daemon.specs.Played.{no_config}
use Rattle.kn_play.specs.Playing.{state_of_sessions, after_shape}

-- the state after a request to pin a session to the version of these updates, where that is retained
abbrev pub after_pin : OpenSessions → ℕ → Option (List Update) → State
after_pin old s version =
    option_map_or (λ refusal. state_of_sessions old)
    (own_refusal no_config (state_of_sessions old) (Looks (ForPinAt s 0)))
    (pinned_to (state_of_sessions old) s version)

-- a version that isn't retained pins nothing
pub not-retained : (history : List Update) (old : OpenSessions) (s v : ℕ) → retained_version history v ≡ None
    → state_of_sessions old ≡ after_shape history old (Looks (ForPinAt s v))
not-retained history old s v none =
    by (own_refusal no_config (state_of_sessions old) (Looks (ForPinAt s v))) (retained_version history v) none
  where
    by : (refusal : Option Refusal) (version : Option (List Update)) → version ≡ None
        → state_of_sessions old
        ≡ option_map_or (λ r. state_of_sessions old) refusal (pinned_to (state_of_sessions old) s version)
    by (Some refusal) version none = refl
    by None None none = refl
    by None (Some version) none = cc
