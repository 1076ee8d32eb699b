-- What a session asks with, from its version and from its own assertions together; and what keeps its standing query.
use Rattle.std.specs.Prelude.{ℕ, ◌≡◌, ◌≢◌, ◌+◌, ◌≤◌, List, [], ◌∷◌, ◌++◌, length, map, sum_by, Option, Some, option_map}
use Rattle.std.specs.Prelude.{option_and_then}
use Rattle.std.specs.List.{AllByRecursion}
use Rattle.kn_base.specs.declared.limits.TheConstants.{LIVE_BYTES, PRIVATE_BYTES}
use Rattle.kn_assert.specs.Reading.{assertion_of}
use Rattle.kn_proof.specs.declared.named.Id.{Id}
use Rattle.kn_proof.specs.declared.named.Id.TheVariants.{Shared, Private as Own}
use Rattle.kn_history.specs.declared.update.Update.{Update}
use Rattle.kn_history.specs.History.{NumberedText, text_bytes}
use Rattle.kn_history.specs.Ids.{IdsAscend}
use Rattle.kn_session.specs.declared.view.Private.{Private}
use Rattle.kn_session.specs.Sessions.{StandingQuery, Session, session_in, with_changed, pin_at, query_at, move_standing}
use Rattle.kn_session.specs.Calls.{Call, Close, Unwatch, after_call}
use Rattle.kn_session.specs.Views.{AreReadPrivates, ArePrivates}

-- the texts of the live credentials, and then of the private assertions
abbrev pub all_texts : List NumberedText → List NumberedText → List (List ℕ)
all_texts live privates = map (λ c. c.text) live ++ map (λ c. c.text) privates

-- their ids in a proof
abbrev pub all_ids : List NumberedText → List NumberedText → List Id
all_ids live privates = map (λ c. Shared c.id) live ++ map (λ c. Own c.id) privates

-- no two of these are equal
abbrev pub AreDifferent : List Id → Type 0
AreDifferent [] = Unit {0}
AreDifferent (x ∷ xs) = AllByRecursion (λ y. x ≢ y) xs × AreDifferent xs

-- all texts together are as short as the limits of both sorts allow
abbrev pub TextsAreShort : Type 0
TextsAreShort = (live privates : List NumberedText) → text_bytes live ≤ LIVE_BYTES → ArePrivates privates
    → sum_by length (all_texts live privates) ≤ LIVE_BYTES + PRIVATE_BYTES

-- all ids differ, since a shared credential and a private assertion have ids of two sorts
abbrev pub AllIdsDiffer : Type 0
AllIdsDiffer = (live privates : List NumberedText) → IdsAscend 0 live → ArePrivates privates
    → AreDifferent (all_ids live privates)

-- the assertions of a view are those of its texts, in their order
abbrev pub PrivatesAreRead : Type 0
PrivatesAreRead = (privates : List Private) → AreReadPrivates privates
    → map assertion_of (map (λ p. p.text) privates) ≡ map (λ p. Some p.assertion) privates

-- the standing query of the session of this number, where that is open and keeps one
abbrev pub standing_in : List Session → ℕ → Option StandingQuery
standing_in sessions s = option_and_then (λ x. x.standing) (session_in sessions s)

-- It stays as it was under each call, of its own session or of another, that neither closes a session nor ends a
-- standing query.
abbrev pub CallsKeepStanding : Type 0
CallsKeepStanding = (sessions : List Session) (s t : ℕ) (call : Call) → call ≢ Close → call ≢ Unwatch
    → standing_in (after_call sessions t call) s ≡ standing_in sessions s

-- under each call of another session
abbrev pub OthersKeepStanding : Type 0
OthersKeepStanding = (sessions : List Session) (s t : ℕ) (call : Call) → t ≢ s
    → standing_in (after_call sessions t call) s ≡ standing_in sessions s

-- and where a session is pinned to another version.
abbrev pub PinsKeepStanding : Type 0
PinsKeepStanding = (sessions : List Session) (s t : ℕ) (past : List Update)
    → standing_in (with_changed sessions t (pin_at past)) s ≡ standing_in sessions s

-- Where it is moved, its version changes, and nothing else of it.
abbrev pub MovesVersionAlone : Type 0
MovesVersionAlone = (sessions : List Session) (s : ℕ) (past : List Update)
    → standing_in (with_changed sessions s (move_standing past)) s ≡ option_map (query_at past) (standing_in sessions s)
