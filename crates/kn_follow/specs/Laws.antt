-- Laws of replies to LOG and of followers.
use Rattle.std.specs.Prelude.{ℕ, ◌≡◌, ◌≢◌, ◌⊎◌, ◌<◌, ◌≤◌, true, List, [], ◌∷◌, ◌++◌, length, take, map}
use Rattle.std.specs.List.{AllByRecursion}
use Rattle.kn_history.specs.declared.update.Update.{Update}
use Rattle.kn_history.specs.History.{is_valid_history}
use Rattle.kn_reply.specs.Logs.{log_part, log_text, held_after}
use Rattle.kn_follow.specs.declared.fault.FollowFault.{FollowFault}
use Rattle.kn_follow.specs.declared.fault.FollowFault.TheVariants.{NoMemory}
use Rattle.kn_follow.specs.Files.{IsLogFile, IsLogFault}
use Rattle.kn_follow.specs.Forms.{LogReply, IsTellable, IsLogText, DepartsAt, received_update}
use Rattle.kn_follow.specs.Following.{IsApplied, Applies}

-- a text is a reply, or it departs from the form at some byte
abbrev pub SomeReading : Type 0
SomeReading = (text : List ℕ) → ((reply : LogReply) × IsLogText text reply) ⊎ ((at : ℕ) × DepartsAt text at)

-- it is one reply alone, or departs at one byte alone, and never both
pub record OneReading (text : List ℕ) : Type 0 where
  pub one_reply : (reply other : LogReply) → IsLogText text reply → IsLogText text other → reply ≡ other
  pub one_byte : (at other : ℕ) → DepartsAt text at → DepartsAt text other → at ≡ other
  pub not_both : (reply : LogReply) (at : ℕ) → IsLogText text reply → DepartsAt text at → ⊥

-- a file of replies has some ending: these make a history, or it has a fault other than `NoMemory`
abbrev pub SomeEnding : Type 0
SomeEnding = (text : List ℕ)
    → ((new : List Update) × IsLogFile text new) ⊎ ((fault : FollowFault) × (fault ≢ NoMemory) × IsLogFault text fault)

-- it has one ending: its replies make one history alone, or it has one fault other than `NoMemory`, and never both
pub record OneEnding (text : List ℕ) : Type 0 where
  pub one_history : (new other : List Update) → IsLogFile text new → IsLogFile text other → new ≡ other
  pub one_fault : (fault other : FollowFault) → fault ≢ NoMemory → other ≢ NoMemory
      → IsLogFault text fault → IsLogFault text other → fault ≡ other
  pub not_both : (new : List Update) (fault : FollowFault) → fault ≢ NoMemory
      → IsLogFile text new → IsLogFault text fault → ⊥

-- replies are taken in one way
abbrev pub TakenInOneWay : Type 0
TakenInOneWay = (text : List ℕ) (old new other : List Update) (count number : ℕ)
    → IsApplied old text count new → IsApplied old text number other → (new ≡ other) × (count ≡ number)

-- a history whose numbers have at most nine digits
pub record IsShort (history : List Update) : Type 0 where
  pub count : length history < 1000000000
  pub each : AllByRecursion IsTellable (map received_update history)

-- replies to LOG over a history: each is to a client that holds so many updates, and has the place of some version with
-- them
abbrev pub log_replies : List Update → List Update → List ℕ → List (List ℕ)
log_replies history held [] = []
log_replies history held (place ∷ places) =
    log_text (length held) (take place history)
    ∷ log_replies history (held ++ log_part (length held) (take place history)) places

-- a client may ask for these: no place is before the updates that it holds, or behind the newest
abbrev pub MayAskAt : List Update → List Update → List ℕ → Type 0
MayAskAt history held [] = Unit {0}
MayAskAt history held (place ∷ places) =
    (length held ≤ place) × (place ≤ length history)
    × MayAskAt history (held ++ log_part (length held) (take place history)) places

-- A replica to which replies over a valid history are applied, each asked for with the number of updates that it holds,
-- holds the joined updates of these replies, which are the first ones of the history: so its version of each number is
-- that of the history.
pub record Follows (history : List Update) (places : List ℕ) : Type 0 where
  pub applied : Applies [] (log_replies history [] places) (held_after history [] places)
  pub alone : (new : List Update) → Applies [] (log_replies history [] places) new → new ≡ held_after history [] places
  pub same_versions : (number : ℕ) → number ≤ length (held_after history [] places)
      → take number (held_after history [] places) ≡ take number history

abbrev pub FollowersFollow : Type 0
FollowersFollow = (history : List Update) (places : List ℕ) → is_valid_history history ≡ true → IsShort history
    → MayAskAt history [] places → Follows history places
