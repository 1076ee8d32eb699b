-- What a reply to LOG makes of a replica (keynoted's own). A replica is seen as the updates that it holds.
use Rattle.std.specs.Prelude.{ℕ, ◌≡◌, ◌≢◌, ◌⊎◌, ◌+◌, Bool, true, false, List, [], ◌∷◌, ◌++◌, length, map}
use Rattle.kn_history.specs.declared.update.Update.{Update}
use Rattle.kn_history.specs.History.{all_changes, next_id, update_may_follow}
use Rattle.kn_history.specs.Batches.{batch_by}
use Rattle.kn_reply.specs.Logs.{item_of}
use Rattle.kn_follow.specs.declared.fault.FollowFault.{FollowFault}
use Rattle.kn_follow.specs.declared.fault.FollowFault.TheVariants.{Line, Gap, Refused, NoMemory}
use Rattle.kn_follow.specs.Forms.{ReceivedUpdate, LogReply, IsLogText, DepartsAt}

-- the update that is received behind a history: the ids of its additions go on from there
abbrev pub update_behind : List Update → ReceivedUpdate → Update
update_behind past u = batch_by u.caller (next_id past) (map item_of u.items)

-- it may follow the history: each of its texts has a reading, and none of its changes is refused
abbrev pub may_be_taken : List Update → ReceivedUpdate → Bool
may_be_taken past u = update_may_follow (all_changes past) (update_behind past u)

-- these are taken behind a history one after the other, where each may follow those before it, and make this history
abbrev pub Takes : List Update → List ReceivedUpdate → List Update → Type 0
Takes past [] new = new ≡ past
Takes past (u ∷ updates) new = (may_be_taken past u ≡ true) × Takes (past ++ update_behind past u ∷ []) updates new

-- one update of these is refused, the one of this place in the history, counted from 1; those in front of it were taken
pub record IsRefusedAt (old : List Update) (updates : List ReceivedUpdate) (place : ℕ) (new : List Update) :
    Type 0 where
  pub front : List ReceivedUpdate
  pub refused : ReceivedUpdate
  pub rest : List ReceivedUpdate
  pub cut : updates ≡ front ++ refused ∷ rest
  pub takes : Takes old front new
  pub not_this : may_be_taken new refused ≡ false
  pub number : place ≡ length new + 1

-- some first ones of these were taken
pub record TakesSome (old : List Update) (updates : List ReceivedUpdate) (new : List Update) : Type 0 where
  pub front : List ReceivedUpdate
  pub rest : List ReceivedUpdate
  pub cut : updates ≡ front ++ rest
  pub takes : Takes old front new

-- why these updates aren't all taken, and what the replica then is
abbrev pub IsTakingFault : List Update → List ReceivedUpdate → FollowFault → List Update → Type 0
IsTakingFault old updates (Line at) new = ⊥
IsTakingFault old updates (Gap from have) new = ⊥
IsTakingFault old updates (Refused place) new = IsRefusedAt old updates place new
IsTakingFault old updates NoMemory new = TakesSome old updates new

-- why an update isn't taken; the replica stays as it is
abbrev pub IsUpdateFault : List Update → ReceivedUpdate → FollowFault → Type 0
IsUpdateFault old u (Line at) = ⊥
IsUpdateFault old u (Gap from have) = ⊥
IsUpdateFault old u (Refused place) = (may_be_taken old u ≡ false) × (place ≡ length old + 1)
IsUpdateFault old u NoMemory = Unit {0}

-- the reply was taken: it is to a client that holds as many updates as the replica, and so many were taken
pub record TakesReply (old : List Update) (reply : LogReply) (count : ℕ) (new : List Update) : Type 0 where
  pub here : reply.from ≡ length old
  pub takes : Takes old reply.updates new
  pub number : count ≡ length reply.updates

-- why a reply that is of the form isn't applied, and what the replica then is
abbrev pub IsReplyFault : List Update → LogReply → FollowFault → List Update → Type 0
IsReplyFault old reply (Line at) new = ⊥
IsReplyFault old reply (Gap from have) new = (from ≡ reply.from) × (have ≡ length old) × (from ≢ have) × (new ≡ old)
IsReplyFault old reply (Refused place) new = (reply.from ≡ length old) × IsRefusedAt old reply.updates place new
IsReplyFault old reply NoMemory new = (reply.from ≡ length old) × TakesSome old reply.updates new

-- the text is a reply, and that was applied
pub record IsApplied (old : List Update) (text : List ℕ) (count : ℕ) (new : List Update) : Type 0 where
  pub reply : LogReply
  pub form : IsLogText text reply
  pub taken : TakesReply old reply count new

-- the text is a reply, and that isn't applied
pub record IsReplyRefused (old : List Update) (text : List ℕ) (fault : FollowFault) (new : List Update) : Type 0 where
  pub reply : LogReply
  pub form : IsLogText text reply
  pub fault_is : IsReplyFault old reply fault new

-- Why a text isn't applied, and what the replica then is. It is as before where the text isn't of the form, and where
-- it is to a client that holds another number of updates; when out of memory some first updates of the reply are taken.
abbrev pub IsFollowFault : List Update → List ℕ → FollowFault → List Update → Type 0
IsFollowFault old text (Line at) new = DepartsAt text at × (new ≡ old)
IsFollowFault old text (Gap from have) new = IsReplyRefused old text (Gap from have) new
IsFollowFault old text (Refused place) new = IsReplyRefused old text (Refused place) new
IsFollowFault old text NoMemory new = (new ≡ old) ⊎ IsReplyRefused old text NoMemory new

-- why no reply is read of a text
abbrev pub IsReadFault : List ℕ → FollowFault → Type 0
IsReadFault text (Line at) = DepartsAt text at
IsReadFault text (Gap from have) = ⊥
IsReadFault text (Refused place) = ⊥
IsReadFault text NoMemory = Unit {0}

-- these replies are applied one after the other
abbrev pub Applies : List Update → List (List ℕ) → List Update → Type 0
Applies old [] new = new ≡ old
Applies old (text ∷ texts) new = (count : ℕ) × (mid : List Update) × IsApplied old text count mid
    × Applies mid texts new
