-- How a call of the registry moves a pass.
use Rattle.std.specs.Prelude.{◌≡◌, ◌+◌, ◌≤◌, ℕ, true, List, [], ◌∷◌, ◌++◌, length, Option, Some, None}
use Rattle.atomic_table.specs.Seated.{TableId}
use Rattle.kn_history.specs.declared.update.Update.{Update}
use Rattle.kn_history.specs.declared.fault.StoreFault.{StoreFault}
use Rattle.kn_history.specs.declared.fault.StoreFault.TheVariants.{Unknown, LiveFull, BytesFull, HistoryFull, LogFull}
use Rattle.kn_history.specs.declared.fault.StoreFault.TheVariants.{NoMemory}
use Rattle.kn_history.specs.declared.fault.BatchFault.{BatchFault}
use Rattle.kn_history.specs.declared.fault.BatchFault.TheVariants as B
use Rattle.kn_history.specs.declared.item.Item.{Item}
use Rattle.kn_history.specs.History.{all_changes, additions, is_valid_history, update_may_follow, updates_may_follow}
use Rattle.kn_history.specs.History.{refusal_of_text, refusal_of_id, addition_by, additions_by, removal_by, own_updates}
use Rattle.kn_history.specs.History.{IsFirstRefused}
use Rattle.kn_history.specs.Batches.{refusal_of_items, numbered_from, batch_by}
use Rattle.kn_history.specs.Retained.{retained_version}
use Rattle.kn_turn.specs.Passes.{PassView}
use Rattle.kn_turn.specs.Passes as T
use Rattle.kn_registry.specs.declared.answer.Batched.{Batched}
use Rattle.kn_registry.specs.declared.answer.PinFault.{PinFault}
use Rattle.kn_registry.specs.declared.answer.PinFault.TheVariants as P
use Rattle.kn_registry.specs.Callers.{caller_of}

abbrev pub PassSeen : Type 0
PassSeen = PassView Update

-- its own updates in what it has seen are those that it made, and so on for each pass that ended in it
abbrev pub IsSoundPass : PassSeen → Type 0
IsSoundPass pass = T.IsSoundPass caller_of pass

-- a pass of this registry between two calls
pub record IsReady (registry : TableId) (pass : PassSeen) : Type 0 where
  pub own : pass.turn ≡ registry
  pub idle : pass.is_idle ≡ true
  pub valid : is_valid_history pass.seen ≡ true

-- More was seen, of which these updates are the pass's own, and it had the turn at these lengths. All else of it stays.
pub record Moves (old new : PassSeen) (more own : List Update) (entries : List ℕ) : Type 0 where
  pub number : new.number ≡ old.number
  pub seen : new.seen ≡ old.seen ++ more
  pub named : own_updates old.number more ≡ own
  pub mine : new.mine ≡ old.mine ++ own
  pub stops : new.stops ≡ old.stops ++ entries
  pub splits : new.splits ≡ old.splits
  pub ended : new.ended ≡ old.ended

-- the turn was had at what is then seen, and nothing was added
pub record Looks (old new : PassSeen) : Type 0 where
  pub more : List Update
  pub moves : Moves old new more [] (length new.seen ∷ [])

-- nothing was added, and the turn was had once at most
pub record Stays (old new : PassSeen) : Type 0 where
  pub more : List Update
  pub entries : List ℕ
  pub few : length entries ≤ 1
  pub at : (place : ℕ) → entries ≡ place ∷ [] → place ≡ length new.seen
  pub moves : Moves old new more [] entries

-- this update is the last of all that is then seen and may follow what is before it, and is one more of the pass's own
pub record Commits (old new : PassSeen) (update : Update) (version : ℕ) : Type 0 where
  pub more : List Update
  pub before : List Update
  pub moves : Moves old new more (update ∷ []) (length new.seen ∷ [])
  pub ends : new.seen ≡ before ++ update ∷ []
  pub follows : update_may_follow (all_changes before) update ≡ true
  pub at : version ≡ length new.seen

-- the text was added under this id, and is in this version
abbrev pub Adds : PassSeen → PassSeen → List ℕ → ℕ → ℕ → Type 0
Adds old new text id version = Commits old new (addition_by old.number text id) version

-- the id was removed, and is not in this version
abbrev pub Removes : PassSeen → PassSeen → ℕ → ℕ → Type 0
Removes old new id version = Commits old new (removal_by old.number id) version

-- these texts were added one after the other, each by an update of the pass's own, as the last updates of all that is
-- then seen
pub record AddsAll (old new : PassSeen) (texts : List (List ℕ)) : Type 0 where
  pub more : List Update
  pub before : List Update
  pub moves : Moves old new more (additions_by old.number (additions (all_changes before)) texts) (length new.seen ∷ [])
  pub ends : new.seen ≡ before ++ additions_by old.number (additions (all_changes before)) texts
  pub follow : updates_may_follow (all_changes before) (additions_by old.number (additions (all_changes before)) texts)
      ≡ true

-- what was asked for was refused at what is then seen
pub record IsRefused {F : Type 0} (refusal : Option F) (fault : F) (old new : PassSeen) : Type 0 where
  pub refusal_is : refusal ≡ Some fault
  pub looks : Looks old new

-- this holds of the store's fault; when out of memory nothing was tried
abbrev pub Refuses : (StoreFault → Type 0) → PassSeen → PassSeen → StoreFault → Type 0
Refuses IsFor old new NoMemory = Stays old new
Refuses IsFor old new (Unknown id) = IsFor (Unknown id)
Refuses IsFor old new (LiveFull count) = IsFor (LiveFull count)
Refuses IsFor old new (BytesFull bytes) = IsFor (BytesFull bytes)
Refuses IsFor old new (HistoryFull updates) = IsFor (HistoryFull updates)
Refuses IsFor old new (LogFull bytes) = IsFor (LogFull bytes)

-- why the text wasn't added
abbrev pub RefusesText : PassSeen → PassSeen → List ℕ → StoreFault → Type 0
RefusesText old new text fault =
    Refuses (λ f. IsRefused (refusal_of_text (all_changes new.seen) text) f old new) old new fault

-- none of the texts was added, since the one at this place is the first that is refused at what is then seen
pub record IsOneRefused (old new : PassSeen) (texts : List (List ℕ)) (place : ℕ) (fault : StoreFault) : Type 0 where
  pub first : IsFirstRefused new.seen old.number texts place fault
  pub looks : Looks old new

-- why none of the texts was added, and the place of the refused one; when out of memory the place tells nothing
abbrev pub RefusesOne : PassSeen → PassSeen → List (List ℕ) → ℕ → StoreFault → Type 0
RefusesOne old new texts place fault = Refuses (λ f. IsOneRefused old new texts place f) old new fault

-- why the id wasn't removed
abbrev pub RefusesId : PassSeen → PassSeen → ℕ → StoreFault → Type 0
RefusesId old new id fault = Refuses (λ f. IsRefused (refusal_of_id (all_changes new.seen) id) f old new) old new fault

-- the items were made one update, which is in this version; given are the id of its first addition, or the one that the
-- next addition has, and how many additions it has
pub record Batches (old new : PassSeen) (items : List Item) (batched : Batched) : Type 0 where
  pub commits : Commits old new (batch_by old.number batched.first items) batched.version
  pub first : batched.first ≡ additions (all_changes commits.before) + 1
  pub added : batched.added ≡ additions (numbered_from batched.first items)

-- why no item changed anything, and the number of the refused one, counted from 1
abbrev pub RefusesItems : PassSeen → PassSeen → List Item → BatchFault → Type 0
RefusesItems old new items B.NoMemory = Stays old new
RefusesItems old new items (B.Item number fault) =
    IsRefused (refusal_of_items (all_changes new.seen) items) (number, fault) old new

-- the version of this number isn't retained at what is then seen, of which this is the length
pub record IsMissing (old new : PassSeen) (number newest : ℕ) : Type 0 where
  pub missing : retained_version new.seen number ≡ None
  pub newest_is : newest ≡ length new.seen
  pub looks : Looks old new

-- why the version of this number wasn't given
abbrev pub RefusesVersion : PassSeen → PassSeen → ℕ → PinFault → Type 0
RefusesVersion old new number P.NoMemory = Stays old new
RefusesVersion old new number (P.Missing newest) = IsMissing old new number newest
