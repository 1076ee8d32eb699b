-- Laws of histories and of loading.
use Rattle.std.specs.Prelude.{ℕ, ◌+◌, ◌≡◌, ◌==◌, ◌≤◌, ◌⊎◌, ◌↔◌, true, not}
use Rattle.std.specs.Prelude.{List, [], ◌∷◌, ◌++◌, map, filter, length, take, Some, slice_get}
use Rattle.kn_fields.specs.declared.fault.ReadFault.{ReadFault}
use Rattle.kn_history.specs.declared.update.Change.TheVariants.{Add, Remove}
use Rattle.kn_history.specs.declared.update.Numbered.{Numbered}
use Rattle.kn_history.specs.declared.update.Update.{Update}
use Rattle.kn_history.specs.declared.fault.StoreFault.{StoreFault}
use Rattle.kn_history.specs.declared.item.Item.{Item}
use Rattle.kn_history.specs.Batches.{all_numbered, numbered_from, items_in, refusal_of_items, batch_by}
use Rattle.kn_history.specs.Batches.{items_may_follow, IsRefusedItem}
use Rattle.kn_history.specs.Changed.{after_changes}
use Rattle.kn_history.specs.Ids.{IdsAscend}
use Rattle.kn_history.specs.Retained.{retained_version}
use Rattle.kn_history.specs.Singles.{Single, as_update, are_valid_singles}
use Rattle.kn_history.specs.History.{NumberedText, all_changes, additions, credentials_of, live}
use Rattle.kn_history.specs.History.{update_may_follow, is_valid_history, loaded_history}
use Rattle.kn_history.specs.Loading.{IsLoadable, IsFaultyAt, IsFullAt}

-- texts make a history, or there is a first one that has a fault, or a first one that is refused
abbrev pub LoadingEnds : Type 0
LoadingEnds = (texts : List (List ℕ)) →
    IsLoadable texts
    ⊎ (((n : ℕ) × (fault : ReadFault) × IsFaultyAt texts n fault)
    ⊎ ((n : ℕ) × (fault : StoreFault) × IsFullAt texts n fault))

-- and no two of these hold
pub record LoadingEndsOnce (texts : List (List ℕ)) : Type 0 where
  pub faulty : (n : ℕ) (fault : ReadFault) → IsLoadable texts → IsFaultyAt texts n fault → ⊥
  pub full : (n : ℕ) (fault : StoreFault) → IsLoadable texts → IsFullAt texts n fault → ⊥
  pub either : (n m : ℕ) (fault : ReadFault) (refusal : StoreFault)
      → IsFaultyAt texts n fault → IsFullAt texts m refusal → ⊥
  pub one_fault : (n m : ℕ) (fault other : ReadFault)
      → IsFaultyAt texts n fault → IsFaultyAt texts m other → (n ≡ m) × (fault ≡ other)
  pub one_refusal : (n m : ℕ) (fault other : StoreFault)
      → IsFullAt texts n fault → IsFullAt texts m other → (n ≡ m) × (fault ≡ other)

-- texts make a history exactly where the one that adds them is valid
abbrev pub LoadableIsValid : Type 0
LoadableIsValid = (texts : List (List ℕ)) → IsLoadable texts ↔ (is_valid_history (loaded_history texts) ≡ true)

-- one more addition is one more live credential
abbrev pub AdditionIsLive : Type 0
AdditionIsLive = (past : List Numbered) (text : List ℕ) (id : ℕ)
    → live (past ++ record { change = Add text; id = id } ∷ []) ≡ live past ++ record { id = id; text = text } ∷ []

-- one more removal takes the credential of its id away
abbrev pub RemovalIsGone : Type 0
RemovalIsGone = (past : List Numbered) (id : ℕ)
    → live (past ++ record { change = Remove; id = id } ∷ []) ≡ filter (λ c. not (c.id == id)) (live past)

-- ids that ascend differ: no two places have one id
abbrev pub IdsDiffer : Type 0
IdsDiffer = (low : ℕ) (credentials : List NumberedText) → IdsAscend low credentials → (p q id : ℕ)
    → slice_get (map (λ c. c.id) credentials) p ≡ Some id → slice_get (map (λ c. c.id) credentials) q ≡ Some id → p ≡ q

-- a valid history with an update that may follow is valid
abbrev pub ValidGrows : Type 0
ValidGrows = (history : List Update) (update : Update) → is_valid_history history ≡ true
    → update_may_follow (all_changes history) update ≡ true → is_valid_history (history ++ update ∷ []) ≡ true

-- and so is each part from its beginning
abbrev pub ValidBefore : Type 0
ValidBefore = (history more : List Update) → is_valid_history (history ++ more) ≡ true → is_valid_history history ≡ true

-- the item that refuses a batch, found by number, is the first that is refused behind those in front of it
abbrev pub RefusedItems : Type 0
RefusedItems = (past : List Numbered) (items : List Item) (number : ℕ) (fault : StoreFault)
    → (refusal_of_items past items ≡ Some (number, fault)) ↔ IsRefusedItem past items number fault

-- the ids of additions go on from how many there were
abbrev pub IdsGoOn : Type 0
IdsGoOn = (past : List Numbered) (items : List Item)
    → all_numbered past items ≡ numbered_from (additions past + 1) items

-- the update that makes the changes of items may follow exactly where the items may
abbrev pub BatchFollows : Type 0
BatchFollows = (caller : ℕ) (past : List Numbered) (items : List Item)
    → update_may_follow past (batch_by caller (additions past + 1) items) ≡ items_may_follow past items

-- a history of single changes is valid exactly where it is by the rules for such histories
abbrev pub SinglesAreHistories : Type 0
SinglesAreHistories = (singles : List Single) → is_valid_history (map as_update singles) ≡ are_valid_singles singles

-- one more update makes its changes, one by one, to the credentials
abbrev pub CredentialsByUpdate : Type 0
CredentialsByUpdate = (history : List Update) (update : Update)
    → credentials_of (history ++ update ∷ []) ≡ after_changes (credentials_of history) update.changes

-- the ids of the credentials of a valid history ascend, so they differ
abbrev pub ValidIdsAscend : Type 0
ValidIdsAscend = (history : List Update) → is_valid_history history ≡ true → IdsAscend 0 (credentials_of history)

-- the newest version and the 15 before it are retained, each with its updates
abbrev pub RetainedAreNewest : Type 0
RetainedAreNewest = (history kept : List Update) (number : ℕ) → (retained_version history number ≡ Some kept)
    ↔ ((number ≤ length history) × (length history ≤ number + 15) × (kept ≡ take number history))

-- a retained version of a valid history is one
abbrev pub RetainedIsValid : Type 0
RetainedIsValid = (history kept : List Update) (number : ℕ) → is_valid_history history ≡ true
    → retained_version history number ≡ Some kept → is_valid_history kept ≡ true

-- an update that may follow is given by its caller and its items: all ids are determined
abbrev pub ItemsDetermineUpdate : Type 0
ItemsDetermineUpdate = (past : List Numbered) (update : Update) → update_may_follow past update ≡ true
    → update ≡ batch_by update.caller (additions past + 1) (items_in update.changes)
