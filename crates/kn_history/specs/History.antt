-- Histories of updates to the shared credentials (keynoted's own).
use Rattle.std.specs.Prelude.{ℕ, ◌≡◌, ◌+◌, ◌⊎◌, Bool, true, false, ◌==◌, ◌&&◌, not, nat_le, nat_lt, is_none, is_some}
use Rattle.std.specs.Prelude.{List, [], ◌∷◌, ◌++◌, length, filter, sum_by, flat_map, Option, Some, None, if◌then◌else◌}
use Rattle.std.specs.List.{list_any}
use Rattle.kn_base.specs.declared.limits.TheConstants.{LIVE_CREDENTIALS, LIVE_BYTES, UPDATES, CHANGES, LOGGED_BYTES}
use Rattle.kn_assert.specs.Reading.{assertion_of}
use Rattle.kn_history.specs.declared.update.Change.{Change}
use Rattle.kn_history.specs.declared.update.Change.TheVariants.{Add, Remove}
use Rattle.kn_history.specs.declared.update.Numbered.{Numbered}
use Rattle.kn_history.specs.declared.update.Update.{Update}
use Rattle.kn_history.specs.declared.fault.StoreFault.{StoreFault}
use Rattle.kn_history.specs.declared.fault.StoreFault.TheVariants.{Unknown, LiveFull, BytesFull, HistoryFull}
use Rattle.kn_history.specs.declared.fault.StoreFault.TheVariants.{LogFull, NoMemory}

-- the changes of all the updates, in their order
abbrev pub all_changes : List Update → List Numbered
all_changes updates = flat_map (λ u. u.changes) updates

abbrev pub added_count : Change → ℕ
added_count (Add text) = 1
added_count Remove = 0

-- how many additions there are
abbrev pub additions : List Numbered → ℕ
additions changes = sum_by (λ c. added_count c.change) changes

abbrev pub added_bytes : Change → ℕ
added_bytes (Add text) = length text
added_bytes Remove = 0

-- the id that the next addition behind a history has
abbrev pub next_id : List Update → ℕ
next_id history = additions (all_changes history) + 1

-- the bytes of all additions
abbrev pub logged_bytes : List Numbered → ℕ
logged_bytes changes = sum_by (λ c. added_bytes c.change) changes

-- the text of an assertion with its id: a live credential's, or a private assertion's
pub record NumberedText : Type 0 where
  pub id : ℕ
  pub text : List ℕ

abbrev pub is_removal_of : ℕ → Change → ℕ → Bool
is_removal_of id (Add text) other = false
is_removal_of id Remove other = id == other

-- the credential of a change, where none of the later changes removes it
abbrev pub kept_credential : Change → ℕ → List Numbered → List NumberedText
kept_credential (Add text) id later =
    if list_any (λ c. is_removal_of id c.change c.id) later then []
    else record { id = id; text = text } ∷ []
kept_credential Remove id later = []

-- the additions that no later change removes, in the order of their ids
abbrev pub live : List Numbered → List NumberedText
live [] = []
live (c ∷ later) = kept_credential c.change c.id later ++ live later

-- the credentials of a history
abbrev pub credentials_of : List Update → List NumberedText
credentials_of updates = live (all_changes updates)

abbrev pub text_bytes : List NumberedText → ℕ
text_bytes texts = sum_by (λ c. length c.text) texts

-- the first fault that applies to an addition of this text
abbrev pub refusal_of_text : List Numbered → List ℕ → Option StoreFault
refusal_of_text past text =
    if nat_le LIVE_CREDENTIALS (length (live past)) then Some (LiveFull (length (live past)))
    else if nat_lt LIVE_BYTES (text_bytes (live past) + length text) then Some (BytesFull (text_bytes (live past)))
    else if nat_le UPDATES (length past) then Some (HistoryFull (length past))
    else if nat_lt LOGGED_BYTES (logged_bytes past + length text) then Some (LogFull (logged_bytes past))
    else None

-- the first fault that applies to a removal of this id
abbrev pub refusal_of_id : List Numbered → ℕ → Option StoreFault
refusal_of_id past id =
    if not (list_any (λ c. c.id == id) (live past)) then Some (Unknown id)
    else if nat_le UPDATES (length past) then Some (HistoryFull (length past))
    else None

-- why a change is refused after these, if it is; the number is the quantity before it
abbrev pub refusal_of : List Numbered → Change → ℕ → Option StoreFault
refusal_of past (Add text) id = refusal_of_text past text
refusal_of past Remove id = refusal_of_id past id

-- why a change isn't made: for the fault that is found, or out of memory
abbrev pub RefusesChange : Option StoreFault → StoreFault → Type 0
RefusesChange found fault = (fault ≡ NoMemory) ⊎ (found ≡ Some fault)

-- an addition is numbered by how many there are with it, and its text has a reading
abbrev pub is_well_numbered : List Numbered → Change → ℕ → Bool
is_well_numbered past (Add text) id = (id == additions past + 1) && is_some (assertion_of text)
is_well_numbered past Remove id = true

-- a change may follow these
abbrev pub may_follow : List Numbered → Numbered → Bool
may_follow past c = is_none (refusal_of past c.change c.id) && is_well_numbered past c.change c.id

abbrev pub all_may_follow : List Numbered → List Numbered → Bool
all_may_follow past [] = true
all_may_follow past (c ∷ cs) = may_follow past c && all_may_follow (past ++ c ∷ []) cs

-- an update may follow these changes: it has 1 to 256, and each of them may follow those before it
abbrev pub update_may_follow : List Numbered → Update → Bool
update_may_follow past u =
    (nat_le 1 (length u.changes) && nat_le (length u.changes) CHANGES) && all_may_follow past u.changes

abbrev pub updates_may_follow : List Numbered → List Update → Bool
updates_may_follow past [] = true
updates_may_follow past (u ∷ us) = update_may_follow past u && updates_may_follow (past ++ u.changes) us

-- an update may follow a history
abbrev pub UpdateFollows : List Update → Update → Type 0
UpdateFollows history update = update_may_follow (all_changes history) update ≡ true

-- these updates may follow a history, one after the other
abbrev pub UpdatesFollow : List Update → List Update → Type 0
UpdatesFollow history updates = updates_may_follow (all_changes history) updates ≡ true

-- no update was refused at its place, all ids are right, and each text that was added has a reading
abbrev pub is_valid_history : List Update → Bool
is_valid_history updates = updates_may_follow [] updates

-- the updates that name the caller
abbrev pub own_updates : ℕ → List Update → List Update
own_updates caller updates = filter (λ u. u.caller == caller) updates

-- the update of this caller that adds one text under this id
abbrev pub addition_by : ℕ → List ℕ → ℕ → Update
addition_by caller text id = record { caller = caller; changes = record { change = Add text; id = id } ∷ [] }

-- the update of this caller that removes one id
abbrev pub removal_by : ℕ → ℕ → Update
removal_by caller id = record { caller = caller; changes = record { change = Remove; id = id } ∷ [] }

-- the updates that add these texts one after the other, each by this caller, behind so many additions
abbrev pub additions_by : ℕ → ℕ → List (List ℕ) → List Update
additions_by caller n [] = []
additions_by caller n (text ∷ texts) = addition_by caller text (n + 1) ∷ additions_by caller (n + 1) texts

-- the updates that add these texts one after the other behind a history, each by this caller
abbrev pub additions_behind : List Update → ℕ → List (List ℕ) → List Update
additions_behind history caller texts = additions_by caller (additions (all_changes history)) texts

-- what loading these texts makes of an empty history; the caller is 0
abbrev pub loaded_history : List (List ℕ) → List Update
loaded_history texts = additions_by 0 0 texts

-- Of these texts, added one after the other behind a history, the one at this place, counted from 0, is the first that
-- is refused, for this.
pub record IsFirstRefused (past : List Update) (caller : ℕ) (texts : List (List ℕ)) (place : ℕ)
    (fault : StoreFault) : Type 0 where
  pub front : List (List ℕ)
  pub text : List ℕ
  pub rest : List (List ℕ)
  pub cut : texts ≡ front ++ text ∷ rest
  pub place_is : place ≡ length front
  pub follow : UpdatesFollow past (additions_behind past caller front)
  pub refused : refusal_of_text (all_changes (past ++ additions_behind past caller front)) text ≡ Some fault

-- why none of these texts is added: the first that is refused is the one at this place, for this, or out of memory
abbrev pub RefusesTexts : List Update → ℕ → List (List ℕ) → ℕ × StoreFault → Type 0
RefusesTexts past caller texts refused = (refused.1 ≡ NoMemory) ⊎ IsFirstRefused past caller texts refused.0 refused.1
