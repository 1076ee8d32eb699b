-- Histories whose updates have one change each, by their own rules (keynoted's own): a history's limit counts updates.
use Rattle.std.specs.Prelude.{ℕ, ◌+◌, Bool, true, ◌==◌, ◌&&◌, not, nat_le, nat_lt, is_none, is_some, if◌then◌else◌}
use Rattle.std.specs.Prelude.{List, [], ◌∷◌, ◌++◌, length, map, Option, Some, None}
use Rattle.std.specs.List.{list_any}
use Rattle.kn_base.specs.declared.limits.TheConstants.{LIVE_CREDENTIALS, LIVE_BYTES, UPDATES, LOGGED_BYTES}
use Rattle.kn_assert.specs.Reading.{assertion_of}
use Rattle.kn_history.specs.declared.update.Change.{Change}
use Rattle.kn_history.specs.declared.update.Change.TheVariants.{Add, Remove}
use Rattle.kn_history.specs.declared.update.Numbered.{Numbered}
use Rattle.kn_history.specs.declared.update.Update.{Update}
use Rattle.kn_history.specs.declared.fault.StoreFault.{StoreFault}
use Rattle.kn_history.specs.declared.fault.StoreFault.TheVariants.{Unknown, LiveFull, BytesFull, HistoryFull, LogFull}
use Rattle.kn_history.specs.History.{NumberedText, live, text_bytes, logged_bytes, additions}

-- an update of the caller's that is one change
pub record Single : Type 0 where
  pub caller : ℕ
  pub change : Change
  pub id : ℕ

abbrev pub change_in : Single → Numbered
change_in s = record { change = s.change; id = s.id }

abbrev pub changes_in : List Single → List Numbered
changes_in singles = map change_in singles

-- the credentials that these leave
abbrev pub live_in : List Single → List NumberedText
live_in singles = live (changes_in singles)

-- and the bytes of these
abbrev pub bytes_in : List Single → ℕ
bytes_in singles = text_bytes (live_in singles)

-- the bytes of all texts that they add
abbrev pub logged_in : List Single → ℕ
logged_in singles = logged_bytes (changes_in singles)

-- the same update, as a list of changes
abbrev pub as_update : Single → Update
as_update s = record { caller = s.caller; changes = change_in s ∷ [] }

abbrev pub refusal_of_single_text : List Single → List ℕ → Option StoreFault
refusal_of_single_text past text =
    if nat_le LIVE_CREDENTIALS (length (live_in past)) then Some (LiveFull (length (live_in past)))
    else if nat_lt LIVE_BYTES (bytes_in past + length text) then Some (BytesFull (bytes_in past))
    else if nat_le UPDATES (length past) then Some (HistoryFull (length past))
    else if nat_lt LOGGED_BYTES (logged_in past + length text) then Some (LogFull (logged_in past))
    else None

abbrev pub refusal_of_single_id : List Single → ℕ → Option StoreFault
refusal_of_single_id past id =
    if not (list_any (λ c. c.id == id) (live_in past)) then Some (Unknown id)
    else if nat_le UPDATES (length past) then Some (HistoryFull (length past))
    else None

abbrev pub refusal_of_single : List Single → Change → ℕ → Option StoreFault
refusal_of_single past (Add text) id = refusal_of_single_text past text
refusal_of_single past Remove id = refusal_of_single_id past id

abbrev pub is_single_numbered : List Single → Change → ℕ → Bool
is_single_numbered past (Add text) id = (id == additions (changes_in past) + 1) && is_some (assertion_of text)
is_single_numbered past Remove id = true

-- an update of one change may follow these
abbrev pub single_may_follow : List Single → Single → Bool
single_may_follow past s = is_none (refusal_of_single past s.change s.id) && is_single_numbered past s.change s.id

abbrev pub singles_may_follow : List Single → List Single → Bool
singles_may_follow past [] = true
singles_may_follow past (s ∷ ss) = single_may_follow past s && singles_may_follow (past ++ s ∷ []) ss

-- a valid history of such updates
abbrev pub are_valid_singles : List Single → Bool
are_valid_singles singles = singles_may_follow [] singles
