-- The live credentials with what is counted beside them, and what a change makes of them.
use Rattle.std.specs.Prelude.{ℕ, ◌+◌, not, ◌==◌, nat_le, nat_lt, List, [], ◌∷◌, ◌++◌, length, filter}
use Rattle.std.specs.Prelude.{Option, Some, None, if◌then◌else◌}
use Rattle.std.specs.List.{list_any}
use Rattle.kn_base.specs.declared.limits.TheConstants.{LIVE_CREDENTIALS, LIVE_BYTES, UPDATES, LOGGED_BYTES}
use Rattle.kn_history.specs.declared.update.Numbered.{Numbered}
use Rattle.kn_history.specs.declared.fault.StoreFault.{StoreFault}
use Rattle.kn_history.specs.declared.fault.StoreFault.TheVariants.{Unknown, LiveFull, BytesFull, HistoryFull, LogFull}
use Rattle.kn_history.specs.History.{NumberedText, live, additions, logged_bytes, text_bytes}

pub record LiveView : Type 0 where
  pub credentials : List NumberedText
  pub changes : ℕ
  pub logged : ℕ
  pub added : ℕ

-- what these changes leave
abbrev pub live_view : List Numbered → LiveView
live_view past = record {
  credentials = live past;
  changes = length past;
  logged = logged_bytes past;
  added = additions past;
}

-- the first fault of an addition of so many bytes
abbrev pub refusal_of_size : LiveView → ℕ → Option StoreFault
refusal_of_size v size =
    if nat_le LIVE_CREDENTIALS (length v.credentials) then Some (LiveFull (length v.credentials))
    else if nat_lt LIVE_BYTES (text_bytes v.credentials + size) then Some (BytesFull (text_bytes v.credentials))
    else if nat_le UPDATES v.changes then Some (HistoryFull v.changes)
    else if nat_lt LOGGED_BYTES (v.logged + size) then Some (LogFull v.logged)
    else None

-- the first fault of a removal of this id
abbrev pub refusal_of_removal : LiveView → ℕ → Option StoreFault
refusal_of_removal v id =
    if not (list_any (λ c. c.id == id) v.credentials) then Some (Unknown id)
    else if nat_le UPDATES v.changes then Some (HistoryFull v.changes)
    else None

-- one more addition
abbrev pub with_addition : LiveView → List ℕ → LiveView
with_addition v text = record {
  credentials = v.credentials ++ record { id = v.added + 1; text = text } ∷ [];
  changes = v.changes + 1;
  logged = v.logged + length text;
  added = v.added + 1;
}

-- one more removal
abbrev pub with_removal : LiveView → ℕ → LiveView
with_removal v id = record v {
  credentials = filter (λ c. not (c.id == id)) v.credentials;
  changes = v.changes + 1;
}
