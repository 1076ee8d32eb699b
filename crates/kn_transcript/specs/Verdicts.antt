-- What an authenticator said of the texts of an update, as far as a reply tells it (keynoted's own).
use Rattle.std.specs.Prelude.{ℕ, ◌≡◌, ◌≢◌, ◌+◌, ◌<◌, ◌≤◌, ◌⊎◌, ⊤, Bool, true, false, not, List, [], ◌∷◌, ◌++◌, map}
use Rattle.std.specs.Prelude.{take, slice_get, Option, Some, None, IsSome}
use Rattle.std.specs.List.{list_any, AllByRecursion}
use Rattle.std.specs.Str.{bytes_eq}
use Rattle.kn_assert.specs.Reading.{assertion_of}
use Rattle.kn_wire.specs.Items.{BatchItem, AddText, DropId}
use Rattle.kn_reply.specs.declared.refusal.Refusal.{Refusal}
use Rattle.kn_reply.specs.declared.refusal.Refusal.TheVariants as R
use Rattle.kn_reply.specs.declared.refusal.ItemRefusal.{ItemRefusal}
use Rattle.kn_reply.specs.declared.refusal.ItemRefusal.TheVariants as I
use Rattle.kn_reply.specs.Logs.{item_of}
use Rattle.kn_reply.specs.Replies.{No, reply_text}
use Rattle.kn_daemon.specs.Daemon.{DaemonConfig, item_refusal}
use Rattle.kn_transcript.specs.declared.fault.TheConstants.{AUTH_FAULTS}
use Rattle.kn_transcript.specs.declared.items.ReadItems.{ReadItems}

abbrev pub IsAuthFault : ℕ → Type 0
IsAuthFault fault = (1 ≤ fault) × (fault ≤ AUTH_FAULTS)

-- the refusal by an authenticator of a request's text, or of that of an item of a batch, by its number
abbrev pub verdict_refusal : Option ℕ → ℕ → Refusal
verdict_refusal None fault = R.Auth fault
verdict_refusal (Some item) fault = R.Item item (I.Auth fault)

-- what is left behind such a refusal for some fault; nothing where the bytes begin with none
abbrev pub IsBehindVerdict : Option ℕ → List ℕ → Option (List ℕ) → Type 0
IsBehindVerdict item left None =
    (fault : ℕ) (rest : List ℕ) → IsAuthFault fault → left ≢ reply_text (No (verdict_refusal item fault)) ++ rest
IsBehindVerdict item left (Some rest) =
    (fault : ℕ) × IsAuthFault fault × (left ≡ reply_text (No (verdict_refusal item fault)) ++ rest)

abbrev pub adds_text : List ℕ → BatchItem → Bool
adds_text text (AddText other) = bytes_eq other text
adds_text text (DropId k) = false

-- an item adds a text that none in front of it adds
abbrev pub is_new_behind : List BatchItem → Option BatchItem → Bool
is_new_behind front (Some (AddText text)) = not (list_any (adds_text text) front)
is_new_behind front (Some (DropId k)) = false
is_new_behind front None = false

-- The item of this place, counted from 0, adds a text that none in front of it adds. An authenticator that refuses it
-- has said nothing of it before.
abbrev pub adds_anew : List BatchItem → ℕ → Bool
adds_anew items place = is_new_behind (take place items) (slice_get items place)

-- what is left behind the refusal of one of the first so many items by an authenticator; nothing where the bytes begin
-- with none
abbrev pub IsBehindVerdicts : List BatchItem → ℕ → List ℕ → Option (List ℕ) → Type 0
IsBehindVerdicts items count left None =
    (place fault : ℕ) (rest : List ℕ) → place < count → adds_anew items place ≡ true → IsAuthFault fault
    → left ≢ reply_text (No (R.Item (place + 1) (I.Auth fault))) ++ rest
IsBehindVerdicts items count left (Some rest) =
    (place : ℕ) × (fault : ℕ) × (place < count) × (adds_anew items place ≡ true) × IsAuthFault fault
    × (left ≡ reply_text (No (R.Item (place + 1) (I.Auth fault))) ++ rest)

-- the text that an item adds, if it adds one, has a reading
abbrev pub HasReading : BatchItem → Type 0
HasReading (AddText text) = IsSome (assertion_of text)
HasReading (DropId k) = ⊤

-- the item is refused so whatever an authenticator says of it, or without a refusal memory ran out
abbrev pub IsUnread : BatchItem → Option ItemRefusal → Type 0
IsUnread item refusal = (refusal ≡ None) ⊎ ((g : DaemonConfig) → item_refusal g item ≡ refusal)

-- all items are in front of the first that isn't read, or that one is behind them
abbrev pub IsFirstUnread : List BatchItem → Option ItemRefusal → Type 0
IsFirstUnread behind None = behind ≡ []
IsFirstUnread behind (Some refusal) = (item : BatchItem) × (rest : List BatchItem) × (behind ≡ item ∷ rest)
    × ((g : DaemonConfig) → item_refusal g item ≡ Some refusal)

-- the items in front of the first whose text has no reading, and why that one is refused
pub record AreRead (items : List BatchItem) (read : ReadItems) : Type 0 where
  pub front : List BatchItem
  pub behind : List BatchItem
  pub cut : items ≡ front ++ behind
  pub asked : read.items ≡ map item_of front
  pub readings : AllByRecursion HasReading front
  pub first : IsFirstUnread behind read.refusal
