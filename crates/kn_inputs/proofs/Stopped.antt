-- What stops a command at its files.
use Rattle.std.proofs.Common.{◌≡◌, ℕ, List, [], ◌∷◌, refl, sym, subst, inl, inr, ⊎_elim, append-nil, Option, Some}
use Rattle.std.proofs.Common.{None}
use Rattle.std.specs.Prelude.{IsSomeAnd}
use Rattle.kn_outside.specs.Seen.{FilesSeen}
use Rattle.kn_outside.specs.Asked.{HasAsked}
use Rattle.kn_auth.specs.Causes.{TakesMemory}
use Rattle.kn_auth.specs.declared.key_file.KeyFile.{KeyFile}
use Rattle.kn_files.specs.Pieces.{pieces_of}
use Rattle.kn_words.specs.Names.{AskNames}
use Rattle.kn_load.specs.Loaded.{StopsLoading}
use Rattle.kn_load.specs.declared.fault.LoadFault.{LoadFault}
use Rattle.kn_load.specs.declared.fault.LoadFault.TheVariants as L
use Rattle.kn_history.specs.declared.fault.StoreFault.TheVariants as F
use Rattle.kn_inputs.specs.declared.input_fault.InputFault.{InputFault}
use Rattle.kn_inputs.specs.declared.input_fault.InputFault.TheVariants.{Words, FileFailed, FileTooLarge, Policy, Limit}
use Rattle.kn_inputs.specs.declared.input_fault.InputFault.TheVariants.{KeyLine}
use Rattle.kn_inputs.specs.declared.input_fault.InputFault.TheVariants.{Memory}
use Rattle.kn_inputs.specs.InputFaults.{input_fault_of}
use Rattle.kn_inputs.specs.Held.{HasContent, IsPolicy, AreKeys, IsFileRead}
use Rattle.kn_inputs.specs.Stopping.{IsUnread}
use Rattle.kn_inputs.specs.Inputs.{StopsAtPolicy, StopsAtKeys, AreKeysStopped}
use Rattle.kn_inputs.proofs.Files.{content_there, too_large_there, keeps_content, asked_both, failed_behind}

-- a policy file that isn't loaded stops the command
pub unloaded_policy : (f f' : FilesSeen) (name bytes : List ℕ) (fault : LoadFault) (stop : InputFault)
    → stop ≡ input_fault_of fault
    → HasAsked (name ∷ []) f f' → HasContent f name bytes →
    StopsLoading (pieces_of bytes) fault → StopsAtPolicy f f' name stop
unloaded_policy f f' name bytes fault stop is asked has stops =
    subst (StopsAtPolicy f f' name) (sym is) (by fault stops)
  where
    read : IsFileRead name f f' bytes
    read = record { asked = asked; content = has }

    by : (why : LoadFault) → StopsLoading (pieces_of bytes) why → StopsAtPolicy f f' name (input_fault_of why)
    by (L.Faulty n fault) found = (bytes, read, found)
    by (L.Full n (F.LiveFull count)) found =
        (bytes, read, record { refusal = F.LiveFull count; full = found; exact = refl })
    by (L.Full n (F.BytesFull count)) found =
        (bytes, read, record { refusal = F.BytesFull count; full = found; exact = refl })
    by (L.Full n (F.HistoryFull count)) found =
        (bytes, read, record { refusal = F.HistoryFull count; full = found; exact = refl })
    by (L.Full n (F.LogFull count)) found =
        (bytes, read, record { refusal = F.LogFull count; full = found; exact = refl })
    by (L.Full n (F.Unknown id)) found = inr asked
    by (L.Full n F.NoMemory) found = inr asked
    by L.NoMemory found = inr asked

-- the same, behind files that were read
keys_behind : (front : List (List ℕ)) (f mid f' : FilesSeen) (name : List ℕ) (stop : InputFault) → HasAsked front f mid
    → StopsAtKeys mid f' [] name stop → StopsAtKeys f f' front name stop
keys_behind front f mid f' name FileFailed before stops = failed_behind front (name ∷ []) f mid f' before stops
keys_behind front f mid f' name FileTooLarge before stops = (
  asked_both front (name ∷ []) f mid f' before stops.0,
  too_large_there f mid name (keeps_content front f mid before) stops.1,
)
keys_behind front f mid f' name (KeyLine n) before stops = (
  asked_both front (name ∷ []) f mid f' before stops.0,
  stops.1,
  content_there f mid name stops.1 (keeps_content front f mid before) stops.2,
  stops.3,
)
keys_behind front f mid f' name Memory before stops =
    ⊎_elim
    (λ (none : HasAsked [] mid f').
    inl (subst (λ (l : List (List ℕ)). HasAsked l f f') (append-nil front)
    (asked_both front [] f mid f' before none)))
    (λ (one : HasAsked (name ∷ []) mid f' × (text : List ℕ) × HasContent mid name text × TakesMemory text).
    inr (
      asked_both front (name ∷ []) f mid f' before one.0,
      one.1,
      content_there f mid name one.1 (keeps_content front f mid before) one.2,
      one.3,
    ))
    stops
keys_behind front f mid f' name Words before stops = absurd stops
keys_behind front f mid f' name (Policy n fault) before stops = absurd stops
keys_behind front f mid f' name (Limit n word count) before stops = absurd stops

pub keys_stopped : (f mid f' : FilesSeen) (names : AskNames) (bytes : List ℕ) (stop : InputFault)
    → IsPolicy f names.policy bytes → HasAsked (names.policy ∷ []) f mid →
    IsSomeAnd names.keys (λ name. StopsAtKeys mid f' [] name stop) → AreKeysStopped f f' names stop
keys_stopped f mid f' names bytes stop policy before stops = by names.keys refl stops
  where
    by : (key : Option (List ℕ)) → names.keys ≡ key → IsSomeAnd key (λ name. StopsAtKeys mid f' [] name stop)
        → AreKeysStopped f f' names stop
    by None is some = absurd some
    by (Some name) is some =
        record {
          name = name;
          named = is;
          bytes = bytes;
          policy = policy;
          stops =
              keys_behind (names.policy ∷ []) f mid f' name stop before some;
        }

-- keys that were known behind files are known before them
pub keys_there : (front : List (List ℕ)) (f mid : FilesSeen) (name : Option (List ℕ)) (keys : KeyFile)
    → HasAsked front f mid → AreKeys mid name keys → AreKeys f name keys
keys_there front f mid None keys before known = known
keys_there front f mid (Some name) keys before known =
    (known.0, content_there f mid name known.0 (keeps_content front f mid before) known.1, known.2)
