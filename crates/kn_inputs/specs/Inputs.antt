-- What a command's files make it do: what something runs over, and what stops it (keynoted's own).
use Rattle.std.specs.Prelude.{ℕ, ◌≡◌, ◌⊎◌, List, [], ◌∷◌, ◌++◌, Some}
use Rattle.kn_outside.specs.Seen.{FilesSeen}
use Rattle.kn_outside.specs.Asked.{HasAsked, HasFailed}
use Rattle.kn_files.specs.Pieces.{pieces_of}
use Rattle.kn_auth.specs.Causes.{TakesMemory}
use Rattle.kn_auth.specs.KeyFiles.{IsFirstMalformed}
use Rattle.kn_auth.specs.Verdicts.{verdict_of}
use Rattle.kn_auth.specs.declared.key_file.KeyFile.{KeyFile}
use Rattle.kn_history.specs.declared.update.Update.{Update}
use Rattle.kn_history.specs.History.{loaded_history}
use Rattle.kn_history.specs.Loading.{IsFaultyAt}
use Rattle.kn_daemon.specs.Daemon.{DaemonConfig}
use Rattle.kn_words.specs.Names.{AskNames, ask_order}
use Rattle.kn_inputs.specs.declared.input_fault.InputFault.{InputFault}
use Rattle.kn_inputs.specs.declared.input_fault.InputFault.TheVariants.{FileFailed, FileTooLarge, Policy, Limit}
use Rattle.kn_inputs.specs.declared.input_fault.InputFault.TheVariants.{KeyLine, Memory}
use Rattle.kn_inputs.specs.Held.{HasContent, IsTooLarge, IsPolicy, AreKeys, IsFileRead}
use Rattle.kn_inputs.specs.Stopping.{IsLimitAt}

-- what a connection is served with: the secret and the verdicts of a key file
abbrev pub config_of_keys : KeyFile → DaemonConfig
config_of_keys keys = record { secret = keys.secret; verdict = verdict_of keys.auth }

-- The files of these names were read: a policy and, where one is named, a key file. Over what they hold something ran
-- so.
pub record RunsOver (f f' : FilesSeen) (names : AskNames) (Runs : DaemonConfig → List Update → Type 0) : Type 0 where
  pub asked : HasAsked (ask_order names) f f'
  pub bytes : List ℕ
  pub policy : IsPolicy f names.policy bytes
  pub keys : KeyFile
  pub known : AreKeys f names.keys keys
  pub runs : Runs (config_of_keys keys) (loaded_history (pieces_of bytes))

-- why reading or loading the policy file stops a command
abbrev pub StopsAtPolicy : FilesSeen → FilesSeen → List ℕ → InputFault → Type 0
StopsAtPolicy f f' name FileFailed = HasFailed (name ∷ []) f f'
StopsAtPolicy f f' name FileTooLarge = HasAsked (name ∷ []) f f' × IsTooLarge f name
StopsAtPolicy f f' name (Policy n fault) = (bytes : List ℕ) × IsFileRead name f f' bytes
    × IsFaultyAt (pieces_of bytes) n fault
StopsAtPolicy f f' name (Limit n word count) = (bytes : List ℕ) × IsFileRead name f f' bytes
    × IsLimitAt (pieces_of bytes) n word count
StopsAtPolicy f f' name Memory = (f' ≡ f) ⊎ HasAsked (name ∷ []) f f'
StopsAtPolicy f f' name stop = ⊥

-- Why reading a key file stops a command, behind files of these names. Memory runs out for reading the file, or at a
-- line that takes some.
abbrev pub StopsAtKeys : FilesSeen → FilesSeen → List (List ℕ) → List ℕ → InputFault → Type 0
StopsAtKeys f f' front name FileFailed = HasFailed (front ++ name ∷ []) f f'
StopsAtKeys f f' front name FileTooLarge = HasAsked (front ++ name ∷ []) f f' × IsTooLarge f name
StopsAtKeys f f' front name (KeyLine n) = HasAsked (front ++ name ∷ []) f f' × (text : List ℕ) × HasContent f name text
    × IsFirstMalformed text n
StopsAtKeys f f' front name Memory =
    HasAsked front f f'
    ⊎ (HasAsked (front ++ name ∷ []) f f' × (text : List ℕ) × HasContent f name text × TakesMemory text)
StopsAtKeys f f' front name stop = ⊥

-- a key file is named, the policy file is a policy, and this stops the command
pub record AreKeysStopped (f f' : FilesSeen) (names : AskNames) (stop : InputFault) : Type 0 where
  pub name : List ℕ
  pub named : names.keys ≡ Some name
  pub bytes : List ℕ
  pub policy : IsPolicy f names.policy bytes
  pub stops : StopsAtKeys f f' (names.policy ∷ []) name stop
