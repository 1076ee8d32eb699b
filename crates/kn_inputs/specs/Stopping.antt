-- What stops a command before its work is done: a file that isn't read, and a limit of the policy (keynoted's own).
use Rattle.std.specs.Prelude.{ℕ, ◌≡◌, List, [], ◌∷◌, Some}
use Rattle.kn_outside.specs.Seen.{FilesSeen}
use Rattle.kn_outside.specs.Asked.{HasAsked, HasFailed}
use Rattle.kn_history.specs.declared.fault.StoreFault.{StoreFault}
use Rattle.kn_history.specs.Loading.{IsFullAt}
use Rattle.kn_reply.specs.declared.refusal.LimitWord.{LimitWord}
use Rattle.kn_reply.specs.declared.refusal.Refusal.TheVariants.{Limit as TheLimit}
use Rattle.kn_daemon.specs.Daemon.{refusal_of_store}
use Rattle.kn_inputs.specs.declared.input_fault.InputFault.{InputFault}
use Rattle.kn_inputs.specs.declared.input_fault.InputFault.TheVariants.{Words, FileFailed, FileTooLarge, Policy, Limit}
use Rattle.kn_inputs.specs.declared.input_fault.InputFault.TheVariants.{KeyLine}
use Rattle.kn_inputs.specs.declared.input_fault.InputFault.TheVariants.{Memory}
use Rattle.kn_inputs.specs.Held.{IsTooLarge}

-- why a file isn't read
abbrev pub IsUnread : FilesSeen → FilesSeen → List ℕ → InputFault → Type 0
IsUnread f f' name FileFailed = HasFailed (name ∷ []) f f'
IsUnread f f' name FileTooLarge = HasAsked (name ∷ []) f f' × IsTooLarge f name
IsUnread f f' name Memory = f' ≡ f
IsUnread f f' name Words = ⊥
IsUnread f f' name (Policy n fault) = ⊥
IsUnread f f' name (Limit n word count) = ⊥
IsUnread f f' name (KeyLine n) = ⊥

-- the n-th text is the first that isn't added, for the limit of this word, where the counted quantity was this
pub record IsLimitAt (texts : List (List ℕ)) (n : ℕ) (word : LimitWord) (count : ℕ) : Type 0 where
  pub refusal : StoreFault
  pub full : IsFullAt texts n refusal
  pub exact : refusal_of_store refusal ≡ Some (TheLimit word count)
