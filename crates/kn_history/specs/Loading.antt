-- Loading a policy file (keynoted's own): caller 0 adds its texts in their order to an empty history.
use Rattle.std.specs.Prelude.{ℕ, ◌≡◌, ◌+◌, List, ◌∷◌, ◌++◌, length, Option, Some, None, IsSome}
use Rattle.kn_fields.specs.declared.fault.ReadFault.{ReadFault}
use Rattle.kn_assert.specs.Reading.{assertion_of, fault_of}
use Rattle.kn_history.specs.declared.update.Change.TheVariants.{Add}
use Rattle.kn_history.specs.declared.fault.StoreFault.{StoreFault}
use Rattle.kn_history.specs.History.{all_changes, refusal_of, loaded_history}

-- why a text isn't added behind these, if it is refused
abbrev pub refusal_behind : List (List ℕ) → List ℕ → Option StoreFault
refusal_behind front text = refusal_of (all_changes (loaded_history front)) (Add text) (length front + 1)

-- the text has a reading, and it is added behind these
pub record IsAddedBehind (front : List (List ℕ)) (text : List ℕ) : Type 0 where
  pub reads : IsSome (assertion_of text)
  pub accepted : refusal_behind front text ≡ None

-- these texts make a history: each of them is added behind those in front of it
pub record IsLoadable (texts : List (List ℕ)) : Type 0 where
  pub each : (front : List (List ℕ)) (text : List ℕ) (rest : List (List ℕ)) → texts ≡ front ++ text ∷ rest
      → IsAddedBehind front text

-- the texts in front of the n-th, counted from 1, make a history, and the n-th is this
pub record IsNextText (texts : List (List ℕ)) (n : ℕ) (front : List (List ℕ)) (text : List ℕ) : Type 0 where
  pub rest : List (List ℕ)
  pub cut : texts ≡ front ++ text ∷ rest
  pub place : n ≡ length front + 1
  pub loadable : IsLoadable front

-- the n-th text, counted from 1, is the first that isn't added: it has no reading, but this fault
pub record IsFaultyAt (texts : List (List ℕ)) (n : ℕ) (fault : ReadFault) : Type 0 where
  pub front : List (List ℕ)
  pub text : List ℕ
  pub reached : IsNextText texts n front text
  pub fault_there : fault_of text ≡ Some fault

-- the n-th text, counted from 1, is the first that isn't added: it has a reading, and is refused for this
pub record IsFullAt (texts : List (List ℕ)) (n : ℕ) (refusal : StoreFault) : Type 0 where
  pub front : List (List ℕ)
  pub text : List ℕ
  pub reached : IsNextText texts n front text
  pub reads : IsSome (assertion_of text)
  pub refused : refusal_behind front text ≡ Some refusal
