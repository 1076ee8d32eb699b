-- What was read of texts before they are added (keynoted's own).
use Rattle.std.specs.Prelude.{ℕ, ◌≡◌, ◌⊎◌, List, [], ◌∷◌, ◌++◌, Some, IsSome, All, MatchOption}
use Rattle.kn_fields.specs.declared.fault.ReadFault.{ReadFault}
use Rattle.kn_fields.specs.declared.fault.ReadFault.TheVariants.{NoMemory}
use Rattle.kn_assert.specs.Reading.{assertion_of, fault_of}
use Rattle.kn_load.specs.declared.read_results.ReadResult.{ReadResult}
use Rattle.kn_load.specs.declared.read_results.ReadResult.TheVariants.{Unread, Read, Faulty}
use Rattle.kn_load.specs.declared.read_texts.ReadTexts.{ReadTexts}

-- the text has this fault, or memory ran out
abbrev pub IsFaultyFor : List ℕ → ReadFault → Type 0
IsFaultyFor text fault = (fault ≡ NoMemory) ⊎ (fault_of text ≡ Some fault)

-- what was read is the text with its reading, or the text's first fault, or memory ran out
abbrev pub IsReadResultOf : List ℕ → ReadResult → Type 0
IsReadResultOf text Unread = ⊥
IsReadResultOf text (Read ready) = (ready ≡ text) × IsSome (assertion_of text)
IsReadResultOf text (Faulty fault) = IsFaultyFor text fault

-- the first of these texts has this fault, or memory ran out
abbrev pub IsFirstFaulty : List (List ℕ) → ReadFault → Type 0
IsFirstFaulty [] fault = ⊥
IsFirstFaulty (text ∷ rest) fault = IsFaultyFor text fault

-- These are the readings of the texts up to the first that has none, and why that one has none; where all have one,
-- there are no texts behind.
pub record AreReadings (texts : List (List ℕ)) (readings : ReadTexts) : Type 0 where
  pub reads : All (λ text. IsSome (assertion_of text)) readings.ready_texts.items
  pub rest : List (List ℕ)
  pub cut : texts ≡ readings.ready_texts.items ++ rest
  pub ends : MatchOption readings.fault (rest ≡ []) (λ fault. IsFirstFaulty rest fault)
