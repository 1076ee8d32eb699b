-- What the results of an evaluation mean.
use Rattle.std.specs.Prelude.{ℤ, Option, Some, None}
use Rattle.kn_cond.specs.Meaning.{Meaning, truth, whole, text, fault}
use Rattle.kn_cond.specs.declared.outcome.Outcome.{Outcome}
use Rattle.kn_cond.specs.declared.outcome.Outcome.TheVariants.{Truth, Whole, Text, Fault}

abbrev pub meaning_of_outcome : Outcome → Meaning
meaning_of_outcome (Truth value) = truth value
meaning_of_outcome (Whole value) = whole value
meaning_of_outcome (Text value) = text value
meaning_of_outcome Fault = fault

-- a number, and a fault where there is none
abbrev pub or_fault : Option ℤ → Meaning
or_fault (Some value) = whole value
or_fault None = fault
