-- Which assertions a query takes: those of texts that are short enough together. And how much they add to a system.
use Rattle.std.specs.Prelude.{ℕ, ◌≡◌, ◌+◌, ◌≤◌, List, [], ◌∷◌, length, map, sum_by, Some, IfSome}
use Rattle.kn_trees.specs.Formulas.{IsReadable, field_nodes}
use Rattle.kn_assert.specs.Reading.{assertion_of}
use Rattle.kn_meaning.specs.Equations.{Part}
use Rattle.kn_rows.specs.declared.parts.TheConstants.{QUERY_BYTES}

-- Each assertion is that of a text, in their order, and these texts together aren't too long.
pub record HaveTexts (parts : List Part) : Type 0 where
  pub texts : List (List ℕ)
  pub read : map assertion_of texts ≡ map (λ part. Some part.assertion) parts
  pub short : sum_by length texts ≤ QUERY_BYTES

-- the formula, where there is one, is one that a reader gives for some text
abbrev pub IsReadablePart : Part → Type 0
IsReadablePart part = IfSome part.assertion.licensees (λ formula. (bytes : ℕ) × IsReadable bytes formula)

-- An assertion adds at most so many principals and nodes: its authorizer, the nodes of its formula, and a gate where it
-- has none.
abbrev pub size_of : Part → ℕ
size_of part = 2 + field_nodes part.assertion.licensees

abbrev pub total_size : List Part → ℕ
total_size [] = 0
total_size (part ∷ parts) = size_of part + total_size parts
