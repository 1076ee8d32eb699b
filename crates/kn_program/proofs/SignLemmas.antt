-- Signs and what they stand for, forwards and backwards.
use Rattle.std.proofs.Common.{◌≡◌, ℕ, true, List, Some, arith}
use Rattle.std.proofs.lemmas.Slice.Eq.{bytes_eq-Decides}
use Rattle.kn_trees.specs.declared.program.Comparison.{Comparison}
use Rattle.kn_trees.specs.declared.program.Operation.{Operation}
use Rattle.kn_program.specs.Signs.{operation_text, operation_of, is_at, comparison_text, comparison_of, prefix_text}
use Rattle.kn_program.specs.Signs.{prefix_of}
use Rattle.kn_program.specs.declared.signs.Precedence.{Precedence}
use Rattle.kn_program.specs.declared.signs.Precedence.TheVariants.{Sum, Product, Power}
use Rattle.kn_program.specs.declared.signs.Prefix.{Prefix}

-- the text is that of the operation, which stands on this level
abbrev IsOperation : Precedence → List ℕ → Operation → Type 0
IsOperation level text operation = (text ≡ operation_text operation) × (is_at level operation ≡ true)

pub operation_before : (level : Precedence) (text : List ℕ) (found : Operation) → operation_of level text ≡ Some found
    → IsOperation level text found
unfolding operation_of
operation_before Sum text found e = grind (arith, bytes_eq-Decides)
operation_before Product text found e = grind (arith, bytes_eq-Decides)
operation_before Power text found e = grind (arith, bytes_eq-Decides)

pub operation_there : (level : Precedence) (found : Operation) → is_at level found ≡ true
    → operation_of level (operation_text found) ≡ Some found
unfolding operation_of
operation_there level found e = grind arith

pub comparison_before : (text : List ℕ) (found : Comparison) → comparison_of text ≡ Some found
    → text ≡ comparison_text found
unfolding comparison_of
comparison_before text found e = grind (arith, bytes_eq-Decides)

pub comparison_there : (found : Comparison) → comparison_of (comparison_text found) ≡ Some found
unfolding comparison_of
comparison_there found = grind arith

pub prefix_before : (text : List ℕ) (found : Prefix) → prefix_of text ≡ Some found → text ≡ prefix_text found
unfolding prefix_of
prefix_before text found e = grind (arith, bytes_eq-Decides)

pub prefix_there : (found : Prefix) → prefix_of (prefix_text found) ≡ Some found
unfolding prefix_of
prefix_there found = grind arith
