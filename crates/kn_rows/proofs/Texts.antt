-- What the texts of a query's assertions say of its system.
use Rattle.std.proofs.Common.{◌≡◌, ℕ, ◌+◌, ◌<◌, ◌≤◌, ◌^◌, List, [], ◌∷◌, length, map, Option, Some, None, Result, Ok}
use Rattle.std.proofs.Common.{Err, arith}
use Rattle.std.specs.Prelude.{All, IfSome, sum_by}
use Rattle.std.proofs.lemmas.List.Elements.{All-nil, All-cons}
use Rattle.std.proofs.lemmas.List.Sums.{sum_by-cons}
use Rattle.std.specs.Result.{result_ok}
use Rattle.kn_trees.specs.declared.assertion.Assertion.{Assertion}
use Rattle.kn_trees.specs.declared.formula.Formula.{Formula}
use Rattle.kn_trees.specs.Formulas.{IsReadable}
use Rattle.kn_fields.specs.declared.fault.ReadFault.{ReadFault}
use Rattle.kn_assert.specs.Reading.{assertion_of, reading_of, IsSound}
use Rattle.kn_assert.specs.AssertionTexts.{IsReading}
use Rattle.kn_assert.proofs.Answered.{ReadingTold}
use Rattle.kn_meaning.specs.Equations.{Part}
use Rattle.kn_rows.specs.Sizes.{HaveTexts, IsReadablePart, size_of, total_size}

-- what the law of readings says
abbrev pub SoundTold : Type 0
SoundTold = (text : List ℕ) (assertion : Assertion) → IsReading text assertion → IsSound (length text) assertion

-- what was read is sound
sound_read : ReadingTold → SoundTold → (text : List ℕ) (assertion : Assertion) → assertion_of text ≡ Some assertion
    → IsSound (length text) assertion
sound_read told sound text assertion read =
    sound text assertion ((told text assertion).0 (is_ok (reading_of text) read))
  where
    is_ok : (r : Result Assertion ReadFault) → result_ok r ≡ Some assertion → r ≡ Ok assertion
    is_ok (Ok other) e = cc
    is_ok (Err fault) e = cc

some_bytes : (bytes : ℕ) (licensees : Option Formula) → IfSome licensees (λ formula. IsReadable bytes formula)
    → IfSome licensees (λ formula. (n : ℕ) × IsReadable n formula)
some_bytes bytes None h = tt
some_bytes bytes (Some formula) h = (bytes, h)

pub texts_readable : ReadingTold → SoundTold → (texts : List (List ℕ)) (parts : List Part)
    → map assertion_of texts ≡ map (λ part. Some part.assertion) parts → All IsReadablePart parts
texts_readable told sound texts [] read = All-nil IsReadablePart
texts_readable told sound [] (part ∷ parts) read = absurd (cc)
texts_readable told sound (text ∷ texts) (part ∷ parts) read =
    let first : assertion_of text ≡ Some part.assertion = cc in
    let others : map assertion_of texts ≡ map (λ p. Some p.assertion) parts = cc in
    let one = sound_read told sound text part.assertion first in
    All-cons IsReadablePart part parts (some_bytes (length text) part.assertion.licensees one.licensees)
    (texts_readable told sound texts parts others)

pub texts_size : ReadingTold → SoundTold → (texts : List (List ℕ)) (parts : List Part)
    → map assertion_of texts ≡ map (λ part. Some part.assertion) parts → total_size parts ≤ sum_by length texts
texts_size told sound texts [] read = omega arith
texts_size told sound [] (part ∷ parts) read = absurd (cc)
texts_size told sound (text ∷ texts) (part ∷ parts) read =
    let first : assertion_of text ≡ Some part.assertion = cc in
    let others : map assertion_of texts ≡ map (λ p. Some p.assertion) parts = cc in
    let one : size_of part ≤ length text = (sound_read told sound text part.assertion first).nodes in
    let rest = texts_size told sound texts parts others in
    let sum : sum_by length (text ∷ texts) ≡ length text + sum_by length texts = sum_by-cons length text texts in
    omega arith

-- the system of a query over such texts, with its policy and requesters, is small
pub texts_small : ReadingTold → SoundTold → (parts : List Part) → HaveTexts parts → 65 + total_size parts < 2 ^ 24
texts_small told sound parts have =
    let size = texts_size told sound have.texts parts have.read in
    let short = have.short in
    omega arith
