-- The words of a field, word by word, and the signs and names among them, forwards and backwards.
use Rattle.std.proofs.Common.{◌≡◌, ℕ, ◌-◌, ◌≤◌, Bool, true, false, List, [], ◌∷◌, length, Option, Some, None, refl}
use Rattle.std.proofs.Common.{arith}
use Rattle.std.specs.Str.{bytes_eq}
use Rattle.std.proofs.lemmas.Option.{some_pair_parts}
use Rattle.std.proofs.lemmas.Slice.Eq.{bytes_eq-Decides}
use Rattle.kn_lex.specs.Cutting.{TokenView}
use Rattle.kn_fields.specs.Fields.{between}
use Rattle.kn_fields.specs.Words.{Word, Mark, words_of, itself, mark_if}
use Rattle.kn_fields.specs.Reading.{taken, read_mark, named}
use Rattle.kn_fields.specs.Words.Word.{name, sign}
use Rattle.kn_fields.proofs.Between.{steps, between_length}

pub length_words : (tokens : List TokenView) → length (words_of tokens) ≡ length tokens
unfolding words_of
length_words [] = refl
length_words (token ∷ tokens) = grind (arith, length_words tokens)

-- as many words as places
pub words_length : (tokens : List TokenView) (at end : ℕ) → at ≤ end → end ≤ length tokens
    → end - at ≡ length (words_of (between at end tokens))
words_length tokens at end ordered within = grind (arith, length_words, between_length)

-- a step of a cursor
pub ruleset cursor_steps = (steps, words_length)

pub is_itself : (wanted text : List ℕ) → bytes_eq text wanted ≡ true → Some tt ≡ itself wanted text
unfolding itself
is_itself wanted text same = grind arith

pub not_itself : (wanted text : List ℕ) → bytes_eq text wanted ≡ false → None ≡ itself wanted text
unfolding itself
not_itself wanted text differs = grind arith

-- a sign that was there, and one that was not
pub took : (there : Bool) (text written : List ℕ) (words rest : List Word) → there ≡ true
    → mark_if there rest ≡ read_mark text words → text ≡ written → read_mark written words ≡ Some (tt, rest)
took there text written words rest came is same = grind arith

pub passed : (there : Bool) (text written : List ℕ) (words rest : List Word) → there ≡ false
    → mark_if there rest ≡ read_mark text words → text ≡ written → read_mark written words ≡ None
passed there text written words rest came is same = grind arith

-- a sign is taken from the front
pub record Taken {S : Type 0} (which : List ℕ → Option S) (words rest : List Word) (found : S) : Type 0 where
  pub text : List ℕ
  pub words_are : words ≡ sign text ∷ rest
  pub stands_for : which text ≡ Some found

-- the parts of what is read
pub read_parts : {X Y : Type 0} (a c : X) (b d : Y) → ◌≡◌ {A = Option (X × Y)} (Some (a, b)) (Some (c, d)) → (a ≡ c)
    × (b ≡ d)
read_parts a c b d e = some_pair_parts a c b d e

pub taken_before : {S : Type 0} (which : List ℕ → Option S) (words rest : List Word) (found : S)
    → taken which words ≡ Some (found, rest) → Taken which words rest found
unfolding taken
taken_before which words rest found e = grind arith

pub taken_there : {S : Type 0} (which : List ℕ → Option S) (text : List ℕ) (rest : List Word) (found : S)
    → which text ≡ Some found → taken which (sign text ∷ rest) ≡ Some (found, rest)
unfolding taken
taken_there which text rest found e = grind arith

-- so is a sign that stands for itself
pub marked_before : (text : List ℕ) (words rest : List Word) (mark : Mark) → read_mark text words ≡ Some (mark, rest)
    → words ≡ sign text ∷ rest
unfolding taken itself
marked_before text words rest mark e = grind (arith, bytes_eq-Decides)

pub marked_there : (text : List ℕ) (rest : List Word) → read_mark text (sign text ∷ rest) ≡ Some (tt, rest)
unfolding taken itself
marked_there text rest = grind (arith, bytes_eq-Decides)

-- and a name
pub named_before : (text : List ℕ) (words rest : List Word) (mark : Mark) → named text words ≡ Some (mark, rest)
    → words ≡ name text ∷ rest
unfolding named itself
named_before text words rest mark e = grind (arith, bytes_eq-Decides)
