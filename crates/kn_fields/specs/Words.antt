-- The tokens of a field as its grammar sees them.
use Rattle.std.specs.Prelude.{ℕ, Bool, true, false, List, [], ◌∷◌, Option, Some, None, if◌then◌else◌}
use Rattle.std.specs.Str.{bytes_eq}
use Rattle.kn_lex.specs.Cutting.{TokenView}
use Rattle.kn_lex.specs.Literal.{literal_value}
use Rattle.kn_lex.specs.declared.token.Sort.{Sort}
use Rattle.kn_lex.specs.declared.token.Sort.TheVariants.{Name, Number, Text, Sign}

-- a token of a field: a literal by its value, a name, a number by its digits, or a sign; no other token stands in a
-- grammar
pub data Word : Type 0 where
  literal : List ℕ → Word
  name : List ℕ → Word
  number : List ℕ → Word
  sign : List ℕ → Word
  other : Word

abbrev pub word_by : Sort → List ℕ → Word
word_by Name text = name text
word_by Number text = number text
word_by Text text = literal (literal_value text)
word_by Sign text = sign text
word_by sort text = other

abbrev pub word_of : TokenView → Word
word_of token = word_by token.sort token.text

unfoldable pub words_of : List TokenView → List Word
words_of [] = []
words_of (token ∷ tokens) = word_of token ∷ words_of tokens

-- the sign at the front
abbrev pub first_sign : List Word → Option (List ℕ)
first_sign (sign text ∷ words) = Some text
first_sign words = None

-- the words behind the first
abbrev pub rest_of : List Word → List Word
rest_of [] = []
rest_of (word ∷ words) = words

abbrev pub with_rest : {S : Type 0} → Option S → List Word → Option (S × List Word)
with_rest None words = None
with_rest (Some found) words = Some (found, words)

-- a word that stands for itself
abbrev pub Mark : Type 0
Mark = Unit {0}

unfoldable pub itself : List ℕ → List ℕ → Option Mark
itself wanted text = if bytes_eq text wanted then Some tt else None

-- a sign that was there or not, and the words behind it
abbrev pub mark_if : Bool → List Word → Option (Mark × List Word)
mark_if true words = Some (tt, words)
mark_if false words = None
