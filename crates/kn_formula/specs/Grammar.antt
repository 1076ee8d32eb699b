-- Which tokens spell which formula (RFC 2704, section 4, the Licensees field; that an element of a K-of list may be
-- any formula is keynoted's own choice).
use Rattle.std.specs.Prelude.{◌≡◌, ℕ, List, [], ◌∷◌, ◌++◌, codes}
use Rattle.kn_lex.specs.Cutting.{TokenView}
use Rattle.kn_fields.specs.Words.{Word, words_of}
use Rattle.kn_fields.specs.Words.Word.{literal as literal_word, name as name_word, number as number_word}
use Rattle.kn_fields.specs.Words.Word.{sign as sign_word}
use Rattle.kn_formula.specs.Trees.{joined, need_of}
use Rattle.kn_formula.specs.declared.written.Principal.TheVariants.{Literal, Name}
use Rattle.kn_formula.specs.declared.written.Rule.TheVariants.{All, Any, AtLeast}
use Rattle.kn_formula.specs.declared.written.Written.{Written}
use Rattle.kn_formula.specs.declared.written.Written.TheVariants.{Who, Several}

-- A derivation: a constructor for each line of the grammar.
mutual
  -- Form: Both, or Both || Form
  pub data Form : Type 0 where
    both : Both → Form
    either : Both → Form → Form

  -- Both: One, or One && Both
  pub data Both : Type 0 where
    one : One → Both
    each : One → Both → Both

  -- One: ( Form ), or a literal, or a name, or a number - of ( Forms )
  pub data One : Type 0 where
    group : Form → One
    literal : List ℕ → One
    name : List ℕ → One
    some_of : List ℕ → Forms → One

  -- Forms: Form, or Form , Forms
  pub data Forms : Type 0 where
    last : Form → Forms
    further : Form → Forms → Forms

-- the tokens
unfoldable mutual
  pub form_words : Form → List Word
  form_words (both b) = both_words b
  form_words (either b f) = both_words b ++ sign_word (codes "||") ∷ form_words f

  pub both_words : Both → List Word
  both_words (one o) = one_words o
  both_words (each o b) = one_words o ++ sign_word (codes "&&") ∷ both_words b

  pub one_words : One → List Word
  one_words (group f) = sign_word (codes "(") ∷ form_words f ++ sign_word (codes ")") ∷ []
  one_words (literal value) = literal_word value ∷ []
  one_words (name text) = name_word text ∷ []
  one_words (some_of digits fs) =
      number_word digits ∷ sign_word (codes "-") ∷ name_word (codes "of") ∷ sign_word (codes "(") ∷ forms_words fs
      ++ sign_word (codes ")") ∷ []

  pub forms_words : Forms → List Word
  forms_words (last f) = form_words f
  forms_words (further f fs) = form_words f ++ sign_word (codes ",") ∷ forms_words fs

-- the formula
unfoldable mutual
  pub form_parts : Form → List Written
  form_parts (both b) = joined All (both_parts b) ∷ []
  form_parts (either b f) = joined All (both_parts b) ∷ form_parts f

  pub both_parts : Both → List Written
  both_parts (one o) = one_tree o ∷ []
  both_parts (each o b) = one_tree o ∷ both_parts b

  pub one_tree : One → Written
  one_tree (group f) = joined Any (form_parts f)
  one_tree (literal value) = Who (Literal value)
  one_tree (name text) = Who (Name text)
  one_tree (some_of digits fs) = Several (AtLeast (need_of digits)) (forms_parts fs)

  pub forms_parts : Forms → List Written
  forms_parts (last f) = joined Any (form_parts f) ∷ []
  forms_parts (further f fs) = joined Any (form_parts f) ∷ forms_parts fs

abbrev pub form_tree : Form → Written
form_tree f = joined Any (form_parts f)

-- the tokens spell the formula
pub record Spells (tokens : List TokenView) (written : Written) : Type 0 where
  pub form : Form
  pub words : form_words form ≡ words_of tokens
  pub tree : form_tree form ≡ written
