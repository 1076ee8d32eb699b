-- The levels of the grammar that are lists.
use Rattle.std.proofs.Common.{◌≡◌, ℕ, ◌⊎◌, inl, inr, codes, refl}
use Rattle.kn_fields.specs.Words.{Mark}
use Rattle.kn_fields.specs.Reading.{one_part}
use Rattle.kn_fields.proofs.Levels.{Level, mark_level}
use Rattle.kn_formula.specs.Trees.{joined}
use Rattle.kn_formula.specs.Grammar.{Form, Both, One, Forms, form_words, both_words, one_words, forms_words, form_parts}
use Rattle.kn_formula.specs.Grammar.{both_parts, one_tree, forms_parts, form_tree}
use Rattle.kn_formula.specs.Grammar.Form.{both, either}
use Rattle.kn_formula.specs.Grammar.Both.{one, each}
use Rattle.kn_formula.specs.Grammar.Forms.{last, further}
use Rattle.kn_formula.specs.declared.written.Rule.TheVariants.{All, Any, AtLeast}
use Rattle.kn_formula.specs.declared.written.Written.{Written}
use Rattle.kn_formula.specs.declared.written.Written.TheVariants.{Several}

abbrev pub both_tree : Both → Written
both_tree b = joined All (both_parts b)

pub form_split : (d : Form) → ((i : Both) × (d ≡ both i)) ⊎ ((i : Both) × (o : Form) × (d ≡ either i o))
form_split (both b) = inl (b, refl)
form_split (either b f) = inr (b, f, refl)

pub both_split : (d : Both) → ((i : One) × (d ≡ one i)) ⊎ ((i : One) × (o : Both) × (d ≡ each i o))
both_split (one o) = inl (o, refl)
both_split (each o b) = inr (o, b, refl)

pub forms_split : (d : Forms) → ((i : Form) × (d ≡ last i)) ⊎ ((i : Form) × (o : Forms) × (d ≡ further i o))
forms_split (last f) = inl (f, refl)
forms_split (further f fs) = inr (f, fs, refl)

abbrev pub form_level : Level Mark Written Written Written Both Form
unfolding form_words form_parts
form_level =
    mark_level (codes "||") one_part (joined Any) both_words both_tree form_words form_parts both either (λ b. refl)
    (λ b. refl) (λ b f. refl) (λ b f. refl) form_split

abbrev pub both_level : Level Mark Written Written Written One Both
unfolding both_words both_parts
both_level =
    mark_level (codes "&&") one_part (joined All) one_words one_tree both_words both_parts one each (λ o. refl)
    (λ o. refl) (λ o b. refl) (λ o b. refl) both_split

abbrev pub forms_level : ℕ → Level Mark Written Written Written Form Forms
unfolding forms_words forms_parts
forms_level need =
    mark_level (codes ",") one_part (Several (AtLeast need)) form_words form_tree forms_words forms_parts last further
    (λ f. refl) (λ f. refl) (λ f fs. refl) (λ f fs. refl) forms_split
