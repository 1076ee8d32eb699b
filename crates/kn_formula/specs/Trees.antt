-- Formulas as they are written, their faults, and what they mean (RFC 2704, section 4, the Licensees field).
use Rattle.std.specs.Prelude.{ℕ, Bool, true, false, ◌||◌, ◌==◌, nat_lt, List, [], ◌∷◌, length, slice_index, Option}
use Rattle.std.specs.Prelude.{Some, None, if◌then◌else◌}
use Rattle.std.specs.List.{list_any}
use Rattle.std.specs.Str.{bytes_eq}
use Rattle.kn_base.specs.Decimal.{digits_value}
use Rattle.kn_env.specs.Environment.{constant_value as value_of}
use Rattle.kn_env.specs.declared.constant.Constant.{Constant}
use Rattle.kn_principal.specs.Principals.{policy, normal_form}
use Rattle.kn_trees.specs.declared.formula.Formula.{Formula}
use Rattle.kn_trees.specs.declared.formula.Formula.TheVariants as formula
use Rattle.kn_formula.specs.declared.written.Principal.{Principal}
use Rattle.kn_formula.specs.declared.written.Principal.TheVariants.{Literal, Name}
use Rattle.kn_formula.specs.declared.written.Rule.{Rule}
use Rattle.kn_formula.specs.declared.written.Rule.TheVariants.{All, Any, AtLeast}
use Rattle.kn_formula.specs.declared.written.Written.{Written}
use Rattle.kn_formula.specs.declared.written.Written.TheVariants as written
use Rattle.kn_formula.specs.declared.written.Written.TheOpen.{Written-F}
use Rattle.kn_formula.specs.declared.written.Written.TheOpen.Written-F.{Who, Several}
use Rattle.kn_formula.specs.declared.written.Written.TheFolds.{fold-Written}

-- one part alone is itself
unfoldable pub joined : Rule → List Written → Written
joined rule [] = written.Several rule []
joined rule (part ∷ []) = part
joined rule (part ∷ next ∷ parts) = written.Several rule (part ∷ next ∷ parts)

-- The number of a threshold by its digits. It is 0 where the first digit is 0, and where the number doesn't fit 32
-- bits; the lexer gives no such number.
unfoldable pub need_of : List ℕ → ℕ
need_of digits = if slice_index digits 0 == 48 || nat_lt 4294967295 (digits_value digits) then 0 else digits_value
    digits

abbrev pub itself : Bool → Bool
itself b = b

-- a threshold of no number that it may have, or of one above the length of its list
abbrev pub is_bad_rule : Rule → ℕ → Bool
is_bad_rule (AtLeast need) count = need == 0 || nat_lt count need
is_bad_rule rule count = false

abbrev pub threshold_step : Written-F Bool → Bool
threshold_step (Who principal) = false
threshold_step (Several rule parts) = list_any itself parts || is_bad_rule rule (length parts)

-- somewhere in the formula is a bad threshold
unfoldable pub has_bad_threshold : Written → Bool
has_bad_threshold = fold-Written Bool threshold_step

-- the value of the first constant of this name
unfoldable pub constant_value : List Constant → List ℕ → Option (List ℕ)
constant_value constants name = value_of name constants

-- The text of a principal: the value of a literal; the local policy, where its name stands without quotes, whatever the
-- constants; and else the value of the constant of that name, which is keynoted's own choice.
abbrev pub principal_text : List Constant → Principal → Option (List ℕ)
principal_text constants (Literal value) = Some value
principal_text constants (Name text) = if bytes_eq text policy then Some policy else constant_value constants text

-- there is no text, or it is empty or has more than 4,096 bytes
abbrev pub is_bad_text : Option (List ℕ) → Bool
is_bad_text None = true
is_bad_text (Some text) = length text == 0 || nat_lt 4096 (length text)

abbrev pub name_step : List Constant → Written-F Bool → Bool
name_step constants (Who principal) = is_bad_text (principal_text constants principal)
name_step constants (Several rule parts) = list_any itself parts

-- somewhere in the formula is a bad principal
unfoldable pub has_bad_name : List Constant → Written → Bool
has_bad_name constants = fold-Written Bool (name_step constants)

abbrev pub normal_text : Option (List ℕ) → List ℕ
normal_text None = []
normal_text (Some text) = normal_form text

abbrev pub formula_by_rule : Rule → List Formula → Formula
formula_by_rule All parts = formula.All parts
formula_by_rule Any parts = formula.Any parts
formula_by_rule (AtLeast need) parts = formula.Threshold need parts

abbrev pub formula_step : List Constant → Written-F Formula → Formula
formula_step constants (Who principal) = formula.Who (normal_text (principal_text constants principal))
formula_step constants (Several rule parts) = formula_by_rule rule parts

-- the formula, with its principals in normal form
unfoldable pub formula_of : List Constant → Written → Formula
formula_of constants = fold-Written Formula (formula_step constants)
