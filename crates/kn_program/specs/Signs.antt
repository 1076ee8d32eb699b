-- The signs of the grammar of conditions (RFC 2704, section 4), and the words that are no names.
use Rattle.std.specs.Prelude.{ℕ, Bool, true, false, List, codes, Option, Some, None, if◌then◌else◌}
use Rattle.std.specs.Str.{bytes_eq, str_eq_ignore_ascii_case}
use Rattle.kn_base.specs.Decimal.{digits_within}
use Rattle.kn_base.specs.declared.limits.TheConstants.{WHOLE_NUMBER}
use Rattle.kn_trees.specs.declared.program.Comparison.{Comparison}
use Rattle.kn_trees.specs.declared.program.Comparison.TheVariants.{Eq, Ne, Lt, Gt, Le, Ge}
use Rattle.kn_trees.specs.declared.program.Operation.{Operation}
use Rattle.kn_trees.specs.declared.program.Operation.TheVariants.{Plus, Less, Join, Times, Divide, Rest, Power}
use Rattle.kn_program.specs.declared.signs.Joint.{Joint}
use Rattle.kn_program.specs.declared.signs.Joint.TheVariants.{Or, And}
use Rattle.kn_program.specs.declared.signs.Precedence.{Precedence}
use Rattle.kn_program.specs.declared.signs.Precedence.TheVariants.{Sum, Product, Power as Powers}
use Rattle.kn_program.specs.declared.signs.Prefix.{Prefix}
use Rattle.kn_program.specs.declared.signs.Prefix.TheVariants.{Minus, Number, Deref}

abbrev pub joint_text : Joint → List ℕ
joint_text Or = codes "||"
joint_text And = codes "&&"

-- the sign of an operation
abbrev pub operation_text : Operation → List ℕ
operation_text Plus = codes "+"
operation_text Less = codes "-"
operation_text Join = codes "."
operation_text Times = codes "*"
operation_text Divide = codes "/"
operation_text Rest = codes "%"
operation_text Power = codes "^"

-- the operation stands on this level of the grammar, which is keynoted's own choice
abbrev pub is_at : Precedence → Operation → Bool
is_at Sum Plus = true
is_at Sum Less = true
is_at Sum Join = true
is_at Product Times = true
is_at Product Divide = true
is_at Product Rest = true
is_at Powers Power = true
is_at level operation = false

-- how many levels an operand is below this one
abbrev pub height : Precedence → ℕ
height Sum = 3
height Product = 2
height Powers = 1

-- the operation of a level that a sign stands for
unfoldable pub operation_of : Precedence → List ℕ → Option Operation
operation_of Sum text =
    if bytes_eq text (codes "+") then Some Plus
    else if bytes_eq text (codes "-") then Some Less
    else if bytes_eq text (codes ".") then Some Join
    else None
operation_of Product text =
    if bytes_eq text (codes "*") then Some Times
    else if bytes_eq text (codes "/") then Some Divide
    else if bytes_eq text (codes "%") then Some Rest
    else None
operation_of Powers text = if bytes_eq text (codes "^") then Some Power else None

-- the sign of a comparison
abbrev pub comparison_text : Comparison → List ℕ
comparison_text Eq = codes "=="
comparison_text Ne = codes "!="
comparison_text Lt = codes "<"
comparison_text Gt = codes ">"
comparison_text Le = codes "<="
comparison_text Ge = codes ">="

-- the comparison that a sign stands for
unfoldable pub comparison_of : List ℕ → Option Comparison
comparison_of text =
    if bytes_eq text (codes "==") then Some Eq
    else if bytes_eq text (codes "!=") then Some Ne
    else if bytes_eq text (codes "<") then Some Lt
    else if bytes_eq text (codes ">") then Some Gt
    else if bytes_eq text (codes "<=") then Some Le
    else if bytes_eq text (codes ">=") then Some Ge
    else None

-- the sign before an operand
abbrev pub prefix_text : Prefix → List ℕ
prefix_text Minus = codes "-"
prefix_text Number = codes "@"
prefix_text Deref = codes "$"

-- what a sign is before an operand
unfoldable pub prefix_of : List ℕ → Option Prefix
prefix_of text =
    if bytes_eq text (codes "-") then Some Minus
    else if bytes_eq text (codes "@") then Some Number
    else if bytes_eq text (codes "$") then Some Deref
    else None

-- the truth value that a name stands for, in any case of letters
unfoldable pub truth_of : List ℕ → Option Bool
truth_of name =
    if str_eq_ignore_ascii_case name (codes "true") then Some true
    else if str_eq_ignore_ascii_case name (codes "false") then Some false
    else None

-- the number of digits, where it isn't above 2147483647; the lexer gives no such number
unfoldable pub number_of : List ℕ → Option ℕ
number_of digits = digits_within WHOLE_NUMBER digits
