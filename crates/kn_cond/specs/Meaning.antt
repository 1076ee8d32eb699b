-- The meaning of an expression (RFC 2704, section 4, the Conditions field): a truth, a whole number, a text or a fault.
-- Numbers are unbounded and then tested for the range of 32 bits. That `@` out of range is a fault, the bound on texts
-- and the grouping to the left are keynoted's own choices.
use Rattle.std.specs.Prelude.{ℕ, ℤ, pos, negsuc, neg_ℤ, ◌+ℤ◌, ◌-ℤ◌, ◌*ℤ◌, int_lt, int_le, int_div, int_rem, Bool, true}
use Rattle.std.specs.Prelude.{false, not, ◌&&◌, ◌||◌, nat_lt, ◌==◌, List, [], ◌∷◌, ◌++◌, length, take, map}
use Rattle.std.specs.Prelude.{if◌then◌else◌}
use Rattle.std.specs.List.{prefix_len}
use Rattle.std.specs.Str.{bytes_eq}
use Rattle.std.specs.Int.{int_pow}
use Rattle.std.specs.Ordering.{int_eq}
use Rattle.kn_base.specs.Decimal.{is_digit, digits_value}
use Rattle.kn_env.specs.Attributes.{is_attribute_name}
use Rattle.kn_env.specs.Environment.{Environment, name_value}
use Rattle.kn_trees.specs.declared.program.Comparison.{Comparison}
use Rattle.kn_trees.specs.declared.program.Comparison.TheVariants.{Eq, Ne, Lt, Gt, Le, Ge}
use Rattle.kn_trees.specs.declared.program.Operation.{Operation}
use Rattle.kn_trees.specs.declared.program.Operation.TheVariants.{Plus, Less, Join, Times, Divide, Rest, Power}
use Rattle.kn_trees.specs.declared.program.Link2.{Link2}
use Rattle.kn_trees.specs.declared.program.Expr.{Expr}
use Rattle.kn_trees.specs.declared.program.Expr.TheOpen.{Expr-F, Link2-F}
use Rattle.kn_trees.specs.declared.program.Expr.TheOpen.Expr-F.{Truth, Whole, Text, Name, Not, Minus, Number, Deref}
use Rattle.kn_trees.specs.declared.program.Expr.TheOpen.Expr-F.{And, Or, Compare, Chain}
use Rattle.kn_trees.specs.declared.program.Expr.TheFolds.{fold-Expr}

pub data Meaning : Type 0 where
  truth : Bool → Meaning
  whole : ℤ → Meaning
  text : List ℕ → Meaning
  fault : Meaning

-- a number of 32 bits
abbrev pub is_in_range : ℤ → Bool
is_in_range n = int_le (negsuc 2147483647) n && int_le n (pos 2147483647)

abbrev pub whole_in_range : ℤ → Meaning
whole_in_range n = if is_in_range n then whole n else fault

-- a text of at most 65,536 bytes (`TEXT_BYTES`)
abbrev pub text_in_range : List ℕ → Meaning
text_in_range bytes = if nat_lt 65536 (length bytes) then fault else text bytes

-- the digits that a text begins with
abbrev pub front_digits : List ℕ → List ℕ
front_digits bytes = take (prefix_len is_digit bytes) bytes

-- the number that a text begins with: a `-` may stand before its digits, and no digit gives 0
abbrev pub front_number : List ℕ → ℤ
front_number [] = pos 0
front_number (byte ∷ bytes) =
    if byte == 45 then neg_ℤ (pos (digits_value (front_digits bytes))) else pos
    (digits_value (front_digits (byte ∷ bytes)))

abbrev pub negation : Meaning → Meaning
negation (truth b) = truth (not b)
negation meaning = fault

abbrev pub minus : Meaning → Meaning
minus (whole n) = whole_in_range (neg_ℤ n)
minus meaning = fault

-- `@`
abbrev pub number_of : Meaning → Meaning
number_of (text bytes) = whole_in_range (front_number bytes)
number_of meaning = fault

-- `$`: the value of the name that a text is, and the empty text where it is no attribute name
abbrev pub value_named : Environment → Meaning → Meaning
value_named e (text bytes) = if is_attribute_name bytes then text_in_range (name_value e bytes) else text []
value_named e meaning = fault

-- `&&` stops at the first part that is false, or a fault
abbrev pub conjunction : List Meaning → Meaning
conjunction [] = truth true
conjunction (truth true ∷ parts) = conjunction parts
conjunction (truth false ∷ parts) = truth false
conjunction (part ∷ parts) = fault

-- `||` stops at the first part that is true, or a fault
abbrev pub disjunction : List Meaning → Meaning
disjunction [] = truth false
disjunction (truth true ∷ parts) = truth true
disjunction (truth false ∷ parts) = disjunction parts
disjunction (part ∷ parts) = fault

-- what `||` gives, where true is decisive, or `&&`, where false is
abbrev pub value_by : Bool → List Meaning → Meaning
value_by decisive parts = if decisive then disjunction parts else conjunction parts

-- a text stands before another one by its bytes, and before those that it begins
abbrev pub is_before : List ℕ → List ℕ → Bool
is_before [] [] = false
is_before [] (y ∷ ys) = true
is_before (x ∷ xs) [] = false
is_before (x ∷ xs) (y ∷ ys) = nat_lt x y || (x == y && is_before xs ys)

abbrev pub holds_of_numbers : Comparison → ℤ → ℤ → Bool
holds_of_numbers Eq a b = int_eq a b
holds_of_numbers Ne a b = not (int_eq a b)
holds_of_numbers Lt a b = int_lt a b
holds_of_numbers Gt a b = int_lt b a
holds_of_numbers Le a b = not (int_lt b a)
holds_of_numbers Ge a b = not (int_lt a b)

abbrev pub holds_of_texts : Comparison → List ℕ → List ℕ → Bool
holds_of_texts Eq a b = bytes_eq a b
holds_of_texts Ne a b = not (bytes_eq a b)
holds_of_texts Lt a b = is_before a b
holds_of_texts Gt a b = is_before b a
holds_of_texts Le a b = not (is_before b a)
holds_of_texts Ge a b = not (is_before a b)

abbrev pub comparison : Comparison → Meaning → Meaning → Meaning
comparison sign (whole a) (whole b) = truth (holds_of_numbers sign a b)
comparison sign (text a) (text b) = truth (holds_of_texts sign a b)
comparison sign a b = fault

-- a quotient is cut towards zero
abbrev pub quotient : ℤ → ℤ → Meaning
quotient a b = if int_eq b (pos 0) then fault else whole_in_range (int_div a b)

-- a remainder has the dividend's sign; where the quotient is a fault, so is the remainder
abbrev pub remainder : ℤ → ℤ → Meaning
remainder a b =
    if int_eq b (pos 0) then fault else if is_in_range (int_div a b) then whole_in_range (int_rem a b) else fault

abbrev pub power : ℤ → ℤ → Meaning
power a (pos n) = whole_in_range (int_pow a n)
power a (negsuc n) = fault

abbrev pub operation_of_numbers : Operation → ℤ → ℤ → Meaning
operation_of_numbers Plus a b = whole_in_range (a +ℤ b)
operation_of_numbers Less a b = whole_in_range (a -ℤ b)
operation_of_numbers Join a b = fault
operation_of_numbers Times a b = whole_in_range (a *ℤ b)
operation_of_numbers Divide a b = quotient a b
operation_of_numbers Rest a b = remainder a b
operation_of_numbers Power a b = power a b

abbrev pub operation_of_texts : Operation → List ℕ → List ℕ → Meaning
operation_of_texts Join a b = text_in_range (a ++ b)
operation_of_texts sign a b = fault

abbrev pub operation : Operation → Meaning → Meaning → Meaning
operation sign (whole a) (whole b) = operation_of_numbers sign a b
operation sign (text a) (text b) = operation_of_texts sign a b
operation sign a b = fault

-- a chain groups to the left
abbrev pub chain_of : Meaning → List (Operation × Meaning) → Meaning
chain_of first [] = first
chain_of first (link ∷ links) = chain_of (operation link.0 first link.1) links

-- the meaning of an expression whose parts have these
abbrev pub meaning_step : Environment → Expr-F Meaning (Operation × Meaning) → Meaning
meaning_step e (Truth value) = truth value
meaning_step e (Whole value) = whole value
meaning_step e (Text value) = text value
meaning_step e (Name name) = text_in_range (name_value e name)
meaning_step e (Not part) = negation part
meaning_step e (Minus part) = minus part
meaning_step e (Number part) = number_of part
meaning_step e (Deref part) = value_named e part
meaning_step e (And parts) = conjunction parts
meaning_step e (Or parts) = disjunction parts
meaning_step e (Compare sign left right) = comparison sign left right
meaning_step e (Chain first links) = chain_of first links

abbrev pub link_step : Link2-F Meaning (Operation × Meaning) → Operation × Meaning
link_step link = (link.sign, link.right)

-- the meaning of an expression in an environment
unfoldable pub meaning_of : Environment → Expr → Meaning
meaning_of e = fold-Expr Meaning (Operation × Meaning) (meaning_step e) link_step

-- the signs of links, with the meanings of their right sides
abbrev pub links_of : Environment → List Link2 → List (Operation × Meaning)
links_of e links = map (λ link. (link.sign, meaning_of e link.right)) links
