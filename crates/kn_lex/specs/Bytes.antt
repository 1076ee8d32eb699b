-- The classes of bytes that RFC 2704, section 4, spells its tokens with.
use Rattle.std.specs.Prelude.{ℕ, Bool, false, not, List, [], ◌∷◌, ◌||◌, ◌&&◌, ◌==◌, nat_le, codes, if◌then◌else◌}
use Rattle.std.specs.List.{list_any}
use Rattle.kn_base.specs.Decimal.{is_digit}
use Rattle.kn_lex.specs.declared.bytes.Class.{Class}
use Rattle.kn_lex.specs.declared.bytes.Class.TheVariants.{Gap, White, Digit, Name, Label, Quoted}
use Rattle.kn_lex.specs.declared.bytes.Kind.{Kind}
use Rattle.kn_lex.specs.declared.bytes.Kind.TheVariants.{Space, Hash, Word, Numeral, Quote, Lone, Other}

-- white space that ends no line: a space, a tab or, by keynoted's own choice, a carriage return
abbrev pub is_gap : ℕ → Bool
is_gap byte = byte == 32 || byte == 9 || byte == 13

-- white space: the newline belongs to it
abbrev pub is_white : ℕ → Bool
is_white byte = is_gap byte || byte == 10

abbrev pub is_letter : ℕ → Bool
is_letter byte = (nat_le 65 byte && nat_le byte 90) || (nat_le 97 byte && nat_le byte 122)

-- what begins a name
abbrev pub begins_name : ℕ → Bool
begins_name byte = is_letter byte || byte == 95

-- what a name goes on with
abbrev pub continues_name : ℕ → Bool
continues_name byte = begins_name byte || is_digit byte

-- what a label goes on with, before its colon
abbrev pub continues_label : ℕ → Bool
continues_label byte = continues_name byte || byte == 45

abbrev pub is_octal_digit : ℕ → Bool
is_octal_digit byte = nat_le 48 byte && nat_le byte 55

-- a sign of one byte
abbrev pub is_short_sign : ℕ → Bool
is_short_sign byte = list_any (λ sign. byte == sign) (codes "(){},;!<>=+-*/%^.$@")

-- a sign of one byte with which none of two begins
abbrev pub is_lone_sign : ℕ → Bool
is_lone_sign byte = list_any (λ sign. byte == sign) (codes "(){},;+*/%^.$@")

-- a sign of two bytes: && || == != <= >= ->
abbrev pub is_long_sign : ℕ → ℕ → Bool
is_long_sign byte next =
    (byte == next && list_any (λ sign. byte == sign) (codes "&|="))
    || (next == 61 && list_any (λ sign. byte == sign) (codes "!<>"))
    || (byte == 45 && next == 62)

-- what stands for itself in a literal: no quote, no backslash and no end of a line
abbrev pub is_quoted : ℕ → Bool
is_quoted byte = not (byte == 34 || byte == 92 || byte == 10 || byte == 13)

-- the bytes of a class
abbrev pub has_class : Class → ℕ → Bool
has_class Gap = is_gap
has_class White = is_white
has_class Digit = is_digit
has_class Name = continues_name
has_class Label = continues_label
has_class Quoted = is_quoted

-- a byte of this kind stands in front
abbrev pub begins_with : (ℕ → Bool) → List ℕ → Bool
begins_with is_kind [] = false
begins_with is_kind (byte ∷ rest) = is_kind byte

-- what begins with a byte
abbrev pub kind_of : ℕ → Kind
kind_of byte =
    if is_white byte then Space
    else if byte == 35 then Hash
    else if begins_name byte then Word
    else if is_digit byte then Numeral
    else if byte == 34 then Quote
    else if is_lone_sign byte then Lone
    else Other
