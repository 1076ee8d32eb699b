-- What the bytes of a line lead to: through literals as their items do, and to no open literal behind a bare end.
use Rattle.std.proofs.Common.{◌≡◌, ℕ, true, false, Bool, ◌⊎◌, List, [], ◌∷◌, ◌++◌, arith, refl, ap, suc, ◌-◌, ◌<◌, ◌≤◌}
use Rattle.std.proofs.Common.{length, get_or, sym}
use Rattle.std.specs.Prelude.{not, ◌||◌, ◌==◌, fold, ◌&&◌}
use Rattle.std.specs.List.{list_all}
use Rattle.std.proofs.lemmas.Bool.{false≢true}
use Rattle.std.proofs.lemmas.Bool.Decides.{nat_tests}
use Rattle.std.proofs.lemmas.List.Sums.{fold-append}
use Rattle.kn_lex.specs.Bytes.{is_white}
use Rattle.kn_lex.specs.Spelling.{Item, plain, escaped, joined, is_item, items_bytes, IsLiteral}
use Rattle.kn_lex.specs.declared.quote.Quote.{Quote}
use Rattle.kn_lex.specs.declared.quote.Quote.TheVariants.{Plain as Inside, Escaped, Joined}
use Rattle.kn_files.specs.Lines.{after_byte, is_literal, after_line, at_line_start, is_of_comment}
use Rattle.kn_files.specs.Literals.{leaves_out}
use Rattle.kn_files.specs.declared.within.Within.{Within}
use Rattle.kn_files.specs.declared.within.Within.TheVariants.{Plain, Comment, Literal, Body}
use Rattle.kn_files.specs.Splitting.{is_bare, ends_bare, settle_comment}

abbrev quote_of : Bool → Quote
quote_of true = Joined
quote_of false = Inside

white_stands : (white : List ℕ) → list_all is_white white ≡ true
    → fold after_byte (Literal Joined) white ≡ Literal Joined
white_stands [] e = refl
white_stands (c ∷ cs) e = grind (arith, nat_tests, white_stands cs)

plain_joined : (c : ℕ) → is_item (plain c) ≡ true → after_byte (Literal Joined) c ≡ Literal (quote_of (is_white c))
plain_joined c e = grind (arith, nat_tests)

plain_inside : (c : ℕ) → is_item (plain c) ≡ true → after_byte (Literal Inside) c ≡ Literal Inside
plain_inside c e = grind (arith, nat_tests)

escaped_inside : (c : ℕ) → is_item (escaped c) ≡ true → after_byte (Literal Escaped) c ≡ Literal Inside
escaped_inside c e = grind (arith, nat_tests)

abbrev behind : Bool → List Item → Within
behind b items = Literal (quote_of (fold leaves_out b items))

-- items lead from within a literal to within it
items_stand : (items : List Item) (b : Bool) → list_all is_item items ≡ true
    → fold after_byte (Literal (quote_of b)) (items_bytes items) ≡ behind b items
items_stand [] b e = refl
items_stand (plain c ∷ items) true e = grind (arith, plain_joined c, items_stand items (is_white c))
items_stand (plain c ∷ items) false e = grind (arith, plain_inside c, items_stand items false)
items_stand (escaped c ∷ items) true e = grind (arith, escaped_inside c, items_stand items false)
items_stand (escaped c ∷ items) false e = grind (arith, escaped_inside c, items_stand items false)
items_stand (joined false white ∷ items) true e = grind (arith, fold-append, white_stands white, items_stand items true)
items_stand (joined true white ∷ items) true e = grind (arith, fold-append, white_stands white, items_stand items true)
items_stand (joined returned white ∷ items) false e =
    grind (arith, fold-append, white_stands white, items_stand items true)

-- what stands behind the opening quote and items
along : (items : List Item) (more : List ℕ) → list_all is_item items ≡ true
    → fold after_byte Plain (34 ∷ items_bytes items ++ more) ≡ fold after_byte (behind false items) more
along items more e =
    grind (arith, fold-append after_byte (Literal Inside) (items_bytes items) more, items_stand items false)

pub literal_whole : (bytes : List ℕ) → IsLiteral bytes → fold after_byte Plain bytes ≡ Plain
literal_whole bytes h = grind (arith, along)

pub literal_open : (items : List Item) → list_all is_item items ≡ true
    → is_literal (fold after_byte Plain (34 ∷ items_bytes items)) ≡ true
literal_open items e = ap is_literal (items_stand items false e)

pub literal_bare : (items : List Item) (end : ℕ) → list_all is_item items ≡ true → fold leaves_out false items ≡ false
    → (end ≡ 10) ⊎ (end ≡ 13)
    → fold after_byte Plain (34 ∷ items_bytes items ++ end ∷ []) ≡ Plain
literal_bare items end e none line = grind (arith, along)

pub literal_returned : (items : List Item) (next : ℕ) → list_all is_item items ≡ true → (next ≡ 10 → ⊥)
    → fold after_byte Plain (34 ∷ items_bytes items ++ 92 ∷ 13 ∷ next ∷ []) ≡ after_byte Plain next
literal_returned items next e other = grind (arith, along)

pub plain_bytes : (bytes : List ℕ) → list_all (λ byte. not (byte == 34 || byte == 35)) bytes ≡ true
    → fold after_byte Plain bytes ≡ Plain
plain_bytes [] e = refl
plain_bytes (c ∷ cs) e = grind (arith, nat_tests, plain_bytes cs)

pub comment_bytes : (bytes : List ℕ) → fold after_byte Comment bytes ≡ Comment
comment_bytes [] = refl
comment_bytes (c ∷ cs) = comment_bytes cs

-- a line that ends with a newline behind a byte that is neither white space nor a backslash leaves no literal open

pub ends_bare_by_last : (bytes : List ℕ) → 1 < length bytes
    → ends_bare bytes ≡ (is_bare (get_or bytes (length bytes - 2) 0) && get_or bytes (length bytes - 1) 0 == 10)
ends_bare_by_last [] h = absurd (omega arith)
ends_bare_by_last (a ∷ []) h = absurd (omega arith)
ends_bare_by_last (a ∷ b ∷ []) h = refl
ends_bare_by_last (a ∷ b ∷ c ∷ cs) h =
    let before : length (a ∷ b ∷ c ∷ cs) - 2 ≡ suc (length (b ∷ c ∷ cs) - 2) = omega arith in
    let last : length (a ∷ b ∷ c ∷ cs) - 1 ≡ suc (length (b ∷ c ∷ cs) - 1) = omega arith in
    rw (before, last) (ends_bare_by_last (b ∷ c ∷ cs) (omega arith))

pub ends_bare_short : (bytes : List ℕ) → length bytes ≤ 1 → ends_bare bytes ≡ false
ends_bare_short [] h = refl
ends_bare_short (a ∷ []) h = refl
ends_bare_short (a ∷ b ∷ cs) h = absurd (omega (arith, h))

abbrev is_body : Within → Bool
is_body Plain = false
is_body Comment = false
is_body Body = true
is_body (Literal quote) = false

no_body : (within : Within) (c : ℕ) → is_body within ≡ false → is_body (after_byte within c) ≡ false
no_body within c e = grind (arith, nat_tests)

-- the last two bytes decide
bare_line : (line : List ℕ) (within : Within) → is_body within ≡ false → ends_bare line ≡ true
    → settle_comment (fold after_byte within line) ≡ Plain
bare_line [] within e bare = absurd (false≢true bare)
bare_line (a ∷ []) within e bare = absurd (false≢true bare)
bare_line (a ∷ b ∷ []) within e bare = grind (arith, nat_tests)
bare_line (a ∷ b ∷ c ∷ cs) within e bare = bare_line (b ∷ c ∷ cs) (after_byte within a) (no_body within a e) bare

start_no_body : (within : Within) → is_body (at_line_start within) ≡ false
start_no_body within = grind arith

pub bare_next : (within : Within) (line : List ℕ) → is_of_comment within line ≡ false → ends_bare line ≡ true
    → Plain ≡ settle_comment (after_line within line)
unfolding after_line
bare_next within line other bare = rw other (sym (bare_line line (at_line_start within) (start_no_body within) bare))

pub ruleset literal_facts = (literal_whole, literal_open, literal_bare, literal_returned, plain_bytes, comment_bytes)
