-- Literals whose bytes are plain: digits behind a letter.
use Rattle.std.proofs.Common.{◌≡◌, ℕ, false, suc, Bool, ◌+◌, ◌-◌, ◌^◌, ◌%◌, ◌<◌, ◌≤◌, ◌==◌, ◌||◌, List, [], ◌∷◌, ◌++◌}
use Rattle.std.proofs.Common.{Option, Some, None, length, take, arith, refl, ◌∙◌, ap, append_assoc, length-append}
use Rattle.std.specs.Prelude.{nat_lt, decimal}
use Rattle.std.proofs.lemmas.Bool.{ne_eqb, le-ltb, or_from}
use Rattle.std.proofs.lemmas.Fmt.{decimal_by_steps, length-decimal-le}
use Rattle.kn_lex.specs.Scanning.{quote_len, more_len, with_sort, plain_lexeme, zero_place, zero_fault}
use Rattle.kn_lex.specs.Literal.{value_behind, inside, literal_value}
use Rattle.kn_lex.specs.declared.quote.Quote.TheVariants.{Plain}
use Rattle.kn_lex.specs.declared.token.Sort.TheVariants.{Text}
use Rattle.kn_lex.specs.declared.lexeme.Lexeme.TheVariants.{Token}
use Rattle.kn_lex.specs.declared.lexeme.Context.TheVariants.{WithinLine}
use Rattle.kn_generate.proofs.Scans.{IsCut, take_front}

-- a byte that stands for itself in a literal
pub record IsPlain (b : ℕ) : Type 0 where
  pub quote : (b == 34) ≡ false
  pub escape : (b == 92) ≡ false
  pub line : (b == 10 || b == 13) ≡ false
  pub zero_byte : (b == 0) ≡ false

abbrev pub ArePlain : List ℕ → Type 0
ArePlain [] = Unit {0}
ArePlain (b ∷ bs) = IsPlain b × ArePlain bs

digit_plain : (d : ℕ) → d < 10 → IsPlain (48 + d)
digit_plain d small = record {
  quote = ne_eqb (48 + d) 34 (λ e. omega arith);
  escape = ne_eqb (48 + d) 92 (λ e. omega arith);
  line = or_from (48 + d == 10) (48 + d == 13) (ne_eqb (48 + d) 10 (λ e. omega arith))
      (ne_eqb (48 + d) 13 (λ e. omega arith));
  zero_byte = ne_eqb (48 + d) 0 (λ e. omega arith);
}

plain_more : (ds : List ℕ) (d : ℕ) → ArePlain ds → IsPlain d → ArePlain (ds ++ d ∷ [])
plain_more [] d are is = (is, tt)
plain_more (x ∷ ds) d are is = (are.0, plain_more ds d are.1 is)

pub decimal_plain : (n : ℕ) → n < 2 ^ 64 → ArePlain (decimal n)
decimal_plain n small =
    decimal_by_steps (λ _ ds. ArePlain ds) (λ d low. (digit_plain d low, tt))
    (λ m ds over are. plain_more ds (48 + m % 10) are (digit_plain (m % 10) (omega arith))) n small

-- a literal of this value
abbrev pub quoted : List ℕ → List ℕ
quoted body = 34 ∷ (body ++ 34 ∷ [])

one_more : (k : ℕ) → Some (1 + k) ≡ Some (suc k)
one_more k = ap Some (omega arith)

plain_len : (body rest : List ℕ) → ArePlain body → quote_len Plain (body ++ 34 ∷ rest) ≡ Some (length (body ++ 34 ∷ []))
unfolding quote_len
plain_len [] rest are = refl
plain_len (b ∷ body) rest are =
    rw (are.0.quote, are.0.escape, are.0.line) (ap (more_len 1) (plain_len body rest are.1)
    ∙ one_more (length (body ++ 34 ∷ [])))

no_zero : (body : List ℕ) → ArePlain body → zero_place (body ++ 34 ∷ []) ≡ None
unfolding zero_place
no_zero [] are = refl
no_zero (b ∷ body) are = rw (are.0.zero_byte) (ap (more_len 1) (no_zero body are.1))

literal_piece : (body rest : List ℕ) → ArePlain body
    → plain_lexeme false (quoted body ++ rest) ≡ Some (Token Text, length (quoted body))
unfolding plain_lexeme quote_len
literal_piece body rest are =
    let found : quote_len Plain ((body ++ 34 ∷ []) ++ rest) ≡ Some (length (body ++ 34 ∷ [])) =
    ap (quote_len Plain) (append_assoc body (34 ∷ []) rest) ∙ plain_len body rest are in
    ap (λ (o : Option ℕ). with_sort Text (more_len 1 o)) found
    ∙ ap (with_sort Text) (one_more (length (body ++ 34 ∷ [])))

literal_clean : (body : List ℕ) (at : ℕ) → ArePlain body → zero_fault at (zero_place (quoted body)) ≡ None
unfolding zero_place
literal_clean body at are = ap (λ (o : Option ℕ). zero_fault at (more_len 1 o)) (no_zero body are)

pub literal_cut : (has_token : Bool) (body rest : List ℕ) → ArePlain body
    → IsCut (record { context = WithinLine; has_token = has_token }) (Token Text) (quoted body) rest
literal_cut has_token body rest are =
    record { some = refl; exact = refl; cut = literal_piece body rest are; clean = λ at. literal_clean body at are }

plain_value : (body : List ℕ) → ArePlain body → value_behind 0 body ≡ body
unfolding value_behind
plain_value [] are = refl
plain_value (b ∷ body) are = rw (are.0.escape) (ap (λ (l : List ℕ). b ∷ l) (plain_value body are.1))

literal_inside : (body : List ℕ) → inside (quoted body) ≡ body
literal_inside body =
    let sizes : length (body ++ 34 ∷ []) ≡ length body + 1 = length-append body (34 ∷ []) in
    let size : length (quoted body) - 2 ≡ length body = omega arith in
    ap (λ (k : ℕ). take k (body ++ 34 ∷ [])) size ∙ take_front body (34 ∷ [])

pub literal_of : (body : List ℕ) → ArePlain body → literal_value (quoted body) ≡ body
literal_of body are = ap (value_behind 0) (literal_inside body) ∙ plain_value body are

-- the value of a literal may name a principal
pub record IsNaming (bytes : List ℕ) : Type 0 where
  pub not_bad : (length (literal_value bytes) == 0 || nat_lt 4096 (length (literal_value bytes))) ≡ false

pub literal_names : (body : List ℕ) → ArePlain body → 0 < length body → length body ≤ 4096 → IsNaming (quoted body)
literal_names body are some short =
    let size : length (literal_value (quoted body)) ≡ length body = ap length (literal_of body are) in
    record {
      not_bad = rw size
          (or_from (length body == 0) (nat_lt 4096 (length body)) (ne_eqb (length body) 0 (λ e. omega arith))
          (le-ltb 4096 (length body) short));
    }

pub short_decimal : (n : ℕ) → n < 10000 → length (decimal n) ≤ 4
short_decimal n small = length-decimal-le 4 n (omega arith) small (omega arith)
