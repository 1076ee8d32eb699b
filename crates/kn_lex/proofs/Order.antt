-- Tokens stand in their order, and each tells whether it begins a line.
use Rattle.std.proofs.Common.{◌≡◌, ◌<◌, ◌⊎◌, ℕ, true, false, Bool, ◌+◌, ◌≤◌, not, List, [], ◌∷◌, ◌++◌, length, take}
use Rattle.std.proofs.Common.{drop, arith, refl, sym, ◌∙◌, ap}
use Rattle.std.specs.Prelude.{◌==◌, if◌then◌else◌}
use Rattle.std.specs.List.{list_all}
use Rattle.std.proofs.Math.Seq.{take-add}
use Rattle.std.proofs.lemmas.Bool.{ne_eqb}
use Rattle.std.proofs.lemmas.Bool.Decides.{nat_tests}
use Rattle.std.proofs.lemmas.List.{length-take-le, drop-drop}
use Rattle.kn_base.specs.Decimal.{is_digit}
use Rattle.kn_lex.specs.Bytes.{begins_name, continues_name}
use Rattle.kn_lex.specs.Spelling.{is_run, is_label_tail, is_label, is_body, is_sign, items_bytes, IsLiteral}
use Rattle.kn_lex.specs.Spelling.{SpellsPlain, Spells}
use Rattle.kn_lex.specs.Cutting.{IsLexeme, is_token, Reaches, Cuts}
use Rattle.kn_lex.specs.Cutting.{TokenView, start, place_after, context_after, tokens_of}
use Rattle.kn_lex.specs.Cutting.{is_line_start, is_comment_label, ends_line}
use Rattle.kn_lex.specs.TokenFacts.{StandInOrder, begins_line}
use Rattle.kn_lex.specs.declared.token.Sort.{Sort}
use Rattle.kn_lex.specs.declared.token.Sort.TheVariants.{Label, Body, Name, Number, Text, Sign}
use Rattle.kn_lex.specs.declared.lexeme.Lexeme.{Lexeme}
use Rattle.kn_lex.specs.declared.lexeme.Lexeme.TheVariants.{White, Comment, Token}
use Rattle.kn_lex.specs.declared.lexeme.Place.{Place}
use Rattle.kn_lex.specs.declared.lexeme.Context.{Context}
use Rattle.kn_lex.specs.declared.lexeme.Context.TheVariants.{LineStart, WithinLine, CommentBody}
use Rattle.kn_lex.proofs.ScannedLengths.{both, only_body}

-- the token that a lexeme of this sort is
abbrev pub made : Context → ℕ → Sort → List ℕ → TokenView
made context at sort bytes =
    record {
      sort = sort;
      span = record { start = at; end = at + length bytes };
      text = bytes;
      first =
          is_line_start context;
    }

-- what holds behind the last lexeme, and before each one where it holds behind it, holds of the tokens from a place on
pub along : (whole : List ℕ) (P : Place → ℕ → List TokenView → Type 0)
    (none : (end : Place) (at : ℕ) → drop at whole ≡ [] → P end at [])
    (skip : (place : Place) (at : ℕ) (lexeme : Lexeme) (n : ℕ) (left : List TokenView)
    → IsLexeme place.context (drop at whole) lexeme n
    → (is_token lexeme ≡ false) ⊎ (n ≡ 0) → P (place_after place lexeme (take n (drop at whole))) (at + n) left
    → P place at left)
    (token : (place : Place) (at : ℕ) (sort : Sort) (n : ℕ) (left : List TokenView)
    → IsLexeme place.context (drop at whole) (Token sort) n → 0 < n
    → P (place_after place (Token sort) (take n (drop at whole))) (at + n) left
    → P place at (made place.context at sort (take n (drop at whole)) ∷ left))
    (lexemes : List (Lexeme × ℕ)) (place : Place) (at : ℕ) (end : Place) → Reaches place (drop at whole) lexemes end []
    → P place at (tokens_of place at (drop at whole) lexemes)
along whole P none skip token [] place at end h = none place at h.1
along whole P none skip token ((lexeme, n) ∷ ps) place at end h =
    grind (
      arith,
      drop-drop,
      length-take-le,
      along whole P none skip token ps (place_after place lexeme (take n (drop at whole))) (at + n) end,
    )

pub in_order : (text : List ℕ) (tokens : List TokenView) → Cuts text tokens → StandInOrder 0 tokens
in_order text tokens h =
    rw h.exact
    (along text (λ place at tokens. (from : ℕ) → from ≤ at → StandInOrder from tokens) (λ end at e from le. tt)
    (λ place at lexeme n left cut empty rest from le. rest from (omega arith))
    (λ place at sort n left cut some rest from le.
    let size = length-take-le n (drop at text) cut.within in (le, omega (arith, size), rest _ (omega (arith, size))))
    h.lexemes start 0 h.reached.0 h.reached.1 0 (omega arith))

-- what ends no line

ends_more : (c : ℕ) (cs : List ℕ) → (c == 10) ≡ false → ends_line cs ≡ false → ends_line (c ∷ cs) ≡ false
ends_more c cs e h = grind arith

all_end : (p : ℕ → Bool) (cs : List ℕ) → ((c : ℕ) → p c ≡ true → (c == 10) ≡ false) → list_all p cs ≡ true
    → ends_line cs ≡ false
all_end p [] other all = refl
all_end p (c ∷ cs) other all = grind (arith, ends_more, all_end p cs other)

run_end : (head tail : ℕ → Bool) (bytes : List ℕ) → ((c : ℕ) → head c ≡ true → (c == 10) ≡ false)
    → ((c : ℕ) → tail c ≡ true → (c == 10) ≡ false)
    → is_run head tail bytes ≡ true → ends_line bytes ≡ false
run_end head tail bytes first other e = grind (arith, all_end)

ends_append : (xs : List ℕ) (c : ℕ) (cs : List ℕ) → ends_line (xs ++ c ∷ cs) ≡ ends_line (c ∷ cs)
ends_append [] c cs = refl
ends_append (x ∷ []) c cs = refl
ends_append (x ∷ y ∷ xs) c cs = ends_append (y ∷ xs) c cs

tail_end : (bytes : List ℕ) → is_label_tail bytes ≡ true → ends_line bytes ≡ false
tail_end [] e = refl
tail_end (c ∷ []) e = grind (arith, nat_tests)
tail_end (c ∷ d ∷ ds) e = tail_end (d ∷ ds) (both _ _ e).1

label_end : (bytes : List ℕ) → is_label bytes ≡ true → ends_line bytes ≡ false
label_end bytes e = grind (arith, tail_end)

body_end : (bytes : List ℕ) → is_body bytes ≡ true → ends_line bytes ≡ false
body_end [] e = refl
body_end (c ∷ []) e = grind arith
body_end (c ∷ d ∷ ds) e = body_end (d ∷ ds) (both _ _ e).1

sign_end : (bytes : List ℕ) → is_sign bytes ≡ true → ends_line bytes ≡ false
sign_end bytes e = grind (arith, nat_tests)

literal_end : (bytes : List ℕ) → IsLiteral bytes → ends_line bytes ≡ false
literal_end bytes h = ap ends_line h.spelled ∙ ends_append (34 ∷ items_bytes h.items) 34 []

-- the place behind a lexeme is at the beginning of a line exactly where the lexeme ends one

plain_ends : (first : Bool) (lexeme : Lexeme) (c : ℕ) (cs : List ℕ) → SpellsPlain first lexeme (c ∷ cs)
    → is_line_start (context_after lexeme (c ∷ cs)) ≡ ends_line (c ∷ cs)
plain_ends first White c cs s = grind arith
plain_ends first Comment c cs s =
    sym (run_end (λ b. b == 35) (λ b. not (b == 10)) (c ∷ cs) (λ c e. grind (arith, nat_tests)) (λ c e. grind arith) s)
plain_ends first (Token Label) c cs s = by (is_comment_label (c ∷ cs)) ∙ sym (label_end (c ∷ cs) (both _ _ s).1)
  where
    by : (b : Bool) → is_line_start (if b then CommentBody else WithinLine) ≡ false
    by b = grind arith
plain_ends first (Token Body) c cs s = absurd s
plain_ends first (Token Name) c cs s =
    sym (run_end begins_name continues_name (c ∷ cs) (λ c e. grind (arith, nat_tests)) (λ c e. grind (arith, nat_tests))
    s)
plain_ends first (Token Number) c cs s =
    grind (
      arith,
      run_end is_digit is_digit (c ∷ cs) (λ c e. grind (arith, nat_tests))
          (λ c e. grind (arith, nat_tests)),
    )
plain_ends first (Token Text) c cs s = sym (literal_end (c ∷ cs) s)
plain_ends first (Token Sign) c cs s = sym (sign_end (c ∷ cs) s)

context_ends : (context : Context) (lexeme : Lexeme) (c : ℕ) (cs : List ℕ) → Spells context lexeme (c ∷ cs)
    → is_line_start (context_after lexeme (c ∷ cs)) ≡ ends_line (c ∷ cs)
context_ends LineStart lexeme c cs s = plain_ends true lexeme c cs s
context_ends WithinLine lexeme c cs s = plain_ends false lexeme c cs s
context_ends CommentBody lexeme c cs s = let body = only_body lexeme (c ∷ cs) s in
    rw body.0 (sym (body_end (c ∷ cs) body.1))

-- an empty lexeme is an empty body, behind which no line begins
empty_lexeme : (context : Context) (lexeme : Lexeme) → Spells context lexeme []
    → (is_line_start context ≡ false) × (is_line_start (context_after lexeme []) ≡ false)
empty_lexeme context lexeme s = grind arith

pub next_begins : (whole : List ℕ) (place : Place) (at : ℕ) (lexeme : Lexeme) (n : ℕ)
    → is_line_start place.context ≡ begins_line whole at
    → IsLexeme place.context (drop at whole) lexeme n → is_line_start (context_after lexeme (take n (drop at whole)))
    ≡ begins_line whole (at + n)
next_begins whole place at lexeme n here cut =
    grind (arith, nat_tests, empty_lexeme, ne_eqb, context_ends, take-add, ends_append)
