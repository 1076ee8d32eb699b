-- The lexeme that the scanner finds is the one lexeme that begins there.
use Rattle.std.proofs.Common.{◌≡◌, ℕ, zero, suc, true, false, Bool, ◌<◌, ◌≤◌, List, [], ◌∷◌, ◌++◌, Option, Some, None}
use Rattle.std.proofs.Common.{length, take, drop, get_or, arith, refl, ◌∙◌, ap, if◌then◌else◌}
use Rattle.std.specs.Prelude.{not, ◌||◌, ◌==◌, codes}
use Rattle.std.specs.List.{prefix_len, list_all, list_any}
use Rattle.std.proofs.lemmas.List.{take-append-drop, length-take-le}
use Rattle.std.proofs.lemmas.List.Sums.{prefix_len-le-length}
use Rattle.std.proofs.lemmas.Bool.{false≢true}
use Rattle.std.proofs.lemmas.Bool.Decides.{nat_tests}
use Rattle.kn_base.specs.Decimal.{is_digit}
use Rattle.kn_lex.specs.Bytes.{is_white, is_letter, begins_name, continues_name, is_short_sign, is_lone_sign}
use Rattle.kn_lex.specs.Bytes.{is_long_sign, kind_of}
use Rattle.kn_lex.specs.Spelling.{is_run, is_white_space, is_label, is_label_tail, is_sign, IsLiteral, SpellsPlain}
use Rattle.kn_lex.specs.Spelling.{Spells, items_bytes}
use Rattle.kn_lex.specs.Cutting.{IsLexeme, BeginsNone}
use Rattle.kn_lex.specs.Scanning.{white_len, line_len, colon_len, label_len, sign_len, quote_len, plain_lexeme}
use Rattle.kn_lex.specs.Scanning.{word_lexeme, with_sort, lexeme_at}
use Rattle.kn_lex.specs.declared.bytes.Kind.{Kind}
use Rattle.kn_lex.specs.declared.bytes.Kind.TheVariants.{Space, Hash, Word, Numeral, Quote, Lone, Other}
use Rattle.kn_lex.specs.declared.quote.Quote.TheVariants.{Opening}
use Rattle.kn_lex.specs.declared.token.Sort.TheVariants.{Label, Body, Name, Number, Text, Sign}
use Rattle.kn_lex.specs.declared.lexeme.Lexeme.{Lexeme}
use Rattle.kn_lex.specs.declared.lexeme.Lexeme.TheVariants.{White, Comment, Token}
use Rattle.kn_lex.specs.declared.lexeme.Context.{Context}
use Rattle.kn_lex.proofs.ScannedLengths.{both, choice, same_byte, run_longest, run_passes, white_within, white_some}
use Rattle.kn_lex.proofs.ScannedLengths.{white_longest, white_spelled, colon_within, colon_found, name_in_label}
use Rattle.kn_lex.proofs.ScannedLengths.{body_within}
use Rattle.kn_lex.proofs.ScannedLengths.{body_spelled, body_longest, lexeme_some}
use Rattle.kn_lex.proofs.Scans.{take_next}
use Rattle.kn_lex.proofs.Literals.{quote_sound, literal_found}

-- which bytes begin what

abbrev begins_no_sign : ℕ → Bool
begins_no_sign c = is_white c || c == 35 || begins_name c || is_digit c || c == 34

any_passes : (p : ℕ → Bool) (c : ℕ) (xs : List ℕ) → list_any (λ d. c == d) xs ≡ true → list_all p xs ≡ true → p c ≡ true
any_passes p c [] e h = absurd (false≢true e)
any_passes p c (x ∷ xs) e h = by (c == x) (same_byte c x) (both (p x) (list_all p xs) h) e (any_passes p c xs)
  where
    by : (b : Bool) → (b ≡ true → c ≡ x) → (p x ≡ true) × (list_all p xs ≡ true)
        → (b || list_any (λ d. c == d) xs) ≡ true
        → (list_any (λ d. c == d) xs ≡ true → list_all p xs ≡ true → p c ≡ true) → p c ≡ true
    by b same parts e rest = grind arith

short_sign_byte : (c : ℕ) → is_short_sign c ≡ true → not (begins_no_sign c) ≡ true
short_sign_byte c e = any_passes (λ d. not (begins_no_sign d)) c (codes "(){},;!<>=+-*/%^.$@") e refl

long_begins : (c d : ℕ) → is_long_sign c d ≡ true → list_any (λ sign. c == sign) (codes "&|=!<>-") ≡ true
long_begins c d e = grind (arith, nat_tests)

long_sign_byte : (c d : ℕ) → is_long_sign c d ≡ true → not (begins_no_sign c) ≡ true
long_sign_byte c d e = any_passes (λ x. not (begins_no_sign x)) c (codes "&|=!<>-") (long_begins c d e) refl

-- a lone byte is a sign of one byte
lone_len : (c : ℕ) (cs : List ℕ) → is_lone_sign c ≡ true → sign_len (c ∷ cs) ≡ Some 1
lone_len c [] e = let short = any_passes is_short_sign c (codes "(){},;+*/%^.$@") e refl in rw short refl
lone_len c (d ∷ ds) e = grind (arith, nat_tests)

-- what begins with each kind of byte
abbrev pub by_kind : Kind → Bool → List ℕ → Option (Lexeme × ℕ)
by_kind Space first rest = Some (White, white_len rest)
by_kind Hash first rest = Some (Comment, line_len rest)
by_kind Word first rest = word_lexeme (if first then label_len rest else None) rest
by_kind Numeral first rest = Some (Token Number, prefix_len is_digit rest)
by_kind Quote first rest = with_sort Text (quote_len Opening rest)
by_kind Lone first rest = Some (Token Sign, 1)
by_kind Other first rest = with_sort Sign (sign_len rest)

pub plain_lexeme_by_kind : (first : Bool) (rest : List ℕ) → 0 < length rest
    → plain_lexeme first rest ≡ by_kind (kind_of (get_or rest 0 0)) first rest
unfolding plain_lexeme
plain_lexeme_by_kind first [] h = absurd (omega arith)
plain_lexeme_by_kind first (c ∷ cs) h = grind (arith, nat_tests, lone_len)

pub plain_lexeme_of : (first : Bool) (rest : List ℕ) (kind : Kind) → 0 < length rest → kind_of (get_or rest 0 0) ≡ kind
    → plain_lexeme first rest ≡ by_kind kind first rest
plain_lexeme_of first rest kind h e = plain_lexeme_by_kind first rest h ∙ ap (λ k. by_kind k first rest) e

-- at the beginning of a line a label begins, or what begins within one

pub no_label : (rest : List ℕ) → label_len rest ≡ None → plain_lexeme true rest ≡ plain_lexeme false rest
unfolding plain_lexeme
no_label rest e = grind arith

pub label_here : (rest : List ℕ) (n : ℕ) → label_len rest ≡ Some n → plain_lexeme true rest ≡ Some (Token Label, n)
unfolding plain_lexeme
label_here rest n e = grind (arith, nat_tests)

sign_found : (first : Bool) (c : ℕ) (cs : List ℕ) → not (begins_no_sign c) ≡ true
    → plain_lexeme first (c ∷ cs) ≡ with_sort Sign (sign_len (c ∷ cs))
unfolding plain_lexeme
sign_found first c cs e = grind (arith, nat_tests)

-- what is found is spelled

abbrev pub Fits : (Lexeme → List ℕ → Type 0) → List ℕ → Option (Lexeme × ℕ) → Type 0
Fits spells rest None = Unit {0}
Fits spells rest (Some p) = (p.1 ≤ length rest) × spells p.0 (take p.1 rest)

run_spelled : (head tail : ℕ → Bool) (c : ℕ) (cs : List ℕ) → head c ≡ true → tail c ≡ true
    → is_run head tail (take (prefix_len tail (c ∷ cs)) (c ∷ cs)) ≡ true
run_spelled head tail c cs h t = grind (arith, take_next, run_passes tail cs)

label_spelled : (c : ℕ) (cs : List ℕ) (n : ℕ) → is_letter c ≡ true → is_label_tail (take n (c ∷ cs)) ≡ true
    → is_label (take n (c ∷ cs)) ≡ true
label_spelled c cs n l h = grind (arith, nat_tests)

-- where a label begins
label_begins : (first letter : Bool) (k : Option ℕ) (n : ℕ)
    → (if first then if letter then k else None else None) ≡ Some n
    → (first ≡ true) × (letter ≡ true) × (k ≡ Some n)
label_begins first letter k n e = grind arith

word_fits : (first : Bool) (c : ℕ) (cs : List ℕ) → begins_name c ≡ true
    → Fits (SpellsPlain first) (c ∷ cs) (word_lexeme (if first then label_len (c ∷ cs) else None) (c ∷ cs))
word_fits first c cs b = by (if first then label_len (c ∷ cs) else None) refl
  where
    by : (k : Option ℕ) → (if first then label_len (c ∷ cs) else None) ≡ k
        → Fits (SpellsPlain first) (c ∷ cs) (word_lexeme k (c ∷ cs))
    by None e = (
      prefix_len-le-length continues_name (c ∷ cs),
      run_spelled begins_name continues_name c cs b (rw b refl),
    )
    by (Some n) e =
        let l = label_begins first (is_letter c) (colon_len (c ∷ cs)) n e in
        let w = colon_within (c ∷ cs) n l.2 in
        (w.1, rw l.0 (label_spelled c cs n l.1 w.2))

text_fits : (first : Bool) (rest : List ℕ) → Fits (SpellsPlain first) rest (with_sort Text (quote_len Opening rest))
text_fits first rest = by (quote_len Opening rest) refl
  where
    by : (k : Option ℕ) → quote_len Opening rest ≡ k → Fits (SpellsPlain first) rest (with_sort Text k)
    by None e = tt
    by (Some n) e = quote_sound Opening rest n e

sign_fits : (first : Bool) (rest : List ℕ) → Fits (SpellsPlain first) rest (with_sort Sign (sign_len rest))
sign_fits first rest = grind (arith, nat_tests)

pub plain_fits : (first : Bool) (rest : List ℕ) → Fits (SpellsPlain first) rest (plain_lexeme first rest)
unfolding plain_lexeme
plain_fits first [] = tt
plain_fits first (c ∷ cs) =
    let P : Option (Lexeme × ℕ) → Type 0 = Fits (SpellsPlain first) (c ∷ cs) in
    choice P (is_white c) _ _ (λ w. (white_within (c ∷ cs), white_spelled (c ∷ cs) (white_some c cs w)))
    (λ _. choice P (c == 35) _ _
    (λ h. (
      prefix_len-le-length (λ b. not (b == 10)) (c ∷ cs),
      run_spelled (λ b. b == 35) (λ b. not (b == 10)) c cs h (grind (arith, nat_tests)),
    ))
    (λ _. choice P (begins_name c) _ _ (λ b. word_fits first c cs b)
    (λ _. choice P (is_digit c) _ _
    (λ d. (prefix_len-le-length is_digit (c ∷ cs), run_spelled is_digit is_digit c cs d d))
    (λ _. choice P (c == 34) _ _ (λ _. text_fits first (c ∷ cs)) (λ _. sign_fits first (c ∷ cs))))))

lexeme_fits : (context : Context) (rest : List ℕ) → Fits (Spells context) rest (lexeme_at context rest)
lexeme_fits context rest = grind (arith, plain_fits, body_within, body_spelled)

-- whatever is spelled is found, or something longer

abbrev pub found_size : Option (Lexeme × ℕ) → ℕ
found_size None = 0
found_size (Some p) = p.1

abbrev pub Covers : Lexeme → ℕ → Option (Lexeme × ℕ) → Type 0
Covers other m o = (m ≤ found_size o) × (m ≡ found_size o → o ≡ Some (other, m))

covered : (o : Option (Lexeme × ℕ)) (other : Lexeme) (m n : ℕ) → o ≡ Some (other, n) → m ≤ n → Covers other m o
covered o other m n e le = rw e (le, λ same. cc)

pub white_first : (c : ℕ) (bytes : List ℕ) → is_white_space (c ∷ bytes) ≡ true → is_white c ≡ true
white_first c bytes e = grind arith

run_covers : (head tail : ℕ → Bool) (c : ℕ) (cs : List ℕ) (m : ℕ) → suc m ≤ length (c ∷ cs) → tail c ≡ true
    → is_run head tail (c ∷ take m cs) ≡ true → suc m ≤ prefix_len tail (c ∷ cs)
run_covers head tail c cs m le t e = run_longest tail (c ∷ cs) (suc m) le (rw t (both _ _ e).1)

label_covers : (c : ℕ) (cs : List ℕ) (m : ℕ) → suc m ≤ length (c ∷ cs) → is_label (c ∷ take m cs) ≡ true
    → Covers (Token Label) (suc m) (plain_lexeme true (c ∷ cs))
unfolding plain_lexeme colon_len
label_covers c cs m le e =
    let parts = both (is_letter c) (is_label_tail (take m cs)) e in
    let found = colon_found cs m (omega arith) parts.1 in
    covered _ (Token Label) (suc m) (suc m) (grind (arith, nat_tests)) (omega arith)

name_covers : (first : Bool) (c : ℕ) (cs : List ℕ) (m : ℕ) → begins_name c ≡ true
    → suc m ≤ prefix_len continues_name (c ∷ cs)
    → Covers (Token Name) (suc m) (plain_lexeme first (c ∷ cs))
unfolding plain_lexeme
name_covers first c cs m b size =
    let white : is_white c ≡ false = grind (arith, nat_tests) in
    let hash : (c == 35) ≡ false = grind (arith, nat_tests) in
    rw (white, hash, b) (by (if first then label_len (c ∷ cs) else None) refl)
  where
    by : (k : Option ℕ) → (if first then label_len (c ∷ cs) else None) ≡ k
        → Covers (Token Name) (suc m) (word_lexeme k (c ∷ cs))
    by None e = covered _ (Token Name) (suc m) _ refl size
    by (Some n) e =
        let below = name_in_label (c ∷ cs) n (label_begins first (is_letter c) (colon_len (c ∷ cs)) n e).2 in
        (omega (arith, size, below), λ same. absurd (omega (arith, size, below, same)))

text_covers : (first : Bool) (c : ℕ) (cs : List ℕ) (m : ℕ) → suc m ≤ length (c ∷ cs) → IsLiteral (c ∷ take m cs)
    → Covers (Token Text) (suc m) (plain_lexeme first (c ∷ cs))
unfolding plain_lexeme
text_covers first c cs m le h =
    let spelled : c ∷ take m cs ≡ 34 ∷ items_bytes h.items ++ 34 ∷ [] = h.spelled in
    let is : c ≡ 34 = cc in
    let found = literal_found (take (suc m) (c ∷ cs)) (drop (suc m) (c ∷ cs)) h in
    let whole : quote_len Opening (c ∷ cs) ≡ Some (suc m) =
    cc (take-append-drop (suc m) (c ∷ cs), found, length-take-le (suc m) (c ∷ cs) le) in
    covered _ (Token Text) (suc m) (suc m) (rw is (ap (with_sort Text) (rw is at whole))) (omega arith)

sign_covers : (first : Bool) (c : ℕ) (cs : List ℕ) (m : ℕ) → suc m ≤ length (c ∷ cs) → is_sign (c ∷ take m cs) ≡ true
    → Covers (Token Sign) (suc m) (plain_lexeme first (c ∷ cs))
sign_covers first c [] zero le e = rw (sign_found first c [] (short_sign_byte c e), e) (omega arith, λ same. refl)
sign_covers first c [] (suc m) le e = absurd (omega arith)
sign_covers first c (d ∷ ds) zero le e =
    rw (sign_found first c (d ∷ ds) (short_sign_byte c e))
    (choice (λ k. Covers (Token Sign) 1 (with_sort Sign k)) (is_long_sign c d) _ _
    (λ _. (omega arith, λ same. absurd (omega arith))) (λ _. rw e (omega arith, λ _. refl)))
sign_covers first c (d ∷ ds) (suc zero) le e =
    rw (sign_found first c (d ∷ ds) (long_sign_byte c d e), e) (omega arith, λ _. refl)
sign_covers first c cs (suc (suc m)) le e = grind arith

pub plain_covers : (first : Bool) (rest : List ℕ) (other : Lexeme) (m : ℕ) → m ≤ length rest
    → SpellsPlain first other (take m rest)
    → Covers other m (plain_lexeme first rest)
unfolding plain_lexeme
plain_covers first rest other zero le e = absurd (lexeme_some first other e)
plain_covers first [] other (suc m) le e = absurd (omega arith)
plain_covers first (c ∷ cs) White (suc m) le e =
    covered _ White (suc m) _ (rw (white_first c (take m cs) e) refl) (white_longest (c ∷ cs) (suc m) le e)
plain_covers first (c ∷ cs) Comment (suc m) le e =
    let hash : (c == 35) ≡ true = (both _ _ e).0 in
    covered _ Comment (suc m) (line_len (c ∷ cs)) (grind (arith, nat_tests))
    (run_covers (λ b. b == 35) (λ b. not (b == 10)) c cs m le (grind (arith, nat_tests)) e)
plain_covers first (c ∷ cs) (Token Label) (suc m) le e = grind (arith, label_covers)
plain_covers first (c ∷ cs) (Token Body) (suc m) le e = absurd e
plain_covers first (c ∷ cs) (Token Name) (suc m) le e =
    let b : begins_name c ≡ true = (both _ _ e).0 in
    name_covers first c cs m b (run_covers begins_name continues_name c cs m le (rw b refl) e)
plain_covers first (c ∷ cs) (Token Number) (suc m) le e =
    let d : is_digit c ≡ true = (both _ _ e).0 in
    covered _ (Token Number) (suc m) (prefix_len is_digit (c ∷ cs)) (grind (arith, nat_tests))
    (run_covers is_digit is_digit c cs m le d e)
plain_covers first (c ∷ cs) (Token Text) (suc m) le e = text_covers first c cs m le e
plain_covers first (c ∷ cs) (Token Sign) (suc m) le e = sign_covers first c cs m le e

pub lexeme_covers : (context : Context) (rest : List ℕ) (other : Lexeme) (m : ℕ) → m ≤ length rest
    → Spells context other (take m rest)
    → Covers other m (lexeme_at context rest)
lexeme_covers context rest other m le e = grind (arith, plain_covers, body_longest)

-- what is found is the lexeme that begins here
pub lexeme_sound : (context : Context) (rest : List ℕ) (p : Lexeme × ℕ) → lexeme_at context rest ≡ Some p
    → IsLexeme context rest p.0 p.1
lexeme_sound context rest p e = grind (arith, lexeme_fits, lexeme_covers)

-- a lexeme that begins here is what is found
pub lexeme_is : (context : Context) (rest : List ℕ) (lexeme : Lexeme) (n : ℕ) → IsLexeme context rest lexeme n
    → lexeme_at context rest ≡ Some (lexeme, n)
lexeme_is context rest lexeme n h =
    let covers = lexeme_covers context rest lexeme n h.within h.spelled in
    covers.1 (omega (arith, covers.0, most (lexeme_at context rest) refl))
  where
    most : (o : Option (Lexeme × ℕ)) → lexeme_at context rest ≡ o → found_size o ≤ n
    most None e = omega arith
    most (Some p) e = let found = lexeme_sound context rest p e in h.longest p.0 p.1 found.within found.spelled

pub none_begins : (context : Context) (rest : List ℕ) → lexeme_at context rest ≡ None → BeginsNone context rest
none_begins context rest e lexeme n h = let is = lexeme_is context rest lexeme n h in absurd (cc)

-- where no lexeme begins none is found
pub none_found : (context : Context) (rest : List ℕ) → BeginsNone context rest → lexeme_at context rest ≡ None
none_found context rest h = by (lexeme_at context rest) refl
  where
    by : (o : Option (Lexeme × ℕ)) → lexeme_at context rest ≡ o → o ≡ None
    by None e = refl
    by (Some p) e = absurd (h p.0 p.1 (lexeme_sound context rest p e))
