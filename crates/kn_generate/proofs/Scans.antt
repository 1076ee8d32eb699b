-- Cutting a text into pieces that are given with their bytes.
use Rattle.std.proofs.Common.{◌≡◌, ℕ, true, false, zero, suc, Bool, ◌+◌, ◌*◌, ◌<◌, ◌≤◌, if◌then◌else◌, List, [], ◌∷◌}
use Rattle.std.proofs.Common.{◌++◌, Option, Some, None, Result, Ok, length, take, drop, arith, refl, sym, ◌∙◌, ap}
use Rattle.std.proofs.Common.{subst, append_assoc, append-nil, length-append}
use Rattle.std.specs.Prelude.{nat_lt}
use Rattle.std.proofs.lemmas.Bool.Decides.{nat_tests}
use Rattle.std.proofs.lemmas.List.Prefix.{front_rest}
use Rattle.kn_lex.specs.Cutting.{TokenView, start, place_after, token_of, is_empty}
use Rattle.kn_lex.specs.Scanning.{lexeme_at, fault_at, lexeme_fault, is_bad_blank}
use Rattle.kn_lex.specs.Computed.{next_tokens, tokens_from, tokens_or_fault}
use Rattle.kn_lex.specs.declared.lexeme.Lexeme.{Lexeme}
use Rattle.kn_lex.specs.declared.lexeme.Place.{Place}
use Rattle.kn_lex.specs.declared.fault.LexFault.{LexFault}

-- the bytes of pieces
abbrev pub bytes_of : List (Lexeme × List ℕ) → List ℕ
bytes_of [] = []
bytes_of (c ∷ cs) = c.1 ++ bytes_of cs

-- the tokens among them, from this place on
abbrev pub tokens_at : Place → ℕ → List (Lexeme × List ℕ) → List TokenView
tokens_at place at [] = []
tokens_at place at (c ∷ cs) = token_of place.context at c.0 c.1
    ++ tokens_at (place_after place c.0 c.1) (at + length c.1) cs

-- the piece is cut here, before this rest, and shows no fault
pub record IsCut (place : Place) (piece : Lexeme) (bytes rest : List ℕ) : Type 0 where
  pub some : is_empty bytes ≡ false
  pub exact : is_bad_blank place (bytes ++ rest) ≡ false
  pub cut : lexeme_at place.context (bytes ++ rest) ≡ Some (piece, length bytes)
  pub clean : (at : ℕ) → lexeme_fault at piece bytes rest ≡ None

abbrev pub AreCuts : Place → List (Lexeme × List ℕ) → Type 0
AreCuts place [] = Unit {0}
AreCuts place (c ∷ cs) = IsCut place c.0 c.1 (bytes_of cs) × AreCuts (place_after place c.0 c.1) cs

take_zero : (xs : List ℕ) → take 0 xs ≡ []
take_zero [] = refl
take_zero (x ∷ xs) = refl

pub take_front : (p rest : List ℕ) → take (length p) (p ++ rest) ≡ p
take_front [] rest = take_zero rest
take_front (x ∷ p) rest = ap (λ (l : List ℕ). x ∷ l) (take_front p rest)

positive : (bytes : List ℕ) → is_empty bytes ≡ false → 0 < length bytes
positive [] e = cc
positive (b ∷ bytes) e = omega arith

clean_at : (place : Place) (at : ℕ) (piece : Lexeme) (bytes rest : List ℕ) → IsCut place piece bytes rest
    → fault_at place at (bytes ++ rest) ≡ None
clean_at place at piece bytes rest is =
    rw (is.exact, is.cut, take_front bytes rest, front_rest (bytes ++ rest) bytes rest refl) (is.clean at)

goes_on : (k : ℕ) (text other cut bytes : List ℕ) (m n at : ℕ) (place : Place) (piece : Lexeme)
    (tokens : List TokenView)
    (all : Result (List TokenView) LexFault)
    → text ≡ other → cut ≡ bytes → m ≡ n
    → tokens_from k other (place_after place piece bytes) n (tokens ++ token_of place.context at piece bytes) ≡ all
    → tokens_from k text (place_after place piece cut) m (tokens ++ token_of place.context at piece cut) ≡ all
goes_on k text other cut bytes m n at place piece tokens all e f g h = rw (e, f, g) h

by : (b : Bool) → b ≡ true → (o : Option LexFault) → o ≡ None → (q : Option (Lexeme × ℕ)) (p : Lexeme × ℕ) → q ≡ Some p
    → (tokens : List TokenView)
    → (go : Lexeme × ℕ → Result (List TokenView) LexFault) (all : Result (List TokenView) LexFault) → go p ≡ all
    → (if b then next_tokens o q tokens go else Ok tokens) ≡ all
by b e o f q p g tokens go all h = rw (e, f, g) h

-- the tokens of what is left, where it is cut so
pub cut_tokens : (cs : List (Lexeme × List ℕ)) (front : List ℕ) (place : Place) (tokens : List TokenView) (k : ℕ)
    → AreCuts place cs → length cs ≤ k
    → tokens_from k (front ++ bytes_of cs) place (length front) tokens
    ≡ Ok (tokens ++ tokens_at place (length front) cs)
unfolding tokens_from
cut_tokens [] front place tokens zero are le = ap Ok (sym (append-nil tokens))
cut_tokens [] front place tokens (suc k) are le =
    let size : length (front ++ []) ≡ length front = ap length (append-nil front) in
    let over : nat_lt (length front) (length (front ++ [])) ≡ false = grind (arith, nat_tests) in
    rw over (ap Ok (sym (append-nil tokens)))
cut_tokens (c ∷ cs) front place tokens zero are le = absurd (omega arith)
cut_tokens (c ∷ cs) front place tokens (suc k) are le =
    let rest = bytes_of cs in
    let bytes = c.1 in
    let text = front ++ (bytes ++ rest) in
    let some : 0 < length bytes = positive bytes are.0.some in
    let sizes : length text ≡ length front + length (bytes ++ rest) = length-append front (bytes ++ rest) in
    let inner : length (bytes ++ rest) ≡ length bytes + length rest = length-append bytes rest in
    let more : length front < length text = omega arith in
    let below : nat_lt (length front) (length text) ≡ true = grind (arith, nat_tests) in
    let left : drop (length front) text ≡ bytes ++ rest = front_rest text front (bytes ++ rest) refl in
    let fine : fault_at place (length front) (drop (length front) text) ≡ None = ap (fault_at place (length front)) left
    ∙ clean_at place (length front) c.0 bytes rest are.0 in
    let found : lexeme_at place.context (drop (length front) text) ≡ Some (c.0, length bytes) =
    ap (lexeme_at place.context) left ∙ are.0.cut in
    let taken : take (length bytes) (drop (length front) text) ≡ bytes = ap (take (length bytes)) left
    ∙ take_front bytes rest in
    let along : length front + length bytes ≡ length (front ++ bytes) = sym (length-append front bytes) in
    let next = place_after place c.0 bytes in
    let added = token_of place.context (length front) c.0 bytes in
    let fewer : length cs ≤ k = omega arith in
    let later : tokens_from k ((front ++ bytes) ++ rest) next (length (front ++ bytes)) (tokens ++ added)
    ≡ Ok ((tokens ++ added) ++ tokens_at next (length (front ++ bytes)) cs) =
    cut_tokens cs (front ++ bytes) next (tokens ++ added) k are.1 fewer in
    let same : (tokens ++ added) ++ tokens_at next (length (front ++ bytes)) cs ≡ tokens
    ++ (added ++ tokens_at next (length front + length bytes) cs) =
    append_assoc tokens added (tokens_at next (length (front ++ bytes)) cs)
    ∙ ap (λ (n : ℕ). tokens ++ (added ++ tokens_at next n cs)) (sym along) in
    by (nat_lt (length front) (length text)) below (fault_at place (length front) (drop (length front) text)) fine
    (lexeme_at place.context (drop (length front) text)) (c.0, length bytes) found tokens
    (λ p. tokens_from k text (place_after place p.0 (take p.1 (drop (length front) text))) (length front + p.1)
    (tokens ++ token_of place.context (length front) p.0 (take p.1 (drop (length front) text)))) _
    (goes_on k text ((front ++ bytes) ++ rest) _ bytes _ (length (front ++ bytes)) (length front) place c.0 tokens _
    (sym (append_assoc front bytes rest)) taken along (later ∙ ap Ok same))

-- the tokens of a text that is cut so, where it has enough bytes
pub text_tokens : (text : List ℕ) (cs : List (Lexeme × List ℕ)) → text ≡ bytes_of cs → AreCuts start cs
    → length cs ≤ length text → tokens_or_fault text ≡ Ok (tokens_at start 0 cs)
unfolding tokens_or_fault
text_tokens text cs is are enough =
    subst (λ (t : List ℕ). tokens_from (suc (2 * length text)) t start 0 [] ≡ Ok (tokens_at start 0 cs)) (sym is)
    (cut_tokens cs [] start [] (suc (2 * length text)) are (omega arith))
