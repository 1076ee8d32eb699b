-- The fault that the code finds at a place is the first one that the place shows.
use Rattle.std.proofs.Common.{◌≡◌, ℕ, zero, suc, true, false, Bool, ◌+◌, ◌<◌, ◌≤◌, ◌⊎◌, inl, inr, List, [], ◌∷◌, Option}
use Rattle.std.proofs.Common.{Some, None, length, take, drop, arith, refl, sym, ◌∙◌, ap, subst}
use Rattle.std.specs.Prelude.{◌&&◌, ◌==◌, nat_lt, slice_get}
use Rattle.std.specs.List.{list_all}
use Rattle.std.proofs.lemmas.List.{length-take-le}
use Rattle.std.proofs.lemmas.Bool.{false≢true}
use Rattle.std.proofs.lemmas.Bool.Decides.{nat_tests, Decides-ltb}
use Rattle.kn_base.specs.declared.limits.TheConstants.{WHOLE_NUMBER}
use Rattle.kn_base.specs.Decimal.{is_digit, digits_value}
use Rattle.kn_lex.specs.Bytes.{is_white, begins_with}
use Rattle.kn_lex.specs.Spelling.{is_run, is_blank}
use Rattle.kn_lex.specs.Cutting.{IsLexeme, BeginsNone, is_line_start}
use Rattle.kn_lex.specs.Faults.{begins_foreign, begins_quote, begins_ampersand, begins_match, begins_other}
use Rattle.kn_lex.specs.Faults.{begins_fraction, goes_on, HoldsZero, HasNumber, Shows, fault_place}
use Rattle.kn_lex.specs.Scanning.{white_len, zero_place, zero_fault, number_fault, stuck_fault, lexeme_fault, fault_by}
use Rattle.kn_lex.specs.Scanning.{is_bad_blank, fault_at, lexeme_at, plain_lexeme, more_len}
use Rattle.kn_lex.specs.declared.token.Sort.{Sort}
use Rattle.kn_lex.specs.declared.token.Sort.TheVariants.{Number as NumberSort}
use Rattle.kn_lex.specs.declared.lexeme.Lexeme.{Lexeme}
use Rattle.kn_lex.specs.declared.lexeme.Lexeme.TheVariants.{White, Token}
use Rattle.kn_lex.specs.declared.lexeme.Place.{Place}
use Rattle.kn_lex.specs.declared.lexeme.Context.{Context}
use Rattle.kn_lex.specs.declared.lexeme.Context.TheVariants.{LineStart}
use Rattle.kn_lex.specs.declared.fault.LexFault.{LexFault}
use Rattle.kn_lex.specs.declared.fault.LexFault.TheVariants.{NotText, BadString, BadToken, Float, Regex, Number, Blank}
use Rattle.kn_lex.specs.declared.fault.LexFault.TheVariants.{NoMemory}
use Rattle.kn_lex.proofs.Scans.{is_blank-cons}
use Rattle.kn_lex.proofs.ScannedLengths.{both, choice, white_some}
use Rattle.kn_lex.proofs.Lexemes.{found_size, lexeme_sound, lexeme_is, none_begins, none_found}

-- the first byte 0

-- byte 0 stands at the place that is found, and not before it
zero_at : (bytes : List ℕ) (k : ℕ) → zero_place bytes ≡ Some k → (k < length bytes) × (slice_get bytes k ≡ Some 0)
unfolding zero_place
zero_at [] k e = absurd (cc)
zero_at (c ∷ cs) zero e = grind (arith, nat_tests)
zero_at (c ∷ cs) (suc k) e = grind (arith, nat_tests, zero_at cs k)

zero_found : (bytes : List ℕ) (j : ℕ) → slice_get bytes j ≡ Some 0 → (k : ℕ) × (zero_place bytes ≡ Some k) × (k ≤ j)
unfolding zero_place
zero_found [] j h = absurd (cc)
zero_found (c ∷ cs) zero h = (0, grind (arith, nat_tests), omega arith)
zero_found (c ∷ cs) (suc j) h =
    let rest = zero_found cs j h in
    choice (λ o. (k : ℕ) × (o ≡ Some k) × (k ≤ suc j)) (c == 0) _ _ (λ _. (0, refl, omega arith))
    (λ _. (1 + rest.0, ap (more_len 1) rest.1, omega (arith, rest.2)))

all_at : (p : ℕ → Bool) (bytes : List ℕ) (k c : ℕ) → list_all p bytes ≡ true → slice_get bytes k ≡ Some c → p c ≡ true
all_at p [] k c e h = absurd (cc)
all_at p (x ∷ xs) zero c e h = grind arith
all_at p (x ∷ xs) (suc k) c e h = all_at p xs k c (both _ _ e).1 h

no_zero_digit : (bytes : List ℕ) (k : ℕ) → is_run is_digit is_digit bytes ≡ true → slice_get bytes k ≡ Some 0 → ⊥
no_zero_digit bytes k e h = grind (arith, all_at)

-- a blank line that is refused begins with white space

record BeginsWhite (context : Context) (left : List ℕ) : Type 0 where
  white : begins_with is_white left ≡ true
  n : ℕ
  some : 0 < n
  found : lexeme_at context left ≡ Some (White, n)

white_at : (context : Context) (has_token blank on : Bool) → (is_line_start context && has_token && blank && on) ≡ true
    → (context ≡ LineStart) × (has_token ≡ true) × (blank ≡ true) × (on ≡ true)
white_at context has_token blank on e = grind arith

bad_white : (place : Place) (left : List ℕ) → is_bad_blank place left ≡ true → BeginsWhite place.context left
unfolding plain_lexeme
bad_white place [] e = absurd (false≢true (white_at place.context place.has_token _ _ e).3)
bad_white place (x ∷ xs) e =
    let at = white_at place.context place.has_token (is_blank (x ∷ xs)) (goes_on false (x ∷ xs)) e in
    let white : is_white x ≡ true = grind (arith, nat_tests, is_blank-cons x xs, at.2) in
    record { white = white; n = white_len (x ∷ xs); some = white_some x xs white; found = rw (at.0, white) refl }

-- what is found is shown

abbrev FoundShown : Place → ℕ → List ℕ → Option LexFault → Type 0
FoundShown place at left None = Unit {0}
FoundShown place at left (Some fault) = Shows place at left fault

stuck_shown : (place : Place) (at : ℕ) (left : List ℕ) → BeginsNone place.context left
    → FoundShown place at left (stuck_fault at left)
unfolding stuck_fault
stuck_shown place at left none = grind arith

zero_shown : (place : Place) (at : ℕ) (left : List ℕ) (lexeme : Lexeme) (n : ℕ) → IsLexeme place.context left lexeme n
    → FoundShown place at left (zero_fault at (zero_place (take n left)))
zero_shown place at left lexeme n cut = grind (arith, zero_at)

-- the fault of a lexeme is that of a number, or of a byte 0
by_number : (P : Option LexFault → Type 0) (context : Context) (at : ℕ) (left : List ℕ) (lexeme : Lexeme) (n : ℕ)
    → IsLexeme context left lexeme n
    → (IsLexeme context left (Token NumberSort) n → P (number_fault at (take n left) (drop n left)))
    → P (zero_fault at (zero_place (take n left)))
    → P (lexeme_fault at lexeme (take n left) (drop n left))
by_number P context at left lexeme n cut number other = grind arith

lexeme_shown : (place : Place) (at : ℕ) (left : List ℕ) (lexeme : Lexeme) (n : ℕ) → IsLexeme place.context left lexeme n
    → FoundShown place at left (lexeme_fault at lexeme (take n left) (drop n left))
lexeme_shown place at left lexeme n cut = grind (arith, nat_tests, zero_shown)

found_shown : (place : Place) (at : ℕ) (left : List ℕ) → FoundShown place at left (fault_at place at left)
found_shown place at left =
    choice (FoundShown place at left) (is_bad_blank place left) _ _
    (λ b. let p = white_at place.context place.has_token (is_blank left) (goes_on false left) b in
    (refl, p.0, p.1, p.2, p.3))
    (λ _. by (lexeme_at place.context left) refl)
  where
    by : (o : Option (Lexeme × ℕ)) → lexeme_at place.context left ≡ o → FoundShown place at left (fault_by at left o)
    by None e = stuck_shown place at left (none_begins place.context left e)
    by (Some p) e = lexeme_shown place at left p.0 p.1 (lexeme_sound place.context left p e)

pub fault_shown : (place : Place) (at : ℕ) (left : List ℕ) (fault : LexFault) → fault_at place at left ≡ Some fault
    → Shows place at left fault
fault_shown place at left fault e = subst (FoundShown place at left) e (found_shown place at left)

-- what is shown is found, or something before it

abbrev pub Least : LexFault → Option LexFault → Type 0
Least other None = ⊥
Least other (Some fault) = (fault_place fault < fault_place other) ⊎ (fault ≡ other)

-- where no lexeme begins, and in a lexeme that isn't white space, no blank line is refused
stuck_at : (place : Place) (at : ℕ) (left : List ℕ) → BeginsNone place.context left
    → fault_at place at left ≡ stuck_fault at left
stuck_at place at left none =
    let nothing = none_found place.context left none in
    choice (λ o. o ≡ stuck_fault at left) (is_bad_blank place left) _ _
    (λ b. let w = bad_white place left b in let found = w.found in absurd (cc (nothing, found))) (λ _. rw nothing refl)

token_at : (place : Place) (at : ℕ) (left : List ℕ) (sort : Sort) (n : ℕ) → IsLexeme place.context left (Token sort) n
    → fault_at place at left ≡ lexeme_fault at (Token sort) (take n left) (drop n left)
token_at place at left sort n cut =
    let found = lexeme_is place.context left (Token sort) n cut in
    choice (λ o. o ≡ lexeme_fault at (Token sort) (take n left) (drop n left)) (is_bad_blank place left) _ _
    (λ b. let w = bad_white place left b in let white = w.found in absurd (grind arith)) (λ _. rw found refl)

zero_least : (at k : ℕ) (bytes : List ℕ) → slice_get bytes k ≡ Some 0
    → Least (NotText (at + k)) (zero_fault at (zero_place bytes))
zero_least at k bytes here = grind (arith, zero_found)

-- white space isn't byte 0
later : (n k : ℕ) (left : List ℕ) → begins_with is_white left ≡ true → slice_get (take n left) k ≡ Some 0 → 0 < k
later n k left w h = grind arith

pub number_spelled : (context : Context) (left : List ℕ) (n : ℕ) → IsLexeme context left (Token NumberSort) n
    → is_run is_digit is_digit (take n left) ≡ true
number_spelled context left n cut = grind arith

holds_least : (place : Place) (at k : ℕ) (left : List ℕ) → HoldsZero place.context left k
    → Least (NotText (at + k)) (fault_at place at left)
holds_least place at k left h =
    let P : Option LexFault → Type 0 = Least (NotText (at + k)) in
    choice P (is_bad_blank place left) _ _ (λ b. let w = bad_white place left b in
    let some = later h.n k left w.white h.here in inl (omega (arith, some)))
    (λ _. rw (lexeme_is place.context left h.lexeme h.n h.cut)
    (by_number P place.context at left h.lexeme h.n h.cut
    (λ number. absurd (no_zero_digit (take h.n left) k (number_spelled place.context left h.n number) h.here))
    (zero_least at k (take h.n left) h.here)))

-- the tests of a byte where no lexeme begins
stuck_is : (at : ℕ) (left : List ℕ)
    → (begins_foreign left ≡ true → stuck_fault at left ≡ Some (NotText at))
    × (begins_quote left ≡ true → stuck_fault at left ≡ Some (BadString at))
    × (begins_ampersand left ≡ true → stuck_fault at left ≡ Some (Float at))
    × (begins_match left ≡ true → stuck_fault at left ≡ Some (Regex at))
    × (begins_other left ≡ true → stuck_fault at left ≡ Some (BadToken at))
unfolding stuck_fault
stuck_is at left = grind (arith, nat_tests)

found_least : (place : Place) (at : ℕ) (left : List ℕ) (fault : LexFault) → fault_at place at left ≡ Some fault
    → Least fault (fault_at place at left)
found_least place at left fault e = rw e (inr refl)

fraction_least : (place : Place) (at : ℕ) (left : List ℕ)
    → HasNumber place.context left (λ digits rest. begins_fraction rest ≡ true)
    → Least (Float at) (fault_at place at left)
fraction_least place at left h = found_least place at left (Float at) (token_at place at left NumberSort h.n h.cut
    ∙ rw h.shown refl)

large_least : (place : Place) (at : ℕ) (left : List ℕ)
    → HasNumber place.context left (λ digits rest. (begins_fraction rest ≡ false)
    × (WHOLE_NUMBER < digits_value digits))
    → Least (Number at) (fault_at place at left)
large_least place at left h =
    let large : nat_lt WHOLE_NUMBER (digits_value (take h.n left)) ≡ true =
    (Decides-ltb WHOLE_NUMBER (digits_value (take h.n left))).1 h.shown.1 in
    found_least place at left (Number at) (token_at place at left NumberSort h.n h.cut ∙ rw (h.shown.0, large) refl)

-- what is shown where no lexeme begins
stuck_least : (place : Place) (at : ℕ) (left : List ℕ) (fault : LexFault) → BeginsNone place.context left
    → stuck_fault at left ≡ Some fault
    → Least fault (fault_at place at left)
stuck_least place at left fault none e = found_least place at left fault (stuck_at place at left none ∙ e)

pub shown_least : (place : Place) (at : ℕ) (left : List ℕ) (fault : LexFault) → Shows place at left fault
    → Least fault (fault_at place at left)
shown_least place at left (NotText p) h = grind (arith, holds_least, stuck_least, stuck_is)
shown_least place at left (BadString p) h =
    rw h.0 (stuck_least place at left (BadString at) h.1 ((stuck_is at left).1 h.2))
shown_least place at left (BadToken p) h =
    rw h.0 (stuck_least place at left (BadToken at) h.1 ((stuck_is at left).4 h.2))
shown_least place at left (Float p) h =
    rw h.0 (elim h.1 [
      | inl a ↦ stuck_least place at left (Float at) a.0 ((stuck_is at left).2 a.1)
      | inr n ↦ fraction_least place at
          left n
    ])
shown_least place at left (Regex p) h = rw h.0 (stuck_least place at left (Regex at) h.1 ((stuck_is at left).3 h.2))
shown_least place at left (Number p) h = rw h.0 (large_least place at left h.1)
shown_least place at left (Blank p) h = rw h.0 (found_least place at left (Blank at) (rw (h.1, h.2, h.3, h.4) refl))
shown_least place at left NoMemory h = absurd h

-- a fault stands in its lexeme

pub shown_from : (place : Place) (at : ℕ) (left : List ℕ) (fault : LexFault) → Shows place at left fault
    → at ≤ fault_place fault
shown_from place at left fault h = grind arith

abbrev Within : ℕ → Option LexFault → Type 0
Within end None = Unit {0}
Within end (Some fault) = fault_place fault < end

number_some : (left : List ℕ) (n : ℕ) → is_run is_digit is_digit (take n left) ≡ true → 0 < n
number_some left n e = grind arith

zero_within : (at n : ℕ) (left : List ℕ) → n ≤ length left → Within (at + n) (zero_fault at (zero_place (take n left)))
zero_within at n left le = by (zero_place (take n left)) (zero_at (take n left))
  where
    by : (o : Option ℕ) → ((k : ℕ) → o ≡ Some k → (k < length (take n left)) × (slice_get (take n left) k ≡ Some 0))
        → Within (at + n) (zero_fault at o)
    by None z = tt
    by (Some k) z = omega (arith, (z k refl).0, length-take-le n left le)

number_within : (at n : ℕ) (digits rest : List ℕ) → 0 < n → Within (at + n) (number_fault at digits rest)
number_within at n digits rest some = grind arith

lexeme_within : (context : Context) (at : ℕ) (left : List ℕ) (lexeme : Lexeme) (n : ℕ) → IsLexeme context left lexeme n
    → Within (at + n) (lexeme_fault at lexeme (take n left) (drop n left))
lexeme_within context at left lexeme n cut = grind (arith, by_number, number_within, number_some, zero_within)

pub fault_within : (place : Place) (at : ℕ) (left : List ℕ) (fault : LexFault) (lexeme : Lexeme) (n : ℕ)
    → fault_at place at left ≡ Some fault → IsLexeme place.context left lexeme n → fault_place fault < at + n
fault_within place at left fault lexeme n e cut =
    let found = lexeme_is place.context left lexeme n cut in
    subst (Within (at + n)) e
    (choice (Within (at + n)) (is_bad_blank place left) _ _
    (λ b. let w = bad_white place left b in let white = w.found in let some = w.some in
    let same : w.n ≡ n = ap found_size (sym white ∙ found) in omega arith)
    (λ _. rw found (lexeme_within place.context at left lexeme n cut)))
