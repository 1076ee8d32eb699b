-- That the generated texts make a history.
use Rattle.std.proofs.Common.{◌≡◌, ℕ, zero, suc, true, false, Bool, ◌+◌, ◌-◌, ◌*◌, ◌^◌, ◌/◌, ◌%◌, ◌<◌, ◌≤◌, ◌==◌}
use Rattle.std.proofs.Common.{if◌then◌else◌, List, [], ◌∷◌, ◌++◌, Option, Some, None, length, refl, sym, ◌∙◌, ap, subst}
use Rattle.std.proofs.Common.{append_assoc, append-nil, length-append, codes, arith, mod-lt}
use Rattle.std.specs.Prelude.{nat_lt, nat_le, IsSome, decimal, flat_map, sum_by}
use Rattle.std.specs.List.{list_any}
use Rattle.std.proofs.lemmas.Bool.{le-ltb, lt-leb}
use Rattle.std.proofs.lemmas.List.Sums.{sum_by-cons}
use Rattle.std.proofs.lemmas.Fmt.{decimal_digit, decimal_nonempty}
use Rattle.kn_assert.specs.Reading.{assertion_of}
use Rattle.kn_history.specs.declared.update.Change.TheVariants.{Add}
use Rattle.kn_history.specs.declared.update.Numbered.{Numbered}
use Rattle.kn_history.specs.History.{NumberedText, all_changes, is_removal_of, live, text_bytes, logged_bytes}
use Rattle.kn_history.specs.History.{added_bytes, refusal_of_text, additions_by, loaded_history}
use Rattle.kn_history.specs.Loading.{IsLoadable, IsAddedBehind}
use Rattle.kn_history.proofs.Loading.{loadable_nothing, loadable_more}
use Rattle.kn_generate.specs.declared.draws.Numbers.{Numbers}
use Rattle.kn_generate.specs.Generated.{numbers_of, draw_value, state_behind, policy_text, credential_text}
use Rattle.kn_generate.specs.Generated.{credential_texts, generated_texts}
use Rattle.kn_generate.proofs.Scans.{bytes_of}
use Rattle.kn_generate.proofs.Literals.{IsPlain, ArePlain, decimal_plain, quoted, IsNaming, literal_names}
use Rattle.kn_generate.proofs.Literals.{short_decimal}
use Rattle.kn_generate.proofs.CutLemmas.{credential_cuts, credential_cut, policy_cut, digit_is}
use Rattle.kn_generate.proofs.Readings.{credential_reads, policy_reads}

-- a text that reads and isn't long
pub record IsGood (text : List ℕ) : Type 0 where
  pub reads : IsSome (assertion_of text)
  pub short : length text ≤ 200

abbrev AreGood : List (List ℕ) → Type 0
AreGood [] = Unit {0}
AreGood (text ∷ texts) = IsGood text × AreGood texts

good_more : (texts : List (List ℕ)) (text : List ℕ) → AreGood texts → IsGood text → AreGood (texts ++ text ∷ [])
good_more [] text are is = (is, tt)
good_more (x ∷ texts) text are is = (are.0, good_more texts text are.1 is)

abbrev total : List (List ℕ) → ℕ
total [] = 0
total (text ∷ texts) = length text + total texts

few_bytes : (texts : List (List ℕ)) → AreGood texts → total texts ≤ 200 * length texts
few_bytes [] are = omega arith
few_bytes (text ∷ texts) are =
    let first = are.0.short in
    let rest = few_bytes texts are.1 in
    omega arith

-- additions alone remove nothing
none_removed : (id n : ℕ) (texts : List (List ℕ))
    → list_any (λ c. is_removal_of id c.change c.id) (all_changes (additions_by 0 n texts)) ≡ false
none_removed id n [] = refl
none_removed id n (text ∷ texts) = none_removed id (n + 1) texts

abbrev numbered_from : ℕ → List (List ℕ) → List NumberedText
numbered_from n [] = []
numbered_from n (text ∷ texts) = record { id = n + 1; text = text } ∷ numbered_from (n + 1) texts

all_live : (n : ℕ) (texts : List (List ℕ)) → live (all_changes (additions_by 0 n texts)) ≡ numbered_from n texts
all_live n [] = refl
all_live n (text ∷ texts) =
    rw (none_removed (n + 1) (n + 1) texts)
    (ap (λ (l : List NumberedText). record { id = n + 1; text = text } ∷ l) (all_live (n + 1) texts))

live_count : (n : ℕ) (texts : List (List ℕ)) → length (numbered_from n texts) ≡ length texts
live_count n [] = refl
live_count n (text ∷ texts) = ap suc (live_count (n + 1) texts)

live_total : (n : ℕ) (texts : List (List ℕ)) → text_bytes (numbered_from n texts) ≡ total texts
live_total n [] = refl
live_total n (text ∷ texts) =
    sum_by-cons (λ (c : NumberedText). length c.text) (record { id = n + 1; text = text }) (numbered_from (n + 1) texts)
    ∙ ap (λ (k : ℕ). length text + k) (live_total (n + 1) texts)

change_count : (n : ℕ) (texts : List (List ℕ)) → length (all_changes (additions_by 0 n texts)) ≡ length texts
change_count n [] = refl
change_count n (text ∷ texts) = ap suc (change_count (n + 1) texts)

logged_total : (n : ℕ) (texts : List (List ℕ)) → logged_bytes (all_changes (additions_by 0 n texts)) ≡ total texts
logged_total n [] = refl
logged_total n (text ∷ texts) =
    sum_by-cons (λ (c : Numbered). added_bytes c.change) (record { change = Add text; id = n + 1 })
    (all_changes (additions_by 0 (n + 1) texts)) ∙ ap (λ (k : ℕ). length text + k) (logged_total (n + 1) texts)

-- few good texts are within the limits
not_refused : (front : List (List ℕ)) (text : List ℕ) → AreGood front → IsGood text → length front < 2048
    → refusal_of_text (all_changes (loaded_history front)) text ≡ None
not_refused front text are is few =
    let past = all_changes (loaded_history front) in
    let count : length (live past) ≡ length front = ap length (all_live 0 front) ∙ live_count 0 front in
    let bytes : text_bytes (live past) ≡ total front = ap text_bytes (all_live 0 front) ∙ live_total 0 front in
    let updates : length past ≡ length front = change_count 0 front in
    let logged : logged_bytes past ≡ total front = logged_total 0 front in
    let low : total front ≤ 200 * length front = few_bytes front are in
    let short : length text ≤ 200 = is.short in
    let a : nat_le 4096 (length (live past)) ≡ false = lt-leb 4096 (length (live past)) (omega arith) in
    let b : nat_lt 8388608 (text_bytes (live past) + length text) ≡ false =
    le-ltb 8388608 (text_bytes (live past) + length text) (omega arith) in
    let c : nat_le 65536 (length past) ≡ false = lt-leb 65536 (length past) (omega arith) in
    let d : nat_lt 67108864 (logged_bytes past + length text) ≡ false =
    le-ltb 67108864 (logged_bytes past + length text) (omega arith) in
    all_false _ _ _ _ a b c d _ _ _ _
  where
    all_false : (a b c d : Bool) → a ≡ false → b ≡ false → c ≡ false → d ≡ false → {X : Type 0} (w x y z : X)
        → (if a then Some w else if b then Some x else if c then Some y else if d then Some z else None) ≡ None
    all_false a b c d e f g h w x y z = rw (e, f, g, h) refl

all_load : (front rest : List (List ℕ)) → IsLoadable front → AreGood front → AreGood rest
    → length front + length rest ≤ 2048 → IsLoadable (front ++ rest)
all_load front [] loadable before are few = subst IsLoadable (sym (append-nil front)) loadable
all_load front (text ∷ rest) loadable before are few =
    let added : IsAddedBehind front text =
    record { reads = are.0.reads; accepted = not_refused front text before are.0 (omega arith) } in
    let size : length (front ++ text ∷ []) ≡ length front + 1 = length-append front (text ∷ []) in
    subst IsLoadable (append_assoc front (text ∷ []) rest)
    (all_load (front ++ text ∷ []) rest (loadable_more front text loadable added) (good_more front text before are.0)
    are.1 (omega arith))

-- how long a text is that is put together so
long_as : (p0 d1 p1 d2 p2 d3 p3 d4 p4 d5 p5 d6 p6 d7 p7 : List ℕ)
    → length (p0 ++ (d1
    ++ (p1 ++ (d2 ++ (p2 ++ (d3 ++ (p3 ++ (d4 ++ (p4 ++ (d5 ++ (p5 ++ (d6 ++ (p6 ++ (d7 ++ p7))))))))))))))
    ≡ length p0 + length d1 + length p1 + length d2 + length p2 + length d3 + length p3 + length d4 + length p4
    + length d5 + length p5 + length d6 + length p6 + length d7 + length p7
long_as p0 d1 p1 d2 p2 d3 p3 d4 p4 d5 p5 d6 p6 d7 p7 = simp length-append (omega arith)

quoted_behind : (letter : ℕ) (ds rest other : List ℕ) → rest ≡ other
    → quoted (letter ∷ ds) ++ rest ≡ 34 ∷ letter ∷ (ds ++ 34 ∷ other)
quoted_behind letter ds rest other e = ap (λ (l : List ℕ). 34 ∷ letter ∷ l) (append_assoc ds (34 ∷ []) rest
    ∙ ap (λ (l : List ℕ). ds ++ 34 ∷ l) e)

-- the bytes of a credential's pieces
bytes_are : (i a b c d t e : List ℕ) → bytes_of (credential_cuts i a b c d t e) ≡ flat_map (λ part. part) (
    codes "Authorizer: \"p" ∷ i ∷ codes "\"\nLicensees: \"p" ∷ a ∷ codes "\" || 2-of(\"p" ∷ b ∷ codes "\",\"p" ∷ c
    ∷ codes "\",\"p" ∷ d
    ∷ codes "\")\nConditions: @level > " ∷ t ∷ codes " -> \"v" ∷ e ∷ codes "\"; true -> \"v1\";\n" ∷ [])
bytes_are i a b c d t e =
    let last = quoted_behind 118 e (codes "; true -> \"v1\";\n") (codes "; true -> \"v1\";\n") refl in
    let fourth = quoted_behind 112 d _ _
    (ap (λ (l : List ℕ). codes ")\nConditions: @level > " ++ (t ++ (codes " -> " ++ l))) last) in
    let third = quoted_behind 112 c _ _ (ap (λ (l : List ℕ). codes "," ++ l) fourth) in
    let second = quoted_behind 112 b _ _ (ap (λ (l : List ℕ). codes "," ++ l) third) in
    let later = quoted_behind 112 a _ _ (ap (λ (l : List ℕ). codes " || 2-of(" ++ l) second) in
    let first = quoted_behind 112 i _ _ (ap (λ (l : List ℕ). codes "\nLicensees: " ++ l) later) in
    ap (λ (l : List ℕ). codes "Authorizer: " ++ l) first

letter_plain : (IsPlain 112 × IsPlain 118)
letter_plain = (
  record { quote = refl; escape = refl; line = refl; zero_byte = refl },
  record { quote = refl; escape = refl; line = refl; zero_byte = refl },
)

-- the numbers of a credential are small
record AreSmall (numbers : Numbers) : Type 0 where
  later : numbers.later < 10000
  first : numbers.first < 10000
  second : numbers.second < 10000
  third : numbers.third < 10000
  least : numbers.least < 10
  value : numbers.value < 10

module _ (i : ℕ) (numbers : Numbers) (small : i < 10000) (are : AreSmall numbers) where
  named : (n : ℕ) → n < 10000 → IsNaming (quoted (112 ∷ decimal n))
  named n below =
      let size = short_decimal n below in
      literal_names (112 ∷ decimal n) (letter_plain.0, decimal_plain n (omega arith)) (omega arith) (omega arith)

  plain : (n : ℕ) → n < 10000 → ArePlain (112 ∷ decimal n)
  plain n below = (letter_plain.0, decimal_plain n (omega arith))

  credential_length : (length (credential_text i numbers) ≤ 200) × (42 ≤ length (credential_text i numbers))
  unfolding credential_text
  credential_length =
      let sizes = long_as (codes "Authorizer: \"p") (decimal i) (codes "\"\nLicensees: \"p") (decimal numbers.later)
      (codes "\" || 2-of(\"p") (decimal numbers.first) (codes "\",\"p") (decimal numbers.second) (codes "\",\"p")
      (decimal numbers.third)
      (codes "\")\nConditions: @level > ") (decimal numbers.least) (codes " -> \"v") (decimal numbers.value)
      (codes "\"; true -> \"v1\";\n") in
      let a = short_decimal i small in
      let b = short_decimal numbers.later are.later in
      let c = short_decimal numbers.first are.first in
      let d = short_decimal numbers.second are.second in
      let e = short_decimal numbers.third are.third in
      let f = short_decimal numbers.least (omega (arith, are.least)) in
      let g = short_decimal numbers.value (omega (arith, are.value)) in
      (omega arith, omega arith)

  credential_is : credential_text i numbers
      ≡ bytes_of (credential_cuts (decimal i) (decimal numbers.later) (decimal numbers.first) (decimal numbers.second)
      (decimal numbers.third) (decimal numbers.least) (decimal numbers.value))
  unfolding credential_text
  credential_is = sym (bytes_are (decimal i) (decimal numbers.later) (decimal numbers.first) (decimal numbers.second)
      (decimal numbers.third) (decimal numbers.least) (decimal numbers.value))

  credential_good : IsGood (credential_text i numbers)
  credential_good =
      let digit : decimal numbers.least ≡ (48 + numbers.least) ∷ [] = decimal_digit numbers.least are.least in
      let one : IsPlain 49 = record { quote = refl; escape = refl; line = refl; zero_byte = refl } in
      let is : credential_text i numbers
      ≡ bytes_of (credential_cuts (decimal i) (decimal numbers.later) (decimal numbers.first)
      (decimal numbers.second) (decimal numbers.third) ((48 + numbers.least) ∷ []) (decimal numbers.value)) =
      credential_is ∙ ap
      (λ (t : List ℕ).
      bytes_of (credential_cuts (decimal i) (decimal numbers.later) (decimal numbers.first) (decimal numbers.second)
      (decimal numbers.third) t (decimal numbers.value))) digit in
      let cut = credential_cut (decimal i) (decimal numbers.later) (decimal numbers.first) (decimal numbers.second)
      (decimal numbers.third) (decimal numbers.value) numbers.least (digit_is numbers.least are.least)
      (plain i small) (plain numbers.later are.later) (plain numbers.first are.first) (plain numbers.second are.second)
      (plain numbers.third are.third)
      (letter_plain.1, decimal_plain numbers.value (omega (arith, are.value))) (letter_plain.1, (one, tt)) in
      let most : length (credential_text i numbers) ≤ 200 = credential_length.0 in
      record {
        reads = credential_reads (decimal i) (decimal numbers.later) (decimal numbers.first) (decimal numbers.second)
            (decimal numbers.third) (decimal numbers.value) numbers.least (credential_text i numbers) is cut
            (le-ltb 16384 (length (credential_text i numbers)) (omega (arith, most))) credential_length.1
            (digit_is numbers.least are.least)
            (named i small) (named numbers.later are.later) (named numbers.first are.first)
            (named numbers.second are.second) (named numbers.third are.third);
        short = most;
      }

numbers_small : (n i x : ℕ) → n ≤ 2048 → i + 1 < n → AreSmall (numbers_of n i x)
numbers_small n i x most below =
    let room : 0 < n - 1 - i = omega arith in
    let some : 0 < n = omega arith in
    let a : draw_value 1 x % (n - 1 - i) < n - 1 - i = mod-lt (draw_value 1 x) room in
    let b : draw_value 2 x % n < n = mod-lt (draw_value 2 x) some in
    let c : draw_value 3 x % n < n = mod-lt (draw_value 3 x) some in
    let d : draw_value 4 x % n < n = mod-lt (draw_value 4 x) some in
    let e : draw_value 5 x % 10 < 10 = omega arith in
    let f : draw_value 6 x % 4 < 4 = omega arith in
    record {
      later = omega (arith, a);
      first = omega (arith, b);
      second = omega (arith, c);
      third = omega (arith, d);
      least = e;
      value = omega (arith, f);
    }

credentials_good : (n more i x : ℕ) → n ≤ 2048 → i + more + 1 ≤ n → AreGood (credential_texts n more i x)
unfolding credential_texts
credentials_good n zero i x most fits = tt
credentials_good n (suc more) i x most fits = (
  credential_good i (numbers_of n i x) (omega arith) (numbers_small n i x most (omega arith)),
  credentials_good n more (i + 1) (state_behind 6 x) most (omega arith),
)

credentials_count : (n more i x : ℕ) → length (credential_texts n more i x) ≡ more
unfolding credential_texts
credentials_count n zero i x = refl
credentials_count n (suc more) i x = ap suc (credentials_count n more (i + 1) (state_behind 6 x))

policy_good : IsGood policy_text
policy_good =
    let r : IsPlain 112 = letter_plain.0 in
    let policy : ArePlain (codes "POLICY") = (
      record { quote = refl; escape = refl; line = refl; zero_byte = refl },
      (
        record { quote = refl; escape = refl; line = refl; zero_byte = refl },
        (
          record { quote = refl; escape = refl; line = refl; zero_byte = refl },
          (
            record { quote = refl; escape = refl; line = refl; zero_byte = refl },
            (
              record { quote = refl; escape = refl; line = refl; zero_byte = refl },
              (record { quote = refl; escape = refl; line = refl; zero_byte = refl }, tt),
            ),
          ),
        ),
      ),
    ) in
    let first : ArePlain (codes "p0") =
    (letter_plain.0, (record { quote = refl; escape = refl; line = refl; zero_byte = refl }, tt)) in
    record {
      reads = policy_reads policy_text refl (policy_cut policy first) refl (omega arith)
          (literal_names (codes "POLICY") policy (omega arith) (omega arith))
          (literal_names (codes "p0") first (omega arith) (omega arith));
      short = omega arith;
    }

one_or_more : (n : ℕ) (x : ℕ) → n ≤ 2048 → AreGood (credential_texts n (n - 1) 0 x)
unfolding credential_texts
one_or_more zero x most = tt
one_or_more (suc n) x most = credentials_good (suc n) (suc n - 1) 0 x most (omega arith)

pub generated_load : (start n : ℕ) → n ≤ 2048 → IsLoadable (generated_texts start n)
generated_load start n most =
    let count : length (credential_texts n (n - 1) 0 start) ≡ n - 1 = credentials_count n (n - 1) 0 start in
    all_load [] (generated_texts start n) loadable_nothing tt (policy_good, one_or_more n start most) (omega arith)
