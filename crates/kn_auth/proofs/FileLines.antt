-- The lines that `bstr` gives are the lines of the text.
use Rattle.std.proofs.Common.{◌≡◌, ◌⊎◌, ℕ, zero, suc, ◌+◌, ◌-◌, ◌≤◌, ◌==◌, ◌&&◌, Bool, true, false, cond, nat_lt, List}
use Rattle.std.proofs.Common.{[], ◌∷◌, ◌++◌, length, map, take, drop, refl, sym, ap, ◌∙◌, arith, inl, inr}
use Rattle.std.proofs.Common.{length-append}
use Rattle.std.specs.Prelude.{All, slice_index}
use Rattle.std.specs.List.{slice_split, onto_first}
use Rattle.std.specs.Str.Lines.{lines, lines_of_parts, strip_carriage_return}
use Rattle.std.proofs.Math.Seq.{get_or-append_seam, take-append_seam}
use Rattle.std.proofs.lemmas.Bool.{cases_eq, eq-eqb, ne_eqb}
use Rattle.std.proofs.lemmas.Bool.Decides.{nat_tests}
use Rattle.std.proofs.lemmas.List.{take_all, drop_all, drop_at, take_at, append_assoc}
use Rattle.std.proofs.lemmas.List.Elements.{All-cons, All-head, All-nil, All-tail}
use Rattle.std.proofs.lemmas.List.Splits.{slice_split_at, slice_split_none}
use Rattle.bstr.specs.Text.{line_len, lines_from, lines_of, no_cr, without_terminator}

abbrev IsClean : List ℕ → Type 0
IsClean text = All (λ b. (b == 10) ≡ false) text

-- the text before its first newline, and behind it
record IsCut (text : List ℕ) : Type 0 where
  line : List ℕ
  rest : List ℕ
  spelled : text ≡ line ++ 10 ∷ rest
  clean : IsClean line

cut_or_clean : (text : List ℕ) → IsCut text ⊎ IsClean text
cut_or_clean [] = inr (All-nil (λ (b : ℕ). (b == 10) ≡ false))
cut_or_clean (b ∷ text) =
    elim (cases_eq b 10) [
      | inl here ↦ inl
          (record {
            line = [];
            rest = text;
            spelled = ap (λ (c : ℕ). c ∷ text) here;
            clean =
                All-nil (λ (b : ℕ). (b == 10) ≡ false);
          })
      | inr other ↦
          let first : (b == 10) ≡ false = ne_eqb b 10 other in
          elim (cut_or_clean text) [
            | inl cut ↦ inl (record {
              line = b ∷ cut.line;
              rest = cut.rest;
              spelled =
                  ap (λ (l : List ℕ). b ∷ l) cut.spelled;
              clean =
                  All-cons (λ (b : ℕ). (b == 10) ≡ false) b cut.line first cut.clean;
            })
            | inr clean ↦ inr (All-cons (λ (b : ℕ). (b == 10) ≡ false) b text first clean)
          ]
    ]

line_len-cut : (line rest : List ℕ) → IsClean line → line_len (line ++ 10 ∷ rest) ≡ length line + 1
unfolding line_len
line_len-cut [] rest clean = refl
line_len-cut (b ∷ line) rest clean =
    let more = line_len-cut line rest (All-tail (λ (b : ℕ). (b == 10) ≡ false) b line clean) in
    rw (All-head (λ (b : ℕ). (b == 10) ≡ false) b line clean) (omega (arith, more))

line_len-clean : (text : List ℕ) → IsClean text → line_len text ≡ length text
unfolding line_len
line_len-clean [] clean = refl
line_len-clean (b ∷ text) clean =
    let more = line_len-clean text (All-tail (λ (b : ℕ). (b == 10) ≡ false) b text clean) in
    rw (All-head (λ (b : ℕ). (b == 10) ≡ false) b text clean) (ap suc more)

positive : (n : ℕ) → nat_lt 0 (suc n) ≡ true
positive n = grind (arith, nat_tests)

no_cr-strip : (line : List ℕ) → no_cr line ≡ strip_carriage_return line
no_cr-strip [] = refl
no_cr-strip (b ∷ line) =
    ap (λ (t : Bool). cond (t && (slice_index (b ∷ line) (length (b ∷ line) - 1) == 13))
    (take (length (b ∷ line) - 1) (b ∷ line)) (b ∷ line)) (positive (length line))

ended : (bytes : List ℕ) (n : ℕ) → length bytes ≡ suc n → (slice_index bytes n == 10) ≡ true
    → without_terminator bytes ≡ no_cr (take n bytes)
ended bytes n size last =
    let some : nat_lt 0 (length bytes) ≡ true = ap (nat_lt 0) size ∙ positive n in
    let at : length bytes - 1 ≡ n = omega arith in
    ap (λ (m : ℕ). cond (nat_lt 0 (length bytes) && (slice_index bytes m == 10)) (no_cr (take m bytes)) bytes) at
    ∙ ap (λ (t : Bool). cond (t && (slice_index bytes n == 10)) (no_cr (take n bytes)) bytes) some
    ∙ ap (λ (t : Bool). cond t (no_cr (take n bytes)) bytes) last

-- a line without its newline
line_ended : (line : List ℕ) → without_terminator (line ++ 10 ∷ []) ≡ strip_carriage_return line
line_ended line =
    ended (line ++ 10 ∷ []) (length line) (omega (arith, length-append line (10 ∷ [])))
    (eq-eqb _ 10 (get_or-append_seam line 10 [] 0))
    ∙ ap no_cr (take-append_seam line (10 ∷ []))
    ∙ no_cr-strip line

neither : (t : Bool) (x y : List ℕ) → cond (t && false) x y ≡ y
neither true x y = refl
neither false x y = refl

-- the last line, where it has no newline
line_whole : (b : ℕ) (text : List ℕ) → IsClean (b ∷ text) → without_terminator (b ∷ text) ≡ b ∷ text
line_whole b text clean =
    let last : (slice_index (b ∷ text) (length (b ∷ text) - 1) == 10) ≡ false =
    clean (length (b ∷ text) - 1) 0 (omega arith) in
    ap (λ (t : Bool). cond (nat_lt 0 (length (b ∷ text)) && t) (no_cr (take (length (b ∷ text) - 1) (b ∷ text)))
    (b ∷ text)) last
    ∙ neither (nat_lt 0 (length (b ∷ text))) (no_cr (take (length (b ∷ text) - 1) (b ∷ text))) (b ∷ text)

abbrev parts : List ℕ → List (List ℕ)
parts text = slice_split (λ b. b == 10) text

-- there is a part always
record HasPart (ps : List (List ℕ)) : Type 0 where
  first : List ℕ
  more : List (List ℕ)
  are : ps ≡ first ∷ more

some_part : (text : List ℕ) → HasPart (parts text)
some_part [] = record { first = []; more = []; are = refl }
some_part (b ∷ text) = by (b == 10) (some_part text)
  where
    by : (t : Bool) → HasPart (parts text) → HasPart (cond t ([] ∷ parts text) (onto_first b (parts text)))
    by true h = record { first = []; more = parts text; are = refl }
    by false h = record { first = b ∷ h.first; more = h.more; are = ap (onto_first b) h.are }

parts_more : (line : List ℕ) (text : List ℕ) → lines_of_parts (line ∷ parts text) ≡ strip_carriage_return line
    ∷ lines_of_parts (parts text)
parts_more line text =
    let h = some_part text in
    ap (λ (ps : List (List ℕ)). lines_of_parts (line ∷ ps)) h.are
    ∙ ap (λ (ps : List (List ℕ)). strip_carriage_return line ∷ lines_of_parts ps) (sym h.are)

-- a line that ends is the first, and the others are those of the rest
first_cut : (fuel : ℕ) (text : List ℕ) (cut : IsCut text)
    → map without_terminator (lines_from fuel cut.rest) ≡ lines_of_parts (parts cut.rest)
    → without_terminator (take (line_len text) text)
    ∷ map without_terminator (lines_from fuel (drop (line_len text) text)) ≡ lines_of_parts (parts text)
first_cut fuel text cut rest =
    let line : List ℕ = cut.line in
    let whole : text ≡ (line ++ 10 ∷ []) ++ cut.rest = cut.spelled ∙ sym (append_assoc line (10 ∷ []) cut.rest) in
    let len : line_len text ≡ length line + 1 = ap line_len cut.spelled ∙ line_len-cut line cut.rest cut.clean in
    let size : length (line ++ 10 ∷ []) ≡ length line + 1 = length-append line (10 ∷ []) in
    let front : take (line_len text) text ≡ line ++ 10 ∷ [] =
    ap (λ (n : ℕ). take n text) len ∙ ap (take (length line + 1)) whole
    ∙ take_at (line ++ 10 ∷ []) cut.rest (length line + 1) size in
    let behind : drop (line_len text) text ≡ cut.rest =
    ap (λ (n : ℕ). drop n text) len ∙ ap (drop (length line + 1)) whole
    ∙ drop_at (line ++ 10 ∷ []) cut.rest (length line + 1) size in
    ap (λ (l : List ℕ). l ∷ map without_terminator (lines_from fuel (drop (line_len text) text)))
    (ap without_terminator front ∙ line_ended line)
    ∙ ap (λ (l : List ℕ). strip_carriage_return line ∷ map without_terminator (lines_from fuel l)) behind
    ∙ ap (λ (ls : List (List ℕ)). strip_carriage_return line ∷ ls) rest
    ∙ sym (parts_more line cut.rest)
    ∙ ap lines_of_parts (sym (slice_split_at (λ b. b == 10) line 10 cut.rest cut.clean refl))
    ∙ ap (λ (l : List ℕ). lines_of_parts (parts l)) (sym cut.spelled)

none_left : (fuel : ℕ) → lines_from fuel [] ≡ []
unfolding lines_from
none_left zero = refl
none_left (suc fuel) = refl

-- a line that doesn't end is the only one
only_whole : (fuel : ℕ) (b : ℕ) (text : List ℕ) → IsClean (b ∷ text)
    → without_terminator (take (line_len (b ∷ text)) (b ∷ text))
    ∷ map without_terminator (lines_from fuel (drop (line_len (b ∷ text)) (b ∷ text)))
    ≡ lines_of_parts (parts (b ∷ text))
only_whole fuel b text clean =
    let all : List ℕ = b ∷ text in
    let len : line_len all ≡ length all = line_len-clean all clean in
    ap (λ (n : ℕ). without_terminator (take n all) ∷ map without_terminator (lines_from fuel (drop n all))) len
    ∙ ap (λ (l : List ℕ). without_terminator l ∷ map without_terminator (lines_from fuel (drop (length all) all)))
    (take_all (length all) all (omega arith))
    ∙ ap (λ (l : List ℕ). l ∷ map without_terminator (lines_from fuel (drop (length all) all)))
    (line_whole b text clean)
    ∙ ap (λ (l : List ℕ). all ∷ map without_terminator (lines_from fuel l)) (drop_all (length all) all (omega arith))
    ∙ ap (λ (ls : List (List ℕ)). all ∷ map without_terminator ls) (none_left fuel)
    ∙ sym (ap (λ (t : Bool). cond {A = List (List ℕ)} t [] (all ∷ []))
    (ne_eqb (length all) 0 (λ e. absurd (omega arith))))
    ∙ ap lines_of_parts (sym (slice_split_none (λ b. b == 10) all clean))

lines_from-parts : (fuel : ℕ) (text : List ℕ) → length text ≤ fuel
    → map without_terminator (lines_from fuel text) ≡ lines_of_parts (parts text)
unfolding lines_from
lines_from-parts zero [] few = refl
lines_from-parts zero (b ∷ text) few = absurd (omega arith)
lines_from-parts (suc fuel) [] few = refl
lines_from-parts (suc fuel) (b ∷ text) few =
    elim (cut_or_clean (b ∷ text)) [
      | inl cut ↦
          let size = ap length cut.spelled ∙ length-append cut.line (10 ∷ cut.rest) in
          first_cut fuel (b ∷ text) cut (lines_from-parts fuel cut.rest (omega arith))
      | inr clean ↦ only_whole fuel b text clean
    ]

-- the lines that `bstr` gives
pub lines_given : (text : List ℕ) → map without_terminator (lines_of text) ≡ lines text
lines_given text = lines_from-parts (length text) text (omega arith)
