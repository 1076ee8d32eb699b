-- How the texts are made one after the other.
use Rattle.std.proofs.Common.{◌≡◌, ℕ, zero, suc, ◌+◌, ◌-◌, ◌%◌, ◌<◌, ◌≤◌, List, [], ◌∷◌, ◌++◌, Result, refl, sym, ◌∙◌}
use Rattle.std.proofs.Common.{ap, append_assoc, append-nil, codes, arith}
use Rattle.std.specs.Prelude.{decimal, flat_map, IfOk}
use Rattle.kn_generate.specs.declared.draws.Numbers.{Numbers}
use Rattle.kn_generate.specs.Generated.{next_state, state_behind, draw_value, numbers_of, credential_text}
use Rattle.kn_generate.specs.Generated.{credential_texts, generated_texts}

-- the numbers of six draws, each of which goes on from the one before
pub six_draws : (n i x : ℕ) (s1 s2 s3 s4 s5 r1 r2 r3 r4 r5 r6 : ℕ) → s1 ≡ next_state x → s2 ≡ next_state s1
    → s3 ≡ next_state s2 → s4 ≡ next_state s3 → s5 ≡ next_state s4
    → r1 ≡ draw_value 1 x → r2 ≡ draw_value 1 s1 → r3 ≡ draw_value 1 s2 → r4 ≡ draw_value 1 s3 → r5 ≡ draw_value 1 s4
    → r6 ≡ draw_value 1 s5
    → record {
      later = i + 1 + r1 % (n - 1 - i);
      first = r2 % n;
      second = r3 % n;
      third = r4 % n;
      least = r5 % 10;
      value = r6 % 4;
    } ≡ numbers_of n i x
six_draws n i x s1 s2 s3 s4 s5 r1 r2 r3 r4 r5 r6 a b c d e f g h j k l = rw (f, g, h, j, k, l, e, d, c, b, a) refl

-- the text that is put together of its parts
pub credential_told : {E : Type 0} (r : Result (List ℕ) E) (i : ℕ) (numbers : Numbers) (a b c d e f g : List ℕ)
    → a ≡ decimal i → b ≡ decimal numbers.later → c ≡ decimal numbers.first → d ≡ decimal numbers.second
    → e ≡ decimal numbers.third → f ≡ decimal numbers.least → g ≡ decimal numbers.value
    → IfOk r (λ text. text ≡ flat_map (λ part. part) (
    codes "Authorizer: \"p" ∷ a ∷ codes "\"\nLicensees: \"p" ∷ b ∷ codes "\" || 2-of(\"p" ∷ c ∷ codes "\",\"p" ∷ d
    ∷ codes "\",\"p" ∷ e
    ∷ codes "\")\nConditions: @level > " ∷ f ∷ codes " -> \"v" ∷ g ∷ codes "\"; true -> \"v1\";\n" ∷ []))
    → IfOk r (λ text. text ≡ credential_text i numbers)
unfolding credential_text
credential_told r i numbers a b c d e f g ea eb ec ed ee ef eg h = rw (ea, eb, ec, ed, ee, ef, eg) at h

first_of_rest : (n i x : ℕ) → i < n - 1 → credential_texts n (n - 1 - i) i x ≡ credential_text i (numbers_of n i x)
    ∷ credential_texts n (n - 1 - (i + 1)) (i + 1) (state_behind 6 x)
unfolding credential_texts
first_of_rest n i x below =
    let one : n - 1 - i ≡ suc (n - 1 - (i + 1)) = omega arith in
    ap (λ (k : ℕ). credential_texts n k i x) one

none_left : (n k i x : ℕ) → k ≡ 0 → credential_texts n k i x ≡ []
unfolding credential_texts
none_left n zero i x e = refl
none_left n (suc k) i x e = absurd (omega arith)

-- one more text
pub texts_more : (start n i x y : ℕ) (texts more : List (List ℕ)) (text : List ℕ) (numbers : Numbers) → i < n - 1
    → more ≡ texts ++ text ∷ [] → text ≡ credential_text i numbers → numbers ≡ numbers_of n i x
    → y ≡ state_behind 6 x → texts ++ credential_texts n (n - 1 - i) i x ≡ generated_texts start n
    → more ++ credential_texts n (n - 1 - (i + 1)) (i + 1) y ≡ generated_texts start n
texts_more start n i x y texts more text numbers below grown is drew state before =
    let here : text ≡ credential_text i (numbers_of n i x) = is ∙ ap (credential_text i) drew in
    let rest = credential_texts n (n - 1 - (i + 1)) (i + 1) in
    ap (λ (l : List (List ℕ)). l ++ rest y) grown ∙ append_assoc texts (text ∷ []) (rest y)
    ∙ ap (λ (k : ℕ). texts ++ text ∷ rest k) state ∙ ap (λ (t : List ℕ). texts ++ t ∷ rest (state_behind 6 x)) here
    ∙ ap (λ (l : List (List ℕ)). texts ++ l) (sym (first_of_rest n i x below)) ∙ before

-- all are made
pub texts_all : (start n i x : ℕ) (texts : List (List ℕ)) → n - 1 ≤ i
    → texts ++ credential_texts n (n - 1 - i) i x ≡ generated_texts start n → texts ≡ generated_texts start n
texts_all start n i x texts over all =
    let none : n - 1 - i ≡ 0 = omega arith in
    sym (append-nil texts) ∙ ap (λ (l : List (List ℕ)). texts ++ l) (sym (none_left n (n - 1 - i) i x none)) ∙ all
