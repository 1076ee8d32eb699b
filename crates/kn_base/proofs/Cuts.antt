-- Texts cut at the first byte of a kind, and texts with different fronts.
use Rattle.std.proofs.Common.{◌≡◌, ◌≢◌, ◌⊎◌, ℕ, false, ◌==◌, List, [], ◌∷◌, ◌++◌, refl, sym, ap, ◌∙◌, inl, inr}
use Rattle.std.specs.List.{list_any}
use Rattle.std.proofs.lemmas.Bool.{or_parts, cases_eq, eqb-false, eq-eqb, ne_eqb, false≢true}

-- texts that begin with different bytes
pub heads_apart : (x y : ℕ) (xs ys : List ℕ) → x ≢ y → x ∷ xs ≢ y ∷ ys
heads_apart x y xs ys apart e = apart (cc)

-- there is one way to cut
pub cut_once : (at : ℕ) (x y r s : List ℕ) → list_any (λ b. b == at) x ≡ false → list_any (λ b. b == at) y ≡ false
    → x ++ at ∷ r ≡ y ++ at ∷ s → (x ≡ y) × (r ≡ s)
cut_once at [] [] r s h k e = (refl, cc)
cut_once at [] (b ∷ y) r s h k e = let first : at ≡ b = cc in
    absurd (eqb-false b at (or_parts (b == at) (list_any (λ b. b == at) y) k).0 (sym first))
cut_once at (a ∷ x) [] r s h k e = let first : a ≡ at = cc in
    absurd (eqb-false a at (or_parts (a == at) (list_any (λ b. b == at) x) h).0 first)
cut_once at (a ∷ x) (b ∷ y) r s h k e =
    let rest : x ++ at ∷ r ≡ y ++ at ∷ s = cc in
    let p = cut_once at x y r s (or_parts (a == at) (list_any (λ b. b == at) x) h).1
    (or_parts (b == at) (list_any (λ b. b == at) y) k).1 rest in
    let front : x ≡ y = p.0 in
    let first : a ≡ b = cc in
    (cc, p.1)

-- a text that is cut has the byte
pub no_cut : (at : ℕ) (x r : List ℕ) → list_any (λ b. b == at) (x ++ at ∷ r) ≢ false
no_cut at [] r h = false≢true (sym (or_parts (at == at) (list_any (λ b. b == at) r) h).0 ∙ eq-eqb at at refl)
no_cut at (a ∷ x) r h = no_cut at x r (or_parts (a == at) (list_any (λ b. b == at) (x ++ at ∷ r)) h).1

-- the text before the first byte of a kind, and behind it
pub record IsCut (at : ℕ) (text : List ℕ) : Type 0 where
  pub word : List ℕ
  pub rest : List ℕ
  pub spelled : text ≡ word ++ at ∷ rest
  pub clean : list_any (λ b. b == at) word ≡ false

-- a text has such a byte, or none
pub cut_or_none : (at : ℕ) (text : List ℕ) → IsCut at text ⊎ (list_any (λ b. b == at) text ≡ false)
cut_or_none at [] = inr refl
cut_or_none at (b ∷ text) =
    elim (cases_eq b at) [
      | inl here ↦ inl (record { word = []; rest = text; spelled = ap (λ (c : ℕ). c ∷ text) here; clean = refl })
      | inr other ↦
          let first : (b == at) ≡ false = ne_eqb b at other in
          elim (cut_or_none at text) [
            | inl cut ↦ inl (record {
              word = b ∷ cut.word;
              rest = cut.rest;
              spelled =
                  ap (λ (l : List ℕ). b ∷ l) cut.spelled;
              clean = rw (first, cut.clean) refl;
            })
            | inr none ↦ inr (rw (first, none) refl)
          ]
    ]

-- the text behind a front
pub record HasFront (front text : List ℕ) : Type 0 where
  pub rest : List ℕ
  pub spelled : text ≡ front ++ rest

-- a text has this front, or another one
pub front_or_none : (front text : List ℕ) → HasFront front text ⊎ ((rest : List ℕ) → text ≢ front ++ rest)
front_or_none [] text = inl (record { rest = text; spelled = refl })
front_or_none (a ∷ front) [] = inr (λ rest e. absurd (cc))
front_or_none (a ∷ front) (b ∷ text) =
    elim (cases_eq b a) [
      | inl same ↦ elim (front_or_none front text) [
        | inl has ↦ let behind : text ≡ front ++ has.rest = has.spelled in
            inl (record { rest = has.rest; spelled = cc })
        | inr none ↦ inr (λ rest e. none rest (cc))
      ]
      | inr other ↦ inr (λ rest e. heads_apart b a text (front ++ rest) other e)
    ]
