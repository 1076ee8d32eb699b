-- Texts of a form at the front of bytes.
use Rattle.std.proofs.Common.{◌≡◌, ◌≢◌, ℕ, ◌+◌, ◌<◌, ◌≤◌, true, false, not, ◌||◌, ◌==◌, List, [], ◌∷◌, ◌++◌, length}
use Rattle.std.proofs.Common.{drop, get_or, map, decimal, Option, Some, None, refl, sym, ap, ◌∙◌, arith, subst, inl}
use Rattle.std.proofs.Common.{inr, append_assoc}
use Rattle.std.proofs.lemmas.Bool.{and_parts, or_cases, or_parts, eq-eqb, ne_eqb, eqb-false, cond-true, cond-false}
use Rattle.std.proofs.lemmas.Bool.{cases_eq, not-true, not_from_true, false≢true}
use Rattle.std.proofs.lemmas.List.{drop_more, drop_all, drop-map, length-map}
use Rattle.kn_base.specs.Decimal.{is_digit}
use Rattle.kn_reply_reader.specs.Numerals.{IsBehindNumber, begins_with_digit}
use Rattle.kn_reply_reader.specs.Fronts.{IsBehindOne, AreApart}
use Rattle.kn_reply_reader.specs.Forms.{fill_form, IsOfForm, IsOfOneForm, ends_number, is_form, are_forms}
use Rattle.kn_reply_reader.proofs.Written.{number_once}

-- the two cases of a part
pub filled_number : (b : ℕ) (form ns : List ℕ) → b ≡ 35
    → fill_form (b ∷ form) ns ≡ decimal (get_or ns 0 0) ++ fill_form form (drop 1 ns)
filled_number b form ns hash =
    cond-true (b == 35) (decimal (get_or ns 0 0) ++ fill_form form (drop 1 ns)) (b ∷ fill_form form ns)
    (eq-eqb b 35 hash)

pub filled_byte : (b : ℕ) (form ns : List ℕ) → b ≢ 35 → fill_form (b ∷ form) ns ≡ b ∷ fill_form form ns
filled_byte b form ns other =
    cond-false (b == 35) (decimal (get_or ns 0 0) ++ fill_form form (drop 1 ns)) (b ∷ fill_form form ns)
    (ne_eqb b 35 other)

-- no digit follows a number of a form
no_digit : (form ns r : List ℕ) → ends_number form ≡ true → begins_with_digit (fill_form form ns ++ r) ≡ false
no_digit [] ns r e = absurd (false≢true e)
no_digit (b ∷ form) ns r e =
    let parts = or_parts (is_digit b) (b == 35) (not-true (is_digit b || b == 35) e) in
    ap (λ (l : List ℕ). begins_with_digit (l ++ r)) (filled_byte b form ns (eqb-false b 35 parts.1)) ∙ parts.0

number_ends : (b : ℕ) (form : List ℕ) → b ≡ 35 → is_form (b ∷ form) ≡ true → ends_number form ≡ true
number_ends b form hash e =
    let first = (and_parts (not (b == 35) || ends_number form) (is_form form) e).0 in
    elim (or_cases (not (b == 35)) (ends_number form) first) [
      | inl other ↦ absurd (false≢true (sym (not_from_true (b == 35) (eq-eqb b 35 hash)) ∙ other))
      | inr ends ↦ ends
    ]

pub rest_form : (b : ℕ) (form : List ℕ) → is_form (b ∷ form) ≡ true → is_form form ≡ true
rest_form b form e = (and_parts (not (b == 35) || ends_number form) (is_form form) e).1

filled_once : (form ns ms r s : List ℕ) → is_form form ≡ true → fill_form form ns ++ r ≡ fill_form form ms ++ s
    → (fill_form form ns ≡ fill_form form ms) × (r ≡ s)
filled_once [] ns ms r s is e = (refl, e)
filled_once (b ∷ form) ns ms r s is e = elim (cases_eq b 35) [
  | inl hash ↦
      let n = get_or ns 0 0 in
      let m = get_or ms 0 0 in
      let f = fill_form form (drop 1 ns) in
      let g = fill_form form (drop 1 ms) in
      let ends = number_ends b form hash is in
      let first = number_once n m (f ++ r) (g ++ s) (no_digit form (drop 1 ns) r ends)
      (no_digit form (drop 1 ms) s ends)
      (sym (append_assoc (decimal n) f r) ∙ ap (λ (l : List ℕ). l ++ r) (sym (filled_number b form ns hash)) ∙ e
      ∙ ap (λ (l : List ℕ). l ++ s) (filled_number b form ms hash) ∙ append_assoc (decimal m) g s) in
      let rest = filled_once form (drop 1 ns) (drop 1 ms) r s (rest_form b form is) first.1 in (
        filled_number b form ns hash ∙ ap (λ (l : List ℕ). l ++ f) first.0 ∙ ap (λ (l : List ℕ). decimal m ++ l) rest.0
            ∙ sym (filled_number b form ms hash),
        rest.1,
      )
  | inr other ↦
      let whole : b ∷ (fill_form form ns ++ r) ≡ b ∷ (fill_form form ms ++ s) =
      ap (λ (l : List ℕ). l ++ r) (sym (filled_byte b form ns other)) ∙ e
      ∙ ap (λ (l : List ℕ). l ++ s) (filled_byte b form ms other) in
      let tail : fill_form form ns ++ r ≡ fill_form form ms ++ s = cc in
      let rest = filled_once form ns ms r s (rest_form b form is) tail in
      (filled_byte b form ns other ∙ ap (λ (l : List ℕ). b ∷ l) rest.0 ∙ sym (filled_byte b form ms other), rest.1)
]

pub form_apart : (form : List ℕ) → is_form form ≡ true → AreApart (IsOfForm form)
form_apart form form_is a b r s is is' e =
    let same = filled_once form is.0 is'.0 r s form_is (ap (λ (l : List ℕ). l ++ r) (sym is.1) ∙ e
    ∙ ap (λ (l : List ℕ). l ++ s) is'.1) in
    (is.1 ∙ same.0 ∙ sym is'.1, same.1)

-- one part of a form

number_more : (b : ℕ) (form left rest : List ℕ) (found : Option (List ℕ)) → b ≡ 35 → is_form (b ∷ form) ≡ true
    → IsBehindNumber left (Some rest)
    → IsBehindOne (IsOfForm form) rest found → IsBehindOne (IsOfForm (b ∷ form)) left found
number_more b form left rest None hash is first none = λ text more has e.
    let same = number_once first.0 (get_or has.0 0 0) rest (fill_form form (drop 1 has.0) ++ more) first.2
    (no_digit form (drop 1 has.0) more (number_ends b form hash is))
    (sym first.1 ∙ e ∙ ap (λ (l : List ℕ). l ++ more) (has.1 ∙ filled_number b form has.0 hash)
    ∙ append_assoc (decimal (get_or has.0 0 0)) (fill_form form (drop 1 has.0)) more) in
    none (fill_form form (drop 1 has.0)) more (drop 1 has.0, refl) same.1
number_more b form left rest (Some more) hash is first next = (
  decimal first.0 ++ next.0,
  (
    first.0 ∷ next.1.0,
    ap (λ (l : List ℕ). decimal first.0 ++ l) next.1.1
        ∙ sym (filled_number b form (first.0 ∷ next.1.0) hash),
  ),
  first.1 ∙ ap (λ (l : List ℕ). decimal first.0 ++ l) next.2 ∙ sym (append_assoc (decimal first.0) next.0 more),
)

number_none : (b : ℕ) (form left : List ℕ) → b ≡ 35 → is_form (b ∷ form) ≡ true → IsBehindNumber left None
    → IsBehindOne (IsOfForm (b ∷ form)) left None
number_none b form left hash is none = λ text more has e.
    none (get_or has.0 0 0) (fill_form form (drop 1 has.0) ++ more)
    (no_digit form (drop 1 has.0) more (number_ends b form hash is))
    (e ∙ ap (λ (l : List ℕ). l ++ more) (has.1 ∙ filled_number b form has.0 hash)
    ∙ append_assoc (decimal (get_or has.0 0 0)) (fill_form form (drop 1 has.0)) more)

byte_more : (b : ℕ) (form left rest : List ℕ) (found : Option (List ℕ)) → b ≢ 35
    → IsBehindOne (λ text. text ≡ b ∷ []) left (Some rest)
    → IsBehindOne (IsOfForm form) rest found → IsBehindOne (IsOfForm (b ∷ form)) left found
byte_more b form left rest None other first none = λ text more has e.
    let here : left ≡ b ∷ rest = first.2 ∙ ap (λ (l : List ℕ). l ++ rest) first.1 in
    let whole : b ∷ rest ≡ b ∷ (fill_form form has.0 ++ more) = sym here ∙ e
    ∙ ap (λ (l : List ℕ). l ++ more) (has.1 ∙ filled_byte b form has.0 other) in
    let tail : rest ≡ fill_form form has.0 ++ more = cc in
    none (fill_form form has.0) more (has.0, refl) tail
byte_more b form left rest (Some more) other first next = (
  b ∷ next.0,
  (next.1.0, ap (λ (l : List ℕ). b ∷ l) next.1.1 ∙ sym (filled_byte b form next.1.0 other)),
  first.2 ∙ ap (λ (l : List ℕ). l ++ rest) first.1 ∙ ap (λ (l : List ℕ). b ∷ l) next.2,
)

byte_none : (b : ℕ) (form left : List ℕ) → b ≢ 35 → IsBehindOne (λ text. text ≡ b ∷ []) left None
    → IsBehindOne (IsOfForm (b ∷ form)) left None
byte_none b form left other none = λ text more has e.
    none (b ∷ []) (fill_form form has.0 ++ more) refl (e
    ∙ ap (λ (l : List ℕ). l ++ more) (has.1 ∙ filled_byte b form has.0 other))

-- what is behind the rest of a form that begins with this part, where this is behind the part
pub part_more : (b : ℕ) (form left rest : List ℕ) (found : Option (List ℕ)) → is_form (b ∷ form) ≡ true
    → (b ≡ 35 → IsBehindNumber left (Some rest))
    → (b ≢ 35 → IsBehindOne (λ text. text ≡ b ∷ []) left (Some rest)) → IsBehindOne (IsOfForm form) rest found
    → IsBehindOne (IsOfForm (b ∷ form)) left found
part_more b form left rest found is number byte next = elim (cases_eq b 35) [
  | inl hash ↦ number_more b form left rest found hash is (number hash) next
  | inr other ↦ byte_more b form left rest found other (byte other) next
]

pub part_none : (b : ℕ) (form left : List ℕ) → is_form (b ∷ form) ≡ true → (b ≡ 35 → IsBehindNumber left None)
    → (b ≢ 35 → IsBehindOne (λ text. text ≡ b ∷ []) left None) → IsBehindOne (IsOfForm (b ∷ form)) left None
part_none b form left is number byte = elim (cases_eq b 35) [
  | inl hash ↦ number_none b form left hash is (number hash)
  | inr other ↦ byte_none b form left other (byte other)
]

-- a form at its end
pub form_done : (left : List ℕ) → IsBehindOne (IsOfForm []) left (Some left)
form_done left = ([], ([], refl), refl)

-- one of several forms

pub forms_first : (form : List ℕ) (forms : List (List ℕ)) (left rest : List ℕ)
    → IsBehindOne (IsOfForm form) left (Some rest) → IsBehindOne (IsOfOneForm (form ∷ forms)) left (Some rest)
forms_first form forms left rest first = (first.0, inl first.1, first.2)

pub forms_other : (form : List ℕ) (forms : List (List ℕ)) (left : List ℕ) (found : Option (List ℕ))
    → IsBehindOne (IsOfForm form) left None
    → IsBehindOne (IsOfOneForm forms) left found → IsBehindOne (IsOfOneForm (form ∷ forms)) left found
forms_other form forms left None none others =
    λ text rest is e. elim is [ inl is ↦ none text rest is e | inr is ↦ others text rest is e ]
forms_other form forms left (Some rest) none others = (others.0, inr others.1, others.2)

pub forms_none : (left : List ℕ) → IsBehindOne (IsOfOneForm []) left None
forms_none left = λ text rest is e. absurd is

-- The same in the loop over the parts of a form.

module _ (form : List ℕ) (i : ℕ) (left : List ℕ) where
  pub parts_done : length form ≤ i → IsBehindOne (IsOfForm (drop i form)) left (Some left)
  parts_done past = subst (λ (l : List ℕ). IsBehindOne (IsOfForm l) left (Some left)) (sym (drop_all i form past))
      (form_done left)

  module _ (within : i < length form) (is : is_form (drop i form) ≡ true) where
    here : is_form (get_or form i 0 ∷ drop (i + 1) form) ≡ true
    here = subst (λ (l : List ℕ). is_form l ≡ true) (drop_more form i 0 within) is

    pub parts_form : is_form (drop (i + 1) form) ≡ true
    parts_form = rest_form (get_or form i 0) (drop (i + 1) form) here

    pub parts_none : (get_or form i 0 ≡ 35 → IsBehindNumber left None)
        → (get_or form i 0 ≢ 35 → IsBehindOne (λ text. text ≡ get_or form i 0 ∷ []) left None)
        → IsBehindOne (IsOfForm (drop i form)) left None
    parts_none number byte =
        subst (λ (l : List ℕ). IsBehindOne (IsOfForm l) left None) (sym (drop_more form i 0 within))
        (part_none (get_or form i 0) (drop (i + 1) form) left here number byte)

    pub parts_more : (rest : List ℕ) (found : Option (List ℕ))
        → (get_or form i 0 ≡ 35 → IsBehindNumber left (Some rest))
        → (get_or form i 0 ≢ 35 → IsBehindOne (λ text. text ≡ get_or form i 0 ∷ []) left (Some rest))
        → IsBehindOne (IsOfForm (drop (i + 1) form)) rest found → IsBehindOne (IsOfForm (drop i form)) left found
    parts_more rest found number byte next =
        subst (λ (l : List ℕ). IsBehindOne (IsOfForm l) left found) (sym (drop_more form i 0 within))
        (part_more (get_or form i 0) (drop (i + 1) form) left rest found here number byte next)

-- And in the loop over forms, each seen so.

module _ {X : Type 0} (view : X → List ℕ) (forms : List X) (i : ℕ) (left : List ℕ) where
  pub views_done : length forms ≤ i → IsBehindOne (IsOfOneForm (drop i (map view forms))) left None
  views_done past =
      let size : length (map view forms) ≤ i = let same = length-map forms view in omega (arith, same, past) in
      subst (λ (l : List (List ℕ)). IsBehindOne (IsOfOneForm l) left None) (sym (drop_all i (map view forms) size))
      (forms_none left)

  module _ (d : X) (within : i < length forms) where
    views_more : drop i (map view forms) ≡ view (get_or forms i d) ∷ drop (i + 1) (map view forms)
    views_more =
        drop-map view i forms ∙ ap (λ (l : List X). map view l) (drop_more forms i d within)
        ∙ ap (λ (l : List (List ℕ)). view (get_or forms i d) ∷ l) (sym (drop-map view (i + 1) forms))

    views_parts : are_forms (drop i (map view forms)) ≡ true → (is_form (view (get_or forms i d)) ≡ true)
        × (are_forms (drop (i + 1) (map view forms)) ≡ true)
    views_parts are =
        and_parts (is_form (view (get_or forms i d))) (are_forms (drop (i + 1) (map view forms)))
        (subst (λ (l : List (List ℕ)). are_forms l ≡ true) views_more are)

    pub view_form : are_forms (drop i (map view forms)) ≡ true → is_form (view (get_or forms i d)) ≡ true
    view_form are = (views_parts are).0

    pub views_forms : are_forms (drop i (map view forms)) ≡ true → are_forms (drop (i + 1) (map view forms)) ≡ true
    views_forms are = (views_parts are).1

    pub views_first : (rest : List ℕ) → IsBehindOne (IsOfForm (view (get_or forms i d))) left (Some rest)
        → IsBehindOne (IsOfOneForm (drop i (map view forms))) left (Some rest)
    views_first rest first =
        subst (λ (l : List (List ℕ)). IsBehindOne (IsOfOneForm l) left (Some rest)) (sym views_more)
        (forms_first (view (get_or forms i d)) (drop (i + 1) (map view forms)) left rest first)

    pub views_other : (found : Option (List ℕ)) → IsBehindOne (IsOfForm (view (get_or forms i d))) left None
        → IsBehindOne (IsOfOneForm (drop (i + 1) (map view forms))) left found
        → IsBehindOne (IsOfOneForm (drop i (map view forms))) left found
    views_other found none others =
        subst (λ (l : List (List ℕ)). IsBehindOne (IsOfOneForm l) left found) (sym views_more)
        (forms_other (view (get_or forms i d)) (drop (i + 1) (map view forms)) left found none others)
