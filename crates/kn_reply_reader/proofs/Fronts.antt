-- Texts at the front of bytes, one behind the other.
use Rattle.std.proofs.Common.{◌≡◌, ◌≢◌, ◌⊎◌, ℕ, zero, suc, ◌+◌, ◌-◌, ◌<◌, ◌≤◌, List, [], ◌∷◌, ◌++◌, length, Option}
use Rattle.std.proofs.Common.{Some, None, refl, sym, ap, ◌∙◌, arith, subst, inl, inr, append_assoc, flat_map}
use Rattle.std.specs.List.{All}
use Rattle.std.proofs.lemmas.List.{append_cancel_left}
use Rattle.std.proofs.lemmas.List.Elements.{All-nil, All-cons, All-head, All-tail}
use Rattle.kn_reply_reader.specs.Fronts.{IsBehindOne, AreApart, TextOf, Items}

-- the same texts, said in another way
pub behind_same : (Is Are : List ℕ → Type 0) (left : List ℕ) (found : Option (List ℕ))
    → ((text : List ℕ) → Is text → Are text)
    → ((text : List ℕ) → Are text → Is text) → IsBehindOne Is left found → IsBehindOne Are left found
behind_same Is Are left None to from none = λ text rest is. none text rest (from text is)
behind_same Is Are left (Some rest) to from cut = (cut.0, to cut.0 cut.1, cut.2)

pub apart_same : (Is Are : List ℕ → Type 0) → ((text : List ℕ) → Are text → Is text) → AreApart Is → AreApart Are
apart_same Is Are from apart a b r s is is' e = apart a b r s (from a is) (from b is') e

-- texts of two kinds, one behind the other
abbrev pub Then : (List ℕ → Type 0) → (List ℕ → Type 0) → List ℕ → Type 0
Then A B text = (a b : List ℕ) × A a × B b × (text ≡ a ++ b)

pub then_none : (A B : List ℕ → Type 0) (left : List ℕ) → IsBehindOne A left None → IsBehindOne (Then A B) left None
then_none A B left none text rest is e =
    none is.0 (is.1 ++ rest) is.2 (e ∙ ap (λ (l : List ℕ). l ++ rest) is.4 ∙ append_assoc is.0 is.1 rest)

pub then_some : (A B : List ℕ → Type 0) (left rest : List ℕ) (found : Option (List ℕ)) → AreApart A
    → IsBehindOne A left (Some rest)
    → IsBehindOne B rest found → IsBehindOne (Then A B) left found
then_some A B left rest None apart first none = λ text more is e.
    let same = apart first.0 is.0 rest (is.1 ++ more) first.1 is.2
    (sym first.2 ∙ e ∙ ap (λ (l : List ℕ). l ++ more) is.4 ∙ append_assoc is.0 is.1 more) in
    none is.1 more is.3 same.1
then_some A B left rest (Some more) apart first second = (
  first.0 ++ second.0,
  (first.0, second.0, first.1, second.1, refl),
  first.2 ∙ ap (λ (l : List ℕ). first.0 ++ l) second.2 ∙ sym (append_assoc first.0 second.0 more),
)

pub then_apart : (A B : List ℕ → Type 0) → AreApart A → AreApart B → AreApart (Then A B)
then_apart A B one two a b r s is is' e =
    let first = one is.0 is'.0 (is.1 ++ r) (is'.1 ++ s) is.2 is'.2
    (sym (append_assoc is.0 is.1 r) ∙ ap (λ (l : List ℕ). l ++ r) (sym is.4) ∙ e ∙ ap (λ (l : List ℕ). l ++ s) is'.4
    ∙ append_assoc is'.0 is'.1 s) in
    let second = two is.1 is'.1 r s is.3 is'.3 first.1 in
    (is.4 ∙ ap (λ (l : List ℕ). l ++ is.1) first.0 ∙ ap (λ (l : List ℕ). is'.0 ++ l) second.0 ∙ sym is'.4, second.1)

-- one text
abbrev pub Just : List ℕ → List ℕ → Type 0
Just whole text = text ≡ whole

pub just_apart : (whole : List ℕ) → AreApart (Just whole)
just_apart whole a b r s is is' e = (
  is ∙ sym is',
  append_cancel_left whole r s (ap (λ (l : List ℕ). l ++ r) (sym is) ∙ e
      ∙ ap (λ (l : List ℕ). l ++ s) is'),
)

pub just_none : (whole left : List ℕ) → ((rest : List ℕ) → left ≢ whole ++ rest) → IsBehindOne (Just whole) left None
just_none whole left none text rest is e = none rest (e ∙ ap (λ (l : List ℕ). l ++ rest) is)

pub just_some : (whole left rest : List ℕ) → left ≡ whole ++ rest → IsBehindOne (Just whole) left (Some rest)
just_some whole left rest cut = (whole, refl, cut)

-- texts of one kind or of another
abbrev pub Or : (List ℕ → Type 0) → (List ℕ → Type 0) → List ℕ → Type 0
Or A B text = A text ⊎ B text

pub or_first : (A B : List ℕ → Type 0) (left rest : List ℕ) → IsBehindOne A left (Some rest)
    → IsBehindOne (Or A B) left (Some rest)
or_first A B left rest first = (first.0, inl first.1, first.2)

pub or_second : (A B : List ℕ → Type 0) (left : List ℕ) (found : Option (List ℕ)) → IsBehindOne A left None
    → IsBehindOne B left found → IsBehindOne (Or A B) left found
or_second A B left None none other =
    λ text rest is e. elim is [ inl is ↦ none text rest is e | inr is ↦ other text rest is e ]
or_second A B left (Some rest) none second = (second.0, inr second.1, second.2)

-- so many texts of a kind
abbrev pub Many : (List ℕ → Type 0) → ℕ → List ℕ → Type 0
Many A zero text = text ≡ []
Many A (suc n) text = Then A (Many A n) text

pub many_apart : (A : List ℕ → Type 0) → AreApart A → (n : ℕ) → AreApart (Many A n)
many_apart A apart zero = just_apart []
many_apart A apart (suc n) = then_apart A (Many A n) apart (many_apart A apart n)

pub many_done : (A : List ℕ → Type 0) (count i : ℕ) (left : List ℕ) → count ≤ i
    → IsBehindOne (Many A (count - i)) left (Some left)
many_done A count i left past =
    let none : count - i ≡ 0 = omega (arith, past) in
    rw none ([], refl, refl)

pub many_more : (A : List ℕ → Type 0) (count i : ℕ) (left rest : List ℕ) (found : Option (List ℕ)) → AreApart A
    → i < count
    → IsBehindOne A left (Some rest) → IsBehindOne (Many A (count - (i + 1))) rest found
    → IsBehindOne (Many A (count - i)) left found
many_more A count i left rest found apart within first others =
    let some : count - i ≡ suc (count - (i + 1)) = omega (arith, within) in
    rw some (then_some A (Many A (count - (i + 1))) left rest found apart first others)

pub many_none : (A : List ℕ → Type 0) (count i : ℕ) (left : List ℕ) → i < count → IsBehindOne A left None
    → IsBehindOne (Many A (count - i)) left None
many_none A count i left within none =
    let some : count - i ≡ suc (count - (i + 1)) = omega (arith, within) in
    rw some (then_none A (Many A (count - (i + 1))) left none)

module _ {X : Type 0} (P : X → Type 0) (text_of : X → List ℕ) where
  pub items_from : (count : ℕ) (text : List ℕ) → Many (TextOf P text_of) count text → Items P text_of count text
  items_from zero text is = ([], refl, All-nil P, is)
  items_from (suc n) text is =
      let rest = items_from n is.1 is.3 in
      let size : length rest.0 ≡ n = rest.1 in (
        is.2.0 ∷ rest.0,
        omega (arith, size),
        All-cons P is.2.0 rest.0 is.2.1 rest.2,
        is.4 ∙ ap (λ (l : List ℕ). l ++ is.1) is.2.2 ∙ ap (λ (l : List ℕ). text_of is.2.0 ++ l) rest.3,
      )

  many_from : (count : ℕ) (text : List ℕ) (xs : List X) → length xs ≡ count → All P xs → text ≡ flat_map text_of xs
      → Many (TextOf P text_of) count text
  many_from zero text [] size each spelled = spelled
  many_from zero text (x ∷ xs) size each spelled = absurd (omega (arith, size))
  many_from (suc n) text [] size each spelled = absurd (omega (arith, size))
  many_from (suc n) text (x ∷ xs) size each spelled = (
    text_of x,
    flat_map text_of xs,
    (x, All-head P x xs each, refl),
    many_from n (flat_map text_of xs) xs (omega (arith, size)) (All-tail P x xs each) refl,
    spelled,
  )

  pub from_items : (count : ℕ) (text : List ℕ) → Items P text_of count text → Many (TextOf P text_of) count text
  from_items count text is = many_from count text is.0 is.1 is.2 is.3

  -- the items of a loop
  pub items_init : (count : ℕ) (left : List ℕ) (found : Option (List ℕ))
      → IsBehindOne (Many (TextOf P text_of) (count - 0)) left found
      → IsBehindOne (Items P text_of count) left found
  items_init count left found is =
      let all : count - 0 ≡ count = omega arith in
      behind_same (Many (TextOf P text_of) count) (Items P text_of count) left found (items_from count)
      (from_items count)
      (subst (λ (n : ℕ). IsBehindOne (Many (TextOf P text_of) n) left found) all is)

  pub items_apart : (count : ℕ) → AreApart (TextOf P text_of) → AreApart (Items P text_of count)
  items_apart count apart =
      apart_same (Many (TextOf P text_of) count) (Items P text_of count) (from_items count)
      (many_apart (TextOf P text_of) apart count)
