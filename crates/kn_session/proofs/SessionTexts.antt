-- The live credentials of a version and the private assertions of a session together.
use Rattle.std.proofs.Common.{◌≡◌, ◌≢◌, ℕ, ◌+◌, ◌<◌, ◌≤◌, true, false, List, [], ◌∷◌, length, map, nat_eq, refl, sym}
use Rattle.std.proofs.Common.{ap, ◌∙◌, arith, eq-eqb}
use Rattle.std.specs.Prelude.{sum_by}
use Rattle.std.specs.List.{AllByRecursion, IsDistinct}
use Rattle.std.proofs.lemmas.List.Sums.{sum_by-append, sum_by-cons}
use Rattle.kn_base.specs.declared.limits.TheConstants.{PRIVATE_BYTES}
use Rattle.kn_proof.specs.declared.named.Id.{Id}
use Rattle.kn_proof.specs.declared.named.Id.TheVariants.{Shared, Private as Own}
use Rattle.kn_history.specs.History.{NumberedText, text_bytes}
use Rattle.kn_history.specs.Ids.{IdsAscend}
use Rattle.kn_session.specs.Views.{ids_of}
use Rattle.kn_session.specs.Laws.{all_texts, all_ids, AreDifferent, TextsAreShort, AllIdsDiffer, PrivatesAreRead}

sum-texts : (texts : List NumberedText) → sum_by length (map (λ (c : NumberedText). c.text) texts) ≡ text_bytes texts
sum-texts [] = refl
sum-texts (c ∷ texts) =
    sum_by-cons length c.text (map (λ (d : NumberedText). d.text) texts)
    ∙ ap (λ (n : ℕ). length c.text + n) (sum-texts texts)
    ∙ sym (sum_by-cons (λ (d : NumberedText). length d.text) c texts)

pub texts_are_short : TextsAreShort
texts_are_short live privates few own =
    let whole : sum_by length (all_texts live privates) ≡ sum_by length (map (λ (c : NumberedText). c.text) live)
    + sum_by length (map (λ (c : NumberedText). c.text) privates) =
    sum_by-append length (map (λ (c : NumberedText). c.text) live) (map (λ (c : NumberedText). c.text) privates) in
    let shared : sum_by length (map (λ (c : NumberedText). c.text) live) ≡ text_bytes live = sum-texts live in
    let private : sum_by length (map (λ (c : NumberedText). c.text) privates) ≡ text_bytes privates =
    sum-texts privates in
    let short : text_bytes privates ≤ PRIVATE_BYTES = own.short in
    omega arith

not_equal : (a b : ℕ) → nat_eq a b ≡ false → a ≢ b
not_equal a b h e = let equal : nat_eq a b ≡ true = eq-eqb a b e in absurd (cc)

apart_from_own : (k : ℕ) (privates : List NumberedText)
    → AllByRecursion (λ (y : Id). Shared k ≢ y) (map (λ (c : NumberedText). Own c.id) privates)
apart_from_own k [] = tt
apart_from_own k (c ∷ privates) = ((λ (e : Shared k ≡ Own c.id). absurd (cc)), apart_from_own k privates)

ascend_above : (low k : ℕ) (live : List NumberedText) → low < k → IdsAscend k live → IdsAscend low live
ascend_above low k [] below ids = tt
ascend_above low k (c ∷ live) below ids = let first : k < c.id = ids.0 in (omega arith, ids.1)

apart_from_all : (k : ℕ) (live privates : List NumberedText) → IdsAscend k live
    → AllByRecursion (λ (y : Id). Shared k ≢ y) (all_ids live privates)
apart_from_all k [] privates ids = apart_from_own k privates
apart_from_all k (c ∷ live) privates ids =
    let first : k < c.id = ids.0 in (
      (λ (e : Shared k ≡ Shared c.id). let same : k ≡ c.id = cc in absurd (omega arith)),
      apart_from_all k live privates (ascend_above k c.id live first ids.1),
    )

own_apart : (k : ℕ) (privates : List NumberedText) → AllByRecursion (λ j. nat_eq k j ≡ false) (ids_of privates)
    → AllByRecursion (λ (y : Id). Own k ≢ y) (map (λ (c : NumberedText). Own c.id) privates)
own_apart k [] others = tt
own_apart k (c ∷ privates) others = (
  (λ (e : Own k ≡ Own c.id). let same : k ≡ c.id = cc in not_equal k c.id others.0 same),
  own_apart k privates others.1,
)

own_differ : (privates : List NumberedText) → IsDistinct nat_eq (ids_of privates)
    → AreDifferent (map (λ (c : NumberedText). Own c.id) privates)
unfolding IsDistinct
own_differ [] different = tt
own_differ (c ∷ privates) different = (own_apart c.id privates different.0, own_differ privates different.1)

all_differ : (low : ℕ) (live privates : List NumberedText) → IdsAscend low live → IsDistinct nat_eq (ids_of privates)
    → AreDifferent (all_ids live privates)
all_differ low [] privates ids own = own_differ privates own
all_differ low (c ∷ live) privates ids own =
    (apart_from_all c.id live privates ids.1, all_differ c.id live privates ids.1 own)

pub ids_differ : AllIdsDiffer
ids_differ live privates ids own = all_differ 0 live privates ids own.different

pub privates_are_read : PrivatesAreRead
privates_are_read [] readings = refl
privates_are_read (p ∷ privates) readings = rw (readings.0, privates_are_read privates readings.1) refl
