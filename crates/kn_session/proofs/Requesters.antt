-- Requesters of a session: what holds with one more, and without one.
use Rattle.std.proofs.Common.{◌≡◌, ◌≢◌, ℕ, ◌+◌, ◌≤◌, ◌<◌, Bool, true, false, not, ◌&&◌, ◌||◌, zero, suc, List, [], ◌∷◌}
use Rattle.std.proofs.Common.{◌++◌, length, map, refl, sym, ap, ◌∙◌, ⊎_elim, arith}
use Rattle.std.specs.Prelude.{nat_le}
use Rattle.std.specs.List.{list_any, before_first, after_first, AllByRecursion, IsDistinct, remove}
use Rattle.std.specs.Str.{bytes_eq}
use Rattle.std.proofs.lemmas.Bool.{cases_Bool, leb-true, and_parts}
use Rattle.std.proofs.lemmas.List.Folds.{list_any-append}
use Rattle.std.proofs.lemmas.List.Edits.{length-remove}
use Rattle.std.proofs.lemmas.Slice.Eq.{bytes_eq-Decides}
use Rattle.kn_base.specs.declared.limits.TheConstants.{PRINCIPAL_BYTES, REQUESTERS}
use Rattle.kn_principal.specs.Principals.{policy, normal_form, normal_rest, lower_case, is_colon}
use Rattle.kn_principal.proofs.NormalForms.{form_twice}
use Rattle.kn_env.specs.Environment.{IsPrincipalSize, AreRequesters}
use Rattle.kn_env.proofs.Requesters.{AllByRecursion-push, AreRequesters-push}
use Rattle.kn_assert.proofs.Answered.{normal_length}
use Rattle.kn_session.specs.Calls.{is_principal, is_named}
use Rattle.kn_session.specs.Views.{AreNormalForms}
use Rattle.kn_session.proofs.OnePlace.{AtMostOne, or_left, or_right}
use Rattle.kn_session.proofs.Closing.{AllByRecursion-remove, IsDistinct-push, IsDistinct-remove}

or_true : (b : Bool) → (b || true) ≡ true
or_true true = refl
or_true false = refl

not_both : (b d : Bool) → not b ≡ true → b ≡ d → d ≡ false
not_both true d h e = cc
not_both false d h e = sym e

differs : (x y : List ℕ) → x ≢ y → bytes_eq x y ≡ false
differs x y h = ⊎_elim (λ (e : bytes_eq x y ≡ true). absurd (h ((bytes_eq-Decides x y).0 e)))
    (λ (e : bytes_eq x y ≡ false). e) (cases_Bool (bytes_eq x y))

same_way : (x y : List ℕ) → bytes_eq x y ≡ false → bytes_eq y x ≡ false
same_way x y h = differs y x (λ (e : y ≡ x). let equal : bytes_eq x y ≡ true = (bytes_eq-Decides x y).1 (sym e) in
    absurd (cc))

-- a principal with a colon keeps it in its normal form, so the policy's is that of no other text
pub policy_is_normal : (name : List ℕ) → normal_form name ≡ policy → name ≡ policy
policy_is_normal name same =
    ⊎_elim
    (λ (e : list_any is_colon name ≡ true).
    let algorithm = map lower_case (before_first is_colon name) in
    let rest = normal_rest algorithm (after_first is_colon name) in
    let form : normal_form name ≡ algorithm ++ 58 ∷ rest = rw e refl in
    let some : list_any is_colon (algorithm ++ 58 ∷ rest) ≡ true = list_any-append is_colon algorithm (58 ∷ rest)
    ∙ or_true (list_any is_colon algorithm) in
    let wrong : true ≡ false = sym some ∙ ap (list_any is_colon) (sym form ∙ same) in
    absurd (cc))
    (λ (e : list_any is_colon name ≡ false). let form : normal_form name ≡ name = rw e refl in sym form ∙ same)
    (cases_Bool (list_any is_colon name))

-- a text that may name a requester is as long as a principal may be
pub principal_size : (text : List ℕ) → is_principal text ≡ true → IsPrincipalSize text
principal_size text right =
    let both = and_parts (nat_le 1 (length text)) (nat_le (length text) PRINCIPAL_BYTES)
    (and_parts (nat_le 1 (length text) && nat_le (length text) PRINCIPAL_BYTES) (not (bytes_eq text policy))
    right).0 in
    record { some = leb-true 1 (length text) both.0; short = leb-true (length text) PRINCIPAL_BYTES both.1 }

-- and so is its normal form
form_size : (text : List ℕ) → is_principal text ≡ true → IsPrincipalSize (normal_form text)
form_size text right =
    let size : IsPrincipalSize text = principal_size text right in
    record {
      some = omega (arith, normal_length text, size.some);
      short =
          omega (arith, normal_length text, size.short);
    }

-- and it names another than the policy
pub names_another : (text : List ℕ) → is_principal text ≡ true → bytes_eq policy (normal_form text) ≡ false
names_another text right =
    let other : not (bytes_eq text policy) ≡ true =
    (and_parts (nat_le 1 (length text) && nat_le (length text) PRINCIPAL_BYTES) (not (bytes_eq text policy))
    right).1 in
    differs policy (normal_form text) (λ (same : policy ≡ normal_form text).
    let equal : bytes_eq text policy ≡ true = (bytes_eq-Decides text policy).1 (policy_is_normal text (sym same)) in
    let wrong : true ≡ false = not_both (bytes_eq text policy) true other equal in
    absurd (cc))

-- one more requester, where there is room
pub requesters_more : (requesters : List (List ℕ)) (text : List ℕ) → AreRequesters requesters → is_principal text ≡ true
    → length requesters < REQUESTERS
    → AreRequesters (requesters ++ normal_form text ∷ [])
requesters_more requesters text before right room =
    AreRequesters-push requesters (normal_form text) before room (form_size text right) (names_another text right)

others_named : (name : List ℕ) (requesters : List (List ℕ)) → list_any (bytes_eq name) requesters ≡ false
    → AllByRecursion (λ r. bytes_eq r name ≡ false) requesters
others_named name [] none = tt
others_named name (r ∷ requesters) none = (
  same_way name r (or_left (bytes_eq name r) (list_any (bytes_eq name) requesters) none),
  others_named name requesters (or_right (bytes_eq name r) (list_any (bytes_eq name) requesters) none),
)

-- one more normal form that isn't there
pub forms_more : (requesters : List (List ℕ)) (text : List ℕ) → AreNormalForms requesters
    → is_named requesters text ≡ false → AreNormalForms (requesters ++ normal_form text ∷ [])
forms_more requesters text before absent = record {
  normal = AllByRecursion-push (λ r. normal_form r ≡ r) requesters (normal_form text) before.normal (form_twice text);
  different = IsDistinct-push bytes_eq requesters (normal_form text) (others_named (normal_form text) requesters absent)
      before.different;
}

none-remove : (p : List ℕ → Bool) (xs : List (List ℕ)) (i : ℕ) → list_any p xs ≡ false
    → list_any p (remove xs i) ≡ false
none-remove p [] zero none = refl
none-remove p [] (suc i) none = refl
none-remove p (x ∷ xs) zero none = or_right (p x) (list_any p xs) none
none-remove p (x ∷ xs) (suc i) none =
    let no : p x ≡ false = or_left (p x) (list_any p xs) none in
    rw no (none-remove p xs i (or_right (p x) (list_any p xs) none))

-- one requester less
pub requesters_fewer : (requesters : List (List ℕ)) (i : ℕ) → i < length requesters → AreRequesters requesters
    → AreRequesters (remove requesters i)
requesters_fewer requesters i within before =
    let shorter : length (remove requesters i) + 1 ≡ length requesters = length-remove requesters i within in
    let few : length requesters ≤ REQUESTERS = before.few in
    record {
      few = omega arith;
      sizes = AllByRecursion-remove IsPrincipalSize requesters i before.sizes;
      others = none-remove (bytes_eq policy) requesters i before.others;
    }

pub forms_fewer : (requesters : List (List ℕ)) (i : ℕ) → AreNormalForms requesters
    → AreNormalForms (remove requesters i)
forms_fewer requesters i before = record {
  normal = AllByRecursion-remove (λ r. normal_form r ≡ r) requesters i before.normal;
  different = IsDistinct-remove bytes_eq requesters i before.different;
}

absent_there : (name r : List ℕ) (requesters : List (List ℕ)) → name ≡ r
    → AllByRecursion (λ y. bytes_eq r y ≡ false) requesters → list_any (bytes_eq name) requesters ≡ false
absent_there name r [] e all = refl
absent_there name r (y ∷ requesters) e all =
    let no : bytes_eq name y ≡ false = ap (λ (x : List ℕ). bytes_eq x y) e ∙ all.0 in
    rw no (absent_there name r requesters e all.1)

-- where no two are equal, at most one is a given name
pub one_name : (name : List ℕ) (requesters : List (List ℕ)) → IsDistinct bytes_eq requesters
    → AtMostOne (bytes_eq name) requesters
unfolding AtMostOne IsDistinct
one_name name [] different = tt
one_name name (r ∷ requesters) different = (
  λ e. absent_there name r requesters ((bytes_eq-Decides name r).0 e) different.0,
  one_name name requesters different.1,
)
