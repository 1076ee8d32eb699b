-- The history that loading makes of texts.
use Rattle.std.proofs.Common.{◌≡◌, ℕ, ◌+◌, ◌&&◌, true, List, [], ◌∷◌, ◌++◌, length, refl, sym, ap, ◌∙◌, subst, arith}
use Rattle.std.proofs.Common.{append_assoc, append-nil, length-append, eq-eqb, Option, Some, None}
use Rattle.std.specs.Prelude.{◌==◌, ◌↔◌, is_none, is_some}
use Rattle.std.proofs.lemmas.Bool.{and_parts, and_from}
use Rattle.kn_assert.specs.Reading.{assertion_of}
use Rattle.kn_history.specs.declared.update.Change.TheVariants.{Add}
use Rattle.kn_history.specs.declared.update.Numbered.{Numbered}
use Rattle.kn_history.specs.History.{all_changes, additions, addition_by, may_follow, update_may_follow}
use Rattle.kn_history.specs.History.{updates_may_follow, is_valid_history, additions_by, loaded_history}
use Rattle.kn_history.specs.Loading.{refusal_behind, IsAddedBehind, IsLoadable}
use Rattle.kn_history.proofs.Loading.{loadable_nothing, loadable_more}
use Rattle.kn_history.proofs.Histories.{changes-push}
use Rattle.kn_history.proofs.Additions.{additions_by-push, additions-texts}

-- the addition of a text behind so many others
addition : ℕ → List ℕ → Numbered
addition n text = record { change = Add text; id = n + 1 }

loaded-push : (n : ℕ) (front : List (List ℕ)) (text : List ℕ)
    → all_changes (additions_by 0 n (front ++ text ∷ [])) ≡ all_changes (additions_by 0 n front)
    ++ addition (n + length front) text ∷ []
unfolding addition
loaded-push n front text = ap all_changes (additions_by-push 0 n front text)
    ∙ changes-push (additions_by 0 n front) (addition_by 0 text (n + length front + 1))

none_is : {X : Type 0} (o : Option X) → is_none o ≡ true → o ≡ None
none_is None h = refl
none_is (Some x) h = cc

past : List (List ℕ) → List Numbered
past front = all_changes (loaded_history front)

follows : (front : List (List ℕ)) (text : List ℕ) → IsAddedBehind front text
    → may_follow (past front) (addition (length front) text) ≡ true
unfolding addition past
follows front text added =
    let number : (length front + 1 == additions (all_changes (loaded_history front)) + 1) ≡ true =
    eq-eqb _ _ (ap (λ (k : ℕ). k + 1) (sym (additions-texts 0 0 front))) in
    rw (number, added.accepted, added.reads) refl

is_added : (front : List (List ℕ)) (text : List ℕ) → may_follow (past front) (addition (length front) text) ≡ true
    → IsAddedBehind front text
unfolding addition past
is_added front text h =
    let parts = and_parts (is_none (refusal_behind front text))
    ((length front + 1 == additions (all_changes (loaded_history front)) + 1) && is_some (assertion_of text)) h in
    record { reads = (and_parts _ _ parts.1).1; accepted = none_is (refusal_behind front text) parts.0 }

past-push : (front : List (List ℕ)) (text : List ℕ)
    → past front ++ addition (length front) text ∷ [] ≡ past (front ++ text ∷ [])
unfolding past
past-push front text = let zero_first : 0 + length front ≡ length front = omega arith in
    ap (λ (k : ℕ). all_changes (loaded_history front) ++ addition k text ∷ []) (sym zero_first)
    ∙ sym (loaded-push 0 front text)

follows_update : (front : List (List ℕ)) (text : List ℕ) → IsAddedBehind front text
    → update_may_follow (past front) (addition_by 0 text (length front + 1)) ≡ true
unfolding addition
follows_update front text added = rw (follows front text added) refl

all_follow : (front : List (List ℕ)) (text : List ℕ) (rest : List (List ℕ)) → IsAddedBehind front text →
    updates_may_follow (past (front ++ text ∷ [])) (additions_by 0 (length front + 1) rest) ≡ true →
    updates_may_follow (past front) (additions_by 0 (length front) (text ∷ rest)) ≡ true
unfolding addition
all_follow front text rest this more =
    and_from (update_may_follow (past front) (addition_by 0 text (length front + 1)))
    (updates_may_follow (past front ++ addition (length front) text ∷ []) (additions_by 0 (length front + 1) rest))
    (follows_update front text this)
    (subst (λ (l : List Numbered). updates_may_follow l (additions_by 0 (length front + 1) rest) ≡ true)
    (sym (past-push front text)) more)

-- what follows behind some texts
rest_follows : (front rest : List (List ℕ))
    → ((f : List (List ℕ)) (t : List ℕ) (r : List (List ℕ)) → rest ≡ f ++ t ∷ r → IsAddedBehind (front ++ f) t) →
    updates_may_follow (past front) (additions_by 0 (length front) rest) ≡ true
rest_follows front [] each = refl
rest_follows front (text ∷ rest) each =
    let this : IsAddedBehind front text =
    subst (λ (l : List (List ℕ)). IsAddedBehind l text) (append-nil front) (each [] text rest refl) in
    let longer : length front + 1 ≡ length (front ++ text ∷ []) = sym (length-append front (text ∷ [])) in
    let more = rest_follows (front ++ text ∷ []) rest
    (λ f t r e. subst (λ (l : List (List ℕ)). IsAddedBehind l t) (sym (append_assoc front (text ∷ []) f))
    (each (text ∷ f) t r (ap (λ (l : List (List ℕ)). text ∷ l) e))) in
    all_follow front text rest this
    (subst (λ (k : ℕ). updates_may_follow (past (front ++ text ∷ [])) (additions_by 0 k rest) ≡ true) (sym longer)
    more)

-- what follows behind some texts is added behind them
rest_is_loadable : (front rest : List (List ℕ)) → updates_may_follow (past front) (additions_by 0 (length front) rest)
    ≡ true → IsLoadable front → IsLoadable (front ++ rest)
unfolding addition
rest_is_loadable front [] h loadable = rw append-nil loadable
rest_is_loadable front (text ∷ rest) h loadable =
    let parts = and_parts (update_may_follow (past front) (addition_by 0 text (length front + 1)))
    (updates_may_follow (past front ++ addition (length front) text ∷ []) (additions_by 0 (length front + 1) rest))
    h in
    let this = and_parts (may_follow (past front) (addition (length front) text)) true
    (and_parts true (may_follow (past front) (addition (length front) text) && true) parts.0).1 in
    let more : updates_may_follow (past (front ++ text ∷ [])) (additions_by 0 (length front + 1) rest) ≡ true =
    subst (λ (l : List Numbered). updates_may_follow l (additions_by 0 (length front + 1) rest) ≡ true)
    (past-push front text) parts.1 in
    let longer : length front + 1 ≡ length (front ++ text ∷ []) = sym (length-append front (text ∷ [])) in
    let behind = subst (λ (k : ℕ). updates_may_follow (past (front ++ text ∷ [])) (additions_by 0 k rest) ≡ true) longer
    more in
    subst IsLoadable (append_assoc front (text ∷ []) rest)
    (rest_is_loadable (front ++ text ∷ []) rest behind
    (loadable_more front text loadable (is_added front text this.0)))

pub loadable_is_valid : (texts : List (List ℕ)) → IsLoadable texts ↔ (is_valid_history (loaded_history texts) ≡ true)
unfolding past
loadable_is_valid texts = (
  λ (h : IsLoadable texts). rest_follows [] texts (λ f t r e. h.each f t r e),
  λ (h : is_valid_history (loaded_history texts) ≡ true). rest_is_loadable [] texts h loadable_nothing,
)
