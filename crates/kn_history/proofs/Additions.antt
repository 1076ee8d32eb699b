-- Updates that add texts one after the other.
use Rattle.std.proofs.Common.{◌≡◌, ℕ, ◌+◌, ◌-◌, true, List, [], ◌∷◌, ◌++◌, length, refl, sym, ap, ◌∙◌, subst, arith}
use Rattle.std.proofs.Common.{append_assoc, append-nil, length-append, Some}
use Rattle.std.proofs.lemmas.List.Concat.{flat_map-append}
use Rattle.std.proofs.lemmas.List.Sums.{sum_by-append, sum_by-cons}
use Rattle.kn_history.specs.declared.update.Change.TheVariants.{Add}
use Rattle.kn_history.specs.declared.update.Numbered.{Numbered}
use Rattle.kn_history.specs.declared.update.Update.{Update}
use Rattle.kn_history.specs.declared.fault.StoreFault.{StoreFault}
use Rattle.kn_history.specs.History.{all_changes, additions, added_count, addition_by, additions_by, update_may_follow}
use Rattle.kn_history.specs.History.{updates_may_follow, refusal_of_text, IsFirstRefused}
use Rattle.kn_history.proofs.Histories.{updates-push}

pub additions_by-push : (caller n : ℕ) (front : List (List ℕ)) (text : List ℕ)
    → additions_by caller n (front ++ text ∷ []) ≡ additions_by caller n front
    ++ addition_by caller text (n + length front + 1) ∷ []
additions_by-push caller n [] text = ap (λ (k : ℕ). addition_by caller text (k + 1) ∷ []) (omega arith)
additions_by-push caller n (x ∷ front) text =
    let same : n + 1 + length front ≡ n + length (x ∷ front) = omega arith in
    ap (λ (l : List Update). addition_by caller x (n + 1) ∷ l)
    (additions_by-push caller (n + 1) front text
    ∙ ap (λ (k : ℕ). additions_by caller (n + 1) front ++ addition_by caller text (k + 1) ∷ []) same)

pub additions-texts : (caller n : ℕ) (texts : List (List ℕ))
    → additions (all_changes (additions_by caller n texts)) ≡ length texts
additions-texts caller n [] = refl
additions-texts caller n (text ∷ texts) =
    let more : additions (all_changes (additions_by caller (n + 1) texts)) ≡ length texts =
    additions-texts caller (n + 1) texts in
    sum_by-cons (λ (c : Numbered). added_count c.change) (record { change = Add text; id = n + 1 })
    (all_changes (additions_by caller (n + 1) texts))
    ∙ ap (λ (k : ℕ). 1 + k) more ∙ omega arith

pub additions_by-length : (caller n : ℕ) (texts : List (List ℕ)) → length (additions_by caller n texts) ≡ length texts
additions_by-length caller n [] = refl
additions_by-length caller n (text ∷ texts) =
    let more = additions_by-length caller (n + 1) texts in
    omega arith

-- Some of the texts were added behind a history, and the others are left.
pub record AreAddedUpTo (past : List Update) (caller : ℕ) (texts : List (List ℕ)) (made : List Update)
    (left : List (List ℕ)) : Type 0 where
  pub front : List (List ℕ)
  pub cut : texts ≡ front ++ left
  pub made_is : made ≡ past ++ additions_by caller (additions (all_changes past)) front
  pub follow : updates_may_follow (all_changes past) (additions_by caller (additions (all_changes past)) front) ≡ true

-- each of them by an update
pub made_count : (past : List Update) (caller : ℕ) (texts : List (List ℕ)) (made : List Update) (left : List (List ℕ))
    → (so_far : AreAddedUpTo past caller texts made left)
    → length made ≡ length past + length so_far.front
made_count past caller texts made left so_far =
    let n = additions (all_changes past) in
    ap length so_far.made_is ∙ length-append past (additions_by caller n so_far.front)
    ∙ ap (λ (k : ℕ). length past + k) (additions_by-length caller n so_far.front)

module _ (past : List Update) (caller : ℕ) (texts : List (List ℕ)) (made : List Update) (left rest : List (List ℕ))
    (text : List ℕ)
    (so_far : AreAddedUpTo past caller texts made left) (taken : left ≡ text ∷ rest) where
  cut_here : texts ≡ so_far.front ++ text ∷ rest
  cut_here = so_far.cut ∙ ap (λ (l : List (List ℕ)). so_far.front ++ l) taken

  changes_are : all_changes made ≡ all_changes past
      ++ all_changes (additions_by caller (additions (all_changes past)) so_far.front)
  changes_are = ap all_changes so_far.made_is
      ∙ flat_map-append (λ (u : Update). u.changes) past
      (additions_by caller (additions (all_changes past)) so_far.front)

  number_is : additions (all_changes made) ≡ additions (all_changes past) + length so_far.front
  number_is =
      ap additions changes_are
      ∙ sum_by-append (λ (c : Numbered). added_count c.change) (all_changes past)
      (all_changes (additions_by caller (additions (all_changes past)) so_far.front))
      ∙ ap (λ (k : ℕ). additions (all_changes past) + k)
      (additions-texts caller (additions (all_changes past)) so_far.front)

  pub one_more_added : (longer : List Update) (id : ℕ) → id ≡ additions (all_changes made) + 1
      → longer ≡ made ++ addition_by caller text id ∷ []
      → update_may_follow (all_changes made) (addition_by caller text id) ≡ true
      → AreAddedUpTo past caller texts longer rest
  one_more_added longer id next is follows =
      let n = additions (all_changes past) in
      let number : id ≡ n + length so_far.front + 1 = next ∙ ap (λ (k : ℕ). k + 1) number_is in
      let grown : additions_by caller n so_far.front ++ addition_by caller text id ∷ []
      ≡ additions_by caller n (so_far.front ++ text ∷ []) =
      ap (λ (k : ℕ). additions_by caller n so_far.front ++ addition_by caller text k ∷ []) number
      ∙ sym (additions_by-push caller n so_far.front text) in
      record {
        front = so_far.front ++ text ∷ [];
        cut = cut_here ∙ sym (append_assoc so_far.front (text ∷ []) rest);
        made_is =
            is ∙ ap (λ (l : List Update). l ++ addition_by caller text id ∷ []) so_far.made_is
            ∙ append_assoc past (additions_by caller n so_far.front) (addition_by caller text id ∷ [])
            ∙ ap (λ (l : List Update). past ++ l) grown;
        follow = subst (λ (l : List Update). updates_may_follow (all_changes past) l ≡ true) grown
            (updates-push (all_changes past) (additions_by caller n so_far.front) (addition_by caller text id)
            so_far.follow
            (subst (λ (l : List Numbered). update_may_follow l (addition_by caller text id) ≡ true) changes_are
            follows));
      }

  pub refused_here : (place : ℕ) (fault : StoreFault) → place ≡ length made - length past
      → refusal_of_text (all_changes made) text ≡ Some fault
      → IsFirstRefused past caller texts place fault
  refused_here place fault at refused =
      record {
        front = so_far.front;
        text = text;
        rest = rest;
        cut = cut_here;
        place_is = let count = made_count past caller texts made left so_far in omega (arith, count, at);
        follow = so_far.follow;
        refused = subst (λ (l : List Update). refusal_of_text (all_changes l) text ≡ Some fault) so_far.made_is refused;
      }

-- all of them were added
module _ (past : List Update) (caller : ℕ) (texts : List (List ℕ)) (made : List Update) (left : List (List ℕ))
    (so_far : AreAddedUpTo past caller texts made left) (none : left ≡ []) where
  all_front : so_far.front ≡ texts
  all_front = sym (so_far.cut ∙ ap (λ (l : List (List ℕ)). so_far.front ++ l) none ∙ append-nil so_far.front)

  pub all_made : made ≡ past ++ additions_by caller (additions (all_changes past)) texts
  all_made = subst (λ (l : List (List ℕ)). made ≡ past ++ additions_by caller (additions (all_changes past)) l)
      all_front so_far.made_is

  pub all_follow : updates_may_follow (all_changes past) (additions_by caller (additions (all_changes past)) texts)
      ≡ true
  all_follow = subst (λ (l : List (List ℕ)). updates_may_follow (all_changes past)
      (additions_by caller (additions (all_changes past)) l) ≡ true) all_front so_far.follow
