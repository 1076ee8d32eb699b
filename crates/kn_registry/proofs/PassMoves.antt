-- How the calls of a turn move a pass.
use Rattle.std.proofs.Common.{◌≡◌, ℕ, ◌+◌, ◌==◌, ◌⊎◌, ⊎_elim, inl, inr, Option, Some, None, List, [], ◌∷◌, ◌++◌, length}
use Rattle.std.proofs.Common.{true, refl, ap, sym, ◌∙◌, subst, append_assoc, append-nil, arith, length-append, All}
use Rattle.std.proofs.lemmas.List.Elements.{filter-append, All-nil, All-cons}
use mathlib.Core.List.{IsPrefix}
use Rattle.kn_history.specs.declared.update.Update.{Update}
use Rattle.kn_history.specs.declared.fault.StoreFault.{StoreFault}
use Rattle.kn_history.specs.declared.fault.StoreFault.TheVariants.{Unknown, LiveFull, BytesFull, HistoryFull, LogFull}
use Rattle.kn_history.specs.declared.fault.StoreFault.TheVariants.{NoMemory}
use Rattle.kn_history.specs.declared.fault.BatchFault.{BatchFault}
use Rattle.kn_history.specs.declared.fault.BatchFault.TheVariants as B
use Rattle.kn_history.specs.declared.item.Item.{Item}
use Rattle.kn_history.specs.Batches.{refusal_of_items, numbered_from, batch_by, RefusesBatch}
use Rattle.kn_history.specs.Retained.{retained_version}
use Rattle.kn_history.specs.History.{all_changes, additions, update_may_follow, updates_may_follow, refusal_of_text}
use Rattle.kn_history.specs.History.{refusal_of_id, addition_by, additions_by, removal_by, own_updates, IsFirstRefused}
use Rattle.kn_turn.specs.Passes.{after_take, after_look, after_append, after_append_all, after_confirm, after_give}
use Rattle.kn_registry.specs.declared.answer.Batched.{Batched}
use Rattle.kn_registry.specs.declared.answer.PinFault.{PinFault}
use Rattle.kn_registry.specs.declared.answer.PinFault.TheVariants as P
use Rattle.kn_registry.specs.Passes.{PassSeen, IsSoundPass, Moves, Looks, Stays, Commits, Adds, AddsAll, Removes}
use Rattle.kn_registry.specs.Passes.{Batches, IsRefused, Refuses, RefusesText, IsOneRefused, RefusesOne, RefusesId}
use Rattle.kn_registry.specs.Passes.{RefusesItems, RefusesVersion}

append_left : {A : Type 0} (xs ys zs : List A) → xs ++ ys ≡ xs ++ zs → ys ≡ zs
append_left [] ys zs e = e
append_left (x ∷ xs) ys zs e = append_left xs ys zs (cc e)

-- what is named in more of a list, where its beginning and the whole are known
pub named_more : (n : ℕ) (seen more mine own : List Update) → own_updates n seen ≡ mine
    → own_updates n (seen ++ more) ≡ mine ++ own → own_updates n more ≡ own
named_more n seen more mine own first whole =
    append_left mine (own_updates n more) own (sym (filter-append (λ (u : Update). u.caller == n) seen more
    ∙ ap (λ w. w ++ own_updates n more) first) ∙ whole)

-- nothing was seen, added or waited for
pub moves-nothing : (v : PassSeen) → Moves v v [] [] []
moves-nothing v = record {
  number = refl;
  seen = sym (append-nil v.seen);
  named = refl;
  mine = sym (append-nil v.mine);
  stops = sym (append-nil v.stops);
  splits = refl;
  ended = refl;
}

-- a pass moved, and then moved again
pub moves-more : (u v w : PassSeen) (a b p q : List Update) (s t : List ℕ) → Moves u v a p s → Moves v w b q t
    → Moves u w (a ++ b) (p ++ q) (s ++ t)
moves-more u v w a b p q s t m n = record {
  number = n.number ∙ m.number;
  seen = n.seen ∙ ap (λ x. x ++ b) m.seen ∙ append_assoc u.seen a b;
  named = filter-append (λ (x : Update). x.caller == u.number) a b ∙ ap (λ x. x ++ own_updates u.number b) m.named
      ∙ ap (λ x. p ++ x) (subst (λ (k : ℕ). own_updates k b ≡ q) m.number n.named);
  mine = n.mine ∙ ap (λ x. x ++ q) m.mine ∙ append_assoc u.mine p q;
  stops = n.stops ∙ ap (λ x. x ++ t) m.stops ∙ append_assoc u.stops s t;
  splits = n.splits ∙ m.splits;
  ended = n.ended ∙ m.ended;
}

-- a turn at which nothing was new
pub confirmed_looks : (v w : PassSeen) → w ≡ after_confirm v → Looks v w
confirmed_looks v w is = subst (Looks v) (sym is) record {
  more = [];
  moves = record {
    number = refl;
    seen = sym (append-nil v.seen);
    named = refl;
    mine = sym (append-nil v.mine);
    stops = refl;
    splits = refl;
    ended = refl;
  };
}

looks_once : (v : PassSeen) (log : List Update) → IsPrefix v.seen log → IsSoundPass v
    → IsSoundPass (after_look (after_take v log)) → Looks v (after_give (after_look (after_take v log)))
looks_once v log p sound sound' = record {
  more = p.0;
  moves = record {
    number = refl;
    seen = sym p.1;
    named = named_more v.number v.seen p.0 v.mine [] sound.own (ap (own_updates v.number) p.1
        ∙ (sound'.own ∙ sym (append-nil v.mine)));
    mine = sym (append-nil v.mine);
    stops = refl;
    splits = refl;
    ended = refl;
  };
}

-- a turn at which the pass looked
pub looks_of : (v w : PassSeen) (log : List Update) → w ≡ after_give (after_look (after_take v log))
    → IsPrefix v.seen log → IsSoundPass v → IsSoundPass w → Looks v w
looks_of v w log is p sound sound' = subst (Looks v) (sym is) (looks_once v log p sound (subst IsSoundPass is sound'))

-- a turn at which the pass looked, and from which the value wasn't given back
pub looks_held : (v w : PassSeen) → Looks v (after_give w) → Looks v w
looks_held v w l = record {
  more = l.more;
  moves = record {
    number = l.moves.number;
    seen = l.moves.seen;
    named = l.moves.named;
    mine = l.moves.mine;
    stops = l.moves.stops;
    splits = l.moves.splits;
    ended = l.moves.ended;
  };
}

pub stays_of : (v w : PassSeen) → Looks v w → Stays v w
stays_of v w l = record {
  more = l.more;
  entries = length w.seen ∷ [];
  few = omega arith;
  at = λ place e. sym (cc e);
  moves = l.moves;
}

-- a turn at which the pass added updates
appends_once : (v : PassSeen) (before updates : List Update) → (p : IsPrefix v.seen before) → IsSoundPass v
    → IsSoundPass (after_append_all (after_take v before) updates)
    → Moves v (after_give (after_append_all (after_take v before) updates)) (p.0 ++ updates) updates
    (length (before ++ updates) ∷ [])
appends_once v before updates p sound sound' =
    let seen : before ++ updates ≡ v.seen ++ (p.0 ++ updates) = ap (λ (l : List Update). l ++ updates) (sym p.1)
    ∙ append_assoc v.seen p.0 updates in record {
      number = refl;
      seen = seen;
      named = named_more v.number v.seen (p.0 ++ updates) v.mine updates sound.own (ap (own_updates v.number) (sym seen)
          ∙ sound'.own);
      mine = refl;
      stops = ap (λ (n : ℕ). v.stops ++ n ∷ []) (sym (length-append before updates));
      splits = refl;
      ended = refl;
    }

commits_once : (v : PassSeen) (before : List Update) (update : Update) (version : ℕ) → IsPrefix v.seen before
    → IsSoundPass v → IsSoundPass (after_append (after_take v before) update)
    → update_may_follow (all_changes before) update ≡ true → version ≡ length (before ++ update ∷ [])
    → Commits v (after_give (after_append (after_take v before) update)) update version
commits_once v before update version p sound sound' follows version_is = record {
  more = p.0 ++ update ∷ [];
  before = before;
  moves = appends_once v before (update ∷ []) p sound sound';
  ends = refl;
  follows = follows;
  at = version_is;
}

-- a turn at which the pass added an update
pub commits_of : (v w : PassSeen) (before : List Update) (update : Update) (version : ℕ)
    → w ≡ after_give (after_append (after_take v before) update) → IsPrefix v.seen before → IsSoundPass v
    → IsSoundPass w
    → update_may_follow (all_changes before) update ≡ true → version ≡ length (before ++ update ∷ [])
    → Commits v w update version
commits_of v w before update version is p sound sound' follows version_is =
    subst (λ (x : PassSeen). Commits v x update version) (sym is)
    (commits_once v before update version p sound (subst IsSoundPass is sound') follows version_is)

-- a turn at which the pass added a text
pub adds_of : (v w : PassSeen) (before : List Update) (number id id' version : ℕ) (text : List ℕ)
    → w ≡ after_give (after_append (after_take v before) (addition_by number text id)) → number ≡ v.number → id' ≡ id
    → IsPrefix v.seen before → IsSoundPass v → IsSoundPass w
    → update_may_follow (all_changes before) (addition_by number text id) ≡ true
    → version ≡ length (before ++ addition_by number text id ∷ []) → Adds v w text id' version
adds_of v w before number id id' version text is number_is id_is p sound sound' follows version_is =
    subst (λ (x : ℕ × ℕ). Commits v w (addition_by x.0 text x.1) version) (λ i. (number_is i, sym id_is i))
    (commits_of v w before (addition_by number text id) version is p sound sound' follows version_is)

batches_once : (v : PassSeen) (before : List Update) (items : List Item) (batched : Batched) → IsPrefix v.seen before
    → IsSoundPass v → IsSoundPass (after_append (after_take v before) (batch_by v.number batched.first items))
    → update_may_follow (all_changes before) (batch_by v.number batched.first items) ≡ true
    → batched.version ≡ length (before ++ batch_by v.number batched.first items ∷ [])
    → batched.first ≡ additions (all_changes before) + 1 → batched.added ≡ additions (numbered_from batched.first items)
    → Batches v (after_give (after_append (after_take v before) (batch_by v.number batched.first items))) items
    batched
unfolding commits_once
batches_once v before items batched p sound sound' follows version_is first_is added_is = record {
  commits = commits_once v before (batch_by v.number batched.first items) batched.version p sound sound' follows
      version_is;
  first = first_is;
  added = added_is;
}

-- a turn at which the pass made items one update
pub batches_of : (v w : PassSeen) (before : List Update) (number : ℕ) (items : List Item) (batched : Batched)
    → w ≡ after_give (after_append (after_take v before) (batch_by number batched.first items)) → number ≡ v.number
    → IsPrefix v.seen before → IsSoundPass v → IsSoundPass w
    → update_may_follow (all_changes before) (batch_by number batched.first items) ≡ true
    → batched.version ≡ length (before ++ batch_by number batched.first items ∷ [])
    → batched.first ≡ additions (all_changes before) + 1 → batched.added ≡ additions (numbered_from batched.first items)
    → Batches v w items batched
batches_of v w before number items batched is number_is p sound sound' follows version_is first_is added_is =
    let update = λ (n : ℕ). batch_by n batched.first items in
    let is' : w ≡ after_give (after_append (after_take v before) (update v.number)) = is
    ∙ ap (λ (n : ℕ). after_give (after_append (after_take v before) (update n))) number_is in
    subst (λ (x : PassSeen). Batches v x items batched) (sym is')
    (batches_once v before items batched p sound (subst IsSoundPass is' sound')
    (subst (λ (n : ℕ). update_may_follow (all_changes before) (update n) ≡ true) number_is follows)
    (subst (λ (n : ℕ). batched.version ≡ length (before ++ update n ∷ [])) number_is version_is) first_is added_is)

-- a turn at which the pass removed an id
pub removes_of : (v w : PassSeen) (before : List Update) (number id version : ℕ)
    → w ≡ after_give (after_append (after_take v before) (removal_by number id)) → number ≡ v.number
    → IsPrefix v.seen before → IsSoundPass v → IsSoundPass w
    → update_may_follow (all_changes before) (removal_by number id) ≡ true
    → version ≡ length (before ++ removal_by number id ∷ []) → Removes v w id version
removes_of v w before number id version is number_is p sound sound' follows version_is =
    subst (λ (n : ℕ). Commits v w (removal_by n id) version) number_is
    (commits_of v w before (removal_by number id) version is p sound sound' follows version_is)

-- each update that adds one of these texts names the caller
pub additions_name : (caller n : ℕ) (texts : List (List ℕ))
    → All (λ (u : Update). u.caller ≡ caller) (additions_by caller n texts)
additions_name caller n [] = All-nil (λ (u : Update). u.caller ≡ caller)
additions_name caller n (text ∷ texts) =
    All-cons (λ (u : Update). u.caller ≡ caller) (addition_by caller text (n + 1)) (additions_by caller (n + 1) texts)
    refl (additions_name caller (n + 1) texts)

adds_all_once : (v : PassSeen) (before : List Update) (texts : List (List ℕ)) → IsPrefix v.seen before → IsSoundPass v
    → IsSoundPass (after_append_all (after_take v before)
    (additions_by v.number (additions (all_changes before)) texts))
    → updates_may_follow (all_changes before) (additions_by v.number (additions (all_changes before)) texts) ≡ true
    → AddsAll v (after_give
    (after_append_all (after_take v before) (additions_by v.number (additions (all_changes before)) texts))) texts
adds_all_once v before texts p sound sound' follow =
    let updates : List Update = additions_by v.number (additions (all_changes before)) texts in record {
      more = p.0 ++ updates;
      before = before;
      moves = appends_once v before updates p sound sound';
      ends = refl;
      follow = follow;
    }

-- a turn at which the pass added texts
pub adds_all_of : (v w : PassSeen) (before : List Update) (number : ℕ) (texts : List (List ℕ))
    → w ≡ after_give
    (after_append_all (after_take v before) (additions_by number (additions (all_changes before)) texts))
    → number ≡ v.number
    → IsPrefix v.seen before → IsSoundPass v → IsSoundPass w
    → updates_may_follow (all_changes before) (additions_by number (additions (all_changes before)) texts) ≡ true
    → AddsAll v w texts
adds_all_of v w before number texts is number_is p sound sound' follow =
    let updates = λ (n : ℕ). additions_by n (additions (all_changes before)) texts in
    let is' : w ≡ after_give (after_append_all (after_take v before) (updates v.number)) = is
    ∙ ap (λ (n : ℕ). after_give (after_append_all (after_take v before) (updates n))) number_is in
    subst (λ (x : PassSeen). AddsAll v x texts) (sym is')
    (adds_all_once v before texts p sound (subst IsSoundPass is' sound')
    (subst (λ (n : ℕ). updates_may_follow (all_changes before) (updates n) ≡ true) number_is follow))

-- a turn at which a change was refused for what was found
refuses_for : (Found IsFor : StoreFault → Type 0) (v w : PassSeen) (fault : StoreFault) → Looks v w
    → ((f : StoreFault) → Found f → IsFor f) → (fault ≡ NoMemory) ⊎ Found fault → Refuses IsFor v w fault
refuses_for Found IsFor v w (Unknown id) l is_for why =
    ⊎_elim (λ (e : Unknown id ≡ NoMemory). absurd (cc e)) (is_for (Unknown id)) why
refuses_for Found IsFor v w (LiveFull count) l is_for why =
    ⊎_elim (λ (e : LiveFull count ≡ NoMemory). absurd (cc e)) (is_for (LiveFull count)) why
refuses_for Found IsFor v w (BytesFull bytes) l is_for why =
    ⊎_elim (λ (e : BytesFull bytes ≡ NoMemory). absurd (cc e)) (is_for (BytesFull bytes)) why
refuses_for Found IsFor v w (HistoryFull updates) l is_for why =
    ⊎_elim (λ (e : HistoryFull updates ≡ NoMemory). absurd (cc e)) (is_for (HistoryFull updates)) why
refuses_for Found IsFor v w (LogFull bytes) l is_for why =
    ⊎_elim (λ (e : LogFull bytes ≡ NoMemory). absurd (cc e)) (is_for (LogFull bytes)) why
refuses_for Found IsFor v w NoMemory l is_for why = stays_of v w l

-- a turn at which a text was refused
pub refuses_text : (v w : PassSeen) (text : List ℕ) (fault : StoreFault) → Looks v w → (fault ≡ NoMemory)
    ⊎ (refusal_of_text (all_changes w.seen) text ≡ Some fault) → RefusesText v w text fault
refuses_text v w text fault l why =
    let refusal : Option StoreFault = refusal_of_text (all_changes w.seen) text in
    refuses_for (λ f. refusal ≡ Some f) (λ f. IsRefused refusal f v w) v w fault l
    (λ f found. record { refusal_is = found; looks = l }) why

-- a turn at which a removal was refused
pub refuses_id : (v w : PassSeen) (id : ℕ) (fault : StoreFault) → Looks v w → (fault ≡ NoMemory)
    ⊎ (refusal_of_id (all_changes w.seen) id ≡ Some fault) → RefusesId v w id fault
refuses_id v w id fault l why =
    let refusal : Option StoreFault = refusal_of_id (all_changes w.seen) id in
    refuses_for (λ f. refusal ≡ Some f) (λ f. IsRefused refusal f v w) v w fault l
    (λ f found. record { refusal_is = found; looks = l }) why

-- a turn at which one of many texts was refused
pub refuses_one : (v w : PassSeen) (texts : List (List ℕ)) (place : ℕ) (fault : StoreFault) → Looks v w
    → (fault ≡ NoMemory) ⊎ IsFirstRefused w.seen v.number texts place fault → RefusesOne v w texts place fault
refuses_one v w texts place fault l why =
    refuses_for (λ f. IsFirstRefused w.seen v.number texts place f) (λ f. IsOneRefused v w texts place f) v w fault l
    (λ f found. record { first = found; looks = l }) why

-- a turn at which an item was refused
pub refuses_items : (v w : PassSeen) (items : List Item) (fault : BatchFault) → Looks v w
    → RefusesBatch (refusal_of_items (all_changes w.seen) items) fault → RefusesItems v w items fault
refuses_items v w items (B.Item number fault) l found = record { refusal_is = found; looks = l }
refuses_items v w items B.NoMemory l found = stays_of v w l

-- a turn at which no version was given
pub refuses_version : (v w : PassSeen) (number : ℕ) (fault : PinFault) → Looks v w → (fault ≡ P.NoMemory)
    ⊎ ((fault ≡ P.Missing (length w.seen)) × (retained_version w.seen number ≡ None)) → RefusesVersion v w number fault
refuses_version v w number (P.Missing newest) l (inl e) = absurd (cc e)
refuses_version v w number (P.Missing newest) l (inr found) =
    record { missing = found.1; newest_is = cc found.0; looks = l }
refuses_version v w number P.NoMemory l why = stays_of v w l
