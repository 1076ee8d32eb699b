-- One more live credential, and one fewer, in what is kept of them.
use Rattle.std.proofs.Common.{◌≡◌, ℕ, ◌+◌, ◌-◌, ◌<◌, ◌≤◌, ◌==◌, Bool, true, false, not, cond, List, [], ◌∷◌, ◌++◌}
use Rattle.std.proofs.Common.{length, filter, refl, sym, ap, ◌∙◌, subst, arith, length-append}
use Rattle.std.specs.Prelude.{Option, Some, None}
use Rattle.std.specs.List.{list_any, All}
use Rattle.std.proofs.lemmas.Bool.{ltb-false, leb-false, lt-leb, le-leb, eq-eqb, or_right, or_left}
use Rattle.std.proofs.lemmas.List.Elements.{All-head, All-tail, All-cons, All-nil, All-append, All-push, All-weaker}
use Rattle.std.proofs.lemmas.List.Folds.{list_any-append}
use Rattle.std.proofs.lemmas.List.Sums.{sum_by-append, sum_by-cons, sum_by_push}
use Rattle.kn_base.specs.declared.limits.TheConstants.{LIVE_CREDENTIALS, LIVE_BYTES, UPDATES, LOGGED_BYTES}
use Rattle.kn_history.specs.declared.fault.StoreFault.{StoreFault}
use Rattle.kn_history.specs.declared.fault.StoreFault.TheVariants.{Unknown, HistoryFull}
use Rattle.kn_store.specs.declared.live_set.TheConstants.{CREDENTIALS_PAGE}
use Rattle.kn_store.specs.declared.live_set.LiveSet.TheInside.{Inside}
use Rattle.kn_history.specs.History.{NumberedText, text_bytes}
use Rattle.kn_store.specs.LiveView.{LiveView, refusal_of_size, refusal_of_removal, with_addition, with_removal}
use Rattle.kn_history.specs.Ids.{IdsAscend}
use Rattle.kn_store.specs.LiveSets.{view_of_set, IsLiveSet}
use Rattle.kn_pages.specs.Pages.{joined, with_item, without_item}
use Rattle.kn_pages.proofs.PageLemmas.{joined-with_item, sized-with_item, sized-without_item}
use Rattle.kn_store.proofs.LiveLemmas.{IsCut, ascend-push, ascend-without, filter-one}

tested : (b : Bool) (fault : StoreFault) (rest : Option StoreFault) → cond b (Some fault) rest ≡ None → (b ≡ false)
    × (rest ≡ None)
tested true fault rest h = cc
tested false fault rest h = (refl, h)

pub record IsAccepted (v : LiveView) (size : ℕ) : Type 0 where
  pub count : length v.credentials < LIVE_CREDENTIALS
  pub bytes : text_bytes v.credentials + size ≤ LIVE_BYTES
  pub changes : v.changes < UPDATES
  pub logged : v.logged + size ≤ LOGGED_BYTES

pub accepted : (v : LiveView) (size : ℕ) → refusal_of_size v size ≡ None → IsAccepted v size
accepted v size h =
    let one = tested _ _ _ h in
    let two = tested _ _ _ one.1 in
    let three = tested _ _ _ two.1 in
    let four = tested _ _ _ three.1 in
    record {
      count = leb-false LIVE_CREDENTIALS (length v.credentials) one.0;
      bytes = ltb-false LIVE_BYTES (text_bytes v.credentials + size) two.0;
      changes = leb-false UPDATES v.changes three.0;
      logged = ltb-false LOGGED_BYTES (v.logged + size) four.0;
    }

-- One more.

module _ (s : Inside) (pages : List (List NumberedText)) (most : ℕ) (c : NumberedText) (size : ℕ)
    (is : pages ≡ with_item most s.pages c) (long : size ≡ length c.text) (next : c.id ≡ s.added + 1) where
  longer : joined pages ≡ joined s.pages ++ c ∷ []
  longer = ap joined is ∙ joined-with_item most s.pages c

  pub added_set : 1 ≤ most → most ≤ CREDENTIALS_PAGE → IsLiveSet s → refusal_of_size (view_of_set s) size ≡ None
      → IsLiveSet (record {
        pages = pages;
        count = s.count + 1;
        bytes = s.bytes + size;
        changes = s.changes + 1;
        logged = s.logged + size;
        added = s.added + 1;
      })
  added_set some few kept none =
      let within = accepted (view_of_set s) size none in
      let count = length-append (joined s.pages) (c ∷ []) in
      let bytes = sum_by_push (λ (x : NumberedText). length x.text) (joined s.pages) c in
      let higher = All-weaker (λ (x : NumberedText). x.id ≤ s.added) (λ x. x.id ≤ s.added + 1) (λ x le. omega arith)
      (joined s.pages) kept.newest in
      let below = All-weaker (λ (x : NumberedText). x.id ≤ s.added) (λ x. x.id < c.id) (λ x le. omega arith)
      (joined s.pages) kept.newest in
      let kept_count = kept.count in
      let kept_bytes = kept.bytes in
      let room = within.count in
      let bytes_room = within.bytes in
      let changes_room = within.changes in
      let fewer = kept.fewer in
      record {
        pages = rw is (sized-with_item CREDENTIALS_PAGE most s.pages c some few kept.pages);
        ids = rw longer (ascend-push 0 (joined s.pages) c kept.ids below (omega arith));
        newest = rw longer (All-push (λ x. x.id ≤ s.added + 1) (joined s.pages) c higher (omega arith));
        count = rw longer (omega arith);
        bytes = rw longer (omega arith);
        count_limit = omega arith;
        bytes_limit = omega arith;
        changes_limit = omega arith;
        logged_limit = within.logged;
        fewer = omega arith;
      }

  pub added_view : (text : List ℕ) → text ≡ c.text
      → view_of_set (record {
        pages = pages;
        count = s.count + 1;
        bytes = s.bytes + size;
        changes = s.changes + 1;
        logged = s.logged + size;
        added = s.added + 1;
      })
      ≡ with_addition (view_of_set s) text
  added_view text same = rw (same, longer, long, ← next) refl

-- One fewer.

left_of : (P : NumberedText → Type 0) (xs ys : List NumberedText) → All P (xs ++ ys) → All P xs
left_of P [] ys all = All-nil P
left_of P (x ∷ xs) ys all =
    All-cons P x xs (All-head P x (xs ++ ys) all) (left_of P xs ys (All-tail P x (xs ++ ys) all))

right_of : (P : NumberedText → Type 0) (xs ys : List NumberedText) → All P (xs ++ ys) → All P ys
right_of P [] ys all = all
right_of P (x ∷ xs) ys all = right_of P xs ys (All-tail P x (xs ++ ys) all)

module _ (s : Inside) (pages : List (List NumberedText)) (id page place size : ℕ) (cut : IsCut s.pages id page place)
    (is : pages ≡ without_item s.pages page place) (long : size ≡ length cut.credential.text) where
  shorter : joined pages ≡ cut.front ++ cut.back
  shorter = ap joined is ∙ cut.rest

  count_is : length (joined s.pages) ≡ length (cut.front ++ cut.back) + 1
  count_is =
      let whole = ap length cut.whole in
      let one = length-append cut.front (cut.credential ∷ cut.back) in
      let two = length-append cut.front cut.back in
      omega arith

  bytes_is : text_bytes (joined s.pages) ≡ text_bytes (cut.front ++ cut.back) + size
  bytes_is =
      let whole = ap text_bytes cut.whole in
      let one = sum_by-append (λ (x : NumberedText). length x.text) cut.front (cut.credential ∷ cut.back) in
      let here = sum_by-cons (λ (x : NumberedText). length x.text) cut.credential cut.back in
      let two = sum_by-append (λ (x : NumberedText). length x.text) cut.front cut.back in
      omega arith

  pub removed_size : IsLiveSet s → size ≤ s.bytes
  removed_size kept = let kept_bytes = kept.bytes in let here = bytes_is in omega arith

  pub removed_count : IsLiveSet s → 1 ≤ s.count
  removed_count kept = let kept_count = kept.count in let here = count_is in omega arith

  all_others : (P : NumberedText → Type 0) → All P (cut.front ++ cut.credential ∷ cut.back)
      → All P (cut.front ++ cut.back)
  all_others P all = All-append P cut.front cut.back (left_of P cut.front (cut.credential ∷ cut.back) all)
      (All-tail P cut.credential cut.back (right_of P cut.front (cut.credential ∷ cut.back) all))

  pub removed_set : IsLiveSet s → s.changes < UPDATES
      → IsLiveSet (record {
        pages = pages;
        count = s.count - 1;
        bytes = s.bytes - size;
        changes = s.changes + 1;
        logged = s.logged;
        added = s.added;
      })
  removed_set kept room =
      let counted = count_is in
      let sized = bytes_is in
      let kept_count = kept.count in
      let kept_bytes = kept.bytes in
      let count_limit = kept.count_limit in
      let bytes_limit = kept.bytes_limit in
      let fewer = kept.fewer in
      record {
        pages = rw is (sized-without_item CREDENTIALS_PAGE s.pages page place kept.pages);
        ids = rw shorter (ascend-without 0 cut.front cut.credential cut.back (subst (IdsAscend 0) cut.whole kept.ids));
        newest = rw shorter
            (all_others (λ x. x.id ≤ s.added) (subst (All (λ x. x.id ≤ s.added)) cut.whole kept.newest));
        count = rw shorter (omega arith);
        bytes = rw shorter (omega arith);
        count_limit = omega arith;
        bytes_limit = omega arith;
        changes_limit = omega arith;
        logged_limit = kept.logged_limit;
        fewer = omega arith;
      }

  pub removed_view : IsLiveSet s
      → view_of_set (record {
        pages = pages;
        count = s.count - 1;
        bytes = s.bytes - size;
        changes = s.changes + 1;
        logged = s.logged;
        added = s.added;
      })
      ≡ with_removal (view_of_set s) id
  removed_view kept =
      let left : filter (λ (x : NumberedText). not (x.id == id)) (joined s.pages) ≡ cut.front ++ cut.back =
      ap (filter (λ (x : NumberedText). not (x.id == id))) cut.whole
      ∙ ap (λ n. filter (λ (x : NumberedText). not (x.id == n)) (cut.front ++ cut.credential ∷ cut.back)) (sym cut.same)
      ∙ filter-one 0 cut.front cut.credential cut.back (subst (IdsAscend 0) cut.whole kept.ids) in
      rw (shorter, left) refl

-- What a removal is refused for.

present : (pages : List (List NumberedText)) (id page place : ℕ) → IsCut pages id page place
    → list_any (λ (x : NumberedText). x.id == id) (joined pages) ≡ true
present pages id page place cut =
    ap (list_any (λ (x : NumberedText). x.id == id)) cut.whole
    ∙ list_any-append (λ (x : NumberedText). x.id == id) cut.front (cut.credential ∷ cut.back)
    ∙ or_right (list_any (λ (x : NumberedText). x.id == id) cut.front)
    (list_any (λ (x : NumberedText). x.id == id) (cut.credential ∷ cut.back))
    (or_left (cut.credential.id == id) (list_any (λ (x : NumberedText). x.id == id) cut.back)
    (eq-eqb cut.credential.id id cut.same))

pub removal_accepted : (s : Inside) (id page place : ℕ) → IsCut s.pages id page place → s.changes < UPDATES
    → refusal_of_removal (view_of_set s) id ≡ None
removal_accepted s id page place cut room = rw (present s.pages id page place cut, lt-leb UPDATES s.changes room) refl

pub refused_full : (s : Inside) (id page place : ℕ) → IsCut s.pages id page place → UPDATES ≤ s.changes
    → refusal_of_removal (view_of_set s) id ≡ Some (HistoryFull s.changes)
refused_full s id page place cut full = rw (present s.pages id page place cut, le-leb UPDATES s.changes full) refl

pub refused_unknown : (s : Inside) (id : ℕ) → list_any (λ (x : NumberedText). x.id == id) (joined s.pages) ≡ false
    → refusal_of_removal (view_of_set s) id ≡ Some (Unknown id)
refused_unknown s id absent = rw absent refl
