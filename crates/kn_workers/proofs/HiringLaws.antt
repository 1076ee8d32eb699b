-- Passes that are split from a root and joined into it.
use Rattle.std.proofs.Common.{◌≡◌, ℕ, zero, suc, ◌+◌, ◌<◌, ◌≤◌, Bool, true, false, List, [], ◌∷◌, ◌++◌, length, refl}
use Rattle.std.proofs.Common.{sym, ap, ◌∙◌, append_assoc, append-nil, arith, Some, subst}
use Rattle.std.specs.Prelude.{slice_get, slice_index_or, remove, nat_lt, ◌||◌}
use Rattle.std.specs.List.{AllByRecursion}
use mathlib.Core.List.{IsPrefix}
use Rattle.atomic_table.specs.Seated.{TableId}
use Rattle.kn_history.specs.declared.update.Update.{Update}
use Rattle.kn_turn.specs.Entries.{longer, longer_if}
use Rattle.kn_turn.specs.Passes.{split_of, after_split, after_join}
use Rattle.kn_registry.specs.Passes.{PassSeen, IsReady}
use Rattle.kn_workers.specs.declared.post.Post.{Post}
use Rattle.kn_workers.specs.Workers.{splits_from, after_joins, IsRejoined}
use Rattle.kn_workers.specs.Posts.{IsSplit, posts_of, passes_of, doors_of, all_finished, some_failed, AllSeenIn}

pub split_one_more : (w : PassSeen) (k : ℕ) →
    splits_from w (suc k) ≡ splits_from w k ++ split_of (record w { splits = w.splits + k }) ∷ []
split_one_more w zero = ap (λ (n : ℕ). split_of (record w { splits = n }) ∷ []) (omega arith)
split_one_more w (suc k) =
    let next : w.splits + 1 + k ≡ w.splits + suc k = omega arith in
    ap (λ (l : List PassSeen). split_of w ∷ l)
    (split_one_more (after_split w) k
    ∙ ap (λ (n : ℕ). splits_from (after_split w) k ++ split_of (record w { splits = n }) ∷ []) next)

pub splits_length : (w : PassSeen) (n : ℕ) → length (splits_from w n) ≡ n
splits_length w zero = refl
splits_length w (suc n) = ap (λ (k : ℕ). suc k) (splits_length (after_split w) n)

pub split_ready : (registry : TableId) (root : PassSeen) → IsReady registry root → IsSplit registry (split_of root)
split_ready registry root ready =
    (record { own = ready.own; idle = refl; valid = ready.valid }, λ none. absurd (omega (arith, none)))

pub splits_ready : (registry : TableId) (root : PassSeen) (n : ℕ) → IsReady registry root →
    AllByRecursion (IsSplit registry) (splits_from root n)
splits_ready registry root zero ready = tt
splits_ready registry root (suc n) ready = (
  split_ready registry root ready,
  splits_ready registry (after_split root) n
      (record { own = ready.own; idle = ready.idle; valid = ready.valid }),
)

longer_if-same : (t : Bool) (a : List Update) → longer_if t a a ≡ a
longer_if-same true a = refl
longer_if-same false a = refl

longer-same : (a b : List Update) → a ≡ b → longer a b ≡ b
longer-same a b e =
    subst (λ (x : List Update). longer x b ≡ b) (sym e) (longer_if-same (nat_lt (length b) (length b)) b)

joined_seen : (r v : PassSeen) (n : ℕ) → r.seen ≡ v.seen → (after_joins r (splits_from v n)).seen ≡ v.seen
joined_seen r v zero e = e
joined_seen r v (suc n) e = joined_seen (after_join r (split_of v)) (after_split v) n (longer-same r.seen v.seen e)

pub rejoined : (v w : PassSeen) (n : ℕ) → w ≡ after_joins (record v { splits = v.splits + n }) (splits_from v n) →
    IsRejoined v w
rejoined v w n e = record {
  count = n;
  is = e;
  seen = ap (λ (x : PassSeen). x.seen) e ∙ joined_seen (record v { splits = v.splits + n }) v n refl;
}

module _ {X : Type 0} where
  pub first_taken : (xs : List X) (x : X) → slice_get xs 0 ≡ Some x → xs ≡ x ∷ remove xs 0
  first_taken [] x e = absurd (cc e)
  first_taken (y ∷ ys) x e = ap (λ (z : X). z ∷ ys) (cc e)

  pub some_first : (xs : List X) → (xs ≡ [] → ⊥) → 0 < length xs
  some_first [] not_empty = absurd (not_empty refl)
  some_first (x ∷ xs) not_empty = omega arith

-- one pass more is joined
pub joins_one_more : (root : PassSeen) (passes : List PassSeen) (pass : PassSeen) → slice_get passes 0 ≡ Some pass →
    after_joins root passes ≡ after_joins (after_join root pass) (remove passes 0)
joins_one_more root passes pass e = ap (after_joins root) (first_taken passes pass e)

pub rest_holds : {X : Type 0} (P : X → Type 0) (xs : List X) (x : X) → slice_get xs 0 ≡ Some x → AllByRecursion P xs →
    P x × AllByRecursion P (remove xs 0)
rest_holds P xs x e all = subst (AllByRecursion P) (first_taken xs x e) all

module _ {D : Type 0} where
  pub posts_length : (doors : List D) (passes : List PassSeen) → length passes ≡ length doors →
      length (posts_of doors passes) ≡ length doors
  posts_length [] passes e = refl
  posts_length (d ∷ doors) [] e = absurd (omega (arith, e))
  posts_length (d ∷ doors) (p ∷ passes) e =
      let rest : length passes ≡ length doors = omega (arith, e) in
      ap (λ (k : ℕ). suc k) (posts_length doors passes rest)

-- what was seen is the first part of a history, also where that begins with another
prefix-trans : (a b c : List Update) → IsPrefix a b → IsPrefix b c → IsPrefix a c
prefix-trans a b c p q = (p.0 ++ q.0, sym (append_assoc a p.0 q.0) ∙ ap (λ (l : List Update). l ++ q.0) p.1 ∙ q.1)

-- a front of the history on which all that follows rests
abbrev pub RestsOn : List Update → List PassSeen → List Update → List PassSeen → Type 0
RestsOn first all seen passes = (history : List Update) → IsPrefix seen history → AllSeenIn history passes →
    IsPrefix first history × AllSeenIn history all

pub rests_one_more : (first : List Update) (all : List PassSeen) (seen seen' : List Update) (pass : PassSeen)
    (passes : List PassSeen) → RestsOn first all seen (pass ∷ passes) →
    IsPrefix seen seen' → IsPrefix pass.seen seen' → RestsOn first all seen' passes
rests_one_more first all seen seen' pass passes rests own others =
    λ history p q. rests history (prefix-trans seen seen' history own p)
    (prefix-trans pass.seen seen' history others p, q)

pub rests_at_last : (first : List Update) (all : List PassSeen) (seen : List Update) (passes : List PassSeen) →
    passes ≡ [] → RestsOn first all seen passes → IsPrefix first seen × AllSeenIn seen all
rests_at_last first all seen passes none rests = rests seen ([], append-nil seen) (subst (AllSeenIn seen) (sym none) tt)

-- the first post is taken off
pub post_taken : {X : Type 0} (xs : List X) (x : X) → 0 < length xs → x ≡ slice_index_or xs 0 x → xs ≡ x ∷ remove xs 0
post_taken [] x some e = absurd (omega (arith, some))
post_taken {X} (y ∷ ys) x some e = ap (λ (z : X). z ∷ ys) (sym e)

pub no_items : {X : Type 0} (xs : List X) → length xs ≡ 0 → xs ≡ []
no_items [] none = refl
no_items (x ∷ xs) none = absurd (omega (arith, none))

pub stays_true : (a b : Bool) → a ≡ true → a ≡ (a || b)
stays_true true b e = refl
stays_true false b e = absurd (cc e)

pub takes_other : (a b : Bool) → a ≡ false → b ≡ (a || b)
takes_other true b e = absurd (cc e)
takes_other false b e = refl

or-assoc : (a b c : Bool) → ((a || b) || c) ≡ (a || (b || c))
or-assoc true b c = refl
or-assoc false b c = refl

module _ {D : Type 0} (registry : TableId) (first : PassSeen) (all : List (Post D)) where
  -- some of the posts were gathered, and these are left, so many
  abbrev pub Gathering : PassSeen → List (Post D) → ℕ → List D → ℕ → ℕ → Bool → Type 0
  Gathering root posts left doors spare finished failed =
      IsReady registry root
      × (after_joins root (passes_of posts) ≡ after_joins first (passes_of all))
      × AllByRecursion (IsSplit registry) (passes_of posts)
      × (doors ++ doors_of posts ≡ doors_of all)
      × (left ≤ spare)
      × (finished + all_finished posts ≡ all_finished all)
      × ((failed || some_failed posts) ≡ some_failed all)
      × RestsOn first.seen (passes_of all) root.seen (passes_of posts)

  gather_first : (root root' : PassSeen) (p : Post D) (posts : List (Post D)) (left left' : ℕ) (doors doors' : List D)
      (spare spare' finished finished' : ℕ) (failed failed' : Bool) →
      Gathering root (p ∷ posts) left doors spare finished failed → left' + 1 ≡ left → IsReady registry root' →
      root' ≡ after_join root p.pass → IsPrefix root.seen root'.seen × IsPrefix p.pass.seen root'.seen →
      doors' ≡ doors ++ p.door ∷ [] → spare ≤ spare' + 1 → finished' ≡ finished + p.end.finished →
      failed' ≡ (failed || p.end.failed) → Gathering root' posts left' doors' spare' finished' failed'
  gather_first root root' p posts left left' doors doors' spare spare' finished finished' failed failed' i fewer ready
      joined_is seen doors_are room more less =
      let count = i.5 in
      let enough = i.4 in (
        ready,
        ap (λ (w : PassSeen). after_joins w (passes_of posts)) joined_is ∙ i.1,
        i.2.1,
        ap (λ (l : List D). l ++ doors_of posts) doors_are ∙ append_assoc doors (p.door ∷ []) (doors_of posts) ∙ i.3,
        omega (arith, enough, room, fewer),
        omega (arith, more, count),
        ap (λ (b : Bool). b || some_failed posts) less ∙ or-assoc failed p.end.failed (some_failed posts) ∙ i.6,
        rests_one_more first.seen (passes_of all) root.seen root'.seen p.pass (passes_of posts) i.7 seen.0 seen.1,
      )

  -- one post more is gathered
  pub gather_more : (root root' : PassSeen) (p : Post D) (posts posts' : List (Post D)) (left left' : ℕ)
      (doors doors' : List D) (spare spare' finished finished' : ℕ) (failed failed' : Bool) →
      Gathering root posts left doors spare finished failed → posts ≡ p ∷ posts' → left' + 1 ≡ left →
      IsReady registry root' → root' ≡ after_join root p.pass →
      IsPrefix root.seen root'.seen × IsPrefix p.pass.seen root'.seen →
      doors' ≡ doors ++ p.door ∷ [] → spare ≤ spare' + 1 → finished' ≡ finished + p.end.finished →
      failed' ≡ (failed || p.end.failed) → Gathering root' posts' left' doors' spare' finished' failed'
  gather_more root root' p posts posts' left left' doors doors' spare spare' finished finished' failed failed' i are =
      gather_first root root' p posts' left left' doors doors' spare spare' finished finished' failed failed'
      (subst (λ (l : List (Post D)). Gathering root l left doors spare finished failed) are i)
