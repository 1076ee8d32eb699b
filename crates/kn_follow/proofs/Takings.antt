-- Updates that are taken one after the other.
use Rattle.std.proofs.Common.{◌≡◌, ℕ, zero, suc, ◌+◌, ◌<◌, Bool, true, false, ◌&&◌, Some, List, [], ◌∷◌, ◌++◌, length}
use Rattle.std.proofs.Common.{map, take, drop, get_or, sym, ap, ◌∙◌, subst, arith, inl, inr}
use Rattle.std.specs.Prelude.{nat_le, is_none}
use Rattle.std.specs.List.{list_all, AllByRecursion}
use Rattle.std.proofs.lemmas.Bool.{and_left, and_right}
use Rattle.std.proofs.lemmas.List.{map-append, take_more, drop_more, take-append-drop}
use Rattle.kn_history.specs.declared.update.Update.{Update}
use Rattle.kn_history.specs.declared.item.Item.{Item}
use Rattle.kn_history.specs.declared.fault.StoreFault.{StoreFault}
use Rattle.kn_history.specs.History.{all_changes}
use Rattle.kn_history.specs.Batches.{items_may_follow, refusal_of_items, item_reads}
use Rattle.kn_history.proofs.Batches.{batch-follows}
use Rattle.kn_reply.specs.Logs.{item_of}
use Rattle.kn_wire.specs.declared.items.BatchItem.{BatchItem}
use Rattle.kn_wire.specs.ItemsInCode as C
use Rattle.kn_follow.specs.declared.fault.FollowFault.{FollowFault}
use Rattle.kn_follow.specs.declared.fault.FollowFault.TheVariants.{Line, Gap, Refused, NoMemory}
use Rattle.kn_follow.specs.declared.items.ItemFault.{ItemFault}
use Rattle.kn_follow.specs.declared.items.ItemFault.TheVariants as F
use Rattle.kn_follow.specs.declared.reply.Received.{Received}
use Rattle.kn_follow.specs.Forms.{ReceivedUpdate, LogReply, IsTellable, IsLogText}
use Rattle.kn_follow.specs.Following.{Takes, may_be_taken, update_behind, IsUpdateFault, IsTakingFault, IsReplyFault}
use Rattle.kn_follow.specs.Following.{IsFollowFault, IsReadFault}
use Rattle.kn_follow.specs.InCode.{asked_item, asked_items, IsUnreadable, AreUnreadable, update_of, updates_of}

-- one more is taken behind these
pub takes_more : (old : List Update) (front : List ReceivedUpdate) (mid : List Update) (u : ReceivedUpdate)
    → Takes old front mid → may_be_taken mid u ≡ true → Takes old (front ++ u ∷ []) (mid ++ update_behind mid u ∷ [])
takes_more old [] mid u takes may =
    (ap (λ l. may_be_taken l u) (sym takes) ∙ may, ap (λ l. l ++ update_behind l u ∷ []) takes)
takes_more old (x ∷ front) mid u takes may =
    (takes.0, takes_more (old ++ update_behind old x ∷ []) front mid u takes.1 may)

-- they are taken in one way
pub one_taking : (old : List Update) (updates : List ReceivedUpdate) (new other : List Update) → Takes old updates new
    → Takes old updates other → new ≡ other
one_taking old [] new other takes also = takes ∙ sym also
one_taking old (u ∷ updates) new other takes also =
    one_taking (old ++ update_behind old u ∷ []) updates new other takes.1 also.1

-- Which updates may not be taken.

-- what the store is asked for by an update
abbrev asked : ReceivedUpdate → List Item
asked u = map item_of u.items

may-follow : (past : List Update) (u : ReceivedUpdate)
    → may_be_taken past u ≡ items_may_follow (all_changes past) (asked u)
may-follow past u = batch-follows u.caller (all_changes past) (asked u)

-- a text of it has no reading
pub unreadable_text : (past : List Update) (u : ReceivedUpdate) → list_all item_reads (asked u) ≡ false
    → may_be_taken past u ≡ false
unreadable_text past u e =
    let items = asked u in
    may-follow past u
    ∙ and_right (nat_le 1 (length items) && nat_le (length items) 256)
    (is_none (refusal_of_items (all_changes past) items) && list_all item_reads items)
    (and_right (is_none (refusal_of_items (all_changes past) items)) (list_all item_reads items) e)

-- a change of it is refused
pub refused_change : (past : List Update) (u : ReceivedUpdate) (found : ℕ × StoreFault)
    → refusal_of_items (all_changes past) (asked u) ≡ Some found → may_be_taken past u ≡ false
refused_change past u found e =
    let items = asked u in
    may-follow past u
    ∙ and_right (nat_le 1 (length items) && nat_le (length items) 256)
    (is_none (refusal_of_items (all_changes past) items) && list_all item_reads items)
    (and_left (is_none (refusal_of_items (all_changes past) items)) (list_all item_reads items) (ap is_none e))

-- Loops over updates.

-- what stands at a place behind the first ones
pub map_more : {X Y : Type 0} (f : X → Y) (xs : List X) (i : ℕ) (d : X) → i < length xs
    → map f (take (i + 1) xs) ≡ map f (take i xs) ++ f (get_or xs i d) ∷ []
map_more f xs i d within = ap (map f) (take_more xs i d within) ∙ map-append f (take i xs) (get_or xs i d ∷ [])

pub map_cut : {X Y : Type 0} (f : X → Y) (xs : List X) (i : ℕ) (d : X) → i < length xs
    → map f xs ≡ map f (take i xs) ++ f (get_or xs i d) ∷ map f (drop (i + 1) xs)
map_cut f xs i d within =
    ap (map f) (sym (take-append-drop i xs) ∙ ap (λ l. take i xs ++ l) (drop_more xs i d within))
    ∙ map-append f (take i xs) (get_or xs i d ∷ drop (i + 1) xs)

pub get_or-map_all : {X Y : Type 0} (P : Y → Type 0) (f : X → Y) (xs : List X) (i : ℕ) (d : X)
    → AllByRecursion P (map f xs) → i < length xs → P (f (get_or xs i d))
get_or-map_all P f [] i d all within = absurd (omega (arith, within))
get_or-map_all P f (x ∷ xs) zero d all within = all.0
get_or-map_all P f (x ∷ xs) (suc i) d all within = get_or-map_all P f xs i d all.1 (omega (arith, within))

pub middle_unreadable : {X : Type 0} (reads : X → Bool) (front : List X) (x : X) (back : List X) → reads x ≡ false
    → list_all reads (front ++ x ∷ back) ≡ false
middle_unreadable reads [] x back e = and_left (reads x) (list_all reads back) e
middle_unreadable reads (y ∷ front) x back e =
    and_right (reads y) (list_all reads (front ++ x ∷ back)) (middle_unreadable reads front x back e)

-- Loops in code.

pub asked_more : (seen items : List BatchItem) (i : ℕ) (d : BatchItem) (made new : List Item) (asked : Item)
    → seen ≡ items → i < length items → made ≡ asked_items (take i items) → asked ≡ asked_item (get_or seen i d)
    → new ≡ made ++ asked ∷ []
    → new ≡ asked_items (take (i + 1) items)
asked_more seen items i d made new asked same within front here pushed =
    let x : asked ≡ asked_item (get_or items i d) = here ∙ ap (λ l. asked_item (get_or l i d)) same in
    pushed ∙ ap (λ l. l ++ asked ∷ []) front ∙ ap (λ a. asked_items (take i items) ++ a ∷ []) x
    ∙ sym (ap (map item_of) (map_more C.item_of items i d within)
    ∙ map-append item_of (map C.item_of (take i items)) (C.item_of (get_or items i d) ∷ []))

pub asked_unreadable : (seen items : List BatchItem) (i : ℕ) (d : BatchItem) (fault : ItemFault) → seen ≡ items
    → i < length items → IsUnreadable (asked_item (get_or seen i d)) fault → AreUnreadable (asked_items items) fault
asked_unreadable seen items i d F.NoMemory same within here = tt
asked_unreadable seen items i d F.Unreadable same within here =
    let cut : asked_items items ≡ asked_items (take i items) ++ asked_item (get_or items i d)
    ∷ asked_items (drop (i + 1) items) =
    ap (map item_of) (map_cut C.item_of items i d within)
    ∙ map-append item_of (map C.item_of (take i items)) (C.item_of (get_or items i d)
    ∷ map C.item_of (drop (i + 1) items)) in
    let unread : item_reads (asked_item (get_or items i d)) ≡ false =
    ap (λ l. item_reads (asked_item (get_or l i d))) (sym same) ∙ here in
    ap (list_all item_reads) cut
    ∙ middle_unreadable item_reads (asked_items (take i items)) (asked_item (get_or items i d))
    (asked_items (drop (i + 1) items)) unread

-- what is yielded stands at its place
yielded : (seen us : List Received) (i : ℕ) (r : Received) → seen ≡ us → r ≡ get_or seen i r → get_or us i r ≡ r
yielded seen us i r same here = sym (here ∙ ap (λ l. get_or l i r) same)

pub taken_here : (old mid new : List Update) (seen us : List Received) (i : ℕ) (r : Received) → seen ≡ us
    → r ≡ get_or seen i r → i < length us → Takes old (updates_of (take i us)) mid
    → may_be_taken mid (update_of r) ≡ true
    → new ≡ mid ++ update_behind mid (update_of r) ∷ [] → Takes old (updates_of (take (i + 1) us)) new
taken_here old mid new seen us i r same here within front may taken =
    let more : Takes old (updates_of (take i us) ++ update_of r ∷ []) (mid ++ update_behind mid (update_of r) ∷ []) =
    takes_more old (updates_of (take i us)) mid (update_of r) front may in
    let all : updates_of (take (i + 1) us) ≡ updates_of (take i us) ++ update_of r ∷ [] =
    map_more update_of us i r within
    ∙ ap (λ (v : Received). updates_of (take i us) ++ update_of v ∷ []) (yielded seen us i r same here) in
    subst (λ (l : List ReceivedUpdate). Takes old l new) (sym all)
    (subst (λ (l : List Update). Takes old (updates_of (take i us) ++ update_of r ∷ []) l) (sym taken) more)

pub refused_here : (old mid new : List Update) (seen us : List Received) (i : ℕ) (r : Received) (fault : FollowFault)
    → seen ≡ us → r ≡ get_or seen i r → i < length us → Takes old (updates_of (take i us)) mid
    → IsUpdateFault mid (update_of r) fault
    → new ≡ mid → IsTakingFault old (updates_of us) fault new
refused_here old mid new seen us i r (Line at) same here within front fault kept = fault
refused_here old mid new seen us i r (Gap from have) same here within front fault kept = fault
refused_here old mid new seen us i r (Refused place) same here within front fault kept =
    record {
      front = updates_of (take i us);
      refused = update_of r;
      rest = updates_of (drop (i + 1) us);
      cut = map_cut update_of us i r within
          ∙ ap (λ (v : Received). updates_of (take i us) ++ update_of v ∷ updates_of (drop (i + 1) us))
          (yielded seen us i r same here);
      takes = subst (λ (l : List Update). Takes old (updates_of (take i us)) l) (sym kept) front;
      not_this = ap (λ (l : List Update). may_be_taken l (update_of r)) kept ∙ fault.0;
      number = fault.1 ∙ ap (λ (l : List Update). length l + 1) (sym kept);
    }
refused_here old mid new seen us i r NoMemory same here within front fault kept =
    record {
      front = updates_of (take i us);
      rest = update_of (get_or us i r) ∷ updates_of (drop (i + 1) us);
      cut = map_cut update_of us i r within;
      takes = subst (λ (l : List Update). Takes old (updates_of (take i us)) l) (sym kept) front;
    }

pub tellable_here : (seen us : List Received) (i : ℕ) (r : Received) → seen ≡ us → r ≡ get_or seen i r → i < length us
    → AllByRecursion IsTellable (updates_of us) → IsTellable (update_of r)
tellable_here seen us i r same here within each =
    subst (λ (v : Received). IsTellable (update_of v)) (yielded seen us i r same here)
    (get_or-map_all IsTellable update_of us i r each within)

-- Faults of replies.

pub reply_fault : (old : List Update) (reply : LogReply) (fault : FollowFault) (new : List Update)
    → reply.from ≡ length old → IsTakingFault old reply.updates fault new → IsReplyFault old reply fault new
reply_fault old reply (Line at) new here fault = fault
reply_fault old reply (Gap from have) new here fault = absurd fault
reply_fault old reply (Refused place) new here fault = (here, fault)
reply_fault old reply NoMemory new here fault = (here, fault)

pub follow_fault : (old : List Update) (text : List ℕ) (reply : LogReply) (fault : FollowFault) (new : List Update)
    → IsLogText text reply → IsReplyFault old reply fault new → IsFollowFault old text fault new
follow_fault old text reply (Line at) new form fault = absurd fault
follow_fault old text reply (Gap from have) new form fault = record { reply = reply; form = form; fault_is = fault }
follow_fault old text reply (Refused place) new form fault = record { reply = reply; form = form; fault_is = fault }
follow_fault old text reply NoMemory new form fault = inr (record { reply = reply; form = form; fault_is = fault })

pub read_fault : (old : List Update) (text : List ℕ) (fault : FollowFault) (new : List Update) → IsReadFault text fault
    → new ≡ old → IsFollowFault old text fault new
read_fault old text (Line at) new fault kept = (fault, kept)
read_fault old text (Gap from have) new fault kept = absurd fault
read_fault old text (Refused place) new fault kept = absurd fault
read_fault old text NoMemory new fault kept = inl kept
