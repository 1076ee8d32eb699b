-- The items of a batch in code, place by place.
use Rattle.std.proofs.Common.{◌≡◌, ◌≢◌, ℕ, ◌+◌, ◌<◌, ◌≤◌, Bool, true, false, List, [], ◌∷◌, ◌++◌, length, map, take}
use Rattle.std.proofs.Common.{drop, get_or, Option, Some, None, refl, sym, ap, ◌∙◌, arith, inl, inr, subst, append-nil}
use Rattle.std.proofs.Common.{take_all}
use Rattle.std.specs.Prelude.{◌||◌, not, slice_get, option_map, Result, Ok, Err, IfOk}
use Rattle.std.specs.List.{list_any, AllByRecursion}
use Rattle.std.proofs.lemmas.Bool.{cases_lt}
use Rattle.std.proofs.lemmas.List.{take-map, take_more, take-append-drop, drop_more, map-append}
use Rattle.std.proofs.lemmas.Option.{slice_get-map, slice_get-get_or}
use Rattle.kn_history.specs.declared.item.Item.{Item}
use Rattle.kn_wire.specs.declared.items.BatchItem.{BatchItem as ItemInCode}
use Rattle.kn_wire.specs.Items.{BatchItem, AddText, DropId}
use Rattle.kn_wire.specs.ItemsInCode.{item_of as item_in_code}
use Rattle.kn_reply.specs.declared.refusal.Refusal.{Refusal}
use Rattle.kn_reply.specs.declared.refusal.Refusal.TheVariants as R
use Rattle.kn_reply.specs.declared.refusal.ItemRefusal.{ItemRefusal}
use Rattle.kn_reply.specs.declared.refusal.ItemRefusal.TheVariants as I
use Rattle.kn_reply.specs.Logs.{item_of}
use Rattle.kn_reply.specs.Replies.{No, reply_text}
use Rattle.kn_daemon.specs.Daemon.{DaemonConfig, item_refusal}
use Rattle.kn_transcript.specs.declared.items.ReadItems.{ReadItems}
use Rattle.kn_transcript.specs.Verdicts.{IsAuthFault, IsBehindVerdict, verdict_refusal, adds_text, is_new_behind}
use Rattle.kn_transcript.specs.Verdicts.{adds_anew, HasReading, IsUnread, AreRead}

any_map : {X Y : Type 0} (f : X → Y) (p : Y → Bool) (xs : List X) → list_any p (map f xs) ≡ list_any (λ x. p (f x)) xs
any_map f p [] = refl
any_map f p (x ∷ xs) = ap (λ (b : Bool). p (f x) || b) (any_map f p xs)

module _ (items : List ItemInCode) (i : ℕ) (d : ItemInCode) (within : i < length items) where
  there : slice_get (map item_in_code items) i ≡ Some (item_in_code (get_or items i d))
  there = slice_get-map item_in_code items i ∙ ap (option_map item_in_code) (slice_get-get_or items i d within)

  -- an addition is new where none in front of it adds its text
  pub anew_added : (text : List ℕ) → item_in_code (get_or items i d) ≡ AddText text
      → adds_anew (map item_in_code items) i
      ≡ not (list_any (λ item. adds_text text (item_in_code item)) (take i items))
  anew_added text is =
      ap (is_new_behind (take i (map item_in_code items))) (there ∙ ap (λ (x : BatchItem). Some x) is)
      ∙ ap (λ (l : List BatchItem). not (list_any (adds_text text) l)) (take-map item_in_code i items)
      ∙ ap not (any_map item_in_code (adds_text text) (take i items))

  pub anew_dropped : (k : ℕ) → item_in_code (get_or items i d) ≡ DropId k → adds_anew (map item_in_code items) i ≡ false
  anew_dropped k is = ap (is_new_behind (take i (map item_in_code items))) (there ∙ ap (λ (x : BatchItem). Some x) is)

  -- items that are read, and one more
  one_more : map item_in_code (take (i + 1) items) ≡ map item_in_code (take i items) ++ item_in_code (get_or items i d)
      ∷ []
  one_more =
      ap (map item_in_code) (take_more items i d within)
      ∙ map-append item_in_code (take i items) (get_or items i d ∷ [])

  halves : map item_in_code items
      ≡ map item_in_code (take i items) ++ item_in_code (get_or items i d) ∷ map item_in_code (drop (i + 1) items)
  halves =
      ap (map item_in_code)
      (sym (take-append-drop i items) ∙ ap (λ rest. take i items ++ rest) (drop_more items i d within))
      ∙ map-append item_in_code (take i items) (get_or items i d ∷ drop (i + 1) items)

  each_push : (front : List BatchItem) (x : BatchItem) → AllByRecursion HasReading front → HasReading x
      → AllByRecursion HasReading (front ++ x ∷ [])
  each_push [] x each here = (here, tt)
  each_push (y ∷ front) x each here = (each.0, each_push front x each.1 here)

  pub read_more : (old new : List Item) (asked : Item) → old ≡ map item_of (map item_in_code (take i items))
      → new ≡ old ++ asked ∷ [] → asked ≡ item_of (item_in_code (get_or items i d))
      → new ≡ map item_of (map item_in_code (take (i + 1) items))
  read_more old new asked before pushed is =
      pushed ∙ ap (λ (l : List Item). l ++ asked ∷ []) before
      ∙ ap (λ (x : Item). map item_of (map item_in_code (take i items)) ++ x ∷ []) is
      ∙ sym (map-append item_of (map item_in_code (take i items)) (item_in_code (get_or items i d) ∷ []))
      ∙ ap (map item_of) (sym one_more)

  pub readings_more : AllByRecursion HasReading (map item_in_code (take i items))
      → HasReading (item_in_code (get_or items i d))
      → AllByRecursion HasReading (map item_in_code (take (i + 1) items))
  readings_more before here =
      subst (AllByRecursion HasReading) (sym one_more)
      (each_push (map item_in_code (take i items)) (item_in_code (get_or items i d)) before here)

  -- or the first that isn't read
  read_until : (read : List Item) (inner : ItemRefusal) → read ≡ map item_of (map item_in_code (take i items))
      → AllByRecursion HasReading (map item_in_code (take i items))
      → IsUnread (item_in_code (get_or items i d)) (Some inner)
      → AreRead (map item_in_code items) (record { items = read; refusal = Some inner })
  read_until read inner before each unread = record {
    front = map item_in_code (take i items);
    behind = item_in_code (get_or items i d) ∷ map item_in_code (drop (i + 1) items);
    cut = halves;
    asked = before;
    readings = each;
    first = (item_in_code (get_or items i d), map item_in_code (drop (i + 1) items), refl, by unread);
  }
    where
      by : IsUnread (item_in_code (get_or items i d)) (Some inner) → (g : DaemonConfig)
          → item_refusal g (item_in_code (get_or items i d)) ≡ Some inner
      by (inl none) g = absurd (cc none)
      by (inr refused) g = refused g

  -- the reading didn't end by running out of memory
  pub read_ended : {E : Type 0} (result : Result ReadItems E) (read : List Item) (refusal : Option ItemRefusal)
      → read ≡ map item_of (map item_in_code (take i items))
      → AllByRecursion HasReading (map item_in_code (take i items))
      → IsUnread (item_in_code (get_or items i d)) refusal
      → IfOk result (λ r. (inner : ItemRefusal) × (refusal ≡ Some inner)
      × (r ≡ record { items = read; refusal = Some inner }))
      → IfOk result (AreRead (map item_in_code items))
  read_ended (Err e) read refusal before each unread ended = ended
  read_ended (Ok r) read refusal before each unread (inner, some, is) =
      subst (AreRead (map item_in_code items)) (sym is)
      (read_until read inner before each (subst (IsUnread (item_in_code (get_or items i d))) some unread))

-- all of them are read
pub read_all : (items : List ItemInCode) (i : ℕ) (read : List Item) → length items ≤ i
    → read ≡ map item_of (map item_in_code (take i items)) → AllByRecursion HasReading (map item_in_code (take i items))
    → AreRead (map item_in_code items) (record { items = read; refusal = None })
read_all items i read all asked each =
    let whole : take i items ≡ items = take_all i items all in
    record {
      front = map item_in_code items;
      behind = [];
      cut = sym (append-nil (map item_in_code items));
      asked = asked ∙ ap (λ (l : List ItemInCode). map item_of (map item_in_code l)) whole;
      readings = subst (λ (l : List ItemInCode). AllByRecursion HasReading (map item_in_code l)) whole each;
      first = refl;
    }

-- The refusals by an authenticator, fault by fault and item by item.

module _ (item : Option ℕ) (left : List ℕ) (at : ℕ)
    (before : (fault : ℕ) (rest : List ℕ) → 1 ≤ fault → fault < at
    → left ≢ reply_text (No (verdict_refusal item fault)) ++ rest) where
  -- nor does the next one stand there
  pub verdict_more : (refusal : Refusal) → refusal ≡ verdict_refusal item at
      → ((rest : List ℕ) → left ≢ reply_text (No refusal) ++ rest)
      → (fault : ℕ) (rest : List ℕ) → 1 ≤ fault → fault < at + 1
      → left ≢ reply_text (No (verdict_refusal item fault)) ++ rest
  verdict_more refusal is none fault rest some within e = elim (cases_lt fault at) [
    | inl less ↦ before fault rest some less e
    | inr more ↦
        let same : at ≡ fault = omega (arith, more, within) in
        none rest (e ∙ ap (λ (n : ℕ). reply_text (No (verdict_refusal item n)) ++ rest) (sym same)
        ∙ ap (λ (r : Refusal). reply_text (No r) ++ rest) (sym is))
  ]

-- it stands there
pub verdict_found : (item : Option ℕ) (left rest : List ℕ) (at : ℕ) (refusal : Refusal) → IsAuthFault at
    → refusal ≡ verdict_refusal item at → left ≡ reply_text (No refusal) ++ rest → IsBehindVerdict item left (Some rest)
verdict_found item left rest at refusal is_fault is cut =
    (at, is_fault, cut ∙ ap (λ (r : Refusal). reply_text (No r) ++ rest) is)

module _ (items : List BatchItem) (left : List ℕ) (at : ℕ)
    (before : (place fault : ℕ) (rest : List ℕ) → place < at → adds_anew items place ≡ true → IsAuthFault fault
    → left ≢ reply_text (No (R.Item (place + 1) (I.Auth fault))) ++ rest) where
  more : ((fault : ℕ) (rest : List ℕ) → adds_anew items at ≡ true → IsAuthFault fault
      → left ≢ reply_text (No (R.Item (at + 1) (I.Auth fault))) ++ rest)
      → (place fault : ℕ) (rest : List ℕ) → place < at + 1 → adds_anew items place ≡ true → IsAuthFault fault
      → left ≢ reply_text (No (R.Item (place + 1) (I.Auth fault))) ++ rest
  more here place fault rest within anew is_fault e = elim (cases_lt place at) [
    | inl less ↦ before place fault rest less anew is_fault e
    | inr above ↦
        let same : place ≡ at = omega (arith, above, within) in
        here fault rest (ap (adds_anew items) (sym same) ∙ anew) is_fault
        (e ∙ ap (λ (n : ℕ). reply_text (No (R.Item (n + 1) (I.Auth fault))) ++ rest) same)
  ]

  -- no such refusal of the next item stands there
  pub verdicts_more : IsBehindVerdict (Some (at + 1)) left None
      → (place fault : ℕ) (rest : List ℕ) → place < at + 1 → adds_anew items place ≡ true → IsAuthFault fault
      → left ≢ reply_text (No (R.Item (place + 1) (I.Auth fault))) ++ rest
  verdicts_more none = more (λ fault rest anew is_fault. none fault rest is_fault)

  -- or it is of a text that was added before
  pub verdicts_again : adds_anew items at ≡ false
      → (place fault : ℕ) (rest : List ℕ) → place < at + 1 → adds_anew items place ≡ true → IsAuthFault fault
      → left ≢ reply_text (No (R.Item (place + 1) (I.Auth fault))) ++ rest
  verdicts_again again = more (λ fault rest anew is_fault e. let no = again in cc (no, anew))

-- what a search for a refusal found
pub none_behind : {X : Type 0} (view : X → List ℕ) (item : Option ℕ) (left : List ℕ) (found : Option X) → found ≡ None
    → IsBehindVerdict item left (option_map view found) → IsBehindVerdict item left None
none_behind view item left None is none = none
none_behind view item left (Some other) is behind = absurd (cc is)

pub some_behind : {X : Type 0} (view : X → List ℕ) (item : Option ℕ) (left : List ℕ) (found : Option X) (rest : X)
    → found ≡ Some rest → IsBehindVerdict item left (option_map view found)
    → IsBehindVerdict item left (Some (view rest))
some_behind view item left None rest is behind = absurd (cc is)
some_behind {X} view item left (Some other) rest is behind =
    let same : other ≡ rest = cc in subst (λ (x : X). IsBehindVerdict item left (Some (view x))) same behind
