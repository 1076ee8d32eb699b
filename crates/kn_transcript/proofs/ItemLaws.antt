-- What an authenticator may say of the items of a batch.
use Rattle.std.proofs.Common.{◌≡◌, ◌⊎◌, ℕ, zero, suc, ◌+◌, ◌≤◌, ◌<◌, Bool, true, false, List, [], ◌∷◌, ◌++◌, length}
use Rattle.std.proofs.Common.{take, Option, Some, None, refl, sym, ap, ◌∙◌, arith, inl, inr, subst, append_assoc}
use Rattle.std.proofs.Common.{length-append}
use Rattle.std.specs.Prelude.{◌==◌, ◌||◌, not, slice_get, option_map, IsSome, if◌then◌else◌}
use Rattle.std.specs.Option.{option_or}
use Rattle.std.specs.List.{list_any, AllByRecursion}
use Rattle.std.specs.Str.{bytes_eq}
use Rattle.std.proofs.lemmas.Bool.{or_cases}
use Rattle.std.proofs.lemmas.Bool.Decides.{nat_tests}
use Rattle.std.proofs.lemmas.List.{take_at, length-map}
use Rattle.std.proofs.lemmas.Option.{same_Some}
use Rattle.std.proofs.lemmas.Slice.Eq.{bytes_eq-Decides}
use Rattle.kn_trees.specs.declared.assertion.Assertion.{Assertion}
use Rattle.kn_assert.specs.Reading.{assertion_of}
use Rattle.kn_wire.specs.Items.{BatchItem, AddText, DropId}
use Rattle.kn_reply.specs.declared.refusal.Refusal.{Refusal}
use Rattle.kn_reply.specs.declared.refusal.Refusal.TheVariants as R
use Rattle.kn_reply.specs.declared.refusal.ItemRefusal.{ItemRefusal}
use Rattle.kn_reply.specs.declared.refusal.ItemRefusal.TheVariants as I
use Rattle.kn_reply.specs.Logs.{item_of}
use Rattle.kn_daemon.specs.Daemon.{DaemonConfig, item_refusal, refusal_from, refusal_at_verdict}
use Rattle.kn_daemon.proofs.Reading.{reading-admits_item}
use Rattle.kn_transcript.specs.declared.fault.TheConstants.{AUTH_FAULTS}
use Rattle.kn_transcript.specs.declared.items.ReadItems.{ReadItems}
use Rattle.kn_transcript.specs.Verdicts.{IsAuthFault, adds_text, is_new_behind, adds_anew, HasReading, IsFirstUnread}
use Rattle.kn_transcript.specs.Verdicts.{AreRead}
use Rattle.kn_transcript.proofs.VerdictLaws.{HasFaults}

-- Items in their order.

-- items behind those that are admitted are counted on
pub behind_admitted : (g : DaemonConfig) (number : ℕ) (front rest : List BatchItem) → refusal_from g number front ≡ None
    → refusal_from g number (front ++ rest) ≡ refusal_from g (number + length front) rest
behind_admitted g number [] rest e =
    let none : number ≡ number + 0 = omega arith in
    ap (λ (n : ℕ). refusal_from g n rest) none
behind_admitted g number (item ∷ front) rest e =
    by (item_refusal g item) e (λ none. behind_admitted g (number + 1) front rest none)
  where
    by : (o : Option ItemRefusal) → option_or (option_map (R.Item number) o) (refusal_from g (number + 1) front) ≡ None
        → (refusal_from g (number + 1) front ≡ None
        → refusal_from g (number + 1) (front ++ rest) ≡ refusal_from g (number + 1 + length front) rest)
        → option_or (option_map (R.Item number) o) (refusal_from g (number + 1) (front ++ rest))
        ≡ refusal_from g (number + length (item ∷ front)) rest
    by None e later =
        let more : number + 1 + length front ≡ number + length (item ∷ front) = omega arith in
        later e ∙ ap (λ (n : ℕ). refusal_from g n rest) more
    by (Some inner) e later = absurd (cc e)

-- the first one that isn't admitted stays the first one
found_in_front : (g : DaemonConfig) (number : ℕ) (front rest : List BatchItem) (told : Refusal)
    → refusal_from g number front ≡ Some told → refusal_from g number (front ++ rest) ≡ Some told
found_in_front g number [] rest told e = absurd (cc e)
found_in_front g number (item ∷ front) rest told e =
    by (item_refusal g item) e (λ later. found_in_front g (number + 1) front rest told later)
  where
    by : (o : Option ItemRefusal)
        → option_or (option_map (R.Item number) o) (refusal_from g (number + 1) front) ≡ Some told
        → (refusal_from g (number + 1) front ≡ Some told → refusal_from g (number + 1) (front ++ rest) ≡ Some told)
        → option_or (option_map (R.Item number) o) (refusal_from g (number + 1) (front ++ rest)) ≡ Some told
    by None e later = later e
    by (Some inner) e later = e

-- One item.

pub same_text : (text other : List ℕ) → bytes_eq other text ≡ true → other ≡ text
same_text text other same = (bytes_eq-Decides other text).0 same

same_item : (text : List ℕ) (item : BatchItem) → adds_text text item ≡ true → item ≡ AddText text
same_item text (AddText other) same = ap AddText (same_text text other same)
same_item text (DropId k) same = absurd (cc same)

-- a text that was admitted is admitted again
repeated_admitted : (g : DaemonConfig) (number : ℕ) (front : List BatchItem) (text : List ℕ)
    → refusal_from g number front ≡ None → list_any (adds_text text) front ≡ true → item_refusal g (AddText text) ≡ None
repeated_admitted g number [] text e any = absurd (cc any)
repeated_admitted g number (item ∷ front) text e any =
    by (item_refusal g item) refl e (λ none there. repeated_admitted g (number + 1) front text none there)
  where
    by : (o : Option ItemRefusal) → item_refusal g item ≡ o
        → option_or (option_map (R.Item number) o) (refusal_from g (number + 1) front) ≡ None
        → (refusal_from g (number + 1) front ≡ None → list_any (adds_text text) front ≡ true
        → item_refusal g (AddText text) ≡ None)
        → item_refusal g (AddText text) ≡ None
    by (Some inner) is e later = absurd (cc e)
    by None is e later = elim (or_cases (adds_text text item) (list_any (adds_text text) front) any) [
      | inl here ↦ ap (item_refusal g) (sym (same_item text item here)) ∙ is
      | inr there ↦ later e there
    ]

-- a number that isn't 0 refuses
item_verdict : (n : ℕ) → 1 ≤ n → refusal_at_verdict I.Auth n ≡ Some (I.Auth n)
item_verdict n above =
    let other : (n == 0) ≡ false = grind (arith, nat_tests, above) in
    rw other refl

-- what is said of a text that has a reading
said : (g : DaemonConfig) (text : List ℕ) → IsSome (assertion_of text)
    → (a : Assertion) × (assertion_of text ≡ Some a)
    × (item_refusal g (AddText text) ≡ refusal_at_verdict I.Auth (g.verdict text a))
said g text reads = by (assertion_of text) refl reads
  where
    by : (o : Option Assertion) → assertion_of text ≡ o → IsSome o
        → (a : Assertion) × (assertion_of text ≡ Some a)
        × (item_refusal g (AddText text) ≡ refusal_at_verdict I.Auth (g.verdict text a))
    by None is some = absurd (cc some)
    by (Some a) is some = (a, is, reading-admits_item g text a is)

-- an item whose text has a reading is admitted where its text gets number 0
zero_admits : (g : DaemonConfig) (item : BatchItem) → HasReading item
    → ((text : List ℕ) (a : Assertion) → item ≡ AddText text → g.verdict text a ≡ 0) → item_refusal g item ≡ None
zero_admits g (DropId k) reads none = refl
zero_admits g (AddText text) reads none =
    let s = said g text reads in
    s.2 ∙ ap (refusal_at_verdict I.Auth) (none text s.0 refl)

-- it is admitted, or refused by a fault of the authenticator
record IsUnadmitted (g : DaemonConfig) (item : BatchItem) : Type 0 where
  pub text : List ℕ
  pub fault : ℕ
  pub item_is : item ≡ AddText text
  pub is_fault : IsAuthFault fault
  pub refused : item_refusal g item ≡ Some (I.Auth fault)

admitted_or : (g : DaemonConfig) → HasFaults g → (item : BatchItem) → HasReading item
    → (item_refusal g item ≡ None) ⊎ IsUnadmitted g item
admitted_or g few (DropId k) reads = inl refl
admitted_or g few (AddText text) reads =
    let s = said g text reads in by s.0 s.2 (g.verdict text s.0) refl (few text s.0)
  where
    by : (a : Assertion) → item_refusal g (AddText text) ≡ refusal_at_verdict I.Auth (g.verdict text a) → (n : ℕ)
        → g.verdict text a ≡ n → g.verdict text a ≤ AUTH_FAULTS
        → (item_refusal g (AddText text) ≡ None) ⊎ IsUnadmitted g (AddText text)
    by a says zero is within = inl (says ∙ ap (refusal_at_verdict I.Auth) is)
    by a says (suc n) is within =
        let some : 1 ≤ suc n = omega arith in
        let few : suc n ≤ AUTH_FAULTS = omega (arith, is, within) in
        inr (record {
          text = text;
          fault = suc n;
          item_is = refl;
          is_fault = (some, few);
          refused = says ∙ ap (refusal_at_verdict I.Auth) is ∙ item_verdict (suc n) some;
        })

-- The items of a batch.

-- the authenticator refuses one of the first so many items, of which it has said nothing before
pub record IsVerdictAt (items : List BatchItem) (count : ℕ) (told : Refusal) : Type 0 where
  pub place : ℕ
  pub fault : ℕ
  pub within : place < count
  pub anew : adds_anew items place ≡ true
  pub is_fault : IsAuthFault fault
  pub told_is : told ≡ R.Item (place + 1) (I.Auth fault)

get_at : {X : Type 0} (front : List X) (x : X) (rest : List X) → slice_get (front ++ x ∷ rest) (length front) ≡ Some x
get_at [] x rest = refl
get_at (y ∷ front) x rest = get_at front x rest

-- the item behind those that are admitted adds a text that they don't add, if it isn't admitted
new_text : (g : DaemonConfig) (front rest : List BatchItem) (item : BatchItem) → refusal_from g 1 front ≡ None
    → IsUnadmitted g item → adds_anew (front ++ item ∷ rest) (length front) ≡ true
new_text g front rest item before u =
    ap (λ (l : List BatchItem). is_new_behind l (slice_get (front ++ item ∷ rest) (length front)))
    (take_at front (item ∷ rest) (length front) refl)
    ∙ ap (is_new_behind front) (get_at front item rest ∙ ap (λ (i : BatchItem). Some i) u.item_is)
    ∙ by (list_any (adds_text u.text) front) refl
  where
    by : (b : Bool) → list_any (adds_text u.text) front ≡ b → not (list_any (adds_text u.text) front) ≡ true
    by false is = ap not is
    by true is =
        let again = repeated_admitted g 1 front u.text before is in
        let refused = sym (ap (item_refusal g) u.item_is) ∙ u.refused in
        absurd (cc (again, refused))

-- all of them are admitted, or there is a first one that isn't
first_verdict : (g : DaemonConfig) → HasFaults g → (front items behind : List BatchItem) (count : ℕ)
    → refusal_from g 1 front ≡ None → AllByRecursion HasReading items → count ≡ length front + length items
    → ((told : Refusal) × IsVerdictAt (front ++ (items ++ behind)) count told
    × (refusal_from g (length front + 1) items ≡ Some told))
    ⊎ (refusal_from g (length front + 1) items ≡ None)
first_verdict g few front [] behind count before reads size = inr refl
first_verdict g few front (item ∷ items) behind count before reads size =
    elim (admitted_or g few item reads.0) [
      | inl none ↦ later none
          (first_verdict g few (front ++ item ∷ []) items behind count (admitted none) reads.1
          (omega (arith, size, longer)))
      | inr u ↦ inl (
        R.Item (length front + 1) (I.Auth u.fault),
        record {
          place = length front;
          fault = u.fault;
          within = omega (arith, size);
          anew = new_text g front (items ++ behind) item before u;
          is_fault = u.is_fault;
          told_is = refl;
        },
        ap (λ (o : Option ItemRefusal).
            option_or (option_map (R.Item (length front + 1)) o) (refusal_from g (length front + 1 + 1) items))
            u.refused,
      )
    ]
  where
    joined : (front ++ item ∷ []) ++ (items ++ behind) ≡ front ++ (item ∷ items ++ behind)
    joined = append_assoc front (item ∷ []) (items ++ behind)

    longer : length (front ++ item ∷ []) ≡ length front + 1
    longer = length-append front (item ∷ [])

    here : item_refusal g item ≡ None
        → refusal_from g (length front + 1) (item ∷ items) ≡ refusal_from g (length (front ++ item ∷ []) + 1) items
    here none =
        ap (λ (o : Option ItemRefusal).
        option_or (option_map (R.Item (length front + 1)) o) (refusal_from g (length front + 1 + 1) items))
        none
        ∙ ap (λ (n : ℕ). refusal_from g (n + 1) items) (sym longer)

    admitted : item_refusal g item ≡ None → refusal_from g 1 (front ++ item ∷ []) ≡ None
    admitted none =
        let one : refusal_from g (1 + length front) (item ∷ []) ≡ None =
        ap (λ (o : Option ItemRefusal). option_or (option_map (R.Item (1 + length front)) o) None) none in
        behind_admitted g 1 front (item ∷ []) before ∙ one

    later : item_refusal g item ≡ None
        → ((told : Refusal) × IsVerdictAt ((front ++ item ∷ []) ++ (items ++ behind)) count told
        × (refusal_from g (length (front ++ item ∷ []) + 1) items ≡ Some told))
        ⊎ (refusal_from g (length (front ++ item ∷ []) + 1) items ≡ None)
        → ((told : Refusal) × IsVerdictAt (front ++ (item ∷ items ++ behind)) count told
        × (refusal_from g (length front + 1) (item ∷ items) ≡ Some told))
        ⊎ (refusal_from g (length front + 1) (item ∷ items) ≡ None)
    later none (inl f) = inl (
      f.0,
      subst (λ (l : List BatchItem). IsVerdictAt l count f.0) joined f.1,
      here none ∙ f.2,
    )
    later none (inr e) = inr (here none ∙ e)

-- the refusal of the first item that isn't read
abbrev pub unread_refusal : ℕ → Option ItemRefusal → Option Refusal
unread_refusal count refusal = option_map (λ inner. R.Item (count + 1) inner) refusal

module _ (items : List BatchItem) (read : ReadItems) (r : AreRead items read) where
  count_is : length read.items ≡ length r.front
  count_is = ap length r.asked ∙ length-map r.front item_of

  -- where those that are read are admitted, the first that isn't read is refused
  behind_read : (g : DaemonConfig) → refusal_from g 1 r.front ≡ None
      → refusal_from g 1 items ≡ unread_refusal (length read.items) read.refusal
  behind_read g none =
      ap (refusal_from g 1) r.cut ∙ behind_admitted g 1 r.front r.behind none ∙ by read.refusal r.first
    where
      by : (o : Option ItemRefusal) → IsFirstUnread r.behind o
          → refusal_from g (1 + length r.front) r.behind ≡ unread_refusal (length read.items) o
      by None empty = ap (refusal_from g (1 + length r.front)) empty
      by (Some inner) (item, rest, is, refused) =
          let number : 1 + length r.front ≡ length read.items + 1 = omega (arith, count_is) in
          ap (refusal_from g (1 + length r.front)) is
          ∙ ap (λ (o : Option ItemRefusal). option_or (option_map (R.Item (1 + length r.front)) o)
          (refusal_from g (1 + length r.front + 1) rest)) (refused g)
          ∙ ap (λ (n : ℕ). Some (R.Item n inner)) number

  zero_count : length read.items ≡ 0 + length r.front
  zero_count = let size = count_is in omega (arith, size)

  pub read_within : length read.items ≤ length items
  read_within =
      let size = count_is in
      let whole : length items ≡ length r.front + length r.behind = ap length r.cut ∙ length-append r.front r.behind in
      omega (arith, size, whole)

  -- what may refuse the batch
  pub batch_refusals : (g : DaemonConfig) → HasFaults g
      → ((told : Refusal) × IsVerdictAt items (length read.items) told × (refusal_from g 1 items ≡ Some told))
      ⊎ (refusal_from g 1 items ≡ unread_refusal (length read.items) read.refusal)
  batch_refusals g few =
      elim (first_verdict g few [] r.front r.behind (length read.items) refl r.readings zero_count) [
        | inl f ↦ inl (
          f.0,
          subst (λ (l : List BatchItem). IsVerdictAt l (length read.items) f.0) (sym r.cut) f.1,
          ap (refusal_from g 1) r.cut ∙ found_in_front g 1 r.front r.behind f.0 f.2,
        )
        | inr none ↦ inr (behind_read g none)
      ]

  -- and what does where the authenticator says nothing
  pub silent_refusal : (g : DaemonConfig) → ((text : List ℕ) (a : Assertion) → g.verdict text a ≡ 0)
      → refusal_from g 1 items ≡ unread_refusal (length read.items) read.refusal
  silent_refusal g silent = behind_read g (admitted 1 r.front r.readings)
    where
      admitted : (number : ℕ) (front : List BatchItem) → AllByRecursion HasReading front
          → refusal_from g number front ≡ None
      admitted number [] reads = refl
      admitted number (item ∷ front) reads =
          ap (λ (o : Option ItemRefusal). option_or (option_map (R.Item number) o) (refusal_from g (number + 1) front))
          (zero_admits g item reads.0 (λ text a is. silent text a))
          ∙ admitted (number + 1) front reads.1

-- An authenticator that refuses this text alone.
abbrev pub refusing : List ℕ → ℕ → DaemonConfig
refusing text fault = record { secret = []; verdict = λ other a. if bytes_eq other text then fault else 0 }

pub refusing_few : (text : List ℕ) (fault : ℕ) → fault ≤ AUTH_FAULTS → HasFaults (refusing text fault)
refusing_few text fault few other a = by (bytes_eq other text)
  where
    by : (b : Bool) → (if b then fault else 0) ≤ AUTH_FAULTS
    by true = few
    by false = omega arith

module _ (text : List ℕ) (fault : ℕ) (is_fault : IsAuthFault fault) where
  other_admitted : (item : BatchItem) → HasReading item → adds_text text item ≡ false
      → item_refusal (refusing text fault) item ≡ None
  other_admitted item reads other = zero_admits (refusing text fault) item reads (λ t a is. silent t is)
    where
      silent : (t : List ℕ) → item ≡ AddText t → (if bytes_eq t text then fault else 0) ≡ 0
      silent t is =
          let differs : bytes_eq t text ≡ false = ap (adds_text text) (sym is) ∙ other in
          ap (λ (b : Bool). if b then fault else 0) differs

  text_refused : (item : BatchItem) → HasReading item → item ≡ AddText text
      → item_refusal (refusing text fault) item ≡ Some (I.Auth fault)
  text_refused item reads is =
      let s = said (refusing text fault) text (subst HasReading is reads) in
      let same : bytes_eq text text ≡ true = (bytes_eq-Decides text text).1 refl in
      ap (item_refusal (refusing text fault)) is ∙ s.2
      ∙ ap (λ (b : Bool). refusal_at_verdict I.Auth (if b then fault else 0)) same ∙ item_verdict fault is_fault.0

  or_both : (a b : Bool) → (a || b) ≡ false → (a ≡ false) × (b ≡ false)
  or_both false b e = (refl, e)
  or_both true b e = absurd (cc e)

  -- it refuses the first item that adds the text
  refused_at : (number : ℕ) (front behind : List BatchItem) (place : ℕ) → place < length front
      → AllByRecursion HasReading front
      → slice_get (front ++ behind) place ≡ Some (AddText text)
      → list_any (adds_text text) (take place (front ++ behind)) ≡ false
      → refusal_from (refusing text fault) number (front ++ behind) ≡ Some (R.Item (number + place) (I.Auth fault))
  refused_at number [] behind place within reads there new = absurd (omega (arith, within))
  refused_at number (item ∷ front) behind zero within reads there new =
      let same : number ≡ number + 0 = omega arith in
      ap (λ (o : Option ItemRefusal).
      option_or (option_map (R.Item number) o) (refusal_from (refusing text fault) (number + 1) (front ++ behind)))
      (text_refused item reads.0 (same_Some item (AddText text) there))
      ∙ ap (λ (n : ℕ). Some (R.Item n (I.Auth fault))) same
  refused_at number (item ∷ front) behind (suc place) within reads there new =
      let both = or_both (adds_text text item) (list_any (adds_text text) (take place (front ++ behind))) new in
      let more : number + 1 + place ≡ number + suc place = omega arith in
      ap (λ (o : Option ItemRefusal).
      option_or (option_map (R.Item number) o) (refusal_from (refusing text fault) (number + 1) (front ++ behind)))
      (other_admitted item reads.0 both.0)
      ∙ refused_at (number + 1) front behind place (omega (arith, within)) reads.1 there both.1
      ∙ ap (λ (n : ℕ). Some (R.Item n (I.Auth fault))) more

-- an authenticator may refuse an item whose text it hasn't admitted before
pub may_refuse : (items : List BatchItem) (read : ReadItems) → AreRead items read → (place fault : ℕ)
    → place < length read.items → adds_anew items place ≡ true → IsAuthFault fault
    → (g : DaemonConfig) × HasFaults g × (refusal_from g 1 items ≡ Some (R.Item (place + 1) (I.Auth fault)))
may_refuse items read r place fault within anew is_fault = by (slice_get items place) refl anew
  where
    at : (text : List ℕ) → slice_get items place ≡ Some (AddText text)
        → list_any (adds_text text) (take place items) ≡ false
        → (g : DaemonConfig) × HasFaults g × (refusal_from g 1 items ≡ Some (R.Item (place + 1) (I.Auth fault)))
    at text there new =
        let size = count_is items read r in
        let number : 1 + place ≡ place + 1 = omega arith in (
          refusing text fault,
          refusing_few text fault is_fault.1,
          ap (refusal_from (refusing text fault) 1) r.cut
              ∙ refused_at text fault is_fault 1 r.front r.behind place (omega (arith, within, size)) r.readings
              (ap (λ (l : List BatchItem). slice_get l place) (sym r.cut) ∙ there)
              (ap (λ (l : List BatchItem). list_any (adds_text text) (take place l)) (sym r.cut) ∙ new)
              ∙ ap (λ (n : ℕ). Some (R.Item n (I.Auth fault))) number,
        )

    is_false : (b : Bool) → not b ≡ true → b ≡ false
    is_false false e = refl
    is_false true e = absurd (cc e)

    by : (o : Option BatchItem) → slice_get items place ≡ o → is_new_behind (take place items) o ≡ true
        → (g : DaemonConfig) × HasFaults g × (refusal_from g 1 items ≡ Some (R.Item (place + 1) (I.Auth fault)))
    by None is e = absurd (cc e)
    by (Some (DropId k)) is e = absurd (cc e)
    by (Some (AddText text)) is e = at text is (is_false (list_any (adds_text text) (take place items)) e)
