-- Texts that are admitted, or refused, as items of a batch.
use Rattle.std.proofs.Common.{◌≡◌, ℕ, ◌+◌, ◌<◌, false, List, [], ◌∷◌, ◌++◌, length, map, take, drop, get_or, refl, sym}
use Rattle.std.proofs.Common.{ap, ◌∙◌, subst, arith, Option, Some, None, inl, inr}
use Rattle.std.specs.Prelude.{◌⊎◌, ◌==◌, option_map}
use Rattle.std.specs.Option.{option_or}
use Rattle.std.proofs.lemmas.Bool.Decides.{nat_tests}
use Rattle.std.proofs.lemmas.List.{drop_more, take_more, take-append-drop, length-map, length-take-le, map-append}
use Rattle.kn_assert.specs.Reading.{assertion_of, fault_of}
use Rattle.kn_fields.specs.declared.fault.ReadFault.{ReadFault}
use Rattle.kn_fields.specs.declared.fault.ReadFault.TheVariants as F
use Rattle.kn_trees.specs.declared.assertion.Assertion.{Assertion}
use Rattle.kn_auth.specs.declared.fault.AuthFault.{AuthFault}
use Rattle.kn_auth.specs.declared.fault.AuthFault.TheVariants.{Unsigned, Algorithm, Key, Mac, NotListed}
use Rattle.kn_auth.specs.Numbers.{number_of}
use Rattle.kn_history.specs.declared.item.Item.{Item}
use Rattle.kn_wire.specs.declared.items.BatchItem.{BatchItem as ItemInCode}
use Rattle.kn_wire.specs.Items.{BatchItem, AddText}
use Rattle.kn_wire.specs.ItemsInCode.{item_of as item_in_code}
use Rattle.kn_reply.specs.declared.refusal.Refusal.{Refusal}
use Rattle.kn_reply.specs.declared.refusal.Refusal.TheVariants as R
use Rattle.kn_reply.specs.declared.refusal.ItemRefusal.{ItemRefusal}
use Rattle.kn_reply.specs.declared.refusal.ItemRefusal.TheVariants as I
use Rattle.kn_reply.specs.Logs.{item_of}
use Rattle.kn_daemon.specs.Daemon.{DaemonConfig, item_refusal, refusal_at_text, refusal_at_verdict}
use Rattle.kn_daemon.specs.Daemon.{refusal_from}
use Rattle.kn_daemon.proofs.Reading.{fault-refuses_item, reading-admits_item}
use Rattle.kn_serve.specs.Admission.{Admits, RefusesItem, AdmitsAll, RefusesOneItem}

-- the text has a fault, or memory ran out
pub text_unread : (verdict : List ℕ → Assertion → ℕ) (text : List ℕ) (fault : ReadFault)
    (refusal : Option ItemRefusal) → (fault ≡ F.NoMemory) ⊎ (fault_of text ≡ Some fault) →
    refusal ≡ refusal_at_text I.Read fault → RefusesItem verdict (AddText text) refusal
text_unread verdict text fault refusal (inl none) told =
    inl (told ∙ ap (λ (f : ReadFault). refusal_at_text I.Read f) none)
text_unread verdict text fault refusal (inr faulty) told =
    inr (λ g same. fault-refuses_item g text fault faulty ∙ sym told)

-- what is judged of a text with this reading
judged_as : (g : DaemonConfig) (verdict : List ℕ → Assertion → ℕ) (text : List ℕ) (a : Assertion) →
    assertion_of text ≡ Some a → g.verdict ≡ verdict →
    item_refusal g (AddText text) ≡ refusal_at_verdict I.Auth (verdict text a)
judged_as g verdict text a reads same =
    reading-admits_item g text a reads ∙ ap (λ (v : List ℕ → Assertion → ℕ). refusal_at_verdict I.Auth (v text a)) same

number_positive : (fault : AuthFault) → 0 < number_of fault
number_positive Unsigned = omega arith
number_positive Algorithm = omega arith
number_positive Key = omega arith
number_positive Mac = omega arith
number_positive NotListed = omega arith

-- a number that isn't 0 refuses
verdict_refuses : (n : ℕ) → 0 < n → refusal_at_verdict I.Auth n ≡ Some (I.Auth n)
verdict_refuses n above =
    let other : (n == 0) ≡ false = grind (arith, nat_tests, above) in
    rw other refl

-- the authenticator refuses the text
pub text_unadmitted : (verdict : List ℕ → Assertion → ℕ) (text : List ℕ) (a : Assertion) (fault : AuthFault)
    (number : ℕ) → assertion_of text ≡ Some a → number ≡ number_of fault → number_of fault ≡ verdict text a →
    RefusesItem verdict (AddText text) (Some (I.Auth number))
text_unadmitted verdict text a fault number reads is judged = inr (λ g same.
    judged_as g verdict text a reads same ∙ ap (λ (n : ℕ). refusal_at_verdict I.Auth n) (sym judged)
    ∙ verdict_refuses (number_of fault) (number_positive fault)
    ∙ ap (λ (n : ℕ). Some (I.Auth n)) (sym is))

-- it admits the text
pub text_admitted : (verdict : List ℕ → Assertion → ℕ) (text : List ℕ) (a : Assertion) → assertion_of text ≡ Some a →
    0 ≡ verdict text a → Admits verdict (AddText text)
text_admitted verdict text a reads judged =
    λ g same. judged_as g verdict text a reads same ∙ ap (λ (n : ℕ). refusal_at_verdict I.Auth n) (sym judged)

-- Items one after the other.

-- items behind those that are admitted are counted on
behind_admitted : (g : DaemonConfig) (number : ℕ) (front rest : List BatchItem) → refusal_from g number front ≡ None →
    refusal_from g number (front ++ rest) ≡ refusal_from g (number + length front) rest
behind_admitted g number [] rest e =
    let none : number ≡ number + 0 = omega arith in
    ap (λ (n : ℕ). refusal_from g n rest) none
behind_admitted g number (item ∷ front) rest e =
    by (item_refusal g item) e (λ none. behind_admitted g (number + 1) front rest none)
  where
    by : (o : Option ItemRefusal) →
        option_or (option_map (R.Item number) o) (refusal_from g (number + 1) front) ≡ None →
        (refusal_from g (number + 1) front ≡ None →
        refusal_from g (number + 1) (front ++ rest) ≡ refusal_from g (number + 1 + length front) rest) →
        option_or (option_map (R.Item number) o) (refusal_from g (number + 1) (front ++ rest))
        ≡ refusal_from g (number + length (item ∷ front)) rest
    by None e later =
        let more : number + 1 + length front ≡ number + length (item ∷ front) = omega arith in
        later e ∙ ap (λ (n : ℕ). refusal_from g n rest) more
    by (Some inner) e later = absurd (cc e)

-- one item more is admitted
pub admits_more : (verdict : List ℕ → Assertion → ℕ) (front : List BatchItem) (item : BatchItem) →
    AdmitsAll verdict front → Admits verdict item → AdmitsAll verdict (front ++ item ∷ [])
admits_more verdict front item before here = λ g same.
    behind_admitted g 1 front (item ∷ []) (before g same)
    ∙ ap (λ (o : Option ItemRefusal). option_or (option_map (R.Item (1 + length front)) o) None) (here g same)

-- behind those that are admitted one is refused
pub refuses_next : (verdict : List ℕ → Assertion → ℕ) (front rest : List BatchItem) (item : BatchItem) (number : ℕ)
    (refusal : Option ItemRefusal) (told : Option Refusal) → AdmitsAll verdict front → number ≡ length front + 1 →
    RefusesItem verdict item refusal → told ≡ option_map (λ inner. R.Item number inner) refusal →
    RefusesOneItem verdict (front ++ item ∷ rest) told
refuses_next verdict front rest item number refusal told before at (inl none) is =
    inl (is ∙ ap (option_map (λ inner. R.Item number inner)) none)
refuses_next verdict front rest item number None told before at (inr refused) is = inl is
refuses_next verdict front rest item number (Some inner) told before at (inr refused) is = inr (λ g same.
    let here : 1 + length front ≡ number = omega (arith, at) in
    behind_admitted g 1 front (item ∷ rest) (before g same)
    ∙ ap (λ (o : Option ItemRefusal).
    option_or (option_map (R.Item (1 + length front)) o) (refusal_from g (1 + length front + 1) rest))
    (refused g same)
    ∙ ap (λ (n : ℕ). Some (R.Item n inner)) here ∙ sym is)

-- The same of items in code.

-- so many are in front of the next
pub in_front : (items : List ItemInCode) (i : ℕ) → i < length items → length (map item_in_code (take i items)) ≡ i
in_front items i within = length-map (take i items) item_in_code ∙ length-take-le i items (omega (arith, within))

module _ (items : List ItemInCode) (i : ℕ) (x other : ItemInCode) (within : i < length items)
    (here : x ≡ get_or items i other) where
  pub one_more : map item_in_code (take (i + 1) items) ≡ map item_in_code (take i items) ++ item_in_code x ∷ []
  one_more =
      ap (map item_in_code)
      (take_more items i other within ∙ ap (λ (y : ItemInCode). take i items ++ y ∷ []) (sym here))
      ∙ map-append item_in_code (take i items) (x ∷ [])

  halves : map item_in_code items
      ≡ map item_in_code (take i items) ++ item_in_code x ∷ map item_in_code (drop (i + 1) items)
  halves =
      ap (map item_in_code)
      (sym (take-append-drop i items)
      ∙ ap (λ rest. take i items ++ rest)
      (drop_more items i other within ∙ ap (λ (y : ItemInCode). y ∷ drop (i + 1) items) (sym here)))
      ∙ map-append item_in_code (take i items) (x ∷ drop (i + 1) items)

  -- it is the first that isn't admitted
  pub refuses_here : (verdict : List ℕ → Assertion → ℕ) (number : ℕ) (refusal : Option ItemRefusal)
      (told : Option Refusal) → AdmitsAll verdict (map item_in_code (take i items)) → number ≡ i + 1 →
      RefusesItem verdict (item_in_code x) refusal → told ≡ option_map (λ inner. R.Item number inner) refusal →
      RefusesOneItem verdict (map item_in_code items) told
  refuses_here verdict number refusal told before at refused is =
      let front = in_front items i within in
      let placed : number ≡ length (map item_in_code (take i items)) + 1 = omega (arith, at, front) in
      subst (λ (l : List BatchItem). RefusesOneItem verdict l told) (sym halves)
      (refuses_next verdict (map item_in_code (take i items)) (map item_in_code (drop (i + 1) items)) (item_in_code x)
      number refusal told before placed refused is)

  -- it is admitted too
  pub admits_here : (verdict : List ℕ → Assertion → ℕ) → AdmitsAll verdict (map item_in_code (take i items)) →
      Admits verdict (item_in_code x) → AdmitsAll verdict (map item_in_code (take (i + 1) items))
  admits_here verdict before admitted =
      subst (AdmitsAll verdict) (sym one_more)
      (admits_more verdict (map item_in_code (take i items)) (item_in_code x) before admitted)

  pub items_here : (admitted : List Item) (item : Item) → admitted ≡ map item_of (map item_in_code (take i items)) →
      item ≡ item_of (item_in_code x) → admitted ++ item ∷ [] ≡ map item_of (map item_in_code (take (i + 1) items))
  items_here admitted item before same =
      ap (λ (l : List Item). l ++ item ∷ []) before
      ∙ ap (λ (y : Item). map item_of (map item_in_code (take i items)) ++ y ∷ []) same
      ∙ sym (ap (map item_of) one_more ∙ map-append item_of (map item_in_code (take i items)) (item_in_code x ∷ []))
