-- What is read of a reply to LOG is its form, and where nothing is read the text departs from it.
use Rattle.std.proofs.Common.{◌≡◌, ◌⊎◌, ℕ, ◌+◌, ◌-◌, ◌<◌, ◌≤◌, min, true, false, cond, List, [], ◌∷◌, ◌++◌, length}
use Rattle.std.proofs.Common.{take, drop, codes, decimal, Ok, Err, refl, sym, ap, ◌∙◌, subst, arith, append_assoc, inl}
use Rattle.std.proofs.Common.{inr}
use Rattle.std.specs.Prelude.{◌==◌, flat_map}
use Rattle.std.proofs.lemmas.Bool.{cases_Bool, cases_lt, cases_order}
use Rattle.std.proofs.lemmas.Bool.Decides.{Decides-eqb}
use Rattle.std.proofs.lemmas.List.{append-nil, length-append, length-replicate, take_at, take-append-drop, take-take}
use lib.ListN.{replicate}
use Rattle.kn_base.specs.Decimal.{is_digit}
use Rattle.kn_wire.specs.Items.{BatchItem, AddText, DropId, item_text, IsShortItem}
use Rattle.kn_follow.specs.declared.fault.FollowFault.{FollowFault}
use Rattle.kn_follow.specs.declared.fault.FollowFault.TheVariants.{Line}
use Rattle.kn_follow.specs.Following.{IsReadFault}
use Rattle.kn_follow.specs.Forms.{ReceivedUpdate, LogReply, received_text, form_text, IsTellable, HasForm, IsLogText}
use Rattle.kn_follow.specs.Forms.{IsFront}
use Rattle.kn_follow.specs.Forms.{DepartsAt}
use Rattle.kn_follow.specs.Laws.{SomeReading, OneReading}
use Rattle.kn_follow.specs.Reading.{Read, both, times, literal_at, bytes_at, number_at, addition_at, removal_at}
use Rattle.kn_follow.specs.Reading.{item_at, update_at, reply_at, most_updates, greatest_place}
use Rattle.kn_follow.proofs.Readers.{IsReader, Fronts, Stands, Always, HasLength, AreTimes, some-times, got, stopped}
use Rattle.kn_follow.proofs.Readers.{got_is, stopped_is, chosen, both-reader, mapped-reader, times-reader}
use Rattle.kn_follow.proofs.Readers.{literal-reader, bytes-reader, stops-unspelled, not_behind}
use Rattle.kn_follow.proofs.Numerals.{IsFrom, AreBounds, ended, number-reader}

nine : (end : ℕ) → is_digit end ≡ false → AreBounds 0 999999999 end
nine end plain = record { order = omega arith; small = omega arith; plain = plain }

nine-reader : (end : ℕ) → is_digit end ≡ false → IsReader (IsFrom 0 999999999) (ended end) (number_at 0 999999999 end)
nine-reader end plain = number-reader 0 999999999 end (nine end plain)

from-none : IsFrom 0 999999999 0
from-none = record { least_is = omega arith; most_is = omega arith }

-- An addition.

abbrev IsAddition : BatchItem → Type 0
IsAddition (AddText text) = length text < 1000000000
IsAddition (DropId k) = ⊥

addition-pieces : (number text : List ℕ) → codes "ADD " ++ number ++ 10 ∷ text ++ 10 ∷ [] ≡ codes "ADD "
    ++ ((number ++ 10 ∷ []) ++ (text ++ 10 ∷ []))
addition-pieces number text = simp append_assoc

abbrev AdditionRead : Type 0
AdditionRead = Unit {0} × (ℕ × (List ℕ × Unit {0}))

abbrev FitsAddition : AdditionRead → Type 0
FitsAddition p = Unit {0} × (IsFrom 0 999999999 p.1.0 × (HasLength p.1.0 p.1.1.0 × Unit {0}))

abbrev addition-spelled : AdditionRead → List ℕ
addition-spelled p = codes "ADD " ++ (ended 10 p.1.0 ++ (p.1.1.0 ++ 10 ∷ []))

abbrev addition_of : AdditionRead → BatchItem
addition_of p = AddText p.1.1.0

addition-stands : Stands FitsAddition addition-spelled IsAddition item_text addition_of
addition-stands = record { fits = λ p fits. by p fits; each = λ item fits. each item fits }
  where
    by : (p : AdditionRead) → FitsAddition p → IsAddition (addition_of p)
        × (item_text (addition_of p) ≡ addition-spelled p)
    by p fits =
        let high = fits.1.0.most_is in
        let size : length p.1.1.0 ≡ p.1.0 = fits.1.1.0 in (
          omega (arith, high, size),
          addition-pieces (decimal (length p.1.1.0)) p.1.1.0
              ∙ ap (λ n. codes "ADD " ++ (ended 10 n ++ (p.1.1.0 ++ 10 ∷ []))) size,
        )

    each : (item : BatchItem) → IsAddition item → (p : AdditionRead) × FitsAddition p × (addition_of p ≡ item)
    each (AddText text) fits = (
      (tt, (length text, (text, tt))),
      (tt, (record { least_is = omega arith; most_is = omega (arith, fits) }, (refl, tt))),
      refl,
    )
    each (DropId k) fits = absurd fits

addition-reader : IsReader IsAddition item_text addition_at
unfolding addition_at
addition-reader =
    mapped-reader FitsAddition addition-spelled
    (both (literal_at (codes "ADD "))
    (λ _. both (number_at 0 999999999 10) (λ n. both (bytes_at n) (λ _. literal_at (10 ∷ []))))) IsAddition
    item_text addition_of
    (both-reader Always (λ _. codes "ADD ") (literal_at (codes "ADD ")) (λ _ p. IsFrom 0 999999999 p.0
    × (HasLength p.0 p.1.0 × Unit {0})) (λ _ p. ended 10 p.0 ++ (p.1.0 ++ 10 ∷ []))
    (λ _. both (number_at 0 999999999 10) (λ n. both (bytes_at n) (λ _. literal_at (10 ∷ []))))
    (literal-reader (codes "ADD "))
    (λ _ _. both-reader (IsFrom 0 999999999) (ended 10) (number_at 0 999999999 10) (λ n p. HasLength n p.0
    × Unit {0}) (λ n p. p.0 ++ 10 ∷ [])
    (λ n. both (bytes_at n) (λ _. literal_at (10 ∷ []))) (nine-reader 10 refl)
    (λ n _. both-reader (HasLength n) (λ bytes. bytes) (bytes_at n) (λ _. Always) (λ _ _. 10 ∷ [])
    (λ _. literal_at (10 ∷ [])) (bytes-reader n) (λ _ _. literal-reader (10 ∷ [])) (λ _ _. (tt, tt)))
    (λ n _. ((replicate n 0, tt), (length-replicate n 0, tt))))
    (λ _ _. ((0, ([], tt)), (from-none, (refl, tt)))))
    addition-stands

-- A removal.

abbrev IsRemoval : BatchItem → Type 0
IsRemoval (AddText text) = ⊥
IsRemoval (DropId k) = k < 1000000000

abbrev RemovalRead : Type 0
RemovalRead = Unit {0} × ℕ

abbrev FitsRemoval : RemovalRead → Type 0
FitsRemoval p = Unit {0} × IsFrom 0 999999999 p.1

abbrev removal-spelled : RemovalRead → List ℕ
removal-spelled p = codes "DROP a" ++ ended 10 p.1

abbrev removal_of : RemovalRead → BatchItem
removal_of p = DropId p.1

removal-stands : Stands FitsRemoval removal-spelled IsRemoval item_text removal_of
removal-stands = record { fits = λ p fits. by p fits; each = λ item fits. each item fits }
  where
    by : (p : RemovalRead) → FitsRemoval p → IsRemoval (removal_of p) × (item_text (removal_of p) ≡ removal-spelled p)
    by p fits = let high = fits.1.most_is in
        (omega (arith, high), append_assoc (codes "DROP a") (decimal p.1) (10 ∷ []))

    each : (item : BatchItem) → IsRemoval item → (p : RemovalRead) × FitsRemoval p × (removal_of p ≡ item)
    each (AddText text) fits = absurd fits
    each (DropId k) fits = ((tt, k), (tt, record { least_is = omega arith; most_is = omega (arith, fits) }), refl)

removal-reader : IsReader IsRemoval item_text removal_at
unfolding removal_at
removal-reader =
    mapped-reader FitsRemoval removal-spelled (both (literal_at (codes "DROP a")) (λ _. number_at 0 999999999 10))
    IsRemoval item_text removal_of
    (both-reader Always (λ _. codes "DROP a") (literal_at (codes "DROP a")) (λ _. IsFrom 0 999999999) (λ _. ended 10)
    (λ _. number_at 0 999999999 10) (literal-reader (codes "DROP a")) (λ _ _. nine-reader 10 refl)
    (λ _ _. (0, from-none)))
    removal-stands

-- An item.

some-addition : (item : BatchItem) → IsAddition item → IsShortItem item
some-addition (AddText text) fits = fits
some-addition (DropId k) fits = absurd fits

some-removal : (item : BatchItem) → IsRemoval item → IsShortItem item
some-removal (AddText text) fits = absurd fits
some-removal (DropId k) fits = fits

any-item : (text rest : List ℕ) → text ≡ rest → Fronts IsShortItem item_text text rest
any-item text rest same =
    record {
      front = [];
      value = DropId 0;
      behind = item_text (DropId 0);
      fits = omega arith;
      cut = same;
      begins =
          refl;
    }

item-sound : (text : List ℕ) (item : BatchItem) (rest : List ℕ) → item_at text ≡ got item rest → IsShortItem item
    × (text ≡ item_text item ++ rest)
unfolding item_at
item-sound [] item rest e = absurd (cc (e))
item-sound (b ∷ text) item rest e =
    elim (chosen (b == 65) (addition_at (b ∷ text)) (cond (b == 68) (removal_at (b ∷ text)) (stopped (b ∷ text)))
    (got item rest) e) [
      | inl h ↦ let s = addition-reader.sound (b ∷ text) item rest h.1 in (some-addition item s.0, s.1)
      | inr h ↦ elim (chosen (b == 68) (removal_at (b ∷ text)) (stopped (b ∷ text)) (got item rest) h.1) [
        | inl g ↦ let s = removal-reader.sound (b ∷ text) item rest g.1 in (some-removal item s.0, s.1)
        | inr g ↦ absurd (cc (g.1))
      ]
    ]

item-whole : (item : BatchItem) (rest : List ℕ) → IsShortItem item → item_at (item_text item ++ rest) ≡ got item rest
unfolding item_at
item-whole (AddText text) rest fits = addition-reader.whole (AddText text) rest fits
item-whole (DropId k) rest fits = removal-reader.whole (DropId k) rest fits

item-fronts : (text rest : List ℕ) → item_at text ≡ stopped rest → Fronts IsShortItem item_text text rest
unfolding item_at
item-fronts [] rest e = any-item [] rest (stopped_is [] rest e)
item-fronts (b ∷ text) rest e =
    elim (chosen (b == 65) (addition_at (b ∷ text)) (cond (b == 68) (removal_at (b ∷ text)) (stopped (b ∷ text)))
    (stopped rest) e) [
      | inl h ↦
          let f = addition-reader.fronts (b ∷ text) rest h.1 in
          record {
            front = f.front;
            value = f.value;
            behind = f.behind;
            fits = some-addition f.value f.fits;
            cut =
                f.cut;
            begins = f.begins;
          }
      | inr h ↦ elim (chosen (b == 68) (removal_at (b ∷ text)) (stopped (b ∷ text)) (stopped rest) h.1) [
        | inl g ↦
            let f = removal-reader.fronts (b ∷ text) rest g.1 in
            record {
              front = f.front;
              value = f.value;
              behind = f.behind;
              fits = some-removal f.value f.fits;
              cut =
                  f.cut;
              begins = f.begins;
            }
        | inr g ↦ any-item (b ∷ text) rest (stopped_is (b ∷ text) rest g.1)
      ]
    ]

item-local : (front : List ℕ) (b : ℕ) (more other : List ℕ) → item_at (front ++ b ∷ more) ≡ stopped (b ∷ more)
    → item_at (front ++ b ∷ other) ≡ stopped (b ∷ other)
unfolding item_at
item-local [] b more other e =
    elim (chosen (b == 65) (addition_at (b ∷ more)) (cond (b == 68) (removal_at (b ∷ more)) (stopped (b ∷ more)))
    (stopped (b ∷ more)) e) [
      | inl h ↦ rw h.0 (addition-reader.local [] b more other h.1)
      | inr h ↦ elim (chosen (b == 68) (removal_at (b ∷ more)) (stopped (b ∷ more)) (stopped (b ∷ more)) h.1) [
        | inl g ↦ rw (h.0, g.0) (removal-reader.local [] b more other g.1)
        | inr g ↦ rw (h.0, g.0) refl
      ]
    ]
item-local (x ∷ front) b more other e =
    elim (chosen (x == 65) (addition_at (x ∷ (front ++ b ∷ more)))
    (cond (x == 68) (removal_at (x ∷ (front ++ b ∷ more))) (stopped (x ∷ (front ++ b ∷ more)))) (stopped (b ∷ more))
    e) [
      | inl h ↦ rw h.0 (addition-reader.local (x ∷ front) b more other h.1)
      | inr h ↦ elim (chosen (x == 68) (removal_at (x ∷ (front ++ b ∷ more))) (stopped (x ∷ (front ++ b ∷ more)))
          (stopped (b ∷ more)) h.1) [
            | inl g ↦ rw (h.0, g.0) (removal-reader.local (x ∷ front) b more other g.1)
            | inr g ↦ absurd (not_behind x front more b (stopped_is (x ∷ (front ++ b ∷ more)) (b ∷ more) g.1))
          ]
    ]

item-reader : IsReader IsShortItem item_text item_at
item-reader = record { sound = item-sound; whole = item-whole; fronts = item-fronts; local = item-local }

-- An update.

update-pieces : (caller count items : List ℕ) → codes "UPDATE " ++ caller ++ 32 ∷ count ++ 10 ∷ items ≡ codes "UPDATE "
    ++ ((caller ++ 32 ∷ []) ++ ((count ++ 10 ∷ []) ++ items))
update-pieces caller count items = simp append_assoc

abbrev UpdateRead : Type 0
UpdateRead = Unit {0} × (ℕ × (ℕ × List BatchItem))

abbrev FitsUpdate : UpdateRead → Type 0
FitsUpdate p = Unit {0} × (IsFrom 0 999999999 p.1.0 × (IsFrom 1 256 p.1.1.0 × AreTimes IsShortItem p.1.1.0 p.1.1.1))

abbrev update-spelled : UpdateRead → List ℕ
update-spelled p = codes "UPDATE " ++ (ended 32 p.1.0 ++ (ended 10 p.1.1.0 ++ flat_map item_text p.1.1.1))

abbrev update_read : UpdateRead → ReceivedUpdate
update_read p = record { caller = p.1.0; items = p.1.1.1 }

update-stands : Stands FitsUpdate update-spelled IsTellable received_text update_read
update-stands = record { fits = λ p fits. by p fits; each = λ u fits. each u fits }
  where
    by : (p : UpdateRead) → FitsUpdate p → IsTellable (update_read p)
        × (received_text (update_read p) ≡ update-spelled p)
    by p fits =
        let high = fits.1.0.most_is in
        let some = fits.1.1.0.least_is in
        let few = fits.1.1.0.most_is in
        let size : length p.1.1.1 ≡ p.1.1.0 = fits.1.1.1.0 in (
          record {
            caller = omega (arith, high);
            some = omega (arith, size, some);
            few = omega (arith, size, few);
            items = fits.1.1.1.1;
          },
          update-pieces (decimal p.1.0) (decimal (length p.1.1.1)) (flat_map item_text p.1.1.1)
              ∙ ap (λ n. codes "UPDATE " ++ (ended 32 p.1.0 ++ (ended 10 n ++ flat_map item_text p.1.1.1))) size,
        )

    each : (u : ReceivedUpdate) → IsTellable u → (p : UpdateRead) × FitsUpdate p × (update_read p ≡ u)
    each u fits =
        let high = fits.caller in (
          (tt, (u.caller, (length u.items, u.items))),
          (
            tt,
            (
              record { least_is = omega arith; most_is = omega (arith, high) },
              (record { least_is = fits.some; most_is = fits.few }, (refl, fits.items)),
            ),
          ),
          refl,
        )

one-update : (n : ℕ) → (items : List BatchItem) × AreTimes IsShortItem n items
one-update n = some-times IsShortItem (DropId 0) (omega arith) n

update-reader : IsReader IsTellable received_text update_at
unfolding update_at
update-reader =
    mapped-reader FitsUpdate update-spelled
    (both (literal_at (codes "UPDATE "))
    (λ _. both (number_at 0 999999999 32) (λ _. both (number_at 1 256 10) (λ n. times item_at n)))) IsTellable
    received_text update_read
    (both-reader Always (λ _. codes "UPDATE ") (literal_at (codes "UPDATE ")) (λ _ p. IsFrom 0 999999999 p.0
    × (IsFrom 1 256 p.1.0 × AreTimes IsShortItem p.1.0 p.1.1))
    (λ _ p. ended 32 p.0 ++ (ended 10 p.1.0 ++ flat_map item_text p.1.1))
    (λ _. both (number_at 0 999999999 32) (λ _. both (number_at 1 256 10) (λ n. times item_at n)))
    (literal-reader (codes "UPDATE "))
    (λ _ _. both-reader (IsFrom 0 999999999) (ended 32) (number_at 0 999999999 32) (λ _ p. IsFrom 1 256 p.0
    × AreTimes IsShortItem p.0 p.1) (λ _ p. ended 10 p.0 ++ flat_map item_text p.1)
    (λ _. both (number_at 1 256 10) (λ n. times item_at n)) (nine-reader 32 refl)
    (λ _ _. both-reader (IsFrom 1 256) (ended 10) (number_at 1 256 10) (λ n. AreTimes IsShortItem n)
    (λ _. flat_map item_text) (λ n. times item_at n)
    (number-reader 1 256 10 (record { order = omega arith; small = omega arith; plain = refl }))
    (λ n _. times-reader IsShortItem item_text item_at (DropId 0) (omega arith) item-reader n) (λ n _. one-update n))
    (λ _ _. let one = one-update 1 in ((1, one.0), (record { least_is = omega arith; most_is = omega arith }, one.1))))
    (λ _ _. let one = one-update 1 in
    ((0, (1, one.0)), (from-none, (record { least_is = omega arith; most_is = omega arith }, one.1)))))
    update-stands

-- A reply.

reply-pieces : (from count place updates : List ℕ) → codes "LOG " ++ from ++ 32 ∷ count ++ 32 ∷ place ++ 10 ∷ updates
    ++ codes "END\n" ≡ codes "LOG "
    ++ ((from ++ 32 ∷ []) ++ ((count ++ 32 ∷ []) ++ ((place ++ 10 ∷ []) ++ (updates ++ codes "END\n"))))
reply-pieces from count place updates = simp append_assoc

abbrev ReplyRead : Type 0
ReplyRead = Unit {0} × (ℕ × (ℕ × (ℕ × (List ReceivedUpdate × Unit {0}))))

abbrev FitsReply : ReplyRead → Type 0
FitsReply p =
    Unit {0} × (IsFrom 0 999999999 p.1.0
    × (IsFrom 0 (most_updates p.1.0) p.1.1.0
    × (IsFrom (p.1.0 + p.1.1.0) (greatest_place p.1.0 p.1.1.0) p.1.1.1.0
    × (AreTimes IsTellable p.1.1.0 p.1.1.1.1.0 × Unit {0}))))

abbrev reply-spelled : ReplyRead → List ℕ
reply-spelled p =
    codes "LOG " ++ (ended 32 p.1.0
    ++ (ended 32 p.1.1.0 ++ (ended 10 p.1.1.1.0 ++ (flat_map received_text p.1.1.1.1.0 ++ codes "END\n"))))

abbrev reply_read : ReplyRead → LogReply
reply_read p = record { from = p.1.0; place = p.1.1.1.0; updates = p.1.1.1.1.0 }

-- the greatest place is that of all numbers, or there is one place alone
greatest-cases : (from count : ℕ) → ((count ≡ 16) × (greatest_place from count ≡ 999999999))
    ⊎ ((count ≡ 16 → ⊥) × (greatest_place from count ≡ from + count))
greatest-cases from count =
    elim (cases_Bool (count == 16)) [
      | inl h ↦ inl ((Decides-eqb count 16).0 h, rw h refl)
      | inr h ↦ inr (λ same. absurd (cc (sym ((Decides-eqb count 16).1 same) ∙ h)), rw h refl)
    ]

pub place-bounds : (from count : ℕ) → from ≤ 999999999 → count ≤ most_updates from
    → AreBounds (from + count) (greatest_place from count) 10
place-bounds from count small few =
    elim (greatest-cases from count) [
      | inl h ↦ let full = h.0 in let top = h.1 in
          record { order = omega (arith, small, few, full, top); small = omega (arith, top); plain = refl }
      | inr h ↦ let top = h.1 in
          record { order = omega (arith, top); small = omega (arith, small, few, top); plain = refl }
    ]

count-bounds : (from : ℕ) → AreBounds 0 (most_updates from) 32
count-bounds from = record { order = omega arith; small = omega arith; plain = refl }

fits-form : (from count place : ℕ) (updates : List ReceivedUpdate) → IsFrom 0 999999999 from
    → IsFrom 0 (most_updates from) count → IsFrom (from + count) (greatest_place from count) place
    → AreTimes IsTellable count updates → HasForm (record { from = from; place = place; updates = updates })
fits-form from count place updates f c p us =
    let small = f.most_is in
    let few = c.most_is in
    let low = p.least_is in
    let high = p.most_is in
    let size : length updates ≡ count = us.0 in
    elim (greatest-cases from count) [
      | inl h ↦ let full = h.0 in let top = h.1 in
          record {
            behind = omega (arith, low);
            short = omega (arith, high, top);
            count =
                omega (arith, size, full, low);
            each = us.1;
          }
      | inr h ↦ let top = h.1 in
          record {
            behind = omega (arith, low);
            short = omega (arith, high, top, small, few);
            count =
                omega (arith, size, few, low, high, top);
            each = us.1;
          }
    ]

form-place : (reply : LogReply) → HasForm reply
    → IsFrom (reply.from + length reply.updates) (greatest_place reply.from (length reply.updates)) reply.place
form-place reply form =
    let behind = form.behind in
    let short = form.short in
    let count = form.count in
    elim (greatest-cases reply.from (length reply.updates)) [
      | inl h ↦ let full = h.0 in let top = h.1 in
          record { least_is = omega (arith, full, count, behind); most_is = omega (arith, top, short) }
      | inr h ↦ let top = h.1 in
          let fewer : length reply.updates ≡ reply.place - reply.from = fewer-than_most reply h.0 form.count in
          record { least_is = omega (arith, fewer, behind); most_is = omega (arith, top, fewer, behind) }
    ]
  where
    fewer-than_most : (reply : LogReply) → (length reply.updates ≡ 16 → ⊥)
        → length reply.updates ≡ min 16 (reply.place - reply.from) → length reply.updates ≡ reply.place - reply.from
    fewer-than_most reply other count = elim (cases_lt (reply.place - reply.from) 16) [
      | inl h ↦ omega (arith, count, h)
      | inr h ↦ let full : length reply.updates ≡ 16 = omega (arith, count, h) in absurd (other full)
    ]

reply-stands : Stands FitsReply reply-spelled HasForm form_text reply_read
reply-stands = record { fits = λ p fits. by p fits; each = λ reply form. each reply form }
  where
    by : (p : ReplyRead) → FitsReply p → HasForm (reply_read p) × (form_text (reply_read p) ≡ reply-spelled p)
    by p fits =
        let us = fits.1.1.1.1.0 in (
          fits-form p.1.0 p.1.1.0 p.1.1.1.0 p.1.1.1.1.0 fits.1.0 fits.1.1.0 fits.1.1.1.0 us,
          reply-pieces (decimal p.1.0) (decimal (length p.1.1.1.1.0)) (decimal p.1.1.1.0)
              (flat_map received_text p.1.1.1.1.0)
              ∙ ap (λ n. codes "LOG "
              ++ (ended 32 p.1.0
              ++ (ended 32 n ++ (ended 10 p.1.1.1.0 ++ (flat_map received_text p.1.1.1.1.0 ++ codes "END\n"))))) us.0,
        )

    each : (reply : LogReply) → HasForm reply → (p : ReplyRead) × FitsReply p × (reply_read p ≡ reply)
    each reply form =
        let behind = form.behind in
        let short = form.short in
        let count = form.count in (
          (tt, (reply.from, (length reply.updates, (reply.place, (reply.updates, tt))))),
          (
            tt,
            (
              record { least_is = omega arith; most_is = omega (arith, behind, short) },
              (
                record { least_is = omega arith; most_is = omega (arith, count, short) },
                (form-place reply form, ((refl, form.each), tt)),
              ),
            ),
          ),
          refl,
        )

abbrev some-update : ReceivedUpdate
some-update = record { caller = 0; items = DropId 0 ∷ [] }

some-tellable : IsTellable some-update
some-tellable = record { caller = omega arith; some = omega arith; few = omega arith; items = (omega arith, tt) }

some-updates : (n : ℕ) → (updates : List ReceivedUpdate) × AreTimes IsTellable n updates
some-updates n = some-times IsTellable some-update some-tellable n

first-place : (from count : ℕ) → from ≤ 999999999 → count ≤ most_updates from
    → IsFrom (from + count) (greatest_place from count) (from + count)
first-place from count small few = let b = place-bounds from count small few in
    record { least_is = omega arith; most_is = b.order }

pub reply-reader : IsReader HasForm form_text reply_at
unfolding reply_at
reply-reader =
    mapped-reader FitsReply reply-spelled
    (both (literal_at (codes "LOG "))
    (λ _. both (number_at 0 999999999 32)
    (λ from. both (number_at 0 (most_updates from) 32)
    (λ count. both (number_at (from + count) (greatest_place from count) 10)
    (λ _. both (times update_at count) (λ _. literal_at (codes "END\n")))))))
    HasForm form_text reply_read
    (both-reader Always (λ _. codes "LOG ") (literal_at (codes "LOG "))
    (λ _ p. IsFrom 0 999999999 p.0
    × (IsFrom 0 (most_updates p.0) p.1.0
    × (IsFrom (p.0 + p.1.0) (greatest_place p.0 p.1.0) p.1.1.0 × (AreTimes IsTellable p.1.0 p.1.1.1.0 × Unit {0}))))
    (λ _ p. ended 32 p.0
    ++ (ended 32 p.1.0 ++ (ended 10 p.1.1.0 ++ (flat_map received_text p.1.1.1.0 ++ codes "END\n"))))
    (λ _. both (number_at 0 999999999 32)
    (λ from. both (number_at 0 (most_updates from) 32)
    (λ count. both (number_at (from + count) (greatest_place from count) 10)
    (λ _. both (times update_at count) (λ _. literal_at (codes "END\n"))))))
    (literal-reader (codes "LOG "))
    (λ _ _. both-reader (IsFrom 0 999999999) (ended 32) (number_at 0 999999999 32)
    (λ from p. IsFrom 0 (most_updates from) p.0
    × (IsFrom (from + p.0) (greatest_place from p.0) p.1.0 × (AreTimes IsTellable p.0 p.1.1.0 × Unit {0})))
    (λ _ p. ended 32 p.0 ++ (ended 10 p.1.0 ++ (flat_map received_text p.1.1.0 ++ codes "END\n")))
    (λ from. both (number_at 0 (most_updates from) 32)
    (λ count. both (number_at (from + count) (greatest_place from count) 10)
    (λ _. both (times update_at count) (λ _. literal_at (codes "END\n")))))
    (nine-reader 32 refl)
    (λ from f. both-reader (IsFrom 0 (most_updates from)) (ended 32) (number_at 0 (most_updates from) 32)
    (λ count p. IsFrom (from + count) (greatest_place from count) p.0 × (AreTimes IsTellable count p.1.0 × Unit {0}))
    (λ _ p. ended 10 p.0 ++ (flat_map received_text p.1.0 ++ codes "END\n"))
    (λ count. both (number_at (from + count) (greatest_place from count) 10)
    (λ _. both (times update_at count) (λ _. literal_at (codes "END\n"))))
    (number-reader 0 (most_updates from) 32 (count-bounds from))
    (λ count c. both-reader (IsFrom (from + count) (greatest_place from count)) (ended 10)
    (number_at (from + count) (greatest_place from count) 10)
    (λ _ p. AreTimes IsTellable count p.0 × Unit {0}) (λ _ p. flat_map received_text p.0 ++ codes "END\n")
    (λ _. both (times update_at count) (λ _. literal_at (codes "END\n")))
    (number-reader (from + count) (greatest_place from count) 10 (place-bounds from count f.most_is c.most_is))
    (λ _ _. both-reader (AreTimes IsTellable count) (flat_map received_text) (times update_at count) (λ _. Always)
    (λ _ _. codes "END\n") (λ _. literal_at (codes "END\n"))
    (times-reader IsTellable received_text update_at some-update some-tellable update-reader count)
    (λ _ _. literal-reader (codes "END\n")) (λ _ _. (tt, tt)))
    (λ _ _. let us = some-updates count in ((us.0, tt), (us.1, tt))))
    (λ count c. let us = some-updates count in
    ((from + count, (us.0, tt)), (first-place from count f.most_is c.most_is, (us.1, tt)))))
    (λ from f. (
      (0, (from + 0, ([], tt))),
      (
        record { least_is = omega arith; most_is = omega arith },
        (first-place from 0 f.most_is (omega arith), ((refl, tt), tt)),
      ),
    )))
    (λ _ _. (
      (0, (0, (0, ([], tt)))),
      (
        from-none,
        (
          record { least_is = omega arith; most_is = omega arith },
          (first-place 0 0 (omega arith) (omega arith), ((refl, tt), tt)),
        ),
      ),
    )))
    reply-stands

-- Whole texts.

pub whole-read : (text : List ℕ) (reply : LogReply) → IsLogText text reply → reply_at text ≡ got reply []
whole-read text reply is = ap reply_at (is.same ∙ sym (append-nil (form_text reply)))
    ∙ reply-reader.whole reply [] is.form

pub read-whole : (text : List ℕ) (reply : LogReply) → reply_at text ≡ got reply [] → IsLogText text reply
read-whole text reply e = let s = reply-reader.sound text reply [] e in
    record { form = s.0; same = s.1 ∙ append-nil (form_text reply) }

pub take-one : (front : List ℕ) (b : ℕ) (more : List ℕ) → take (length front + 1) (front ++ b ∷ more) ≡ front ++ b ∷ []
take-one front b more =
    let size : length (front ++ b ∷ []) ≡ length front + 1 = length-append front (b ∷ []) in
    ap (take (length front + 1)) (sym (append_assoc front (b ∷ []) more))
    ∙ take_at (front ++ b ∷ []) more (length front + 1) size

-- No text of the form begins with these bytes and this one.
pub record IsNoFront (front : List ℕ) (b : ℕ) : Type 0 where
  pub none : (reply : LogReply) (behind : List ℕ) → HasForm reply → form_text reply ≡ (front ++ b ∷ []) ++ behind → ⊥

departs-before : (text front : List ℕ) (b : ℕ) (more : List ℕ) → text ≡ front ++ b ∷ more → IsFront front
    → ((reply : LogReply) → IsLogText text reply → ⊥) → IsNoFront front b → DepartsAt text (length front)
departs-before text front b more cut is unformed nothing =
    let size = ap length cut in
    let parts = length-append front (b ∷ more) in
    record {
      front = subst IsFront (sym (ap (take (length front)) cut ∙ take_at front (b ∷ more) (length front) refl)) is;
      unformed = unformed;
      stops = inr (
        omega (arith, size, parts),
        λ longer. nothing.none longer.reply longer.rest longer.form (longer.begins
            ∙ ap (λ l. l ++ longer.rest) (ap (take (length front + 1)) cut ∙ take-one front b more)),
      );
    }

departs-at_end : (text front : List ℕ) → text ≡ front ++ [] → IsFront front
    → ((reply : LogReply) → IsLogText text reply → ⊥) → DepartsAt text (length front)
departs-at_end text front cut is unformed =
    let same : text ≡ front = cut ∙ append-nil front in
    record {
      front = subst IsFront (sym (ap (take (length front)) cut ∙ take_at front [] (length front) refl)) is;
      unformed = unformed;
      stops = inl (ap length (sym same));
    }

pub cut-size : (text front rest : List ℕ) → text ≡ front ++ rest → length front ≡ length text - length rest
cut-size text front rest cut = let size = ap length cut in let parts = length-append front rest in
    omega (arith, size, parts)

pub stops-departs : (text rest : List ℕ) → reply_at text ≡ stopped rest → DepartsAt text (length text - length rest)
stops-departs text rest e =
    let f = reply-reader.fronts text rest e in
    let is : IsFront f.front = record { reply = f.value; rest = f.behind; form = f.fits; begins = f.begins } in
    let clash : (reply : LogReply) → got reply [] ≡ stopped rest → ⊥ = λ reply h. cc (h) in
    let unformed : (reply : LogReply) → IsLogText text reply
    → ⊥ = λ reply whole. clash reply (sym (whole-read text reply whole) ∙ e) in
    subst (DepartsAt text) (cut-size text f.front rest f.cut) (by rest e f.front f.cut is unformed)
  where
    by : (left : List ℕ) → reply_at text ≡ stopped left → (front : List ℕ) → text ≡ front ++ left → IsFront front
        → ((reply : LogReply) → IsLogText text reply → ⊥) → DepartsAt text (length front)
    by [] e front cut is unformed = departs-at_end text front cut is unformed
    by (b ∷ more) e front cut is unformed =
        let u = stops-unspelled HasForm form_text reply_at reply-reader front b more (ap reply_at (sym cut) ∙ e) in
        departs-before text front b more cut is unformed
        (record { none = λ reply behind form begins. u.none reply behind form begins })

not_nil : (b : ℕ) (l : List ℕ) → [] ≡ b ∷ l → ⊥
not_nil b l e = cc

-- bytes behind a whole reply can't stand there
pub behind-departs : (text : List ℕ) (reply : LogReply) (b : ℕ) (more : List ℕ) → reply_at text ≡ got reply (b ∷ more)
    → DepartsAt text (length text - length (b ∷ more))
behind-departs text reply b more e =
    let s = reply-reader.sound text reply (b ∷ more) e in
    let is : IsFront (form_text reply) =
    record { reply = reply; rest = []; form = s.0; begins = sym (append-nil (form_text reply)) } in
    let clash : (other : LogReply) (behind : List ℕ) → got other [] ≡ got reply (b ∷ behind)
    → ⊥ = λ other behind h. not_nil b behind (got_is other reply [] (b ∷ behind) h).1 in
    let unformed : (other : LogReply) → IsLogText text other
    → ⊥ = λ other whole. clash other more (sym (whole-read text other whole) ∙ e) in
    let nothing : IsNoFront (form_text reply) b = record {
      none = λ other behind form begins.
          let whole : reply_at (form_text other) ≡ got other [] = ap reply_at (sym (append-nil (form_text other)))
          ∙ reply-reader.whole other [] form in
          let same : reply_at (form_text other) ≡ got reply (b ∷ behind) =
          ap reply_at (begins ∙ append_assoc (form_text reply) (b ∷ []) behind)
          ∙ reply-reader.whole reply (b ∷ behind) s.0 in
          clash other behind (sym whole ∙ same);
    } in
    subst (DepartsAt text) (cut-size text (form_text reply) (b ∷ more) s.1)
    (departs-before text (form_text reply) b more s.1 is unformed nothing)

-- The laws of the form.

pub some-reading : SomeReading
some-reading text = by (reply_at text) refl
  where
    rest-of : (reply : LogReply) (rest : List ℕ) → reply_at text ≡ got reply rest → ((r : LogReply) × IsLogText text r)
        ⊎ ((at : ℕ) × DepartsAt text at)
    rest-of reply [] e = inl (reply, read-whole text reply e)
    rest-of reply (b ∷ more) e = inr (length text - length (b ∷ more), behind-departs text reply b more e)

    by : (found : Read LogReply) → reply_at text ≡ found → ((r : LogReply) × IsLogText text r)
        ⊎ ((at : ℕ) × DepartsAt text at)
    by (Ok x) e = rest-of x.0 x.1 e
    by (Err rest) e = inr (length text - length rest, stops-departs text rest e)

front-before : (text : List ℕ) (at other : ℕ) → DepartsAt text at → DepartsAt text other → at < other → ⊥
front-before text at other d o before = by d.stops
  where
    by : (at ≡ length text) ⊎ ((at < length text) × (IsFront (take (at + 1) text) → ⊥)) → ⊥
    by (inl end) = later o.stops
      where
        later : (other ≡ length text) ⊎ ((other < length text) × (IsFront (take (other + 1) text) → ⊥)) → ⊥
        later (inl e) = absurd (omega (arith, before, end, e))
        later (inr e) = let l = e.0 in absurd (omega (arith, before, end, l))
    by (inr h) =
        let f = o.front in
        let less : at + 1 ≤ other = omega (arith, before) in
        let cut : take other text ≡ take (at + 1) text ++ drop (at + 1) (take other text) =
        sym (take-append-drop (at + 1) (take other text))
        ∙ ap (λ l. l ++ drop (at + 1) (take other text)) (take-take (at + 1) other text less) in
        h.1 (record {
          reply = f.reply;
          rest = drop (at + 1) (take other text) ++ f.rest;
          form = f.form;
          begins = f.begins ∙ ap (λ l. l ++ f.rest) cut
              ∙ append_assoc (take (at + 1) text) (drop (at + 1) (take other text)) f.rest;
        })

pub one-reading : (text : List ℕ) → OneReading text
one-reading text = record {
  one_reply = λ reply other is also.
      (got_is reply other [] [] (sym (whole-read text reply is) ∙ whole-read text other also)).0;
  one_byte = λ at other d o. elim (cases_order at other) [
    | inl h ↦ h
    | inr h ↦ elim h [
      | inl g ↦ absurd (front-before text at other d o g)
      | inr g ↦ absurd (front-before text other at o d g)
    ]
  ];
  not_both = λ reply at is d. d.unformed reply is;
}

-- What the reader in code is told.

pub nothing-left : (text : List ℕ) → true ≡ (length text == 0) → text ≡ []
nothing-left [] e = refl
nothing-left (b ∷ text) e = let none = (Decides-eqb (length (b ∷ text)) 0).0 (sym e) in absurd (omega (arith, none))

pub whole_form : (text : List ℕ) (reply : LogReply) (rest : List ℕ) → reply_at text ≡ got reply rest
    → true ≡ (length rest == 0) → IsLogText text reply
whole_form text reply rest e none = read-whole text reply (e ∙ ap (λ l. got reply l) (nothing-left rest none))

pub behind_form : (text : List ℕ) (reply : LogReply) (rest : List ℕ) (fault : FollowFault)
    → reply_at text ≡ got reply rest → false ≡ (length rest == 0) → fault ≡ Line (length text - length rest)
    → IsReadFault text fault
behind_form text reply [] fault e some is = absurd (cc (some))
behind_form text reply (b ∷ more) fault e some is =
    subst (IsReadFault text) (sym is) (behind-departs text reply b more e)

pub stops_form : (text rest : List ℕ) (fault : FollowFault) → reply_at text ≡ stopped rest
    → fault ≡ Line (length text - length rest) → IsReadFault text fault
stops_form text rest fault e is = subst (IsReadFault text) (sym is) (stops-departs text rest e)

pub read_within : (text : List ℕ) (reply : LogReply) (rest : List ℕ) → reply_at text ≡ got reply rest
    → length rest ≤ length text
read_within text reply rest e =
    let s = reply-reader.sound text reply rest e in
    let size = ap length s.1 in
    let parts = length-append (form_text reply) rest in
    omega (arith, size, parts)

pub stop_within : (text rest : List ℕ) → reply_at text ≡ stopped rest → length rest ≤ length text
stop_within text rest e =
    let f = reply-reader.fronts text rest e in
    let size = ap length f.cut in
    let parts = length-append f.front rest in
    omega (arith, size, parts)
