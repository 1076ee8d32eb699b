-- Replies to LOG.
use Rattle.std.proofs.Common.{◌≡◌, ◌≢◌, ℕ, zero, suc, ◌+◌, ◌-◌, ◌<◌, ◌≤◌, min, List, [], ◌∷◌, ◌++◌, length, take, drop}
use Rattle.std.proofs.Common.{get_or, codes, decimal, flat_map, replicate, Option, Some, None, refl, sym, ap, ◌∙◌}
use Rattle.std.proofs.Common.{arith, subst, inl, inr, append_assoc, length-append, length-drop}
use Rattle.std.specs.List.{All}
use Rattle.std.proofs.lemmas.Bool.{cases_eq, cases_lt}
use Rattle.std.proofs.lemmas.List.{append-nil, nil_from_length, take_at, drop_at, take_all, drop_all, length-take}
use Rattle.std.proofs.lemmas.List.{length-take-le, length-replicate, take-append-drop}
use Rattle.kn_base.specs.declared.limits.TheConstants.{LOG_UPDATES}
use Rattle.kn_history.specs.declared.update.Change.{Change}
use Rattle.kn_history.specs.declared.update.Change.TheVariants.{Add, Remove}
use Rattle.kn_history.specs.declared.update.Update.{Update}
use Rattle.kn_wire.specs.Items.{item_text}
use Rattle.kn_reply.specs.Logs.{change_text, item_of_change, log_part, update_text, log_text}
use Rattle.kn_reply.specs.Replies.{Reply, Done, Started, Number, PrivateAdded, Added, Value, Batched, PinnedAt, Log}
use Rattle.kn_reply.specs.Replies.{News, Critical, No, NoMemory, reply_text}
use Rattle.kn_reply_reader.specs.Texts.{HasText, IsReadChange, IsReadUpdate}
use Rattle.kn_reply_reader.specs.Numerals.{IsNumberAt, HasNoNumber}
use Rattle.kn_reply_reader.specs.Fronts.{IsBehindOne, AreApart, TextOf, Items}
use Rattle.kn_reply_reader.specs.Kinds.{LogKind, IsTextOf, IsReadNumbered, IsShortId, IsShortText, addition_text}
use Rattle.kn_reply_reader.specs.Kinds.{removal_text, kind_of}
use Rattle.kn_reply_reader.proofs.Fronts.{Then, Just, Or, behind_same, apart_same, then_none, then_some, then_apart}
use Rattle.kn_reply_reader.proofs.Fronts.{just_apart, just_none, just_some, or_first, or_second, items_apart}
use Rattle.kn_reply_reader.proofs.ReplyLaws.{Counted, counted_apart, counted_none, counted_some}

-- Texts of a size.

abbrev Sized : ℕ → List ℕ → Type 0
Sized n text = length text ≡ n

sized_apart : (n : ℕ) → AreApart (Sized n)
sized_apart n a b r s is is' e = (
  sym (take_at a r n is) ∙ ap (λ (l : List ℕ). take n l) e ∙ take_at b s n is',
  sym (drop_at a r n is)
      ∙ ap (λ (l : List ℕ). drop n l) e ∙ drop_at b s n is',
)

sized_none : (n : ℕ) (left : List ℕ) → length left < n → IsBehindOne (Sized n) left None
sized_none n left short text rest is e =
    let size : length left ≡ length text + length rest = ap length e ∙ length-append text rest in
    omega (arith, size, short, is)

sized_some : (n : ℕ) (left : List ℕ) → n ≤ length left → IsBehindOne (Sized n) left (Some (drop n left))
sized_some n left within = (take n left, length-take-le n left within, sym (take-append-drop n left))

-- What holds only under a condition.

abbrev When : Type 0 → (List ℕ → Type 0) → List ℕ → Type 0
When P B text = P × B text

when_apart : (P : Type 0) (B : List ℕ → Type 0) → AreApart B → AreApart (When P B)
when_apart P B apart a b r s is is' e = apart a b r s is.1 is'.1 e

when_none : (P : Type 0) (B : List ℕ → Type 0) (left : List ℕ) → (P → ⊥) → IsBehindOne (When P B) left None
when_none P B left not text rest is e = not is.0

when_some : (P : Type 0) (B : List ℕ → Type 0) (left : List ℕ) (found : Option (List ℕ)) → P → IsBehindOne B left found
    → IsBehindOne (When P B) left found
when_some P B left None p none = λ text rest is e. none text rest is.1 e
when_some P B left (Some rest) p cut = (cut.0, (p, cut.1), cut.2)

-- Additions.

abbrev Sizing : ℕ → List ℕ → Type 0
Sizing n text = Then (Sized n) (Just (10 ∷ [])) text

abbrev AdditionParts : List ℕ → Type 0
AdditionParts text = Then (Just (codes "ADD ")) (Counted 999999999 10 Sizing) text

addition_whole : (x : List ℕ) → codes "ADD " ++ (decimal (length x) ++ 10 ∷ (x ++ 10 ∷ [])) ≡ addition_text x
addition_whole x = simp append_assoc

addition_from : (text : List ℕ) → AdditionParts text → TextOf IsShortText addition_text text
addition_from text is =
    let counted = is.3 in
    let sized = counted.3 in
    let x = sized.0 in
    let low : length x < 1000000000 = let few = counted.2 in let same = sized.2 in omega (arith, few, same) in
    let end : counted.1 ≡ x ++ 10 ∷ [] = sized.4 ∙ ap (λ (l : List ℕ). x ++ l) sized.3 in (
      x,
      low,
      is.4 ∙ ap (λ (l : List ℕ). l ++ is.1) is.2 ∙ ap (λ (l : List ℕ). codes "ADD " ++ l)
          (counted.4 ∙ ap (λ (l : List ℕ). decimal counted.0 ++ 10 ∷ l) end
          ∙ ap (λ (n : ℕ). decimal n ++ 10 ∷ (x ++ 10 ∷ [])) (sym sized.2)) ∙ addition_whole x,
    )

addition_to : (text : List ℕ) → TextOf IsShortText addition_text text → AdditionParts text
addition_to text is =
    let x = is.0 in
    let short = is.1 in (
      codes "ADD ",
      decimal (length x) ++ 10 ∷ (x ++ 10 ∷ []),
      refl,
      (length x, x ++ 10 ∷ [], omega (arith, short), (x, 10 ∷ [], refl, refl, refl), refl),
      is.2 ∙ sym (addition_whole x),
    )

sizing_apart : (n : ℕ) → AreApart (Sizing n)
sizing_apart n = then_apart (Sized n) (Just (10 ∷ [])) (sized_apart n) (just_apart (10 ∷ []))

addition_apart : AreApart (TextOf IsShortText addition_text)
addition_apart = apart_same AdditionParts (TextOf IsShortText addition_text) addition_to
    (then_apart (Just (codes "ADD ")) (Counted 999999999 10 Sizing) (just_apart (codes "ADD "))
    (counted_apart 999999999 10 Sizing (omega arith) (omega arith) sizing_apart))

module _ (left : List ℕ) where
  pub addition_none : ((rest : List ℕ) → left ≢ codes "ADD " ++ rest)
      → IsBehindOne (TextOf IsShortText addition_text) left None
  addition_none none =
      behind_same AdditionParts (TextOf IsShortText addition_text) left None addition_from addition_to
      (then_none (Just (codes "ADD ")) (Counted 999999999 10 Sizing) left (just_none (codes "ADD ") left none))

  module _ (counted : List ℕ) (first : left ≡ codes "ADD " ++ counted) where
    behind_add : (found : Option (List ℕ)) → IsBehindOne (Counted 999999999 10 Sizing) counted found
        → IsBehindOne (TextOf IsShortText addition_text) left found
    behind_add found is =
        behind_same AdditionParts (TextOf IsShortText addition_text) left found addition_from addition_to
        (then_some (Just (codes "ADD ")) (Counted 999999999 10 Sizing) left counted found (just_apart (codes "ADD "))
        (just_some (codes "ADD ") left counted first) is)

    pub addition_uncounted : HasNoNumber 999999999 10 counted → IsBehindOne (TextOf IsShortText addition_text) left None
    addition_uncounted none =
        behind_add None (counted_none 999999999 10 Sizing (omega arith) (omega arith) counted none)

    module _ (count : ℕ) (text : List ℕ) (at : IsNumberAt 999999999 10 counted count text) where
      behind_size : (found : Option (List ℕ)) → IsBehindOne (Sizing count) text found
          → IsBehindOne (TextOf IsShortText addition_text) left found
      behind_size found is =
          behind_add found (counted_some 999999999 10 Sizing (omega arith) (omega arith) counted text count found at is)

      pub addition_short : length text < count → IsBehindOne (TextOf IsShortText addition_text) left None
      addition_short short =
          behind_size None (then_none (Sized count) (Just (10 ∷ [])) text (sized_none count text short))

      module _ (within : count ≤ length text) (end : List ℕ) (is_end : end ≡ drop count text) where
        behind_text : (found : Option (List ℕ)) → IsBehindOne (Just (10 ∷ [])) end found
            → IsBehindOne (TextOf IsShortText addition_text) left found
        behind_text found is =
            behind_size found (then_some (Sized count) (Just (10 ∷ [])) text (drop count text) found (sized_apart count)
            (sized_some count text within)
            (subst (λ (l : List ℕ). IsBehindOne (Just (10 ∷ [])) l found) is_end is))

        pub addition_unended : ((rest : List ℕ) → end ≢ (10 ∷ []) ++ rest)
            → IsBehindOne (TextOf IsShortText addition_text) left None
        addition_unended none = behind_text None (just_none (10 ∷ []) end none)

        pub addition_end : (rest : List ℕ) → end ≡ (10 ∷ []) ++ rest
            → IsBehindOne (TextOf IsShortText addition_text) left (Some rest)
        addition_end rest cut = behind_text (Some rest) (just_some (10 ∷ []) end rest cut)

-- Removals.

abbrev Nothing : ℕ → List ℕ → Type 0
Nothing k text = Just [] text

abbrev RemovalParts : List ℕ → Type 0
RemovalParts text = Then (Just (codes "DROP a")) (Counted 999999999 10 Nothing) text

removal_from : (text : List ℕ) → RemovalParts text → TextOf IsShortId removal_text text
removal_from text is =
    let counted = is.3 in
    let few = counted.2 in (
      counted.0,
      omega (arith, few),
      is.4 ∙ ap (λ (l : List ℕ). l ++ is.1) is.2 ∙ ap (λ (l : List ℕ). codes "DROP a" ++ l)
          (counted.4 ∙ ap (λ (l : List ℕ). decimal counted.0 ++ 10 ∷ l) counted.3),
    )

removal_to : (text : List ℕ) → TextOf IsShortId removal_text text → RemovalParts text
removal_to text is =
    let short = is.1 in
    (codes "DROP a", decimal is.0 ++ 10 ∷ [], refl, (is.0, [], omega (arith, short), refl, refl), is.2)

nothing_apart : (k : ℕ) → AreApart (Nothing k)
nothing_apart k = just_apart []

removal_apart : AreApart (TextOf IsShortId removal_text)
removal_apart = apart_same RemovalParts (TextOf IsShortId removal_text) removal_to
    (then_apart (Just (codes "DROP a")) (Counted 999999999 10 Nothing) (just_apart (codes "DROP a"))
    (counted_apart 999999999 10 Nothing (omega arith) (omega arith) nothing_apart))

module _ (left : List ℕ) where
  pub removal_none : ((rest : List ℕ) → left ≢ codes "DROP a" ++ rest)
      → IsBehindOne (TextOf IsShortId removal_text) left None
  removal_none none =
      behind_same RemovalParts (TextOf IsShortId removal_text) left None removal_from removal_to
      (then_none (Just (codes "DROP a")) (Counted 999999999 10 Nothing) left (just_none (codes "DROP a") left none))

  module _ (number : List ℕ) (first : left ≡ codes "DROP a" ++ number) where
    behind_drop : (found : Option (List ℕ)) → IsBehindOne (Counted 999999999 10 Nothing) number found
        → IsBehindOne (TextOf IsShortId removal_text) left found
    behind_drop found is =
        behind_same RemovalParts (TextOf IsShortId removal_text) left found removal_from removal_to
        (then_some (Just (codes "DROP a")) (Counted 999999999 10 Nothing) left number found
        (just_apart (codes "DROP a")) (just_some (codes "DROP a") left number first) is)

    pub removal_unnumbered : HasNoNumber 999999999 10 number → IsBehindOne (TextOf IsShortId removal_text) left None
    removal_unnumbered none =
        behind_drop None (counted_none 999999999 10 Nothing (omega arith) (omega arith) number none)

    pub removal_end : (k : ℕ) (rest : List ℕ) → IsNumberAt 999999999 10 number k rest
        → IsBehindOne (TextOf IsShortId removal_text) left (Some rest)
    removal_end k rest at =
        behind_drop (Some rest)
        (counted_some 999999999 10 Nothing (omega arith) (omega arith) number rest k (Some rest) at ([], refl, refl))

-- Changes.

abbrev ChangeParts : List ℕ → Type 0
ChangeParts text = Or (TextOf IsShortText addition_text) (TextOf IsShortId removal_text) text

change_from : (text : List ℕ) → ChangeParts text → TextOf IsReadNumbered change_text text
change_from text (inl is) = (record { change = Add is.0; id = 0 }, is.1, is.2)
change_from text (inr is) = (record { change = Remove; id = is.0 }, is.1, is.2)

change_to : (text : List ℕ) → TextOf IsReadNumbered change_text text → ChangeParts text
change_to text is = go is.0.change is.0.id is.1 is.2
  where
    go : (change : Change) (id : ℕ) → IsReadChange change id → text ≡ item_text (item_of_change change id)
        → ChangeParts text
    go (Add x) id has same = inl (x, has, same)
    go Remove id has same = inr (id, has, same)

pub change_apart : AreApart (TextOf IsReadNumbered change_text)
change_apart a b r s is is' e = go (change_to a is) (change_to b is')
  where
    go : ChangeParts a → ChangeParts b → (a ≡ b) × (r ≡ s)
    go (inl x) (inl y) = addition_apart a b r s x y e
    go (inr x) (inr y) = removal_apart a b r s x y e
    go (inl x) (inr y) =
        let letters : 65 ≡ 68 = ap (λ (l : List ℕ). get_or l 0 0) (ap (λ (l : List ℕ). l ++ r) (sym x.2) ∙ e
        ∙ ap (λ (l : List ℕ). l ++ s) y.2) in
        absurd (omega (arith, letters))
    go (inr x) (inl y) =
        let letters : 68 ≡ 65 = ap (λ (l : List ℕ). get_or l 0 0) (ap (λ (l : List ℕ). l ++ r) (sym x.2) ∙ e
        ∙ ap (λ (l : List ℕ). l ++ s) y.2) in
        absurd (omega (arith, letters))

pub change_added : (left rest : List ℕ) → IsBehindOne (TextOf IsShortText addition_text) left (Some rest)
    → IsBehindOne (TextOf IsReadNumbered change_text) left (Some rest)
change_added left rest first =
    behind_same ChangeParts (TextOf IsReadNumbered change_text) left (Some rest) change_from change_to
    (or_first (TextOf IsShortText addition_text) (TextOf IsShortId removal_text) left rest first)

pub change_removed : (left : List ℕ) (found : Option (List ℕ))
    → IsBehindOne (TextOf IsShortText addition_text) left None
    → IsBehindOne (TextOf IsShortId removal_text) left found
    → IsBehindOne (TextOf IsReadNumbered change_text) left found
change_removed left found none second =
    behind_same ChangeParts (TextOf IsReadNumbered change_text) left found change_from change_to
    (or_second (TextOf IsShortText addition_text) (TextOf IsShortId removal_text) left found none second)

-- Updates.

abbrev Changes : ℕ → List ℕ → Type 0
Changes count text = When (1 ≤ count) (λ l. Items IsReadNumbered change_text count l) text

abbrev Calling : ℕ → List ℕ → Type 0
Calling caller text = Counted 256 10 Changes text

abbrev UpdateParts : List ℕ → Type 0
UpdateParts text = Then (Just (codes "UPDATE ")) (Counted 999999999 32 Calling) text

update_whole : (u : Update)
    → codes "UPDATE " ++ (decimal u.caller ++ 32 ∷ (decimal (length u.changes) ++ 10 ∷ flat_map change_text u.changes))
    ≡ update_text u
update_whole u = simp append_assoc

update_from : (text : List ℕ) → UpdateParts text → TextOf IsReadUpdate update_text text
update_from text is =
    let calling = is.3 in
    let counted = calling.3 in
    let items = counted.3.1 in
    let changes = items.0 in
    let called = calling.2 in
    let few = counted.2 in
    let some = counted.3.0 in
    let size = items.1 in (
      record { caller = calling.0; changes = changes },
      record {
        caller = omega (arith, called);
        some = omega (arith, some, size);
        few = omega (arith, few, size);
        each =
            items.2;
      },
      is.4 ∙ ap (λ (l : List ℕ). l ++ is.1) is.2 ∙ ap (λ (l : List ℕ). codes "UPDATE " ++ l)
          (calling.4 ∙ ap (λ (l : List ℕ). decimal calling.0 ++ 32 ∷ l)
          (counted.4 ∙ ap (λ (l : List ℕ). decimal counted.0 ++ 10 ∷ l) items.3
          ∙ ap (λ (n : ℕ). decimal n ++ 10 ∷ flat_map change_text changes) (sym size)))
          ∙ update_whole (record { caller = calling.0; changes = changes }),
    )

update_to : (text : List ℕ) → TextOf IsReadUpdate update_text text → UpdateParts text
update_to text is =
    let u = is.0 in
    let called = is.1.caller in
    let few = is.1.few in
    let rest = flat_map change_text u.changes in
    let counted = decimal (length u.changes) ++ 10 ∷ rest in (
      codes "UPDATE ",
      decimal u.caller ++ 32 ∷ counted,
      refl,
      (
        u.caller,
        counted,
        omega (arith, called),
        (length u.changes, rest, omega (arith, few), (is.1.some, (u.changes, refl, is.1.each, refl)), refl),
        refl,
      ),
      is.2 ∙ sym (update_whole u),
    )

changes_apart : (count : ℕ) → AreApart (Changes count)
changes_apart count =
    when_apart (1 ≤ count) (λ l. Items IsReadNumbered change_text count l)
    (items_apart IsReadNumbered change_text count change_apart)

calling_apart : (caller : ℕ) → AreApart (Calling caller)
calling_apart caller = counted_apart 256 10 Changes (omega arith) (omega arith) changes_apart

pub update_apart : AreApart (TextOf IsReadUpdate update_text)
update_apart = apart_same UpdateParts (TextOf IsReadUpdate update_text) update_to
    (then_apart (Just (codes "UPDATE ")) (Counted 999999999 32 Calling) (just_apart (codes "UPDATE "))
    (counted_apart 999999999 32 Calling (omega arith) (omega arith) calling_apart))

module _ (left : List ℕ) where
  pub update_none : ((rest : List ℕ) → left ≢ codes "UPDATE " ++ rest)
      → IsBehindOne (TextOf IsReadUpdate update_text) left None
  update_none none =
      behind_same UpdateParts (TextOf IsReadUpdate update_text) left None update_from update_to
      (then_none (Just (codes "UPDATE ")) (Counted 999999999 32 Calling) left (just_none (codes "UPDATE ") left none))

  module _ (named : List ℕ) (first : left ≡ codes "UPDATE " ++ named) where
    behind_word : (found : Option (List ℕ)) → IsBehindOne (Counted 999999999 32 Calling) named found
        → IsBehindOne (TextOf IsReadUpdate update_text) left found
    behind_word found is =
        behind_same UpdateParts (TextOf IsReadUpdate update_text) left found update_from update_to
        (then_some (Just (codes "UPDATE ")) (Counted 999999999 32 Calling) left named found
        (just_apart (codes "UPDATE ")) (just_some (codes "UPDATE ") left named first) is)

    pub update_uncalled : HasNoNumber 999999999 32 named → IsBehindOne (TextOf IsReadUpdate update_text) left None
    update_uncalled none = behind_word None (counted_none 999999999 32 Calling (omega arith) (omega arith) named none)

    module _ (caller : ℕ) (counted : List ℕ) (at : IsNumberAt 999999999 32 named caller counted) where
      behind_caller : (found : Option (List ℕ)) → IsBehindOne (Calling caller) counted found
          → IsBehindOne (TextOf IsReadUpdate update_text) left found
      behind_caller found is =
          behind_word found (counted_some 999999999 32 Calling (omega arith) (omega arith) named counted caller found at
          is)

      pub update_uncounted : HasNoNumber 256 10 counted → IsBehindOne (TextOf IsReadUpdate update_text) left None
      update_uncounted none = behind_caller None (counted_none 256 10 Changes (omega arith) (omega arith) counted none)

      module _ (count : ℕ) (changes : List ℕ) (at_count : IsNumberAt 256 10 counted count changes) where
        behind_number : (found : Option (List ℕ)) → IsBehindOne (Changes count) changes found
            → IsBehindOne (TextOf IsReadUpdate update_text) left found
        behind_number found is =
            behind_caller found
            (counted_some 256 10 Changes (omega arith) (omega arith) counted changes count found at_count is)

        pub update_empty : count ≡ 0 → IsBehindOne (TextOf IsReadUpdate update_text) left None
        update_empty none =
            behind_number None
            (when_none (1 ≤ count) (λ l. Items IsReadNumbered change_text count l) changes
            (λ some. omega (arith, none, some)))

        pub update_end : (found : Option (List ℕ)) → count ≢ 0
            → IsBehindOne (Items IsReadNumbered change_text count) changes found
            → IsBehindOne (TextOf IsReadUpdate update_text) left found
        update_end found some is =
            behind_number found
            (when_some (1 ≤ count) (λ l. Items IsReadNumbered change_text count l) changes found (above count some)
            is)
          where
            above : (n : ℕ) → n ≢ 0 → 1 ≤ n
            above zero some = absurd (some refl)
            above (suc n) some = omega arith

-- Whole replies.

abbrev LogEnd : ℕ → List ℕ → Type 0
LogEnd count text = Then (Items IsReadUpdate update_text count) (Just (codes "END\n")) text

abbrev Placed : ℕ → ℕ → ℕ → List ℕ → Type 0
Placed from count place text = When (count ≡ min 16 (place - from)) (LogEnd count) text

abbrev Sent : ℕ → ℕ → List ℕ → Type 0
Sent from count text = Counted 999999999 10 (Placed from count) text

abbrev From : ℕ → List ℕ → Type 0
From from text = Counted 999999999 32 (Sent from) text

abbrev LogParts : List ℕ → Type 0
LogParts text = Then (Just (codes "LOG ")) (Counted 999999999 32 From) text

-- a history of so many updates, of which a reply hands on these
record IsHistory (from place : ℕ) (updates : List Update) : Type 0 where
  history : List Update
  part : log_part from history ≡ updates
  all : length history ≡ place

no_update : Update
no_update = record { caller = 0; changes = [] }

history_of : (from place : ℕ) (updates : List Update) → length updates ≡ min 16 (place - from)
    → IsHistory from place updates
history_of from place updates size = elim (cases_lt place from) [
  | inl ahead ↦
      let none : updates ≡ [] = nil_from_length updates (omega (arith, size, ahead)) in
      let whole = length-replicate place no_update in
      record {
        history = replicate place no_update;
        part = ap (λ (l : List Update). take LOG_UPDATES l)
            (drop_all from (replicate place no_update) (omega (arith, whole, ahead))) ∙ sym none;
        all = whole;
      }
  | inr within ↦
      let front = replicate from no_update in
      let more = place - from - length updates in
      let back = replicate more no_update in
      let front_size = length-replicate from no_update in
      let back_size = length-replicate more no_update in
      let size' = length-append front (updates ++ back) in
      let size'' = length-append updates back in
      record {
        history = front ++ (updates ++ back);
        part = ap (λ (l : List Update). take LOG_UPDATES l) (drop_at front (updates ++ back) from front_size)
            ∙ taken more refl;
        all = size' ∙ sums (length front) (length (updates ++ back)) (length updates) (length back) size front_size
            size'' back_size within;
      }
]
  where
    sums : (f w u b : ℕ) → u ≡ min 16 (place - from) → f ≡ from → w ≡ u + b → b ≡ place - from - u → from ≤ place
        → f + w ≡ place
    sums f w u b o p q r s = omega (arith, o, p, q, r, s)

    taken : (b : ℕ) → b ≡ place - from - length updates → take LOG_UPDATES (updates ++ replicate b no_update) ≡ updates
    taken b same = elim (cases_eq (length updates) 16) [
      | inl full ↦ take_at updates (replicate b no_update) LOG_UPDATES full
      | inr few ↦
          let none : b ≡ 0 = omega (arith, size, same, few) in
          ap (λ (k : ℕ). take LOG_UPDATES (updates ++ replicate k no_update)) none
          ∙ ap (λ (l : List Update). take LOG_UPDATES l) (append-nil updates)
          ∙ take_all LOG_UPDATES updates (omega (arith, size))
    ]

-- the text of a reply by its parts
abbrev log_form : ℕ → ℕ → List Update → List ℕ
log_form from place updates =
    codes "LOG " ++ (decimal from ++ 32
    ∷ (decimal (length updates) ++ 32 ∷ (decimal place ++ 10 ∷ (flat_map update_text updates ++ codes "END\n"))))

log_whole : (n : ℕ) (history : List Update) → log_form n (length history) (log_part n history) ≡ log_text n history
log_whole n history = simp append_assoc

log_from : (text : List ℕ) → LogParts text → IsTextOf LogKind text
log_from text is =
    let from = is.3.0 in
    let sent = is.3.3 in
    let count = sent.0 in
    let placed = sent.3 in
    let place = placed.0 in
    let ended = placed.3.1 in
    let items = ended.2 in
    let updates = items.0 in
    let held = history_of from place updates (items.1 ∙ placed.3.0) in
    let low = is.3.2 in
    let low' = placed.2 in
    let end : placed.1 ≡ flat_map update_text updates ++ codes "END\n" =
    ended.4 ∙ ap (λ (l : List ℕ). l ++ ended.1) items.3
    ∙ ap (λ (l : List ℕ). flat_map update_text updates ++ l) ended.3 in
    let spelled : text ≡ log_form from place updates =
    is.4 ∙ ap (λ (l : List ℕ). l ++ is.1) is.2 ∙ ap (λ (l : List ℕ). codes "LOG " ++ l)
    (is.3.4 ∙ ap (λ (l : List ℕ). decimal from ++ 32 ∷ l)
    (sent.4 ∙ ap (λ (n : ℕ). decimal n ++ 32 ∷ sent.1) (sym items.1)
    ∙ ap (λ (l : List ℕ). decimal (length updates) ++ 32 ∷ l)
    (placed.4 ∙ ap (λ (l : List ℕ). decimal place ++ 10 ∷ l) end))) in
    let all = held.all in
    record {
      reply = Log from held.history;
      has = record {
        first = omega (arith, low);
        newest = omega (arith, low', all);
        each = subst (λ (l : List Update). All IsReadUpdate l) (sym held.part) items.2;
      };
      is = refl;
      same =
          spelled ∙ ap (λ (l : List Update). log_form from place l) (sym held.part)
          ∙ ap (λ (p : ℕ). log_form from p (log_part from held.history)) (sym held.all)
          ∙ log_whole from held.history;
    }

log_to : (text : List ℕ) → IsTextOf LogKind text → LogParts text
log_to text is = go is.reply is.has is.is is.same
  where
    go : (reply : Reply) → HasText reply → kind_of reply ≡ LogKind → text ≡ reply_text reply → LogParts text
    go (Log n history) has logged same =
        let updates = log_part n history in
        let place = length history in
        let low = has.first in
        let low' = has.newest in
        let size : length updates ≡ min 16 (place - n) = length-take LOG_UPDATES (drop n history)
        ∙ ap (λ (k : ℕ). min 16 k) (length-drop n history) in
        let lines = flat_map update_text updates ++ codes "END\n" in
        let placed = decimal place ++ 10 ∷ lines in
        let sent = decimal (length updates) ++ 32 ∷ placed in (
          codes "LOG ",
          decimal n ++ 32 ∷ sent,
          refl,
          (
            n,
            sent,
            omega (arith, low),
            (
              length updates,
              placed,
              omega (arith, size),
              (
                place,
                lines,
                omega (arith, low'),
                (size, (flat_map update_text updates, codes "END\n", (updates, refl, has.each, refl), refl, refl)),
                refl,
              ),
              refl,
            ),
            refl,
          ),
          same ∙ sym (log_whole n history),
        )
    go Done has logged same = absurd (cc)
    go (Started s version) has logged same = absurd (cc)
    go (Number version) has logged same = absurd (cc)
    go (PrivateAdded k) has logged same = absurd (cc)
    go (Added k version) has logged same = absurd (cc)
    go (Value index name version rows) has logged same = absurd (cc)
    go (Batched first added version) has logged same = absurd (cc)
    go (PinnedAt version newest) has logged same = absurd (cc)
    go (News index name version) has logged same = absurd (cc)
    go (Critical index ids) has logged same = absurd (cc)
    go (No refusal) has logged same = absurd (cc)
    go NoMemory has logged same = absurd (cc)

end_apart : (count : ℕ) → AreApart (LogEnd count)
end_apart count =
    then_apart (Items IsReadUpdate update_text count) (Just (codes "END\n"))
    (items_apart IsReadUpdate update_text count update_apart) (just_apart (codes "END\n"))

placed_apart : (from count place : ℕ) → AreApart (Placed from count place)
placed_apart from count place = when_apart (count ≡ min 16 (place - from)) (LogEnd count) (end_apart count)

sent_apart : (from count : ℕ) → AreApart (Sent from count)
sent_apart from count =
    counted_apart 999999999 10 (Placed from count) (omega arith) (omega arith) (placed_apart from count)

from_apart : (from : ℕ) → AreApart (From from)
from_apart from = counted_apart 999999999 32 (Sent from) (omega arith) (omega arith) (sent_apart from)

pub log_apart : AreApart (IsTextOf LogKind)
log_apart = apart_same LogParts (IsTextOf LogKind) log_to
    (then_apart (Just (codes "LOG ")) (Counted 999999999 32 From) (just_apart (codes "LOG "))
    (counted_apart 999999999 32 From (omega arith) (omega arith) from_apart))

module _ (left : List ℕ) where
  pub log_none : ((rest : List ℕ) → left ≢ codes "LOG " ++ rest) → IsBehindOne (IsTextOf LogKind) left None
  log_none none =
      behind_same LogParts (IsTextOf LogKind) left None log_from log_to
      (then_none (Just (codes "LOG ")) (Counted 999999999 32 From) left (just_none (codes "LOG ") left none))

  module _ (numbers : List ℕ) (first : left ≡ codes "LOG " ++ numbers) where
    behind_log : (found : Option (List ℕ)) → IsBehindOne (Counted 999999999 32 From) numbers found
        → IsBehindOne (IsTextOf LogKind) left found
    behind_log found is =
        behind_same LogParts (IsTextOf LogKind) left found log_from log_to
        (then_some (Just (codes "LOG ")) (Counted 999999999 32 From) left numbers found (just_apart (codes "LOG "))
        (just_some (codes "LOG ") left numbers first) is)

    pub log_unnumbered : HasNoNumber 999999999 32 numbers → IsBehindOne (IsTextOf LogKind) left None
    log_unnumbered none = behind_log None (counted_none 999999999 32 From (omega arith) (omega arith) numbers none)

    module _ (from : ℕ) (others : List ℕ) (at : IsNumberAt 999999999 32 numbers from others) where
      behind_from : (found : Option (List ℕ)) → IsBehindOne (From from) others found
          → IsBehindOne (IsTextOf LogKind) left found
      behind_from found is =
          behind_log found (counted_some 999999999 32 From (omega arith) (omega arith) numbers others from found at is)

      pub log_uncounted : HasNoNumber 999999999 32 others → IsBehindOne (IsTextOf LogKind) left None
      log_uncounted none =
          behind_from None (counted_none 999999999 32 (Sent from) (omega arith) (omega arith) others none)

      module _ (count : ℕ) (last : List ℕ) (at_count : IsNumberAt 999999999 32 others count last) where
        behind_count : (found : Option (List ℕ)) → IsBehindOne (Sent from count) last found
            → IsBehindOne (IsTextOf LogKind) left found
        behind_count found is =
            behind_from found (counted_some 999999999 32 (Sent from) (omega arith) (omega arith) others last count found
            at_count is)

        pub log_unplaced : HasNoNumber 999999999 10 last → IsBehindOne (IsTextOf LogKind) left None
        log_unplaced none =
            behind_count None (counted_none 999999999 10 (Placed from count) (omega arith) (omega arith) last none)

        module _ (place : ℕ) (updates : List ℕ) (at_place : IsNumberAt 999999999 10 last place updates) where
          behind_place : (found : Option (List ℕ)) → IsBehindOne (Placed from count place) updates found
              → IsBehindOne (IsTextOf LogKind) left found
          behind_place found is =
              behind_count found
              (counted_some 999999999 10 (Placed from count) (omega arith) (omega arith) last updates place found
              at_place is)

          pub log_other_count : count ≢ min 16 (place - from) → IsBehindOne (IsTextOf LogKind) left None
          log_other_count other =
              behind_place None (when_none (count ≡ min 16 (place - from)) (LogEnd count) updates other)

          module _ (size : count ≡ min 16 (place - from)) where
            behind_size_told : (found : Option (List ℕ)) → IsBehindOne (LogEnd count) updates found
                → IsBehindOne (IsTextOf LogKind) left found
            behind_size_told found is =
                behind_place found (when_some (count ≡ min 16 (place - from)) (LogEnd count) updates found size is)

            pub log_few : IsBehindOne (Items IsReadUpdate update_text count) updates None
                → IsBehindOne (IsTextOf LogKind) left None
            log_few none = behind_size_told None
                (then_none (Items IsReadUpdate update_text count) (Just (codes "END\n")) updates none)

            module _ (end : List ℕ) (items : IsBehindOne (Items IsReadUpdate update_text count) updates (Some end))
              where
                behind_items : (found : Option (List ℕ)) → IsBehindOne (Just (codes "END\n")) end found
                    → IsBehindOne (IsTextOf LogKind) left found
                behind_items found is =
                    behind_size_told found
                    (then_some (Items IsReadUpdate update_text count) (Just (codes "END\n")) updates end found
                    (items_apart IsReadUpdate update_text count update_apart) items is)

                pub log_unended : ((rest : List ℕ) → end ≢ codes "END\n" ++ rest)
                    → IsBehindOne (IsTextOf LogKind) left None
                log_unended none = behind_items None (just_none (codes "END\n") end none)

                pub log_end : (rest : List ℕ) → end ≡ codes "END\n" ++ rest
                    → IsBehindOne (IsTextOf LogKind) left (Some rest)
                log_end rest cut = behind_items (Some rest) (just_some (codes "END\n") end rest cut)
