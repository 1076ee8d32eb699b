-- The place of a fault is one of its text.
use Rattle.std.proofs.Common.{◌≡◌, ℕ, zero, suc, ◌+◌, ◌<◌, ◌≤◌, ◌⊎◌, inl, inr, ⊎_elim, Bool, true, false, not, Option}
use Rattle.std.proofs.Common.{Some, None, List, [], ◌∷◌, ◌++◌, length, take, drop, cond, arith, refl, ap, subst}
use Rattle.std.proofs.Common.{if◌then◌else◌, eqb-true}
use Rattle.std.specs.Prelude.{All, find, take_while, codes}
use Rattle.std.specs.List.{AllByRecursion, prefix_len}
use Rattle.std.specs.Str.{str_eq_ignore_ascii_case, str_to_ascii_lowercase}
use Rattle.std.proofs.lemmas.List.{length-map, length-drop, length-take-le}
use Rattle.std.proofs.lemmas.List.Elements.{recursion_from_All}
use Rattle.std.proofs.lemmas.Option.{slice_get_within}
use Rattle.std.proofs.lemmas.Slice.Eq.{bytes_eq-Decides}
use Rattle.kn_lex.specs.Cutting.{TokenView, Cuts, Reaches, lexeme_bytes, place_after, start}
use Rattle.kn_lex.specs.Faults.{IsFaultless, IsFirstLexicalFault, HasFault as HasLexicalFault, Shows as ShowsLexical}
use Rattle.kn_lex.specs.Faults.{fault_place as lexical_place}
use Rattle.kn_lex.specs.TokenFacts.{IsTokenOf}
use Rattle.kn_lex.specs.declared.fault.LexFault.{LexFault}
use Rattle.kn_lex.specs.declared.fault.LexFault.TheVariants as L
use Rattle.kn_lex.specs.declared.lexeme.Lexeme.{Lexeme}
use Rattle.kn_lex.specs.declared.lexeme.Place.{Place}
use Rattle.kn_fields.specs.Fields.{is_label, field_number, field_of, is_this, is_label_of, Field, fields_of, field_with}
use Rattle.kn_fields.specs.Numbers.{fault_place}
use Rattle.kn_fields.specs.Faults.{HasFirst, DepartsAt, Shows, of_lexical, HasFault, IsWellFielded}
use Rattle.kn_env.specs.declared.constant.Constant.{Constant as Set}
use Rattle.kn_assert.specs.AssertionTexts.{FieldShows, IsFirstShown, IsFirstReadFault}
use Rattle.kn_fields.specs.declared.fault.ReadFault.{ReadFault}
use Rattle.kn_fields.specs.declared.fault.ReadFault.TheVariants.{BadField, FieldTwice, FieldOrder, NoAuthorizer}
use Rattle.kn_fields.specs.declared.fault.ReadFault.TheVariants.{Version, Constant, TooDeep, Syntax, Kind, Threshold}
use Rattle.kn_fields.specs.declared.fault.ReadFault.TheVariants.{Name}

-- lexical faults

-- pieces and what is left behind them are the whole text
whole : (pieces : List (Lexeme × ℕ)) (place : Place) (text : List ℕ) (end : Place) (left : List ℕ)
    → Reaches place text pieces end left → lexeme_bytes pieces + length left ≡ length text
whole [] place text end left reached = omega (arith, ap length reached.1)
whole (p ∷ pieces) place text end left reached =
    omega (
      arith,
      whole pieces (place_after place p.0 (take p.1 text)) (drop p.1 text) end left reached.1,
      length-drop p.1 text,
      reached.0.within,
    )

shown_within : (place : Place) (at : ℕ) (left : List ℕ) (fault : LexFault) → ShowsLexical place at left fault
    → lexical_place fault ≤ at + length left
shown_within place at left (L.NotText p) (inl here) =
    let zero = here.2 in
    let below : here.0 < length (take zero.n left) = slice_get_within (take zero.n left) here.0 0 zero.here in
    omega (arith, length-take-le zero.n left zero.cut.within, zero.cut.within, below, here.1)
shown_within place at left (L.NotText p) (inr here) = omega (arith, here.0)
shown_within place at left (L.BadString p) here = omega (arith, here.0)
shown_within place at left (L.BadToken p) here = omega (arith, here.0)
shown_within place at left (L.Float p) here = omega (arith, here.0)
shown_within place at left (L.Regex p) here = omega (arith, here.0)
shown_within place at left (L.Number p) here = omega (arith, here.0)
shown_within place at left (L.Blank p) here = omega (arith, here.0)
shown_within place at left L.NoMemory here = absurd here

lexical_within : (text : List ℕ) (fault : LexFault) → HasLexicalFault text fault → lexical_place fault ≤ length text
lexical_within text fault has =
    omega (
      arith,
      whole has.lexemes start text has.place has.left has.reached,
      shown_within has.place (lexeme_bytes has.lexemes) has.left fault has.shown,
    )

same_place : (fault : LexFault) → fault_place (of_lexical fault) ≡ lexical_place fault
same_place (L.NotText p) = refl
same_place (L.BadString p) = refl
same_place (L.BadToken p) = refl
same_place (L.Float p) = refl
same_place (L.Regex p) = refl
same_place (L.Number p) = refl
same_place (L.Blank p) = refl
same_place L.NoMemory = refl

-- tokens and fields

each_split : {X : Type 0} (P : X → Type 0) (before : List X) (x : X) (behind xs : List X) → xs ≡ before ++ x ∷ behind
    → AllByRecursion P xs → P x
each_split P before x behind xs cut all = go before (subst (AllByRecursion P) cut all)
  where
    go : (before : List _) → AllByRecursion P (before ++ x ∷ behind) → P x
    go [] all = all.0
    go (y ∷ before) all = go before all.1

each_taken : {X : Type 0} (P : X → Type 0) (n : ℕ) (xs : List X) → AllByRecursion P xs → AllByRecursion P (take n xs)
each_taken P zero xs all = tt
each_taken P (suc n) [] all = tt
each_taken P (suc n) (x ∷ xs) all = (all.0, each_taken P n xs all.1)

each_front : {X : Type 0} (P : X → Type 0) (test : X → Bool) (xs : List X) → AllByRecursion P xs
    → AllByRecursion P (take_while test xs)
each_front P test xs all = each_taken P (prefix_len test xs) xs all

-- the label and the tokens of a field are so
abbrev pub HasTokens : (TokenView → Type 0) → Field → Type 0
HasTokens P field = P field.label × AllByRecursion P field.tokens

-- what holds of tokens, and of those behind each, gives what holds of each field
pub each_field : (Q : List TokenView → Type 0) (P : Field → Type 0)
    → ((token : TokenView) (tokens : List TokenView) → Q (token ∷ tokens) → Q tokens)
    → ((token : TokenView) (tokens : List TokenView) → Q (token ∷ tokens)
    → P (record { label = token; tokens = take_while (λ other. not (is_label other)) tokens }))
    → (tokens : List TokenView) → Q tokens → AllByRecursion P (fields_of tokens)
unfolding fields_of
each_field Q P behind field [] all = tt
each_field Q P behind field (token ∷ tokens) all =
    by (is_label token) (each_field Q P behind field tokens (behind token tokens all))
  where
    by : (b : Bool) → AllByRecursion P (fields_of tokens)
        → AllByRecursion P
        (if b then record { label = token; tokens = take_while (λ other. not (is_label other)) tokens }
        ∷ fields_of tokens else fields_of tokens)
    by true rest = (field token tokens all, rest)
    by false rest = rest

each_tokens : (P : TokenView → Type 0) (tokens : List TokenView) → AllByRecursion P tokens
    → AllByRecursion (HasTokens P) (fields_of tokens)
each_tokens P = each_field (AllByRecursion P) (HasTokens P) (λ token tokens all. all.1)
    (λ token tokens all. (all.0, each_front P (λ other. not (is_label other)) tokens all.1))

pub found_each : {X : Type 0} (P : X → Type 0) (test : X → Bool) (xs : List X) (x : X) → find test xs ≡ Some x
    → AllByRecursion P xs → P x
found_each P test [] x found all = cc
found_each P test (y ∷ xs) x found all = by (test y) (λ e. found_each P test xs x e all.1) found
  where
    by : (b : Bool) → (find test xs ≡ Some x → P x) → cond b (Some y) (find test xs) ≡ Some x → P x
    by true rest e = let same : y ≡ x = cc in subst P same all.0
    by false rest e = rest e

pub found_field : (number : ℕ) (P : Field → Type 0) (tokens : List TokenView) (field : Field)
    → field_with number tokens ≡ Some field → AllByRecursion P (fields_of tokens) → P field
unfolding field_with
found_field number P tokens field found all =
    found_each P (λ f. is_label_of number f.label) (fields_of tokens) field found all

pub one_field : (P : TokenView → Type 0) (number : ℕ) (tokens : List TokenView) (field : Field)
    → field_with number tokens ≡ Some field → AllByRecursion P tokens → HasTokens P field
one_field P number tokens field found all =
    found_field number (HasTokens P) tokens field found (each_tokens P tokens all)

-- the token stands within the text
token_within : (text : List ℕ) (token : TokenView) → IsTokenOf text token → token.span.start ≤ length text
token_within text token is = omega (arith, is.size, is.within)

first_within : (is_bad : List TokenView → TokenView → Bool) (text : List ℕ) (tokens : List TokenView) (at : ℕ)
    → HasFirst is_bad tokens at → AllByRecursion (IsTokenOf text) tokens → at ≤ length text
first_within is_bad text tokens at has all =
    omega (
      arith,
      token_within text has.token
          (each_split (IsTokenOf text) has.before has.token has.behind tokens has.here all),
      has.place,
    )

departs_within : (text : List ℕ) (field : Field) (at : ℕ) → DepartsAt field at → HasTokens (IsTokenOf text) field
    → at ≤ length text
departs_within text field at (inl has) all =
    omega (
      arith,
      token_within text has.token
          (each_split (IsTokenOf text) has.before has.token has.behind field.tokens has.here all.1),
      has.place,
    )
departs_within text field at (inr has) all = omega (arith, token_within text field.label all.0, has.2)

abbrev pub TokensTold : Type 0
TokensTold = (text : List ℕ) (tokens : List TokenView) → Cuts text tokens → IsFaultless text
    → All (IsTokenOf text) tokens

pub tokens_each : TokensTold → (text : List ℕ) (tokens : List TokenView) → Cuts text tokens → IsFaultless text
    → AllByRecursion (IsTokenOf text) tokens
tokens_each told text tokens cut faultless = recursion_from_All (IsTokenOf text) tokens (told text tokens cut faultless)

shown_within_text : (text : List ℕ) (tokens : List TokenView) (fault : ReadFault) → Shows tokens fault
    → AllByRecursion (IsTokenOf text) tokens → fault_place fault ≤ length text
shown_within_text text tokens (BadField at) h all = first_within _ text tokens at h all
shown_within_text text tokens (FieldTwice at) h all = first_within _ text tokens at h all
shown_within_text text tokens (FieldOrder at) h all =
    ⊎_elim (λ late. first_within _ text tokens at late all) (λ behind. first_within _ text tokens at behind.1 all) h
shown_within_text text tokens NoAuthorizer h all = omega arith
shown_within_text text tokens (Version at) h all =
    omega (arith, token_within text h.0.label (one_field (IsTokenOf text) 4 tokens h.0 h.1 all).0, h.2.1)
shown_within_text text tokens (Constant at) h all =
    departs_within text h.0 at h.2 (one_field (IsTokenOf text) 6 tokens h.0 h.1 all)
shown_within_text text tokens _ h all = absurd h

fields_within : TokensTold → (text : List ℕ) (fault : ReadFault) → HasFault text fault → fault_place fault ≤ length text
fields_within told text fault (inl h) = omega (arith, ap fault_place h.1)
fields_within told text fault (inr (inl h)) =
    omega (arith, lexical_within text h.0 h.1.has, same_place h.0, ap fault_place h.2)
fields_within told text fault (inr (inr h)) =
    shown_within_text text h.tokens fault h.shown (tokens_each told text h.tokens h.cut h.faultless)

-- labels

same_length : (text label : List ℕ) → str_eq_ignore_ascii_case text label ≡ true → length text ≡ length label
same_length text label same =
    simp length-map at
    (ap length ((bytes_eq-Decides (str_to_ascii_lowercase text) (str_to_ascii_lowercase label)).0 same))

chosen : (b : Bool) (m n : ℕ) (rest : Option ℕ) → (if b then Some m else rest) ≡ Some n → ((b ≡ true) × (m ≡ n))
    ⊎ (rest ≡ Some n)
chosen true m n rest e = inl (refl, cc)
chosen false m n rest e = inr e

-- a label that names a field has at least ten bytes, but for that of a comment
label_length : (label : List ℕ) (n : ℕ) → field_number label ≡ Some n → (n ≤ 7) × (8 ≤ length label)
label_length label n is =
    ⊎_elim (named (codes "Authorizer:") 1 (omega arith) (omega arith))
    (λ e. ⊎_elim (named (codes "Comment:") 2 (omega arith) (omega arith))
    (λ e. ⊎_elim (named (codes "Conditions:") 3 (omega arith) (omega arith))
    (λ e. ⊎_elim (named (codes "KeyNote-Version:") 4 (omega arith) (omega arith))
    (λ e. ⊎_elim (named (codes "Licensees:") 5 (omega arith) (omega arith))
    (λ e. ⊎_elim (named (codes "Local-Constants:") 6 (omega arith) (omega arith))
    (λ e. ⊎_elim (named (codes "Signature:") 7 (omega arith) (omega arith))
    (λ e. none e)
    (chosen _ 7 n _ e)) (chosen _ 6 n _ e)) (chosen _ 5 n _ e)) (chosen _ 4 n _ e)) (chosen _ 3 n _ e))
    (chosen _ 2 n _ e)) (chosen _ 1 n _ is)
  where
    named : (name : List ℕ) (m : ℕ) → (m ≤ 7) → (8 ≤ length name) → (str_eq_ignore_ascii_case label name ≡ true)
        × (m ≡ n) → (n ≤ 7) × (8 ≤ length label)
    named name m low long h = let same = same_length label name h.0 in let is = h.1 in (omega arith, omega arith)

    none : None ≡ Some n → (n ≤ 7) × (8 ≤ length label)
    none e = cc

named_number : (label : TokenView) (n : ℕ) → field_of label ≡ Some n → field_number label.text ≡ Some n
unfolding field_of
named_number label n = by (is_label label)
  where
    by : (b : Bool) → (if b then field_number label.text else None) ≡ Some n → field_number label.text ≡ Some n
    by true e = e
    by false e = absurd (cc)

label_within : (text : List ℕ) (label : TokenView) (n : ℕ) → IsTokenOf text label → field_of label ≡ Some n
    → n ≤ length text
label_within text label n is named = let long = label_length label.text n (named_number label n named) in
    omega (arith, long.0, long.1, is.size, is.within)

pub found_passes : (test : Field → Bool) (fields : List Field) (x : Field) → find test fields ≡ Some x → test x ≡ true
found_passes test [] x e = cc
found_passes test (y ∷ fields) x e = step (test y) (λ other. found_passes test fields x other) refl e
  where
    step : (b : Bool) → (find test fields ≡ Some x → test x ≡ true) → test y ≡ b
        → cond b (Some y) (find test fields) ≡ Some x → test x ≡ true
    step true rest is e = let same : y ≡ x = cc in subst (λ z. test z ≡ true) same is
    step false rest is e = rest e

-- the label of the field of a number has at least eight bytes
pub number_of : (n : ℕ) (o : Option ℕ) → is_this n o ≡ true → o ≡ Some n
number_of n None h = absurd (cc)
number_of n (Some m) h = ap Some (eqb-true m n h)

pub label_long : (number : ℕ) (tokens : List TokenView) (field : Field) → field_with number tokens ≡ Some field
    → 8 ≤ length field.label.text
unfolding field_with
label_long number tokens field found =
    let named = found_passes (λ f. is_label_of number f.label) (fields_of tokens) field found in
    (label_length field.label.text number
    (named_number field.label number (number_of number (field_of field.label) named))).1

-- what fields state

one_of_four : {A B C D : Type 0} (o : Option ℕ) (n : ℕ) → (A → n ≡ 1) → (B → n ≡ 3) → (C → n ≡ 5) → (D → n ≡ 7)
    → ((o ≡ Some 1) × A) ⊎ (((o ≡ Some 3) × B) ⊎ (((o ≡ Some 5) × C) ⊎ ((o ≡ Some 7) × D))) → o ≡ Some n
one_of_four o n a b c d (inl h) = rw (a h.1) h.0
one_of_four o n a b c d (inr (inl h)) = rw (b h.1) h.0
one_of_four o n a b c d (inr (inr (inl h))) = rw (c h.1) h.0
one_of_four o n a b c d (inr (inr (inr h))) = rw (d h.1) h.0

-- the place that is told is the number of the field
shown_place : (constants : List Set) (field : Field) (fault : ReadFault) → FieldShows constants field fault
    → field_of field.label ≡ Some (fault_place fault)
shown_place constants field (TooDeep number) = one_of_four _ number (λ h. h.0) (λ h. h.0) (λ h. h.0) (λ h. h.0)
shown_place constants field (Syntax number) = one_of_four _ number (λ h. h.0) (λ h. h.0) (λ h. h.0) (λ h. h.0)
shown_place constants field (Kind number) =
    one_of_four _ number (λ h. absurd h) (λ h. h.0) (λ h. absurd h) (λ h. absurd h)
shown_place constants field (Threshold number) =
    one_of_four _ number (λ h. absurd h) (λ h. absurd h) (λ h. h.0) (λ h. absurd h)
shown_place constants field (Name number) = one_of_four _ number (λ h. h.0) (λ h. absurd h) (λ h. h.0) (λ h. absurd h)
shown_place constants field _ = one_of_four _ _ (λ h. absurd h) (λ h. absurd h) (λ h. absurd h) (λ h. absurd h)

stated_within : (text : List ℕ) (constants : List Set) (tokens : List TokenView) (fault : ReadFault)
    → IsFirstShown constants (fields_of tokens) fault → AllByRecursion (IsTokenOf text) tokens
    → fault_place fault ≤ length text
stated_within text constants tokens fault first all =
    let field = each_split (HasTokens (IsTokenOf text)) first.before first.field first.behind (fields_of tokens)
    first.split (each_tokens (IsTokenOf text) tokens all) in
    label_within text first.field.label (fault_place fault) field.0
    (shown_place constants first.field fault first.shown)

abbrev pub FaultlessOrNot : Type 0
FaultlessOrNot = (text : List ℕ) → ((tokens : List TokenView) × Cuts text tokens × IsFaultless text)
    ⊎ ((fault : LexFault) × IsFirstLexicalFault text fault)

-- a text whose fields are right has no lexical fault
pub well_faultless : FaultlessOrNot → (text : List ℕ) → IsWellFielded text → IsFaultless text
well_faultless either text well =
    ⊎_elim (λ h. h.2) (λ h. absurd (well (of_lexical h.0) (inr (inl (h.0, h.1, refl))))) (either text)

pub place_within : TokensTold → FaultlessOrNot → (text : List ℕ) (fault : ReadFault) → IsFirstReadFault text fault
    → fault_place fault ≤ length text
place_within told either text fault (inl h) = fields_within told text fault h.has
place_within told either text fault (inr h) =
    stated_within text _ h.tokens fault h.shown
    (tokens_each told text h.tokens h.cut (well_faultless either text h.well_fielded))
