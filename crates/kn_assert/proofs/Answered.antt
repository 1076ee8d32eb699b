-- What the reader answers, from what its fields are.
use Rattle.std.proofs.Common.{◌≡◌, ℕ, ◌+◌, ◌<◌, ◌≤◌, ◌⊎◌, inl, inr, Bool, true, false, ◌||◌, ◌==◌, Option, Some, None}
use Rattle.std.proofs.Common.{Result, Ok, Err, List, [], ◌∷◌, ◌++◌, length, map, take, drop, arith, refl, sym, ◌∙◌, ap}
use Rattle.std.specs.Prelude.{◌↔◌, IfOk, IfErr, IfSome, MatchOption, nat_lt, nat_eq, codes, if◌then◌else◌}
use Rattle.std.specs.List.{list_any, position_or_len, before_first, after_first, ends_with}
use Rattle.std.proofs.lemmas.Bool.Decides.{Decides-ltb, nat_tests}
use Rattle.std.proofs.lemmas.Grind.{common_steps}
use Rattle.std.proofs.lemmas.List.{length-append, length-map, length-drop, length-take-le}
use Rattle.std.specs.Result.{result_err, result_ok}
use Rattle.kn_base.specs.declared.limits.TheConstants.{ASSERTION_BYTES, PRINCIPAL_BYTES}
use Rattle.kn_env.specs.declared.constant.Constant.{Constant as Set}
use Rattle.kn_lex.specs.Cutting.{TokenView, Cuts}
use Rattle.kn_fields.specs.Fields.{Field, fields_of, field_with, signed_to}
use Rattle.kn_fields.specs.Faults.{IsWellFielded, IsFirstFault, HasCause, constants_in}
use Rattle.kn_fields.specs.Computed.{fields_or_fault}
use Rattle.kn_fields.specs.Numbers.{fault_place}
use Rattle.kn_fields.specs.declared.fault.ReadFault.{ReadFault}
use Rattle.kn_fields.specs.declared.fault.ReadFault.TheVariants.{TooLong, NoMemory}
use Rattle.kn_trees.specs.declared.assertion.Assertion.{Assertion}
use Rattle.kn_trees.specs.Depths.{program_depth}
use Rattle.kn_program.specs.Conditions.{IsConditions}
use Rattle.kn_program.proofs.Depths.{found_shallow}
use Rattle.kn_program.proofs.Stated.{program_is_found}
use Rattle.kn_principal.specs.Principals.{lower_case, is_colon, with_algorithm, normal_form}
use Rattle.kn_assert.specs.Parts.{Gives, text_by, normal_in, principal_of}
use Rattle.kn_assert.specs.Reading.{and_then, nothing, stated_by, assemble_assertion, reading_with, reading_of}
use Rattle.kn_assert.specs.Reading.{assertion_of}
use Rattle.kn_assert.specs.Reading.{fault_of}
use Rattle.kn_assert.specs.AssertionTexts.{IsShallow, IsReading, IsFirstReadFault}

-- a normal form is as long as its text

colon_within : (text : List ℕ) → nat_lt (position_or_len is_colon text) (length text) ≡ list_any is_colon text
colon_within [] = refl
colon_within (b ∷ text) = grind (arith, common_steps, colon_within text)

with_length : (front rest : List ℕ) → length (with_algorithm front rest) ≡ length front + (1 + length rest)
with_length front rest = by (ends_with nat_eq front (codes "-hex"))
  where
    by : (b : Bool) → length (front ++ 58 ∷ (if b then map lower_case rest else rest)) ≡ length front
        + (1 + length rest)
    by true = omega (arith, length-append front (58 ∷ map lower_case rest), length-map rest lower_case)
    by false = omega (arith, length-append front (58 ∷ rest))

pub normal_length : (text : List ℕ) → length (normal_form text) ≡ length text
normal_length text = by (list_any is_colon text) refl
  where
    by : (b : Bool) → list_any is_colon text ≡ b
        → length (if b then with_algorithm (map lower_case (before_first is_colon text)) (after_first is_colon text)
        else text) ≡ length text
    by false e = refl
    by true e =
        let at : ℕ = position_or_len is_colon text in
        let below : at < length text = (Decides-ltb at (length text)).0 (colon_within text ∙ e) in
        omega (
          arith,
          below,
          length-map (take at text) lower_case,
          length-take-le at text (omega (arith, below)),
          length-drop (at + 1) text,
          with_length (map lower_case (take at text)) (drop (at + 1) text),
        )

-- a principal has 1 to 4,096 bytes
normal_sized : (o : Option (List ℕ)) (a : List ℕ) → normal_in o ≡ Some a → (0 < length a) × (length a ≤ PRINCIPAL_BYTES)
normal_sized None a e = absurd (cc)
normal_sized (Some text) a e = by (length text == 0) (nat_lt 4096 (length text)) refl refl e
  where
    by : (p q : Bool) → (length text == 0) ≡ p → nat_lt 4096 (length text) ≡ q
        → (if p || q then None else Some (normal_form text)) ≡ Some a
        → (0 < length a) × (length a ≤ PRINCIPAL_BYTES)
    by true q none long h = absurd (cc)
    by false true none long h = absurd (cc)
    by false false none long h =
        let same : normal_form text ≡ a = cc in
        let size : length a ≡ length text = ap length (sym same) ∙ normal_length text in
        (grind (arith, nat_tests), grind (arith, nat_tests))

pub principal_sized : (constants : List Set) (token : TokenView) (a : List ℕ) → principal_of constants token ≡ Some a
    → (0 < length a) × (length a ≤ PRINCIPAL_BYTES)
unfolding principal_of
principal_sized constants token a e = normal_sized (text_by constants token.sort token.text) a e

-- what holds of all that a field may state holds of what is stated, if anything is
pub if_stated : {X : Type 0} (Is : Field → Option X → Type 0) (P : X → Type 0) (field : Option Field) (o : Option X)
    → ((f : Field) (x : X) → field ≡ Some f → IsShallow f → Is f (Some x) → P x)
    → MatchOption field (o ≡ None) (λ f. IsShallow f × Is f o) → IfSome o P
if_stated Is P field None go h = tt
if_stated Is P None (Some x) go h = absurd (cc)
if_stated Is P (Some f) (Some x) go h = go f x refl h.0 h.1

well_short : (text : List ℕ) → IsWellFielded text → length text ≤ ASSERTION_BYTES
well_short text well = by (nat_lt ASSERTION_BYTES (length text)) refl
  where
    by : (b : Bool) → nat_lt ASSERTION_BYTES (length text) ≡ b → length text ≤ ASSERTION_BYTES
    by false e = grind (arith, nat_tests)
    by true e = absurd (well (TooLong (length text)) (inl ((Decides-ltb ASSERTION_BYTES (length text)).0 e, refl)))

-- what is read of the text with these tokens and constants
pub reading_here : (text : List ℕ) (tokens : List TokenView) {constants : List Set} {signed : ℕ}
    → ((ts : List TokenView) → (fields_or_fault text ≡ Ok ts) ↔ (Cuts text ts × IsWellFielded text)) → Cuts text tokens
    → IsWellFielded text
    → constants ≡ constants_in (field_with 6 tokens) → signed ≡ signed_to text tokens
    → reading_of text ≡ and_then (stated_by constants nothing (fields_of tokens))
    (λ s. assemble_assertion constants signed s s.authorizer)
unfolding reading_of reading_with
reading_here text tokens told cut well c n = rw (c, n, (told tokens).1 (cut, well)) refl

pub fields_fault : (text : List ℕ) (fault : ReadFault) → (fields_or_fault text ≡ Err fault) ↔ IsFirstFault text fault
    → HasCause text fault → (fault ≡ NoMemory) ⊎ (reading_of text ≡ Err fault)
unfolding reading_of
fields_fault text fault told (inl none) = inl none
fields_fault text fault told (inr first) = inr (ap (λ r. and_then r (reading_with text)) (told.1 first))

-- what is given is what the text spells or shows

pub ok_told : (text : List ℕ) (r : Result Assertion ReadFault) → Gives r (reading_of text)
    → IfOk r (λ assertion. assertion_of text ≡ Some assertion)
ok_told text (Ok assertion) e = ap result_ok e
ok_told text (Err fault) e = tt

pub err_told : (text : List ℕ) (r : Result Assertion ReadFault) → Gives r (reading_of text)
    → IfErr r (λ fault. (fault ≡ NoMemory) ⊎ (fault_of text ≡ Some fault))
err_told text (Ok assertion) e = tt
err_told text (Err fault) (inl none) = inl none
err_told text (Err fault) (inr e) = inr (ap result_err e)

abbrev pub ReadingTold : Type 0
ReadingTold = (text : List ℕ) (assertion : Assertion) → (reading_of text ≡ Ok assertion) ↔ IsReading text assertion

abbrev pub FirstTold : Type 0
FirstTold = (text : List ℕ) (fault : ReadFault) → (reading_of text ≡ Err fault) ↔ IsFirstReadFault text fault

pub reading_told : ReadingTold → (text : List ℕ) (r : Result Assertion ReadFault) → Gives r (reading_of text)
    → IfOk r (λ assertion. IsReading text assertion)
reading_told told text (Ok assertion) e = (told text assertion).0 e
reading_told told text (Err fault) e = tt

pub first_told : FirstTold → (text : List ℕ) (r : Result Assertion ReadFault) → Gives r (reading_of text)
    → IfErr r (λ fault. (fault ≡ NoMemory) ⊎ IsFirstReadFault text fault)
first_told told text (Ok assertion) e = tt
first_told told text (Err fault) (inl none) = inl none
first_told told text (Err fault) (inr e) = inr ((told text fault).0 e)

-- whatever there is of the text is answered, unless memory runs out
pub each_told : (text : List ℕ) (r read : Result Assertion ReadFault) → Gives r (reading_of text)
    → reading_of text ≡ read → (r ≡ read) ⊎ (r ≡ Err NoMemory)
each_told text (Ok assertion) read e is = inl (sym e ∙ is)
each_told text (Err fault) read (inl none) is = inr (ap Err none)
each_told text (Err fault) read (inr e) is = inl (sym e ∙ is)

pub reading_short : (text : List ℕ) (assertion : Assertion) → IsReading text assertion → length text ≤ ASSERTION_BYTES
reading_short text assertion h = well_short text h.well_fielded

pub reading_shallow : (text : List ℕ) (assertion : Assertion) → IsReading text assertion
    → IfSome assertion.conditions (λ program. program_depth program ≤ 1700)
reading_shallow text assertion h =
    if_stated (λ f p. IsConditions f.tokens p) _ (field_with 3 h.tokens) assertion.conditions
    (λ f p is shallow own. found_shallow f.tokens p (program_is_found f.tokens (Some p) own) shallow)
    h.spelled.conditions

pub place_told : (text : List ℕ) → ((fault : ReadFault) → IsFirstReadFault text fault → fault_place fault ≤ length text)
    → (fault : ReadFault) → (fault ≡ NoMemory) ⊎ IsFirstReadFault text fault
    → fault_place fault ≤ length text
place_told text law fault (inl none) = omega (arith, ap fault_place none)
place_told text law fault (inr first) = law fault first
