-- What is computed of a text is its tokens, or its first fault; and each field is the one of its number.
use Rattle.std.proofs.Common.{subst, ◌≡◌, ℕ, ◌⊎◌, inl, inr, true, false, Bool, if◌then◌else◌, List, [], ◌∷◌, ◌++◌}
use Rattle.std.proofs.Common.{Option, Some, None, Result, Ok, Err, length, arith, refl}
use Rattle.std.specs.Prelude.{◌↔◌, nat_lt, find}
use Rattle.std.specs.List.{list_any}
use Rattle.std.proofs.lemmas.Bool.Decides.{nat_tests}
use Rattle.std.proofs.lemmas.List.Folds.{list_any-append}
use Rattle.kn_base.specs.declared.limits.TheConstants.{ASSERTION_BYTES}
use Rattle.kn_lex.specs.Cutting.{TokenView, Cuts}
use Rattle.kn_lex.specs.Faults.{IsFaultless, IsFirstLexicalFault}
use Rattle.kn_lex.specs.Computed.{tokens_or_fault}
use Rattle.kn_lex.specs.declared.fault.LexFault.{LexFault}
use Rattle.kn_fields.specs.Fields.{field_of, is_label_of, Field, fields_of, field_with}
use Rattle.kn_fields.specs.Faults.{is_second, of_lexical, Shows, IsFirstFault, IsWellFielded}
use Rattle.kn_fields.specs.Constants.{IsConstantList}
use Rattle.kn_fields.specs.Scanning.{fault_in, first_place, departure}
use Rattle.kn_fields.specs.Computed.{tokens_behind, fields_or_fault}
use Rattle.kn_fields.specs.declared.fault.ReadFault.{ReadFault}
use Rattle.kn_fields.specs.declared.fault.ReadFault.TheVariants.{TooLong, FieldTwice, NoAuthorizer, Constant}
use Rattle.kn_fields.proofs.Places.{first_shown}
use Rattle.kn_fields.proofs.Lists.{departs_shown, no_departure}
use Rattle.kn_fields.proofs.FirstFaults.{OneList, OneFault, Tells, tokens_tell, too_long, first_lexical, one_first}

-- what the lexer's law says
abbrev pub TokensTold : Type 0
TokensTold = (text : List ℕ) (tokens : List TokenView)
    → (tokens_or_fault text ≡ Ok tokens) ↔ (Cuts text tokens × IsFaultless text)

abbrev pub FaultTold : Type 0
FaultTold = (text : List ℕ) (fault : LexFault) → (tokens_or_fault text ≡ Err fault) ↔ IsFirstLexicalFault text fault

pub told : OneList → OneFault → TokensTold → FaultTold → (text : List ℕ) → Tells text (fields_or_fault text)
unfolding fields_or_fault
told one_list one_fault tokens_told fault_told text =
    by (nat_lt ASSERTION_BYTES (length text)) refl (tokens_or_fault text) refl
  where
    by : (b : Bool) → nat_lt ASSERTION_BYTES (length text) ≡ b → (r : Result (List TokenView) LexFault)
        → tokens_or_fault text ≡ r
        → Tells text (if b then Err (TooLong (length text)) else tokens_behind r)
    by true b r e = too_long text (grind (arith, nat_tests))
    by false b (Ok tokens) e = let h = (tokens_told text tokens).0 e in
        tokens_tell one_list text tokens (grind (arith, nat_tests)) h.0 h.1 (fault_in tokens) refl
    by false b (Err fault) e =
        first_lexical one_fault text fault (grind (arith, nat_tests)) ((fault_told text fault).0 e)

-- every text has a first fault or none
pub every_text : (text : List ℕ) (r : Result (List TokenView) ReadFault) → Tells text r → IsWellFielded text
    ⊎ ((fault : ReadFault) × IsFirstFault text fault)
every_text text (Ok tokens) own = inl own.1
every_text text (Err fault) own = inr (fault, own)

pub tokens_alone : OneList → (text : List ℕ) (r : Result (List TokenView) ReadFault) → Tells text r
    → (tokens : List TokenView)
    → (r ≡ Ok tokens) ↔ (Cuts text tokens × IsWellFielded text)
tokens_alone one text (Ok list) own tokens = ((λ e. subst (Tells text) e own), λ h. cc (one text list tokens own.0 h.0))
tokens_alone one text (Err fault) own tokens = ((λ e. absurd (cc)), λ h. absurd (h.1 fault own.has))

pub fault_alone : (text : List ℕ) (r : Result (List TokenView) ReadFault) → Tells text r → (fault : ReadFault)
    → (r ≡ Err fault) ↔ IsFirstFault text fault
fault_alone text (Ok list) own fault = ((λ e. absurd (cc)), λ h. absurd (own.1 fault h.has))
fault_alone text (Err other) own fault = ((λ e. subst (Tells text) e own), λ h. cc (one_first text other fault own h))

-- where no label stands twice, a field is the first one of its number, and none stood before
field_found : (n : ℕ) (front tokens : List TokenView) (before : List Field) (field : Field) (behind : List Field)
    → first_place is_second front tokens ≡ None
    → fields_of tokens ≡ before ++ field ∷ behind → field_of field.label ≡ Some n
    → (find (λ f. is_label_of n f.label) (fields_of tokens) ≡ Some field) × (list_any (is_label_of n) front ≡ false)
unfolding fields_of first_place
field_found n front [] [] field behind none e numbered = absurd (cc)
field_found n front [] (f ∷ before) field behind none e numbered = absurd (cc)
field_found n front (t ∷ ts) [] field behind none e numbered =
    grind (arith, nat_tests, list_any-append, field_of, field_found n (front ++ t ∷ []) ts [] field behind)
field_found n front (t ∷ ts) (f ∷ before) field behind none e numbered =
    grind (
      arith,
      nat_tests,
      list_any-append,
      field_of,
      field_found n (front ++ t ∷ []) ts before field behind,
      field_found n (front ++ t ∷ []) ts (f ∷ before) field behind,
    )

-- a text without faults of its fields has no lexical fault either, and its tokens show none

abbrev pub EveryText : Type 0
EveryText = (text : List ℕ) → ((tokens : List TokenView) × Cuts text tokens × IsFaultless text)
    ⊎ ((fault : LexFault) × IsFirstLexicalFault text fault)

shows_none : EveryText → (text : List ℕ) (tokens : List TokenView) → Cuts text tokens → IsWellFielded text
    → (fault : ReadFault) → Shows tokens fault → ⊥
shows_none some text tokens cut well fault shown = elim (some text) [
  | inl h ↦ well fault (inr (inr (record { tokens = tokens; cut = cut; faultless = h.2; shown = shown })))
  | inr h ↦ well (of_lexical h.0) (inr (inl (h.0, h.1, refl)))
]

pub one_in_text : EveryText → (text : List ℕ) (tokens : List TokenView) → Cuts text tokens → IsWellFielded text
    → (before : List Field) (field : Field) (behind : List Field) → fields_of tokens ≡ before ++ field ∷ behind
    → (n : ℕ) → field_of field.label ≡ Some n → field_with n tokens ≡ Some field
unfolding field_with
one_in_text some text tokens cut well before field behind e n numbered = by (first_place is_second [] tokens) refl
  where
    by : (o : Option ℕ) → first_place is_second [] tokens ≡ o
        → find (λ f. is_label_of n f.label) (fields_of tokens) ≡ Some field
    by None none = (field_found n [] tokens before field behind none e numbered).0
    by (Some at) found =
        absurd (shows_none some text tokens cut well (FieldTwice at) (first_shown is_second tokens at found))

-- the tokens of the Local-Constants field are a list of constants
pub listed : EveryText → (text : List ℕ) (tokens : List TokenView) → Cuts text tokens → IsWellFielded text
    → (field : Field)
    → field_with 6 tokens ≡ Some field → IsConstantList field.tokens
listed some text tokens cut well field found = by (departure field.tokens (Some field.label.span.start)) refl
  where
    by : (o : Option ℕ) → departure field.tokens (Some field.label.span.start) ≡ o → IsConstantList field.tokens
    by None e = no_departure field e
    by (Some at) e =
        absurd (shows_none some text tokens cut well (Constant at) (field, found, departs_shown field at e))

pub some_authorizer : EveryText → (text : List ℕ) (tokens : List TokenView) → Cuts text tokens → IsWellFielded text
    → field_with 1 tokens ≡ None → ⊥
some_authorizer some text tokens cut well none = shows_none some text tokens cut well NoAuthorizer none
