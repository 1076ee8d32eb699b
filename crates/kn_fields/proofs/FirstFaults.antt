-- The first fault that is computed is the first one that the text has.
use Rattle.std.proofs.Common.{◌≡◌, ℕ, ◌<◌, ◌≤◌, ◌⊎◌, inl, inr, Option, Some, None, Result, Ok, Err, List, [], arith}
use Rattle.std.proofs.Common.{length, refl, sym}
use Rattle.kn_base.specs.declared.limits.TheConstants.{ASSERTION_BYTES}
use Rattle.std.specs.Option.{option_or}
use Rattle.kn_lex.specs.Cutting.{TokenView, Cuts}
use Rattle.kn_lex.specs.Faults.{IsFaultless, IsFirstLexicalFault}
use Rattle.kn_lex.specs.TokenViews.{HasCause as HasLexicalCause}
use Rattle.kn_lex.specs.declared.fault.LexFault.{LexFault}
use Rattle.kn_lex.specs.declared.fault.LexFault.TheVariants as L
use Rattle.kn_fields.specs.Fields.{Field, field_with}
use Rattle.kn_fields.specs.Faults.{is_bad_field, is_second, is_late_version, is_behind_signature, Shows, of_lexical}
use Rattle.kn_fields.specs.Faults.{HasFault, fault_order, IsFirstFault, IsWellFielded, HasCause}
use Rattle.kn_fields.specs.Computed.{tokens_by}
use Rattle.kn_fields.specs.Scanning.{first_place, order_place, version_place, constant_by, constant_place, fault_at}
use Rattle.kn_fields.specs.Scanning.{fault_without, fault_in}
use Rattle.kn_fields.specs.declared.fault.ReadFault.{ReadFault}
use Rattle.kn_fields.specs.declared.fault.ReadFault.TheVariants.{TooLong, BadField, FieldTwice, FieldOrder}
use Rattle.kn_fields.specs.declared.fault.ReadFault.TheVariants.{NoAuthorizer, Version, Constant}
use Rattle.kn_fields.proofs.Places.{none_shown, first_shown, none_place, shown_place}
use Rattle.kn_fields.proofs.Lists.{departs_shown, shown_departs}

-- the one list that cuts a text, and its one first lexical fault
abbrev pub OneList : Type 0
OneList = (text : List ℕ) (tokens other : List TokenView) → Cuts text tokens → Cuts text other → tokens ≡ other

abbrev pub OneFault : Type 0
OneFault = (text : List ℕ) (fault other : LexFault) → IsFirstLexicalFault text fault → IsFirstLexicalFault text other
    → fault ≡ other

-- the tokens show this fault, by what is computed of them
abbrev IsComputed : List TokenView → ReadFault → Type 0
IsComputed tokens (BadField at) = first_place is_bad_field [] tokens ≡ Some at
IsComputed tokens (FieldTwice at) = first_place is_second [] tokens ≡ Some at
IsComputed tokens (FieldOrder at) = order_place tokens ≡ Some at
IsComputed tokens NoAuthorizer = field_with 1 tokens ≡ None
IsComputed tokens (Version at) = version_place tokens ≡ Some at
IsComputed tokens (Constant at) = constant_place tokens ≡ Some at
IsComputed tokens _ = ⊥

shown_computed : (tokens : List TokenView) (fault : ReadFault) → Shows tokens fault → IsComputed tokens fault
unfolding version_place constant_place
shown_computed tokens (BadField at) s = shown_place is_bad_field tokens at s
shown_computed tokens (FieldTwice at) s = shown_place is_second tokens at s
shown_computed tokens (FieldOrder at) (inl s) = grind (arith, shown_place is_late_version tokens at s)
shown_computed tokens (FieldOrder at) (inr s) =
    grind (arith, none_place is_late_version tokens s.0, shown_place is_behind_signature tokens at s.1)
shown_computed tokens (Constant at) s = grind (arith, s.1, shown_departs s.0 at s.2)
shown_computed tokens fault s = grind arith

order_shown : (tokens : List TokenView) (at : ℕ) (late : Option ℕ) → first_place is_late_version [] tokens ≡ late
    → option_or late (first_place is_behind_signature [] tokens) ≡ Some at
    → Shows tokens (FieldOrder at)
order_shown tokens at None none e =
    inr (none_shown is_late_version tokens none, first_shown is_behind_signature tokens at e)
order_shown tokens at (Some late) found e = inl (first_shown is_late_version tokens at (cc))

constant_shown : (tokens : List TokenView) (at : ℕ) (o : Option Field) → field_with 6 tokens ≡ o
    → constant_by o ≡ Some at
    → Shows tokens (Constant at)
constant_shown tokens at None none e = absurd (cc)
constant_shown tokens at (Some field) found e = (field, found, departs_shown field at e)

computed_shown : (tokens : List TokenView) (fault : ReadFault) → IsComputed tokens fault → Shows tokens fault
unfolding version_place constant_place
computed_shown tokens (BadField at) e = first_shown is_bad_field tokens at e
computed_shown tokens (FieldTwice at) e = first_shown is_second tokens at e
computed_shown tokens (FieldOrder at) e = order_shown tokens at (first_place is_late_version [] tokens) refl e
computed_shown tokens (Constant at) e = constant_shown tokens at (field_with 6 tokens) refl e
computed_shown tokens fault e = grind arith

-- the fault that is computed first, if there is one
abbrev AnyComputed : List TokenView → Option ReadFault → Type 0
AnyComputed tokens None = Unit {0}
AnyComputed tokens (Some fault) = IsComputed tokens fault

any_computed : (tokens : List TokenView) → AnyComputed tokens (fault_in tokens)
unfolding fault_in fault_at fault_without
any_computed tokens = grind arith

-- the fault comes in the order behind this one, or is it
abbrev pub Least : Option ReadFault → ReadFault → Type 0
Least None other = ⊥
Least (Some fault) other = (fault_order fault < fault_order other) ⊎ (fault ≡ other)

least : (tokens : List TokenView) (other : ReadFault) → IsComputed tokens other → Least (fault_in tokens) other
unfolding fault_in fault_at fault_without
least tokens other e = grind arith

-- a text whose tokens are known has the faults that they show
text_least : OneList → (text : List ℕ) (tokens : List TokenView) → length text ≤ ASSERTION_BYTES → Cuts text tokens
    → IsFaultless text → (fault : ReadFault) → HasFault text fault
    → Least (fault_in tokens) fault
text_least one text tokens le cut faultless fault (inl h) = absurd (omega (arith, h.0))
text_least one text tokens le cut faultless fault (inr (inl h)) = absurd (faultless h.0 h.1.has)
text_least one text tokens le cut faultless fault (inr (inr h)) =
    least tokens fault (shown_computed tokens fault (rw (one text h.tokens tokens h.cut cut) at h.shown))

-- the answer is the text's
abbrev pub Tells : List ℕ → Result (List TokenView) ReadFault → Type 0
Tells text (Ok tokens) = Cuts text tokens × IsWellFielded text
Tells text (Err fault) = IsFirstFault text fault

pub tokens_tell : OneList → (text : List ℕ) (tokens : List TokenView) → length text ≤ ASSERTION_BYTES → Cuts text tokens
    → IsFaultless text
    → (o : Option ReadFault) → fault_in tokens ≡ o → Tells text (tokens_by tokens o)
tokens_tell one text tokens le cut faultless None e =
    (cut, λ fault has. rw e at (text_least one text tokens le cut faultless fault has))
tokens_tell one text tokens le cut faultless (Some fault) e = record {
  has = inr (inr (record {
    tokens = tokens;
    cut = cut;
    faultless = faultless;
    shown =
        computed_shown tokens fault (rw e at (any_computed tokens));
  }));
  least = λ other has. rw e at (text_least one text tokens le cut faultless other has);
}

-- the faults that come before those of the tokens

-- lexical faults have numbers from 1 to 7, and those that tokens show from 9 on
pub lexical_between : (text : List ℕ) (cause : LexFault) → IsFirstLexicalFault text cause
    → (0 < fault_order (of_lexical cause)) × (fault_order (of_lexical cause) < 8)
lexical_between text L.NoMemory h = absurd h.has.shown
lexical_between text cause h = grind arith

shown_above : (tokens : List TokenView) (fault : ReadFault) → Shows tokens fault → 8 < fault_order fault
shown_above tokens fault s = grind arith

pub too_long : (text : List ℕ) → ASSERTION_BYTES < length text → IsFirstFault text (TooLong (length text))
too_long text long = record { has = inl (long, refl); least = least }
  where
    least : (other : ReadFault) → HasFault text other → (0 < fault_order other) ⊎ (TooLong (length text) ≡ other)
    least other (inl h) = inr (sym h.1)
    least other (inr (inl h)) = inl (rw h.2 (lexical_between text h.0 h.1).0)
    least other (inr (inr h)) = inl (omega (arith, shown_above h.tokens other h.shown))

pub first_lexical : OneFault → (text : List ℕ) (cause : LexFault) → length text ≤ ASSERTION_BYTES
    → IsFirstLexicalFault text cause → IsFirstFault text (of_lexical cause)
first_lexical one text cause le first = record { has = inr (inl (cause, first, refl)); least = least }
  where
    least : (other : ReadFault) → HasFault text other → (fault_order (of_lexical cause) < fault_order other)
        ⊎ (of_lexical cause ≡ other)
    least other (inl h) = absurd (omega (arith, h.0))
    least other (inr (inl h)) = inr (cc (one text cause h.0 first h.1))
    least other (inr (inr h)) =
        inl (omega (arith, (lexical_between text cause first).1, shown_above h.tokens other h.shown))

pub lexical_cause : OneFault → (text : List ℕ) (cause : LexFault) → length text ≤ ASSERTION_BYTES
    → HasLexicalCause text cause → HasCause text (of_lexical cause)
lexical_cause one text L.NoMemory le h = inl refl
lexical_cause one text cause le h = inr (first_lexical one text cause le h)

pub no_constant_fault : (tokens : List TokenView) → fault_in tokens ≡ None → constant_place tokens ≡ None
unfolding fault_in fault_at fault_without
no_constant_fault tokens e = grind arith

pub one_first : (text : List ℕ) (fault other : ReadFault) → IsFirstFault text fault → IsFirstFault text other
    → fault ≡ other
one_first text fault other h k = grind (arith, h.least other k.has, k.least fault h.has)
