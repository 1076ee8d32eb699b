-- The one token of a field, and what is stated heading by heading.
use Rattle.std.proofs.Common.{◌≡◌, ℕ, ◌+◌, ◌≤◌, ◌⊎◌, inl, inr, None, Result, Ok, Err, List, [], ◌∷◌, length, drop}
use Rattle.std.proofs.Common.{arith, refl, ◌∙◌, ap}
use Rattle.std.specs.Prelude.{slice_get}
use Rattle.std.proofs.lemmas.Option.{slice_get_cases}
use Rattle.std.proofs.lemmas.List.{drop_all}
use Rattle.kn_env.specs.declared.constant.Constant.{Constant as Set}
use Rattle.kn_lex.specs.Cutting.{TokenView}
use Rattle.kn_fields.specs.Fields.{fields_of, between, AreHeadings}
use Rattle.kn_fields.specs.declared.heading.Heading.{Heading}
use Rattle.kn_fields.specs.declared.fault.ReadFault.{ReadFault}
use Rattle.kn_fields.specs.declared.fault.ReadFault.TheVariants.{NoMemory}
use Rattle.kn_fields.proofs.Between.{drop_here, between_here, between_none, between_length}
use Rattle.kn_fields.proofs.Headings.{Told, headings_length}
use Rattle.kn_assert.specs.Parts.{only_of}
use Rattle.kn_assert.specs.Reading.{and_then, nothing, with_field, stated_by}
use Rattle.kn_assert.specs.declared.stated.Stated.{Stated}

-- the one token

not_one : (tokens : List TokenView) → (length tokens ≡ 1 → ⊥) → None ≡ only_of tokens
not_one [] h = refl
not_one (t ∷ []) h = absurd (h refl)
not_one (t ∷ u ∷ ts) h = refl

pub only_none : (xs : List TokenView) (i to : ℕ) → i ≤ to → to ≤ length xs → (to ≡ i + 1 → ⊥)
    → None ≡ only_of (between i to xs)
only_none xs i to le fits h = not_one (between i to xs) (λ e. h (omega (arith, between_length xs i to le fits, e, le)))

pub only_some : (xs : List TokenView) (i to : ℕ) → to ≡ i + 1 → to ≤ length xs
    → slice_get xs i ≡ only_of (between i to xs)
only_some xs i to e fits =
    elim (slice_get_cases xs i).1 [
      | inl h ↦
          rw (h.2, between_here xs i to h.0 h.2 (omega (arith, e)), between_none xs (i + 1) to (omega (arith, e))) refl
      | inr h ↦ absurd (omega (arith, h.0, e, fits))
    ]

-- heading by heading

-- what is left decides, where this is stated up to a place among the fields
abbrev pub IsLeft : List Set → List TokenView → Stated → ℕ → Type 0
IsLeft constants xs s i = stated_by constants nothing (fields_of xs) ≡ stated_by constants s (drop i (fields_of xs))

-- what the field of this heading states
abbrev stated_here : List Set → List TokenView → Stated → Heading → Result Stated ReadFault
stated_here constants xs s h = with_field constants s h.number (between (h.part.label + 1) h.part.end xs)

-- the field of the heading here comes first of those that are left
stated_next : (constants : List Set) (s : Stated) (xs : List TokenView) (h : Heading) (i : ℕ)
    → Told xs (fields_of xs) h i
    → stated_by constants s (drop i (fields_of xs))
    ≡ and_then (stated_here constants xs s h) (λ next. stated_by constants next (drop (i + 1) (fields_of xs)))
unfolding stated_by
stated_next constants s xs h i t =
    rw (drop_here (fields_of xs) i t.field t.there, t.exact.number, t.exact.part.own) refl

pub left_next : (constants : List Set) (xs : List TokenView) (s next : Stated) (h : Heading) (i : ℕ)
    → IsLeft constants xs s i → Told xs (fields_of xs) h i
    → stated_here constants xs s h ≡ Ok next → IsLeft constants xs next (i + 1)
left_next constants xs s next h i so t read =
    so ∙ stated_next constants s xs h i t
    ∙ ap (λ (r : Result Stated ReadFault).
    and_then r (λ next. stated_by constants next (drop (i + 1) (fields_of xs)))) read

-- the fault of a first step is that of the whole
pub fault_passed : {X Y : Type 0} (fault : ReadFault) (read : Result X ReadFault) (go : X
    → Result Y ReadFault) (whole : Result Y ReadFault) → whole ≡ and_then read go
    → (fault ≡ NoMemory) ⊎ (read ≡ Err fault) → (fault ≡ NoMemory) ⊎ (whole ≡ Err fault)
fault_passed fault read go whole is (inl none) = inl none
fault_passed fault read go whole is (inr e) = inr (is ∙ ap (λ r. and_then r go) e)

pub left_fault : (constants : List Set) (xs : List TokenView) (s : Stated) (fault : ReadFault) (h : Heading) (i : ℕ)
    → IsLeft constants xs s i → Told xs (fields_of xs) h i
    → (fault ≡ NoMemory) ⊎ (stated_here constants xs s h ≡ Err fault) → (fault ≡ NoMemory)
    ⊎ (stated_by constants nothing (fields_of xs) ≡ Err fault)
left_fault constants xs s fault h i so t here = fault_passed fault _ _ _ (so ∙ stated_next constants s xs h i t) here

pub left_last : (constants : List Set) (xs : List TokenView) (hs : List Heading) (s : Stated) (i : ℕ)
    → AreHeadings xs (fields_of xs) hs → IsLeft constants xs s i → length hs ≤ i
    → stated_by constants nothing (fields_of xs) ≡ Ok s
unfolding stated_by
left_last constants xs hs s i all so over =
    so ∙ ap (stated_by constants s)
    (drop_all i (fields_of xs) (omega (arith, over, headings_length xs (fields_of xs) hs all)))
