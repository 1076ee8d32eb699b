-- Only labels can be wrong by those before them, and each tells of its field.
use Rattle.std.proofs.Common.{subst, ◌≡◌, ℕ, zero, suc, ◌+◌, ◌-◌, ◌<◌, ◌≤◌, Bool, true, false, not, ◌||◌, Option, Some}
use Rattle.std.proofs.Common.{None, List, [], ◌∷◌, ◌++◌, length, map, take, drop, get_or, arith, refl, sym, inl, inr}
use Rattle.std.proofs.Common.{◌∙◌, ap, append-nil, append_assoc, one-add}
use Rattle.std.specs.Prelude.{slice_get, find, is_none, take_while, if◌then◌else◌, ◌==◌}
use Rattle.std.specs.List.{list_any, list_all, prefix_len}
use Rattle.std.specs.Option.{option_and_then}
use Rattle.std.proofs.lemmas.Bool.{cases_Bool}
use Rattle.std.proofs.lemmas.Bool.Decides.{nat_tests}
use Rattle.std.proofs.lemmas.Option.{gets, slice_get-map}
use Rattle.std.proofs.lemmas.List.{length-append, length-map, length-drop, drop_all, drop-drop, take_more, take-map}
use Rattle.std.proofs.lemmas.List.{take-append-drop}
use Rattle.std.proofs.lemmas.List.Folds.{list_all-append, list_any-append}
use Rattle.std.proofs.lemmas.List.Sums.{prefix_len-le-length}
use Rattle.kn_lex.specs.Cutting.{TokenView}
use Rattle.kn_fields.specs.Fields.{is_label, field_of, is_this, is_label_of, Field, fields_of, field_with, between}
use Rattle.kn_fields.specs.Fields.{IsFieldSpan, IsHeading, AreHeadings}
use Rattle.kn_fields.specs.Faults.{is_bad_field}
use Rattle.kn_fields.specs.Scanning.{is_stray, is_wrong, first_place, AreNumbered, IsSpanOf}
use Rattle.kn_fields.specs.declared.heading.Heading.{Heading}
use Rattle.kn_fields.specs.declared.label_faults.Wrong.{Wrong}
use Rattle.kn_fields.specs.declared.label_faults.Wrong.TheVariants.{Second, LateVersion, BehindSignature}
use Rattle.kn_fields.proofs.Between.{drop_here}
use Rattle.kn_fields.proofs.Parts.{goes_on, own_tokens}

-- the labels of fields
abbrev pub labels : List Field → List TokenView
labels fields = map (λ field. field.label) fields

-- a label's number tells of its field

pub any_numbered : (is_so : Option ℕ → Bool) (ls : List TokenView) (hs : List Heading)
    → map field_of ls ≡ map (λ heading. heading.number) hs
    → list_any (λ heading. is_so heading.number) hs ≡ list_any (λ label. is_so (field_of label)) ls
any_numbered is_so [] [] e = refl
any_numbered is_so [] (h ∷ hs) e = absurd (cc)
any_numbered is_so (l ∷ ls) [] e = absurd (cc)
any_numbered is_so (l ∷ ls) (h ∷ hs) e = grind (arith, any_numbered is_so ls hs)

-- where there are labels one of them is a label
pub some_label : (ls : List TokenView) (hs : List Heading) → AreNumbered ls hs
    → list_any is_label ls ≡ not (length hs == 0)
some_label [] [] e = refl
some_label [] (h ∷ hs) e = absurd (cc)
some_label (l ∷ ls) [] e = absurd (cc)
some_label (l ∷ ls) (h ∷ hs) e = grind (arith, nat_tests)

pub ruleset numbered = (any_numbered, some_label)

-- the fields' labels are the labels among the tokens, and only they count

label_of_field : (ts : List TokenView) → list_all is_label (labels (fields_of ts)) ≡ true
unfolding fields_of
label_of_field [] = refl
label_of_field (t ∷ ts) = grind (arith, label_of_field ts)

any_label : (before : List TokenView) → list_any is_label before ≡ list_any is_label (labels (fields_of before))
unfolding fields_of
any_label [] = refl
any_label (t ∷ ts) = grind (arith, any_label ts)

any_label_of : (n : ℕ) (before : List TokenView)
    → list_any (is_label_of n) before ≡ list_any (is_label_of n) (labels (fields_of before))
unfolding fields_of field_of
any_label_of n [] = refl
any_label_of n (t ∷ ts) = grind (arith, any_label_of n ts)

labels_more : (before : List TokenView) (t : TokenView)
    → labels (fields_of (before ++ t ∷ [])) ≡ labels (fields_of before)
    ++ labels (fields_of (t ∷ []))
unfolding fields_of
labels_more [] t = refl
labels_more (u ∷ before) t = grind (arith, labels_more before t)

wrong_by_labels : (wrong : Wrong) (before : List TokenView) (t : TokenView)
    → is_wrong wrong before t ≡ is_wrong wrong (labels (fields_of before)) t
wrong_by_labels Second before t = grind (arith, any_label_of)
wrong_by_labels LateVersion before t = grind (arith, any_label)
wrong_by_labels BehindSignature before t = grind (arith, any_label_of)

other_right : (wrong : Wrong) (before : List TokenView) (t : TokenView) → is_label t ≡ false
    → is_wrong wrong before t ≡ false
unfolding field_of
other_right Second before t other = grind arith
other_right LateVersion before t other = grind arith
other_right BehindSignature before t other = grind arith

pub by_labels : (wrong : Wrong) (before ts : List TokenView)
    → first_place (is_wrong wrong) before ts
    ≡ first_place (is_wrong wrong) (labels (fields_of before)) (labels (fields_of ts))
unfolding first_place fields_of
by_labels wrong before [] = refl
by_labels wrong before (t ∷ ts) = elim (cases_Bool (is_label t)) [
  | inl label ↦ grind (
    arith,
    wrong_by_labels wrong before t,
    labels_more before t,
    by_labels wrong (before ++ t ∷ []) ts,
  )
  | inr other ↦ grind (
    arith,
    append-nil,
    other_right wrong before t other,
    labels_more before t,
    by_labels wrong (before ++ t ∷ []) ts,
  )
]

-- where the text begins with a label no token lacks a field

none_lacks : (before ts : List TokenView) → 0 < length before → list_any is_stray ts ≡ false
    → list_any (λ label. is_none (field_of label)) (labels (fields_of ts)) ≡ false
    → first_place is_bad_field before ts ≡ None
unfolding first_place fields_of
none_lacks before [] some none all = refl
none_lacks before (t ∷ ts) some none all = grind (arith, nat_tests, length-append, none_lacks (before ++ t ∷ []) ts)

lacks_none_behind : (t : TokenView) (ts : List TokenView) → is_label t ≡ true → list_any is_stray (t ∷ ts) ≡ false
    → list_any (λ label. is_none (field_of label)) (labels (fields_of (t ∷ ts))) ≡ false
    → first_place is_bad_field [] (t ∷ ts) ≡ None
unfolding first_place fields_of
lacks_none_behind t ts label none all = grind (arith, nat_tests, none_lacks (t ∷ []) ts)

-- what the headings tell of the fields

numbers_told : (tokens : List TokenView) (fields : List Field) (hs : List Heading) → AreHeadings tokens fields hs
    → map field_of (labels fields) ≡ map (λ heading. heading.number) hs
numbers_told tokens [] [] all = refl
numbers_told tokens [] (h ∷ hs) all = absurd all
numbers_told tokens (f ∷ fs) [] all = absurd all
numbers_told tokens (f ∷ fs) (h ∷ hs) all = grind (arith, numbers_told tokens fs hs all.1, all.0.number)

-- the field of the heading at a place
pub record Told (tokens : List TokenView) (fields : List Field) (heading : Heading) (i : ℕ) : Type 0 where
  pub field : Field
  pub there : slice_get fields i ≡ Some field
  pub exact : IsHeading tokens field heading

heading_told : (tokens : List TokenView) (fields : List Field) (hs : List Heading) (h : Heading) (i : ℕ)
    → AreHeadings tokens fields hs → slice_get hs i ≡ Some h
    → Told tokens fields h i
heading_told tokens [] [] h i all e = absurd (cc)
heading_told tokens [] (x ∷ hs) h i all e = absurd all
heading_told tokens (f ∷ fs) [] h i all e = absurd all
heading_told tokens (f ∷ fs) (x ∷ hs) h zero all e = record { field = f; there = refl; exact = grind arith }
heading_told tokens (f ∷ fs) (x ∷ hs) h (suc i) all e =
    let rest = heading_told tokens fs hs h i all.1 (grind (arith)) in
    record { field = rest.field; there = grind (arith, rest.there); exact = rest.exact }

-- where a loop over the headings is
pub told_at : (tokens : List TokenView) (fields : List Field) (hs : List Heading) (i : ℕ) → AreHeadings tokens fields hs
    → i < length hs
    → Told tokens fields (get_or hs i (record { part = record { label = 0; end = 0 }; number = None })) i
told_at tokens fields hs i all below =
    heading_told tokens fields hs (get_or hs i (record { part = record { label = 0; end = 0 }; number = None })) i all
    (grind (arith, gets))

pub headings_length : (tokens : List TokenView) (fields : List Field) (hs : List Heading) → AreHeadings tokens fields hs
    → length fields ≡ length hs
headings_length tokens fields hs all =
    grind (arith, length-map, ap (λ (ns : List (Option ℕ)). length ns) (numbers_told tokens fields hs all))

-- what a search among the labels has at a place
pub record Here (tokens : List TokenView) (hs : List Heading) (h : Heading) (i : ℕ) : Type 0 where
  pub label : TokenView
  pub there : slice_get tokens h.part.label ≡ Some label
  pub rest : drop i (labels (fields_of tokens)) ≡ label ∷ drop (i + 1) (labels (fields_of tokens))
  pub front : take (i + 1) (labels (fields_of tokens)) ≡ take i (labels (fields_of tokens)) ++ label ∷ []
  pub before : AreNumbered (take i (labels (fields_of tokens))) (take i hs)
  pub own : AreNumbered (label ∷ []) (h ∷ [])

front_with : (xs : List TokenView) (i : ℕ) (t : TokenView) → slice_get xs i ≡ Some t
    → take (i + 1) xs ≡ take i xs ++ t ∷ []
front_with xs i t is = grind (arith, gets, take_more)

all_front : (xs : List TokenView) (i : ℕ) → list_all is_label xs ≡ true → list_all is_label (take i xs) ≡ true
all_front xs i all = grind (arith, list_all-append, take-append-drop i xs)

all_here : (xs : List TokenView) (i : ℕ) (t : TokenView) → list_all is_label xs ≡ true → slice_get xs i ≡ Some t
    → is_label t ≡ true
all_here xs i t all is = grind (arith, list_all-append, take-append-drop i xs, drop_here xs i t)

label_here : (tokens : List TokenView) (hs : List Heading) (h : Heading) (i : ℕ)
    → AreHeadings tokens (fields_of tokens) hs
    → Told tokens (fields_of tokens) h i → Here tokens hs h i
label_here tokens hs h i all f =
    let there : slice_get (labels (fields_of tokens)) i ≡ Some f.field.label = grind (arith, slice_get-map, f.there) in
    let every = label_of_field tokens in
    let numbers = numbers_told tokens (fields_of tokens) hs all in
    record {
      label = f.field.label;
      there = f.exact.part.label;
      rest = drop_here (labels (fields_of tokens)) i f.field.label there;
      front = front_with (labels (fields_of tokens)) i f.field.label there;
      before = (
        all_front (labels (fields_of tokens)) i every,
        sym (take-map field_of i (labels (fields_of tokens))) ∙ ap (take i) numbers
            ∙ take-map (λ (heading : Heading). heading.number) i hs,
      );
      own = (
        grind (arith, all_here (labels (fields_of tokens)) i f.field.label every there),
        grind (arith, f.exact.number),
      );
    }

-- as a loop over the headings has it
pub label_at : (tokens : List TokenView) (hs : List Heading) (i : ℕ) → AreHeadings tokens (fields_of tokens) hs
    → i < length hs
    → Here tokens hs (get_or hs i (record { part = record { label = 0; end = 0 }; number = None })) i
label_at tokens hs i all below = label_here tokens hs _ i all (told_at tokens (fields_of tokens) hs i all below)

-- the search over the labels

pub search_first : (wrong : Wrong) (tokens : List TokenView)
    → first_place (is_wrong wrong) [] tokens ≡ first_place (is_wrong wrong) [] (labels (fields_of tokens))
unfolding fields_of
search_first wrong tokens = by_labels wrong [] tokens

pub search_here : (wrong : Wrong) (tokens : List TokenView) (hs : List Heading) (h : Heading) (i : ℕ) (o : Option ℕ)
    (here : Here tokens hs h i)
    → o ≡ first_place (is_wrong wrong) (take i (labels (fields_of tokens))) (drop i (labels (fields_of tokens)))
    → is_wrong wrong (take i (labels (fields_of tokens))) here.label ≡ true → o ≡ Some here.label.span.start
unfolding first_place
search_here wrong tokens hs h i o here is bad = grind (arith, here.rest)

pub search_more : (wrong : Wrong) (tokens : List TokenView) (hs : List Heading) (h : Heading) (i : ℕ) (o : Option ℕ)
    (here : Here tokens hs h i)
    → o ≡ first_place (is_wrong wrong) (take i (labels (fields_of tokens))) (drop i (labels (fields_of tokens)))
    → is_wrong wrong (take i (labels (fields_of tokens))) here.label ≡ false
    → o ≡ first_place (is_wrong wrong) (take (i + 1) (labels (fields_of tokens)))
    (drop (i + 1) (labels (fields_of tokens)))
unfolding first_place
search_more wrong tokens hs h i o here is right = grind (arith, here.rest, here.front)

pub search_over : (wrong : Wrong) (tokens : List TokenView) (hs : List Heading) (i : ℕ) (o : Option ℕ)
    → AreHeadings tokens (fields_of tokens) hs
    → o ≡ first_place (is_wrong wrong) (take i (labels (fields_of tokens))) (drop i (labels (fields_of tokens)))
    → length hs ≤ i → o ≡ None
unfolding first_place
search_over wrong tokens hs i o all is over =
    grind (arith, length-map, headings_length tokens (fields_of tokens) hs all, drop_all i (labels (fields_of tokens)))

-- where the text begins with a label, nothing else begins a line and each label has a number, no token lacks a field
pub lacks_none : (tokens : List TokenView) (hs : List Heading) → AreHeadings tokens (fields_of tokens) hs
    → list_any is_stray tokens ≡ false
    → list_any (λ heading. heading.part.label == 0) (take 1 hs) ≡ true
    → list_any (λ heading. is_none heading.number) hs ≡ false
    → first_place is_bad_field [] tokens ≡ None
unfolding first_place
lacks_none [] hs all none first numbered = refl
lacks_none (t ∷ ts) [] all none first numbered = absurd (cc)
lacks_none (t ∷ ts) (h ∷ hs) all none first numbered =
    let here = label_at (t ∷ ts) (h ∷ hs) 0 all (omega arith) in
    let at_first : h.part.label ≡ 0 = grind (arith, nat_tests) in
    let same : t ≡ here.label = grind (arith, here.there) in
    let label : is_label t ≡ true = rw same (grind (arith, here.own.0)) in
    let every = any_numbered is_none (labels (fields_of (t ∷ ts))) (h ∷ hs)
    (numbers_told (t ∷ ts) (fields_of (t ∷ ts)) (h ∷ hs) all) in
    lacks_none_behind t ts label none (sym every ∙ numbered)

-- the part of a heading that was found, or none
abbrev PartOf : ℕ → List TokenView → List Field → Option Heading → Type 0
PartOf n tokens fields None = find (λ field. is_label_of n field.label) fields ≡ None
PartOf n tokens fields (Some heading) = (field : Field)
    × (find (λ field. is_label_of n field.label) fields ≡ Some field) × IsFieldSpan tokens heading.part field

part_told : (n : ℕ) (tokens : List TokenView) (fields : List Field) (hs : List Heading) → AreHeadings tokens fields hs
    → PartOf n tokens fields (find (λ heading. is_this n heading.number) hs)
part_told n tokens [] [] all = refl
part_told n tokens [] (h ∷ hs) all = absurd all
part_told n tokens (f ∷ fs) [] all = absurd all
part_told n tokens (f ∷ fs) (h ∷ hs) all = elim (cases_Bool (is_this n h.number)) [
  | inl here ↦ rw here (f, grind (arith, all.0.number), all.0.part)
  | inr other ↦ rw other (by (sym (ap (is_this n) all.0.number) ∙ other) (find (λ heading. is_this n heading.number) hs)
      (part_told n tokens fs hs all.1))
]
  where
    by : is_label_of n f.label ≡ false → (o : Option Heading) → PartOf n tokens fs o → PartOf n tokens (f ∷ fs) o
    by passed None none = rw passed none
    by passed (Some found) own = (own.0, rw passed own.1, own.2)

pub part_none : (n : ℕ) (tokens : List TokenView) (hs : List Heading) → AreHeadings tokens (fields_of tokens) hs
    → find (λ heading. is_this n heading.number) hs ≡ None → IsSpanOf n tokens None
unfolding field_with
part_none n tokens hs all e = rw e at (part_told n tokens (fields_of tokens) hs all)

pub part_some : (n : ℕ) (tokens : List TokenView) (hs : List Heading) (h : Heading)
    → AreHeadings tokens (fields_of tokens) hs → find (λ heading. is_this n heading.number) hs ≡ Some h
    → IsSpanOf n tokens (Some h.part)
unfolding field_with
part_some n tokens hs h all e = rw e at (part_told n tokens (fields_of tokens) hs all)

-- the headings of the labels among these tokens, the first of which stands at this place
unfoldable pub headings_from : ℕ → List TokenView → List Heading
headings_from at [] = []
headings_from at (t ∷ ts) =
    if is_label t
    then record { part = record { label = at; end = at + 1 + prefix_len goes_on ts }; number = field_of t }
    ∷ headings_from (at + 1) ts
    else headings_from (at + 1) ts

dropped : (xs : List TokenView) (at : ℕ) (t : TokenView) (ts : List TokenView) → drop at xs ≡ t ∷ ts
    → (slice_get xs at ≡ Some t)
    × (drop (at + 1) xs ≡ ts)
dropped [] zero t ts e = absurd (cc)
dropped [] (suc at) t ts e = absurd (cc)
dropped (x ∷ xs) zero t ts e = grind arith
dropped (x ∷ xs) (suc at) t ts e = grind (arith, dropped xs at t ts)

headings_told : (tokens ts : List TokenView) (at : ℕ) → drop at tokens ≡ ts → at + length ts ≡ length tokens
    → AreHeadings tokens (fields_of ts) (headings_from at ts)
unfolding fields_of headings_from
headings_told tokens [] at here size = tt
headings_told tokens (t ∷ ts) at here size = elim (cases_Bool (is_label t)) [
  | inl label ↦ rw label (
    record { part = part; number = refl },
    headings_told tokens ts (at + 1) there.1 (omega (arith, size)),
  )
  | inr other ↦ rw other (headings_told tokens ts (at + 1) there.1 (omega (arith, size)))
]
  where
    there : (slice_get tokens at ≡ Some t) × (drop (at + 1) tokens ≡ ts)
    there = dropped tokens at t ts here

    part : IsFieldSpan tokens (record { label = at; end = at + 1 + prefix_len goes_on ts })
        (record { label = t; tokens = take_while goes_on ts })
    part = record {
      label = there.0;
      before = omega arith;
      within = grind (arith, prefix_len-le-length goes_on ts, size);
      own = ap (take_while goes_on) (sym there.1)
          ∙ own_tokens tokens (at + 1) (at + 1 + prefix_len goes_on ts) (rw there.1 refl);
    }

-- up to the next label there are no headings

stays : (ts : List TokenView) (at : ℕ) → prefix_len goes_on ts ≡ 0
    → headings_from at ts ≡ headings_from (at + prefix_len goes_on ts) (drop (prefix_len goes_on ts) ts)
stays ts at none = grind (arith, none)

next_label : (ts : List TokenView) (at : ℕ)
    → headings_from at ts ≡ headings_from (at + prefix_len goes_on ts) (drop (prefix_len goes_on ts) ts)
unfolding headings_from
next_label [] at = stays [] at refl
next_label (t ∷ ts) at = elim (cases_Bool (is_label t)) [
  | inl label ↦ stays (t ∷ ts) at (rw label refl)
  | inr other ↦ rw (other, one-add (prefix_len goes_on ts)) (grind (arith, next_label ts (at + 1)))
]

at_next_label : (ts : List TokenView) → prefix_len goes_on (drop (prefix_len goes_on ts) ts) ≡ 0
at_next_label [] = refl
at_next_label (t ∷ ts) = elim (cases_Bool (is_label t)) [
  | inl label ↦ rw label (rw label refl)
  | inr other ↦ rw (other, one-add (prefix_len goes_on ts)) (at_next_label ts)
]

-- what is seen at a place where a label stands, or no token
pub record IsSeen (tokens : List TokenView) (label : ℕ) (hs : List Heading) (has_stray : Bool) : Type 0 where
  pub within : label ≤ length tokens
  pub at_label : prefix_len goes_on (drop label tokens) ≡ 0
  pub headings : headings_from 0 tokens ≡ hs ++ headings_from label (drop label tokens)
  pub strays : list_any is_stray tokens ≡ (has_stray || list_any is_stray (drop label tokens))

-- a stretch tells of its tokens
record IsStretch (tokens : List TokenView) (from end : ℕ) (has_stray : Bool) : Type 0 where
  within : end ≤ length tokens
  at_label : prefix_len goes_on (drop end tokens) ≡ 0
  headings : headings_from from (drop from tokens) ≡ headings_from end (drop end tokens)
  strays : list_any is_stray (drop from tokens) ≡ (has_stray || list_any is_stray (drop end tokens))

is_stretch : (tokens : List TokenView) (from end : ℕ) (has_stray : Bool) → from ≤ length tokens
    → end ≡ from + prefix_len goes_on (drop from tokens)
    → has_stray ≡ list_any is_stray (between from end tokens) → IsStretch tokens from end has_stray
unfolding between
is_stretch tokens from end has_stray le next strays =
    let there : drop end tokens ≡ drop (prefix_len goes_on (drop from tokens)) (drop from tokens) =
    grind (arith, drop-drop) in
    record {
      within = grind (arith, length-drop, prefix_len-le-length goes_on (drop from tokens));
      at_label = rw there (at_next_label (drop from tokens));
      headings = grind (arith, there, next_label (drop from tokens) from);
      strays = grind (arith, there, take-append-drop (end - from) (drop from tokens), list_any-append);
    }

-- the tokens up to the first label
pub first_seen : (tokens : List TokenView) (end : ℕ) (has_stray : Bool) → end ≡ 0 + prefix_len goes_on (drop 0 tokens)
    → has_stray ≡ list_any is_stray (between 0 end tokens) → IsSeen tokens end [] has_stray
first_seen tokens end has_stray next strays =
    let s = is_stretch tokens 0 end has_stray (omega arith) next strays in
    record { within = s.within; at_label = s.at_label; headings = s.headings; strays = s.strays }

-- a label with the tokens up to the next one
pub more_seen : (tokens : List TokenView) (label end : ℕ) (number : Option ℕ) (hs : List Heading)
    (has_stray more : Bool)
    → IsSeen tokens label hs has_stray → label < length tokens
    → number ≡ option_and_then field_of (slice_get tokens label)
    → end ≡ label + 1 + prefix_len goes_on (drop (label + 1) tokens)
    → more ≡ list_any is_stray (between (label + 1) end tokens)
    → IsSeen tokens end (hs ++ record { part = record { label = label; end = end }; number = number } ∷ [])
    (has_stray || more)
unfolding headings_from
more_seen tokens label end number hs has_stray more seen below told next strays = by (slice_get tokens label) refl
  where
    s : IsStretch tokens (label + 1) end more
    s = is_stretch tokens (label + 1) end more (omega (arith, below)) next strays

    by : (o : Option TokenView) → slice_get tokens label ≡ o
        → IsSeen tokens end (hs ++ record { part = record { label = label; end = end }; number = number } ∷ [])
        (has_stray || more)
    by None none = absurd (grind (arith, gets))
    by (Some t) is =
        let here = drop_here tokens label t is in
        let label_here : is_label t ≡ true = grind (arith, here, seen.at_label) in
        record {
          within = s.within;
          at_label = s.at_label;
          headings = grind (arith, seen.headings, here, label_here, next, s.headings, append_assoc);
          strays = grind (arith, seen.strays, here, label_here, s.strays);
        }

-- all of them, where no label is left
pub all_seen : (tokens : List TokenView) (label : ℕ) (hs : List Heading) (has_stray : Bool)
    → IsSeen tokens label hs has_stray → length tokens ≤ label
    → AreHeadings tokens (fields_of tokens) hs × (has_stray ≡ list_any is_stray tokens)
unfolding headings_from
all_seen tokens label hs has_stray seen past =
    (subst (AreHeadings tokens (fields_of tokens)) headings (headings_told tokens tokens 0 refl (omega arith)), strays)
  where
    over : drop label tokens ≡ []
    over = drop_all label tokens past

    headings : headings_from 0 tokens ≡ hs
    headings = grind (arith, seen.headings, over, append-nil)

    strays : has_stray ≡ list_any is_stray tokens
    strays = grind (arith, seen.strays, over)
