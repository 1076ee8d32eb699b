-- What is computed of a text is the assertion that it spells, or its first fault.
use Rattle.std.proofs.Common.{◌≡◌, ℕ, inl, inr, ⊎_elim, Bool, true, false, Option, Some, None, Result, Ok, Err, List}
use Rattle.std.proofs.Common.{[], ◌∷◌, ◌++◌, cond, arith, refl, sym, ◌∙◌, ap, subst, eqb-true}
use Rattle.std.specs.Prelude.{◌↔◌, ◌==◌, MatchOption, find}
use Rattle.std.specs.List.{AllByRecursion}
use Rattle.kn_env.specs.declared.constant.Constant.{Constant as Set}
use Rattle.kn_lex.specs.Cutting.{TokenView, Cuts}
use Rattle.kn_fields.specs.Fields.{Field, is_this, is_label_of, field_of, fields_of, field_with, signed_to}
use Rattle.kn_fields.specs.Faults.{IsWellFielded, fault_order, HasFault, IsFirstFault, HasField, constants_in}
use Rattle.kn_fields.specs.Computed.{fields_or_fault}
use Rattle.kn_fields.specs.declared.fault.ReadFault.{ReadFault}
use Rattle.kn_fields.specs.declared.fault.ReadFault.TheVariants.{NoMemory}
use Rattle.kn_fields.proofs.FirstFaults.{lexical_between}
use Rattle.kn_trees.specs.declared.assertion.Assertion.{Assertion}
use Rattle.kn_assert.specs.Reading.{authorizer_in, conditions_in, licensees_in, signature_in, and_then, nothing}
use Rattle.kn_assert.specs.Reading.{with_field, stated_by, assemble_assertion, reading_with, reading_of}
use Rattle.kn_assert.specs.AssertionTexts.{Spells, IsReading, AuthorizerShows, ConditionsShows, LicenseesShows}
use Rattle.kn_assert.specs.AssertionTexts.{SignatureShows}
use Rattle.kn_assert.specs.AssertionTexts.{FieldShows, IsFirstShown, IsFirstReadFault}
use Rattle.kn_assert.specs.declared.stated.Stated.{Stated}
use Rattle.kn_assert.proofs.Places.{found_each, found_passes, number_of}
use Rattle.kn_assert.proofs.Showing.{PartsTold, IsBefore, Least, Tells, IsTold, tells_value, tells_fault}
use Rattle.kn_assert.proofs.Showing.{authorizer_told, conditions_told, licensees_told, signature_told}

-- what the laws of the fields say
pub record FieldsTold : Type 0 where
  pub tokens : (text : List ℕ) (tokens : List TokenView)
      → (fields_or_fault text ≡ Ok tokens) ↔ (Cuts text tokens × IsWellFielded text)
  pub fault : (text : List ℕ) (fault : ReadFault) → (fields_or_fault text ≡ Err fault) ↔ IsFirstFault text fault
  pub parts : PartsTold
  pub one : (text : List ℕ) (tokens : List TokenView) → Cuts text tokens → IsWellFielded text
      → (before : List Field) (field : Field) (behind : List Field)
      → fields_of tokens ≡ before ++ field ∷ behind → (number : ℕ) → field_of field.label ≡ Some number
      → field_with number tokens ≡ Some field
  pub authorizer : (text : List ℕ) (tokens : List TokenView) → Cuts text tokens → IsWellFielded text
      → field_with 1 tokens ≡ None → ⊥

-- what is stated with one field

-- a field is one of the four that state something, or nothing is stated with it
by_number : (P : Option ℕ → Type 0) (o : Option ℕ) → P (Some 1) → P (Some 3) → P (Some 5) → P (Some 7)
    → (((constants : List Set) (s : Stated) (tokens : List TokenView) → with_field constants s o tokens ≡ Ok s)
    → is_this 1 o ≡ false → is_this 3 o ≡ false → is_this 5 o ≡ false → is_this 7 o ≡ false → P o) → P o
by_number P None first third fifth seventh other = other (λ constants s tokens. refl) refl refl refl refl
by_number P (Some n) first third fifth seventh other = by (n == 1) (n == 3) (n == 5) (n == 7) refl refl refl refl
  where
    is : (m : ℕ) → (n == m) ≡ true → P (Some m) → P (Some n)
    is m e h = subst (λ k. P (Some k)) (sym (eqb-true n m e)) h

    by : (a b c d : Bool) → (n == 1) ≡ a → (n == 3) ≡ b → (n == 5) ≡ c → (n == 7) ≡ d → P (Some n)
    by true b c d p q u z = is 1 p first
    by false true c d p q u z = is 3 q third
    by false false true d p q u z = is 5 u fifth
    by false false false true p q u z = is 7 z seventh
    by false false false false p q u z = other (λ constants s tokens. rw (p, q, u, z) refl) p q u z

-- what is read of a field, if there is one, and else what was stated before
abbrev part : {X : Type 0} → (Field → Result X ReadFault) → Option Field → X → Result X ReadFault
part read None before = Ok before
part read (Some field) before = read field

abbrev authorizer_part : List Set → Field → Result (Option (List ℕ)) ReadFault
authorizer_part constants field = and_then (authorizer_in constants field.tokens) (λ a. Ok (Some a))

-- this is stated behind the fields of each number, each of which may be missing
record AreStated (constants : List Set) (own : ℕ → Option Field) (s t : Stated) : Type 0 where
  authorizer : part (authorizer_part constants) (own 1) s.authorizer ≡ Ok t.authorizer
  conditions : part (λ f. conditions_in f.tokens) (own 3) s.conditions ≡ Ok t.conditions
  licensees : part (λ f. licensees_in constants f.tokens) (own 5) s.licensees ≡ Ok t.licensees
  signature : part (λ f. signature_in f.tokens) (own 7) s.signature ≡ Ok t.signature

unchanged : (constants : List Set) (own : ℕ → Option Field) (s t : Stated) → own 1 ≡ None → own 3 ≡ None → own 5 ≡ None
    → own 7 ≡ None → ◌≡◌ {A = Result Stated ReadFault} (Ok s) (Ok t)
    → AreStated constants own s t
unchanged constants own s t a k l z e =
    let same : s ≡ t = cc in
    subst (AreStated constants own s) same
    (record { authorizer = rw a refl; conditions = rw k refl; licensees = rw l refl; signature = rw z refl })

-- the field, if it is the one of a number
abbrev only_of_number : Option ℕ → Field → ℕ → Option Field
only_of_number o field n = cond (is_this n o) (Some field) None

then_stated : {X : Type 0} (r : Result X ReadFault) (go : X → Stated) (t : Stated) (P : Stated → Type 0)
    → and_then r (λ x. Ok (go x)) ≡ Ok t
    → ((x : X) → r ≡ Ok x → P (go x)) → P t
then_stated (Ok x) go t P e put = let same : go x ≡ t = cc in subst P same (put x refl)
then_stated (Err f) go t P e put = absurd (cc)

one_stated : (constants : List Set) (s t : Stated) (field : Field) (o : Option ℕ)
    → with_field constants s o field.tokens ≡ Ok t → AreStated constants (only_of_number o field) s t
one_stated constants s t field o =
    by_number (λ o. with_field constants s o field.tokens ≡ Ok t → AreStated constants (only_of_number o field) s t) o
    (λ e. then_stated (authorizer_in constants field.tokens) _ t (Behind 1) e
    (λ x is. record {
      authorizer = ap (λ r. and_then r (λ a. Ok (Some a))) is;
      conditions = refl;
      licensees = refl;
      signature = refl;
    }))
    (λ e. then_stated (conditions_in field.tokens) _ t (Behind 3) e
    (λ x is. record { authorizer = refl; conditions = is; licensees = refl; signature = refl }))
    (λ e. then_stated (licensees_in constants field.tokens) _ t (Behind 5) e
    (λ x is. record { authorizer = refl; conditions = refl; licensees = is; signature = refl }))
    (λ e. then_stated (signature_in field.tokens) _ t (Behind 7) e
    (λ x is. record { authorizer = refl; conditions = refl; licensees = refl; signature = is }))
    (λ kept p q u z e. unchanged constants _ s t (rw p refl) (rw q refl) (rw u refl) (rw z refl)
    (sym (kept constants s field.tokens) ∙ e))
  where
    Behind : ℕ → Stated → Type 0
    Behind n = AreStated constants (only_of_number (Some n) field) s

-- what is stated with several fields, each of which is the one of its number

abbrev first_of : List Field → ℕ → Option Field
first_of fields n = find (λ f. is_label_of n f.label) fields

abbrev IsOwn : List TokenView → Field → Type 0
IsOwn tokens field = (n : ℕ) → field_of field.label ≡ Some n → field_with n tokens ≡ Some field

-- each of the fields is the one of its number
abbrev AreOwn : List TokenView → List Field → Type 0
AreOwn tokens fields = (before : List Field) (field : Field) (behind : List Field) → fields ≡ before ++ field ∷ behind
    → IsOwn tokens field

each_own : (tokens : List TokenView) (fields : List Field) → AreOwn tokens fields → AllByRecursion (IsOwn tokens) fields
each_own tokens [] own = tt
each_own tokens (x ∷ fields) own = (
  own [] x fields refl,
  each_own tokens fields
      (λ before field behind e. own (x ∷ before) field behind (ap (λ (fs : List Field). x ∷ fs) e)),
)

part_more : {X : Type 0} (read : Field → Result X ReadFault) (n : ℕ) (x : Field) (fields : List Field) (a b c : X)
    → ((g : Field) → first_of fields n ≡ Some g → is_label_of n x.label ≡ true → g ≡ x)
    → part read (only_of_number (field_of x.label) x n) a ≡ Ok b → part read (first_of fields n) b ≡ Ok c
    → part read (first_of (x ∷ fields) n) a ≡ Ok c
part_more {X} read n x fields a b c same one rest = by (is_label_of n x.label) refl one (first_of fields n) refl rest
  where
    by : (k : Bool) → is_label_of n x.label ≡ k → part read (cond k (Some x) None) a ≡ Ok b → (o : Option Field)
        → first_of fields n ≡ o → part read o b ≡ Ok c
        → part read (cond k (Some x) o) a ≡ Ok c
    by true k one None e rest = one ∙ rest
    by true k one (Some g) e rest = ap read (sym (same g e k)) ∙ rest
    by false k one None e rest = one ∙ rest
    by false k one (Some g) e rest = rest

all_stated : (constants : List Set) (tokens : List TokenView) (fields : List Field) (s t : Stated)
    → AllByRecursion (IsOwn tokens) fields → stated_by constants s fields ≡ Ok t
    → AreStated constants (first_of fields) s t
unfolding stated_by
all_stated constants tokens [] s t own e = unchanged constants _ s t refl refl refl refl e
all_stated constants tokens (x ∷ fields) s t own e =
    by (with_field constants s (field_of x.label) x.tokens) refl e
    (λ next. all_stated constants tokens fields next t own.1)
  where
    same : (n : ℕ) (g : Field) → first_of fields n ≡ Some g → is_label_of n x.label ≡ true → g ≡ x
    same n g found here =
        let there = number_of n (field_of g.label) (found_passes (λ f. is_label_of n f.label) fields g found) in
        let one : field_with n tokens ≡ Some g =
        found_each (IsOwn tokens) (λ f. is_label_of n f.label) fields g found own.1 n there in
        let other : field_with n tokens ≡ Some x = own.0 n (number_of n (field_of x.label) here) in
        cc

    by : (r : Result Stated ReadFault) → with_field constants s (field_of x.label) x.tokens ≡ r
        → and_then r (λ next. stated_by constants next fields) ≡ Ok t
        → ((next : Stated) → stated_by constants next fields ≡ Ok t → AreStated constants (first_of fields) next t)
        → AreStated constants (first_of (x ∷ fields)) s t
    by (Err f) w h rest = absurd (cc)
    by (Ok next) w h rest =
        let one = one_stated constants s next x (field_of x.label) w in
        let more = rest next h in
        record {
          authorizer = part_more _ 1 x fields _ _ _ (same 1) one.authorizer more.authorizer;
          conditions = part_more _ 3 x fields _ _ _ (same 3) one.conditions more.conditions;
          licensees = part_more _ 5 x fields _ _ _ (same 5) one.licensees more.licensees;
          signature = part_more _ 7 x fields _ _ _ (same 7) one.signature more.signature;
        }

one_statement : (constants : List Set) (own : ℕ → Option Field) (r s t : Stated) → AreStated constants own r s
    → AreStated constants own r t → s ≡ t
one_statement constants own r s t h k =
    let a : s.authorizer ≡ t.authorizer = cc (h.authorizer, k.authorizer) in
    let l : s.licensees ≡ t.licensees = cc (h.licensees, k.licensees) in
    let c : s.conditions ≡ t.conditions = cc (h.conditions, k.conditions) in
    let z : s.signature ≡ t.signature = cc (h.signature, k.signature) in
    λ i. record { authorizer = a i; licensees = l i; conditions = c i; signature = z i }

-- the fault of a field

then_err : {X : Type 0} (r : Result X ReadFault) (go : X → Stated) (f : ReadFault) → and_then r (λ x. Ok (go x)) ≡ Err f
    → r ≡ Err f
then_err (Ok x) go f e = absurd (cc)
then_err (Err g) go f e = let same : g ≡ f = cc in ap Err same

then_least : {X Y : Type 0} (r : Result X ReadFault) (go : X → Y) (g : ReadFault) → Least r g
    → Least (and_then r (λ x. Ok (go x))) g
then_least r go g h = (h.0, ap (λ r. and_then r (λ x. Ok (go x))) h.1, h.2)

field_shown : PartsTold → (constants : List Set) (s : Stated) (field : Field) (f : ReadFault)
    → with_field constants s (field_of field.label) field.tokens ≡ Err f
    → FieldShows constants field f
field_shown told constants s field f =
    by_number (λ o. field_of field.label ≡ o → with_field constants s o field.tokens ≡ Err f
    → FieldShows constants field f) (field_of field.label)
    (λ n e. inl (
      n,
      tells_fault _ (AuthorizerShows constants field.tokens) _ f
          (authorizer_told told constants field.tokens).tells (then_err _ _ f e),
    ))
    (λ n e. inr (inl (
      n,
      tells_fault _ (ConditionsShows field.tokens) _ f (conditions_told told field.tokens).tells
          (then_err _ _ f e),
    )))
    (λ n e. inr (inr
    (inl (
      n,
      tells_fault _ (LicenseesShows constants field.tokens) _ f
          (licensees_told told constants field.tokens).tells (then_err _ _ f e),
    ))))
    (λ n e. inr (inr
    (inr (
      n,
      tells_fault _ (SignatureShows field.tokens) _ f (signature_told told field.tokens).tells
          (then_err _ _ f e),
    ))))
    (λ kept p q u z n e. absurd (let same = kept constants s field.tokens in cc)) refl

field_least : PartsTold → (constants : List Set) (s : Stated) (field : Field) (g : ReadFault)
    → FieldShows constants field g
    → Least (with_field constants s (field_of field.label) field.tokens) g
field_least told constants s field g (inl h) =
    rw h.0 (then_least _ _ g ((authorizer_told told constants field.tokens).least g h.1))
field_least told constants s field g (inr (inl h)) =
    rw h.0 (then_least _ _ g ((conditions_told told field.tokens).least g h.1))
field_least told constants s field g (inr (inr (inl h))) =
    rw h.0 (then_least _ _ g ((licensees_told told constants field.tokens).least g h.1))
field_least told constants s field g (inr (inr (inr h))) =
    rw h.0 (then_least _ _ g ((signature_told told field.tokens).least g h.1))

-- the first fault of a list of fields

nothing_before : {P : Type 0} (front : List Field) (field : Field) (rest : List Field) → [] ≡ front ++ field ∷ rest → P
nothing_before [] field rest e = absurd (cc)
nothing_before (x ∷ front) field rest e = absurd (cc)

first_shown : PartsTold → (constants : List Set) (s : Stated) (fields : List Field) (f : ReadFault)
    → stated_by constants s fields ≡ Err f → IsFirstShown constants fields f
unfolding stated_by
first_shown told constants s [] f e = absurd (cc)
first_shown told constants s (x ∷ fields) f e =
    by (with_field constants s (field_of x.label) x.tokens) refl e (λ next. first_shown told constants next fields f)
  where
    by : (r : Result Stated ReadFault) → with_field constants s (field_of x.label) x.tokens ≡ r
        → and_then r (λ next. stated_by constants next fields) ≡ Err f
        → ((next : Stated) → stated_by constants next fields ≡ Err f → IsFirstShown constants fields f)
        → IsFirstShown constants (x ∷ fields) f
    by (Err g) o h rest = record {
      before = [];
      field = x;
      behind = fields;
      split = refl;
      shown = field_shown told constants s x f (o ∙ h);
      least = λ other k. let first = field_least told constants s x other k in let same : first.0 ≡ f = cc (first.1) in
          subst (λ fault. IsBefore fault other) same first.2;
      first = λ front earlier more k other m. nothing_before front earlier more k;
    }
    by (Ok next) o h rest =
        let r : IsFirstShown constants fields f = rest next h in
        record {
          before = x ∷ r.before;
          field = r.field;
          behind = r.behind;
          split =
              ap (λ (fs : List Field). x ∷ fs) r.split;
          shown = r.shown;
          least = r.least;
          first = passed r;
        }
      where
        passed : (r : IsFirstShown constants fields f) (front : List Field) (earlier : Field) (more : List Field)
            → x ∷ r.before ≡ front ++ earlier ∷ more
            → (other : ReadFault) → FieldShows constants earlier other → ⊥
        passed r [] earlier more k other m =
            let same : x ≡ earlier = cc in
            let first = field_least told constants s x other
            (subst (λ (y : Field). FieldShows constants y other) (sym same) m) in
            cc (first.1)
        passed r (y ∷ front) earlier more k other m = r.first front earlier more (cc) other m

shown_here : PartsTold → (constants : List Set) (s : Stated) (field : Field) (f : ReadFault)
    → FieldShows constants field f
    → ((other : ReadFault) → FieldShows constants field other → IsBefore f other)
    → with_field constants s (field_of field.label) field.tokens ≡ Err f
shown_here told constants s field f shown least =
    let first = field_least told constants s field f shown in
    first.1 ∙ ap Err (both first.0 first.2 (least first.0 (field_shown told constants s field first.0 first.1)))
  where
    both : (g : ReadFault) → IsBefore g f → IsBefore f g → g ≡ f
    both g (inr same) back = same
    both g (inl less) (inr same) = sym same
    both g (inl less) (inl more) = absurd (omega (arith, less, more))

shown_first : PartsTold
    → (constants : List Set) (s : Stated) (before : List Field) (field : Field) (behind : List Field) (f : ReadFault)
    → FieldShows constants field f
    → ((other : ReadFault) → FieldShows constants field other → IsBefore f other)
    → ((front : List Field) (earlier : Field) (rest : List Field) → before ≡ front ++ earlier ∷ rest
    → (other : ReadFault) → FieldShows constants earlier other → ⊥)
    → stated_by constants s (before ++ field ∷ behind) ≡ Err f
unfolding stated_by
shown_first told constants s [] field behind f shown least first =
    rw (shown_here told constants s field f shown least) refl
shown_first told constants s (y ∷ before) field behind f shown least first =
    by (with_field constants s (field_of y.label) y.tokens) refl
    (λ next. shown_first told constants next before field behind f shown least
    (λ front earlier rest k. first (y ∷ front) earlier rest (ap (λ (fs : List Field). y ∷ fs) k)))
  where
    by : (r : Result Stated ReadFault) → with_field constants s (field_of y.label) y.tokens ≡ r
        → ((next : Stated) → stated_by constants next (before ++ field ∷ behind) ≡ Err f)
        → and_then r (λ next. stated_by constants next (before ++ field ∷ behind)) ≡ Err f
    by (Ok next) o rest = rest next
    by (Err g) o rest = absurd (first [] y before refl g (field_shown told constants s y g o))

-- the whole text

abbrev constants_of : List TokenView → List Set
constants_of tokens = constants_in (field_with 6 tokens)

part_is : {X : Type 0} (Is : Field → X → Type 0) (Shows : Field → ReadFault → Type 0) (read : Field
    → Result X ReadFault) (o : Option Field) (a x : X)
    → ((f : Field) → IsTold (Is f) (Shows f) (read f)) → (part read o a ≡ Ok x) ↔ MatchOption o (x ≡ a) (λ f. Is f x)
part_is Is Shows read None a x told = (λ e. cc, λ e. ap Ok (sym e))
part_is Is Shows read (Some f) a x told = (tells_value (Is f) (Shows f) (read f) x (told f).tells, (told f).stated x)

authorizer_is : (constants : List Set) (Is : Field → List ℕ → Type 0) (tokens : List TokenView) (a : List ℕ)
    → ((f : Field) → IsTold (Is f) (AuthorizerShows constants f.tokens) (authorizer_in constants f.tokens))
    → (part (authorizer_part constants) (field_with 1 tokens) None ≡ Ok (Some a)) ↔ HasField 1 tokens (λ f. Is f a)
authorizer_is constants Is tokens a told =
    (λ e. by (field_with 1 tokens) refl e, λ h. rw (h.1, (told h.0).stated a h.2) refl)
  where
    then_some : (r : Result (List ℕ) ReadFault) → and_then r (λ a. Ok (Some a)) ≡ Ok (Some a) → r ≡ Ok a
    then_some (Ok b) e = let same : b ≡ a = cc in ap Ok same
    then_some (Err f) e = absurd (cc)

    by : (o : Option Field) → field_with 1 tokens ≡ o → part (authorizer_part constants) o None ≡ Ok (Some a)
        → HasField 1 tokens (λ f. Is f a)
    by None o e = absurd (cc)
    by (Some f) o e = (f, o, tells_value (Is f) (AuthorizerShows constants f.tokens) _ a (told f).tells (then_some _ e))

abbrev stated_of : Assertion → Stated
stated_of assertion =
    record {
      authorizer = Some assertion.authorizer;
      licensees = assertion.licensees;
      conditions = assertion.conditions;
      signature = assertion.signature;
    }

-- the fields state the assertion that they spell
stated_spells : PartsTold → (text : List ℕ) (tokens : List TokenView) (x : Assertion)
    → x.constants ≡ constants_of tokens
    → x.signed_to ≡ signed_to text tokens
    → AreStated (constants_of tokens) (λ n. field_with n tokens) nothing (stated_of x) ↔ Spells text tokens x
stated_spells told text tokens x constants signed =
    let k = constants_of tokens in
    let a = authorizer_is k _ tokens x.authorizer (λ f. authorizer_told told k f.tokens) in
    let l = part_is _ _ (λ f. licensees_in k f.tokens) (field_with 5 tokens) None x.licensees
    (λ f. licensees_told told k f.tokens) in
    let c = part_is _ _ (λ f. conditions_in f.tokens) (field_with 3 tokens) None x.conditions
    (λ f. conditions_told told f.tokens) in
    let z = part_is _ _ (λ f. signature_in f.tokens) (field_with 7 tokens) None x.signature
    (λ f. signature_told told f.tokens) in (
      λ h. record {
        authorizer = a.0 h.authorizer;
        constants = constants;
        licensees = l.0 h.licensees;
        conditions =
            c.0 h.conditions;
        signature = z.0 h.signature;
        signed_to = signed;
      },
      λ h. record {
        authorizer = a.1 h.authorizer;
        licensees = l.1 h.licensees;
        conditions = c.1 h.conditions;
        signature = z.1 h.signature;
      },
    )

refused : {X : Type 0} (read : Field → Result X ReadFault) (own : Option Field) (field : Field) (a x : X)
    (f : ReadFault) → own ≡ Some field → part read own a ≡ Ok x → Least (read field) f → ⊥
refused read own field a x f is stated least = let here : read field ≡ Ok x = rw is at stated in cc (least.1)

-- where all is stated, no field has a fault
no_fault : PartsTold → (constants : List Set) (tokens : List TokenView) (t : Stated) (field : Field) (f : ReadFault)
    → AreStated constants (λ n. field_with n tokens) nothing t
    → IsOwn tokens field → FieldShows constants field f → ⊥
no_fault told constants tokens t field f h own (inl k) =
    refused (authorizer_part constants) _ field _ _ f (own 1 k.0) h.authorizer
    (then_least _ _ f ((authorizer_told told constants field.tokens).least f k.1))
no_fault told constants tokens t field f h own (inr (inl k)) =
    refused (λ f. conditions_in f.tokens) _ field _ _ f (own 3 k.0) h.conditions
    ((conditions_told told field.tokens).least f k.1)
no_fault told constants tokens t field f h own (inr (inr (inl k))) =
    refused (λ f. licensees_in constants f.tokens) _ field _ _ f (own 5 k.0) h.licensees
    ((licensees_told told constants field.tokens).least f k.1)
no_fault told constants tokens t field f h own (inr (inr (inr k))) =
    refused (λ f. signature_in f.tokens) _ field _ _ f (own 7 k.0) h.signature
    ((signature_told told field.tokens).least f k.1)

tokens_tell : FieldsTold → (text : List ℕ) (tokens : List TokenView) → Cuts text tokens → IsWellFielded text
    → Tells (IsReading text) (IsFirstReadFault text) (reading_with text tokens)
unfolding reading_with field_with
tokens_tell told text tokens cut well = by (stated_by (constants_of tokens) nothing (fields_of tokens)) refl
  where
    of : (s : Stated) → AreStated (constants_of tokens) (first_of (fields_of tokens)) nothing s → (o : Option (List ℕ))
        → s.authorizer ≡ o
        → Tells (IsReading text) (IsFirstReadFault text)
        (assemble_assertion (constants_of tokens) (signed_to text tokens) s o)
    of s h (Some a) o = record {
      tokens = tokens;
      cut = cut;
      well_fielded = well;
      spelled = (stated_spells told.parts text tokens _ refl refl).0
          (subst (AreStated (constants_of tokens) _ nothing) (λ i. record s { authorizer = o i }) h);
    }
    of s h None o = absurd (some (field_with 1 tokens) refl (rw o at h.authorizer))
      where
        none : (r : Result (List ℕ) ReadFault) → and_then r (λ a. Ok (Some a)) ≡ Ok None → ⊥
        none (Ok a) e = cc
        none (Err f) e = cc

        some : (f : Option Field) → field_with 1 tokens ≡ f
            → part (authorizer_part (constants_of tokens)) f None ≡ Ok None → ⊥
        some None f k = told.authorizer text tokens cut well f
        some (Some field) f k = none _ k

    by : (r : Result Stated ReadFault) → stated_by (constants_of tokens) nothing (fields_of tokens) ≡ r
        → Tells (IsReading text) (IsFirstReadFault text)
        (and_then r (λ s. assemble_assertion (constants_of tokens) (signed_to text tokens) s s.authorizer))
    by (Err f) e = inr
        (record {
          tokens = tokens;
          cut = cut;
          well_fielded = well;
          shown =
              first_shown told.parts (constants_of tokens) nothing (fields_of tokens) f e;
        })
    by (Ok s) e = of s
        (all_stated (constants_of tokens) tokens (fields_of tokens) nothing s
        (each_own tokens (fields_of tokens) (told.one text tokens cut well)) e) s.authorizer refl

pub text_tells : FieldsTold → (text : List ℕ) → Tells (IsReading text) (IsFirstReadFault text) (reading_of text)
unfolding reading_of
text_tells told text = by (fields_or_fault text) refl
  where
    by : (r : Result (List TokenView) ReadFault) → fields_or_fault text ≡ r
        → Tells (IsReading text) (IsFirstReadFault text) (and_then r (reading_with text))
    by (Err f) e = inl ((told.fault text f).0 e)
    by (Ok tokens) e = let known = (told.tokens text tokens).0 e in tokens_tell told text tokens known.0 known.1

pub spelled_reading : FieldsTold → (text : List ℕ) (assertion : Assertion) → IsReading text assertion
    → reading_of text ≡ Ok assertion
unfolding reading_of reading_with field_with
spelled_reading told text assertion h =
    rw ((told.tokens text h.tokens).1 (h.cut, h.well_fielded))
    (by (stated_by (constants_of h.tokens) nothing (fields_of h.tokens)) refl)
  where
    own : AreOwn h.tokens (fields_of h.tokens)
    own = told.one text h.tokens h.cut h.well_fielded

    stated : AreStated (constants_of h.tokens) (first_of (fields_of h.tokens)) nothing (stated_of assertion)
    stated = (stated_spells told.parts text h.tokens assertion h.spelled.constants h.spelled.signed_to).1 h.spelled

    by : (r : Result Stated ReadFault) → stated_by (constants_of h.tokens) nothing (fields_of h.tokens) ≡ r
        → and_then r (λ s. assemble_assertion (constants_of h.tokens) (signed_to text h.tokens) s s.authorizer)
        ≡ Ok assertion
    by (Err f) e =
        let shown = first_shown told.parts (constants_of h.tokens) nothing (fields_of h.tokens) f e in
        absurd (no_fault told.parts (constants_of h.tokens) h.tokens (stated_of assertion) shown.field f stated
        (own shown.before shown.field shown.behind shown.split) shown.shown)
    by (Ok s) e =
        let all = all_stated (constants_of h.tokens) h.tokens (fields_of h.tokens) nothing s
        (each_own h.tokens (fields_of h.tokens) own) e in
        rw (
          one_statement (constants_of h.tokens) _ nothing s (stated_of assertion) all stated,
          ← h.spelled.constants,
          ← h.spelled.signed_to,
        ) refl

pub fault_reading : FieldsTold → (text : List ℕ) (fault : ReadFault) → IsFirstReadFault text fault
    → reading_of text ≡ Err fault
unfolding reading_of reading_with
fault_reading told text fault (inl h) = rw ((told.fault text fault).1 h) refl
fault_reading told text fault (inr h) =
    rw (
      (told.tokens text h.tokens).1 (h.cut, h.well_fielded),
      h.shown.split,
      shown_first told.parts (constants_of h.tokens) nothing h.shown.before h.shown.field h.shown.behind fault
          h.shown.shown h.shown.least h.shown.first,
    ) refl

-- `NoMemory` is no text's fault
pub no_memory : (text : List ℕ) → IsFirstReadFault text NoMemory → ⊥
no_memory text (inl h) = of h.has
  where
    of : HasFault text NoMemory → ⊥
    of (inl k) = cc (k.1)
    of (inr (inl k)) = let above = (lexical_between text k.0 k.1).0 in let same = ap fault_order k.2 in
        omega (arith, above, same)
    of (inr (inr k)) = k.shown
no_memory text (inr h) = ⊎_elim (λ k. k.1) (⊎_elim (λ k. k.1) (⊎_elim (λ k. k.1) (λ k. k.1))) h.shown.shown
