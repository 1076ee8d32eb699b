-- Texts as the parts of a query.
use Rattle.std.proofs.Common.{◌≡◌, ◌≢◌, ℕ, zero, suc, ◌+◌, ◌≤◌, List, [], ◌∷◌, ◌++◌, drop, length, map, take, Option}
use Rattle.std.proofs.Common.{Some, None, is_some, refl, sym, ap, subst, ◌∙◌, arith, append_assoc}
use Rattle.std.specs.Prelude.{slice_get, sum_by, IsSome}
use Rattle.std.specs.List.{AllByRecursion}
use Rattle.std.proofs.lemmas.List.{map-append}
use Rattle.kn_base.specs.declared.limits.TheConstants.{LIVE_BYTES, PRIVATE_BYTES}
use Rattle.kn_trees.specs.declared.assertion.Assertion.{Assertion}
use Rattle.kn_assert.specs.Reading.{assertion_of}
use Rattle.kn_proof.specs.declared.named.Id.{Id}
use Rattle.kn_proof.specs.declared.named.Id.TheVariants.{Shared, Private as Own}
use Rattle.kn_meaning.specs.Equations.{Part}
use Rattle.kn_history.specs.History.{NumberedText, text_bytes}
use Rattle.kn_session.specs.declared.view.Private.{Private}
use Rattle.kn_session.specs.Views.{numbered_text, AreReadPrivates, ArePrivates}
use Rattle.kn_session.specs.Laws.{all_texts, all_ids, AreDifferent, TextsAreShort}
use Rattle.kn_daemon.specs.Daemon.{part_by, parts_of}
use Rattle.kn_rows.specs.declared.parts.TheConstants.{QUERY_BYTES}
use Rattle.kn_rows.specs.Numbering.{IsNumber, AreDistinct}
use Rattle.kn_rows.specs.Sizes.{HaveTexts}
use Rattle.kn_query.specs.SharedParts.{AreRead}

abbrev pub texts_in : List NumberedText → List (List ℕ)
texts_in texts = map (λ (c : NumberedText). c.text) texts

-- the parts of one text more
pub parts_more : (name : ℕ → Id) (texts : List NumberedText) (i k : ℕ) (text : List ℕ) (a : Assertion)
    → slice_get (map (λ (c : NumberedText). c.id) texts) i ≡ Some k → slice_get (texts_in texts) i ≡ Some text
    → assertion_of text ≡ Some a
    → parts_of name (take (suc i) texts) ≡ parts_of name (take i texts) ++ record { id = name k; assertion = a } ∷ []
parts_more name [] i k text a id here read = absurd (cc)
parts_more name (c ∷ texts) zero k text a id here read =
    let same : c.id ≡ k = cc in
    let there : c.text ≡ text = cc in
    ap (λ (o : Option Assertion). part_by name c.id o ++ []) (ap assertion_of there ∙ read)
    ∙ ap (λ (n : ℕ). record { id = name n; assertion = a } ∷ []) same
parts_more name (c ∷ texts) (suc i) k text a id here read =
    ap (λ (rest : List Part). part_by name c.id (assertion_of c.text) ++ rest)
    (parts_more name texts i k text a id here read)
    ∙ sym (append_assoc (part_by name c.id (assertion_of c.text)) (parts_of name (take i texts))
    (record { id = name k; assertion = a } ∷ []))

-- one text more has a reading
pub read_more : (texts : List NumberedText) (i : ℕ) (text : List ℕ) (a : Assertion)
    → slice_get (texts_in texts) i ≡ Some text → assertion_of text ≡ Some a → AreRead (take i texts)
    → AreRead (take (suc i) texts)
read_more [] i text a here read before = absurd (cc)
read_more (c ∷ texts) zero text a here read before =
    let there : c.text ≡ text = cc in
    (ap is_some (ap assertion_of there ∙ read), tt)
read_more (c ∷ texts) (suc i) text a here read before = (before.0, read_more texts i text a here read before.1)

-- the same from a place on
pub parts_more_from : (name : ℕ → Id) (texts : List NumberedText) (first i k : ℕ) (text : List ℕ) (a : Assertion)
    → first ≤ i
    → slice_get (map (λ (c : NumberedText). c.id) texts) i ≡ Some k → slice_get (texts_in texts) i ≡ Some text
    → assertion_of text ≡ Some a
    → parts_of name (drop first (take (suc i) texts)) ≡ parts_of name (drop first (take i texts))
    ++ record { id = name k; assertion = a } ∷ []
parts_more_from name [] first i k text a within id here read = absurd (cc)
parts_more_from name (c ∷ texts) zero i k text a within id here read =
    parts_more name (c ∷ texts) i k text a id here read
parts_more_from name (c ∷ texts) (suc first) zero k text a within id here read = absurd (omega (arith, within))
parts_more_from name (c ∷ texts) (suc first) (suc i) k text a within id here read =
    parts_more_from name texts first i k text a (omega (arith, within)) id here read

pub read_more_from : (texts : List NumberedText) (first i : ℕ) (text : List ℕ) (a : Assertion) → first ≤ i
    → slice_get (texts_in texts) i ≡ Some text → assertion_of text ≡ Some a
    → AreRead (drop first (take i texts)) → AreRead (drop first (take (suc i) texts))
read_more_from [] first i text a within here read before = absurd (cc)
read_more_from (c ∷ texts) zero i text a within here read before = read_more (c ∷ texts) i text a here read before
read_more_from (c ∷ texts) (suc first) zero text a within here read before = absurd (omega (arith, within))
read_more_from (c ∷ texts) (suc first) (suc i) text a within here read before =
    read_more_from texts first i text a (omega (arith, within)) here read before

-- from a place on there are none before it
pub none_before : {X : Type 0} (xs : List X) (first : ℕ) → drop first (take first xs) ≡ []
none_before xs zero = refl
none_before [] (suc first) = refl
none_before (x ∷ xs) (suc first) = none_before xs first

pub own_read : (privates : List Private) → AreReadPrivates privates → AreRead (map numbered_text privates)
own_read [] readings = tt
own_read (p ∷ privates) readings = (ap is_some readings.0, own_read privates readings.1)

pub found : (o : Option Assertion) → IsSome o → (a : Assertion) × (o ≡ Some a)
found None some = absurd (cc)
found (Some a) some = (a, refl)

pub read_parts : (name : ℕ → Id) (texts : List NumberedText) → AreRead texts
    → map assertion_of (texts_in texts) ≡ map (λ (part : Part). Some part.assertion) (parts_of name texts)
read_parts name [] read = refl
read_parts name (c ∷ texts) read =
    let one : (a : Assertion) × (assertion_of c.text ≡ Some a) = found (assertion_of c.text) read.0 in
    ap (λ (o : Option Assertion). o ∷ map assertion_of (texts_in texts)) one.1
    ∙ ap (λ (rest : List (Option Assertion)). Some one.0 ∷ rest) (read_parts name texts read.1)
    ∙ ap (λ (o : Option Assertion). map (λ (part : Part). Some part.assertion)
    (part_by name c.id o ++ parts_of name texts)) (sym one.1)

ids_in_parts : (name : ℕ → Id) (texts : List NumberedText) → AreRead texts
    → map (λ (part : Part). part.id) (parts_of name texts) ≡ map (λ (c : NumberedText). name c.id) texts
ids_in_parts name [] read = refl
ids_in_parts name (c ∷ texts) read =
    let one : (a : Assertion) × (assertion_of c.text ≡ Some a) = found (assertion_of c.text) read.0 in
    ap (λ (o : Option Assertion). map (λ (part : Part). part.id) (part_by name c.id o ++ parts_of name texts)) one.1
    ∙ ap (λ (rest : List Id). name c.id ∷ rest) (ids_in_parts name texts read.1)

apart_at : (x : Id) (ids : List Id) (p : ℕ) → AllByRecursion (λ (y : Id). x ≢ y) ids → IsNumber ids x p → ⊥
apart_at x [] p apart here = absurd (cc)
apart_at x (y ∷ ids) zero apart here = let same : x ≡ y = cc in apart.0 same
apart_at x (y ∷ ids) (suc p) apart here = apart_at x ids p apart.1 here

-- where no two ids are equal, none has two numbers
distinct : (ids : List Id) → AreDifferent ids → AreDistinct ids
distinct [] different p q item here there = absurd (cc)
distinct (x ∷ ids) different zero zero item here there = refl
distinct (x ∷ ids) different zero (suc q) item here there =
    let same : item ≡ x = cc in
    absurd (apart_at x ids q different.0 (subst (λ (y : Id). IsNumber ids y q) same there))
distinct (x ∷ ids) different (suc p) zero item here there =
    let same : item ≡ x = cc in
    absurd (apart_at x ids p different.0 (subst (λ (y : Id). IsNumber ids y p) same here))
distinct (x ∷ ids) different (suc p) (suc q) item here there = ap suc (distinct ids different.1 p q item here there)

-- the parts of a session
abbrev pub parts_in : List NumberedText → List Private → List Part
parts_in live privates = parts_of Shared live ++ parts_of Own (map numbered_text privates)

-- both sorts, pushed one after the other
pub both_sorts : (live : List NumberedText) (privates : List Private) (old mid new : List Part) → old ≡ []
    → mid ≡ old ++ parts_of Shared live → new ≡ mid ++ parts_of Own (map numbered_text privates)
    → new ≡ parts_in live privates
both_sorts live privates old mid new none shared own =
    own ∙ ap (λ (l : List Part). l ++ parts_of Own (map numbered_text privates)) (shared
    ∙ ap (λ (l : List Part). l ++ parts_of Shared live) none)

-- a query takes them
pub have_texts : TextsAreShort → (live : List NumberedText) (privates : List Private) → AreRead live
    → AreReadPrivates privates
    → text_bytes live ≤ LIVE_BYTES → ArePrivates (map numbered_text privates) → HaveTexts (parts_in live privates)
have_texts are_short live privates read readings few own =
    let texts = map numbered_text privates in
    let short : sum_by length (all_texts live texts) ≤ LIVE_BYTES + PRIVATE_BYTES = are_short live texts few own in
    let bound : LIVE_BYTES + PRIVATE_BYTES ≤ QUERY_BYTES = omega arith in
    record {
      texts = all_texts live texts;
      read = map-append assertion_of (texts_in live) (texts_in texts)
          ∙ ap (λ (l : List (Option Assertion)). l ++ map assertion_of (texts_in texts)) (read_parts Shared live read)
          ∙ ap (λ (l : List (Option Assertion)). map (λ (part : Part). Some part.assertion) (parts_of Shared live) ++ l)
          (read_parts Own texts (own_read privates readings))
          ∙ sym (map-append (λ (part : Part). Some part.assertion) (parts_of Shared live) (parts_of Own texts));
      short = omega arith;
    }

-- no two of them have one id
pub ids_differ : (live : List NumberedText) (privates : List Private) → AreRead live → AreReadPrivates privates
    → AreDifferent (all_ids live (map numbered_text privates))
    → AreDistinct (map (λ (part : Part). part.id) (parts_in live privates))
ids_differ live privates read readings different =
    let texts = map numbered_text privates in
    let ids : map (λ (part : Part). part.id) (parts_in live privates) ≡ all_ids live texts =
    map-append (λ (part : Part). part.id) (parts_of Shared live) (parts_of Own texts)
    ∙ ap (λ (l : List Id). l ++ map (λ (part : Part). part.id) (parts_of Own texts)) (ids_in_parts Shared live read)
    ∙ ap (λ (l : List Id). map (λ (c : NumberedText). Shared c.id) live ++ l)
    (ids_in_parts Own texts (own_read privates readings)) in
    subst (λ (l : List Id). AreDistinct l) (sym ids) (distinct (all_ids live texts) different)
