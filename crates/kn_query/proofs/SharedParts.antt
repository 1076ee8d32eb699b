-- The credentials of a version by their places, and what a query over them needs.
use Rattle.std.proofs.Common.{◌≡◌, ℕ, zero, suc, ◌≤◌, List, [], ◌∷◌, ◌++◌, All, length, map, slice_get, take, Option}
use Rattle.std.proofs.Common.{Some, refl, sym, ap, subst, ◌∙◌, arith}
use Rattle.std.specs.Prelude.{sum_by}
use Rattle.std.specs.List.{IsDistinct}
use Rattle.std.proofs.lemmas.List.{append-nil}
use Rattle.std.proofs.lemmas.Option.{same_Some}
use Rattle.std.proofs.lemmas.List.Sums.{sum_by-cons}
use Rattle.kn_base.specs.declared.limits.TheConstants.{LIVE_BYTES}
use Rattle.kn_trees.specs.declared.assertion.Assertion.{Assertion}
use Rattle.kn_assert.specs.Reading.{assertion_of}
use Rattle.kn_proof.specs.declared.named.Id.{Id}
use Rattle.kn_proof.specs.declared.named.Id.TheVariants.{Shared, Private as Own}
use Rattle.kn_meaning.specs.Equations.{IsPolicyLevel, Part, equations_over}
use Rattle.kn_history.specs.History.{NumberedText, text_bytes}
use Rattle.kn_env.specs.Environment.{Asked}
use Rattle.kn_session.specs.Sessions.{Session, pin_at}
use Rattle.kn_session.specs.Views.{ArePrivates}
use Rattle.kn_session.specs.Laws.{TextsAreShort}
use Rattle.kn_daemon.specs.Daemon.{part_by, parts_of, asked_of, equations_of, session_parts}
use Rattle.kn_rows.specs.Numbering.{IsNumber}
use Rattle.kn_rows.specs.Sizes.{HaveTexts, IsReadablePart, total_size}
use Rattle.kn_assert.proofs.Answered.{ReadingTold}
use Rattle.kn_rows.proofs.Texts.{SoundTold, texts_readable, texts_size}
use Rattle.kn_query.specs.SharedParts.{AreRead, shared_parts}
use Rattle.kn_query.specs.Steady.{KeepsLevel}
use Rattle.kn_query.proofs.Texts.{found, have_texts, read_parts, texts_in}

-- there is one for each text
pub parts-count : (name : ℕ → Id) (texts : List NumberedText) → AreRead texts
    → length (parts_of name texts) ≡ length texts
parts-count name [] read = refl
parts-count name (c ∷ texts) read =
    let one : (a : Assertion) × (assertion_of c.text ≡ Some a) = found (assertion_of c.text) read.0 in
    ap (λ (o : Option Assertion). length (part_by name c.id o ++ parts_of name texts)) one.1
    ∙ ap suc (parts-count name texts read.1)

-- its id is that of the text
pub id-at : (name : ℕ → Id) (texts : List NumberedText) → AreRead texts → (i : ℕ) (text : NumberedText)
    → slice_get texts i ≡ Some text
    → IsNumber (map (λ (p : Part). p.id) (parts_of name texts)) (name text.id) i
id-at name [] read i text here = absurd (cc)
id-at name (c ∷ texts) read zero text here =
    let one : (a : Assertion) × (assertion_of c.text ≡ Some a) = found (assertion_of c.text) read.0 in
    ap (λ (o : Option Assertion). slice_get (map (λ (p : Part). p.id) (part_by name c.id o ++ parts_of name texts))
    zero) one.1
    ∙ ap (λ (t : NumberedText). Some (name t.id)) (same_Some c text here)
id-at name (c ∷ texts) read (suc i) text here =
    let one : (a : Assertion) × (assertion_of c.text ≡ Some a) = found (assertion_of c.text) read.0 in
    ap (λ (o : Option Assertion). slice_get (map (λ (p : Part). p.id) (part_by name c.id o ++ parts_of name texts))
    (suc i)) one.1
    ∙ id-at name texts read.1 i text here

-- and its assertion is the reading of the text
pub assertion-at : (name : ℕ → Id) (texts : List NumberedText) → AreRead texts
    → (i : ℕ) (text : NumberedText) (a : Assertion)
    → slice_get texts i ≡ Some text → assertion_of text.text ≡ Some a
    → IsNumber (map (λ (p : Part). p.assertion) (parts_of name texts)) a i
assertion-at name [] read i text a here is = absurd (cc)
assertion-at name (c ∷ texts) read zero text a here is =
    ap (λ (o : Option Assertion).
    slice_get (map (λ (p : Part). p.assertion) (part_by name c.id o ++ parts_of name texts)) zero)
    (ap (λ (t : NumberedText). assertion_of t.text) (same_Some c text here) ∙ is)
assertion-at name (c ∷ texts) read (suc i) text a here is =
    let one : (b : Assertion) × (assertion_of c.text ≡ Some b) = found (assertion_of c.text) read.0 in
    ap (λ (o : Option Assertion).
    slice_get (map (λ (p : Part). p.assertion) (part_by name c.id o ++ parts_of name texts)) (suc i)) one.1
    ∙ assertion-at name texts read.1 i text a here is

-- a session may have no private assertions
no-privates : ArePrivates []
unfolding IsDistinct
no-privates = record { few = omega arith; short = omega arith; from_one = tt; different = tt }

-- a query takes the credentials alone
pub shared-texts : TextsAreShort → (texts : List NumberedText) → AreRead texts → text_bytes texts ≤ LIVE_BYTES
    → HaveTexts (parts_of Shared texts)
shared-texts are_short texts read few =
    subst (λ (l : List Part). HaveTexts l) (append-nil (parts_of Shared texts))
    (have_texts are_short texts [] read tt few no-privates)

-- their assertions are readable, and no larger than the texts
pub parts-readable : ReadingTold → SoundTold → (name : ℕ → Id) (texts : List NumberedText) → AreRead texts
    → All IsReadablePart (parts_of name texts)
parts-readable told sound name texts read =
    texts_readable told sound (texts_in texts) (parts_of name texts) (read_parts name texts read)

bytes-in : (texts : List NumberedText) → sum_by length (texts_in texts) ≡ text_bytes texts
bytes-in [] = refl
bytes-in (c ∷ texts) =
    let rest = bytes-in texts in
    omega (
      arith,
      sum_by-cons length c.text (texts_in texts),
      sum_by-cons (λ (t : NumberedText). length t.text) c texts,
      rest,
    )

pub parts-size : ReadingTold → SoundTold → (name : ℕ → Id) (texts : List NumberedText) → AreRead texts
    → total_size (parts_of name texts) ≤ text_bytes texts
parts-size told sound name texts read =
    let size = texts_size told sound (texts_in texts) (parts_of name texts) (read_parts name texts read) in
    omega (arith, size, bytes-in texts)

-- what is asked of a session's assertions by its attributes, values and requesters is what the session asks
pub asked-by : (session : Session) (query : Asked) (values : List (List ℕ)) → query.attributes ≡ session.attributes
    → query.values ≡ values → query.requesters ≡ session.requesters
    → equations_over query (session_parts session) ≡ equations_of session values
asked-by session query values attributes named requesters =
    let same : query ≡ asked_of session values =
    λ i. record { attributes = attributes i; values = named i; requesters = requesters i } in
    λ i. equations_over (same i) (session_parts session)

-- a session without private assertions asks with the credentials alone
pub parts-alone : (session : Session) → session.privates ≡ [] → shared_parts session.pinned ≡ session_parts session
parts-alone session none =
    sym (append-nil (shared_parts session.pinned))
    ∙ ap (λ ps. shared_parts session.pinned ++ parts_of Own ps) (sym none)

-- and has the value that it had over an earlier version, where the policy keeps its level
pub value-kept : (session : Session) (n : ℕ) → session.privates ≡ []
    → KeepsLevel (take n session.pinned) session.pinned
    → (values : List (List ℕ)) (level : ℕ)
    → IsPolicyLevel (equations_of (pin_at (take n session.pinned) session) values) level
    → IsPolicyLevel (equations_of session values) level
value-kept session n none kept values level was =
    let asked : Asked = asked_of session values in
    subst (λ (ps : List Part). IsPolicyLevel (equations_over asked ps) level) (parts-alone session none)
    (kept asked level
    (subst (λ (ps : List Part). IsPolicyLevel (equations_over asked ps) level)
    (sym (parts-alone (pin_at (take n session.pinned) session) none)) was))
