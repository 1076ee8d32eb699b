-- Where an answer ends.
use Rattle.std.proofs.Common.{◌≡◌, ◌≢◌, ◌⊎◌, ◌==◌, ℕ, suc, ◌+◌, ◌-◌, ◌<◌, ◌≤◌, min, Bool, true, false, not, ◌||◌, cond}
use Rattle.std.proofs.Common.{nat_lt, Option, Some, None, List, [], ◌∷◌, ◌++◌, length, take, drop, get_or, Result, Ok}
use Rattle.std.proofs.Common.{Err, IfOk, IfSome, IfNone, refl, sym, ap, ◌∙◌, subst, arith, append_assoc, append-nil}
use Rattle.std.proofs.Common.{inl, inr, position, slice_index, ltb-true, ltb-false}
use Rattle.std.specs.List.{list_any, position_or_len}
use Rattle.std.proofs.lemmas.Bool.Decides.{Decides-eqb}
use Rattle.std.proofs.lemmas.List.{length-append, length-take, take-append-drop, take_at, take_all, take_more}
use Rattle.std.proofs.lemmas.List.{take-take}
use Rattle.std.proofs.lemmas.List.Folds.{list_any-append}
use Rattle.std.proofs.lemmas.List.Sums.{passes_at_first}
use Rattle.std.proofs.Math.Seq.{take-append-add}
use Rattle.std.proofs.lemmas.Option.{same_Some}
use Rattle.kn_wire.specs.Requests.{is_newline}
use Rattle.kn_follow.specs.Answers.{IsLine, IsLogAnswer, IsAnswerForm, IsAnswer, WaitsFor, Awaits}
use Rattle.kn_follow.specs.Forms.{LogReply, form_text, HasForm}
use Rattle.kn_follow.specs.Reading.{reply_at}
use Rattle.kn_follow.specs.declared.request.Request.{Request}
use Rattle.kn_follow.proofs.Readers.{got, stopped, stops-unspelled}
use Rattle.kn_follow.proofs.Replies.{reply-reader, take-one, cut-size, nothing-left}

-- Lines.

one-more : (n : ℕ) → suc n ≡ 1 + n
one-more n = omega arith

-- nothing in front of the first element that passes a test passes it
pub none-before : (p : ℕ → Bool) (text : List ℕ) → list_any p (take (position_or_len p text) text) ≡ false
none-before p [] = refl
none-before p (b ∷ bs) = by (p b) refl (none-before p bs)
  where
    by : (t : Bool) → p b ≡ t → list_any p (take (position_or_len p bs) bs) ≡ false
        → list_any p (take (cond (not t) (1 + position_or_len p bs) 0) (b ∷ bs)) ≡ false
    by true e rest = refl
    by false e rest =
        ap (λ n. list_any p (take n (b ∷ bs))) (sym (one-more (position_or_len p bs)))
        ∙ ap (λ t. t || list_any p (take (position_or_len p bs) bs)) e ∙ rest

position-cases : (p : ℕ → Bool) (text : List ℕ) (found : Option ℕ) → found ≡ position p text
    → ((found ≡ None) × (length text ≤ position_or_len p text))
    ⊎ ((found ≡ Some (position_or_len p text)) × (position_or_len p text < length text))
position-cases p text found e = by (nat_lt (position_or_len p text) (length text)) refl
  where
    by : (t : Bool) → nat_lt (position_or_len p text) (length text) ≡ t
        → ((found ≡ None) × (length text ≤ position_or_len p text))
        ⊎ ((found ≡ Some (position_or_len p text)) × (position_or_len p text < length text))
    by true h = inr (
      e ∙ ap (λ t. cond t (Some (position_or_len p text)) None) h,
      ltb-true (position_or_len p text) (length text) h,
    )
    by false h = inl (
      e ∙ ap (λ t. cond t (Some (position_or_len p text)) None) h,
      ltb-false (position_or_len p text) (length text) h,
    )

-- the place of the first element that passes a test
pub record IsFirstPlace (p : ℕ → Bool) (text : List ℕ) (at : ℕ) : Type 0 where
  pub same : at ≡ position_or_len p text
  pub within : at < length text
  pub passes : p (get_or text at 0) ≡ true
  pub before : list_any p (take at text) ≡ false

pub first-place : (p : ℕ → Bool) (text : List ℕ) (at : ℕ) → Some at ≡ position p text → IsFirstPlace p text at
first-place p text at e = elim (position-cases p text (Some at) e) [
  | inl h ↦ let none = h.0 in absurd (cc none)
  | inr h ↦
      let same : at ≡ position_or_len p text = same_Some at (position_or_len p text) h.0 in
      let within = h.1 in
      record {
        same = same;
        within = omega (arith, same, within);
        passes = ap (λ n. p (get_or text n 0)) same ∙ passes_at_first p text 0 within;
        before = ap (λ n. list_any p (take n text)) same ∙ none-before p text;
      }
]

pub no-place : (p : ℕ → Bool) (text : List ℕ) → None ≡ position p text → list_any p text ≡ false
no-place p text e = elim (position-cases p text None e) [
  | inl h ↦ ap (list_any p) (sym (take_all (position_or_len p text) text h.1)) ∙ none-before p text
  | inr h ↦ let some = h.0 in absurd (cc some)
]

pub no-place-at : (p : ℕ → Bool) (text : List ℕ) → None ≡ position p text → length text ≤ position_or_len p text
no-place-at p text e = elim (position-cases p text None e) [
  | inl h ↦ h.1
  | inr h ↦ let some = h.0 in absurd (cc some)
]

pub line-here : (text : List ℕ) (at : ℕ) → Some at ≡ position is_newline text → IsLine (take (at + 1) text)
line-here text at e =
    let f = first-place is_newline text at e in
    let within = f.within in
    let byte : get_or text at 0 ≡ 10 = (Decides-eqb (get_or text at 0) 10).0 f.passes in
    record {
      words = take at text;
      ends = take_more text at 0 within ∙ ap (λ b. take at text ++ b ∷ []) byte;
      one = f.before;
    }

pub waits-line : (text : List ℕ) → None ≡ position is_newline text → WaitsFor IsLine text
waits-line text e front rest cut line =
    let none : list_any is_newline (front ++ rest) ≡ false = ap (list_any is_newline) (sym cut)
    ∙ no-place is_newline text e in
    let some : list_any is_newline front ≡ true =
    ap (list_any is_newline) line.ends ∙ list_any-append is_newline line.words (10 ∷ [])
    ∙ ap (λ t. t || true) line.one in
    let both : list_any is_newline (front ++ rest) ≡ true = list_any-append is_newline front rest
    ∙ ap (λ t. t || list_any is_newline rest) some in
    absurd (cc (none, both))

-- First bytes.

pub first-kept : (front rest : List ℕ) → slice_index front 0 ≡ 76 → slice_index (front ++ rest) 0 ≡ 76
first-kept [] rest e = absurd (cc e)
first-kept (b ∷ front) rest e = e

form-first : (reply : LogReply) → slice_index (form_text reply) 0 ≡ 76
form-first reply = refl

line-first : (text rest : List ℕ) → IsLine text → slice_index (text ++ rest) 0 ≡ slice_index text 0
line-first [] rest line = let ends = line.ends in absurd (no-words line.words ends)
  where
    no-words : (words : List ℕ) → [] ≡ words ++ 10 ∷ [] → ⊥
    no-words [] e = cc e
    no-words (b ∷ words) e = cc e
line-first (b ∷ text) rest line = refl

-- Answers to LOG.

-- the first byte isn't `L`
pub other-answer : (text : List ℕ) (n : ℕ) → slice_index text 0 ≢ 76 → IsLine (take n text) → IsLogAnswer (take n text)
other-answer text n other line =
    let whole : take n text ++ drop n text ≡ text = take-append-drop n text in
    inl (record {
      line = line;
      other = λ e. other (sym (ap (λ l. slice_index l 0) whole) ∙ line-first (take n text) (drop n text) line ∙ e);
    })

pub waits-other : (text : List ℕ) → slice_index text 0 ≢ 76 → WaitsFor IsLine text → WaitsFor IsLogAnswer text
waits-other text other waits front rest cut (inl line) = waits front rest cut line.line
waits-other text other waits front rest cut (inr (inl reply)) =
    other (ap (λ l. slice_index l 0) cut
    ∙ first-kept front rest (ap (λ l. slice_index l 0) reply.form.same ∙ form-first reply.reply))
waits-other text other waits front rest cut (inr (inr departure)) =
    other (ap (λ l. slice_index l 0) cut ∙ first-kept front rest departure.first)

-- a whole reply stands in front
pub reply-answer : (text : List ℕ) (reply : LogReply) (rest : List ℕ) → reply_at text ≡ got reply rest
    → IsLogAnswer (take (length text - length rest) text)
reply-answer text reply rest e =
    let s = reply-reader.sound text reply rest e in
    let here : take (length text - length rest) text ≡ form_text reply =
    ap (λ (n : ℕ). take n text) (sym (cut-size text (form_text reply) rest s.1))
    ∙ ap (take (length (form_text reply))) s.1 ∙ take_at (form_text reply) rest (length (form_text reply)) refl in
    inr (inl (record { reply = reply; form = record { form = s.0; same = here } }))

first-of : (front : List ℕ) (b : ℕ) (more : List ℕ)
    → slice_index (front ++ b ∷ []) 0 ≡ slice_index (front ++ b ∷ more) 0
first-of [] b more = refl
first-of (x ∷ front) b more = refl

-- a byte departs from the form
pub departing-answer : (text rest : List ℕ) → reply_at text ≡ stopped rest → false ≡ (length rest == 0)
    → slice_index text 0 ≡ 76 → IsLogAnswer (take (length text - length rest + 1) text)
departing-answer text [] e some first = absurd (cc some)
departing-answer text (b ∷ more) e some first =
    let f = reply-reader.fronts text (b ∷ more) e in
    let front = f.front in
    let at : reply_at (front ++ b ∷ more) ≡ stopped (b ∷ more) = ap reply_at (sym f.cut) ∙ e in
    let u = stops-unspelled HasForm form_text reply_at reply-reader front b more at in
    let here : take (length text - length (b ∷ more) + 1) text ≡ front ++ b ∷ [] =
    ap (λ (n : ℕ). take (n + 1) text) (sym (cut-size text front (b ∷ more) f.cut)) ∙ ap (take (length front + 1)) f.cut
    ∙ take-one front b more in
    let clash : (reply : LogReply) → got reply (b ∷ more) ≡ stopped (b ∷ more) → ⊥ = λ reply h. cc (h) in
    inr (inr (record {
      first = ap (λ l. slice_index l 0) here ∙ first-of front b more ∙ sym (ap (λ l. slice_index l 0) f.cut) ∙ first;
      departs = record {
        front = front;
        last = b;
        cut = here;
        begins = record { reply = f.value; rest = f.behind; form = f.fits; begins = f.begins };
        unformed = λ reply is.
            clash reply (sym (ap (λ l. reply_at (l ++ b ∷ more)) is.same ∙ reply-reader.whole reply (b ∷ more) is.form)
            ∙ at);
        departs = λ is. u.none is.reply is.rest is.form (is.begins ∙ ap (λ l. l ++ is.rest) here);
      };
    }))

-- the bytes begin a reply, and are none
pub waits-reply : (text : List ℕ) (rest : List ℕ) → reply_at text ≡ stopped rest → true ≡ (length rest == 0)
    → slice_index text 0 ≡ 76 → WaitsFor IsLogAnswer text
waits-reply text (b ∷ more) e none first = let empty = nothing-left (b ∷ more) none in absurd (cc empty)
waits-reply text [] e none first = by
  where
    clash : (reply : LogReply) (behind : List ℕ) → got reply behind ≡ stopped [] → ⊥
    clash reply behind h = cc (h)

    by : WaitsFor IsLogAnswer text
    by front rest cut (inl line) =
        line.other (sym (line-first front rest line.line) ∙ sym (ap (λ l. slice_index l 0) cut) ∙ first)
    by front rest cut (inr (inl reply)) =
        let is = reply.form in
        clash reply.reply rest (sym (ap reply_at cut ∙ ap (λ l. reply_at (l ++ rest)) is.same
        ∙ reply-reader.whole reply.reply rest is.form) ∙ e)
    by front rest cut (inr (inr departure)) =
        let f = reply-reader.fronts text [] e in
        departure.departs.departs (record {
          reply = f.value;
          rest = rest ++ f.behind;
          form = f.fits;
          begins = f.begins ∙ ap (λ l. l ++ f.behind) (sym (append-nil f.front) ∙ sym f.cut ∙ cut)
              ∙ append_assoc front rest f.behind;
        })

-- Answers that aren't too long.

pub answer-within : (request : Request) (text : List ℕ) (k n : ℕ) → n ≤ k → n ≤ 300000
    → IsAnswerForm request (take n (take k text)) → IsAnswer request (take n text)
answer-within request text k n within short form =
    let size = length-take n text in
    record {
      form = subst (IsAnswerForm request) (take-take n k text within) form;
      short = omega (arith, size);
    }

pub awaits-within : (request : Request) (text : List ℕ) (k : ℕ) → k ≡ min (length text) 300000
    → WaitsFor (IsAnswerForm request) (take k text) → Awaits request text
awaits-within request text k is waits front rest cut answer =
    let size = ap length cut ∙ length-append front rest in
    let short = answer.short in
    let more : length front + (k - length front) ≡ k = omega (arith, size, is, short) in
    waits front (take (k - length front) rest)
    (ap (take k) cut ∙ ap (λ (n : ℕ). take n (front ++ rest)) (sym more)
    ∙ take-append-add front rest (k - length front)) answer.form

-- where the first byte isn't `L`
pub not-first : (text : List ℕ) → ((rest : List ℕ) → text ≢ (76 ∷ []) ++ rest) → slice_index text 0 ≢ 76
not-first [] none e = absurd (cc e)
not-first (b ∷ text) none e = none text (ap (λ x. x ∷ text) e)

-- What is found in the front of a text that an answer may have.
module _ {E : Type 0} (request : Request) (text front : List ℕ) (k : ℕ) (is : front ≡ take k text)
    (bound : k ≡ min (length text) 300000) where
  pub found-none : (r : Result (Option ℕ) E) → IfOk r (λ found. IfNone found (WaitsFor (IsAnswerForm request) front))
      → IfOk r (λ found. IfNone found (Awaits request text))
  found-none (Ok None) waits = awaits-within request text k bound (subst (WaitsFor (IsAnswerForm request)) is waits)
  found-none (Ok (Some n)) waits = tt
  found-none (Err fault) waits = tt

  pub found-answer : (r : Result (Option ℕ) E) → IfOk r (λ found. IfSome found (λ n. n ≤ length front))
      → IfOk r (λ found. IfSome found (λ n. IsAnswerForm request (take n front)))
      → IfOk r (λ found. IfSome found (λ n. IsAnswer request (take n text)))
  found-answer (Ok None) within form = tt
  found-answer (Ok (Some n)) within form =
      let size = ap length is ∙ length-take k text in
      answer-within request text k n (omega (arith, size, within)) (omega (arith, size, within, bound))
      (subst (λ t. IsAnswerForm request (take n t)) is form)
  found-answer (Err fault) within form = tt
