-- A reply at the front of bytes, and a file of replies that is followed up to some place.
use Rattle.std.proofs.Common.{◌≡◌, ℕ, ◌+◌, ◌-◌, ◌<◌, ◌≤◌, min, true, List, [], ◌∷◌, ◌++◌, length, take, drop}
use Rattle.std.proofs.Common.{refl, sym, ap, ◌∙◌, subst, append_assoc, arith}
use Rattle.std.specs.Prelude.{◌==◌}
use Rattle.std.specs.List.{AllByRecursion, concat}
use Rattle.std.proofs.Math.Nat.{min-le_left}
use Rattle.std.proofs.Math.Seq.{take-append-add}
use Rattle.std.proofs.lemmas.List.{append-nil, length-append, length-take, take-append-drop, drop_at, take_min}
use Rattle.std.proofs.lemmas.List.Folds.{concat-append}
use Rattle.kn_history.specs.declared.update.Update.{Update}
use Rattle.kn_follow.specs.declared.fault.FollowFault.{FollowFault}
use Rattle.kn_follow.specs.declared.fault.FollowFault.TheVariants.{Line, Gap, Refused, NoMemory}
use Rattle.kn_follow.specs.declared.reply.TheConstants.{REPLY_BYTES}
use Rattle.kn_follow.specs.Forms.{LogReply, form_text, IsLogText}
use Rattle.kn_follow.specs.Following.{IsApplied, Applies, TakesReply, IsReplyFault}
use Rattle.kn_follow.specs.Files.{IsWithinLimit, AppliesFront, RefusesFront, FrontDepartsAt, IsFrontFault, AppliesFirst}
use Rattle.kn_follow.specs.Files.{IsLogFile, IsLogFault, StartsWith, IsFrontReadFault}
use Rattle.kn_follow.specs.Reading.{literal_at, reply_at}
use Rattle.kn_follow.proofs.Readers.{got, stopped}
use Rattle.kn_follow.proofs.Replies.{reply-reader, stops-departs, whole-read, nothing-left}
use Rattle.kn_follow.proofs.Takings.{follow_fault}

-- What is read of the front.

window-size : (bytes : List ℕ) → length (take REPLY_BYTES bytes) ≤ REPLY_BYTES
window-size bytes = let size = length-take REPLY_BYTES bytes in let most = min-le_left REPLY_BYTES (length bytes) in
    omega (arith, size, most)

read-cut : (bytes : List ℕ) (reply : LogReply) (behind : List ℕ) → take REPLY_BYTES bytes ≡ form_text reply ++ behind
    → bytes ≡ form_text reply ++ (behind ++ drop REPLY_BYTES bytes)
read-cut bytes reply behind e =
    sym (take-append-drop REPLY_BYTES bytes) ∙ ap (λ l. l ++ drop REPLY_BYTES bytes) e
    ∙ append_assoc (form_text reply) behind (drop REPLY_BYTES bytes)

pub first_is : (bytes first : List ℕ) (n : ℕ) → n ≡ min REPLY_BYTES (length bytes) → first ≡ take n bytes
    → first ≡ take REPLY_BYTES bytes
first_is bytes first n is front = front ∙ ap (λ m. take m bytes) is ∙ take_min REPLY_BYTES bytes

pub front-read : (bytes : List ℕ) (reply : LogReply) (behind : List ℕ)
    → reply_at (take REPLY_BYTES bytes) ≡ got reply behind → StartsWith bytes reply (behind ++ drop REPLY_BYTES bytes)
front-read bytes reply behind e =
    let s = reply-reader.sound (take REPLY_BYTES bytes) reply behind e in
    let size = ap length s.1 in
    let parts = length-append (form_text reply) behind in
    let most = window-size bytes in
    record {
      text = form_text reply;
      cut = read-cut bytes reply behind s.1;
      short = omega (arith, size, parts, most);
      form = record { form = s.0; same = refl };
    }

-- the bytes behind it, as they are cut off in code
pub front_is : (bytes window : List ℕ) (reply : LogReply) (behind rest : List ℕ) → window ≡ take REPLY_BYTES bytes
    → reply_at window ≡ got reply behind → rest ≡ drop (length window - length behind) bytes
    → StartsWith bytes reply rest
front_is bytes window reply behind rest is e at =
    let read : reply_at (take REPLY_BYTES bytes) ≡ got reply behind = ap reply_at (sym is) ∙ e in
    let s = reply-reader.sound (take REPLY_BYTES bytes) reply behind read in
    let starts = front-read bytes reply behind read in
    let size = ap length s.1 in
    let same = ap length is in
    let parts = length-append (form_text reply) behind in
    let place : length (form_text reply) ≡ length window - length behind = omega (arith, size, parts, same) in
    let left : rest ≡ behind ++ drop REPLY_BYTES bytes =
    at ∙ ap (λ n. drop n bytes) (sym place) ∙ ap (drop (length (form_text reply))) (read-cut bytes reply behind s.1)
    ∙ drop_at (form_text reply) (behind ++ drop REPLY_BYTES bytes) (length (form_text reply)) refl in
    subst (StartsWith bytes reply) (sym left) starts

-- a reply at the front is read of the first bytes
pub front-whole : (left text rest : List ℕ) (reply : LogReply) → left ≡ text ++ rest → IsWithinLimit text
    → IsLogText text reply → reply_at (take REPLY_BYTES left) ≡ got reply (take (REPLY_BYTES - length text) rest)
front-whole left text rest reply cut short is =
    let more : ℕ = REPLY_BYTES - length text in
    let all : REPLY_BYTES ≡ length text + more = omega (arith, short) in
    let same : take REPLY_BYTES left ≡ form_text reply ++ take more rest =
    ap (take REPLY_BYTES) cut ∙ ap (λ n. take n (text ++ rest)) all ∙ take-append-add text rest more
    ∙ ap (λ l. l ++ take more rest) is.same in
    ap reply_at same ∙ reply-reader.whole reply (take more rest) is.form

pub front-departs : (bytes left : List ℕ) → 1 ≤ length bytes → reply_at (take REPLY_BYTES bytes) ≡ stopped left
    → FrontDepartsAt bytes (length (take REPLY_BYTES bytes) - length left)
front-departs bytes left some e = record {
  some = λ none. let size = ap length none in absurd (omega (arith, some, size));
  none = λ text rest reply cut short is.
      let clash : (more : List ℕ) → got reply more ≡ stopped left → ⊥ = λ more h. cc (h) in
      clash (take (REPLY_BYTES - length text) rest) (sym (front-whole bytes text rest reply cut short is) ∙ e);
  departs = stops-departs (take REPLY_BYTES bytes) left e;
}

pub front_stops : (bytes window left : List ℕ) (fault : FollowFault) → 1 ≤ length bytes
    → window ≡ take REPLY_BYTES bytes → reply_at window ≡ stopped left → fault ≡ Line (length window - length left)
    → IsFrontReadFault bytes fault
front_stops bytes window left fault some is e at =
    let read : reply_at (take REPLY_BYTES bytes) ≡ stopped left = ap reply_at (sym is) ∙ e in
    let same : fault ≡ Line (length (take REPLY_BYTES bytes) - length left) = at
    ∙ ap (λ (w : List ℕ). Line (length w - length left)) is in
    subst (IsFrontReadFault bytes) (sym same) (front-departs bytes left some read)

-- What becomes of it.

pub front_applied : (held : List Update) (bytes : List ℕ) (reply : LogReply) (rest : List ℕ) (count : ℕ)
    (new : List Update) → StartsWith bytes reply rest → TakesReply held reply count new
    → AppliesFront held bytes rest new
front_applied held bytes reply rest count new starts taken = record {
  text = starts.text;
  count = count;
  cut = starts.cut;
  short = starts.short;
  applied = record { reply = reply; form = starts.form; taken = taken };
}

front-refused : (held : List Update) (bytes : List ℕ) (reply : LogReply) (rest : List ℕ) (fault : FollowFault)
    (new : List Update) → StartsWith bytes reply rest → IsReplyFault held reply fault new
    → RefusesFront held bytes fault
front-refused held bytes reply rest fault new starts why = record {
  text = starts.text;
  rest = rest;
  new = new;
  cut = starts.cut;
  short = starts.short;
  refused = follow_fault held starts.text reply fault new starts.form why;
}

pub front_fault : (held : List Update) (bytes : List ℕ) (reply : LogReply) (rest : List ℕ) (fault : FollowFault)
    (new : List Update) → StartsWith bytes reply rest → IsReplyFault held reply fault new
    → IsFrontFault held bytes fault
front_fault held bytes reply rest (Line at) new starts why = absurd why
front_fault held bytes reply rest (Gap from have) new starts why =
    front-refused held bytes reply rest (Gap from have) new starts why
front_fault held bytes reply rest (Refused place) new starts why =
    front-refused held bytes reply rest (Refused place) new starts why
front_fault held bytes reply rest NoMemory new starts why = tt

nothing-read : reply_at [] ≡ stopped []
unfolding reply_at literal_at
nothing-read = refl

pub some-text : (text : List ℕ) (reply : LogReply) → IsLogText text reply → 1 ≤ length text
some-text [] reply is =
    let clash : got reply [] ≡ stopped [] → ⊥ = λ h. cc (h) in
    absurd (clash (sym (whole-read [] reply is) ∙ nothing-read))
some-text (b ∷ text) reply is = omega arith

pub front_shorter : (bytes : List ℕ) (reply : LogReply) (rest : List ℕ) → StartsWith bytes reply rest
    → length rest < length bytes
front_shorter bytes reply rest starts =
    let some = some-text starts.text reply starts.form in
    let size = ap length starts.cut in
    let parts = length-append starts.text rest in
    omega (arith, some, size, parts)

-- A file up to some place.

pub follow_begun : (text : List ℕ) (held : List Update) → held ≡ [] → AppliesFirst text text held
follow_begun text held none = record { replies = []; cut = refl; short = tt; applied = none }

all-push : {A : Type 0} (P : A → Type 0) (xs : List A) (x : A) → AllByRecursion P xs → P x
    → AllByRecursion P (xs ++ x ∷ [])
all-push P [] x all is = (is, tt)
all-push P (y ∷ xs) x all is = (all.0, all-push P xs x all.1 is)

pub applies-push : (old : List Update) (texts : List (List ℕ)) (mid : List Update) (text : List ℕ) (count : ℕ)
    (new : List Update) → Applies old texts mid → IsApplied mid text count new → Applies old (texts ++ text ∷ []) new
applies-push old [] mid text count new none is =
    (count, new, subst (λ (l : List Update). IsApplied l text count new) none is, refl)
applies-push old (t ∷ texts) mid text count new some is =
    (some.0, some.1, some.2, applies-push some.1 texts mid text count new some.3 is)

pub follow_more : (text left rest : List ℕ) (held new : List Update) → AppliesFirst text left held
    → AppliesFront held left rest new → AppliesFirst text rest new
follow_more text left rest held new first front = record {
  replies = first.replies ++ front.text ∷ [];
  cut =
      first.cut ∙ ap (λ l. concat first.replies ++ l) front.cut
      ∙ sym (append_assoc (concat first.replies) front.text rest)
      ∙ ap (λ l. l ++ rest)
      (sym (concat-append first.replies (front.text ∷ [])
      ∙ ap (λ l. concat first.replies ++ l) (append-nil front.text)));
  short = all-push IsWithinLimit first.replies front.text first.short front.short;
  applied = applies-push [] first.replies held front.text front.count new first.applied front.applied;
}

pub follow_ended : (text left : List ℕ) (held : List Update) → AppliesFirst text left held → true ≡ (length left == 0)
    → IsLogFile text held
follow_ended text left held first none = record {
  replies = first.replies;
  whole = first.cut ∙ ap (λ l. concat first.replies ++ l) (nothing-left left none) ∙ append-nil (concat first.replies);
  short = first.short;
  applied = first.applied;
}

pub follow_unbegun : (text : List ℕ) → IsLogFault text NoMemory
follow_unbegun text = record { held = []; left = text; first = follow_begun text [] refl; why = tt }
