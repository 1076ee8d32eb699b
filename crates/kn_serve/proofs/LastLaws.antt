-- The answer of the last question, while requests are answered.
use Rattle.std.proofs.Common.{◌≡◌, ℕ, zero, suc, ◌≤◌, Bool, true, false, cond, ◌==◌, List, [], ◌∷◌, ◌++◌, length}
use Rattle.std.proofs.Common.{find, take, Option, Some, None, refl, sym, ap, ◌∙◌, subst, arith, inl, inr}
use Rattle.std.specs.Prelude.{◌⊎◌, IfSome}
use Rattle.std.proofs.lemmas.List.{length-append}
use Rattle.kn_answer.specs.declared.types.Answer.{Answer}
use Rattle.kn_history.specs.declared.update.Update.{Update}
use Rattle.kn_history.specs.Retained.{retained_version}
use Rattle.kn_session.specs.Sessions.{Session, with_changed, pin_at}
use Rattle.kn_reply.specs.Replies.{Reply, Done, Started, Number, PrivateAdded, Added, Value, Batched, PinnedAt, Log}
use Rattle.kn_reply.specs.Replies.{News, Critical, No, NoMemory}
use Rattle.kn_daemon.specs.declared.shape.Shape.{Shape as Asked}
use Rattle.kn_daemon.specs.Shapes.{Shape, Calls, Updates, Looks, Asks, Controls, AtFault, ForOpen, ForPin, ForPinAt}
use Rattle.kn_daemon.specs.Shapes.{ForNews, ForLog, WithProof, WithCritical, ToKeep, shape_in_code}
use Rattle.kn_daemon.specs.Daemon.{DaemonConfig, State, session_of, pinned_to, with_session, state_after, Permits}
use Rattle.kn_serve.specs.declared.last_question.LastAnswer.{LastAnswer}
use Rattle.kn_serve.specs.Handling.{Moment, Handles}
use Rattle.kn_serve.specs.KeptBases.{IsFirstOf, ArePinned}
use Rattle.kn_serve.specs.LastQuestions.{LastAsked, IsRight, IsStillRight, IsLastOf, IsRightAgain}
use Rattle.kn_serve.specs.LastQuestions.{IsAnswerTo, IsKeptFor, Takes, at_version, may_keep_answer}
use Rattle.kn_serve.proofs.PinnedLaws.{first-fewer}

abbrev Values : Type 0
Values = List (List ℕ)

-- no answer is kept
pub none-last : (history : List Update) (state : State) (last : LastAsked) → last.answer ≡ None
    → IsLastOf history state last
none-last history state last none = by last.values
  where
    by : (vs : Option Values) → IfSome vs (λ values. IfSome last.answer (IsStillRight history state values))
    by None = tt
    by (Some values) = subst (λ (a : Option LastAnswer). IfSome a (IsStillRight history state values)) (sym none) tt

-- what is kept, as a whole
last-weaker : (P Q : Values → LastAnswer → Type 0) → ((vs : Values) (a : LastAnswer) → P vs a → Q vs a)
    → (last : LastAsked) → IfSome last.values (λ vs. IfSome last.answer (P vs))
    → IfSome last.values (λ vs. IfSome last.answer (Q vs))
last-weaker P Q weaker last is = by last.values last.answer is
  where
    by : (vs : Option Values) (a : Option LastAnswer) → IfSome vs (λ v. IfSome a (P v))
        → IfSome vs (λ v. IfSome a (Q v))
    by None a p = tt
    by (Some v) None p = tt
    by (Some v) (Some a) p = weaker v a p

-- the first updates stay
take-within : (n : ℕ) (xs ys : List Update) → n ≤ length xs → take n xs ≡ take n (xs ++ ys)
take-within zero xs ys within = refl
take-within (suc n) [] ys within = absurd (omega (arith, within))
take-within (suc n) (x ∷ xs) ys within = ap (λ l. x ∷ l) (take-within n xs ys (omega (arith, within)))

still-grown : (history more : List Update) (state : State) (values : Values) (last : LastAnswer)
    → IsStillRight history state values last → IsStillRight (history ++ more) state values last
still-grown history more state values last is = record {
  seen = omega (arith, is.seen, length-append history more);
  right = λ session found.
      subst (λ (u : List Update). IsRight (record session { pinned = u }) values last.answer)
      (take-within last.version history more is.seen) (is.right session found);
}

-- where it is found behind a pin, the session was found before, and differs in its pin alone
abbrev Unpinned : ℕ → List Session → Session → Type 0
Unpinned n xs y = (x : Session) × (find (λ z. z.number == n) xs ≡ Some x)
    × ((history : List Update) (k : ℕ) → at_version history k x ≡ at_version history k y)

-- the first of these that was or wasn't changed is found, or one behind it
pick-repinned : (n : ℕ) (x z : Session) (xs ys : List Session) (y : Session) (t : Bool)
    → ((history : List Update) (k : ℕ) → at_version history k x ≡ at_version history k z)
    → (find (λ v. v.number == n) ys ≡ Some y → Unpinned n xs y)
    → cond t (Some z) (find (λ v. v.number == n) ys) ≡ Some y
    → (x' : Session) × (cond t (Some x) (find (λ v. v.number == n) xs) ≡ Some x')
    × ((history : List Update) (k : ℕ) → at_version history k x' ≡ at_version history k y)
pick-repinned n x z xs ys y true same later at =
    let is : z ≡ y = cc at in (x, refl, λ history k. same history k ∙ ap (at_version history k) is)
pick-repinned n x z xs ys y false same later at = later at

found-repinned : (version : List Update) (s n : ℕ) (xs : List Session) (y : Session)
    → find (λ z. z.number == n) (with_changed xs s (pin_at version)) ≡ Some y → Unpinned n xs y
found-repinned version s n [] y e = absurd (cc e)
found-repinned version s n (x ∷ xs) y e = by (x.number == s) e (found-repinned version s n xs y)
  where
    ys : List Session
    ys = with_changed xs s (pin_at version)

    by : (t : Bool) → find (λ z. z.number == n) (cond t (pin_at version x) x ∷ ys) ≡ Some y
        → (find (λ z. z.number == n) ys ≡ Some y → Unpinned n xs y) → Unpinned n (x ∷ xs) y
    by true at later =
        pick-repinned n x (pin_at version x) xs ys y (x.number == n) (λ history k. refl) later at
    by false at later = pick-repinned n x x xs ys y (x.number == n) (λ history k. refl) later at

still-repinned : (history version : List Update) (state : State) (s : ℕ) (values : Values) (last : LastAnswer)
    → IsStillRight history state values last → IsStillRight history (with_session state s (pin_at version)) values last
still-repinned history version state s values last is = record {
  seen = is.seen;
  right = λ session found.
      let before = found-repinned version s last.s state.sessions session found in
      subst (λ (x : Session). IsRight x values last.answer) (before.2 history last.version)
      (is.right before.0 before.1);
}

-- a request that may keep the answer leaves it right
still-changed : (history past : List Update) (state : State) (shape : Shape) (values : Values) (last : LastAnswer)
    → may_keep_answer shape ≡ true → IsStillRight history state values last
    → IsStillRight history (state_after past state shape) values last
still-changed history past state (Looks (ForPin s)) values last k is =
    still-repinned history past state s values last is
still-changed history past state (Looks (ForPinAt s number)) values last k is = by (retained_version past number)
  where
    by : (found : Option (List Update)) → IsStillRight history (pinned_to state s found) values last
    by None = is
    by (Some version) = still-repinned history version state s values last is
still-changed history past state (Looks (ForLog n)) values last k is = is
still-changed history past state (Looks ForOpen) values last k is = absurd (cc k)
still-changed history past state (Looks (ForNews s)) values last k is = absurd (cc k)
still-changed history past state (Updates update) values last k is = is
still-changed history past state (Asks WithProof s names) values last k is = is
still-changed history past state (Asks WithCritical s names) values last k is = is
still-changed history past state (Asks ToKeep s names) values last k is = absurd (cc k)
still-changed history past state (Calls s call) values last k is = absurd (cc k)
still-changed history past state (Controls control) values last k is = absurd (cc k)
still-changed history past state (AtFault fault) values last k is = absurd (cc k)

-- a permitted reply leaves the state, or changes it as the request does
changes-permitted : (g : DaemonConfig) (caller : ℕ) (past : List Update) (old new : State) (shape : Shape)
    (reply : Reply)
    → Permits g caller past old shape reply new → (new ≡ old) ⊎ (new ≡ state_after past old shape)
changes-permitted g caller past old new shape Done d = inr d.next
changes-permitted g caller past old new shape (Started s version) d = inr d.next
changes-permitted g caller past old new shape (Number version) d = inr d.next
changes-permitted g caller past old new shape (PrivateAdded k) d = inr d.next
changes-permitted g caller past old new shape (Added k version) d = inr d.next
changes-permitted g caller past old new shape (Value index name version rows) d = inr d.next
changes-permitted g caller past old new shape (Batched first added version) d = inr d.next
changes-permitted g caller past old new shape (PinnedAt version newest) d = inr d.next
changes-permitted g caller past old new shape (Log m history) d = inr d.next
changes-permitted g caller past old new shape (News index name version) d = inr d.next
changes-permitted g caller past old new shape (Critical index ids) d = inr d.next
changes-permitted g caller past old new shape (No refusal) d = inl d.1
changes-permitted g caller past old new shape NoMemory d = inl d.1

still-permitted : (history past : List Update) (old new : State) (shape : Shape) (values : Values) (last : LastAnswer)
    → may_keep_answer shape ≡ true → (new ≡ old) ⊎ (new ≡ state_after past old shape)
    → IsStillRight history old values last → IsStillRight history new values last
still-permitted history past old new shape values last k (inl same) is =
    subst (λ (state : State). IsStillRight history state values last) (sym same) is
still-permitted history past old new shape values last k (inr next) is =
    subst (λ (state : State). IsStillRight history state values last) (sym next)
    (still-changed history past old shape values last k is)

pub last-handled : (g : DaemonConfig) (shape : Shape) (whole : Bool) (m m' : Moment) (last : LastAsked)
    → Handles g shape whole m m' → may_keep_answer shape ≡ true → IsLastOf m.pass.seen m.state last
    → IsLastOf m'.pass.seen m'.state last
last-handled g shape whole m m' last handled k is =
    last-weaker (IsStillRight m.pass.seen m.state) (IsStillRight m'.pass.seen m'.state)
    (λ values a still. subst (λ (h : List Update). IsStillRight h m'.state values a) (sym handled.moves.seen)
    (still-grown m.pass.seen handled.more m'.state values a
    (still-permitted m.pass.seen (m.pass.seen ++ handled.more) m.state m'.state shape values a k
    (changes-permitted g m.pass.number (m.pass.seen ++ handled.more) m.state m'.state shape handled.reply
    handled.replied.permitted) still))) last is

pub last-handled-same : (g : DaemonConfig) (shape : Shape) (whole : Bool) (m m' : Moment) (last after : LastAsked)
    → Handles g shape whole m m' → after ≡ last → may_keep_answer shape ≡ true → IsLastOf m.pass.seen m.state last
    → IsLastOf m'.pass.seen m'.state after
last-handled-same g shape whole m m' last after handled same k is =
    subst (λ (l : LastAsked). IsLastOf m'.pass.seen m'.state l) (sym same)
    (last-handled g shape whole m m' last handled k is)

-- a request of such a shape may keep it
pub keeps_as : (shape : Shape) (asked is : Asked) → shape ≡ shape_in_code asked → asked ≡ is
    → may_keep_answer (shape_in_code is) ≡ true → may_keep_answer shape ≡ true
keeps_as shape asked is same at keeps = ap may_keep_answer (same ∙ ap shape_in_code at) ∙ keeps

-- a session that is pinned to a version of the history is as it would be at that version
at-own : (history : List Update) (session : Session) (number : ℕ) → IsFirstOf session.pinned history
    → length session.pinned ≡ number → at_version history number session ≡ session
at-own history session number first at =
    let same : take number history ≡ session.pinned = ap (λ (n : ℕ). take n history) (sym at) ∙ sym first in
    ap (λ (p : List Update). record session { pinned = p }) same

-- an answer that was just found is right
pub last-found : (state : State) (last : LastAsked) (s version : ℕ) (session : Session) (values : Values)
    (answer : Answer) → session_of state s ≡ Some session → version ≡ length session.pinned
    → IsRight session values answer → Takes values (record { s = s; version = version; answer = answer }) last
    → (history : List Update) → ArePinned history state → IsLastOf history state last
last-found state last s version session values answer found at right (inl none) history pinned =
    none-last history state last none
last-found state last s version session values answer found at right (inr (vs, a)) history pinned =
    let first : IsFirstOf session.pinned history = (pinned s session found).pin in
    let fewer : length session.pinned ≤ length history = first-fewer session.pinned history first in
    let still : IsStillRight history state values (record { s = s; version = version; answer = answer }) = record {
      seen = subst (λ (n : ℕ). n ≤ length history) (sym at) fewer;
      right = λ other there.
          let same : session ≡ other = cc (found, there) in
          subst (λ (x : Session). IsRight (at_version history version x) values answer) same
          (subst (λ (x : Session). IsRight x values answer) (sym (at-own history session version first (sym at)))
          right);
    } in
    subst (λ (o : Option Values). IfSome o (λ v. IfSome last.answer (IsStillRight history state v))) (sym vs)
    (subst (λ (o : Option LastAnswer). IfSome o (IsStillRight history state values)) (sym a) still)

-- the answer that is kept for a question is the right one to it
pub answers-kept : (state : State) (last : LastAsked) (s version : ℕ) (names : List ℕ) (values : Values)
    (answer : Answer) (session : Session) → session_of state s ≡ Some session → version ≡ length session.pinned
    → IsRightAgain state last → IsKeptFor last s version names values answer
    → IsAnswerTo state s names values answer version
answers-kept state last s version names values answer session found at right kept = record {
  session = session;
  found = found;
  named = kept.named;
  at = at;
  right = right session values (record { s = s; version = version; answer = answer }) kept.kept_values
      kept.kept_answer found (sym at);
}
