-- Sessions along replies that are permitted: what holds of each of them.
use Rattle.std.proofs.Common.{◌≡◌, ℕ, ◌+◌, ◌≤◌, Option, None, Some, Bool, true, false, cond, ◌==◌, List, [], ◌∷◌, ◌++◌}
use Rattle.std.proofs.Common.{length, map, filter, find, sym, ap, subst, arith, refl, add-zero}
use Rattle.std.specs.List.{AllByRecursion}
use Rattle.kn_env.specs.Values.{values_of}
use Rattle.kn_principal.specs.Principals.{normal_form}
use Rattle.kn_history.specs.declared.update.Update.{Update}
use Rattle.kn_history.specs.Retained.{retained_version}
use Rattle.kn_reply.specs.Replies.{Reply, No, NoMemory}
use Rattle.kn_session.specs.Sessions.{Session, started_session, pin_at, move_standing, watch_with}
use Rattle.kn_session.specs.Calls.{Call, call_change, add_requester, is_named, after_call}
use Rattle.kn_session.specs.Calls as C
use Rattle.kn_daemon.specs.Shapes.{Look, ForOpen, ForPin, ForPinAt, ForNews, ForLog, Question, WithProof}
use Rattle.kn_daemon.specs.Shapes.{WithCritical, ToKeep, Control, ShowSecret, Leave, Shape, Calls, Looks, Asks}
use Rattle.kn_daemon.specs.Shapes.{Controls, shape_of}
use Rattle.kn_daemon.specs.Daemon.{DaemonConfig, State, first_state, pinned_to, state_keeping, state_after, Permits}
use Rattle.kn_daemon.specs.Underway.{IsSmall}
use Rattle.kn_transcript.specs.Followed.{Answered, Follows, history_behind}

-- each session with the one property has the other, and gets it by each change
pub record Keeps (P Q : Session → Type 0) (past : List Update) : Type 0 where
  pub stays : (x : Session) → P x → Q x
  pub calls : (call : Call) (x : Session) → P x → Q (call_change call x)
  pub starts : (number : ℕ) → Q (started_session number past)
  pub pins : (x : Session) → P x → Q (pin_at past x)
  pub pins_back : (n : ℕ) (version : List Update) (x : Session) → retained_version past n ≡ Some version → P x
      → Q (pin_at version x)
  pub moves : (x : Session) → P x → Q (move_standing past x)
  pub watches : (values : List (List ℕ)) (x : Session) → P x → Q (watch_with values x)

module _ (P Q : Session → Type 0) where
  all-map : (p : Session → Bool) (change : Session → Session) → ((x : Session) → P x → Q (change x))
      → ((x : Session) → P x → Q x)
      → (xs : List Session) → AllByRecursion P xs → AllByRecursion Q (map (λ x. cond (p x) (change x) x) xs)
  all-map p change each stays [] h = tt
  all-map p change each stays (x ∷ xs) h = (by (p x), all-map p change each stays xs h.1)
    where
      by : (t : Bool) → Q (cond t (change x) x)
      by true = each x h.0
      by false = stays x h.0

  all-weaker : ((x : Session) → P x → Q x) → (xs : List Session) → AllByRecursion P xs → AllByRecursion Q xs
  all-weaker stays [] h = tt
  all-weaker stays (x ∷ xs) h = (stays x h.0, all-weaker stays xs h.1)

  all-filter : (p : Session → Bool) → ((x : Session) → P x → Q x) → (xs : List Session) → AllByRecursion P xs
      → AllByRecursion Q (filter p xs)
  all-filter p stays [] h = tt
  all-filter p stays (x ∷ xs) h = by (p x) (all-filter p stays xs h.1)
    where
      by : (t : Bool) → AllByRecursion Q (filter p xs) → AllByRecursion Q (cond t (x ∷ filter p xs) (filter p xs))
      by true rest = (stays x h.0, rest)
      by false rest = rest

  all-push : ((x : Session) → P x → Q x) → (xs : List Session) (y : Session) → AllByRecursion P xs → Q y
      → AllByRecursion Q (xs ++ y ∷ [])
  all-push stays [] y h last = (last, tt)
  all-push stays (x ∷ xs) y h last = (stays x h.0, all-push stays xs y h.1 last)

  module _ (past : List Update) (keeps : Keeps P Q past) where
    all-called : (s : ℕ) (call : Call) (xs : List Session) → AllByRecursion P xs
        → AllByRecursion Q (after_call xs s call)
    all-called s C.Close xs h = all-filter _ keeps.stays xs h
    all-called s call xs h = all-map (λ x. x.number == s) (call_change call) (keeps.calls call) keeps.stays xs h

    all-looked : (state : State) (look : Look) → AllByRecursion P state.sessions
        → AllByRecursion Q (state_after past state (Looks look)).sessions
    all-looked state ForOpen h =
        all-push keeps.stays state.sessions (started_session (state.started + 1) past) h
        (keeps.starts (state.started + 1))
    all-looked state (ForPin s) h = all-map (λ x. x.number == s) (pin_at past) keeps.pins keeps.stays state.sessions h
    all-looked state (ForPinAt s version) h = by (retained_version past version) refl
      where
        by : (found : Option (List Update)) → retained_version past version ≡ found
            → AllByRecursion Q (pinned_to state s found).sessions
        by None e = all-weaker keeps.stays state.sessions h
        by (Some v) e = all-map (λ x. x.number == s) (pin_at v) (λ x. keeps.pins_back version v x e) keeps.stays
            state.sessions h
    all-looked state (ForNews s) h =
        all-map (λ x. x.number == s) (move_standing past) keeps.moves keeps.stays state.sessions h
    all-looked state (ForLog n) h = all-weaker keeps.stays state.sessions h

    all-questioned : (state : State) (question : Question) (s : ℕ) (names : List ℕ) → AllByRecursion P state.sessions
        → AllByRecursion Q (state_after past state (Asks question s names)).sessions
    all-questioned state WithProof s names h = all-weaker keeps.stays state.sessions h
    all-questioned state WithCritical s names h = all-weaker keeps.stays state.sessions h
    all-questioned state ToKeep s names h = by (values_of names)
      where
        by : (values : Option (List (List ℕ))) → AllByRecursion Q (state_keeping state s values).sessions
        by None = all-weaker keeps.stays state.sessions h
        by (Some values) =
            all-map (λ x. x.number == s) (watch_with values) (keeps.watches values) keeps.stays state.sessions h

    all-controlled : (state : State) (control : Control) → AllByRecursion P state.sessions
        → AllByRecursion Q (state_after past state (Controls control)).sessions
    all-controlled state (ShowSecret bytes) h = all-weaker keeps.stays state.sessions h
    all-controlled state Leave h = all-weaker keeps.stays state.sessions h

    all-changed : (state : State) (shape : Shape) → AllByRecursion P state.sessions
        → AllByRecursion Q (state_after past state shape).sessions
    all-changed state (Calls s call) h = all-called s call state.sessions h
    all-changed state (Looks look) h = all-looked state look h
    all-changed state (Asks question s names) h = all-questioned state question s names h
    all-changed state (Controls control) h = all-controlled state control h
    all-changed state shape h = all-weaker keeps.stays state.sessions h

    -- each reply that is permitted keeps it
    pub all-permitted : (g : DaemonConfig) (caller : ℕ) (old : State) (shape : Shape) (reply : Reply) (new : State)
        → AllByRecursion P old.sessions → Permits g caller past old shape reply new → AllByRecursion Q new.sessions
    all-permitted g caller old shape (No refusal) new h p =
        subst (λ (s : State). AllByRecursion Q s.sessions) (sym p.1) (all-weaker keeps.stays old.sessions h)
    all-permitted g caller old shape NoMemory new h p =
        subst (λ (s : State). AllByRecursion Q s.sessions) (sym p.1) (all-weaker keeps.stays old.sessions h)
    all-permitted g caller old shape reply new h p =
        subst (λ (s : State). AllByRecursion Q s.sessions) (sym p.next) (all-changed old shape h)

-- the session that is found has it
pub all-found : (P : Session → Type 0) (s : ℕ) (xs : List Session) (session : Session) → AllByRecursion P xs
    → find (λ x. x.number == s) xs ≡ Some session → P session
all-found P s [] session h e = absurd (cc e)
all-found P s (x ∷ xs) session h e = by (x.number == s) e (all-found P s xs session h.1)
  where
    by : (t : Bool) → cond t (Some x) (find (λ y. y.number == s) xs) ≡ Some session
        → (find (λ y. y.number == s) xs ≡ Some session → P session) → P session
    by true e rest = let same : x ≡ session = cc e in subst P same h.0
    by false e rest = rest e

-- How many sessions were started, and private assertions added to each.

IsMade : ℕ → Session → Type 0
IsMade n x = x.made ≤ n

requester-made : (text : List ℕ) (x : Session) → (add_requester text x).made ≡ x.made
requester-made text x = by (is_named x.requesters text)
  where
    by : (t : Bool) → (cond t x (record x { requesters = x.requesters ++ normal_form text ∷ [] })).made ≡ x.made
    by true = refl
    by false = refl

call-made : (n : ℕ) (call : Call) (x : Session) → x.made ≤ n → (call_change call x).made ≤ n + 1
call-made n (C.Auth text) x few = let same = requester-made text x in omega (arith, few, same)
call-made n call x few = omega (arith, few)

made-keeps : (n : ℕ) (past : List Update) → Keeps (IsMade n) (IsMade (n + 1)) past
unfolding IsMade
made-keeps n past = record {
  stays = λ x few. omega (arith, few);
  calls = call-made n;
  starts = λ number. omega arith;
  pins = λ x few. omega (arith, few);
  pins_back = λ k version x e few. omega (arith, few);
  moves = λ x few. omega (arith, few);
  watches = λ values x few. omega (arith, few);
}

started-looked : (past : List Update) (state : State) (look : Look)
    → (state_after past state (Looks look)).started ≤ state.started + 1
started-looked past state ForOpen = omega arith
started-looked past state (ForPin s) = omega arith
started-looked past state (ForPinAt s version) = by (retained_version past version)
  where
    by : (found : Option (List Update)) → (pinned_to state s found).started ≤ state.started + 1
    by None = omega arith
    by (Some v) = omega arith
started-looked past state (ForNews s) = omega arith
started-looked past state (ForLog n) = omega arith

started-questioned : (past : List Update) (state : State) (question : Question) (s : ℕ) (names : List ℕ)
    → (state_after past state (Asks question s names)).started ≤ state.started + 1
started-questioned past state WithProof s names = omega arith
started-questioned past state WithCritical s names = omega arith
started-questioned past state ToKeep s names = by (values_of names)
  where
    by : (values : Option (List (List ℕ))) → (state_keeping state s values).started ≤ state.started + 1
    by None = omega arith
    by (Some values) = omega arith

started-controlled : (past : List Update) (state : State) (control : Control)
    → (state_after past state (Controls control)).started ≤ state.started + 1
started-controlled past state (ShowSecret bytes) = omega arith
started-controlled past state Leave = omega arith

started-changed : (past : List Update) (state : State) (shape : Shape)
    → (state_after past state shape).started ≤ state.started + 1
started-changed past state (Calls s call) = omega arith
started-changed past state (Looks look) = started-looked past state look
started-changed past state (Asks question s names) = started-questioned past state question s names
started-changed past state (Controls control) = started-controlled past state control
started-changed past state shape = omega arith

started-permitted : (g : DaemonConfig) (caller : ℕ) (past : List Update) (old : State) (shape : Shape) (reply : Reply)
    (new : State)
    → Permits g caller past old shape reply new → new.started ≤ old.started + 1
started-permitted g caller past old shape (No refusal) new p = let same = ap (λ (s : State). s.started) p.1 in
    omega (arith, same)
started-permitted g caller past old shape NoMemory new p = let same = ap (λ (s : State). s.started) p.1 in
    omega (arith, same)
started-permitted g caller past old shape reply new p =
    let same = ap (λ (s : State). s.started) p.next in let few = started-changed past old shape in
    omega (arith, same, few)

record AreFew (n : ℕ) (state : State) : Type 0 where
  started : state.started ≤ n
  made : AllByRecursion (IsMade n) state.sessions

few-followed : (n : ℕ) (past : List Update) (old : State) (answered : List Answered) (history : List Update)
    (new : State)
    → AreFew n old → Follows past old answered history new → AreFew (n + length answered) new
few-followed n past old [] history new few follows =
    subst (λ (k : ℕ). AreFew k new) (sym (add-zero n)) (subst (AreFew n) (sym follows.1) few)
few-followed n past old (a ∷ answered) history new few (mid, permitted, later) =
    let behind = history_behind past (shape_of a.request) a.reply in
    let started = started-permitted permitted.grounds 0 behind old (shape_of a.request) a.reply mid
    permitted.permitted in
    let before = few.started in
    let rest =
    few-followed (n + 1) behind mid answered history new
    (record {
      started = omega (arith, started, before);
      made = all-permitted (IsMade n) (IsMade (n + 1)) behind (made-keeps n behind) permitted.grounds 0 old
          (shape_of a.request) a.reply mid few.made permitted.permitted;
    }) later in
    subst (λ (k : ℕ). AreFew k new) (omega arith) rest

-- so many replies are followed by at most as many sessions, and private assertions of each
pub follows-small : (past : List Update) (answered : List Answered) (history : List Update) (state : State)
    → Follows past first_state answered history state → IsSmall (length answered) state
unfolding IsMade
follows-small past answered history state follows =
    let size : 0 + length answered ≡ length answered = omega arith in
    let few : AreFew (length answered) state =
    subst (λ (k : ℕ). AreFew k state) size
    (few-followed 0 past first_state answered history state (record { started = omega arith; made = tt }) follows) in
    record {
      started = few.started;
      made = λ s session found. all-found (IsMade (length answered)) s state.sessions session few.made found;
    }
