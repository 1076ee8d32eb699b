-- Sessions that begin and end, and what stands behind BYE.
use Rattle.std.proofs.Common.{◌≡◌, ◌≤◌, ◌<◌, ℕ, zero, suc, ◌+◌, ◌-◌, Bool, true, false, cond, not, ◌==◌, ◌||◌, List, []}
use Rattle.std.proofs.Common.{◌∷◌}
use Rattle.std.proofs.Common.{◌++◌, length, take, Option, Some, None, option_map, refl, sym, ap, ◌∙◌, subst, arith}
use Rattle.std.proofs.Common.{length-append, ltb-true}
use Rattle.std.specs.Prelude.{IsSome, IsSomeAnd, is_none, nat_lt}
use Rattle.std.specs.List.{list_any}
use Rattle.std.proofs.lemmas.List.{length-map}
use Rattle.kn_env.specs.Values.{values_of}
use Rattle.kn_history.specs.declared.update.Update.{Update}
use Rattle.kn_history.specs.Retained.{retained_version}
use Rattle.kn_session.specs.Sessions.{Session, session_in, without_session, end_standing}
use Rattle.kn_session.specs.Calls as C
use Rattle.kn_session.proofs.StandingQueries.{found_here}
use Rattle.kn_wire.specs.Requests.{Request, Bye}
use Rattle.kn_reply.specs.declared.refusal.Refusal.{Refusal}
use Rattle.kn_reply.specs.declared.refusal.Refusal.TheVariants as R
use Rattle.kn_reply.specs.Replies.{Reply, Done, Started, No, NoMemory}
use Rattle.kn_daemon.specs.Shapes.{Look, ForOpen, ForPin, ForPinAt, ForNews, ForLog, Question, WithProof}
use Rattle.kn_daemon.specs.Shapes.{WithCritical, ToKeep, ShowSecret, Leave, Shape, Calls, Updates, Looks, Asks}
use Rattle.kn_daemon.specs.Shapes.{Controls}
use Rattle.kn_daemon.specs.Shapes.{AtFault}
use Rattle.kn_daemon.specs.Daemon.{DaemonConfig, State, session_of, refuse_if, pinned_to}
use Rattle.kn_daemon.specs.Daemon.{state_keeping, state_after, reply_of_call, Does, Permits}
use Rattle.kn_daemon.specs.Linearized.{requests_in}
use Rattle.kn_daemon.specs.Served.{is_bye}
use Rattle.kn_daemon.specs.PermissionLaws.{OpenIsNew, CloseEnds, UnwatchEnds}
use Rattle.kn_daemon.specs.PermissionLaws.{RefusedLookIsNotReported}
use Rattle.kn_daemon.specs.PermissionLaws.{NothingBehindBye}

both : true ≡ false → ⊥
both e = cc e

pub open-new : OpenIsNew
open-new g caller past old s version new p =
    let told : Started s version ≡ Started (old.started + 1) (length past) = p.answered in
    let number : s ≡ old.started + 1 = cc told in
    (number, ap (λ x. x.started) p.next ∙ sym number, cc told)

looked-started : (past : List Update) (state : State) (look : Look)
    → state.started ≤ (state_after past state (Looks look)).started
looked-started past state ForOpen = omega arith
looked-started past state (ForPin s) = omega arith
looked-started past state (ForPinAt s version) = by (retained_version past version)
  where
    by : (o : Option (List Update)) → state.started ≤ (pinned_to state s o).started
    by None = omega arith
    by (Some there) = omega arith
looked-started past state (ForNews s) = omega arith
looked-started past state (ForLog n) = omega arith

questioned-started : (past : List Update) (state : State) (question : Question) (s : ℕ) (names : List ℕ)
    → state.started ≤ (state_after past state (Asks question s names)).started
questioned-started past state WithProof s names = omega arith
questioned-started past state WithCritical s names = omega arith
questioned-started past state ToKeep s names = by (values_of names)
  where
    by : (o : Option (List (List ℕ))) → state.started ≤ (state_keeping state s o).started
    by None = omega arith
    by (Some values) = omega arith

module _ (g : DaemonConfig) (caller : ℕ) (past : List Update) (old : State) where
  abbrev NoFewer : State → Type 0
  NoFewer state = old.started ≤ state.started

  same : NoFewer old
  same = omega arith

  goes-on : (shape : Shape) (reply : Reply) (new : State) → Does g caller past old shape reply new → NoFewer new
  goes-on (Calls s call) reply new d = subst NoFewer (sym d.next) same
  goes-on (Updates update) reply new d = subst NoFewer (sym d.next) same
  goes-on (Looks look) reply new d = subst NoFewer (sym d.next) (looked-started past old look)
  goes-on (Asks question s names) reply new d =
      subst NoFewer (sym d.next) (questioned-started past old question s names)
  goes-on (Controls (ShowSecret bytes)) reply new d = subst NoFewer (sym d.next) same
  goes-on (Controls Leave) reply new d = subst NoFewer (sym d.next) same
  goes-on (AtFault fault) reply new d = subst NoFewer (sym d.next) same

  pub started-never_falls : (shape : Shape) (reply : Reply) (new : State) → Permits g caller past old shape reply new
      → old.started ≤ new.started
  started-never_falls shape (No refusal) new p = subst NoFewer (sym p.1) same
  started-never_falls shape NoMemory new p = subst NoFewer (sym p.1) same
  started-never_falls shape reply new p = goes-on shape reply new p

-- a session that was closed is gone
gone : (xs : List Session) (s : ℕ) → session_in (without_session xs s) s ≡ None
gone [] s = refl
gone (x ∷ xs) s = by (x.number == s) refl (gone xs s)
  where
    by : (b : Bool) → (x.number == s) ≡ b → session_in (without_session xs s) s ≡ None
        → session_in (cond (not b) (x ∷ without_session xs s) (without_session xs s)) s ≡ None
    by true is rest = rest
    by false is rest = ap (λ c. cond c (Some x) (session_in (without_session xs s) s)) is ∙ rest

pub close-ends : CloseEnds
close-ends g caller past old s new p = ap (λ state. session_of state s) p.next ∙ gone old.sessions s

pub unwatch-ends : UnwatchEnds
unwatch-ends g caller past old s new p = by (session_of old s) refl p.answered
  where
    by : (o : Option Session) → session_of old s ≡ o
        → IsSomeAnd o (λ x. Done ≡ reply_of_call C.Unwatch x)
        → IsSomeAnd o (λ x. session_of new s ≡ Some (end_standing x))
    by None found h = absurd h
    by (Some x) found h =
        ap (λ state. session_of state s) p.next
        ∙ found_here end_standing (λ y. refl) old.sessions s
        ∙ ap (option_map end_standing) found

-- a look that the history refuses
not-retained : (o : Option (List Update)) (refusal due : Refusal) → refuse_if (is_none o) due None ≡ Some refusal
    → IsSome o → ⊥
not-retained None refusal due e there = absurd (cc there)
not-retained (Some version) refusal due e there = absurd (cc e)

ahead : (n length : ℕ) (refusal due : Refusal) → refuse_if (nat_lt length n) due None ≡ Some refusal → n ≤ length → ⊥
ahead n length refusal due = by (nat_lt length n) refl
  where
    by : (b : Bool) → nat_lt length n ≡ b → refuse_if b due None ≡ Some refusal → n ≤ length → ⊥
    by true is e within = let above : length < n = ltb-true length n is in absurd (omega (arith, above, within))
    by false is e within = absurd (cc e)

pub refused-look_not_told : RefusedLookIsNotReported
refused-look_not_told caller past old ForOpen refusal reply e a = absurd (cc e)
refused-look_not_told caller past old (ForPin s) refusal reply e a = absurd (cc e)
refused-look_not_told caller past old (ForNews s) refusal reply e a = absurd (cc e)
refused-look_not_told caller past old (ForPinAt s version) refusal reply e a =
    not-retained (retained_version past version) refusal (R.Retained (length past)) e a.0
refused-look_not_told caller past old (ForLog n) refusal reply e a =
    ahead n (length past) refusal (R.Ahead (length past)) e a.0

-- BYE is among the first requests where that many stand behind it
taken-bye : (front rest : List Request) (n : ℕ) → length front < n
    → list_any is_bye (take n (front ++ Bye ∷ rest)) ≡ true
taken-bye [] rest zero few = absurd (omega (arith, few))
taken-bye [] rest (suc n) few = refl
taken-bye (x ∷ front) rest zero few = absurd (omega (arith, few))
taken-bye (x ∷ front) rest (suc n) few = by (is_bye x) (taken-bye front rest n (omega (arith, few)))
  where
    by : (b : Bool) → list_any is_bye (take n (front ++ Bye ∷ rest)) ≡ true
        → (b || list_any is_bye (take n (front ++ Bye ∷ rest))) ≡ true
    by true h = refl
    by false h = h

pub nothing-behind_bye : NothingBehindBye
nothing-behind_bye g taken written ended is_over history start end caller stops s front [] cut = refl
nothing-behind_bye g taken written ended is_over history start end caller stops s front (x ∷ behind) cut =
    let all : length (requests_in s.exchanges) ≡ length s.exchanges = simp length-map in
    let parts : length (front ++ Bye ∷ x ∷ behind) ≡ length front + length (Bye ∷ x ∷ behind) =
    length-append front (Bye ∷ x ∷ behind) in
    let whole : length (requests_in s.exchanges) ≡ length (front ++ Bye ∷ x ∷ behind) = ap length cut in
    let few : length front < length s.exchanges - 1 = omega (arith, all, parts, whole) in
    let among : list_any is_bye (take (length s.exchanges - 1) (requests_in s.exchanges)) ≡ true =
    ap (λ l. list_any is_bye (take (length s.exchanges - 1) l)) cut
    ∙ taken-bye front (x ∷ behind) (length s.exchanges - 1) few in
    absurd (both (sym among ∙ s.one_bye))
