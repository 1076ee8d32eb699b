-- What refuses questions, NEWS and UNWATCH.
use Rattle.std.proofs.Common.{◌≡◌, ◌≤◌, ◌<◌, ℕ, Bool, true, false, List, Option, Some, None, refl, sym, ap, ◌∙◌, subst}
use Rattle.std.proofs.Common.{ltb-true}
use Rattle.std.specs.Prelude.{IsSomeAnd, is_none, nat_lt, if◌then◌else◌}
use Rattle.std.specs.Option.{option_or}
use Rattle.std.proofs.lemmas.Bool.{ltb-false}
use Rattle.kn_base.specs.declared.limits.TheConstants.{CRITICAL_NODES}
use Rattle.kn_env.specs.Values.{values_of}
use Rattle.kn_proof.specs.declared.named.Id.{Id}
use Rattle.kn_meaning.specs.Critical.{equation_nodes}
use Rattle.kn_history.specs.declared.update.Update.{Update}
use Rattle.kn_session.specs.declared.fault.SessionFault.TheVariants as F
use Rattle.kn_session.specs.Sessions.{Session, fault_if, standing_fault}
use Rattle.kn_session.specs.Calls as C
use Rattle.kn_reply.specs.declared.refusal.Refusal.{Refusal}
use Rattle.kn_reply.specs.declared.refusal.Refusal.TheVariants as R
use Rattle.kn_reply.specs.declared.refusal.LimitWord.TheVariants as W
use Rattle.kn_reply.specs.Replies.{Critical, No}
use Rattle.kn_daemon.specs.Shapes.{WithCritical, Asks}
use Rattle.kn_daemon.specs.Daemon.{DaemonConfig, State, session_of, equations_of, refusal_by, in_session, refuse_if}
use Rattle.kn_daemon.specs.Daemon.{refusal_of_nodes}
use Rattle.kn_daemon.specs.Daemon.{refusal_of_names, refusal_of_question, refusal_of_call, Permits}
use Rattle.kn_daemon.specs.QuestionLaws.{ClosedIsRefused, NamesAreRefused, NoneStandingIsRefused}

pub closed-refused : ClosedIsRefused
closed-refused g state s question names closed = (
  ap (λ o. in_session o (λ x. refusal_of_names (values_of names) (refusal_of_question question x))) closed,
  ap (λ o. in_session o (λ x. refusal_by (standing_fault x))) closed,
  ap (λ o. in_session o (refusal_of_call C.Unwatch)) closed,
)

pub names-refused : NamesAreRefused
names-refused g state s session question names found none =
    ap (λ o. in_session o (λ x. refusal_of_names (values_of names) (refusal_of_question question x))) found
    ∙ ap (λ o. refusal_of_names o (refusal_of_question question session)) none

pub none-standing_refused : NoneStandingIsRefused
none-standing_refused g state s session found = (
  ap (λ o. in_session o (λ x. refusal_by (standing_fault x))) found ∙ by (is_none session.standing),
  ap (λ o. in_session o (refusal_of_call C.Unwatch)) found ∙ by (is_none session.standing),
)
  where
    by : (b : Bool) → refusal_by (fault_if b F.Absent None) ≡ (if b then Some R.Unknown else None)
    by true = refl
    by false = refl

-- The nodes of a query.

few-nodes : (n : ℕ) → refusal_of_nodes n ≡ None → n ≤ CRITICAL_NODES
few-nodes n = by (nat_lt CRITICAL_NODES n) refl
  where
    by : (b : Bool) → nat_lt CRITICAL_NODES n ≡ b → refuse_if b (R.Limit W.Nodes n) None ≡ None → n ≤ CRITICAL_NODES
    by true is e = absurd (cc e)
    by false is e = ltb-false CRITICAL_NODES n is

many-nodes : (nodes n : ℕ) → refusal_of_nodes nodes ≡ Some (R.Limit W.Nodes n) → (n ≡ nodes) × (CRITICAL_NODES < n)
many-nodes nodes n = by (nat_lt CRITICAL_NODES nodes) refl
  where
    by : (b : Bool) → nat_lt CRITICAL_NODES nodes ≡ b
        → refuse_if b (R.Limit W.Nodes nodes) None ≡ Some (R.Limit W.Nodes n)
        → (n ≡ nodes) × (CRITICAL_NODES < n)
    by true is e =
        let same : nodes ≡ n = cc e in
        (sym same, subst (λ k. CRITICAL_NODES < k) same (ltb-true CRITICAL_NODES nodes is))
    by false is e = absurd (cc e)

-- what is refused of a question on an open session for these values
abbrev asked-refusal : Option Session → Option (List (List ℕ)) → Option Refusal
asked-refusal session values = in_session session (λ x. refusal_of_names values (refusal_of_question WithCritical x))

module _ (g : DaemonConfig) (caller : ℕ) (past : List Update) (old new : State) (s : ℕ) (names : List ℕ) where
  pub critical-small : (level : ℕ) (ids : List Id)
      → Permits g caller past old (Asks WithCritical s names) (Critical level ids) new
      → IsSomeAnd (session_of old s)
      (λ x. IsSomeAnd (values_of names) (λ values. equation_nodes (equations_of x values) ≤ CRITICAL_NODES))
  critical-small level ids p = by (session_of old s) (values_of names) p.accepted
    where
      by : (session : Option Session) (values : Option (List (List ℕ))) → asked-refusal session values ≡ None
          → IsSomeAnd session
          (λ x. IsSomeAnd values (λ v. equation_nodes (equations_of x v) ≤ CRITICAL_NODES))
      by None values none = absurd (cc none)
      by (Some x) None none = absurd (cc none)
      by (Some x) (Some v) none = few-nodes (equation_nodes (equations_of x v)) none

  pub critical-large : (n : ℕ) → Permits g caller past old (Asks WithCritical s names) (No (R.Limit W.Nodes n)) new
      → IsSomeAnd (session_of old s) (λ x. IsSomeAnd (values_of names)
      (λ values. (n ≡ equation_nodes (equations_of x values)) × (CRITICAL_NODES < n)))
  critical-large n p = by (session_of old s) (values_of names) p.0
    where
      none_placed : (own : Option Refusal) → option_or own None ≡ Some (R.Limit W.Nodes n)
          → own ≡ Some (R.Limit W.Nodes n)
      none_placed None e = e
      none_placed (Some own) e = e

      by : (session : Option Session) (values : Option (List (List ℕ)))
          → option_or (asked-refusal session values) None ≡ Some (R.Limit W.Nodes n)
          → IsSomeAnd session (λ x. IsSomeAnd values
          (λ v. (n ≡ equation_nodes (equations_of x v)) × (CRITICAL_NODES < n)))
      by None values e = absurd (cc e)
      by (Some x) None e = absurd (cc e)
      by (Some x) (Some v) e =
          many-nodes (equation_nodes (equations_of x v)) n
          (none_placed (refusal_of_nodes (equation_nodes (equations_of x v))) e)
