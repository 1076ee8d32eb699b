-- What the daemon permits changes the state as playing does.
use Rattle.std.proofs.Common.{◌≡◌, ◌≢◌, ℕ, suc, Option, List, [], ◌∷◌, length, take, All, Some, None, refl, sym, ap}
use Rattle.std.proofs.Common.{◌∙◌, subst, arith, take_all, le_refl, is_none}
use Rattle.std.specs.Option.{option_or, option_map_or}
use Rattle.kn_reply.specs.declared.refusal.Refusal.{Refusal}
use Rattle.kn_history.specs.declared.update.Update.{Update}
use Rattle.kn_wire.specs.Requests.{Request}
use Rattle.kn_reply.specs.Replies.{Reply, No, NoMemory}
use Rattle.kn_reply.specs.declared.refusal.Refusal.TheVariants as R
use Rattle.kn_history.specs.Retained.{retained_version}
use Rattle.kn_daemon.specs.Shapes.{Look, ForOpen, ForPin, ForPinAt, ForNews, ForLog, Shape, Updates, Looks}
use Rattle.kn_daemon.specs.Shapes.{shape_of}
use Rattle.kn_daemon.specs.Daemon.{DaemonConfig, State, refuse_if, own_refusal, placed_refusal, first_refusal}
use Rattle.kn_daemon.specs.Daemon.{pinned_to, state_after, Does, Permits}
use Rattle.kn_daemon.specs.Linearized.{Exchange, Along, requests_in}
use Rattle.kn_daemon.specs.Played.{after_request, played}

accepted : (g : DaemonConfig) (caller : ℕ) (past : List Update) (old : State) (request : Request) (reply : Reply)
    (new : State) → Does g caller past old (shape_of request) reply new → new ≡ after_request g past old request
accepted g caller past old request reply new d =
    d.next ∙ ap (λ o. option_map_or (λ refusal. old) o (state_after past old (shape_of request))) (sym d.accepted)

-- a look for which the history hasn't what is asked changes no state
refused-look : (past : List Update) (old : State) (look : Look) (refusal : Refusal)
    → placed_refusal past (Looks look) ≡ Some refusal → old ≡ state_after past old (Looks look)
refused-look past old ForOpen refusal e = absurd (cc (e))
refused-look past old (ForPin s) refusal e = absurd (cc (e))
refused-look past old (ForPinAt s version) refusal e = by (retained_version past version) e
  where
    by : (kept : Option (List Update)) → refuse_if (is_none kept) (R.Retained (length past)) None ≡ Some refusal
        → old ≡ pinned_to old s kept
    by None e = refl
    by (Some kept) e = absurd (cc (e))
refused-look past old (ForNews s) refusal e = absurd (cc (e))
refused-look past old (ForLog n) refusal e = refl

-- a request that the history refuses changes no state
refused : (g : DaemonConfig) (past : List Update) (old : State) (request : Request) (refusal : Refusal)
    → first_refusal g past old (shape_of request) ≡ Some refusal → old ≡ after_request g past old request
refused g past old request refusal h = by (own_refusal g old (shape_of request)) h
  where
    placed : (shape : Shape) → placed_refusal past shape ≡ Some refusal → old ≡ state_after past old shape
    placed (Updates update) e = refl
    placed (Looks look) e = refused-look past old look refusal e
    placed shape e = absurd (cc (e))

    by : (own : Option Refusal) → option_or own (placed_refusal past (shape_of request)) ≡ Some refusal
        → old ≡ option_map_or (λ refusal. old) own (state_after past old (shape_of request))
    by (Some first) e = refl
    by None e = placed (shape_of request) e

pub permitted-is_played : (g : DaemonConfig) (caller : ℕ) (past : List Update) (old : State) (request : Request)
    (reply : Reply) (new : State)
    → Permits g caller past old (shape_of request) reply new → reply ≢ NoMemory → new ≡ after_request g past old request
permitted-is_played g caller past old request (No refusal) new h some = h.1 ∙ refused g past old request refusal h.0
permitted-is_played g caller past old request NoMemory new h some = absurd (some refl)
permitted-is_played g caller past old request reply new h some = accepted g caller past old request reply new h

pub along-is_played : (g : DaemonConfig) (caller : ℕ) (history : List Update) (old : State) (es : List Exchange)
    (new : State) → Along g caller history old es new
    → All (λ e. e.place ≡ length history) es → All (λ e. e.reply ≢ NoMemory) es
    → new ≡ played g history old (requests_in es)
along-is_played g caller history old [] new along places some = along
along-is_played g caller history old (e ∷ es) new (mid, permits, rest) places some =
    let place : e.place ≡ length history = places 0 e (omega arith) in
    let past : take e.place history ≡ history =
    ap (λ n. take n history) place ∙ take_all (length history) history (le_refl (length history)) in
    let first : mid ≡ after_request g history old e.request =
    permitted-is_played g caller history old e.request e.reply mid
    (subst (λ updates. Permits g caller updates old (shape_of e.request) e.reply mid) past permits)
    (some 0 e (omega arith)) in
    along-is_played g caller history mid es new rest (λ i d l. places (suc i) d (omega arith))
    (λ i d l. some (suc i) d (omega arith))
    ∙ ap (λ state. played g history state (requests_in es)) first
