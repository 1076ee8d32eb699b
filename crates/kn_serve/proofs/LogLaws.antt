-- The updates of the history, as they are handed on.
use Rattle.std.proofs.Common.{◌≡◌, ℕ, ◌≤◌, ◌<◌, Bool, true, false, List, length, refl, ap, ◌∙◌, arith}
use Rattle.std.proofs.Common.{Some, None, subst}
use Rattle.std.specs.Prelude.{nat_lt}
use Rattle.std.proofs.lemmas.Bool.Decides.{nat_tests}
use Rattle.kn_outside.specs.Seen.{LinkSeen}
use Rattle.kn_outside.specs.Printing.{Prints}
use Rattle.kn_history.specs.declared.update.Update.{Update}
use Rattle.kn_reply.specs.declared.refusal.Refusal.TheVariants as R
use Rattle.kn_reply.specs.Replies.{Log, No, NoMemory, reply_text}
use Rattle.kn_daemon.specs.Shapes.{Shape, Looks, ForLog}
use Rattle.kn_daemon.specs.Daemon.{DaemonConfig, State, own_refusal, placed_refusal}
use Rattle.kn_registry.specs.Passes.{PassSeen, Looks as PassLooks, Stays}
use Rattle.kn_serve.specs.Handling.{in_state, Handles, Tells}
use Rattle.kn_serve.proofs.HandlingLaws.{looked_handled, lacking_handled, refused_handled, told_refused}

abbrev logs : ℕ → Shape
logs n = Looks (ForLog n)

-- the secret wasn't shown
pub log_unshown : (g : DaemonConfig) (whole : Bool) (l l' : LinkSeen) (now : State) (n : ℕ) → now.is_admin ≡ false →
    Prints whole (reply_text (No R.Admin)) l l' → Tells g (logs n) whole now now l l'
log_unshown g whole l l' now n out prints = told_refused g (logs n) whole now l l' R.Admin (rw out refl) prints

module _ (g : DaemonConfig) (whole : Bool) (v w : PassSeen) (l l' : LinkSeen) (now : State) (n : ℕ)
    (admin : now.is_admin ≡ true) where
  shown : own_refusal g now (logs n) ≡ None
  shown = rw admin refl

  -- out of memory for the version
  pub log_memory : Stays v w → Prints whole (reply_text NoMemory) l l' →
      Handles g (logs n) whole (in_state now v l) (in_state now w l')
  log_memory stays prints =
      lacking_handled g (logs n) whole (in_state now v l) (in_state now w l') refl stays shown refl prints

  module _ (newest : ℕ) (made : List Update) (looks : PassLooks v w) (seen : made ≡ w.seen)
      (at : newest ≡ length made) where
    newest_is : newest ≡ length w.seen
    newest_is = at ∙ ap (λ (x : List Update). length x) seen

    -- there are fewer updates
    pub log_ahead : newest < n → Prints whole (reply_text (No (R.Ahead newest))) l l' →
        Handles g (logs n) whole (in_state now v l) (in_state now w l')
    log_ahead above prints =
        let test : nat_lt (length w.seen) n ≡ true = grind (arith, nat_tests, newest_is, above) in
        let placed : placed_refusal w.seen (logs n) ≡ Some (R.Ahead (length w.seen)) = rw test refl in
        refused_handled g (logs n) whole (in_state now v l) (in_state now w l') (R.Ahead (length w.seen)) refl looks
        shown placed (subst (λ (k : ℕ). Prints whole (reply_text (No (R.Ahead k))) l l') newest_is prints)

    -- they are handed on
    pub log_handed : n ≤ newest → Prints whole (reply_text (Log n made)) l l' →
        Handles g (logs n) whole (in_state now v l) (in_state now w l')
    log_handed within prints =
        let there : n ≤ length w.seen = omega (arith, newest_is, within) in
        looked_handled g (logs n) whole (in_state now v l) (in_state now w l') (Log n w.seen) looks shown refl
        (record { accepted = shown; answered = (there, refl); next = refl })
        (subst (λ (m : List Update). Prints whole (reply_text (Log n m)) l l') seen prints)
