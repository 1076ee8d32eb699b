-- An update of a reply that is permitted is the last one of the history.
use Rattle.std.proofs.Common.{◌≡◌, ℕ, List, map, option_map, refl, sym, ap, ◌∙◌, subst}
use Rattle.std.proofs.Common.{Some, None, Result}
use Rattle.std.proofs.lemmas.Option.{same_Some}
use Rattle.kn_history.specs.declared.update.Update.{Update}
use Rattle.kn_history.specs.History.{addition_by, removal_by}
use Rattle.kn_history.specs.Batches.{batch_by}
use Rattle.kn_wire.specs.Items.{BatchItem}
use Rattle.kn_reply.specs.Logs.{item_of}
use Rattle.kn_reply.specs.declared.refusal.Refusal.{Refusal}
use Rattle.kn_reply.specs.Replies.{Reply, No, NoMemory}
use Rattle.kn_daemon.specs.Shapes.{Updating, AddText, DropId, ApplyBlock, Shape, Updates}
use Rattle.kn_daemon.specs.Daemon.{DaemonConfig, State, read_items, IsCommitted, Answers, Does, Permits}
use Rattle.kn_daemon.specs.Linearized.{update_by}
use Rattle.kn_daemon.proofs.Answered.{batch-answered}

nothing : (u : Update) → None ≡ Some u → ⊥
nothing u e = cc

-- a refusal names no update
pub refused-none : (caller : ℕ) (shape : Shape) (refusal : Refusal) → update_by caller shape (No refusal) ≡ None
refused-none caller (Updates (AddText text)) refusal = refl
refused-none caller (Updates (DropId k)) refusal = refl
refused-none caller (Updates (ApplyBlock block)) refusal = refl
refused-none caller shape refusal = refl

-- and neither does a reply when out of memory
pub lacking-none : (caller : ℕ) (shape : Shape) → update_by caller shape NoMemory ≡ None
lacking-none caller (Updates (AddText text)) = refl
lacking-none caller (Updates (DropId k)) = refl
lacking-none caller (Updates (ApplyBlock block)) = refl
lacking-none caller shape = refl

-- the update that an accepted one's reply names is the last of the history
updated-committed : (caller : ℕ) (past : List Update) (old : State) (update : Updating) (reply : Reply) (u : Update)
    → Answers caller past old (Updates update) reply → update_by caller (Updates update) reply ≡ Some u
    → IsCommitted past u
updated-committed caller past old (AddText text) reply u a e =
    subst (IsCommitted past) (same_Some (addition_by caller text a.0) u
    (sym (ap (update_by caller (Updates (AddText text))) a.2) ∙ e)) a.1
updated-committed caller past old (DropId k) reply u a e =
    subst (IsCommitted past) (same_Some (removal_by caller k) u
    (sym (ap (update_by caller (Updates (DropId k))) a.1) ∙ e)) a.0
updated-committed caller past old (ApplyBlock block) reply u h e =
    let a = batch-answered caller past old block reply h in
    let b = a.batch in
    let due : update_by caller (Updates (ApplyBlock block)) reply
    ≡ Some (batch_by caller b.first (map item_of a.items)) =
    ap (update_by caller (Updates (ApplyBlock block))) b.exact
    ∙ ap (λ (r : Result (List BatchItem) ℕ). option_map (batch_by caller b.first) (read_items r)) a.read in
    subst (IsCommitted past) (same_Some (batch_by caller b.first (map item_of a.items)) u (sym due ∙ e)) b.committed

does-committed : (g : DaemonConfig) (caller : ℕ) (past : List Update) (old : State) (shape : Shape) (reply : Reply)
    (new : State) (u : Update)
    → Does g caller past old shape reply new → update_by caller shape reply ≡ Some u → IsCommitted past u
does-committed g caller past old (Updates update) reply new u d e =
    updated-committed caller past old update reply u d.answered e
does-committed g caller past old shape reply new u d e = absurd (nothing u e)

pub update-committed : (g : DaemonConfig) (caller : ℕ) (past : List Update) (old : State) (shape : Shape)
    (reply : Reply)
    (new : State) (u : Update)
    → Permits g caller past old shape reply new → update_by caller shape reply ≡ Some u → IsCommitted past u
update-committed g caller past old shape (No refusal) new u h e =
    absurd (nothing u (sym (refused-none caller shape refusal) ∙ e))
update-committed g caller past old shape NoMemory new u h e =
    absurd (nothing u (sym (lacking-none caller shape) ∙ e))
update-committed g caller past old shape reply new u h e = does-committed g caller past old shape reply new u h e
