-- What the functions of the requests owe: a reply that is permitted, where the pass didn't move, looked at its turn, or
-- had none.
use Rattle.std.proofs.Common.{◌≡◌, ℕ, ◌≤◌, Bool, true, false, List, [], ◌∷◌, length, refl, sym, ap, ◌∙◌, arith}
use Rattle.std.proofs.Common.{Option, Some, None, subst}
use Rattle.std.specs.Prelude.{option_to_list}
use Rattle.std.specs.Option.{option_or}
use Rattle.kn_outside.specs.Seen.{LinkSeen}
use Rattle.kn_outside.specs.Printing.{Prints}
use Rattle.kn_history.specs.declared.update.Update.{Update}
use Rattle.kn_wire.specs.declared.fault.WireFault.{WireFault}
use Rattle.kn_reply.specs.declared.refusal.Refusal.{Refusal}
use Rattle.kn_reply.specs.Replies.{Reply, Done, Started, Number, PrivateAdded, Added, Value, Batched, PinnedAt, Log}
use Rattle.kn_reply.specs.Replies.{News, Critical, No, NoMemory, reply_text}
use Rattle.kn_daemon.specs.declared.shape.Shape.{Shape as Asked}
use Rattle.kn_daemon.specs.Shapes.{Shape, Controls, Leave, AtFault, shape_in_code}
use Rattle.kn_daemon.specs.Daemon.{DaemonConfig, State, Permits, Answers, own_refusal, placed_refusal, state_after}
use Rattle.kn_daemon.specs.Daemon.{may_lack_memory, refusal_of_fault}
use Rattle.kn_daemon.specs.Linearized.{update_by, is_placed, StandsFor}
use Rattle.kn_daemon.proofs.Refusals.{own-unplaced}
use Rattle.kn_daemon.proofs.Updates.{refused-none, lacking-none}
use Rattle.kn_registry.specs.Passes.{PassSeen, Moves, Looks, Stays}
use Rattle.kn_registry.proofs.PassMoves.{moves-nothing}
use Rattle.kn_serve.specs.Handling.{Moment, in_state, Handles, Tells, refused_reply}

-- where the state refuses nothing, the pass may move
pub unrefused : {P : Type 0} (own : Option Refusal) → own ≡ None → (refusal : Refusal) → own ≡ Some refusal → P
unrefused own none refusal some = absurd (cc (none, some))

-- a reply without an update adds none
no-own : (updated : Option Update) → updated ≡ None → [] ≡ option_to_list updated
no-own updated none = ap (λ (o : Option Update). option_to_list o) (sym none)

-- the turn was had once at most for a reply that doesn't depend on its place
stands-anywhere : (b : Bool) (n : ℕ) (entries : List ℕ) → b ≡ false → length entries ≤ 1 → StandsFor b n entries
stands-anywhere b n entries unplaced few = subst (λ (x : Bool). StandsFor x n entries) (sym unplaced) few

-- the turn was had at the place of the reply
stands-here : (b : Bool) (n : ℕ) → StandsFor b n (n ∷ [])
stands-here true n = refl
stands-here false n = omega arith

module _ (g : DaemonConfig) (shape : Shape) (whole : Bool) (m m' : Moment) where
  -- the pass moved so, and the reply is permitted at what it has then seen
  pub handled_by : (reply : Reply) (more own : List Update) (entries : List ℕ) →
      Moves m.pass m'.pass more own entries → own ≡ option_to_list (update_by m.pass.number shape reply) →
      Permits g m.pass.number m'.pass.seen m.state shape reply m'.state →
      StandsFor (is_placed shape reply) (length m'.pass.seen) entries →
      ((refusal : Refusal) → own_refusal g m.state shape ≡ Some refusal → m'.pass ≡ m.pass) →
      Prints whole (reply_text reply) m.link m'.link → Handles g shape whole m m'
  handled_by reply more own entries moved same permitted stood still prints =
      let moves : Moves m.pass m'.pass more (option_to_list (update_by m.pass.number shape reply)) entries =
      subst (λ (x : List Update). Moves m.pass m'.pass more x entries) same moved in
      let permits : List Update → Type 0 = λ x. Permits g m.pass.number x m.state shape reply m'.state in
      let stands : List Update → Type 0 = λ x. StandsFor (is_placed shape reply) (length x) entries in
      record {
        reply = reply;
        more = more;
        entries = entries;
        moves = moves;
        replied = record {
          permitted = subst permits moved.seen permitted;
          own = moves.named;
          stood = subst stands moved.seen stood;
        };
        still = still;
        prints = prints;
      }

  -- the turn was had, and nothing was added
  pub looked_handled : (reply : Reply) → Looks m.pass m'.pass → own_refusal g m.state shape ≡ None →
      update_by m.pass.number shape reply ≡ None → Permits g m.pass.number m'.pass.seen m.state shape reply m'.state →
      Prints whole (reply_text reply) m.link m'.link → Handles g shape whole m m'
  looked_handled reply looks own none permitted prints =
      handled_by reply looks.more [] (length m'.pass.seen ∷ []) looks.moves
      (no-own (update_by m.pass.number shape reply) none) permitted
      (stands-here (is_placed shape reply) (length m'.pass.seen)) (unrefused (own_refusal g m.state shape) own) prints

  -- the turn was had once at most, and nothing was added
  pub stayed_handled : (reply : Reply) → Stays m.pass m'.pass → own_refusal g m.state shape ≡ None →
      update_by m.pass.number shape reply ≡ None → is_placed shape reply ≡ false →
      Permits g m.pass.number m'.pass.seen m.state shape reply m'.state →
      Prints whole (reply_text reply) m.link m'.link → Handles g shape whole m m'
  stayed_handled reply stays own none unplaced permitted prints =
      handled_by reply stays.more [] stays.entries stays.moves
      (no-own (update_by m.pass.number shape reply) none) permitted
      (stands-anywhere (is_placed shape reply) (length m'.pass.seen) stays.entries unplaced stays.few)
      (unrefused (own_refusal g m.state shape) own) prints

  -- the history refused the request at the turn
  pub refused_handled : (refusal : Refusal) → m'.state ≡ m.state → Looks m.pass m'.pass →
      own_refusal g m.state shape ≡ None → placed_refusal m'.pass.seen shape ≡ Some refusal →
      Prints whole (reply_text (No refusal)) m.link m'.link → Handles g shape whole m m'
  refused_handled refusal same looks own placed prints =
      let first : option_or (own_refusal g m.state shape) (placed_refusal m'.pass.seen shape) ≡ Some refusal =
      ap (λ (o : Option Refusal). option_or o (placed_refusal m'.pass.seen shape)) own ∙ placed in
      looked_handled (No refusal) looks own (refused-none m.pass.number shape refusal) (first, same) prints

  -- memory ran out once the turn was had
  pub unserved_handled : m'.state ≡ m.state → Looks m.pass m'.pass → own_refusal g m.state shape ≡ None →
      may_lack_memory shape ≡ true → Prints whole (reply_text NoMemory) m.link m'.link → Handles g shape whole m m'
  unserved_handled same looks own may prints =
      looked_handled NoMemory looks own (lacking-none m.pass.number shape) (may, same) prints

  -- memory ran out, and the turn was had once at most
  pub lacking_handled : m'.state ≡ m.state → Stays m.pass m'.pass → own_refusal g m.state shape ≡ None →
      may_lack_memory shape ≡ true → Prints whole (reply_text NoMemory) m.link m'.link → Handles g shape whole m m'
  lacking_handled same stays own may prints =
      stayed_handled NoMemory stays own (lacking-none m.pass.number shape) refl (may, same) prints

-- a request of this shape
pub handles_as : (g : DaemonConfig) (shape : Shape) (whole : Bool) (m m' : Moment) (asked is : Asked) →
    shape ≡ shape_in_code asked → asked ≡ is → Handles g (shape_in_code is) whole m m' → Handles g shape whole m m'
handles_as g shape whole m m' asked is same at handled =
    subst (λ (x : Shape). Handles g x whole m m') (sym (same ∙ ap shape_in_code at)) handled

-- the pass had nothing to do with it
pub told_handled : (g : DaemonConfig) (shape : Shape) (whole : Bool) (v : PassSeen) (old new : State) (l l' : LinkSeen)
    →
    Tells g shape whole old new l l' → Handles g shape whole (in_state old v l) (in_state new v l')
told_handled g shape whole v old new l l' t =
    handled_by g shape whole (in_state old v l) (in_state new v l') t.reply [] [] [] (moves-nothing v)
    (no-own (update_by v.number shape t.reply) (t.no_update v.number)) (t.permitted v.number v.seen)
    (stands-anywhere (is_placed shape t.reply) (length v.seen) [] t.unplaced (omega arith)) (λ refusal own. refl)
    t.prints

-- whether a reply says that the request was accepted
abbrev pub is_acceptance : Reply → Bool
is_acceptance Done = true
is_acceptance (Started s version) = true
is_acceptance (Number version) = true
is_acceptance (PrivateAdded k) = true
is_acceptance (Added k version) = true
is_acceptance (Value index name version rows) = true
is_acceptance (Batched first added version) = true
is_acceptance (PinnedAt version newest) = true
is_acceptance (Log n history) = true
is_acceptance (News index name version) = true
is_acceptance (Critical index ids) = true
is_acceptance (No refusal) = false
is_acceptance NoMemory = false

module _ (g : DaemonConfig) (caller : ℕ) (past : List Update) (old new : State) (shape : Shape) where
  -- what a daemon does it may reply
  pub does_permitted : (reply : Reply) → is_acceptance reply ≡ true → own_refusal g old shape ≡ None →
      Answers caller past old shape reply → new ≡ state_after past old shape → Permits g caller past old shape reply new
  does_permitted Done is own due next = record { accepted = own; answered = due; next = next }
  does_permitted (Started s version) is own due next = record { accepted = own; answered = due; next = next }
  does_permitted (Number version) is own due next = record { accepted = own; answered = due; next = next }
  does_permitted (PrivateAdded k) is own due next = record { accepted = own; answered = due; next = next }
  does_permitted (Added k version) is own due next = record { accepted = own; answered = due; next = next }
  does_permitted (Value index name version rows) is own due next =
      record { accepted = own; answered = due; next = next }
  does_permitted (Batched first added version) is own due next =
      record { accepted = own; answered = due; next = next }
  does_permitted (PinnedAt version newest) is own due next = record { accepted = own; answered = due; next = next }
  does_permitted (Log n history) is own due next = record { accepted = own; answered = due; next = next }
  does_permitted (News index name version) is own due next = record { accepted = own; answered = due; next = next }
  does_permitted (Critical index ids) is own due next = record { accepted = own; answered = due; next = next }
  does_permitted (No refusal) is own due next = absurd (cc is)
  does_permitted NoMemory is own due next = absurd (cc is)

module _ (g : DaemonConfig) (shape : Shape) (whole : Bool) (old : State) (l l' : LinkSeen) where
  -- the state refuses the request
  pub told_refused : (refusal : Refusal) → own_refusal g old shape ≡ Some refusal →
      Prints whole (reply_text (No refusal)) l l' → Tells g shape whole old old l l'
  told_refused refusal refused prints = record {
    reply = No refusal;
    permitted = λ caller past. (ap (λ (o : Option Refusal). option_or o (placed_refusal past shape)) refused, refl);
    no_update = λ caller. refused-none caller shape refusal;
    unplaced = own-unplaced g old shape refusal refused;
    prints = prints;
  }

  -- out of memory
  pub told_memory : may_lack_memory shape ≡ true → Prints whole (reply_text NoMemory) l l' →
      Tells g shape whole old old l l'
  told_memory may prints = record {
    reply = NoMemory;
    permitted = λ caller past. (may, refl);
    no_update = λ caller. lacking-none caller shape;
    unplaced = refl;
    prints = prints;
  }

  -- the state refuses the request so, or memory ran out
  pub told_either : (refusal : Option Refusal) → may_lack_memory shape ≡ true →
      ((due : Refusal) → refusal ≡ Some due → own_refusal g old shape ≡ Some due) →
      Prints whole (reply_text (refused_reply refusal)) l l' → Tells g shape whole old old l l'
  told_either None may refuses prints = told_memory may prints
  told_either (Some due) may refuses prints = told_refused due (refuses due refl) prints

  -- the request is accepted, and its reply and what it makes of the state are the same wherever it stands
  pub told_done : (new : State) (reply : Reply) → is_acceptance reply ≡ true → own_refusal g old shape ≡ None →
      ((caller : ℕ) (past : List Update) → Answers caller past old shape reply) →
      ((past : List Update) → new ≡ state_after past old shape) → ((caller : ℕ) → update_by caller shape reply ≡ None) →
      is_placed shape reply ≡ false → Prints whole (reply_text reply) l l' → Tells g shape whole old new l l'
  told_done new reply is own answered next no_update unplaced prints = record {
    reply = reply;
    permitted = λ caller past.
        does_permitted g caller past old new shape reply is own (answered caller past) (next past);
    no_update = no_update;
    unplaced = unplaced;
    prints = prints;
  }

module _ (g : DaemonConfig) (whole : Bool) (now : State) (l l' : LinkSeen) where
  -- BYE is answered
  pub bye_told : Prints whole (reply_text Done) l l' → Tells g (Controls Leave) whole now now l l'
  bye_told prints =
      told_done g (Controls Leave) whole now l l' now Done refl refl (λ caller past. refl) (λ past. refl)
      (λ caller. refl) refl prints

  -- a fault is answered by its refusal
  pub faulty_told : (fault : WireFault) (refusal : Refusal) → refusal ≡ refusal_of_fault fault →
      Prints whole (reply_text (No refusal)) l l' → Tells g (AtFault fault) whole now now l l'
  faulty_told fault refusal same prints =
      told_refused g (AtFault fault) whole now l l' refusal (ap (λ (r : Refusal). Some r) (sym same)) prints
