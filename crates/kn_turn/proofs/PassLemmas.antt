-- What the seat of a pass is between two calls.
use Rattle.std.proofs.Common.{◌≡◌, ℕ, ◌+◌, [], length, true, false, refl, sym, ap, ◌∙◌, subst, true≢false, arith}
use Rattle.std.specs.Prelude.{Option}
use Rattle.atomic_table.specs.Table.{Me}
use Rattle.atomic_table.specs.declared.shared.Seat.{Seat}
use Rattle.kn_turn.specs.declared.view.View.{View}
use Rattle.kn_turn.specs.declared.view.Stage.{Stage}
use Rattle.kn_turn.specs.declared.view.Stage.TheVariants.{Idle, Waits, Served, Holds}
use Rattle.kn_turn.specs.Views.{child_view, parent_view}
use Rattle.kn_turn.specs.Invariant.{IsSoundView}
use Rattle.kn_turn.specs.Passes.{is_idle_at, is_between_calls, slots_of, Carries}
use Rattle.kn_turn.proofs.PassEntries.{entries_of-above, all_up_to-later}

pub idle_stage : (st : Stage) → is_idle_at st ≡ true → st ≡ Idle
idle_stage Idle is = refl
idle_stage Waits is = absurd (true≢false (sym is))
idle_stage Served is = absurd (true≢false (sym is))
idle_stage Holds is = absurd (true≢false (sym is))

pub holds_stage : (st : Stage) → is_between_calls st ≡ true → is_idle_at st ≡ false → st ≡ Holds
holds_stage Idle between is = absurd (true≢false is)
holds_stage Waits between is = absurd (true≢false (sym between))
holds_stage Served between is = absurd (true≢false (sym between))
holds_stage Holds between is = refl

module _ {E : Type 0} (by : E → ℕ) where
  sound_child : (v : View E) → v.number ≡ 0 → IsSoundView by v → IsSoundView by (child_view v)
  sound_child v root sound = record {
    own = entries_of-above by v.splits (v.splits + 1) v.seen (sound.root root) (omega arith);
    kept = tt;
    root = λ zero_is. absurd (omega arith);
  }

  sound_parent : (v : View E) → v.number ≡ 0 → IsSoundView by v → IsSoundView by (parent_view v)
  sound_parent v root sound =
      record { own = sound.own; kept = sound.kept; root = λ _. all_up_to-later by v.splits v.seen (sound.root root) }

module _ {S E : Type 0} (by : E → ℕ) where
  -- the pass that was split off
  pub carries_child : (seat : Seat (Option S) (View E)) (v : View E) (number seen_length : ℕ)
      → seat.me ≡ (child_view v, []) → v.number ≡ 0 → IsSoundView by v → number ≡ v.splits + 1
      → seen_length ≡ length v.seen
      → Carries by seat number seen_length 0
  carries_child seat v number seen_length is root sound number_is length_is = record {
    live = ap (λ m. m.0.live) is;
    settled = ap (λ m. m.0.old) is;
    between = ap (λ m. is_between_calls m.0.stage) is;
    slots = ap (λ m. m.1) is ∙ sym (ap (λ m. slots_of m.0.stage) is);
    number_is = number_is ∙ sym (ap (λ m. m.0.number) is);
    length_is = length_is ∙ sym (ap (λ m. length m.0.seen) is);
    splits_is = sym (ap (λ m. m.0.splits) is);
    sound = subst (λ (m : Me (Option S) (View E)). IsSoundView by m.0) (sym is) (sound_child by v root sound);
  }

  -- the root afterwards
  pub carries_parent : (seat old : Seat (Option S) (View E)) (number seen_length splits : ℕ)
      → seat.me ≡ (parent_view old.me.0, old.me.1) → old.me.0.number ≡ 0 → Carries by old number seen_length splits
      → Carries by seat number seen_length (splits + 1)
  carries_parent seat old number seen_length splits is root c = record {
    live = ap (λ m. m.0.live) is ∙ c.live;
    settled = ap (λ m. m.0.old) is ∙ c.settled;
    between = ap (λ m. is_between_calls m.0.stage) is ∙ c.between;
    slots = ap (λ m. m.1) is ∙ (c.slots ∙ sym (ap (λ m. slots_of m.0.stage) is));
    number_is = c.number_is ∙ sym (ap (λ m. m.0.number) is);
    length_is = c.length_is ∙ sym (ap (λ m. length m.0.seen) is);
    splits_is = ap (λ (n : ℕ). n + 1) c.splits_is ∙ sym (ap (λ m. m.0.splits) is);
    sound = subst (λ (m : Me (Option S) (View E)). IsSoundView by m.0) (sym is) (sound_parent by old.me.0 root c.sound);
  }
