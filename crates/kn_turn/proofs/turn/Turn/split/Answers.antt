use Rattle.std.proofs.Common.{rules, ap, sym, subst, ◌∙◌, ◌≡◌, ◌+◌, ◌<◌, ℕ}
use Rattle.kn_turn.specs.declared.view.Stage.TheVariants.{Idle}
use Rattle.kn_turn.proofs.SeatLemmas.{splits_off}
use Rattle.kn_turn.proofs.PassLemmas.{idle_stage, carries_child, carries_parent}
use Rattle.kn_turn.proofs.turn.Turn.split.Goals as goal

pub split_seat-seat-requires : goal.split_seat-seat-requires
split_seat-seat-requires g c =
    let idle : c.root.inside.seat.me.0.stage ≡ Idle =
    idle_stage _ (ap (λ p. p.is_idle) c.root.view_is ∙ c.requires.idle) in
    let few = subst (λ (n : ℕ). n < 63) (sym (ap (λ p. p.splits) c.root.view_is)) c.requires.room in (
      search rules,
      search rules,
      splits_off g.S.Logged.by g.S.Logged.log _ c.root.inside.seat.me.0 idle c.root.invariant.live
          (ap (λ p. p.number) c.root.view_is ∙ c.requires.root) few,
    )

pub invariant_of-result : goal.invariant_of-result
invariant_of-result g c =
    let root = ap (λ p. p.number) c.root.view_is ∙ c.requires.root in
    carries_child g.S.Logged.by c.split_seat-seat.result c.root.inside.seat.me.0 _ _ c.split_seat-seat.ensures.4 root
    c.root.invariant.sound (ap (λ (n : ℕ). n + 1) c.root.invariant.splits_is) c.root.invariant.length_is

pub invariant_of-root : goal.invariant_of-root
invariant_of-root g c =
    carries_parent g.S.Logged.by c.split_seat-seat.new.seat c.root.inside.seat _ _ _ c.split_seat-seat.ensures.2
    (ap (λ p. p.number) c.root.view_is ∙ c.requires.root) c.root.invariant

pub returns-clause-sound : goal.returns-clause-sound
returns-clause-sound g c =
    let root = ap (λ p. p.number) c.root.view_is ∙ c.requires.root in
    (carries_child g.S.Logged.by c.split_seat-seat.result c.root.inside.seat.me.0 _ _ c.split_seat-seat.ensures.4 root
    c.root.invariant.sound (ap (λ (n : ℕ). n + 1) c.root.invariant.splits_is) c.root.invariant.length_is).sound
