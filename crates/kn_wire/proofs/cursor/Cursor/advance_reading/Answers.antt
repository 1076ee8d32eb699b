use Rattle.std.proofs.Common.{◌<◌, inl, inr, refl, subst, drop, length, ℕ, List}
use Rattle.kn_wire.specs.Firsts.{WaitsFor}
use Rattle.kn_wire.proofs.Feeds.{fewer_held, long_held}
use Rattle.kn_wire.proofs.cursor.Cursor.advance_reading.Goals as goal

pub returns-then-text-self-clause-advances : goal.returns-then-text-self-clause-advances
returns-then-text-self-clause-advances c = (
  fewer_held c.args.self.now c.args.bytes.now c.args.self.now.needed c.requires.stage c.requires.sound.none_below
      (subst (λ (t : List ℕ). length t < c.args.self.now.needed) c.split_at.ensures.back c.if-text-self.true),
  refl,
)

pub returns-in-Waits-clause-advances : goal.returns-in-Waits-clause-advances
returns-in-Waits-clause-advances c =
    let text = drop c.args.self.now.from c.args.bytes.now in
    let waits : WaitsFor text c.in-Waits.searched c.in-Waits.needed =
    subst (λ (t : List ℕ). WaitsFor t c.in-Waits.searched c.in-Waits.needed) c.split_at.ensures.back
    c.in-Waits.ensures in
    (fewer_held c.args.self.now c.args.bytes.now c.in-Waits.needed c.requires.stage waits.none waits.fewer, refl)

pub returns-in-Long-clause-advances : goal.returns-in-Long-clause-advances
returns-in-Long-clause-advances c =
    long_held c.args.self.now c.spend_long.new.self c.args.bytes.now c.split_at.result.1.now c.in-Long.bytes
    c.requires.stage c.split_at.ensures.back c.in-Long.ensures.0 c.in-Long.ensures.1
    c.spend_long.ensures.here c.spend_long.ensures.underway

pub returns-then-text-self-clause-waits : goal.returns-then-text-self-clause-waits
returns-then-text-self-clause-waits c =
    (subst (λ (t : List ℕ). length t < c.args.self.now.needed) c.split_at.ensures.back c.if-text-self.true, inl refl)

pub returns-in-Waits-clause-waits : goal.returns-in-Waits-clause-waits
returns-in-Waits-clause-waits c =
    let text = drop c.args.self.now.from c.args.bytes.now in
    let waits : WaitsFor text c.in-Waits.searched c.in-Waits.needed =
    subst (λ (t : List ℕ). WaitsFor t c.in-Waits.searched c.in-Waits.needed) c.split_at.ensures.back
    c.in-Waits.ensures in
    (waits.fewer, inr waits.clean)
