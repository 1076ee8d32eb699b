use Rattle.std.proofs.Common.{◌∙◌, ap, sym, subst, take, drop, List, ℕ}
use Rattle.kn_wire.specs.Cursors.{held_at, IsSound}
use Rattle.kn_wire.specs.Feeds.{held}
use Rattle.kn_wire.proofs.Feeds.{take_more, sound_longer, held_longer}
use Rattle.kn_wire.proofs.feed.Feed.admit.Goals as goal

pub invariant_of-self-clause-sound : goal.invariant_of-self-clause-sound
invariant_of-self-clause-sound c =
    let cursor = c.args.self.now.cursor in
    let items = c.args.self.now.buf.items in
    subst (λ (t : List ℕ). IsSound cursor t) (sym (take_more items c.args.self.now.end c.args.bytes))
    (sound_longer cursor (take c.args.self.now.end items) (take c.args.bytes (drop c.args.self.now.end items))
    c.args.self.now.sound)

pub returns-in-Reading : goal.returns-in-Reading
unfolding held
returns-in-Reading c =
    let cursor = c.args.self.now.cursor in
    let items = c.args.self.now.buf.items in
    ap (held_at cursor) (take_more items c.args.self.now.end c.args.bytes)
    ∙ held_longer cursor (take c.args.self.now.end items) (take c.args.bytes (drop c.args.self.now.end items))
    c.in-Reading.is c.args.self.now.sound.within
