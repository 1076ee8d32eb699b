use Rattle.std.proofs.Common.{◌≡◌, ◌∙◌, ap, take}
use Rattle.kn_wire.specs.Cursors.{held_at}
use Rattle.kn_wire.specs.Feeding.{Held, with_piece, next_of}
use Rattle.kn_wire.specs.Feeds.{held}
use Rattle.kn_wire.proofs.feed.Feed.push.Goals as goal

pub admit-requires-clause-none : goal.admit-requires-clause-none
unfolding held
admit-requires-clause-none c =
    ap (λ bytes. next_of (held_at c.make_room.new.self.cursor bytes)) c.copy_behind.ensures.front
    ∙ ap next_of c.make_room.ensures.held ∙ c.requires.none

pub returns : goal.returns
unfolding held
returns c =
    let mid : Held =
    held_at c.make_room.new.self.cursor (take c.make_room.new.self.end c.copy_behind.new.buffer.items) in
    let kept : mid ≡ held c.args.self.now = ap (held_at c.make_room.new.self.cursor) c.copy_behind.ensures.front
    ∙ c.make_room.ensures.held in
    c.admit.ensures ∙ ap (with_piece mid) c.copy_behind.ensures.behind ∙ ap (λ h. with_piece h c.args.piece.now) kept
