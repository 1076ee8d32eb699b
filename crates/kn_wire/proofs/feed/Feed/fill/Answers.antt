use Rattle.std.proofs.Common.{◌≡◌, ◌∙◌, ap, take, drop, length-drop, length-take, List, ℕ, arith}
use Rattle.kn_wire.specs.Cursors.{held_at}
use Rattle.kn_wire.specs.Feeding.{Held, with_piece, next_of}
use Rattle.kn_wire.specs.Feeds.{held}
use Rattle.kn_wire.proofs.feed.Feed.fill.Goals as goal

pub admit-requires-clause-none : goal.admit-requires-clause-none
unfolding held
admit-requires-clause-none g c =
    ap (λ bytes. next_of (held_at c.make_room.new.self.cursor bytes)) c.in-Ok.ensures.front
    ∙ ap next_of c.make_room.ensures.held ∙ c.requires.none

pub returns-in-Ok : goal.returns-in-Ok
unfolding held
returns-in-Ok g c =
    let end = c.make_room.new.self.end in
    let items = c.read_behind.new.buffer.items in
    let mid : Held = held_at c.make_room.new.self.cursor (take end items) in
    let kept : mid ≡ held c.args.self.now = ap (held_at c.make_room.new.self.cursor) c.in-Ok.ensures.front
    ∙ c.make_room.ensures.held in
    let piece : List ℕ = take c.in-Ok.bytes (drop end items) in
    let behind = length-drop end items in
    let size = length-take c.in-Ok.bytes (drop end items) in
    record {
      piece = piece;
      size = omega (
        arith,
        c.read_behind.new.buffer.ok.0,
        c.in-Ok.ensures.few,
        c.in-Ok.ensures.len,
        c.make_room.ensures.room,
        c.make_room.new.self.full,
      );
      added = c.admit.ensures ∙ ap (λ h. with_piece h piece) kept;
      read = c.in-Ok.ensures.read;
      over = c.in-Ok.ensures.over;
    }

pub returns-in-Err : goal.returns-in-Err
unfolding held
returns-in-Err g c = (
  ap (held_at c.make_room.new.self.cursor) c.in-Err.ensures.front ∙ c.make_room.ensures.held,
  c.in-Err.ensures.err,
  c.in-Err.ensures.later,
)
