use Rattle.std.proofs.Common.{◌≡◌, ◌∙◌, ap, sym, take, drop, length-drop, length-take, None, arith}
use Rattle.kn_wire.specs.Cursors.{held_by}
use Rattle.kn_wire.specs.Feeding.{Bytes, next_of}
use Rattle.kn_wire.specs.Feeds.{held}
use Rattle.kn_wire.proofs.Feeds.{waiting_text_short}
use Rattle.kn_wire.proofs.feed.Feed.make_room.Goals as goal

pub returns-in-Reading-clause-room : goal.returns-in-Reading-clause-room
unfolding held
returns-in-Reading-clause-room c =
    let bytes = take c.args.self.now.end c.args.self.now.buf.items in
    let text = drop c.args.self.now.cursor.from bytes in
    let none : next_of (Bytes text) ≡ None = ap (λ stage. next_of (held_by stage text)) (sym c.in-Reading.is)
    ∙ c.requires.none in
    let short = waiting_text_short text none in
    let size = length-drop c.args.self.now.cursor.from bytes in
    let all = length-take c.args.self.now.end c.args.self.now.buf.items in
    omega (
      arith,
      c.args.self.now.buf.ok.0,
      c.args.self.now.within,
      c.args.self.now.full,
      c.move_front-self.ensures.count,
    )
