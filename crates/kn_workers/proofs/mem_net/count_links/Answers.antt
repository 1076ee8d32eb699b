use Rattle.std.proofs.Common.{List, length, ap, sym, ◌∙◌}
use Rattle.kn_outside.specs.InMemory.{LinkInMemory}
use Rattle.kn_workers.proofs.RoomLaws.{links_at, links_past}
use Rattle.kn_workers.proofs.mem_net.count_links.Goals as goal

pub returns-in-Some : goal.returns-in-Some
returns-in-Some c =
    c.len.ensures
    ∙ ap (λ (l : List LinkInMemory). length l)
    (sym (links_at c.args.rooms.now c.args.i c.in-Some.room.now (sym c.in-Some.ensures)))

pub returns-in-None : goal.returns-in-None
returns-in-None c =
    ap (λ (l : List LinkInMemory). length l) (sym (links_past c.args.rooms.now c.args.i (sym c.in-None.ensures)))
