use Rattle.std.proofs.Common.{◌≡◌, ◌+◌, ◌≤◌, ℕ, List, [], ◌∷◌, length, length-append, drop, ap, sym, ◌∙◌, subst}
use Rattle.std.proofs.Common.{arith}
use Rattle.std.proofs.lemmas.List.{drop-drop}
use Rattle.kn_outside.specs.InMemory.{LinkInMemory}
use Rattle.kn_workers.specs.InMemory.{DoorInMemory, door_seen}
use Rattle.kn_workers.specs.Nets.{share, AreBound}
use Rattle.kn_workers.specs.Rooms.{Results, AreFit, HaveRooms, links_of, failing_of}
use Rattle.kn_workers.specs.declared.mem_door.MemRoom.{MemRoom}
use Rattle.kn_workers.proofs.RoomLaws.{fit_first, rest_length, bound_one_more, bound_new, have_one_more, links_from}
use Rattle.kn_workers.proofs.RoomLaws.{failing_from}
use Rattle.kn_workers.proofs.mem_net.make_doors.Goals as goal

pub of-requires-clause-room : goal.of-requires-clause-room
of-requires-clause-room c =
    let i = c.loop-i.invariant in
    let links = c.next_room-room.ensures.links ∙ ap (λ (rooms : List MemRoom). links_of rooms 0) i.5
    ∙ links_from c.args.rooms c.loop-i.i in
    let fit = fit_first c.args.rooms c.loop-i.i c.loop-i.results c.remove.result c.remove.ensures.item i.1 in
    subst (λ (l : List LinkInMemory). length l ≤ c.remove.result.spare) (sym links) fit.1

pub loop-i-preserved : goal.loop-i-preserved
loop-i-preserved c =
    let i = c.loop-i.invariant in
    let rooms : List MemRoom = c.args.rooms in
    let first = c.remove.ensures in
    let fit = fit_first rooms c.loop-i.i c.loop-i.results c.remove.result first.item i.1 in
    let one = rest_length c.loop-i.results c.remove.result first.item in
    let rest : length c.remove.new.self ≡ _ = ap (λ (l : List Results). length l) first.rest in
    let count : length c.put.new.self.items ≡ c.loop-i.i + 1 =
    ap (λ (l : List DoorInMemory). length l) c.put.ensures.items
    ∙ length-append c.loop-i.made.items (c.of.result ∷ []) ∙ ap (λ (n : ℕ). n + 1) i.3 in
    let place : c.loop-i.i ≡ 0 + length c.loop-i.made.items = omega (arith, i.3) in
    let room = c.next_room-room.ensures in
    let links = ap (λ (d : DoorInMemory). d.links) c.of.ensures ∙ room.links
    ∙ ap (λ (l : List MemRoom). links_of l 0) i.5 ∙ links_from rooms c.loop-i.i ∙ ap (links_of rooms) place in
    let failing = ap (λ (d : DoorInMemory). d.failing) c.of.ensures ∙ room.failing
    ∙ ap (λ (l : List MemRoom). failing_of l 0) i.5 ∙ failing_from rooms c.loop-i.i ∙ ap (failing_of rooms) place in
    let new =
    bound_new _ _ _ _ c.of.result c.of.ensures (c.share_of.ensures ∙ ap (share c.args.quota c.args.doors) place) in (
      omega (arith, i.0, one, rest),
      subst (AreFit rooms (c.loop-i.i + 1)) (sym first.rest) fit.2,
      omega (arith, i.2, c.put.ensures.spare),
      count,
      subst (AreBound door_seen c.args.quota c.args.doors 0) (sym c.put.ensures.items)
          (bound_one_more door_seen c.args.quota c.args.doors 0 c.loop-i.made.items c.of.result i.4 new),
      room.rest ∙ ap (drop 1) i.5 ∙ drop-drop 1 c.loop-i.i rooms,
      subst (HaveRooms rooms 0) (sym c.put.ensures.items)
          (have_one_more rooms 0 c.loop-i.made.items c.of.result i.6 links failing
          (ap (λ (d : DoorInMemory). d.calls) c.of.ensures)),
    )
