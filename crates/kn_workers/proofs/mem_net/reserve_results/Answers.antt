use Rattle.std.proofs.Common.{◌≡◌, ◌≤◌, ◌+◌, ℕ, List, [], ◌∷◌, length, ap, sym, ◌∙◌, subst, length-append, arith}
use Rattle.kn_workers.specs.Rooms.{links_of, Results, AreFit}
use Rattle.kn_workers.proofs.RoomLaws.{fit_one_more}
use Rattle.kn_workers.proofs.mem_net.reserve_results.Goals as goal

pub loop-i-init : goal.loop-i-init
loop-i-init c = (
  ap (λ (l : List Results). length l) c.new-all.ensures,
  subst (AreFit c.args.rooms.now 0) (sym c.new-all.ensures)
      tt,
)

pub loop-i-preserved : goal.loop-i-preserved
loop-i-preserved c =
    let i = c.loop-i.invariant in
    let more = c.in-Ok.ensures.ok in
    let one = c.in_ok-results.ensures in
    let place : c.loop-i.i ≡ 0 + length c.loop-i.all = omega (arith, i.0) in (
      ap (λ (l : List Results). length l) more ∙ length-append c.loop-i.all (c.in_ok-results.results ∷ [])
          ∙ ap (λ (n : ℕ). n + 1) i.0,
      subst (AreFit c.args.rooms.now 0) (sym more)
          (fit_one_more c.args.rooms.now 0 c.loop-i.all c.in_ok-results.results i.1 one.none
          (subst (λ (n : ℕ). length (links_of c.args.rooms.now n) ≤ c.in_ok-results.results.spare) place
          (subst (λ (n : ℕ). n ≤ c.in_ok-results.results.spare) c.count_links.ensures one.room))),
    )
