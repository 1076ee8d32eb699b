use Rattle.std.proofs.Common.{◌≡◌, ◌+◌, ℕ, List, length, length-append, ap, sym, ◌∙◌, subst, arith}
use Rattle.kn_tcp.specs.Tcp.{CountedDoor, counted_seen}
use Rattle.kn_workers.specs.Nets.{share, IsBound, AreBound}
use Rattle.kn_workers.proofs.RoomLaws.{bound_one_more}
use Rattle.kn_tcp.proofs.tcp_net.make_doors.Goals as goal

pub loop-i-preserved : goal.loop-i-preserved
loop-i-preserved c =
    let i = c.loop-i.invariant in
    let count : length c.put.new.self.items ≡ c.loop-i.i + 1 =
    ap (λ (l : List CountedDoor). length l) c.put.ensures.items ∙ length-append _ _ ∙ ap (λ (n : ℕ). n + 1) i.1 in
    let place : c.loop-i.i ≡ 0 + length c.loop-i.made.items = omega (arith, i.1) in
    let new : IsBound (share c.args.quota c.args.doors (0 + length c.loop-i.made.items)) (counted_seen c.new.result) =
    record {
      quota_is = ap (λ (d : CountedDoor). d.quota) c.new.ensures ∙ c.share_of.ensures
          ∙ ap (λ (k : ℕ). share c.args.quota c.args.doors k) place;
      none_given = ap (λ (d : CountedDoor). d.given) c.new.ensures;
      none_failed = ap (λ (d : CountedDoor). d.faults) c.new.ensures;
      none_finished = ap (λ (d : CountedDoor). d.finished) c.new.ensures;
      none_done = tt;
    } in (
      omega (arith, i.0, c.put.ensures.spare),
      count,
      subst (AreBound counted_seen c.args.quota c.args.doors 0) (sym c.put.ensures.items)
          (bound_one_more counted_seen c.args.quota c.args.doors 0 c.loop-i.made.items c.new.result i.2 new),
    )
