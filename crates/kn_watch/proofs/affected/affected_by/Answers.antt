use Rattle.std.proofs.Common.{ℕ, false, replicate, sym, subst}
use Rattle.kn_system.specs.Equations.{SystemEquations, row_at}
use Rattle.kn_watch.specs.Affected.{IsSubset}
use Rattle.kn_watch.specs.Found.{AreFound}
use Rattle.kn_watch.proofs.FlaggedLists.{found-none, none-subset}
use Rattle.kn_watch.proofs.affected.affected_by.Goals as goal

pub flag_changed-requires-clause-found : goal.flag_changed-requires-clause-found
flag_changed-requires-clause-found g c =
    let n : ℕ = c.principals.result in
    subst (λ fs. AreFound fs c.in_ok-affected.affected.found) (sym c.in_ok-affected.ensures.flags)
    (subst (AreFound (replicate n false)) (sym c.in_ok-affected.ensures.found) (found-none n))

pub returns-in-Err-spread_all-clause-ticks : goal.returns-in-Err-spread_all-clause-ticks
returns-in-Err-spread_all-clause-ticks g c = λ others first users.
    let none : IsSubset c.in_ok-affected.affected.flags.items others =
    subst (λ fs. IsSubset fs others) (sym c.in_ok-affected.ensures.flags)
    (none-subset c.principals.result others) in
    c.spread_all.ensures.ticks others users (c.in-Ok.ensures.within others first none)

pub returns-clause-affected : goal.returns-clause-affected
returns-clause-affected g c =
    let s : SystemEquations = c.args.system.now in
    record {
      size = c.in-Ok-spread_all.ensures.size;
      changed_rows = λ i change e. c.in-Ok-spread_all.ensures.kept (row_at s.rows change.row).authorizer
          (c.in-Ok.ensures.rows i change e);
      users = c.in-Ok-spread_all.ensures.users;
      least = λ others first users.
          let none : IsSubset c.in_ok-affected.affected.flags.items others =
          subst (λ fs. IsSubset fs others) (sym c.in_ok-affected.ensures.flags)
          (none-subset c.principals.result others) in
          c.in-Ok-spread_all.ensures.within others users (c.in-Ok.ensures.within others first none);
    }

pub returns-clause-ticks : goal.returns-clause-ticks
returns-clause-ticks g c = λ others first users.
    let none : IsSubset c.in_ok-affected.affected.flags.items others =
    subst (λ fs. IsSubset fs others) (sym c.in_ok-affected.ensures.flags)
    (none-subset c.principals.result others) in
    c.spread_all.ensures.ticks others users (c.in-Ok.ensures.within others first none)
