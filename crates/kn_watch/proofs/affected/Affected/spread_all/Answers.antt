use Rattle.std.proofs.Common.{◌≡◌, ◌<◌, ◌≤◌, ℕ, Some, Bool, true, List, length, get_or, slice_get, arith}
use Rattle.kn_system.specs.Equations.{SystemEquations}
use Rattle.kn_watch.specs.Affected.{IsSubset, is_affected}
use Rattle.kn_watch.proofs.FlaggedLists.{flag-within, found-length, found-read, front-kept}
use Rattle.kn_watch.proofs.AffectedSpread.{find-next, find-within, find-within-next, spread-all, spread-next}
use Rattle.kn_watch.proofs.affected.Affected.spread_all.Goals as goal

pub spread-requires-clause-in_range : goal.spread-requires-clause-in_range
spread-requires-clause-in_range g c =
    let at : ℕ = c.loop-at.at in
    let p : ℕ = get_or c.as_slice.result.now at 0 in
    let read : slice_get c.loop-at.self.found at ≡ Some p =
    found-read c.loop-at.self.found c.as_slice.result.now c.len.result at c.as_slice.ensures c.len.ensures
    c.loop-at-test.true in
    let within : p < length c.loop-at.self.flags.items =
    flag-within c.loop-at.self.flags.items p (c.loop-at.invariant.found.flagged at p read) in
    omega (arith, within, c.loop-at.invariant.size)

pub loop-at-smaller : goal.loop-at-smaller
loop-at-smaller g c =
    let most : length c.loop-at.self.found ≤ length c.loop-at.self.flags.items =
    found-length c.loop-at.self.flags.items c.loop-at.self.found c.loop-at.invariant.found in
    omega (arith, most, c.loop-at.invariant.size, c.len.ensures, c.loop-at-test.true)

pub loop-at-preserved : goal.loop-at-preserved
loop-at-preserved g c =
    let s : SystemEquations = c.args.system.now in
    let at : ℕ = c.loop-at.at in
    let found : List ℕ = c.loop-at.self.found in
    let more : List ℕ = c.spread.new.self.found in
    let mid : List Bool = c.loop-at.self.flags.items in
    let next : List Bool = c.spread.new.self.flags.items in
    let p : ℕ = get_or c.as_slice.result.now at 0 in
    let read : slice_get found at ≡ Some p =
    found-read found c.as_slice.result.now c.len.result at c.as_slice.ensures c.len.ensures c.loop-at-test.true in
    let flagged : is_affected mid p ≡ true = c.loop-at.invariant.found.flagged at p read in
    let step : IsSubset mid next =
    front-kept mid next found more c.loop-at.invariant.found c.in-Ok.ensures.found c.in-Ok.ensures.front in
    record {
      size = c.in-Ok.ensures.size;
      found = c.in-Ok.ensures.found;
      kept = λ q e. step q (c.loop-at.invariant.kept q e);
      spread = spread-next s found more at p mid next read c.in-Ok.ensures.front step c.in-Ok.ensures.users
          c.loop-at.invariant.spread;
      within = λ others users h. c.in-Ok.ensures.within others users
          (c.loop-at.invariant.within others users h p flagged) (c.loop-at.invariant.within others users h);
      ticks = λ others users h. find-next s others found more at p c.args.steps.now c.loop-at.steps c.spread.new.steps
          read c.in-Ok.ensures.front (c.loop-at.invariant.ticks others users h)
          (c.in-Ok.ensures.ticks others users (c.loop-at.invariant.within others users h p flagged));
    }

pub returns-in-Err-clause-ticks : goal.returns-in-Err-clause-ticks
returns-in-Err-clause-ticks g c = λ others users h.
    let s : SystemEquations = c.args.system.now in
    let at : ℕ = c.loop-at.at in
    let found : List ℕ = c.loop-at.self.found in
    let mid : List Bool = c.loop-at.self.flags.items in
    let p : ℕ = get_or c.as_slice.result.now at 0 in
    let read : slice_get found at ≡ Some p =
    found-read found c.as_slice.result.now c.len.result at c.as_slice.ensures c.len.ensures c.loop-at-test.true in
    let flagged : is_affected mid p ≡ true = c.loop-at.invariant.found.flagged at p read in
    find-within-next s others mid found at p c.args.steps.now c.loop-at.steps c.spread.new.steps read
    c.loop-at.invariant.found (c.loop-at.invariant.within others users h) (c.loop-at.invariant.ticks others users h)
    (c.in-Err.ensures.ticks others users (c.loop-at.invariant.within others users h p flagged))

pub returns-clause-users : goal.returns-clause-users
returns-clause-users g c =
    spread-all c.args.system.now c.loop-at.self.found c.loop-at.at c.loop-at.self.flags.items c.loop-at.invariant.found
    (omega (arith, c.len.ensures, c.loop-at-test.false)) c.loop-at.invariant.spread

pub returns-clause-ticks : goal.returns-clause-ticks
returns-clause-ticks g c = λ others users h.
    find-within c.args.system.now others c.loop-at.self.flags.items c.loop-at.self.found c.loop-at.at c.args.steps.now
    c.loop-at.steps c.loop-at.invariant.found (c.loop-at.invariant.within others users h)
    (c.loop-at.invariant.ticks others users h)
