use Rattle.std.proofs.Common.{◌≡◌, ◌+◌, ◌<◌, ℕ, Some, Bool, true, List, length, get_or, slice_get, sym, ◌∙◌, arith}
use mathlib.Core.List.{IsPrefix}
use Rattle.kn_system.specs.Counts.{IsWithin}
use Rattle.kn_system.specs.Equations.{SystemEquations}
use Rattle.kn_watch.specs.Affected.{IsSubset, is_affected}
use Rattle.kn_watch.specs.Found.{AreFewFound, flags_of, spread_ticks}
use Rattle.kn_watch.specs.Unaffected.{IsSearched}
use Rattle.kn_watch.proofs.FlaggedLists.{flag-within, found-read, front-next}
use Rattle.kn_watch.proofs.FewFound.{few-kept, few-searched, flags-length}
use Rattle.kn_watch.proofs.AffectedSpread.{AreFindTicks, find-next, spread-all, spread-next}
use Rattle.kn_watch.proofs.unaffected.Search.add_all_users.Goals as goal

-- the steps, with those for one more
next-searched : (s : SystemEquations) (without most at p old now new : ℕ) (found more : List ℕ) (others : List Bool)
    → AreFewFound s without most more → slice_get found at ≡ Some p → IsPrefix found more
    → IsSubset (flags_of s more) others → AreFindTicks s others found at old now
    → IsWithin (spread_ticks s others p) now new → IsSearched s others most old new
next-searched s without most at p old now new found more others h read front among before step =
    few-searched s without most (at + 1) old new more others h among
    (find-next s others found more at p old now new read front before step)

pub add_users-requires-clause-in_range : goal.add_users-requires-clause-in_range
add_users-requires-clause-in_range g c =
    let s : SystemEquations = c.args.system.now in
    let at : ℕ = c.loop-at.at in
    let found : List ℕ = c.loop-at.found in
    let p : ℕ = get_or c.as_slice.result.now at 0 in
    let read : slice_get found at ≡ Some p =
    found-read found c.as_slice.result.now c.len.result at c.as_slice.ensures c.len.ensures c.loop-at-test.true in
    let flagged : is_affected (flags_of s found) p ≡ true = c.loop-at.invariant.found.each.flagged at p read in
    let within : p < length (flags_of s found) = flag-within (flags_of s found) p flagged in
    omega (arith, within, flags-length s found)

pub loop-at-preserved : goal.loop-at-preserved
loop-at-preserved g c =
    let s : SystemEquations = c.args.system.now in
    let at : ℕ = c.loop-at.at in
    let found : List ℕ = c.loop-at.found in
    let more : List ℕ = c.add_users.new.found in
    let p : ℕ = get_or c.as_slice.result.now at 0 in
    let read : slice_get found at ≡ Some p =
    found-read found c.as_slice.result.now c.len.result at c.as_slice.ensures c.len.ensures c.loop-at-test.true in
    let flagged : is_affected (flags_of s found) p ≡ true = c.loop-at.invariant.found.each.flagged at p read in
    let kept : IsSubset (flags_of s found) (flags_of s more) =
    few-kept s c.args.self.now.without c.args.self.now.most found more c.loop-at.invariant.found
    c.add_users.ensures.found c.add_users.ensures.front in
    record {
      found = c.add_users.ensures.found;
      front = front-next c.args.found.now found more c.loop-at.invariant.front c.add_users.ensures.front;
      spread = spread-next s found more at p (flags_of s found) (flags_of s more) read c.add_users.ensures.front kept
          (c.in_ok-add_users.ensures.users c.if-not-branch.false) c.loop-at.invariant.spread;
      within = λ others users h.
          let among : IsSubset (flags_of s found) others = c.loop-at.invariant.within others users h in
          c.add_users.ensures.within others users (among p flagged) among;
      ticks = λ others users h.
          find-next s others found more at p c.args.steps.now c.loop-at.steps c.add_users.new.steps read
          c.add_users.ensures.front (c.loop-at.invariant.ticks others users h)
          (c.add_users.ensures.ticks others users (c.loop-at.invariant.within others users h p flagged));
    }

pub returns-in_err-add_users-clause-ticks : goal.returns-in_err-add_users-clause-ticks
returns-in_err-add_users-clause-ticks g c = λ others users h.
    let s : SystemEquations = c.args.system.now in
    let at : ℕ = c.loop-at.at in
    let found : List ℕ = c.loop-at.found in
    let more : List ℕ = c.add_users.new.found in
    let p : ℕ = get_or c.as_slice.result.now at 0 in
    let read : slice_get found at ≡ Some p =
    found-read found c.as_slice.result.now c.len.result at c.as_slice.ensures c.len.ensures c.loop-at-test.true in
    let flagged : is_affected (flags_of s found) p ≡ true = c.loop-at.invariant.found.each.flagged at p read in
    let among : IsSubset (flags_of s found) others = c.loop-at.invariant.within others users h in
    next-searched s c.args.self.now.without c.args.self.now.most at p c.args.steps.now c.loop-at.steps
    c.add_users.new.steps found more others c.add_users.ensures.found read c.add_users.ensures.front
    (c.add_users.ensures.within others users (among p flagged) among) (c.loop-at.invariant.ticks others users h)
    (c.add_users.ensures.ticks others users (among p flagged))

pub returns-then-not-branch-clause-known : goal.returns-then-not-branch-clause-known
returns-then-not-branch-clause-known g c = λ others users h few.
    let s : SystemEquations = c.args.system.now in
    let at : ℕ = c.loop-at.at in
    let found : List ℕ = c.loop-at.found in
    let p : ℕ = get_or c.as_slice.result.now at 0 in
    let read : slice_get found at ≡ Some p =
    found-read found c.as_slice.result.now c.len.result at c.as_slice.ensures c.len.ensures c.loop-at-test.true in
    let flagged : is_affected (flags_of s found) p ≡ true = c.loop-at.invariant.found.each.flagged at p read in
    let among : IsSubset (flags_of s found) others = c.loop-at.invariant.within others users h in
    sym c.if-not-branch.true ∙ c.in_ok-add_users.ensures.known others users (among p flagged) among few

pub returns-then-not-branch-clause-ticks : goal.returns-then-not-branch-clause-ticks
returns-then-not-branch-clause-ticks g c = λ others users h.
    let s : SystemEquations = c.args.system.now in
    let at : ℕ = c.loop-at.at in
    let found : List ℕ = c.loop-at.found in
    let more : List ℕ = c.add_users.new.found in
    let p : ℕ = get_or c.as_slice.result.now at 0 in
    let read : slice_get found at ≡ Some p =
    found-read found c.as_slice.result.now c.len.result at c.as_slice.ensures c.len.ensures c.loop-at-test.true in
    let flagged : is_affected (flags_of s found) p ≡ true = c.loop-at.invariant.found.each.flagged at p read in
    let among : IsSubset (flags_of s found) others = c.loop-at.invariant.within others users h in
    next-searched s c.args.self.now.without c.args.self.now.most at p c.args.steps.now c.loop-at.steps
    c.add_users.new.steps found more others c.add_users.ensures.found read c.add_users.ensures.front
    (c.add_users.ensures.within others users (among p flagged) among) (c.loop-at.invariant.ticks others users h)
    (c.add_users.ensures.ticks others users (among p flagged))

pub returns-clause-users : goal.returns-clause-users
returns-clause-users g c = λ _.
    spread-all c.args.system.now c.loop-at.found c.loop-at.at (flags_of c.args.system.now c.loop-at.found)
    c.loop-at.invariant.found.each (omega (arith, c.len.ensures, c.loop-at-test.false)) c.loop-at.invariant.spread

pub returns-clause-ticks : goal.returns-clause-ticks
returns-clause-ticks g c = λ others users h.
    few-searched c.args.system.now c.args.self.now.without c.args.self.now.most c.loop-at.at c.args.steps.now
    c.loop-at.steps c.loop-at.found others c.loop-at.invariant.found (c.loop-at.invariant.within others users h)
    (c.loop-at.invariant.ticks others users h)
