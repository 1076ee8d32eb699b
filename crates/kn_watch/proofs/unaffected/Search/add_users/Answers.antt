use Rattle.std.proofs.Common.{◌≡◌, ◌-◌, ◌<◌, ◌≤◌, ℕ, suc, Option, Some, Bool, true, List, length, slice_get, refl, sym}
use Rattle.std.proofs.Common.{ap, ◌∙◌}
use Rattle.std.proofs.Common.{subst, arith}
use Rattle.kn_system.specs.Counts.{IsWithin}
use Rattle.kn_system.specs.Equations.{SystemEquations, row_at}
use Rattle.kn_system.specs.Nodes.{pieces_of, use_before_at, uses_of}
use Rattle.kn_settle.specs.Counters.{rank}
use Rattle.kn_settle.proofs.VisitedUses.{IsNextUse, next-is, next-left, next_read, none_of, use_read, uses_left}
use Rattle.kn_watch.specs.Affected.{HasUsers, IsSubset, is_affected, use_count}
use Rattle.kn_watch.specs.Climbing.{row_of_node}
use Rattle.kn_watch.specs.Found.{flags_of, spread_ticks}
use Rattle.kn_watch.proofs.FlaggedLists.{front-next, front-self}
use Rattle.kn_watch.proofs.FewFound.{few-kept}
use Rattle.kn_watch.proofs.AffectedSpread.{AreReached, AreUseTicks, first-ticks, own-affected, reached-all}
use Rattle.kn_watch.proofs.AffectedSpread.{reached-next}
use Rattle.kn_watch.proofs.AffectedSpread.{reached-none, row-nodes, ticks-break, ticks-within, use-ticks}
use Rattle.kn_watch.proofs.unaffected.Search.add_users.Goals as goal

-- the authorizer of a use's row is affected, if the principal is
row-affected : (s : SystemEquations) (others : List Bool) (p node row : ℕ) (next : Option ℕ) → HasUsers s others
    → is_affected others p ≡ true → IsNextUse s p next → next ≡ Some node → row ≡ row_of_node s.rows node
    → row < length s.rows → is_affected others (row_at s.rows row).authorizer ≡ true
row-affected s others p node row next users is read found same l =
    own-affected s others p (rank s p node) node row (row_at s.rows row).authorizer users is
    (next_read s p node next read found) same l refl

-- the steps up to the row where the search ends
end-ticks : (s : SystemEquations) (others : List Bool) (p node row old now new : ℕ) (next : Option ℕ)
    → IsNextUse s p next → next ≡ Some node → row < length s.rows
    → is_affected others (row_at s.rows row).authorizer ≡ true
    → AreUseTicks s others (use_count s p - uses_left s p next) old now
    → IsWithin (length (row_at s.rows row).formula) now new
    → IsWithin (spread_ticks s others p) old new
end-ticks s others p node row old now new next read found l mine before climb =
    let k : ℕ = rank s p node in
    let less : k < use_count s p = (use_read s p k node (next_read s p node next read found)).most in
    let left : uses_left s p next ≡ suc k = ap (uses_left s p) found in
    ticks-break s others p (use_count s p - uses_left s p next) (length (row_at s.rows row).formula) old now new
    (omega (arith, less, left)) before (row-nodes others s.rows row l mine) climb

pub loop-next-init : goal.loop-next-init
loop-next-init g c =
    let s : SystemEquations = c.args.system.now in
    let p : ℕ = c.args.principal in
    let flags : List Bool = flags_of s c.args.found.now in
    let most : use_count s p ≤ use_count s p = omega arith in
    record {
      found = c.requires.found;
      front = front-self c.args.found.now;
      next = next-is s p (use_count s p) c.last_use-next.result most c.last_use-next.ensures.exact;
      reached = subst (λ n. AreReached s p n flags)
          (sym (next-left s p (use_count s p) c.last_use-next.result most c.last_use-next.ensures.exact))
          (reached-none s p flags);
      within = λ others users is h. h;
      ticks = λ others users is.
          first-ticks s others (use_count s p - uses_left s p c.last_use-next.result) c.args.steps.now
          c.last_use-next.new.steps
          c.last_use-next.ensures.ticks;
    }

pub row_of-row-requires-clause-in_range : goal.row_of-row-requires-clause-in_range
row_of-row-requires-clause-in_range g c =
    let s : SystemEquations = c.args.system.now in
    let p : ℕ = c.args.principal in
    let node : ℕ = c.in-Some.node in
    (use_read s p (rank s p node) node (next_read s p node c.loop-next.next c.loop-next.invariant.next
    c.in-Some.is)).inside

pub use_before-next-requires : goal.use_before-next-requires
use_before-next-requires g c =
    let s : SystemEquations = c.args.system.now in
    let p : ℕ = c.args.principal in
    let node : ℕ = c.in-Some.node in
    (use_read s p (rank s p node) node (next_read s p node c.loop-next.next c.loop-next.invariant.next
    c.in-Some.is)).inside

pub loop-next-smaller : goal.loop-next-smaller
loop-next-smaller g c =
    let s : SystemEquations = c.args.system.now in
    let p : ℕ = c.args.principal in
    let node : ℕ = c.in-Some.node in
    let k : ℕ = rank s p node in
    let read : slice_get (uses_of p (pieces_of s.rows)) k ≡ Some node =
    next_read s p node c.loop-next.next c.loop-next.invariant.next c.in-Some.is in
    let most : k < use_count s p = (use_read s p k node read).most in
    let before : uses_left s p c.loop-next.next ≡ suc k = ap (uses_left s p) c.in-Some.is in
    let after : uses_left s p c.use_before-next.result ≡ k =
    next-left s p k c.use_before-next.result (omega (arith, most)) (c.use_before-next.ensures.exact p k read) in
    omega (arith, before, after)

pub loop-next-preserved : goal.loop-next-preserved
loop-next-preserved g c =
    let s : SystemEquations = c.args.system.now in
    let p : ℕ = c.args.principal in
    let node : ℕ = c.in-Some.node in
    let k : ℕ = rank s p node in
    let row : ℕ = c.row_of-row.result in
    let a : ℕ = (row_at s.rows row).authorizer in
    let found : List ℕ = c.loop-next.found in
    let more : List ℕ = c.add_authorizer.new.found in
    let read : slice_get (uses_of p (pieces_of s.rows)) k ≡ Some node =
    next_read s p node c.loop-next.next c.loop-next.invariant.next c.in-Some.is in
    let less : k < use_count s p = (use_read s p k node read).most in
    let most : k ≤ use_count s p = omega (arith, less) in
    let before : c.use_before-next.result ≡ use_before_at (uses_of p (pieces_of s.rows)) k =
    c.use_before-next.ensures.exact p k read in
    let left : uses_left s p c.loop-next.next ≡ suc k = ap (uses_left s p) c.in-Some.is in
    let left_then : uses_left s p c.use_before-next.result ≡ k = next-left s p k c.use_before-next.result most before in
    let now : is_affected (flags_of s more) a ≡ true = c.in_ok-add_authorizer.ensures.there c.if-not-branch.false in
    let kept : IsSubset (flags_of s found) (flags_of s more) =
    few-kept s c.args.self.now.without c.args.self.now.most found more c.loop-next.invariant.found
    c.in_ok-add_authorizer.ensures.found c.in_ok-add_authorizer.ensures.front in
    let own : a ≡ (row_at s.rows (row_of_node s.rows node)).authorizer =
    ap (λ r. (row_at s.rows r).authorizer) c.row_of-row.ensures.exact in
    record {
      found = c.in_ok-add_authorizer.ensures.found;
      front = front-next c.args.found.now found more c.loop-next.invariant.front c.in_ok-add_authorizer.ensures.front;
      next = next-is s p k c.use_before-next.result most before;
      reached = subst (λ n. AreReached s p n (flags_of s more)) (sym left_then)
          (reached-next s p k node (flags_of s found) (flags_of s more) read kept
          (subst (λ q. is_affected (flags_of s more) q ≡ true) own now)
          (subst (λ n. AreReached s p n (flags_of s found)) left c.loop-next.invariant.reached));
      within = λ others users is h. c.in_ok-add_authorizer.ensures.within others
          (row-affected s others p node row c.loop-next.next users is c.loop-next.invariant.next c.in-Some.is
          c.row_of-row.ensures.exact c.row_of-row.ensures.in_range)
          (c.loop-next.invariant.within others users is h);
      ticks = λ others users is.
          let mine : is_affected others a ≡ true =
          row-affected s others p node row c.loop-next.next users is c.loop-next.invariant.next c.in-Some.is
          c.row_of-row.ensures.exact c.row_of-row.ensures.in_range in
          use-ticks s others (use_count s p - uses_left s p c.loop-next.next)
          (use_count s p - uses_left s p c.use_before-next.result) (length (row_at s.rows row).formula) c.args.steps.now
          c.loop-next.steps c.row_of-row.new.steps c.use_before-next.new.steps (omega (arith, less, left, left_then))
          (c.loop-next.invariant.ticks others users is)
          (row-nodes others s.rows row c.row_of-row.ensures.in_range mine) c.row_of-row.ensures.ticks
          c.use_before-next.ensures.ticks;
    }

pub returns-in_err-add_authorizer-clause-within : goal.returns-in_err-add_authorizer-clause-within
returns-in_err-add_authorizer-clause-within g c = λ others users is h. c.add_authorizer.ensures.within others
    (row-affected c.args.system.now others c.args.principal c.in-Some.node c.row_of-row.result c.loop-next.next users is
    c.loop-next.invariant.next c.in-Some.is c.row_of-row.ensures.exact c.row_of-row.ensures.in_range)
    (c.loop-next.invariant.within others users is h)

pub returns-in_err-add_authorizer-clause-ticks : goal.returns-in_err-add_authorizer-clause-ticks
returns-in_err-add_authorizer-clause-ticks g c = λ others users is.
    end-ticks c.args.system.now others c.args.principal c.in-Some.node c.row_of-row.result c.args.steps.now
    c.loop-next.steps c.row_of-row.new.steps c.loop-next.next c.loop-next.invariant.next c.in-Some.is
    c.row_of-row.ensures.in_range
    (row-affected c.args.system.now others c.args.principal c.in-Some.node c.row_of-row.result c.loop-next.next users is
    c.loop-next.invariant.next c.in-Some.is c.row_of-row.ensures.exact c.row_of-row.ensures.in_range)
    (c.loop-next.invariant.ticks others users is) c.row_of-row.ensures.ticks

pub returns-then-not-branch-clause-within : goal.returns-then-not-branch-clause-within
returns-then-not-branch-clause-within g c = λ others users is h. c.add_authorizer.ensures.within others
    (row-affected c.args.system.now others c.args.principal c.in-Some.node c.row_of-row.result c.loop-next.next users is
    c.loop-next.invariant.next c.in-Some.is c.row_of-row.ensures.exact c.row_of-row.ensures.in_range)
    (c.loop-next.invariant.within others users is h)

pub returns-then-not-branch-clause-known : goal.returns-then-not-branch-clause-known
returns-then-not-branch-clause-known g c = λ others users is h few.
    sym c.if-not-branch.true ∙ c.in_ok-add_authorizer.ensures.known others
    (row-affected c.args.system.now others c.args.principal c.in-Some.node c.row_of-row.result c.loop-next.next users is
    c.loop-next.invariant.next c.in-Some.is c.row_of-row.ensures.exact c.row_of-row.ensures.in_range)
    (c.loop-next.invariant.within others users is h) few

pub returns-then-not-branch-clause-ticks : goal.returns-then-not-branch-clause-ticks
returns-then-not-branch-clause-ticks g c = λ others users is.
    end-ticks c.args.system.now others c.args.principal c.in-Some.node c.row_of-row.result c.args.steps.now
    c.loop-next.steps c.row_of-row.new.steps c.loop-next.next c.loop-next.invariant.next c.in-Some.is
    c.row_of-row.ensures.in_range
    (row-affected c.args.system.now others c.args.principal c.in-Some.node c.row_of-row.result c.loop-next.next users is
    c.loop-next.invariant.next c.in-Some.is c.row_of-row.ensures.exact c.row_of-row.ensures.in_range)
    (c.loop-next.invariant.ticks others users is) c.row_of-row.ensures.ticks

pub returns-clause-users : goal.returns-clause-users
returns-clause-users g c = λ _.
    let s : SystemEquations = c.args.system.now in
    let p : ℕ = c.args.principal in
    let flags : List Bool = flags_of s c.loop-next.found in
    let left : uses_left s p c.loop-next.next ≡ 0 =
    ap (uses_left s p) (none_of c.loop-next.next c.in_default.not-Some) in
    reached-all s p flags (subst (λ n. AreReached s p n flags) left c.loop-next.invariant.reached)

pub returns-clause-ticks : goal.returns-clause-ticks
returns-clause-ticks g c = λ others users is.
    let s : SystemEquations = c.args.system.now in
    let p : ℕ = c.args.principal in
    ticks-within s others p (use_count s p - uses_left s p c.loop-next.next) c.args.steps.now c.loop-next.steps
    (omega arith) (c.loop-next.invariant.ticks others users is)
