use Rattle.std.proofs.Common.{◌≡◌, ◌-◌, ◌<◌, ◌≤◌, ℕ, suc, Some, Bool, true, List, length, slice_get, sym, ap, ◌∙◌}
use Rattle.std.proofs.Common.{subst, arith}
use Rattle.std.proofs.lemmas.List.{length-set}
use Rattle.kn_system.specs.Equations.{SystemEquations, row_at}
use Rattle.kn_system.specs.Nodes.{pieces_of, use_before_at, uses_of}
use Rattle.kn_settle.specs.Counters.{rank}
use Rattle.kn_settle.proofs.VisitedUses.{next-is, next-left, next_read, none_of, use_read, uses_left}
use Rattle.kn_watch.specs.Affected.{IsSubset, is_affected, use_count}
use Rattle.kn_watch.specs.Climbing.{row_of_node}
use Rattle.kn_watch.proofs.FlaggedLists.{among-set, flag-kept, flag-set, front-next, front-self}
use Rattle.kn_watch.proofs.AffectedSpread.{AreReached, first-ticks, own-affected, reached-all, reached-next}
use Rattle.kn_watch.proofs.AffectedSpread.{reached-none, row-nodes, ticks-break, ticks-within, use-ticks}
use Rattle.kn_watch.proofs.affected.Affected.spread.Goals as goal

pub loop-next-init : goal.loop-next-init
loop-next-init g c =
    let s : SystemEquations = c.args.system.now in
    let p : ℕ = c.args.principal in
    let most : use_count s p ≤ use_count s p = omega arith in
    record {
      size = c.requires.size;
      found = c.requires.found;
      front = front-self c.args.self.now.found;
      next = next-is s p (use_count s p) c.last_use-next.result most c.last_use-next.ensures.exact;
      reached = subst (λ n. AreReached s p n c.args.self.now.flags.items)
          (sym (next-left s p (use_count s p) c.last_use-next.result most c.last_use-next.ensures.exact))
          (reached-none s p c.args.self.now.flags.items);
      within = λ others users is h. h;
      ticks = λ others users is.
          first-ticks s others (use_count s p - uses_left s p c.last_use-next.result) c.args.steps.now
          c.last_use-next.new.steps
          c.last_use-next.ensures.ticks;
    }

pub row_of-row-requires-clause-in_range : goal.row_of-row-requires-clause-in_range
row_of-row-requires-clause-in_range g c =
    let s : SystemEquations = c.args.system.now in
    let p : ℕ = c.args.principal in
    let node : ℕ = c.in-Some.node in
    (use_read s p (rank s p node) node (next_read s p node c.loop-next.next c.loop-next.invariant.next
    c.in-Some.is)).inside

pub use_before-next-requires : goal.use_before-next-requires
use_before-next-requires g c =
    let s : SystemEquations = c.args.system.now in
    let p : ℕ = c.args.principal in
    let node : ℕ = c.in-Some.node in
    (use_read s p (rank s p node) node (next_read s p node c.loop-next.next c.loop-next.invariant.next
    c.in-Some.is)).inside

pub loop-next-smaller : goal.loop-next-smaller
loop-next-smaller g c =
    let s : SystemEquations = c.args.system.now in
    let p : ℕ = c.args.principal in
    let node : ℕ = c.in-Some.node in
    let k : ℕ = rank s p node in
    let read : slice_get (uses_of p (pieces_of s.rows)) k ≡ Some node =
    next_read s p node c.loop-next.next c.loop-next.invariant.next c.in-Some.is in
    let most : k < use_count s p = (use_read s p k node read).most in
    let before : uses_left s p c.loop-next.next ≡ suc k = ap (uses_left s p) c.in-Some.is in
    let after : uses_left s p c.use_before-next.result ≡ k =
    next-left s p k c.use_before-next.result (omega (arith, most)) (c.use_before-next.ensures.exact p k read) in
    omega (arith, before, after)

pub loop-next-preserved : goal.loop-next-preserved
loop-next-preserved g c =
    let s : SystemEquations = c.args.system.now in
    let p : ℕ = c.args.principal in
    let node : ℕ = c.in-Some.node in
    let k : ℕ = rank s p node in
    let row : ℕ = c.row_of-row.result in
    let a : ℕ = c.authorizer.result in
    let mid : List Bool = c.loop-next.self.flags.items in
    let next : List Bool = c.flag.new.self.flags.items in
    let read : slice_get (uses_of p (pieces_of s.rows)) k ≡ Some node =
    next_read s p node c.loop-next.next c.loop-next.invariant.next c.in-Some.is in
    let less : k < use_count s p = (use_read s p k node read).most in
    let most : k ≤ use_count s p = omega (arith, less) in
    let before : c.use_before-next.result ≡ use_before_at (uses_of p (pieces_of s.rows)) k =
    c.use_before-next.ensures.exact p k read in
    let left : uses_left s p c.loop-next.next ≡ suc k = ap (uses_left s p) c.in-Some.is in
    let left_then : uses_left s p c.use_before-next.result ≡ k = next-left s p k c.use_before-next.result most before in
    let inside : a < length mid = omega (arith, c.authorizer.ensures.in_range, c.loop-next.invariant.size) in
    let now : is_affected next a ≡ true =
    subst (λ fs. is_affected fs a ≡ true) (sym c.in-Ok.ensures.flags) (flag-set mid a inside) in
    let kept : IsSubset mid next = subst (IsSubset mid) (sym c.in-Ok.ensures.flags) (flag-kept mid a) in
    let own : a ≡ (row_at s.rows (row_of_node s.rows node)).authorizer = c.authorizer.ensures.exact
    ∙ ap (λ r. (row_at s.rows r).authorizer) c.row_of-row.ensures.exact in
    record {
      size = ap length c.in-Ok.ensures.flags ∙ length-set mid a true ∙ c.loop-next.invariant.size;
      found = c.in-Ok.ensures.found;
      front = front-next c.args.self.now.found c.loop-next.self.found c.flag.new.self.found c.loop-next.invariant.front
          c.in-Ok.ensures.front;
      next = next-is s p k c.use_before-next.result most before;
      reached = subst (λ n. AreReached s p n next) (sym left_then)
          (reached-next s p k node mid next read kept (subst (λ q. is_affected next q ≡ true) own now)
          (subst (λ n. AreReached s p n mid) left c.loop-next.invariant.reached));
      within = λ others users is h.
          let mine : is_affected others a ≡ true =
          own-affected s others p k node row a users is read c.row_of-row.ensures.exact
          c.row_of-row.ensures.in_range c.authorizer.ensures.exact in
          subst (λ fs. IsSubset fs others) (sym c.in-Ok.ensures.flags)
          (among-set mid others a mine (c.loop-next.invariant.within others users is h));
      ticks = λ others users is.
          let mine : is_affected others a ≡ true =
          own-affected s others p k node row a users is read c.row_of-row.ensures.exact
          c.row_of-row.ensures.in_range c.authorizer.ensures.exact in
          let of_row : is_affected others (row_at s.rows row).authorizer ≡ true =
          subst (λ q. is_affected others q ≡ true) c.authorizer.ensures.exact mine in
          use-ticks s others (use_count s p - uses_left s p c.loop-next.next)
          (use_count s p - uses_left s p c.use_before-next.result) (length (row_at s.rows row).formula) c.args.steps.now
          c.loop-next.steps c.row_of-row.new.steps c.use_before-next.new.steps (omega (arith, less, left, left_then))
          (c.loop-next.invariant.ticks others users is)
          (row-nodes others s.rows row c.row_of-row.ensures.in_range of_row) c.row_of-row.ensures.ticks
          c.use_before-next.ensures.ticks;
    }

pub returns-in-Err-clause-ticks : goal.returns-in-Err-clause-ticks
returns-in-Err-clause-ticks g c = λ others users is.
    let s : SystemEquations = c.args.system.now in
    let p : ℕ = c.args.principal in
    let node : ℕ = c.in-Some.node in
    let k : ℕ = rank s p node in
    let row : ℕ = c.row_of-row.result in
    let a : ℕ = c.authorizer.result in
    let read : slice_get (uses_of p (pieces_of s.rows)) k ≡ Some node =
    next_read s p node c.loop-next.next c.loop-next.invariant.next c.in-Some.is in
    let less : k < use_count s p = (use_read s p k node read).most in
    let left : uses_left s p c.loop-next.next ≡ suc k = ap (uses_left s p) c.in-Some.is in
    let mine : is_affected others a ≡ true =
    own-affected s others p k node row a users is read c.row_of-row.ensures.exact c.row_of-row.ensures.in_range
    c.authorizer.ensures.exact in
    let of_row : is_affected others (row_at s.rows row).authorizer ≡ true =
    subst (λ q. is_affected others q ≡ true) c.authorizer.ensures.exact mine in
    ticks-break s others p (use_count s p - uses_left s p c.loop-next.next) (length (row_at s.rows row).formula)
    c.args.steps.now c.loop-next.steps c.row_of-row.new.steps (omega (arith, less, left))
    (c.loop-next.invariant.ticks others users is)
    (row-nodes others s.rows row c.row_of-row.ensures.in_range of_row) c.row_of-row.ensures.ticks

pub returns-clause-users : goal.returns-clause-users
returns-clause-users g c =
    let s : SystemEquations = c.args.system.now in
    let p : ℕ = c.args.principal in
    let left : uses_left s p c.loop-next.next ≡ 0 =
    ap (uses_left s p) (none_of c.loop-next.next c.in_default.not-Some) in
    reached-all s p c.loop-next.self.flags.items
    (subst (λ n. AreReached s p n c.loop-next.self.flags.items) left c.loop-next.invariant.reached)

pub returns-clause-ticks : goal.returns-clause-ticks
returns-clause-ticks g c = λ others users is.
    let s : SystemEquations = c.args.system.now in
    let p : ℕ = c.args.principal in
    ticks-within s others p (use_count s p - uses_left s p c.loop-next.next) c.args.steps.now c.loop-next.steps
    (omega arith) (c.loop-next.invariant.ticks others users is)
