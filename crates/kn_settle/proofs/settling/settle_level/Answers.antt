use Rattle.std.proofs.Common.{◌≡◌, ◌<◌, ℕ, List, length, slice_get, sym, ap, ◌∙◌, arith}
use Rattle.kn_system.specs.Equations.{SystemEquations, row_at}
use Rattle.kn_settle.specs.Counters.{IsReady, bucket_at}
use Rattle.kn_settle.proofs.BucketSettling.{ArePassed, all-passed, bucket-read, counting-down, counting-now}
use Rattle.kn_settle.proofs.BucketSettling.{passed-further}
use Rattle.kn_settle.proofs.BucketSettling.{passed-on, still-within}
use Rattle.kn_settle.proofs.MarkedRows.{none-left, waiting-grants}
use Rattle.kn_settle.proofs.settling.settle_level.Goals as goal

pub next_row-requires-clause-named : goal.next_row-requires-clause-named
next_row-requires-clause-named g c = λ i r e.
    let s : SystemEquations = c.args.system.now in
    let buckets : List (List ℕ) = c.loop-row.counters.buckets.items in
    let read : c.index.result.now ≡ bucket_at buckets c.args.value =
    bucket-read buckets c.args.value c.index.result.now
    (omega (arith, c.requires.level, c.loop-row.invariant.levels)) c.index.ensures in
    let (marks, now) = counting-now s c.args.value c.args.levels.now.values.items c.args.counters.now.counts.items
    c.args.counters.now.buckets.items c.args.steps.now c.loop-row.levels.values.items
    c.loop-row.counters.counts.items buckets c.loop-row.steps
    c.requires.settled.size c.requires.counting c.loop-row.invariant.continues in
    let ready : IsReady s marks c.args.value r = now.waits.good c.args.value i r (ap (λ b. slice_get b i) (sym read)
    ∙ e) in
    ready.named

pub grant-requires-clause-granted : goal.grant-requires-clause-granted
grant-requires-clause-granted g c =
    let s : SystemEquations = c.args.system.now in
    let buckets : List (List ℕ) = c.loop-row.counters.buckets.items in
    let read : c.index.result.now ≡ bucket_at buckets c.args.value =
    bucket-read buckets c.args.value c.index.result.now
    (omega (arith, c.requires.level, c.loop-row.invariant.levels)) c.index.ensures in
    let (marks, now) = counting-now s c.args.value c.args.levels.now.values.items c.args.counters.now.counts.items
    c.args.counters.now.buckets.items c.args.steps.now c.loop-row.levels.values.items
    c.loop-row.counters.counts.items buckets c.loop-row.steps
    c.requires.settled.size c.requires.counting c.loop-row.invariant.continues in
    let (i, e) = c.in-Some.ensures.found in
    waiting-grants s c.args.value c.loop-row.levels.values.items marks c.loop-row.counters.counts.items buckets i
    c.in-Some.row c.requires.well_formed c.requires.above_lowest c.requires.level c.loop-row.invariant.settled.above
    now
    (ap (λ b. slice_get b i) (sym read) ∙ e) c.in-Some.ensures.fresh

pub loop-row-preserved : goal.loop-row-preserved
loop-row-preserved g c =
    let s : SystemEquations = c.args.system.now in
    let v : ℕ = c.args.value in
    let was : List (List ℕ) = c.loop-row.counters.buckets.items in
    let is : List (List ℕ) = c.grant.new.counters.buckets.items in
    let read : c.index.result.now ≡ bucket_at was v =
    bucket-read was v c.index.result.now (omega (arith, c.requires.level, c.loop-row.invariant.levels))
    c.index.ensures in
    let inside : c.next_row.new.at < length (bucket_at was v) = omega (arith, c.in-Some.ensures.none, ap length read) in
    let further : ArePassed s c.loop-row.levels.values.items (bucket_at was v) c.next_row.new.at =
    passed-further s c.loop-row.levels.values.items c.index.result.now (bucket_at was v) c.loop-row.at
    c.next_row.new.at read c.loop-row.invariant.passed c.in-Some.ensures.passed in
    record {
      settled = c.in_ok-grant.ensures.settled;
      one_each = c.in_ok-grant.ensures.one_each ∙ c.loop-row.invariant.one_each;
      counts = c.in_ok-grant.ensures.counts ∙ c.loop-row.invariant.counts;
      nodes = c.in_ok-grant.ensures.counts ∙ c.loop-row.invariant.nodes;
      buckets = c.in_ok-grant.ensures.buckets ∙ c.loop-row.invariant.buckets;
      levels = c.in_ok-grant.ensures.buckets ∙ c.loop-row.invariant.levels;
      reached = λ h. c.in_ok-grant.ensures.reached (c.loop-row.invariant.reached h);
      counted = λ h. c.in_ok-grant.ensures.counted (c.loop-row.invariant.counted h);
      within = still-within v c.next_row.new.at was is c.in_ok-grant.ensures.longer inside;
      passed = passed-on s v (row_at s.rows c.in-Some.row).authorizer c.next_row.new.at c.loop-row.levels.values.items
          c.grant.new.levels.values.items was is c.requires.above_lowest c.in_ok-grant.ensures.levels
          c.in_ok-grant.ensures.longer (omega (arith, inside)) further;
      continues = λ start marks counting used.
          let (after, used_now, now) = c.loop-row.invariant.continues start marks counting used in
          c.in_ok-grant.ensures.grants start after now used_now;
    }

pub returns-clause-settled : goal.returns-clause-settled
returns-clause-settled g c =
    let s : SystemEquations = c.args.system.now in
    let v : ℕ = c.args.value in
    let buckets : List (List ℕ) = c.loop-row.counters.buckets.items in
    let read : c.index.result.now ≡ bucket_at buckets v =
    bucket-read buckets v c.index.result.now (omega (arith, c.requires.level, c.loop-row.invariant.levels))
    c.index.ensures in
    let further : ArePassed s c.loop-row.levels.values.items (bucket_at buckets v) c.next_row.new.at =
    passed-further s c.loop-row.levels.values.items c.index.result.now (bucket_at buckets v) c.loop-row.at
    c.next_row.new.at read c.loop-row.invariant.passed c.in_default.ensures.passed in
    let (marks, now) =
    counting-now s v c.args.levels.now.values.items c.args.counters.now.counts.items
    c.args.counters.now.buckets.items c.args.steps.now c.loop-row.levels.values.items
    c.loop-row.counters.counts.items buckets c.loop-row.steps
    c.requires.settled.size c.requires.counting c.loop-row.invariant.continues in
    c.settling_goes_down.ensures s v c.loop-row.levels.values.items c.loop-row.rows c.loop-row.invariant.settled
    (none-left s v c.loop-row.levels.values.items marks c.loop-row.counters.counts.items buckets c.requires.well_formed
    c.requires.above_lowest c.requires.level c.loop-row.invariant.settled.above now
    (all-passed s c.loop-row.levels.values.items (bucket_at buckets v) c.next_row.new.at (c.in_default.ensures.none
    ∙ ap length read) further))

pub returns-clause-counting : goal.returns-clause-counting
returns-clause-counting g c = λ start marks counting used.
    let s : SystemEquations = c.args.system.now in
    let v : ℕ = c.args.value in
    let buckets : List (List ℕ) = c.loop-row.counters.buckets.items in
    let read : c.index.result.now ≡ bucket_at buckets v =
    bucket-read buckets v c.index.result.now (omega (arith, c.requires.level, c.loop-row.invariant.levels))
    c.index.ensures in
    let further : ArePassed s c.loop-row.levels.values.items (bucket_at buckets v) c.next_row.new.at =
    passed-further s c.loop-row.levels.values.items c.index.result.now (bucket_at buckets v) c.loop-row.at
    c.next_row.new.at read c.loop-row.invariant.passed c.in_default.ensures.passed in
    let (after, used_now, now) = c.loop-row.invariant.continues start marks counting used in (
      after,
      used_now,
      counting-down s v c.loop-row.levels.values.items after c.loop-row.counters.counts.items buckets now
          (all-passed s c.loop-row.levels.values.items (bucket_at buckets v) c.next_row.new.at
          (c.in_default.ensures.none ∙ ap length read) further),
    )
