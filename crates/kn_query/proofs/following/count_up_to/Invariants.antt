use Rattle.std.proofs.Common.{◌≡◌, ◌≤◌, List, ◌++◌, length}
use Rattle.kn_history.specs.History.{NumberedText, credentials_of}
use Rattle.kn_query.specs.Following.{AreAbove, AreUpTo}
use Rattle.kn_query.proofs.following.count_up_to.Given as goal

abbrev pub invariant-loop-count : goal.invariant-loop-count
invariant-loop-count l = record {
  in_range : l.count ≤ length (credentials_of l.version);
  enough : (earlier later : List NumberedText) → credentials_of l.version ≡ earlier ++ later → AreUpTo l.last earlier
      → AreAbove l.last later → length earlier ≤ l.count;
}

abbrev pub decreases-loop-count : goal.decreases-loop-count
decreases-loop-count l = l.count
