use Rattle.std.proofs.Common.{◌≡◌, ◌<◌, ◌++◌, drop, length}
use Rattle.std.specs.Prelude.{slice_get}
use Rattle.kn_pages.specs.Pages.{joined, pages_of}
use Rattle.kn_pages.proofs.pages.item_at.Given as goal

abbrev pub invariant-loop-page : goal.invariant-loop-page
invariant-loop-page g l = record {
  within : l.left < length (joined (pages_of (drop l.page-index l.closed)) ++ l.last);
  same : slice_get (joined (pages_of l.closed) ++ l.last) l.i
      ≡ slice_get (joined (pages_of (drop l.page-index l.closed)) ++ l.last) l.left;
}
