use Rattle.std.proofs.Common.{◌≤◌, length, arith}
use Rattle.kn_query.specs.SharedBases.{IsOfHistory}
use Rattle.kn_query.proofs.KeptBaseLaws.{kept-has}
use Rattle.kn_query.proofs.kept_bases.KeptBases.take_or_build.Goals as goal

pub follow-requires : goal.follow-requires
follow-requires c =
    let taken = c.in-Some.ensures.taken in
    let low = taken.1 in
    let later : c.in-Some.shared.number ≤ length c.args.version.now = omega (arith, low, c.number.ensures.number) in
    record {
      later = later;
      of_earlier = kept-has (IsOfHistory c.args.version.now) c.args.self.now c.in-Some.shared c.requires.of_history
          taken.0 later;
    }
