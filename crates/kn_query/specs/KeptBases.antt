-- The bases that are kept from one query to the next (keynoted's own).
use Rattle.std.specs.Prelude.{◌≡◌, ◌⊎◌, List, Some, IfSome}
use Rattle.kn_history.specs.declared.update.Update.{Update}
use Rattle.kn_query.specs.declared.kept_bases.KeptBases.{KeptBases}
use Rattle.kn_query.specs.declared.shared_base.SharedBase.{SharedBase}
use Rattle.kn_query.specs.SharedBases.{IsOfVersion}

-- this holds of each base that is kept
abbrev pub EachKept : (SharedBase → Type 0) → KeptBases → Type 0
EachKept P kept = IfSome kept.recent P × IfSome kept.other P

abbrev pub IsKeptIn : KeptBases → SharedBase → Type 0
IsKeptIn kept shared = (kept.recent ≡ Some shared) ⊎ (kept.other ≡ Some shared)

-- a base that was kept before, or one of this version
abbrev pub IsKeptOrOf : List Update → KeptBases → SharedBase → Type 0
IsKeptOrOf version kept shared = IsKeptIn kept shared ⊎ IsOfVersion version shared
