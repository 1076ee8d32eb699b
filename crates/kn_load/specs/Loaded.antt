-- What loading has made of texts, and what stops it (keynoted's own).
use Rattle.std.specs.Prelude.{ℕ, ◌≡◌, List}
use Rattle.atomic_table.specs.Seated.{TableId}
use Rattle.kn_history.specs.declared.fault.StoreFault.{StoreFault}
use Rattle.kn_history.specs.declared.fault.StoreFault.TheVariants as S
use Rattle.kn_history.specs.History.{loaded_history}
use Rattle.kn_history.specs.Loading.{IsLoadable, IsFaultyAt, IsFullAt}
use Rattle.kn_registry.specs.Passes.{PassSeen, IsReady}
use Rattle.kn_load.specs.declared.fault.LoadFault.{LoadFault}
use Rattle.kn_load.specs.declared.fault.LoadFault.TheVariants.{Faulty, Full, NoMemory}

-- the root pass of a registry, from which no pass was split
pub record IsUnsplitRoot (registry : TableId) (root : PassSeen) : Type 0 where
  pub ready : IsReady registry root
  pub number : root.number ≡ 0
  pub unsplit : root.splits ≡ 0

-- the texts make a history, and the root of a registry has seen it
pub record IsLoaded (texts : List (List ℕ)) (registry : TableId) (pass : PassSeen) : Type 0 where
  pub loadable : IsLoadable texts
  pub root : IsUnsplitRoot registry pass
  pub seen : pass.seen ≡ loaded_history texts

-- why loading these texts stops
abbrev pub StopsLoading : List (List ℕ) → LoadFault → Type 0
StopsLoading texts (Faulty n fault) = IsFaultyAt texts n fault
StopsLoading texts (Full n refusal) = IsFullAt texts n refusal
StopsLoading texts NoMemory = Unit {0}

-- what stops loading at the n-th text, which is refused for this
abbrev pub refused_at : ℕ → StoreFault → LoadFault
refused_at n S.NoMemory = NoMemory
refused_at n refusal = Full n refusal
