-- Loading texts that make a history.
use Rattle.std.proofs.Common.{◌≡◌, ℕ, List, refl, ap, ◌∙◌, sym, subst}
use Rattle.atomic_table.specs.Seated.{TableId}
use Rattle.kn_history.specs.History.{loaded_history}
use Rattle.kn_history.specs.Loading.{IsLoadable}
use Rattle.kn_history.specs.Laws.{LoadingEndsOnce}
use Rattle.kn_registry.specs.Passes.{PassSeen, IsSoundPass, Looks}
use Rattle.kn_load.specs.Loaded.{IsLoaded, StopsLoading}
use Rattle.kn_load.specs.declared.fault.LoadFault.{LoadFault}
use Rattle.kn_load.specs.declared.fault.LoadFault.TheVariants.{Faulty, Full, NoMemory}
use Rattle.kn_load.proofs.Alone.{looks_alone}

-- what the root then looks at is the history that adds them
pub looks_loaded : (registry : TableId) (v w : PassSeen) (texts others : List (List ℕ)) → IsLoaded texts registry v
    → texts ≡ others → IsSoundPass w → Looks v w → w.seen ≡ loaded_history others
looks_loaded registry v w texts others loaded same sound looks =
    looks_alone v w loaded.root.number loaded.root.unsplit sound looks ∙ loaded.seen ∙ ap loaded_history same
