use Rattle.kn_load.proofs.Loaded.{loaded_nothing}
use Rattle.kn_load.proofs.load.load_file.Goals as goal

pub add_file-requires-clause-none : goal.add_file-requires-clause-none
add_file-requires-clause-none g c κs within =
    loaded_nothing c.in_ok-registry.registry c.in_ok-registry.root c.in_ok-registry.ensures.root
    c.in_ok-registry.ensures.ready
