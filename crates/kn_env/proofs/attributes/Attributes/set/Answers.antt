use Rattle.std.proofs.Common.{sym, ◌∙◌}
use Rattle.kn_env.proofs.AttributeMaps.{room_for_new}
use Rattle.kn_env.proofs.attributes.Attributes.set.Goals as goal

pub enter-requires : goal.enter-requires
enter-requires c =
    record {
      room = room_for_new c.args.name.now c.args.value.now c.args.self.now (sym c.fault.ensures
          ∙ c.in_default.is);
    }
