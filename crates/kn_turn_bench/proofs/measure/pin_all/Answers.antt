use Rattle.kn_turn_bench.proofs.Crossing.{crossing}
use Rattle.kn_turn_bench.proofs.measure.pin_all.Goals as goal

pub for_each_mut-requires-send-T : goal.for_each_mut-requires-send-T
for_each_mut-requires-send-T g c = λ κs within. search crossing depth 20

pub for_each_mut-requires-sync-F : goal.for_each_mut-requires-sync-F
for_each_mut-requires-sync-F g c = λ κs within. search crossing depth 20
