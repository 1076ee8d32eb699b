-- Why `serve` ends.
use Rattle.std.proofs.Common.{ℕ, List, [], ◌∷◌}
use Rattle.std.specs.Prelude.{option_to_list}
use Rattle.kn_outside.specs.Seen.{FilesSeen, LinkSeen}
use Rattle.kn_outside.specs.Asked.{HasAsked}
use Rattle.kn_files.specs.Pieces.{pieces_of}
use Rattle.kn_auth.specs.declared.key_file.KeyFile.{KeyFile}
use Rattle.kn_history.specs.History.{loaded_history}
use Rattle.kn_inputs.specs.Held.{IsPolicy, AreKeys}
use Rattle.kn_inputs.specs.Inputs.{config_of_keys}
use Rattle.kn_inputs.proofs.Files.{asked_both}
use Rattle.kn_inputs.proofs.Stopped.{keys_there}
use Rattle.kn_words.specs.Orders.{Order}
use Rattle.kn_workers.specs.declared.address.AddressEnding.{AddressEnding}
use Rattle.kn_workers.specs.Addresses.{ServesOver}
use Rattle.kn_workers.specs.Connections.{ServedSeen}
use Rattle.kn_workers.specs.Doors.{DoorSeen}
use Rattle.kn_workers.specs.Nets.{NetSeen}
use Rattle.keynoted.specs.declared.serve_ending.ServeEnding.TheVariants.{Ended}
use Rattle.keynoted.specs.Serving.{ServeCause, binding_of}

-- what serving an address came to over files that were read behind one that was read
module _ {C R : Type 0} (door : R → DoorSeen (ServedSeen C)) (link : C → LinkSeen) (f mid f' : FilesSeen)
    (n n' : NetSeen R) (order : Order) (bytes : List ℕ) (keys : KeyFile) (policy : IsPolicy f order.files.policy bytes)
    (before : HasAsked (order.files.policy ∷ []) f mid) (asked : HasAsked (option_to_list order.files.keys) mid f')
    (known : AreKeys mid order.files.keys keys) where
  pub served_there : (ending : AddressEnding)
      → ServesOver door link (config_of_keys keys) (loaded_history (pieces_of bytes)) n n' (binding_of order) ending
      → ServeCause door link f f' n n' order (Ended ending)
  served_there ending serves = record {
    asked = asked_both (order.files.policy ∷ []) (option_to_list order.files.keys) f mid f' before asked;
    bytes = bytes;
    policy = policy;
    keys = keys;
    known = keys_there (order.files.policy ∷ []) f mid order.files.keys keys before known;
    runs = serves;
  }
