-- What a contract sees of an entry of the map in which keys are kept.
use Rattle.std.specs.Prelude.{ℕ, List, Vec}
use Rattle.std.specs.declared.alloc.Global.{Global}
use Rattle.kn_auth.specs.declared.entry.MacKey.{MacKey}

abbrev pub mac_key_of : Vec ℕ Global × List ℕ → MacKey
mac_key_of entry = record { principal = entry.0.items; key = entry.1 }
