-- What a contract sees of an entry of the map in which attributes are kept.
use Rattle.std.specs.Prelude.{ℕ, Vec}
use Rattle.std.specs.declared.alloc.Global.{Global}
use Rattle.kn_env.specs.Attributes.{Attribute}

abbrev pub attribute_of : Vec ℕ Global × Vec ℕ Global → Attribute
attribute_of entry = record { name = entry.0.items; value = entry.1.items }
