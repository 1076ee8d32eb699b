-- Which queries are too large for a search of their critical assertions (keynoted's own).
use Rattle.std.specs.Prelude.{ℕ, nat_lt, Option, Some, None, if◌then◌else◌}
use Rattle.kn_base.specs.declared.limits.TheConstants.{CRITICAL_NODES}
use Rattle.kn_critical.specs.declared.fault.CriticalFault.{CriticalFault}
use Rattle.kn_critical.specs.declared.fault.CriticalFault.TheVariants as F

-- the fault of a query whose formulas have so many nodes together
abbrev pub critical_fault : ℕ → Option CriticalFault
critical_fault nodes = if nat_lt CRITICAL_NODES nodes then Some (F.Large nodes) else None
