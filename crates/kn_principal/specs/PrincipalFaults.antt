-- The numbers of the faults of principals, which are keynoted's own.
use Rattle.std.specs.Prelude.{ℕ, Option, Some, None}
use Rattle.kn_principal.specs.declared.principal.PrincipalFault.{PrincipalFault}
use Rattle.kn_principal.specs.declared.principal.PrincipalFault.TheVariants.{Empty, TooLong, NoMemory}

-- the number of a fault
abbrev pub principal_fault_number : PrincipalFault → Option ℕ
principal_fault_number Empty = Some 1
principal_fault_number (TooLong len) = Some 2
principal_fault_number NoMemory = None
