-- The numbers of the faults of authenticators, which are keynoted's own.
use Rattle.std.specs.Prelude.{ℕ, Result, Ok, Err}
use Rattle.kn_auth.specs.declared.fault.AuthFault.{AuthFault}
use Rattle.kn_auth.specs.declared.fault.AuthFault.TheVariants.{Unsigned, Algorithm, Key, Mac, NotListed}

-- the number of a fault
abbrev pub number_of : AuthFault → ℕ
number_of Unsigned = 1
number_of Algorithm = 2
number_of Key = 3
number_of Mac = 4
number_of NotListed = 5

-- the number of an answer: 0 where there is no fault
abbrev pub answer_number : {X : Type 0} → Result X AuthFault → ℕ
answer_number (Ok x) = 0
answer_number (Err fault) = number_of fault
