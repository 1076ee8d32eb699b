-- The numbers of the faults of a text, and the places that are given with them (keynoted's own).
use Rattle.std.specs.Prelude.{ℕ, Option, Some, None, option_map}
use Rattle.std.specs.Option.{option_map_or}
use Rattle.kn_fields.specs.declared.fault.ReadFault.{ReadFault}
use Rattle.kn_fields.specs.declared.fault.ReadFault.TheVariants.{NotText, BadString, BadToken, Float, Regex, Number}
use Rattle.kn_fields.specs.declared.fault.ReadFault.TheVariants.{Blank, TooLong, BadField, FieldTwice, FieldOrder}
use Rattle.kn_fields.specs.declared.fault.ReadFault.TheVariants.{NoAuthorizer, Version, Constant, TooDeep, Syntax, Kind}
use Rattle.kn_fields.specs.declared.fault.ReadFault.TheVariants.{Threshold, Name, NoMemory}

-- the number of a fault, and the place that is given with it
abbrev pub fault_code : ReadFault → Option (ℕ × ℕ)
fault_code (NotText at) = Some (1, at)
fault_code (BadString at) = Some (2, at)
fault_code (BadToken at) = Some (3, at)
fault_code (Float at) = Some (4, at)
fault_code (Regex at) = Some (5, at)
fault_code (Number at) = Some (6, at)
fault_code (Blank at) = Some (7, at)
fault_code (TooLong len) = Some (8, len)
fault_code (BadField at) = Some (9, at)
fault_code (FieldTwice at) = Some (10, at)
fault_code (FieldOrder at) = Some (11, at)
fault_code NoAuthorizer = Some (12, 0)
fault_code (Version at) = Some (13, at)
fault_code (Constant at) = Some (14, at)
fault_code (TooDeep field) = Some (15, field)
fault_code (Syntax field) = Some (16, field)
fault_code (Kind field) = Some (17, field)
fault_code (Threshold field) = Some (18, field)
fault_code (Name field) = Some (19, field)
fault_code NoMemory = None

abbrev pub fault_number : ReadFault → Option ℕ
fault_number fault = option_map (λ code. code.0) (fault_code fault)

abbrev pub fault_place : ReadFault → ℕ
fault_place fault = option_map_or (λ code. code.1) (fault_code fault) 0
