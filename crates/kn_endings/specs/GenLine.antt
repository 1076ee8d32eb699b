-- The line of `gen` (keynoted's own).
use Rattle.std.specs.Prelude.{ℕ, List, ◌++◌, codes, decimal}
use Rattle.kn_generate.specs.declared.query.Measured.{Measured}

-- the line of so many credentials: the policy's level, its name, the version, how many are granted more than the
-- lowest, and how large the system is
unfoldable pub gen_line : ℕ → List ℕ → Measured → List ℕ
gen_line count name m =
    codes "GEN " ++ decimal m.level ++ codes " " ++ name ++ codes " " ++ decimal count ++ codes " " ++ decimal m.rows
    ++ codes " " ++ decimal m.principals
    ++ codes " " ++ decimal m.nodes ++ codes " " ++ decimal m.uses ++ codes " " ++ decimal m.levels ++ codes "\n"
