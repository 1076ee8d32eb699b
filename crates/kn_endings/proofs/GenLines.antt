-- The line of `gen`, printed in parts.
use Rattle.std.proofs.Common.{◌≡◌, ℕ, List, [], ◌++◌, append_assoc}
use Rattle.std.specs.Prelude.{codes, decimal}
use Rattle.kn_generate.specs.declared.query.Measured.{Measured}
use Rattle.kn_endings.specs.GenLine.{gen_line}

-- the parts, one after the other
abbrev pub gen_parts : List ℕ → List ℕ → List ℕ → List ℕ → List ℕ → List ℕ → List ℕ → List ℕ → List ℕ
gen_parts level name version rows principals nodes uses levels =
    codes "GEN " ++ (level
    ++ (codes " " ++ (name
    ++ (codes " " ++ (version
    ++ (codes " " ++ (rows
    ++ (codes " " ++ (principals
    ++ (codes " " ++ (nodes ++ (codes " " ++ (uses ++ (codes " " ++ (levels ++ (codes "\n" ++ []))))))))))))))))

pub gen_told : (l w v r p n u k : List ℕ) (count : ℕ) (name : List ℕ) (m : Measured) → l ≡ decimal m.level → w ≡ name
    → v ≡ decimal count → r ≡ decimal m.rows → p ≡ decimal m.principals → n ≡ decimal m.nodes
    → u ≡ decimal m.uses → k ≡ decimal m.levels → gen_parts l w v r p n u k ≡ gen_line count name m
unfolding gen_line
gen_told l w v r p n u k count name m a b c d e f g h = rw (a, b, c, d, e, f, g, h) (simp append_assoc)
