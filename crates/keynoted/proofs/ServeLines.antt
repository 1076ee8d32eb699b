-- The line of a service, printed in parts.
use Rattle.std.proofs.Common.{◌≡◌, ℕ, List, [], ◌++◌, append_assoc}
use Rattle.std.specs.Prelude.{codes, decimal}
use Rattle.keynoted.specs.ServeEndings.{served_line}

pub served_parts : (a b : List ℕ) (finished version : ℕ) → a ≡ decimal finished → b ≡ decimal version →
    codes "served " ++ (a ++ (codes " version " ++ (b ++ (codes "\n" ++ [])))) ≡ served_line finished version
unfolding served_line
served_parts a b finished version first second = rw (first, second) (simp append_assoc)
