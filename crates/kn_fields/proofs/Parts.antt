-- Where a field stands among the tokens.
use Rattle.std.proofs.Common.{◌≡◌, ℕ, ◌+◌, ◌≤◌, Bool, false, not, List, length, drop, arith}
use Rattle.std.specs.Prelude.{take_while}
use Rattle.std.specs.List.{prefix_len}
use Rattle.kn_lex.specs.Cutting.{TokenView}
use Rattle.kn_fields.specs.Fields.{is_label, between}
use Rattle.kn_fields.specs.Faults.{is_version}
use Rattle.kn_fields.proofs.Between.{steps, between_length}

-- what isn't a label names no field
abbrev pub goes_on : TokenView → Bool
goes_on token = not (is_label token)

-- up to the next label go the tokens of a field
pub own_tokens : (xs : List TokenView) (from end : ℕ) → end ≡ from + prefix_len goes_on (drop from xs)
    → take_while goes_on (drop from xs) ≡ between from end xs
unfolding between
own_tokens xs from end last = grind arith

-- a list of another length than one is no version
pub no_version : (xs : List TokenView) (from to : ℕ) → from ≤ to → to ≤ length xs → (to ≡ from + 1 → ⊥)
    → false ≡ is_version (between from to xs)
no_version xs from to le within other = grind (arith, between_length xs from to le within)

pub ruleset version_steps = (steps, no_version)
