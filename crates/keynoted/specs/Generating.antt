-- How `gen` ends with its words read (keynoted's own).
use Rattle.std.specs.Prelude.{ℕ, List, codes, ◌⊎◌}
use Rattle.kn_outside.specs.Seen.{LinkSeen}
use Rattle.kn_commands.specs.Generating.{IsGenLine}
use Rattle.kn_words.specs.declared.gen_words.GenNumbers.{GenNumbers}
use Rattle.keynoted.specs.Outcomes.{IsPrintedOrCut}

-- the line of these numbers was due with status 0, or memory ran out
abbrev pub IsGenPrinted : GenNumbers → LinkSeen → LinkSeen → ℕ → Type 0
IsGenPrinted numbers s s' status =
    ((line : List ℕ) × IsGenLine numbers line × IsPrintedOrCut line 0 s s' status)
    ⊎ IsPrintedOrCut (codes "error memory\n") 5 s s' status
