-- A text that is gathered into few writes.
use Rattle.std.specs.Prelude.{ℕ, ◌≡◌, Bool, true, false, List, ◌++◌}
use Rattle.kn_outside.specs.Seen.{LinkSeen}
use Rattle.kn_outside.specs.Printing.{Prints}
use Rattle.kn_reply.specs.declared.printer.Printer.{Printer}

-- since the sink was seen first, this text was put: what isn't pending of it was written; or a write failed, and a
-- front of it was written, and not all
abbrev pub GatheredBy : Bool → List ℕ → List ℕ → LinkSeen → LinkSeen → Type 0
GatheredBy false pending text first seen =
    (written : List ℕ) × (text ≡ written ++ pending) × Prints true written first seen
GatheredBy true pending text first seen = Prints false text first seen

unfoldable pub Gathered : {n : ℕ} → List ℕ → LinkSeen → Printer n → LinkSeen → Type 0
Gathered text first printer seen = GatheredBy printer.failed printer.pending.items text first seen

-- these bytes were put behind what was put before
abbrev pub Puts : {n : ℕ} → List ℕ → Printer n → LinkSeen → Printer n → LinkSeen → Type 0
Puts bytes old old_seen new new_seen =
    (text : List ℕ) (first : LinkSeen) → Gathered text first old old_seen → Gathered (text ++ bytes) first new new_seen
