-- Texts that are judged before they are added (keynoted's own). A daemon is known by the number that its authenticator
-- gives a text and its reading.
use Rattle.std.specs.Prelude.{ℕ, ◌≡◌, ◌⊎◌, List, Option, None}
use Rattle.kn_trees.specs.declared.assertion.Assertion.{Assertion}
use Rattle.kn_wire.specs.Items.{BatchItem}
use Rattle.kn_reply.specs.declared.refusal.Refusal.{Refusal}
use Rattle.kn_reply.specs.declared.refusal.ItemRefusal.{ItemRefusal}
use Rattle.kn_daemon.specs.Daemon.{DaemonConfig, item_refusal, refusal_from}

-- the item is admitted
abbrev pub Admits : (List ℕ → Assertion → ℕ) → BatchItem → Type 0
Admits verdict item = (g : DaemonConfig) → g.verdict ≡ verdict → item_refusal g item ≡ None

-- the item is refused so, or without a refusal memory ran out
abbrev pub RefusesItem : (List ℕ → Assertion → ℕ) → BatchItem → Option ItemRefusal → Type 0
RefusesItem verdict item refusal =
    (refusal ≡ None) ⊎ ((g : DaemonConfig) → g.verdict ≡ verdict → item_refusal g item ≡ refusal)

-- each of the items is admitted
abbrev pub AdmitsAll : (List ℕ → Assertion → ℕ) → List BatchItem → Type 0
AdmitsAll verdict items = (g : DaemonConfig) → g.verdict ≡ verdict → refusal_from g 1 items ≡ None

-- one of them isn't, and the first such one is refused so; or without a refusal memory ran out
abbrev pub RefusesOneItem : (List ℕ → Assertion → ℕ) → List BatchItem → Option Refusal → Type 0
RefusesOneItem verdict items refusal =
    (refusal ≡ None) ⊎ ((g : DaemonConfig) → g.verdict ≡ verdict → refusal_from g 1 items ≡ refusal)
