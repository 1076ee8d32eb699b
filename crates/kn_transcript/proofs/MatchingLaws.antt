-- The text of a reply at the front of bytes.
use Rattle.std.proofs.Common.{◌≡◌, ◌≢◌, ℕ, true, List, [], ◌++◌, Option, Some, None, option_map, sym, ap, ◌∙◌}
use Rattle.std.specs.Prelude.{MatchOption, Bool, false}
use Rattle.std.proofs.lemmas.Option.{same_Some}
use Rattle.kn_outside.specs.Seen.{LinkSeen}
use Rattle.kn_outside.specs.Printing.{Prints}
use Rattle.kn_outside.specs.InMemory.{SinkInMemory}
use Rattle.kn_transcript.specs.Judging.{IsBehind}

-- what is seen of a sink in memory
abbrev sink_seen : SinkInMemory → LinkSeen
sink_seen s = record { written = Some s.written; taken = None; left = None; faults = s.faults }

-- what is behind a text that was written
pub behind_written : {X : Type 0} (view : X → List ℕ) (left text written : List ℕ) (found : Option X) → written ≡ text
    → MatchOption found ((rest : List ℕ) → left ≢ written ++ rest) (λ rest. left ≡ written ++ view rest)
    → IsBehind left text (option_map view found)
behind_written view left text written None same none =
    λ rest e. none rest (e ∙ ap (λ (x : List ℕ). x ++ rest) (sym same))
behind_written view left text written (Some rest) same cut = cut ∙ ap (λ (x : List ℕ). x ++ view rest) same

-- a text that was written whole to an empty sink is what that holds
pub written_whole : (whole : Bool) (text : List ℕ) (a b : SinkInMemory) → whole ≡ true
    → Prints whole text (sink_seen a) (sink_seen b)
    → a.written ≡ [] → b.written ≡ text
written_whole true text a b is prints empty =
    let wrote : Some b.written ≡ Some (a.written ++ text) = ap (λ (l : LinkSeen). l.written) prints.writes in
    same_Some b.written (a.written ++ text) wrote ∙ ap (λ (l : List ℕ). l ++ text) empty
written_whole false text a b is prints empty = absurd (cc is)
