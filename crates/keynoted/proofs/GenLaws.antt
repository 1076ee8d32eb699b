-- What `gen` prints.
use Rattle.std.proofs.Common.{◌≡◌, ◌<◌, ℕ, inl, inr, List, [], length, get_or, refl, Some, None}
use Rattle.std.specs.Prelude.{slice_get}
use Rattle.std.proofs.lemmas.Option.{slice_get-get_or}
use Rattle.kn_generate.specs.declared.query.Measured.{Measured}
use Rattle.kn_generate.specs.Generated.{generated_query, generated_values}
use Rattle.kn_generate.specs.Measured.{IsMeasured}
use Rattle.kn_outside.specs.Seen.{LinkSeen}
use Rattle.kn_endings.specs.GenLine.{gen_line}
use Rattle.kn_words.specs.declared.gen_words.GenNumbers.{GenNumbers}
use Rattle.kn_workers.specs.Connections.{ServedSeen}
use Rattle.kn_workers.specs.Doors.{DoorSeen}
use Rattle.kn_words.specs.Commands.{GenFor}
use Rattle.keynoted.specs.Outcomes.{OutsideSeen, IsUntouched, IsPrintedOrCut, IsEnded, GenEnded}
use Rattle.keynoted.specs.Generating.{IsGenPrinted}

-- the line of what was measured was due
pub gen_printed : (numbers : GenNumbers) (m : Measured) (s s' : LinkSeen) (status : ℕ)
    → IsMeasured (generated_query numbers.start numbers.count) m → m.level < length generated_values
    → ((name : List ℕ) → slice_get generated_values m.level ≡ Some name
    → IsPrintedOrCut (gen_line numbers.count name m) 0 s s' status) → IsGenPrinted numbers s s' status
gen_printed numbers m s s' status is low printed =
    let name = get_or generated_values m.level [] in
    let named : slice_get generated_values m.level ≡ Some name = slice_get-get_or generated_values m.level [] low in
    inl (
      gen_line numbers.count name m,
      record { measured = m; is_measured = is; name = name; named = named; exact = refl },
      printed name named,
    )

-- how a run ends where `gen` ends so
pub gen_ended : {C R : Type 0} (door : R → DoorSeen (ServedSeen C)) (link : C → LinkSeen) (given : List (List ℕ))
    (before after : OutsideSeen R) (numbers : GenNumbers) (status : ℕ) → GenFor given numbers → IsUntouched before after
    → IsGenPrinted numbers before.output after.output status → IsEnded door link given before after status
gen_ended door link given before after numbers status words same (inl (line, made, printed)) =
    record { outcome = GenEnded numbers (Some line); cause = (words, made, same); printed = printed }
gen_ended door link given before after numbers status words same (inr printed) =
    record { outcome = GenEnded numbers None; cause = (words, tt, same); printed = printed }
