-- A run that ended so is as specified.
use Rattle.std.proofs.Common.{ℕ, inl, inr, List}
use Rattle.kn_outside.specs.Seen.{LinkSeen}
use Rattle.kn_workers.specs.Connections.{ServedSeen}
use Rattle.kn_workers.specs.Doors.{DoorSeen}
use Rattle.kn_follow.specs.Laws.{OneEnding}
use Rattle.kn_play.specs.LastQueries.{OneQueryOfScript}
use Rattle.kn_transcript.specs.Laws.{OneVerdict}
use Rattle.kn_words.specs.Commands.{IsNoCommand}
use Rattle.keynoted.specs.Outcomes.{OutsideSeen, Outcome, IsOutcome, IsEnded, IsPrintedOrCut, status_of, line_of}
use Rattle.keynoted.specs.Outcomes.{NoCommand, WordsLackMemory, AskEnded, ServeEnded, CheckEnded, FollowEnded}
use Rattle.keynoted.specs.Outcomes.{VerifyEnded, GenEnded}
use Rattle.keynoted.specs.Calling.{EndsRefused}
use Rattle.keynoted.specs.Specified.{IsRun}
use Rattle.keynoted.proofs.CallingLaws.{called}

module _ {C R : Type 0} (door : R → DoorSeen (ServedSeen C)) (link : C → LinkSeen) (given : List (List ℕ))
    (before after : OutsideSeen R) (status : ℕ) where
  -- words of no command are refused
  refused_as : IsNoCommand given → (outcome : Outcome) → IsOutcome door link given before after outcome
      → IsPrintedOrCut (line_of outcome) (status_of outcome) before.output after.output status
      → EndsRefused given before.output after.output status
  refused_as none NoCommand cause (inl whole) = inl whole.0
  refused_as none NoCommand cause (inr part) = inr (inl (part.0, part.1.2))
  refused_as none WordsLackMemory cause (inl whole) = inr (inr (whole.0, cause.0))
  refused_as none WordsLackMemory cause (inr part) = inr (inl (part.0, part.1.2))
  refused_as none (AskEnded names ending) cause printed = absurd (none.ask names cause.0)
  refused_as none (ServeEnded order ending) cause printed = absurd (none.serve order cause.0)
  refused_as none (CheckEnded names ending) cause printed = absurd (none.check names cause.0)
  refused_as none (FollowEnded name ending) cause printed = absurd (none.follow name cause.0)
  refused_as none (VerifyEnded names ending) cause printed = absurd (none.verify names cause.0)
  refused_as none (GenEnded numbers made) cause printed = absurd (none.gen numbers cause.0)

  pub specified : IsEnded door link given before after status → OneQueryOfScript
      → ((log : List ℕ) → OneEnding log) → OneVerdict → IsRun door link given before after status
  specified ended law ends_once one_verdict = record {
    ends = ended;
    refused = λ none. refused_as none ended.outcome ended.cause ended.printed;
    called = λ due calls. called door link law ends_once one_verdict given before after due status ended calls;
  }
