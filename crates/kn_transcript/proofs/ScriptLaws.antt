-- The next request of a script, whose bytes are fed piece by piece.
use Rattle.std.proofs.Common.{◌≡◌, ℕ, Bool, List, length, Some, None, sym, ◌∙◌, subst}
use Rattle.std.specs.Prelude.{Ok, Err}
use Rattle.kn_wire.specs.Requests.{Request}
use Rattle.kn_wire.specs.Feeding.{Held, next_of}
use Rattle.kn_play.specs.Playing.{IsFed}
use Rattle.kn_play.proofs.ScriptLoops.{takes-request}
use Rattle.kn_transcript.specs.declared.fault.TranscriptFault.{TranscriptFault}
use Rattle.kn_transcript.specs.declared.progress.Progress.{Progress}
use Rattle.kn_transcript.specs.Progress.{IsAnsweredBy, IsFaultAt, IsNextJudged, IsNextOfScript}

module _ (script : List ℕ) (requests : List Request) (number : ℕ) (was old : Progress) (from : ℕ) (held : Held)
    (new : Progress) (after : Held)
    (same : old ≡ was) (fed : IsFed script from held requests) where
  pub one_taken : (last : Bool) → IsNextJudged number old held new after (Ok (Some last))
      → IsNextOfScript script requests number was from after new (Ok (Some last))
  one_taken last (request, next, is, answered) = (
    request,
    takes-request script requests from held after request fed next,
    is,
    subst (λ (p : Progress). IsAnsweredBy p request new) same answered,
  )

  pub one_missed : (fault : TranscriptFault) → IsNextJudged number old held new after (Err fault)
      → IsNextOfScript script requests number was from after new (Err fault)
  one_missed fault (request, next, is) = (
    request,
    takes-request script requests from held after request fed next,
    subst (λ (p : Progress). IsFaultAt p request number fault) same is,
  )

  pub none_left : from ≡ length script → IsNextJudged number old held new after (Ok None)
      → IsNextOfScript script requests number was from after new (Ok None)
  none_left all (none, kept, unchanged) = (
    record {
      all = all;
      fed = subst (λ (h : Held). IsFed script from h requests) (sym kept) fed;
      none = subst (λ (h : Held). next_of h ≡ None) (sym kept) none;
    },
    unchanged ∙ same,
  )
