-- A run has the status for which its words, files and input call.
use Rattle.std.proofs.Common.{◌≡◌, ℕ, ◌⊎◌, inl, inr, List, refl, sym, ap, ◌∙◌, subst, ⊎_elim, Option}
use Rattle.std.proofs.Common.{Some, None}
use Rattle.std.specs.Prelude.{IfSome}
use Rattle.kn_outside.specs.Seen.{LinkSeen}
use Rattle.kn_outside.specs.Faults.{Rose}
use Rattle.kn_daemon.specs.declared.ended.Ended.TheVariants as E
use Rattle.kn_follow.specs.Laws.{OneEnding}
use Rattle.kn_play.specs.LastQueries.{OneQueryOfScript}
use Rattle.kn_transcript.specs.Laws.{OneVerdict}
use Rattle.kn_serve.specs.Serving.{IsOrderly, IsFaultless}
use Rattle.kn_workers.specs.Connections.{ServedSeen}
use Rattle.kn_workers.specs.Doors.{DoorSeen}
use Rattle.kn_words.specs.Names.{AskNames, CheckNames, VerifyNames}
use Rattle.kn_words.specs.Orders.{Order}
use Rattle.kn_endings.specs.AskEndings.{status_of_ended, status_of_ask}
use Rattle.kn_endings.specs.CheckEndings.{status_of_check}
use Rattle.kn_endings.specs.FollowEndings.{status_of_follow}
use Rattle.keynoted.specs.ServeEndings.{status_of_serve}
use Rattle.kn_endings.specs.VerifyEndings.{status_of_verify}
use Rattle.kn_words.specs.declared.gen_words.GenNumbers.{GenNumbers}
use Rattle.kn_words.specs.Commands.{AskFor, CheckFor, FollowFor, GenFor, ServeFor, VerifyFor}
use Rattle.keynoted.specs.Outcomes.{OutsideSeen, Outcome, IsOutcome, IsPrintedOrCut, IsEnded, status_of, line_of}
use Rattle.keynoted.specs.Outcomes.{NoCommand, WordsLackMemory, AskEnded, ServeEnded, CheckEnded, FollowEnded}
use Rattle.keynoted.specs.Outcomes.{VerifyEnded, GenEnded}
use Rattle.keynoted.specs.Calling.{AskCallsFor, CheckCallsFor, LogCallsFor, TranscriptCallsFor, IsOrderlyLink}
use Rattle.keynoted.specs.Calling.{NoReadFailed}
use Rattle.keynoted.specs.Calling.{CallsFor, EndsWith, ByAsk, ByServe, ByCheck, ByFollow, ByVerify, ByGen}
use Rattle.kn_words.proofs.WordSplits.{ask_is_no_check, gen_is_no_ask, gen_is_no_check, ask_is_no_serve}
use Rattle.kn_words.proofs.WordSplits.{check_is_no_serve, follow_is_no_ask, follow_is_no_check, follow_is_no_serve}
use Rattle.kn_words.proofs.WordSplits.{gen_is_no_follow, gen_is_no_serve, gen_is_no_verify, verify_is_no_ask}
use Rattle.kn_words.proofs.WordSplits.{verify_is_no_check, verify_is_no_follow, verify_is_no_serve}
use Rattle.keynoted.proofs.FileLaws.{told_by, same_ask, same_names, same_log, same_files}
use Rattle.keynoted.proofs.FileLaws.{same_transcript}
use Rattle.keynoted.proofs.OneStatusLaws.{ask_once, check_once, log_once, transcript_once}
use Rattle.keynoted.proofs.CauseLaws.{IsServedSo, IsServedWhole, ask_calls, serve_calls, check_calls, follow_calls}
use Rattle.keynoted.proofs.CauseLaws.{verify_calls}

-- an input that is in order is served to its end
orderly_done : (o o' : LinkSeen) (due status : ℕ) → IsOrderlyLink o o' × (due ≡ 0) → IsServedSo o o' status
    → EndsWith due status
orderly_done o o' due status (link, none) (ended, at, complete) =
    let full : IfSome (Some link.input) (λ i. IsOrderly i → IsFaultless o o' → (ended ≡ E.Done) ⊎ (ended ≡ E.Memory)) =
    subst (λ (left : Option (List ℕ)). IfSome left
    (λ i. IsOrderly i → IsFaultless o o' → (ended ≡ E.Done) ⊎ (ended ≡ E.Memory))) link.left complete in
    ⊎_elim
    (λ (done : ended ≡ E.Done). inl (at ∙ ap status_of_ended done ∙ sym none))
    (λ (memory : ended ≡ E.Memory). inr (at ∙ ap status_of_ended memory))
    (full link.orderly link.faultless)

module _ {C R : Type 0} (door : R → DoorSeen (ServedSeen C)) (link : C → LinkSeen) (law : OneQueryOfScript)
    (ends_once : (log : List ℕ) → OneEnding log) (one_verdict : OneVerdict) (given : List (List ℕ))
    (before after : OutsideSeen R) (due : ℕ) where
  abbrev AskOn : ℕ → Type 0
  AskOn next = IsOrderlyLink before.link after.link × (next ≡ 0)

  abbrev AskSo : ℕ → Type 0
  AskSo next = IsServedSo before.link after.link next

  ask_ends : (names : AskNames) (status : ℕ) → AskCallsFor before.files names AskOn due
      → AskCallsFor before.files names AskSo status ⊎ (status ≡ 5) → EndsWith due status
  ask_ends names status leads (inl to) =
      ask_once before.files AskOn AskSo due status (orderly_done before.link after.link due status) names leads to
  ask_ends names status leads (inr five) = inr five

  called_ask : (names : AskNames) → AskFor given names → NoReadFailed before.files after.files
      → AskCallsFor before.files names AskOn due
      → (outcome : Outcome) → IsOutcome door link given before after outcome → EndsWith due (status_of outcome)
  called_ask names words calm leads (AskEnded others ending) cause =
      ask_ends names (status_of_ask ending) leads
      (subst (λ (n : AskNames). AskCallsFor before.files n AskSo (status_of_ask ending) ⊎ (status_of_ask ending ≡ 5))
      (same_ask given others names cause.0 words)
      (ask_calls before.files after.files (told_by before.files names.policy _ _ _ due leads) calm
      before.link after.link others (status_of_ask ending) ending cause.1 refl))
  called_ask names words calm leads NoCommand cause = absurd (cause.0.ask names words)
  called_ask names words calm leads WordsLackMemory cause = absurd (ask_is_no_serve given names words cause.0.serve)
  called_ask names words calm leads (ServeEnded order ending) cause =
      absurd (ask_is_no_serve given names words cause.0.serve)
  called_ask names words calm leads (CheckEnded others ending) cause =
      absurd (ask_is_no_check given names others words cause.0)
  called_ask names words calm leads (FollowEnded name ending) cause =
      absurd (follow_is_no_ask given name names cause.0 words)
  called_ask names words calm leads (VerifyEnded others ending) cause =
      absurd (verify_is_no_ask given others names cause.0 words)
  called_ask names words calm leads (GenEnded numbers made) cause =
      absurd (gen_is_no_ask given numbers names cause.0 words)

  serve_ends : (names : AskNames) (status : ℕ) → AskCallsFor before.files names (λ next. next ≡ 0) due
      → AskCallsFor before.files names IsServedWhole status ⊎ (status ≡ 5) → EndsWith due status
  serve_ends names status leads (inl to) =
      ask_once before.files (λ next. next ≡ 0) IsServedWhole due status (λ none so. inl (so ∙ sym none)) names leads to
  serve_ends names status leads (inr five) = inr five

  called_serve : (order : Order) → ServeFor given order → NoReadFailed before.files after.files
      → ¬ Rose before.net.faults after.net.faults → AskCallsFor before.files order.files (λ next. next ≡ 0) due
      → (outcome : Outcome) → IsOutcome door link given before after outcome → EndsWith due (status_of outcome)
  called_serve order words calm net_calm leads (ServeEnded other ending) cause =
      serve_ends order.files (status_of_serve ending) leads
      (subst
      (λ (n : AskNames). AskCallsFor before.files n IsServedWhole (status_of_serve ending)
      ⊎ (status_of_serve ending ≡ 5))
      (same_files given other order cause.0 words)
      (serve_calls before.files after.files (told_by before.files order.files.policy _ _ _ due leads) calm
      door link before.net after.net net_calm other (status_of_serve ending) ending cause.1 refl))
  called_serve order words calm net_calm leads NoCommand cause = absurd (cause.0.serve order words)
  called_serve order words calm net_calm leads WordsLackMemory cause = inr refl
  called_serve order words calm net_calm leads (AskEnded names ending) cause =
      absurd (ask_is_no_serve given names cause.0 words.serve)
  called_serve order words calm net_calm leads (CheckEnded names ending) cause =
      absurd (check_is_no_serve given names cause.0 words.serve)
  called_serve order words calm net_calm leads (FollowEnded name ending) cause =
      absurd (follow_is_no_serve given name cause.0 words.serve)
  called_serve order words calm net_calm leads (VerifyEnded names ending) cause =
      absurd (verify_is_no_serve given names cause.0 words.serve)
  called_serve order words calm net_calm leads (GenEnded numbers made) cause =
      absurd (gen_is_no_serve given numbers cause.0 words.serve)

  check_ends : (names : CheckNames) (status : ℕ) → CheckCallsFor before.files names due
      → CheckCallsFor before.files names status ⊎ (status ≡ 5) → EndsWith due status
  check_ends names status leads (inl to) = check_once law before.files names due status leads to
  check_ends names status leads (inr five) = inr five

  called_check : (names : CheckNames) → CheckFor given names → NoReadFailed before.files after.files
      → CheckCallsFor before.files names due
      → (outcome : Outcome) → IsOutcome door link given before after outcome → EndsWith due (status_of outcome)
  called_check names words calm leads (CheckEnded others ending) cause =
      check_ends names (status_of_check ending) leads
      (subst (λ (n : CheckNames). CheckCallsFor before.files n (status_of_check ending) ⊎ (status_of_check ending ≡ 5))
      (same_names given others names cause.0 words)
      (check_calls before.files after.files (told_by before.files names.policy _ _ _ due leads) calm
      others (status_of_check ending) ending cause.1 refl))
  called_check names words calm leads NoCommand cause = absurd (cause.0.check names words)
  called_check names words calm leads WordsLackMemory cause = absurd (check_is_no_serve given names words cause.0.serve)
  called_check names words calm leads (AskEnded others ending) cause =
      absurd (ask_is_no_check given others names cause.0 words)
  called_check names words calm leads (ServeEnded order ending) cause =
      absurd (check_is_no_serve given names words cause.0.serve)
  called_check names words calm leads (FollowEnded name ending) cause =
      absurd (follow_is_no_check given name names cause.0 words)
  called_check names words calm leads (VerifyEnded others ending) cause =
      absurd (verify_is_no_check given others names cause.0 words)
  called_check names words calm leads (GenEnded numbers made) cause =
      absurd (gen_is_no_check given numbers names cause.0 words)

  log_ends : (name : List ℕ) (status : ℕ) → LogCallsFor before.files name due
      → LogCallsFor before.files name status ⊎ (status ≡ 5) → EndsWith due status
  log_ends name status leads (inl to) = log_once before.files name due status leads to
  log_ends name status leads (inr five) = inr five

  called_follow : (name : List ℕ) → FollowFor given name → NoReadFailed before.files after.files
      → LogCallsFor before.files name due
      → (outcome : Outcome) → IsOutcome door link given before after outcome → EndsWith due (status_of outcome)
  called_follow name words calm leads (FollowEnded other ending) cause =
      log_ends name (status_of_follow ending) leads
      (subst (λ (n : List ℕ). LogCallsFor before.files n (status_of_follow ending) ⊎ (status_of_follow ending ≡ 5))
      (same_log given other name cause.0 words)
      (follow_calls before.files after.files (told_by before.files name _ _ _ due leads) calm ends_once
      other (status_of_follow ending) ending cause.1 refl))
  called_follow name words calm leads NoCommand cause = absurd (cause.0.follow name words)
  called_follow name words calm leads WordsLackMemory cause = absurd (follow_is_no_serve given name words cause.0.serve)
  called_follow name words calm leads (AskEnded names ending) cause =
      absurd (follow_is_no_ask given name names words cause.0)
  called_follow name words calm leads (ServeEnded order ending) cause =
      absurd (follow_is_no_serve given name words cause.0.serve)
  called_follow name words calm leads (CheckEnded names ending) cause =
      absurd (follow_is_no_check given name names words cause.0)
  called_follow name words calm leads (VerifyEnded names ending) cause =
      absurd (verify_is_no_follow given names name cause.0 words)
  called_follow name words calm leads (GenEnded numbers made) cause =
      absurd (gen_is_no_follow given numbers name cause.0 words)

  transcript_ends : (names : VerifyNames) (status : ℕ) → TranscriptCallsFor before.files names due
      → TranscriptCallsFor before.files names status ⊎ (status ≡ 5) → EndsWith due status
  transcript_ends names status leads (inl to) = transcript_once before.files names due status leads to
  transcript_ends names status leads (inr five) = inr five

  called_verify : (names : VerifyNames) → VerifyFor given names → NoReadFailed before.files after.files
      → TranscriptCallsFor before.files names due
      → (outcome : Outcome) → IsOutcome door link given before after outcome → EndsWith due (status_of outcome)
  called_verify names words calm leads (VerifyEnded others ending) cause =
      transcript_ends names (status_of_verify ending) leads
      (subst
      (λ (n : VerifyNames). TranscriptCallsFor before.files n (status_of_verify ending) ⊎ (status_of_verify ending ≡ 5))
      (same_transcript given others names cause.0 words)
      (verify_calls before.files after.files (told_by before.files names.policy _ _ _ due leads) calm one_verdict
      others (status_of_verify ending) ending cause.1 refl))
  called_verify names words calm leads NoCommand cause = absurd (cause.0.verify names words)
  called_verify names words calm leads WordsLackMemory cause =
      absurd (verify_is_no_serve given names words cause.0.serve)
  called_verify names words calm leads (AskEnded others ending) cause =
      absurd (verify_is_no_ask given names others words cause.0)
  called_verify names words calm leads (ServeEnded order ending) cause =
      absurd (verify_is_no_serve given names words cause.0.serve)
  called_verify names words calm leads (CheckEnded others ending) cause =
      absurd (verify_is_no_check given names others words cause.0)
  called_verify names words calm leads (FollowEnded name ending) cause =
      absurd (verify_is_no_follow given names name words cause.0)
  called_verify names words calm leads (GenEnded numbers made) cause =
      absurd (gen_is_no_verify given numbers names cause.0 words)

  called_gen : (numbers : GenNumbers) → GenFor given numbers → due ≡ 0
      → (outcome : Outcome) → IsOutcome door link given before after outcome → EndsWith due (status_of outcome)
  called_gen numbers words none (GenEnded others (Some line)) cause = inl (sym none)
  called_gen numbers words none (GenEnded others None) cause = inr refl
  called_gen numbers words none NoCommand cause = absurd (cause.0.gen numbers words)
  called_gen numbers words none WordsLackMemory cause = absurd (gen_is_no_serve given numbers words cause.0.serve)
  called_gen numbers words none (AskEnded names ending) cause =
      absurd (gen_is_no_ask given numbers names words cause.0)
  called_gen numbers words none (ServeEnded order ending) cause =
      absurd (gen_is_no_serve given numbers words cause.0.serve)
  called_gen numbers words none (CheckEnded names ending) cause =
      absurd (gen_is_no_check given numbers names words cause.0)
  called_gen numbers words none (FollowEnded name ending) cause =
      absurd (gen_is_no_follow given numbers name words cause.0)
  called_gen numbers words none (VerifyEnded names ending) cause =
      absurd (gen_is_no_verify given numbers names words cause.0)

  called_of : CallsFor given before after due
      → (outcome : Outcome) → IsOutcome door link given before after outcome → EndsWith due (status_of outcome)
  called_of (ByAsk names words calm leads) = called_ask names words calm leads
  called_of (ByServe order words calm net_calm leads) = called_serve order words calm net_calm leads
  called_of (ByCheck names words calm leads) = called_check names words calm leads
  called_of (ByFollow name words calm leads) = called_follow name words calm leads
  called_of (ByVerify names words calm leads) = called_verify names words calm leads
  called_of (ByGen numbers words none) = called_gen numbers words none

  -- the status is that of the outcome, or writing its line failed
  called_as : CallsFor given before after due → (outcome : Outcome) (status : ℕ)
      → IsOutcome door link given before after outcome
      → IsPrintedOrCut (line_of outcome) (status_of outcome) before.output after.output status
      → EndsWith due status ⊎ ((status ≡ 9) × Rose before.output.faults after.output.faults)
  called_as calls outcome status cause (inl whole) =
      inl (subst (EndsWith due) (sym whole.0) (called_of calls outcome cause))
  called_as calls outcome status cause (inr part) = inr (part.0, part.1.2)

  pub called : (status : ℕ) → IsEnded door link given before after status → CallsFor given before after due
      → EndsWith due status ⊎ ((status ≡ 9) × Rose before.output.faults after.output.faults)
  called status ended calls = called_as calls ended.outcome status ended.cause ended.printed
