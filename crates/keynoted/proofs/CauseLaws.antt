-- What files led to whose contents are specified, where no read of one failed.
use Rattle.std.proofs.Common.{◌≡◌, ℕ, ◌≤◌, ◌⊎◌, inl, inr, List, [], ◌∷◌, length, sym, subst, Option, Some, None}
use Rattle.std.proofs.Common.{arith, Ok, Err}
use Rattle.std.specs.Prelude.{IfSome, ◌≢◌}
use Rattle.kn_base.specs.declared.limits.TheConstants.{FILE_BYTES}
use Rattle.kn_outside.specs.Seen.{FilesSeen, LinkSeen}
use Rattle.kn_outside.specs.Faults.{Rose}
use Rattle.kn_fields.specs.declared.fault.ReadFault.{ReadFault}
use Rattle.kn_auth.specs.declared.key_file.KeyFile.{KeyFile}
use Rattle.kn_auth.proofs.KeyFiles.{file_or_line}
use Rattle.kn_files.specs.Pieces.{pieces_of}
use Rattle.kn_follow.specs.Laws.{OneEnding}
use Rattle.kn_follow.specs.declared.fault.FollowFault.{FollowFault}
use Rattle.kn_follow.specs.declared.fault.FollowFault.TheVariants as F
use Rattle.kn_check.specs.declared.reject.Reject.{Reject}
use Rattle.kn_proof.specs.declared.reply.ReadReply.{ReadReply}
use Rattle.kn_proof.proofs.OneReplyOrFault.{one_reply, reply_without_fault}
use Rattle.kn_reply.specs.declared.refusal.LimitWord.{LimitWord}
use Rattle.kn_session.specs.Sessions.{Session}
use Rattle.kn_history.specs.History.{loaded_history}
use Rattle.kn_history.specs.Loading.{IsLoadable, IsFaultyAt}
use Rattle.kn_history.proofs.Loading.{ends_once}
use Rattle.kn_daemon.specs.Daemon.{equations_of}
use Rattle.kn_daemon.specs.declared.ended.Ended.{Ended}
use Rattle.kn_daemon.specs.declared.ended.Ended.TheVariants as E
use Rattle.kn_meaning.specs.Proofs.{IsProof}
use Rattle.kn_verify.specs.Verdicts.{IsReplyTo}
use Rattle.kn_transcript.specs.declared.fault.TranscriptFault.{TranscriptFault}
use Rattle.kn_transcript.specs.declared.fault.TranscriptFault.TheVariants as T
use Rattle.kn_transcript.specs.Faulty.{IsFaultyTranscript}
use Rattle.kn_transcript.specs.Laws.{OneVerdict}
use Rattle.kn_serve.specs.Serving.{IsOrderly, IsFaultless}
use Rattle.kn_workers.specs.Connections.{ServedSeen}
use Rattle.kn_workers.specs.Doors.{DoorSeen}
use Rattle.kn_workers.specs.Nets.{NetSeen}
use Rattle.kn_inputs.specs.declared.input_fault.InputFault.{InputFault}
use Rattle.kn_inputs.specs.declared.input_fault.InputFault.TheVariants as S
use Rattle.kn_endings.specs.declared.ask_ending.AskEnding.{AskEnding}
use Rattle.kn_endings.specs.declared.ask_ending.AskEnding.TheVariants as A
use Rattle.keynoted.specs.declared.serve_ending.ServeEnding.{ServeEnding}
use Rattle.keynoted.specs.declared.serve_ending.ServeEnding.TheVariants as V
use Rattle.kn_workers.specs.declared.address.AddressEnding.TheVariants as D
use Rattle.kn_endings.specs.declared.follow_ending.FollowEnding.{FollowEnding}
use Rattle.kn_endings.specs.declared.follow_ending.FollowEnding.TheVariants as W
use Rattle.kn_endings.specs.declared.verify_ending.VerifyEnding.{VerifyEnding}
use Rattle.kn_endings.specs.declared.verify_ending.VerifyEnding.TheVariants as Y
use Rattle.kn_words.specs.declared.files.Source.{Source}
use Rattle.kn_words.specs.declared.files.Source.TheVariants.{Policy, Script as TheScript, Reply}
use Rattle.kn_endings.specs.declared.check_ending.CheckEnding.{CheckEnding}
use Rattle.kn_endings.specs.declared.check_ending.CheckEnding.TheVariants.{Stopped, NoQuery, Faulty, Rejected, Proved}
use Rattle.kn_words.specs.Names.{AskNames, CheckNames, VerifyNames}
use Rattle.kn_words.specs.Orders.{Order}
use Rattle.kn_inputs.specs.InputFaults.{status_of}
use Rattle.kn_endings.specs.AskEndings.{status_of_ended, status_of_ask}
use Rattle.kn_words.specs.Sources.{name_of}
use Rattle.kn_endings.specs.CheckEndings.{status_of_check}
use Rattle.kn_endings.specs.FollowEndings.{status_of_follow}
use Rattle.keynoted.specs.ServeEndings.{status_of_serve}
use Rattle.kn_endings.specs.VerifyEndings.{status_of_verify}
use Rattle.kn_inputs.specs.Held.{HasContent, IsTooLarge, IsPolicy, AreKeys}
use Rattle.kn_inputs.specs.Stopping.{IsLimitAt}
use Rattle.kn_inputs.specs.Inputs.{StopsAtPolicy, StopsAtKeys, AreKeysStopped}
use Rattle.kn_commands.specs.Asking.{AskCause}
use Rattle.kn_commands.specs.Checking.{HasQuery, Reached, CheckCause, IsFaultyText, IsUnprovedText}
use Rattle.kn_commands.specs.Following.{HasLogFault, FollowCause}
use Rattle.keynoted.specs.Serving.{ServeCause}
use Rattle.kn_commands.specs.Verifying.{IsScriptStopped, AreRepliesStopped, IsTranscriptRead, IsRefused, VerifyCause}
use Rattle.keynoted.specs.Calling.{TooLarge, Failed, Passed, KeysCallFor, AskCallsFor, IsTextOfProof, ReplyCallsFor}
use Rattle.keynoted.specs.Calling.{CheckCallsFor}
use Rattle.keynoted.specs.Calling.{PolicyCallsFor, LogCallsFor, IsAccepted, RepliesCallFor, TranscriptScriptCallsFor}
use Rattle.keynoted.specs.Calling.{TranscriptCallsFor}
use Rattle.keynoted.proofs.FileLaws.{IsSpecified, held, held_too_much}

-- an input that is in order is served to its end, if no call of the link fails and memory doesn't run out
abbrev pub IsServedSo : LinkSeen → LinkSeen → ℕ → Type 0
IsServedSo o o' status = (ended : Ended) × (status ≡ status_of_ended ended)
    × IfSome o.left (λ input. IsOrderly input → IsFaultless o o' → (ended ≡ E.Done) ⊎ (ended ≡ E.Memory))

-- a service that was served whole
abbrev pub IsServedWhole : ℕ → Type 0
IsServedWhole status = status ≡ 0

-- texts of which one is faulty or refused make no history
faulty_policy : (bytes : List ℕ) (n : ℕ) (fault : ReadFault) → IsFaultyAt (pieces_of bytes) n fault
    → ¬ IsLoadable (pieces_of bytes)
faulty_policy bytes n fault faulty loadable = (ends_once (pieces_of bytes)).faulty n fault loadable faulty

full_policy : (bytes : List ℕ) (n : ℕ) (word : LimitWord) (count : ℕ) → IsLimitAt (pieces_of bytes) n word count
    → ¬ IsLoadable (pieces_of bytes)
full_policy bytes n word count limit loadable = (ends_once (pieces_of bytes)).full n limit.refusal loadable limit.full

-- a text with a fault, or one to another query, is no proof
faulty_is_no_proof : (session : Session) (values : List (List ℕ)) (text : List ℕ) (fault place : ℕ)
    → IsFaultyText session values text fault place → (reply : ReadReply) → ¬ IsTextOfProof session values text reply
faulty_is_no_proof session values text fault place (inl own) reply proof =
    reply_without_fault text reply own.0 proof.read own.1
faulty_is_no_proof session values text fault place (inr other) reply proof =
    let same : reply ≡ other.2.0 = one_reply text reply other.2.0 proof.read other.2.1 in
    other.2.2 (subst (λ (r : ReadReply). IsReplyTo (length session.pinned) values r) same proof.to_query)

rejected_is_no_proof : (session : Session) (values : List (List ℕ)) (text : List ℕ) (reject : Reject)
    → IsUnprovedText session values text reject → (reply : ReadReply) → ¬ IsTextOfProof session values text reply
rejected_is_no_proof session values text reject unproved reply proof =
    let same : reply ≡ unproved.reply = one_reply text reply unproved.reply proof.read unproved.read in
    unproved.unproved.unproved
    (subst (λ (r : ReadReply). IsProof (equations_of session values) r.rows r.value) same proof.proof)

module _ (f f' : FilesSeen) (specified : IsSpecified f) (calm : ¬ Rose f.faults f'.faults) where
  -- a policy file stopped the run
  module _ (name : List ℕ) (On : List ℕ → ℕ → Type 0) (due : ℕ) where
    stopped_policy : (stop : InputFault) → StopsAtPolicy f f' name stop → due ≡ status_of stop
        → PolicyCallsFor f name On due ⊎ (due ≡ 5)
    stopped_policy S.FileFailed stops at = absurd (calm stops.rose)
    stopped_policy S.FileTooLarge stops at =
        let much = held_too_much f name specified stops.1 in inl (TooLarge much.0 much.1 at)
    stopped_policy (S.Policy n fault) (bytes, read, faulty) at =
        inl (Failed bytes (held f name bytes specified read.content) (faulty_policy bytes n fault faulty) at)
    stopped_policy (S.Limit n word count) (bytes, read, limit) at =
        inl (Failed bytes (held f name bytes specified read.content) (full_policy bytes n word count limit) at)
    stopped_policy S.Memory stops at = inr at
    stopped_policy S.Words stops at = absurd stops
    stopped_policy (S.KeyLine n) stops at = absurd stops

  -- the files of `ask` and `serve`
  module _ (names : AskNames) (On : ℕ → Type 0) (due : ℕ) where
    abbrev IsCalledFor : Type 0
    IsCalledFor = AskCallsFor f names On due ⊎ (due ≡ 5)

    ask_stopped : (stop : InputFault) → StopsAtPolicy f f' names.policy stop → due ≡ status_of stop → IsCalledFor
    ask_stopped stop stops at =
        stopped_policy names.policy (λ bytes next. KeysCallFor f names.keys On next) due stop stops at

    passed_policy : (bytes : List ℕ) → IsPolicy f names.policy bytes → KeysCallFor f names.keys On due → IsCalledFor
    passed_policy bytes policy on =
        inl (Passed bytes (held f names.policy bytes specified policy.content) (policy.loadable, on))

    module _ (name bytes : List ℕ) (named : names.keys ≡ Some name) (policy : IsPolicy f names.policy bytes) where
      tried_keys : KeysCallFor f (Some name) On due → IsCalledFor
      tried_keys lead =
          passed_policy bytes policy (subst (λ (k : Option (List ℕ)). KeysCallFor f k On due) (sym named) lead)

      stopped_keys : (stop : InputFault) → StopsAtKeys f f' (names.policy ∷ []) name stop → due ≡ status_of stop
          → IsCalledFor
      stopped_keys S.FileFailed stops at = absurd (calm stops.rose)
      stopped_keys S.FileTooLarge stops at =
          let much = held_too_much f name specified stops.1 in tried_keys (TooLarge much.0 much.1 at)
      stopped_keys (S.KeyLine n) (asked, text, content, first) at =
          tried_keys (Failed text (held f name text specified content) (λ keys is. file_or_line text keys n is first)
          at)
      stopped_keys S.Memory stops at = inr at
      stopped_keys S.Words stops at = absurd stops
      stopped_keys (S.Policy n fault) stops at = absurd stops
      stopped_keys (S.Limit n word count) stops at = absurd stops

    keys_stopped : (stop : InputFault) → AreKeysStopped f f' names stop → due ≡ status_of stop → IsCalledFor
    keys_stopped stop k at = stopped_keys k.name k.bytes k.named k.policy stop k.stops at

    passed_keys : (name : Option (List ℕ)) (keys : KeyFile) → AreKeys f name keys → On due → KeysCallFor f name On due
    passed_keys None keys known on = on
    passed_keys (Some name) keys (text, content, is) on =
        Passed text (held f name text specified content) (keys, is, on)

  pub ask_calls : (o o' : LinkSeen) (names : AskNames) (due : ℕ) (ending : AskEnding) → AskCause f f' o o' names ending
      → due ≡ status_of_ask ending → AskCallsFor f names (IsServedSo o o') due ⊎ (due ≡ 5)
  ask_calls o o' names due (A.PolicyStopped stop) cause at = ask_stopped names (IsServedSo o o') due stop cause.0 at
  ask_calls o o' names due (A.KeysStopped stop) cause at = keys_stopped names (IsServedSo o o') due stop cause.0 at
  ask_calls o o' names due (A.Served ended) cause at =
      passed_policy names (IsServedSo o o') due cause.bytes cause.policy
      (passed_keys names (IsServedSo o o') due names.keys cause.keys cause.known (ended, at, cause.runs.complete))

  module _ {C R : Type 0} (door : R → DoorSeen (ServedSeen C)) (link : C → LinkSeen) (n n' : NetSeen R)
      (net_calm : ¬ Rose n.faults n'.faults) where
    pub serve_calls : (order : Order) (due : ℕ) (ending : ServeEnding) → ServeCause door link f f' n n' order ending
        → due ≡ status_of_serve ending → AskCallsFor f order.files IsServedWhole due ⊎ (due ≡ 5)
    serve_calls order due (V.PolicyStopped stop) cause at = ask_stopped order.files IsServedWhole due stop cause.0 at
    serve_calls order due (V.KeysStopped stop) cause at = keys_stopped order.files IsServedWhole due stop cause.0 at
    serve_calls order due (V.Ended D.BindMemory) cause at = inr at
    serve_calls order due (V.Ended D.Unbound) cause at = absurd (net_calm cause.runs.0)
    serve_calls order due (V.Ended D.WorkMemory) cause at = inr at
    serve_calls order due (V.Ended D.DoorFailed) cause at = absurd (net_calm cause.runs.3)
    serve_calls order due (V.Ended (D.Served finished version)) cause at =
        passed_policy order.files IsServedWhole due cause.bytes cause.policy
        (passed_keys order.files IsServedWhole due order.files.keys cause.keys cause.known at)

  -- the files of `check`
  module _ (names : CheckNames) (due : ℕ) where
    passed_script : (session : Session) (values : List (List ℕ)) → HasQuery f names session values
        → ReplyCallsFor f names.reply session values due → CheckCallsFor f names due
    passed_script session values has leads =
        Passed has.bytes (held f names.policy has.bytes specified has.policy.content) (
          has.policy.loadable,
          Passed has.script (held f names.script has.script specified has.content) (session, values, has.query, leads),
        )

    too_large : (source : Source) → due ≡ 2 → Reached f names source → IsTooLarge f (name_of names source)
        → CheckCallsFor f names due
    too_large Policy at reached large = let much = held_too_much f names.policy specified large in
        TooLarge much.0 much.1 at
    too_large TheScript at (bytes, policy) large =
        let much = held_too_much f names.script specified large in
        Passed bytes (held f names.policy bytes specified policy.content) (policy.loadable, TooLarge much.0 much.1 at)
    too_large Reply at (session, values, query) large =
        let much = held_too_much f names.reply specified large in
        passed_script session values query (TooLarge much.0 much.1 at)

    pub check_calls : (ending : CheckEnding) → CheckCause f f' names ending → due ≡ status_of_check ending
        → CheckCallsFor f names due ⊎ (due ≡ 5)
    check_calls (Stopped source S.FileFailed) cause at = absurd (calm cause.1.rose)
    check_calls (Stopped source S.FileTooLarge) cause at = inl (too_large source at cause.0 cause.2)
    check_calls (Stopped source (S.Policy n fault)) (is, bytes, read, faulty) at =
        inl (Failed bytes (held f names.policy bytes specified read.content) (faulty_policy bytes n fault faulty) at)
    check_calls (Stopped source (S.Limit n word count)) (is, bytes, read, limit) at =
        inl (Failed bytes (held f names.policy bytes specified read.content) (full_policy bytes n word count limit) at)
    check_calls (Stopped source S.Memory) cause at = inr at
    check_calls (Stopped source S.Words) cause at = absurd cause
    check_calls (Stopped source (S.KeyLine n)) cause at = absurd cause
    check_calls NoQuery (asked, none) at =
        inl (Passed none.bytes (held f names.policy none.bytes specified none.policy.content) (
          none.policy.loadable,
          Failed none.script (held f names.script none.script specified none.content) none.none at,
        ))
    check_calls (Faulty fault line) c at =
        inl (passed_script c.session c.values c.tried.query
        (Failed c.text (held f names.reply c.text specified c.tried.content)
        (faulty_is_no_proof c.session c.values c.text fault line c.shows) at))
    check_calls (Rejected reject) c at =
        inl (passed_script c.session c.values c.tried.query
        (Failed c.text (held f names.reply c.text specified c.tried.content)
        (rejected_is_no_proof c.session c.values c.text reject c.shows) at))
    check_calls (Proved value name) c at =
        let shows = c.shows in
        let proof : IsTextOfProof c.session c.values c.text shows.reply =
        record { read = shows.read; to_query = shows.proved.to_query; proof = shows.proved.proof } in
        inl (passed_script c.session c.values c.tried.query
        (Passed c.text (held f names.reply c.text specified c.tried.content) (shows.reply, proof, at)))

  -- the file of `follow`
  module _ (ends_once : (log : List ℕ) → OneEnding log) (name : List ℕ) (due : ℕ) where
    -- a log with a fault is no file of replies that make a replica
    faulty_log : (fault : FollowFault) → fault ≢ F.NoMemory → HasLogFault f f' name fault → due ≡ 11
        → LogCallsFor f name due
    faulty_log fault some has at =
        Failed has.log (held f name has.log specified has.read.content)
        (λ replica is. (ends_once has.log).not_both replica fault some is has.is) at

    pub follow_calls : (ending : FollowEnding) → FollowCause f f' name ending → due ≡ status_of_follow ending
        → LogCallsFor f name due ⊎ (due ≡ 5)
    follow_calls W.FileFailed cause at = absurd (calm cause.rose)
    follow_calls W.FileTooLarge cause at =
        let much = held_too_much f name specified cause.1 in inl (TooLarge much.0 much.1 at)
    follow_calls W.Memory cause at = inr at
    follow_calls (W.Line at) cause is = inl (faulty_log (F.Line at) (λ same. absurd (cc)) cause is)
    follow_calls (W.Gap from have) cause is = inl (faulty_log (F.Gap from have) (λ same. absurd (cc)) cause is)
    follow_calls (W.Refused place) cause is = inl (faulty_log (F.Refused place) (λ same. absurd (cc)) cause is)
    follow_calls (W.Followed version live) cause at =
        inl (Passed cause.log (held f name cause.log specified cause.read.content) (cause.replica, cause.follows, at))

  -- the files of `verify`
  module _ (one_verdict : OneVerdict) (names : VerifyNames) (due : ℕ) where
    passed_texts : (bytes script : List ℕ) → IsPolicy f names.policy bytes → HasContent f names.script script
        → RepliesCallFor f names.replies bytes script due → TranscriptCallsFor f names due
    passed_texts bytes script policy content leads =
        Passed bytes (held f names.policy bytes specified policy.content)
        (policy.loadable, Passed script (held f names.script script specified content) leads)

    stopped_script : (stop : InputFault) → IsScriptStopped f f' names stop → due ≡ status_of stop
        → TranscriptCallsFor f names due ⊎ (due ≡ 5)
    stopped_script S.FileFailed c at = absurd (calm c.stops.rose)
    stopped_script S.FileTooLarge c at =
        let much = held_too_much f names.script specified c.stops.1 in
        inl (Passed c.bytes (held f names.policy c.bytes specified c.policy.content)
        (c.policy.loadable, TooLarge much.0 much.1 at))
    stopped_script S.Memory c at = inr at
    stopped_script S.Words c at = absurd c.stops
    stopped_script (S.Policy n fault) c at = absurd c.stops
    stopped_script (S.Limit n word count) c at = absurd c.stops
    stopped_script (S.KeyLine n) c at = absurd c.stops

    stopped_replies : (stop : InputFault) → AreRepliesStopped f f' names stop → due ≡ status_of stop
        → TranscriptCallsFor f names due ⊎ (due ≡ 5)
    stopped_replies S.FileFailed c at = absurd (calm c.stops.rose)
    stopped_replies S.FileTooLarge c at =
        let much = held_too_much f names.replies specified c.stops.1 in
        inl (passed_texts c.bytes c.script c.policy c.script_is (TooLarge much.0 much.1 at))
    stopped_replies S.Memory c at = inr at
    stopped_replies S.Words c at = absurd c.stops
    stopped_replies (S.Policy n fault) c at = absurd c.stops
    stopped_replies (S.Limit n word count) c at = absurd c.stops
    stopped_replies (S.KeyLine n) c at = absurd c.stops

    -- a transcript with a fault isn't accepted
    both_verdicts : (bytes script replies : List ℕ) → length replies ≤ FILE_BYTES → (fault : TranscriptFault)
        → IsFaultyTranscript (loaded_history (pieces_of bytes)) script replies fault
        → ¬ IsAccepted bytes script replies
    both_verdicts bytes script replies small fault faulty is =
        let within : length replies ≤ 16777216 = small in
        let same : Ok (is.0, is.1) ≡ Err fault =
        one_verdict (loaded_history (pieces_of bytes)) script replies (Ok (is.0, is.1)) (Err fault)
        (omega (arith, within)) is.2 faulty in
        absurd (cc same)

    refused_transcript : (fault : TranscriptFault) → fault ≢ T.NoMemory
        → IsTranscriptRead f f' names (IsRefused fault) → due ≡ 12 → TranscriptCallsFor f names due
    refused_transcript fault some c at =
        passed_texts c.bytes c.script c.policy c.script_is
        (Failed c.replies (held f names.replies c.replies specified c.replies_are)
        (λ is. elim c.holds [
          | inl none ↦ some none
          | inr faulty ↦
              both_verdicts c.bytes c.script c.replies c.replies_are.within fault faulty is
        ]) at)

    pub verify_calls : (ending : VerifyEnding) → VerifyCause f f' names ending → due ≡ status_of_verify ending
        → TranscriptCallsFor f names due ⊎ (due ≡ 5)
    verify_calls (Y.PolicyStopped stop) c at =
        stopped_policy names.policy (λ bytes next. TranscriptScriptCallsFor f names bytes next) due stop c at
    verify_calls (Y.ScriptStopped stop) c at = stopped_script stop c at
    verify_calls (Y.RepliesStopped stop) c at = stopped_replies stop c at
    verify_calls (Y.Faulty (T.Missing n)) c at = inl (refused_transcript (T.Missing n) (λ same. absurd (cc)) c at)
    verify_calls (Y.Faulty (T.Text n)) c at = inl (refused_transcript (T.Text n) (λ same. absurd (cc)) c at)
    verify_calls (Y.Faulty (T.Wrong n)) c at = inl (refused_transcript (T.Wrong n) (λ same. absurd (cc)) c at)
    verify_calls (Y.Faulty (T.Rest n)) c at = inl (refused_transcript (T.Rest n) (λ same. absurd (cc)) c at)
    verify_calls (Y.Faulty (T.Foreign n)) c at = inl (refused_transcript (T.Foreign n) (λ same. absurd (cc)) c at)
    verify_calls (Y.Faulty T.NoMemory) c at = inr at
    verify_calls (Y.Verified answers version) c at =
        inl (passed_texts c.bytes c.script c.policy c.script_is
        (Passed c.replies (held f names.replies c.replies specified c.replies_are) ((answers, version, c.holds), at)))
