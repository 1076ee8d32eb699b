-- A transcript that is being verified, and its end.
use Rattle.std.proofs.Common.{◌≡◌, ◌⊎◌, ◌+◌, ◌<◌, ◌≤◌, ℕ, true, false, List, [], ◌∷◌, ◌++◌, length, refl, sym, ap, ◌∙◌}
use Rattle.std.proofs.Common.{arith, subst, inl, inr, length-append}
use Rattle.std.specs.Prelude.{Result, Ok, Err, IfOk, IfErr}
use Rattle.std.specs.List.{list_any}
use Rattle.std.proofs.lemmas.List.{length-map, length_push}
use Rattle.kn_base.specs.declared.limits.TheConstants.{REQUESTS}
use Rattle.kn_history.specs.declared.update.Update.{Update}
use Rattle.kn_wire.specs.Requests.{Request}
use Rattle.kn_wire.specs.Feeding.{Held, Bytes}
use Rattle.kn_daemon.specs.Daemon.{first_state}
use Rattle.kn_daemon.specs.Played.{is_last}
use Rattle.kn_daemon.proofs.Runs.{any-push}
use Rattle.kn_play.specs.Playing.{IsFed, TakesRequest, IsSpent}
use Rattle.kn_play.proofs.ScriptLoops.{fed-on, taken-first, spent-all}
use Rattle.kn_transcript.specs.declared.fault.TranscriptFault.{TranscriptFault}
use Rattle.kn_transcript.specs.declared.fault.TranscriptFault.TheVariants as F
use Rattle.kn_transcript.specs.declared.progress.Progress.{Progress}
use Rattle.kn_transcript.specs.declared.verifying.Verified.{Verified}
use Rattle.kn_transcript.specs.Followed.{Answered}
use Rattle.kn_transcript.specs.Accepted.{IsFollowed, IsAcceptedTranscript, requests_in, text_in}
use Rattle.kn_transcript.specs.Faulty.{IsReached, IsJudged, IsFaultyTranscript}
use Rattle.kn_transcript.specs.Judging.{state_of, HasRoom}
use Rattle.kn_transcript.specs.Progress.{IsAnsweredBy, IsFaultAt, AreMeant, HasComeTo, IsBeingVerified, IsConcluded}
use Rattle.kn_transcript.proofs.AnsweredLaws.{first-come, come-on, followed, requests-push}
use Rattle.kn_transcript.proofs.ScriptRequestLaws.{meant-at, meant-last, meant-spent, meant-most}
use Rattle.kn_transcript.proofs.SmallLaws.{follows-small}

pub begun : (past : List Update) (script replies : List ℕ) (held : Held) (progress : Progress) → held ≡ Bytes []
    → progress.book ≡ past
    → progress.left.now ≡ replies → progress.answers ≡ 0 → state_of progress.connection ≡ first_state
    → IsBeingVerified past script replies 0 held [] progress
begun past script replies held progress empty book left answers state = record {
  fed = subst (λ (h : Held). IsFed script 0 h []) (sym empty)
      (record { within = omega arith; begins = λ more. refl; not_shut = refl });
  goes_on = refl;
  come = first-come past replies progress book left answers state;
}

-- What a transcript comes to is told.
abbrev pub IsTold : List Update → List ℕ → List ℕ → Result Verified TranscriptFault → Type 0
IsTold past script replies result =
    IfOk result (λ v. IsAcceptedTranscript past script replies v.answers v.version)
    × IfErr result (λ fault. (fault ≡ F.NoMemory) ⊎ IsFaultyTranscript past script replies fault)

requests-length : (answered : List Answered) → length (requests_in answered) ≡ length answered
requests-length answered = length-map answered (λ (a : Answered). a.request)

module _ (past : List Update) (script replies : List ℕ) where
  -- all requests are answered
  pub concluded : (answered : List Answered) (progress : Progress) → HasComeTo past replies answered progress
      → AreMeant script (requests_in answered) [] → (result : Result Verified TranscriptFault)
      → IsConcluded replies progress result
      → IsTold past script replies result
  concluded answered progress come meant (Ok v) (empty, answers, version) = (
    record {
      answered = answered;
      history = progress.book;
      state = state_of progress.connection;
      followed = subst (λ (l : List ℕ). IsFollowed past script replies answered [] l progress.book
          (state_of progress.connection)) empty
          (followed past replies answered progress come script [] meant);
      values = answers ∙ come.values;
      updates = version;
    },
    tt,
  )
  concluded answered progress come meant (Err (F.Rest at)) (some, place) = (
    tt,
    inr (record {
      answered = answered;
      left = progress.left.now;
      history = progress.book;
      state = state_of progress.connection;
      followed = followed past replies answered progress come script [] meant;
      some = some;
      place =
          let sizes = ap length come.texts ∙ length-append (text_in answered) progress.left.now in
          omega (arith, sizes, place);
    }),
  )
  concluded answered progress come meant (Err (F.Missing n)) is = absurd is
  concluded answered progress come meant (Err (F.Text n)) is = absurd is
  concluded answered progress come meant (Err (F.Wrong n)) is = absurd is
  concluded answered progress come meant (Err (F.Foreign n)) is = absurd is
  concluded answered progress come meant (Err F.NoMemory) is = absurd is

  module _ (from : ℕ) (held : Held) (answered : List Answered) (old : Progress) (count : ℕ)
      (v : IsBeingVerified past script replies from held answered old)
      (size : length answered ≡ count) where
    -- there is room for one more request
    pub has-room : count < REQUESTS → HasRoom (state_of old.connection)
    has-room few = (
      length answered,
      omega (arith, size, few),
      follows-small past answered old.book (state_of old.connection) v.come.follows,
    )

    pub shorter : length old.left.now ≤ length replies
    shorter = let sizes = ap length v.come.texts ∙ length-append (text_in answered) old.left.now in omega (arith, sizes)

    module _ (fed : ℕ) (after : Held) (request : Request)
        (t : TakesRequest script (requests_in answered) fed after request) (few : count < REQUESTS) where
      reached : IsReached past script replies request (count + 1) old.left.now
      reached =
          let most = requests-length answered in
          let meant =
          meant-at script (requests_in answered) v.goes_on request
          (taken-first script (requests_in answered ++ request ∷ []) fed after t.begins)
          (omega (arith, most, size, few)) in
          record {
            answered = answered;
            others = meant.0;
            history = old.book;
            state = state_of old.connection;
            followed = followed past replies answered old v.come script (request ∷ meant.0) meant.1;
            place = omega (arith, size);
          }

      -- the fault of the request is that of the transcript
      pub faulty : (fault : TranscriptFault) → IsFaultAt old request (count + 1) fault
          → (fault ≡ F.NoMemory) ⊎ IsFaultyTranscript past script replies fault
      unfolding reached
      faulty (F.Missing n) (judged, (is, empty)) =
          inr (subst (λ (k : ℕ). IsJudged past script replies k []) (sym is)
          (subst (λ (l : List ℕ). IsJudged past script replies (count + 1) l) empty
          (record { request = request; reached = reached; judged = judged })))
      faulty (F.Text n) (judged, (is, some, none)) =
          inr (subst (λ (k : ℕ). IsFaultyTranscript past script replies (F.Text k)) (sym is)
          (record {
            left = old.left.now;
            at = record { request = request; reached = reached; judged = judged };
            some = some;
            none = λ reply begins. none (reply, begins);
          }))
      faulty (F.Wrong n) (judged, (is, some), none) =
          inr (subst (λ (k : ℕ). IsFaultyTranscript past script replies (F.Wrong k)) (sym is)
          (record {
            left = old.left.now;
            at = record { request = request; reached = reached; judged = judged };
            some = some;
            none = none;
          }))
      faulty (F.Rest at) is = absurd is
      faulty (F.Foreign n) (foreign, is) =
          inr (subst (λ (k : ℕ). IsFaultyTranscript past script replies (F.Foreign k)) (sym is)
          (record { request = request; left = old.left.now; reached = reached; foreign_is = foreign }))
      faulty F.NoMemory is = inl refl

      module _ (new : Progress) (a : IsAnsweredBy old request new) where
        pub size-next : length (answered ++ record { request = request; reply = a.takes.reply } ∷ []) ≡ count + 1
        size-next = length_push answered (record { request = request; reply = a.takes.reply }) ∙ ap (λ n. n + 1) size

        -- it doesn't end the script
        pub goes-further : is_last request ≡ false
            → IsBeingVerified past script replies fed after
            (answered ++ record { request = request; reply = a.takes.reply } ∷ []) new
        goes-further more =
            let same = sym (requests-push answered request a.takes.reply) in
            record {
              fed = subst (IsFed script fed after) same (fed-on script (requests_in answered) fed after request t more);
              goes_on = subst (λ (rs : List Request). list_any is_last rs ≡ false) same
                  (any-push is_last (requests_in answered) request v.goes_on more);
              come = come-on past replies answered old v.come request new a;
            }

        -- it does
        pub ended : is_last request ≡ true → (result : Result Verified TranscriptFault) → IsConcluded replies new result
            → IsTold past script replies result
        ended last result is =
            let most = requests-length answered in
            concluded (answered ++ record { request = request; reply = a.takes.reply } ∷ []) new
            (come-on past replies answered old v.come request new a)
            (subst (λ (rs : List Request). AreMeant script rs []) (sym (requests-push answered request a.takes.reply))
            (meant-last script (requests_in answered) v.goes_on request
            (taken-first script (requests_in answered ++ request ∷ []) fed after t.begins)
            (omega (arith, most, size, few)) last))
            result is

        pub shorter-next : length new.left.now ≤ length replies
        shorter-next =
            let c = come-on past replies answered old v.come request new a in
            let sizes = ap length c.texts
            ∙ length-append (text_in (answered ++ record { request = request; reply = a.takes.reply } ∷ []))
            new.left.now in
            omega (arith, sizes)

    -- no request is left
    pub dry : (fed : ℕ) (after : Held) (new : Progress) → IsSpent script (requests_in answered) fed after → new ≡ old
        → count ≤ REQUESTS
        → (result : Result Verified TranscriptFault) → IsConcluded replies new result
        → IsTold past script replies result
    dry fed after new spent same few result is =
        let most = requests-length answered in
        concluded answered old v.come
        (meant-spent script (requests_in answered) v.goes_on _ (spent-all script (requests_in answered) fed after spent)
        (omega (arith, most, size, few)))
        result (subst (λ (p : Progress). IsConcluded replies p result) same is)

    -- as many were answered as a connection has
    pub full : count ≡ REQUESTS → (result : Result Verified TranscriptFault) → IsConcluded replies old result
        → IsTold past script replies result
    full all result is =
        concluded answered old v.come
        (meant-most script (requests_in answered) v.goes_on
        (taken-first script (requests_in answered) from held v.fed.begins)
        (requests-length answered ∙ size ∙ all))
        result is
