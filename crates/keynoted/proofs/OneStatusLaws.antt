-- What files lead to is one status.
use Rattle.std.proofs.Common.{◌≡◌, ℕ, ◌≤◌, inl, List, length, sym, ◌∙◌, subst, arith, Option, Some, None}
use Rattle.std.specs.Prelude.{IsSomeAnd}
use Rattle.kn_base.specs.declared.limits.TheConstants.{FILE_BYTES}
use Rattle.kn_outside.specs.Seen.{FilesSeen}
use Rattle.kn_auth.specs.KeyFiles.{IsKeyFile}
use Rattle.kn_auth.specs.declared.key_file.KeyFile.{KeyFile}
use Rattle.kn_files.specs.Pieces.{pieces_of}
use Rattle.kn_follow.specs.Files.{IsLogFile}
use Rattle.kn_proof.specs.declared.reply.ReadReply.{ReadReply}
use Rattle.kn_session.specs.Sessions.{Session}
use Rattle.kn_history.specs.declared.update.Update.{Update}
use Rattle.kn_history.specs.History.{loaded_history}
use Rattle.kn_history.specs.Loading.{IsLoadable}
use Rattle.kn_play.specs.LastQueries.{Means, OneQueryOfScript}
use Rattle.kn_words.specs.Names.{AskNames, CheckNames, VerifyNames}
use Rattle.keynoted.specs.Calling.{Holds, HoldsWithin, HoldsTooMuch, FileCallsFor, TooLarge, Failed, Passed}
use Rattle.keynoted.specs.Calling.{KeysCallFor}
use Rattle.keynoted.specs.Calling.{AskCallsFor, IsTextOfProof, ReplyCallsFor, MeansNothing, ScriptCallsFor}
use Rattle.keynoted.specs.Calling.{CheckCallsFor, LogCallsFor}
use Rattle.keynoted.specs.Calling.{IsAccepted, RepliesCallFor, TranscriptScriptCallsFor, TranscriptCallsFor, EndsWith}

-- a specified file has one content
holds_once : (f : FilesSeen) (name a b : List ℕ) → Holds f name a → Holds f name b → a ≡ b
holds_once f name a b first second = by f.content first second
  where
    by : (specified : Option (List ℕ → Option (List ℕ))) → IsSomeAnd specified (λ c. c name ≡ Some a)
        → IsSomeAnd specified (λ c. c name ≡ Some b) → a ≡ b
    by None x y = absurd x
    by (Some c) x y = let both : Some a ≡ Some b = sym x ∙ y in cc

-- which is too large or isn't
not_both : (f : FilesSeen) (name a b : List ℕ) → HoldsTooMuch f name a → HoldsWithin f name b → ⊥
not_both f name a b large small =
    let within : length a ≤ FILE_BYTES =
    subst (λ (x : List ℕ). length x ≤ FILE_BYTES) (holds_once f name b a small.0 large.0) small.1 in
    let over = large.1 in
    omega arith

same_content : (f : FilesSeen) (name a b : List ℕ) → HoldsWithin f name a → HoldsWithin f name b → a ≡ b
same_content f name a b first second = holds_once f name a b first.0 second.0

module _ (f : FilesSeen) (name : List ℕ) (Fails : List ℕ → Type 0) (failed : ℕ) (On Next : List ℕ → ℕ → Type 0)
    (status other : ℕ) (apart : (bytes : List ℕ) → Fails bytes → On bytes status → ⊥)
    (apart' : (bytes : List ℕ) → Fails bytes → Next bytes other → ⊥)
    (once : (bytes : List ℕ) → On bytes status → Next bytes other → EndsWith status other) where
  -- a file that is tried leads to one status
  pub calls_once : FileCallsFor f name Fails failed On status → FileCallsFor f name Fails failed Next other
      → EndsWith status other
  calls_once (TooLarge a h e) (TooLarge b h' e') = inl (e' ∙ sym e)
  calls_once (TooLarge a h e) (Failed b h' fails e') = absurd (not_both f name a b h h')
  calls_once (TooLarge a h e) (Passed b h' on) = absurd (not_both f name a b h h')
  calls_once (Failed a h fails e) (TooLarge b h' e') = absurd (not_both f name b a h' h)
  calls_once (Failed a h fails e) (Failed b h' fails' e') = inl (e' ∙ sym e)
  calls_once (Failed a h fails e) (Passed b h' on) =
      absurd (apart' b (subst Fails (same_content f name a b h h') fails) on)
  calls_once (Passed a h on) (TooLarge b h' e') = absurd (not_both f name b a h' h)
  calls_once (Passed a h on) (Failed b h' fails e') =
      absurd (apart a (subst Fails (same_content f name b a h' h) fails) on)
  calls_once (Passed a h on) (Passed b h' on') =
      once b (subst (λ (x : List ℕ). On x status) (same_content f name a b h h') on) on'

-- so do a key file, where one is named
module _ (f : FilesSeen) (On Next : ℕ → Type 0) (status other : ℕ)
    (once : On status → Next other → EndsWith status other) where
  keys_once : (name : Option (List ℕ)) → KeysCallFor f name On status → KeysCallFor f name Next other
      → EndsWith status other
  keys_once None a b = once a b
  keys_once (Some name) a b =
      calls_once f name (λ text. (keys : KeyFile) → ¬ IsKeyFile text keys) 8
      (λ text next. (keys : KeyFile) × IsKeyFile text keys × On next)
      (λ text next. (keys : KeyFile) × IsKeyFile text keys × Next next) status other
      (λ text fails on. fails on.0 on.1) (λ text fails on. fails on.0 on.1) (λ text on on'. once on.2 on'.2) a b

  -- the files of `ask`
  pub ask_once : (names : AskNames) → AskCallsFor f names On status → AskCallsFor f names Next other
      → EndsWith status other
  ask_once names a b =
      calls_once f names.policy (λ bytes. ¬ IsLoadable (pieces_of bytes)) 3
      (λ bytes next. IsLoadable (pieces_of bytes) × KeysCallFor f names.keys On next)
      (λ bytes next. IsLoadable (pieces_of bytes) × KeysCallFor f names.keys Next next) status other
      (λ bytes fails on. fails on.0) (λ bytes fails on. fails on.0)
      (λ bytes on on'. keys_once names.keys on.1 on'.1) a b

-- the file of `follow`
pub log_once : (f : FilesSeen) (name : List ℕ) (status other : ℕ) → LogCallsFor f name status → LogCallsFor f name other
    → EndsWith status other
log_once f name status other a b =
    calls_once f name (λ log. (replica : List Update) → ¬ IsLogFile log replica) 11
    (λ log next. (replica : List Update) × IsLogFile log replica × (next ≡ 0))
    (λ log next. (replica : List Update) × IsLogFile log replica × (next ≡ 0)) status other
    (λ log fails on. fails on.0 on.1) (λ log fails on. fails on.0 on.1) (λ log on on'. inl (on'.2 ∙ sym on.2)) a b

-- the files of `verify`
module _ (f : FilesSeen) (names : VerifyNames) (status other : ℕ) where
  replies_once : (bytes script : List ℕ) → RepliesCallFor f names.replies bytes script status
      → RepliesCallFor f names.replies bytes script other → EndsWith status other
  replies_once bytes script a b =
      calls_once f names.replies (λ replies. ¬ IsAccepted bytes script replies) 12
      (λ replies next. IsAccepted bytes script replies × (next ≡ 0))
      (λ replies next. IsAccepted bytes script replies × (next ≡ 0)) status other
      (λ replies fails on. fails on.0) (λ replies fails on. fails on.0) (λ replies on on'. inl (on'.1 ∙ sym on.1)) a b

  any_once : (bytes : List ℕ) → TranscriptScriptCallsFor f names bytes status
      → TranscriptScriptCallsFor f names bytes other
      → EndsWith status other
  any_once bytes a b =
      calls_once f names.script (λ script. ⊥) 12 (λ script on. RepliesCallFor f names.replies bytes script on)
      (λ script on. RepliesCallFor f names.replies bytes script on) status other
      (λ script fails on. fails) (λ script fails on. fails) (λ script on on'. replies_once bytes script on on') a b

  pub transcript_once : TranscriptCallsFor f names status → TranscriptCallsFor f names other → EndsWith status other
  transcript_once a b =
      calls_once f names.policy (λ bytes. ¬ IsLoadable (pieces_of bytes)) 3
      (λ bytes next. IsLoadable (pieces_of bytes) × TranscriptScriptCallsFor f names bytes next)
      (λ bytes next. IsLoadable (pieces_of bytes) × TranscriptScriptCallsFor f names bytes next) status other
      (λ bytes fails on. fails on.0) (λ bytes fails on. fails on.0) (λ bytes on on'. any_once bytes on.1 on'.1) a b

module _ (law : OneQueryOfScript) (f : FilesSeen) (names : CheckNames) (status other : ℕ) where
  -- the reply to a query
  reply_once : (session : Session) (values : List (List ℕ)) → ReplyCallsFor f names.reply session values status
      → ReplyCallsFor f names.reply session values other → EndsWith status other
  reply_once session values a b =
      calls_once f names.reply (λ text. (reply : ReadReply) → ¬ IsTextOfProof session values text reply) 6
      (λ text next. (reply : ReadReply) × IsTextOfProof session values text reply × (next ≡ 0))
      (λ text next. (reply : ReadReply) × IsTextOfProof session values text reply × (next ≡ 0)) status other
      (λ text fails on. fails on.0 on.1) (λ text fails on. fails on.0 on.1) (λ text on on'. inl (on'.2 ∙ sym on.2)) a b

  -- the script means one query
  abbrev ScriptOn : List ℕ → List ℕ → ℕ → Type 0
  ScriptOn bytes script next = (session : Session) × (values : List (List ℕ))
      × Means (loaded_history (pieces_of bytes)) script session values × ReplyCallsFor f names.reply session values next

  one_script : (bytes script : List ℕ) → ScriptOn bytes script status → ScriptOn bytes script other
      → EndsWith status other
  one_script bytes script (session, values, means, leads) (session', values', means', leads') =
      let same = law (loaded_history (pieces_of bytes)) script session session' values values' means means' in
      reply_once session' values'
      (subst (λ (v : List (List ℕ)). ReplyCallsFor f names.reply session' v status) same.1
      (subst (λ (s : Session). ReplyCallsFor f names.reply s values status) same.0 leads)) leads'

  script_once : (bytes : List ℕ) → ScriptCallsFor f names bytes status → ScriptCallsFor f names bytes other
      → EndsWith status other
  script_once bytes a b =
      calls_once f names.script (λ script. MeansNothing bytes script) 10
      (λ script next. ScriptOn bytes script next) (λ script next. ScriptOn bytes script next) status other
      (λ script fails on. fails on.0 on.1 on.2) (λ script fails on. fails on.0 on.1 on.2) (one_script bytes) a b

  -- the files of `check`
  pub check_once : CheckCallsFor f names status → CheckCallsFor f names other → EndsWith status other
  check_once a b =
      calls_once f names.policy (λ bytes. ¬ IsLoadable (pieces_of bytes)) 3
      (λ bytes next. IsLoadable (pieces_of bytes) × ScriptCallsFor f names bytes next)
      (λ bytes next. IsLoadable (pieces_of bytes) × ScriptCallsFor f names bytes next) status other
      (λ bytes fails on. fails on.0) (λ bytes fails on. fails on.0) (λ bytes on on'. script_once bytes on.1 on'.1) a b
