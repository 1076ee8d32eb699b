-- What is known of words, and of files whose contents are specified.
use Rattle.std.proofs.Common.{◌≡◌, ℕ, ◌<◌, List, [], ◌∷◌, length, refl, sym, ap, ◌∙◌, Option, Some, None}
use Rattle.std.specs.Prelude.{codes, IfSome, IsSomeAnd, option_to_list}
use Rattle.kn_base.specs.declared.limits.TheConstants.{FILE_BYTES}
use Rattle.kn_outside.specs.Seen.{FilesSeen}
use Rattle.kn_words.specs.Names.{AskNames, ask_order, CheckNames, in_order, VerifyNames, verify_order}
use Rattle.kn_words.specs.Orders.{Order}
use Rattle.kn_inputs.specs.Held.{HasContent, IsTooLarge}
use Rattle.kn_words.specs.Commands.{AskFor, CheckFor, FollowFor, ServeFor, VerifyFor}
use Rattle.keynoted.specs.Calling.{Holds, HoldsWithin, HoldsTooMuch, FileCallsFor, TooLarge, Failed, Passed}

-- a key file that is named or isn't
same_keys : (a b : Option (List ℕ)) → option_to_list a ≡ option_to_list b → a ≡ b
same_keys None None e = refl
same_keys None (Some y) e = absurd (cc)
same_keys (Some x) None e = absurd (cc)
same_keys (Some x) (Some y) e = let same : x ≡ y = cc in ap (λ (n : List ℕ). Some n) same

-- the words name their files
pub same_ask : (given : List (List ℕ)) (a b : AskNames) → AskFor given a → AskFor given b → a ≡ b
same_ask given a b first second =
    let both : codes "ask" ∷ ask_order a ≡ codes "ask" ∷ ask_order b = sym first ∙ second in
    let policy : a.policy ≡ b.policy = cc in
    let rest : option_to_list a.keys ≡ option_to_list b.keys = cc in
    ap (λ (p : List ℕ). record { policy = p; keys = a.keys }) policy
    ∙ ap (λ (k : Option (List ℕ)). record { policy = b.policy; keys = k }) (same_keys a.keys b.keys rest)

pub same_names : (given : List (List ℕ)) (a b : CheckNames) → CheckFor given a → CheckFor given b → a ≡ b
same_names given a b first second =
    let both : codes "check" ∷ in_order a ≡ codes "check" ∷ in_order b = sym first ∙ second in
    let policy : a.policy ≡ b.policy = cc in
    let script : a.script ≡ b.script = cc in
    let reply : a.reply ≡ b.reply = cc in
    ap (λ (p : List ℕ). record { policy = p; script = a.script; reply = a.reply }) policy
    ∙ ap (λ (t : List ℕ). record { policy = b.policy; script = t; reply = a.reply }) script
    ∙ ap (λ (r : List ℕ). record { policy = b.policy; script = b.script; reply = r }) reply

pub same_transcript : (given : List (List ℕ)) (a b : VerifyNames) → VerifyFor given a → VerifyFor given b → a ≡ b
same_transcript given a b first second =
    let both : codes "verify" ∷ verify_order a ≡ codes "verify" ∷ verify_order b = sym first ∙ second in
    let policy : a.policy ≡ b.policy = cc in
    let script : a.script ≡ b.script = cc in
    let replies : a.replies ≡ b.replies = cc in
    ap (λ (p : List ℕ). record { policy = p; script = a.script; replies = a.replies }) policy
    ∙ ap (λ (t : List ℕ). record { policy = b.policy; script = t; replies = a.replies }) script
    ∙ ap (λ (r : List ℕ). record { policy = b.policy; script = b.script; replies = r }) replies

pub same_log : (given : List (List ℕ)) (a b : List ℕ) → FollowFor given a → FollowFor given b → a ≡ b
same_log given a b first second =
    let both : codes "follow" ∷ a ∷ [] ≡ codes "follow" ∷ b ∷ [] = sym first ∙ second in
    cc

-- the words of `serve` name one policy file, and one key file or none
pub same_files : (given : List (List ℕ)) (a b : Order) → ServeFor given a → ServeFor given b → a.files ≡ b.files
same_files given a b first second =
    let both : Some a.files.policy ≡ Some b.files.policy = sym first.values.policy ∙ second.values.policy in
    let policy : a.files.policy ≡ b.files.policy = cc in
    let keys : a.files.keys ≡ b.files.keys = sym first.values.keys ∙ second.values.keys in
    ap (λ (p : List ℕ). record { policy = p; keys = a.files.keys }) policy
    ∙ ap (λ (k : Option (List ℕ)). record { policy = b.files.policy; keys = k }) keys

-- the contents are specified
abbrev pub IsSpecified : FilesSeen → Type 0
IsSpecified f = IsSomeAnd f.content (λ content_of. Unit {0})

told_there : (f : FilesSeen) (name bytes : List ℕ) → Holds f name bytes → IsSpecified f
told_there f name bytes holds = by f.content holds
  where
    by : (specified : Option (List ℕ → Option (List ℕ))) → IsSomeAnd specified (λ c. c name ≡ Some bytes)
        → IsSomeAnd specified (λ c. Unit {0})
    by None x = absurd x
    by (Some c) x = tt

-- a file that leads to a status is specified
pub told_by : (f : FilesSeen) (name : List ℕ) (Fails : List ℕ → Type 0) (failed : ℕ) (On : List ℕ → ℕ → Type 0)
    (status : ℕ) → FileCallsFor f name Fails failed On status → IsSpecified f
told_by f name Fails failed On status (TooLarge bytes h e) = told_there f name bytes h.0
told_by f name Fails failed On status (Failed bytes h fails e) = told_there f name bytes h.0
told_by f name Fails failed On status (Passed bytes h on) = told_there f name bytes h.0

-- what was read from a specified file is its content
pub held : (f : FilesSeen) (name bytes : List ℕ) → IsSpecified f → HasContent f name bytes → HoldsWithin f name bytes
held f name bytes specified has = (by f.content specified has.content, has.within)
  where
    by : (specified : Option (List ℕ → Option (List ℕ))) → IsSomeAnd specified (λ c. Unit {0})
        → IfSome specified (λ c. c name ≡ Some bytes) → IsSomeAnd specified (λ c. c name ≡ Some bytes)
    by None x h = absurd x
    by (Some c) x h = h

-- a specified file that is too large has too many bytes
pub held_too_much : (f : FilesSeen) (name : List ℕ) → IsSpecified f → IsTooLarge f name
    → (bytes : List ℕ) × HoldsTooMuch f name bytes
held_too_much f name specified large =
    let found = by f.content specified large in
    (found.0, (found.1, found.2))
  where
    in_file : (content : Option (List ℕ)) → IsSomeAnd content (λ bytes. FILE_BYTES < length bytes)
        → (bytes : List ℕ) × (content ≡ Some bytes) × (FILE_BYTES < length bytes)
    in_file None h = absurd h
    in_file (Some bytes) h = (bytes, refl, h)

    by : (specified : Option (List ℕ → Option (List ℕ))) → IsSomeAnd specified (λ c. Unit {0})
        → IfSome specified (λ c. IsSomeAnd (c name) (λ bytes. FILE_BYTES < length bytes))
        → (bytes : List ℕ) × IsSomeAnd specified (λ c. c name ≡ Some bytes) × (FILE_BYTES < length bytes)
    by None x h = absurd x
    by (Some c) x h = in_file (c name) h
