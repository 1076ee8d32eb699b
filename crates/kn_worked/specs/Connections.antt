-- Whole connections: the bytes that come in, and those that are written (keynoted's own line protocol).
use Rattle.std.specs.Prelude.{ℕ, ◌≡◌, ◌≤◌, Bool, true, false, List, [], ◌∷◌, ◌++◌, codes}
use Rattle.std.specs.List.{list_any}
use Rattle.kn_history.specs.declared.update.Update.{Update}
use Rattle.kn_history.specs.declared.item.Item.TheVariants.{Add, Remove}
use Rattle.kn_history.specs.History.{loaded_history, addition_by, removal_by}
use Rattle.kn_history.specs.Batches.{batch_by}
use Rattle.kn_reply.specs.Replies.{Reply, Done, Started, Number, PrivateAdded, Added, Value, Batched, PinnedAt, Log}
use Rattle.kn_reply.specs.Replies.{News, Critical, No, NoMemory}
use Rattle.kn_daemon.specs.declared.ended.Ended.TheVariants as E
use Rattle.kn_daemon.specs.Daemon.{DaemonConfig}
use Rattle.kn_daemon.specs.Served.{IsServed}
use Rattle.kn_worked.specs.Texts.{policy_text, policy_assertion, credential_text, credential_assertion}

-- the history behind a policy file of one assertion
abbrev pub policy_history : List Update
policy_history = loaded_history (policy_text ∷ [])

-- a session that asks whether alice may
abbrev pub alice_asks : List ℕ
alice_asks = codes "OPEN\nAUTH 1 alice\nQUERY 1 no,yes\n"

abbrev pub alice_may : List ℕ
alice_may = codes "OK 1 1\nOK\nVALUE 1 yes 1 1\nROW 1 a1 \"POLICY\"\nEND\n"

-- alice may, by the policy's assertion
abbrev pub AliceIsAnswered : Type 0
AliceIsAnswered = (g : DaemonConfig) (caller : ℕ)
    → IsServed g alice_asks alice_may E.Done true policy_history 1 1 caller (1 ∷ [])

abbrev pub is_no_memory : Reply → Bool
is_no_memory Done = false
is_no_memory (Started s version) = false
is_no_memory (Number version) = false
is_no_memory (PrivateAdded k) = false
is_no_memory (Added k version) = false
is_no_memory (Value index name version rows) = false
is_no_memory (Batched first added version) = false
is_no_memory (PinnedAt version newest) = false
is_no_memory (Log n history) = false
is_no_memory (News index name version) = false
is_no_memory (Critical index ids) = false
is_no_memory (No refusal) = false
is_no_memory NoMemory = true

-- Nothing else is written for these bytes, where the caller had seen the policy file's history, which is all that there
-- is, and no reply is `NOMEM`.
abbrev pub AliceIsAnsweredSo : Type 0
AliceIsAnsweredSo = (g : DaemonConfig) (written : List ℕ) (start end caller : ℕ) (stops : List ℕ)
    (s : IsServed g alice_asks written E.Done true policy_history start end caller stops) → 1 ≤ start
    → list_any (λ e. is_no_memory e.reply) s.exchanges ≡ false → written ≡ alice_may

-- the history with a credential that this caller added
abbrev pub longer_history : ℕ → List Update
longer_history caller = policy_history ++ addition_by caller credential_text 2 ∷ []

-- an administrator asks for bob, adds a credential, asks again, pins the new version and asks once more
abbrev pub bob_asks : List ℕ
bob_asks =
    codes "OPEN\nADMIN 733363726574\nAUTH 1 bob\nADD 37\n" ++ credential_text
    ++ codes "\nQUERY 1 no,yes\nPIN 1\nQUERY 1 no,yes\n"

abbrev pub bob_may_then : List ℕ
bob_may_then =
    codes "OK 1 1\nOK\nOK\nOK a2 2\nVALUE 0 no 1 0\nEND\nOK 2\n"
    ++ codes "VALUE 1 yes 2 2\nROW 1 a2 \"alice\"\nROW 1 a1 \"POLICY\"\nEND\n"

-- bob may only where the session is pinned to the version with the credential that was added meanwhile
abbrev pub BobIsAnswered : Type 0
BobIsAnswered = (g : DaemonConfig) (caller : ℕ) → g.secret ≡ codes "s3cret"
    → g.verdict credential_text credential_assertion ≡ 0
    → IsServed g bob_asks bob_may_then E.Done true (longer_history caller) 1 2 caller (1 ∷ 2 ∷ 2 ∷ [])

-- an administrator opens a session
abbrev pub admin_opens : List ℕ
admin_opens = codes "OPEN\nADMIN 733363726574\n"

-- a block of 53 bytes that adds the credential and removes an id of one digit, and the newline behind it
abbrev pub batch_removing : List ℕ → List ℕ
batch_removing id = codes "BATCH 53\nADD 37\n" ++ credential_text ++ codes "\nDROP a" ++ id ++ codes "\n\n"

-- there is no assertion of the id 9
abbrev pub refused_batch_asks : List ℕ
refused_batch_asks = admin_opens ++ batch_removing (codes "9") ++ codes "PIN 1\n"

abbrev pub refused_batch_replies : List ℕ
refused_batch_replies = codes "OK 1 1\nOK\nNO 17 item 2 12 unknown\nOK 1\n"

-- the history refuses the second item of a batch, and then the first is not made either
abbrev pub BatchIsRefused : Type 0
BatchIsRefused = (g : DaemonConfig) (caller : ℕ) → g.secret ≡ codes "s3cret"
    → g.verdict credential_text credential_assertion ≡ 0
    → IsServed g refused_batch_asks refused_batch_replies E.Done true policy_history 1 1 caller (1 ∷ 1 ∷ 1 ∷ [])

-- the history with a batch of this caller that adds the credential and removes the policy's assertion
abbrev pub batched_history : ℕ → List Update
batched_history caller = policy_history ++ batch_by caller 2 (Add credential_text ∷ Remove 1 ∷ []) ∷ []

abbrev pub batch_asks : List ℕ
batch_asks = admin_opens ++ batch_removing (codes "1") ++ codes "DROP a1\nPIN 1\n"

abbrev pub batch_replies : List ℕ
batch_replies = codes "OK 1 1\nOK\nOK a2 1 2\nNO 12 unknown\nOK 2\n"

-- both items of a batch are made by one update
abbrev pub BatchIsMade : Type 0
BatchIsMade = (g : DaemonConfig) (caller : ℕ) → g.secret ≡ codes "s3cret"
    → g.verdict credential_text credential_assertion ≡ 0
    → IsServed g batch_asks batch_replies E.Done true (batched_history caller) 1 2 caller (1 ∷ 2 ∷ 2 ∷ 2 ∷ [])

-- an administrator opens a session and adds the credential
abbrev pub admin_adds : List ℕ
admin_adds = admin_opens ++ codes "ADD 37\n" ++ credential_text ++ codes "\n"

abbrev pub version_asks : List ℕ
version_asks = admin_adds ++ codes "PIN 1 1\nPIN 1 3\n"

abbrev pub version_replies : List ℕ
version_replies = codes "OK 1 1\nOK\nOK a2 2\nOK 1 2\nNO 18 retained 2\n"

-- a session is pinned to the version before the newest one, and not to one that isn't there
abbrev pub VersionIsPinned : Type 0
VersionIsPinned = (g : DaemonConfig) (caller : ℕ) → g.secret ≡ codes "s3cret"
    → g.verdict credential_text credential_assertion ≡ 0
    → IsServed g version_asks version_replies E.Done true (longer_history caller) 1 2 caller (1 ∷ 2 ∷ 2 ∷ 2 ∷ [])

abbrev pub log_asks : List ℕ
log_asks = admin_adds ++ codes "LOG 1\nLOG 3\n"

abbrev pub log_replies : List ℕ
log_replies =
    codes "OK 1 1\nOK\nOK a2 2\nLOG 1 1 2\nUPDATE 0 1\nADD 37\n" ++ credential_text ++ codes "\nEND\nNO 19 ahead 2\n"

-- the update behind the first one is handed on with its caller's number, here 0; a third one isn't there
abbrev pub UpdateIsHandedOn : Type 0
UpdateIsHandedOn = (g : DaemonConfig) → g.secret ≡ codes "s3cret" → g.verdict credential_text credential_assertion ≡ 0
    → IsServed g log_asks log_replies E.Done true (longer_history 0) 1 2 0 (1 ∷ 2 ∷ 2 ∷ 2 ∷ [])

-- the history with the credential, and then without the policy's assertion
abbrev pub shorter_history : ℕ → List Update
shorter_history caller = longer_history caller ++ removal_by caller 1 ∷ []

-- an administrator keeps a query for bob as the standing one, and asks for its news behind an addition and behind a
-- removal
abbrev pub standing_asks : List ℕ
standing_asks =
    codes "OPEN\nADMIN 733363726574\nAUTH 1 bob\nWATCH 1 no,yes\nADD 37\n" ++ credential_text
    ++ codes "\nNEWS 1\nDROP a1\nNEWS 1\nQUERY 1 no,yes\nUNWATCH 1\nNEWS 1\n"

abbrev pub standing_replies : List ℕ
standing_replies =
    codes "OK 1 1\nOK\nOK\nNEWS 0 no 1\nOK a2 2\nNEWS 1 yes 2\nOK 3\nNEWS 0 no 3\n"
    ++ codes "VALUE 0 no 1 0\nEND\nOK\nNO 12 unknown\n"

-- The standing query is answered over the version of each NEWS, while the session stays pinned to its own. There is
-- none behind UNWATCH.
abbrev pub StandingQueryIsTold : Type 0
StandingQueryIsTold = (g : DaemonConfig) (caller : ℕ) → g.secret ≡ codes "s3cret"
    → g.verdict credential_text credential_assertion ≡ 0
    → IsServed g standing_asks standing_replies E.Done true (shorter_history caller) 1 3 caller (1 ∷ 2 ∷ 2 ∷ 3 ∷ 3 ∷ [])

-- a session keeps a query for alice, who then leaves it
abbrev pub kept_asks : List ℕ
kept_asks = codes "OPEN\nAUTH 1 alice\nWATCH 1 no,yes\nUNAUTH 1 alice\nNEWS 1\nQUERY 1 no,yes\n"

abbrev pub kept_replies : List ℕ
kept_replies = codes "OK 1 1\nOK\nNEWS 1 yes 1\nOK\nNEWS 1 yes 1\nVALUE 0 no 1 0\nEND\n"

-- alice still asks in the standing query
abbrev pub RequesterIsKept : Type 0
RequesterIsKept = (g : DaemonConfig) (caller : ℕ)
    → IsServed g kept_asks kept_replies E.Done true policy_history 1 1 caller (1 ∷ 1 ∷ [])

-- a session asserts the credential itself, and asks for bob what is critical
abbrev pub critical_asks : List ℕ
critical_asks = codes "OPEN\nASSERT 1 37\n" ++ credential_text ++ codes "\nAUTH 1 bob\nCRITICAL 1 no,yes\n"

abbrev pub critical_replies : List ℕ
critical_replies = codes "OK 1 1\nOK p1\nOK\nCRITICAL 1 2\nNEED a1\nNEED p1\nEND\n"

-- bob needs the policy's assertion and the session's own
abbrev pub BothAreCritical : Type 0
BothAreCritical = (g : DaemonConfig) (caller : ℕ)
    → IsServed g critical_asks critical_replies E.Done true policy_history 1 1 caller (1 ∷ [])

-- the history behind a policy file with the same assertion twice
abbrev pub doubled_history : List Update
doubled_history = loaded_history (policy_text ∷ policy_text ∷ [])

abbrev pub doubled_asks : List ℕ
doubled_asks = codes "OPEN\nAUTH 1 alice\nCRITICAL 1 no,yes\n"

abbrev pub doubled_replies : List ℕ
doubled_replies = codes "OK 1 2\nOK\nCRITICAL 1 0\nEND\n"

-- alice needs neither of the two
abbrev pub NeitherIsCritical : Type 0
NeitherIsCritical = (g : DaemonConfig) (caller : ℕ)
    → IsServed g doubled_asks doubled_replies E.Done true doubled_history 2 2 caller (2 ∷ [])

-- the history with two batches of the caller 0: the credential comes for the policy's assertion, and then the policy's
-- text again for the credential
abbrev pub replaced_history : List Update
replaced_history = batched_history 0 ++ batch_by 0 3 (Add policy_text ∷ Remove 2 ∷ []) ∷ []

-- an administrator sends a batch, keeps a query for alice, sends the other batch, asks for the news, and at version 1
-- once more, and reads both batches in the log
abbrev pub replacing_asks : List ℕ
replacing_asks =
    codes "ADMIN 733363726574\nBATCH 53\nADD 37\n" ++ credential_text ++ codes "\nDROP a1\n\nOPEN\nAUTH 1 alice\n"
    ++ codes "WATCH 1 no,yes\nBATCH 56\nADD 40\n" ++ policy_text
    ++ codes "\nDROP a2\n\nNEWS 1\nPIN 1 1\nQUERY 1 no,yes\nLOG 1\nBYE\n"

abbrev pub replacing_replies : List ℕ
replacing_replies =
    codes "OK\nOK a2 1 2\nOK 1 2\nOK\nNEWS 0 no 2\nOK a3 1 3\nNEWS 1 yes 3\nOK 1 3\n"
    ++ codes "VALUE 1 yes 1 1\nROW 1 a1 \"POLICY\"\nEND\nLOG 1 2 3\nUPDATE 0 2\nADD 37\n" ++ credential_text
    ++ codes "\nDROP a1\nUPDATE 0 2\nADD 40\n" ++ policy_text ++ codes "\nDROP a2\nEND\nOK\n"

-- Alice loses what she had by the first batch and has it again by the second. Version 1 has it by the assertion that
-- was removed. The connection ends with BYE, whether or not the input has ended too.
abbrev pub BatchesAreSeen : Type 0
BatchesAreSeen = (g : DaemonConfig) (is_over : Bool) → g.secret ≡ codes "s3cret"
    → g.verdict credential_text credential_assertion ≡ 0 → g.verdict policy_text policy_assertion ≡ 0
    → IsServed g replacing_asks replacing_replies E.Done is_over replaced_history 1 3 0 (2 ∷ 2 ∷ 3 ∷ 3 ∷ 3 ∷ 3 ∷ [])
