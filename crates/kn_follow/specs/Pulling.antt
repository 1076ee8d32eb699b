-- A pull: what it asks, what is answered, what that makes of the replica, and why it ends (keynoted's own).
use Rattle.std.specs.Prelude.{ℕ, ◌≡◌, ◌≢◌, ◌⊎◌, ◌+◌, ◌<◌, ◌≤◌, List, [], ◌∷◌, ◌++◌, length, take, IfSome}
use Rattle.kn_outside.specs.Seen.{LinkSeen}
use Rattle.kn_outside.specs.SpecifiedBytes.{more, before}
use Rattle.kn_outside.specs.Faults.{Rose}
use Rattle.kn_history.specs.declared.update.Update.{Update}
use Rattle.kn_follow.specs.declared.fault.FollowFault.{FollowFault}
use Rattle.kn_follow.specs.declared.fault.FollowFault.TheVariants as F
use Rattle.kn_follow.specs.declared.pull_fault.PullFault.{PullFault}
use Rattle.kn_follow.specs.declared.pull_fault.PullFault.TheVariants.{Read, Write, Denied, Ended, Long, Follow}
use Rattle.kn_follow.specs.declared.pull_fault.PullFault.TheVariants.{Unserved, NoMemory}
use Rattle.kn_follow.specs.declared.reply.TheConstants.{REPLY_BYTES}
use Rattle.kn_follow.specs.declared.request.Request.{Request}
use Rattle.kn_follow.specs.declared.request.Request.TheVariants.{Admin, Log, Bye}
use Rattle.kn_follow.specs.Following.{IsApplied, IsFollowFault}
use Rattle.kn_follow.specs.Answers.{admin_line, log_line, bye_line, request_line, ok_line, nomem_line, IsNoLine}
use Rattle.kn_follow.specs.Answers.{IsAnswer, Awaits}

-- these bytes were taken of the input, which are its next ones, and these were written
pub record Gains (l l' : LinkSeen) (taken written : List ℕ) : Type 0 where
  pub took : l'.taken ≡ more taken l.taken
  pub left : l.left ≡ before taken l'.left
  pub wrote : l'.written ≡ more written l.written
  pub later : l.faults ≤ l'.faults

-- Replies of one update at least were applied one after the other. Each was asked for with the number of updates held.
abbrev pub Rounds : List Update → List ℕ → List ℕ → List Update → List (List ℕ) → Type 0
Rounds old asked answered new [] = (asked ≡ []) × (answered ≡ []) × (new ≡ old)
Rounds old asked answered new (reply ∷ replies) =
    (count : ℕ) × (mid : List Update) × (others : List ℕ) × (behind : List ℕ)
    × IsAnswer Log reply × (0 < count) × IsApplied old reply count mid × Rounds mid others behind new replies
    × (asked ≡ log_line (length old) ++ others) × (answered ≡ reply ++ behind)

-- the last reply hands on no update
pub record IsLastReply (held : List Update) (reply : List ℕ) : Type 0 where
  pub answer : IsAnswer Log reply
  pub applied : IsApplied held reply 0 held

-- What was asked and answered when this request comes next: first ADMIN; then LOG, once ADMIN was granted, and again
-- behind each reply that handed on updates; then BYE, once a reply had none.
pub record IsGranted (secret : List ℕ) (old : List Update) (asked answered : List ℕ) (held : List Update) : Type 0 where
  pub lines : List ℕ
  pub texts : List ℕ
  pub replies : List (List ℕ)
  pub rounds : Rounds old lines texts held replies
  pub asks : asked ≡ admin_line secret ++ lines
  pub answers : answered ≡ ok_line ++ texts

pub record IsServed (secret : List ℕ) (old : List Update) (asked answered : List ℕ) (held : List Update) : Type 0 where
  pub lines : List ℕ
  pub texts : List ℕ
  pub granted : IsGranted secret old lines texts held
  pub reply : List ℕ
  pub last : IsLastReply held reply
  pub asks : asked ≡ lines ++ log_line (length held)
  pub answers : answered ≡ texts ++ reply

abbrev pub IsUnderway : List ℕ → List Update → Request → List ℕ → List ℕ → List Update → Type 0
IsUnderway secret old Admin asked answered held = (asked ≡ []) × (answered ≡ []) × (held ≡ old)
IsUnderway secret old Log asked answered held = IsGranted secret old asked answered held
IsUnderway secret old Bye asked answered held = IsServed secret old asked answered held

-- BYE was answered by `OK`; no call of the link failed. Of what was taken, the rest belongs to no answer.
pub record IsPulled (secret : List ℕ) (old new : List Update) (l l' : LinkSeen) (number : ℕ) : Type 0 where
  pub asked : List ℕ
  pub answered : List ℕ
  pub rest : List ℕ
  pub served : IsServed secret old asked answered new
  pub gains : Gains l l' ((answered ++ ok_line) ++ rest) (asked ++ bye_line)
  pub calm : l'.faults ≡ l.faults
  pub length_is : number ≡ length new

-- Why no answer to a request came, of whose line this was written, and for whose answer these bytes were there.
abbrev pub IsUnanswered : Request → List ℕ → List ℕ → List ℕ → LinkSeen → LinkSeen → PullFault → Type 0
IsUnanswered request line written held l l' Read =
    (written ≡ line) × Awaits request held × (length held ≤ REPLY_BYTES) × Rose l.faults l'.faults
IsUnanswered request line written held l l' Write =
    (n : ℕ) × (n < length line) × (written ≡ take n line) × Rose l.faults l'.faults
IsUnanswered request line written held l l' (Ended n) =
    (written ≡ line) × Awaits request held × (length held ≤ REPLY_BYTES) × (n ≡ length held)
    × IfSome l'.left (λ left. left ≡ []) × (l'.faults ≡ l.faults)
IsUnanswered request line written held l l' (Long n) =
    (written ≡ line) × Awaits request held × (REPLY_BYTES < length held) × (n ≡ REPLY_BYTES + 1)
    × (l'.faults ≡ l.faults)
IsUnanswered request line written held l l' NoMemory = ((written ≡ []) ⊎ (written ≡ line)) × (l'.faults ≡ l.faults)
IsUnanswered request line written held l l' (Denied code) = ⊥
IsUnanswered request line written held l l' (Follow fault) = ⊥
IsUnanswered request line written held l l' Unserved = ⊥

-- the answer is no `NO` line
abbrev pub IsNoRefusal : List ℕ → Type 0
IsNoRefusal answer = (code : ℕ) → IsNoLine answer code → ⊥

-- why an answer that refuses nothing is no good one: the reply isn't applied, or ADMIN or BYE isn't answered by `OK`
abbrev pub IsUnfit : Request → List Update → List ℕ → FollowFault → List Update → Type 0
IsUnfit Admin old answer fault new = (answer ≢ ok_line) × (fault ≡ F.Line 0) × (new ≡ old)
IsUnfit Log old answer fault new = (answer ≢ nomem_line) × (fault ≢ F.NoMemory) × IsFollowFault old answer fault new
IsUnfit Bye old answer fault new = (answer ≢ ok_line) × (fault ≡ F.Line 0) × (new ≡ old)

-- why an answer ends the pull, and what the replica then is
abbrev pub IsCause : Request → List Update → List ℕ → PullFault → List Update → Type 0
IsCause request old answer (Denied code) new = IsNoLine answer code × (new ≡ old)
IsCause request old answer (Follow fault) new = IsNoRefusal answer × IsUnfit request old answer fault new
IsCause request old answer Unserved new = (request ≡ Log) × (answer ≡ nomem_line) × (new ≡ old)
IsCause request old answer NoMemory new = (request ≡ Log) × IsFollowFault old answer F.NoMemory new
IsCause request old answer Read new = ⊥
IsCause request old answer Write new = ⊥
IsCause request old answer (Ended n) new = ⊥
IsCause request old answer (Long n) new = ⊥

-- the pull ends by the answer to a request; of the bytes that were there, the rest belongs to no answer
pub record IsEndedBy (request : Request) (line written held : List ℕ) (l l' : LinkSeen) (old new : List Update)
    (fault : PullFault) : Type 0 where
  pub answer : List ℕ
  pub rest : List ℕ
  pub asked : written ≡ line
  pub cut : held ≡ answer ++ rest
  pub whole : IsAnswer request answer
  pub cause : IsCause request old answer fault new
  pub calm : l'.faults ≡ l.faults

-- the pull ends without an answer to a request
pub record IsCutOff (request : Request) (line written held : List ℕ) (l l' : LinkSeen) (old new : List Update)
    (fault : PullFault) : Type 0 where
  pub cause : IsUnanswered request line written held l l' fault
  pub kept : new ≡ old

abbrev pub Stops : Request → List ℕ → List ℕ → List ℕ → LinkSeen → LinkSeen → List Update → List Update → PullFault
    → Type 0
Stops request line written held l l' old new fault =
    IsCutOff request line written held l l' old new fault ⊎ IsEndedBy request line written held l l' old new fault

-- Why a pull ends before BYE was answered: at this request, for whose answer `held` was there. What replies before it
-- made of the replica stands.
pub record IsPullFault (secret : List ℕ) (old new : List Update) (l l' : LinkSeen) (fault : PullFault) : Type 0 where
  pub request : Request
  pub asked : List ℕ
  pub answered : List ℕ
  pub mid : List Update
  pub underway : IsUnderway secret old request asked answered mid
  pub written : List ℕ
  pub held : List ℕ
  pub gains : Gains l l' (answered ++ held) (asked ++ written)
  pub stops : Stops request (request_line request secret mid) written held l l' mid new fault
