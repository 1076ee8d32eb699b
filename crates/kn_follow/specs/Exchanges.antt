-- One request and its answer, and one round of a pull, as the parts of a pull show them.
use Rattle.std.specs.Prelude.{ℕ, ◌≡◌, ◌≤◌, List, [], ◌++◌, length, take, IfSome}
use Rattle.kn_outside.specs.Seen.{LinkSeen}
use Rattle.kn_outside.specs.Faults.{Rose}
use Rattle.kn_history.specs.declared.update.Update.{Update}
use Rattle.kn_follow.specs.declared.pull_fault.PullFault.{PullFault}
use Rattle.kn_follow.specs.declared.pull_fault.PullFault.TheVariants.{Read, Write, Denied, Ended, Long, Follow}
use Rattle.kn_follow.specs.declared.pull_fault.PullFault.TheVariants.{Unserved, NoMemory}
use Rattle.kn_follow.specs.declared.request.Request.{Request}
use Rattle.kn_follow.specs.declared.request.Request.TheVariants.{Log}
use Rattle.kn_follow.specs.Following.{IsApplied}
use Rattle.kn_follow.specs.Answers.{log_line, IsAnswer}
use Rattle.kn_follow.specs.Pulling.{Gains, Rounds, IsLastReply, IsUnanswered, Stops}

-- a request was written and its answer came: so many of the bytes that are held now
pub record IsAnswered (request : Request) (line old new : List ℕ) (l l' : LinkSeen) (count : ℕ) : Type 0 where
  pub piece : List ℕ
  pub gains : Gains l l' piece line
  pub came : new ≡ old ++ piece
  pub within : count ≤ length new
  pub answer : IsAnswer request (take count new)
  pub calm : l'.faults ≡ l.faults

-- a request was written, these bytes were its answer, and they are held no more
pub record Passes (request : Request) (line answer old new : List ℕ) (l l' : LinkSeen) : Type 0 where
  pub piece : List ℕ
  pub gains : Gains l l' piece line
  pub came : old ++ piece ≡ answer ++ new
  pub whole : IsAnswer request answer
  pub calm : l'.faults ≡ l.faults

-- the pull ends at this request, where these bytes were held and the replica was so
pub record IsStopped (request : Request) (line held : List ℕ) (l l' : LinkSeen) (old new : List Update)
    (fault : PullFault) : Type 0 where
  pub piece : List ℕ
  pub written : List ℕ
  pub gains : Gains l l' piece written
  pub stops : Stops request line written (held ++ piece) l l' old new fault

-- no answer came
pub record IsNotAnswered (request : Request) (line held : List ℕ) (l l' : LinkSeen) (fault : PullFault) : Type 0 where
  pub piece : List ℕ
  pub written : List ℕ
  pub gains : Gains l l' piece written
  pub cause : IsUnanswered request line written (held ++ piece) l l' fault

-- a piece of so many bytes came; there is none only at the end of the input
pub record Grows (old new : List ℕ) (l l' : LinkSeen) (count : ℕ) : Type 0 where
  pub piece : List ℕ
  pub gains : Gains l l' piece []
  pub came : new ≡ old ++ piece
  pub size : count ≡ length piece
  pub over : count ≡ 0 → IfSome l'.left (λ left. left ≡ [])
  pub calm : l'.faults ≡ l.faults

-- no piece came: the read failed, or memory ran out for the piece
abbrev pub IsNotRead : LinkSeen → LinkSeen → PullFault → Type 0
IsNotRead l l' Read = Gains l l' [] [] × Rose l.faults l'.faults
IsNotRead l l' NoMemory = (piece : List ℕ) × Gains l l' piece [] × (l'.faults ≡ l.faults)
IsNotRead l l' Write = ⊥
IsNotRead l l' (Denied code) = ⊥
IsNotRead l l' (Ended n) = ⊥
IsNotRead l l' (Long n) = ⊥
IsNotRead l l' (Follow fault) = ⊥
IsNotRead l l' Unserved = ⊥

-- one reply was applied, which was asked for with the number of updates held
pub record IsRound (old new : List Update) (held held' : List ℕ) (l l' : LinkSeen) (count : ℕ) : Type 0 where
  pub answer : List ℕ
  pub passes : Passes Log (log_line (length old)) answer held held' l l'
  pub applied : IsApplied old answer count new

-- replies were applied up to one with no updates
pub record IsFollowed (old new : List Update) (held held' : List ℕ) (l l' : LinkSeen) : Type 0 where
  pub piece : List ℕ
  pub lines : List ℕ
  pub texts : List ℕ
  pub replies : List (List ℕ)
  pub rounds : Rounds old lines texts new replies
  pub reply : List ℕ
  pub last : IsLastReply new reply
  pub gains : Gains l l' piece (lines ++ log_line (length new))
  pub came : held ++ piece ≡ (texts ++ reply) ++ held'
  pub calm : l'.faults ≡ l.faults

-- replies were applied, and the next request stopped the pull
pub record IsUnfollowed (old new : List Update) (held : List ℕ) (l l' : LinkSeen) (fault : PullFault) : Type 0 where
  pub lines : List ℕ
  pub texts : List ℕ
  pub replies : List (List ℕ)
  pub mid : List Update
  pub rounds : Rounds old lines texts mid replies
  pub piece : List ℕ
  pub written : List ℕ
  pub rest : List ℕ
  pub gains : Gains l l' piece (lines ++ written)
  pub came : held ++ piece ≡ texts ++ rest
  pub stops : Stops Log (log_line (length mid)) written rest l l' mid new fault
