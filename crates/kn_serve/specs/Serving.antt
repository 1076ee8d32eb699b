-- A connection served, as its call shows it (keynoted's own).
use Rattle.std.specs.Prelude.{ℕ, ◌≡◌, ◌≢◌, ◌≤◌, ◌<◌, ◌⊎◌, Bool, true, false, List, [], length, Option, Some, None, ◌==◌}
use Rattle.std.specs.List.{list_any, last_or}
use Rattle.kn_base.specs.declared.limits.TheConstants.{REQUESTS}
use Rattle.kn_outside.specs.Seen.{LinkSeen}
use Rattle.kn_outside.specs.SpecifiedBytes.{more, before}
use Rattle.kn_outside.specs.Reading.{Reads, Fails}
use Rattle.kn_outside.specs.Faults.{Rose, count_up}
use Rattle.kn_history.specs.declared.update.Update.{Update}
use Rattle.kn_wire.specs.Requests.{Request, Bye, Takes}
use Rattle.kn_wire.specs.Feeding.{Held, with_piece}
use Rattle.kn_daemon.specs.declared.ended.Ended.{Ended}
use Rattle.kn_daemon.specs.declared.ended.Ended.TheVariants as E
use Rattle.kn_daemon.specs.Daemon.{DaemonConfig}
use Rattle.kn_daemon.specs.Served.{IsServed, is_block}
use Rattle.kn_daemon.specs.Underway.{IsUnderway}
use Rattle.kn_registry.specs.Passes.{PassSeen, Moves}
use Rattle.kn_serve.specs.Handling.{Moment}
use Rattle.kn_serve.specs.declared.filling.Fill.{Fill}
use Rattle.kn_serve.specs.declared.filling.Fill.TheVariants.{More, Failed, End}

-- the input has ended, if the link tells
abbrev pub is_over : Option (List ℕ) → Bool
is_over None = true
is_over (Some left) = length left == 0

-- more bytes were read, one at least, and are held, or a read failed, or the input has ended
abbrev pub Fills : Held → Held → LinkSeen → LinkSeen → Fill → Type 0
Fills h h' l l' More = (piece : List ℕ) × (h' ≡ with_piece h piece) × Reads piece l l' × (piece ≢ [])
Fills h h' l l' Failed = (h' ≡ h) × Fails l l' × (l.faults ≤ l'.faults)
Fills h h' l l' End = (h' ≡ h) × Reads [] l l' × (is_over l'.left ≡ true)

-- What a call has taken, written and seen so far. What it took was the next of the input.
pub record Gains (v w : PassSeen) (l l' : LinkSeen) (taken written : List ℕ) (stops : List ℕ) : Type 0 where
  pub seen : List Update
  pub own : List Update
  pub moves : Moves v w seen own stops
  pub took : l'.taken ≡ more taken l.taken
  pub left : l.left ≡ before taken l'.left
  pub wrote : l'.written ≡ more written l.written
  pub later : l.faults ≤ l'.faults

-- What holds between two requests, where the pass and the link were so at first; no call of the link has failed.
pub record Serving (g : DaemonConfig) (v : PassSeen) (l : LinkSeen) (m : Moment) (held : Held) (answered : ℕ) :
    Type 0 where
  pub taken : List ℕ
  pub written : List ℕ
  pub stops : List ℕ
  pub gains : Gains v m.pass l m.link taken written stops
  pub underway : IsUnderway g taken written m.pass.seen (length v.seen) v.number stops m.state held answered
  pub calm : m.link.faults ≡ l.faults

-- A fault has a cause, and at every other end no call of the link has failed; when out of memory nothing was
-- read or written.
abbrev pub HasCause : Ended → LinkSeen → LinkSeen → Type 0
HasCause E.Memory l l' = l' ≡ l
HasCause E.ReadFault l l' = Rose l.faults l'.faults
HasCause E.WriteFault l l' = Rose l.faults l'.faults
HasCause ended l l' = l'.faults ≡ l.faults

-- The call has served the connection: what it took and wrote, what the pass has seen and where it had the turn. When
-- out of memory the pass is as before.
pub record Serves (g : DaemonConfig) (v w : PassSeen) (l l' : LinkSeen) (ended : Ended) : Type 0 where
  pub taken : List ℕ
  pub written : List ℕ
  pub stops : List ℕ
  pub gains : Gains v w l l' taken written stops
  pub served : IsServed g taken written ended (is_over l'.left) w.seen (length v.seen) (length w.seen) v.number stops
  pub cause : HasCause ended l l'
  pub still : ended ≡ E.Memory → w ≡ v

-- how the input ended where this was held
abbrev pub IsInputEnd : Ended → List ℕ → Type 0
IsInputEnd E.Done bytes = bytes ≡ []
IsInputEnd (E.Cut n) bytes = (n ≡ length bytes) × (0 < length bytes)
IsInputEnd E.Memory bytes = ⊥
IsInputEnd E.ReadFault bytes = ⊥
IsInputEnd E.WriteFault bytes = ⊥
IsInputEnd (E.Block n) bytes = ⊥
IsInputEnd E.Budget bytes = ⊥

-- The input begins with fewer requests than a connection has, of which none is a block that is refused, and the last is
-- BYE or nothing is left behind them.
pub record IsOrderly (input : List ℕ) : Type 0 where
  pub requests : List Request
  pub rest : List ℕ
  pub taken : Takes input requests rest
  pub fewer : length requests < REQUESTS
  pub no_block : list_any is_block requests ≡ false
  pub ends : (last_or None requests ≡ Some Bye) ⊎ (rest ≡ [])

-- no call of the link failed: the count of faults didn't rise, and doesn't stand at its greatest
abbrev pub IsFaultless : LinkSeen → LinkSeen → Type 0
IsFaultless l l' = l'.faults < count_up l.faults
