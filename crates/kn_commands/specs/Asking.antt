-- Why serving a link over a policy ends, and what it leaves (keynoted's own).
use Rattle.std.specs.Prelude.{ℕ, ◌≡◌, ◌⊎◌, List, ◌++◌, IfSome, length}
use Rattle.kn_outside.specs.Seen.{FilesSeen, LinkSeen}
use Rattle.kn_outside.specs.SpecifiedBytes.{more, before}
use Rattle.kn_history.specs.declared.update.Update.{Update}
use Rattle.kn_daemon.specs.Daemon.{DaemonConfig}
use Rattle.kn_daemon.specs.Alone.{IsServedAlone}
use Rattle.kn_daemon.specs.Served.{IsServed}
use Rattle.kn_daemon.specs.declared.ended.Ended.{Ended}
use Rattle.kn_daemon.specs.declared.ended.Ended.TheVariants as E
use Rattle.kn_serve.specs.Serving.{is_over, HasCause, IsOrderly, IsFaultless}
use Rattle.kn_words.specs.Names.{AskNames}
use Rattle.kn_inputs.specs.declared.input_fault.InputFault.TheVariants.{Memory}
use Rattle.kn_endings.specs.declared.ask_ending.AskEnding.{AskEnding}
use Rattle.kn_endings.specs.declared.ask_ending.AskEnding.TheVariants.{PolicyStopped, KeysStopped, Served}
use Rattle.kn_inputs.specs.Inputs.{RunsOver, StopsAtPolicy, AreKeysStopped}

-- The link was served over this history, to which caller 0 added these updates: the bytes that were taken of it and
-- written to it, where the turn was had, and why the connection ended so. Caller 0 is the only one, so the replies tell
-- each place. An input that is in order is served to its end, if no call of the link fails and memory doesn't run out.
pub record IsLinkServed (g : DaemonConfig) (past : List Update) (o o' : LinkSeen) (ended : Ended) : Type 0 where
  pub taken : List ℕ
  pub written : List ℕ
  pub added : List Update
  pub stops : List ℕ
  pub served : IsServed g taken written ended (is_over o'.left) (past ++ added) (length past) (length (past ++ added)) 0
      stops
  pub alone : IsServedAlone g taken written ended (is_over o'.left) past (past ++ added) 0
  pub took : o'.taken ≡ more taken o.taken
  pub left : o.left ≡ before taken o'.left
  pub wrote : o'.written ≡ more written o.written
  pub cause : HasCause ended o o'
  pub complete : IfSome o.left (λ input. IsOrderly input → IsFaultless o o' → (ended ≡ E.Done) ⊎ (ended ≡ E.Memory))

-- the files were read, and over them the link was served
abbrev pub IsLinkAnswered : FilesSeen → FilesSeen → LinkSeen → LinkSeen → AskNames → Ended → Type 0
IsLinkAnswered f f' o o' names ended = RunsOver f f' names (λ g past. IsLinkServed g past o o' ended)

-- Why `ask` ends so, and what it leaves of the files and of the link. Before both files are tried the link is
-- untouched.
abbrev pub AskCause : FilesSeen → FilesSeen → LinkSeen → LinkSeen → AskNames → AskEnding → Type 0
AskCause f f' o o' names (PolicyStopped stop) = StopsAtPolicy f f' names.policy stop × (o' ≡ o)
AskCause f f' o o' names (KeysStopped stop) = AreKeysStopped f f' names stop × (o' ≡ o)
AskCause f f' o o' names (Served ended) = IsLinkAnswered f f' o o' names ended
