-- Why checking a reply ends, and what it leaves (keynoted's own).
use Rattle.std.specs.Prelude.{ℕ, ◌≡◌, ◌⊎◌, List, length, take, Some}
use Rattle.kn_outside.specs.Seen.{FilesSeen}
use Rattle.kn_outside.specs.Asked.{HasAsked, HasFailed}
use Rattle.kn_files.specs.Pieces.{pieces_of}
use Rattle.kn_proof.specs.declared.reply.ReadReply.{ReadReply}
use Rattle.kn_check.specs.declared.reject.Reject.{Reject}
use Rattle.kn_history.specs.History.{loaded_history}
use Rattle.kn_history.specs.Loading.{IsFaultyAt}
use Rattle.kn_session.specs.Sessions.{Session}
use Rattle.kn_daemon.specs.Daemon.{equations_of}
use Rattle.kn_play.specs.LastQueries.{Means}
use Rattle.kn_proof.specs.declared.fault.ProofFault.{ProofFault}
use Rattle.kn_proof.specs.declared.fault.ProofFault.TheVariants as F
use Rattle.kn_proof.specs.Reading.{IsReplyText, IsFirstFault, fault_number, fault_line}
use Rattle.kn_verify.specs.Verdicts.{IsReplyTo, IsProved, IsUnproved}
use Rattle.kn_inputs.specs.declared.input_fault.InputFault.{InputFault}
use Rattle.kn_inputs.specs.declared.input_fault.InputFault.TheVariants.{Words, FileFailed, FileTooLarge, Limit, KeyLine}
use Rattle.kn_inputs.specs.declared.input_fault.InputFault.TheVariants.{Memory}
use Rattle.kn_inputs.specs.declared.input_fault.InputFault.TheVariants as S
use Rattle.kn_words.specs.declared.files.Source.{Source}
use Rattle.kn_words.specs.declared.files.Source.TheVariants.{Policy, Script as TheScript, Reply}
use Rattle.kn_endings.specs.declared.check_ending.CheckEnding.{CheckEnding}
use Rattle.kn_endings.specs.declared.check_ending.CheckEnding.TheVariants.{Stopped, NoQuery, Faulty, Rejected, Proved}
use Rattle.kn_words.specs.Names.{CheckNames, in_order}
use Rattle.kn_words.specs.Sources.{name_of}
use Rattle.kn_inputs.specs.Held.{HasContent, IsTooLarge, IsPolicy, IsFileRead}
use Rattle.kn_inputs.specs.Stopping.{IsLimitAt}

-- the files hold a policy, and a script that means this query over it
pub record HasQuery (f : FilesSeen) (names : CheckNames) (session : Session) (values : List (List ℕ)) : Type 0 where
  pub bytes : List ℕ
  pub policy : IsPolicy f names.policy bytes
  pub script : List ℕ
  pub content : HasContent f names.script script
  pub query : Means (loaded_history (pieces_of bytes)) script session values

-- the files hold a policy, and a script that means no query over it
pub record HasNoQuery (f : FilesSeen) (names : CheckNames) : Type 0 where
  pub bytes : List ℕ
  pub policy : IsPolicy f names.policy bytes
  pub script : List ℕ
  pub content : HasContent f names.script script
  pub none : (session : Session) (values : List (List ℕ))
      → ¬ Means (loaded_history (pieces_of bytes)) script session values

-- how many files were asked for before this one
abbrev pub count_before : Source → ℕ
count_before Policy = 0
count_before TheScript = 1
count_before Reply = 2

-- how many files were asked for when this one was
abbrev pub count_to : Source → ℕ
count_to Policy = 1
count_to TheScript = 2
count_to Reply = 3

-- what was found before a file was asked for
abbrev pub Reached : FilesSeen → CheckNames → Source → Type 0
Reached f names Policy = Unit {0}
Reached f names TheScript = (bytes : List ℕ) × IsPolicy f names.policy bytes
Reached f names Reply = (session : Session) × (values : List (List ℕ)) × HasQuery f names session values

-- the text is that of a reply to the query
pub record IsTextTo (session : Session) (values : List (List ℕ)) (text : List ℕ) : Type 0 where
  pub reply : ReadReply
  pub read : IsReplyText text reply
  pub to_query : IsReplyTo (length session.pinned) values reply

-- what is known of a file behind which memory ran out: that of the reply holds the text of one to the query
abbrev pub HoldsWhereMemoryLacks : FilesSeen → CheckNames → Source → Type 0
HoldsWhereMemoryLacks f names Policy = Unit {0}
HoldsWhereMemoryLacks f names TheScript = Unit {0}
HoldsWhereMemoryLacks f names Reply = (session : Session) × (values : List (List ℕ)) × (text : List ℕ)
    × HasQuery f names session values × HasContent f names.reply text × IsTextTo session values text

-- memory ran out where a file was about to be asked for, or was, and nothing else changed
abbrev pub LacksAt : FilesSeen → FilesSeen → CheckNames → Source → Type 0
LacksAt f f' names source =
    HasAsked (take (count_before source) (in_order names)) f f'
    ⊎ (HasAsked (take (count_to source) (in_order names)) f f' × HoldsWhereMemoryLacks f names source)

-- why reading a file, or loading the policy, stops a run
abbrev pub StopsCheckAt : FilesSeen → FilesSeen → CheckNames → Source → InputFault → Type 0
StopsCheckAt f f' names source FileFailed = Reached f names source
    × HasFailed (take (count_to source) (in_order names)) f f'
StopsCheckAt f f' names source FileTooLarge = Reached f names source
    × HasAsked (take (count_to source) (in_order names)) f f' × IsTooLarge f (name_of names source)
StopsCheckAt f f' names source (S.Policy n fault) = (source ≡ Policy) × (bytes : List ℕ)
    × IsFileRead names.policy f f' bytes × IsFaultyAt (pieces_of bytes) n fault
StopsCheckAt f f' names source (Limit n word count) = (source ≡ Policy) × (bytes : List ℕ)
    × IsFileRead names.policy f f' bytes × IsLimitAt (pieces_of bytes) n word count
StopsCheckAt f f' names source Memory = Reached f names source × LacksAt f f' names source
StopsCheckAt f f' names source Words = ⊥
StopsCheckAt f f' names source (KeyLine n) = ⊥

-- how a run ends at a fault of a text; `NoMemory` has no number
abbrev pub ending_of_fault : ProofFault → CheckEnding
ending_of_fault (F.Line n) = Faulty 1 n
ending_of_fault (F.Number n) = Faulty 2 n
ending_of_fault (F.Count n) = Faulty 3 n
ending_of_fault F.NoMemory = Stopped Reply Memory

-- what is wrong with the text of a reply: its first fault, or that it is the reply to another query, which is a fault
-- of line 1
abbrev pub IsFaultyText : Session → List (List ℕ) → List ℕ → ℕ → ℕ → Type 0
IsFaultyText session values text fault line =
    ((own : ProofFault) × IsFirstFault text own × (fault_number own ≡ Some fault) × (fault_line own ≡ Some line))
    ⊎ ((fault ≡ 1) × (line ≡ 1)
    × ((reply : ReadReply) × IsReplyText text reply × ¬ IsReplyTo (length session.pinned) values reply))

-- the text is that of a reply to the query whose rows don't prove its value: this is the first item that fails
pub record IsUnprovedText (session : Session) (values : List (List ℕ)) (text : List ℕ) (reject : Reject) : Type 0 where
  pub reply : ReadReply
  pub read : IsReplyText text reply
  pub unproved : IsUnproved (equations_of session values) (length session.pinned) values reply reject

-- the text is that of a reply to the query whose rows prove this value of this name
pub record IsProvedText (session : Session) (values : List (List ℕ)) (text : List ℕ) (value : ℕ) (name : List ℕ) :
    Type 0 where
  pub reply : ReadReply
  pub read : IsReplyText text reply
  pub value_told : reply.value ≡ value
  pub name_told : reply.name ≡ name
  pub proved : IsProved (equations_of session values) (length session.pinned) values reply

-- what the text of a reply to a query shows where a run ends so; memory runs out only for one to the query
abbrev pub ReplyShows : Session → List (List ℕ) → List ℕ → CheckEnding → Type 0
ReplyShows session values text (Stopped source stop) = (source ≡ Reply) × (stop ≡ Memory) × IsTextTo session values text
ReplyShows session values text NoQuery = ⊥
ReplyShows session values text (Faulty fault line) = IsFaultyText session values text fault line
ReplyShows session values text (Rejected reject) = IsUnprovedText session values text reject
ReplyShows session values text (Proved value name) = IsProvedText session values text value name

-- what a reply to a query shows that was read
abbrev pub ReadShows : Session → List (List ℕ) → ReadReply → CheckEnding → Type 0
ReadShows session values reply (Stopped source stop) = (source ≡ Reply) × (stop ≡ Memory)
    × IsReplyTo (length session.pinned) values reply
ReadShows session values reply NoQuery = ⊥
ReadShows session values reply (Faulty fault line) = (fault ≡ 1) × (line ≡ 1)
    × ¬ IsReplyTo (length session.pinned) values reply
ReadShows session values reply (Rejected reject) =
    IsUnproved (equations_of session values) (length session.pinned) values reply reject
ReadShows session values reply (Proved value name) = (reply.value ≡ value) × (reply.name ≡ name)
    × IsProved (equations_of session values) (length session.pinned) values reply

-- the files were read; the first two hold this query, and the third this text
pub record IsTried (f f' : FilesSeen) (names : CheckNames) (session : Session) (values : List (List ℕ))
    (text : List ℕ) : Type 0 where
  pub asked : HasAsked (in_order names) f f'
  pub query : HasQuery f names session values
  pub content : HasContent f names.reply text

-- the files hold a query and a text, which shows why a run ends so
pub record IsShown (f f' : FilesSeen) (names : CheckNames) (ending : CheckEnding) : Type 0 where
  pub session : Session
  pub values : List (List ℕ)
  pub text : List ℕ
  pub tried : IsTried f f' names session values text
  pub shows : ReplyShows session values text ending

-- why a run ends so
abbrev pub CheckCause : FilesSeen → FilesSeen → CheckNames → CheckEnding → Type 0
CheckCause f f' names (Stopped source stop) = StopsCheckAt f f' names source stop
CheckCause f f' names NoQuery = HasAsked (take 2 (in_order names)) f f' × HasNoQuery f names
CheckCause f f' names (Faulty fault line) = IsShown f f' names (Faulty fault line)
CheckCause f f' names (Rejected reject) = IsShown f f' names (Rejected reject)
CheckCause f f' names (Proved value name) = IsShown f f' names (Proved value name)
