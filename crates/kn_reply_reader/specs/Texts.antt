-- The texts that replies may have (keynoted's own): those of the forms of the line protocol, with any numbers and
-- words. The numbers and names of a VALUE reply and of one that hands on updates are in the range of their readers.
use Rattle.std.specs.Prelude.{ℕ, ◌≡◌, ◌≤◌, ◌<◌, ⊤, true, List, ◌++◌, length, All}
use Rattle.kn_base.specs.declared.limits.TheConstants.{CHANGES}
use Rattle.kn_proof.specs.declared.named.NamedRow.{NamedRow}
use Rattle.kn_proof.specs.Lines.{is_name}
use Rattle.kn_proof.specs.Reading.{IsReadRow}
use Rattle.kn_history.specs.declared.update.Change.{Change}
use Rattle.kn_history.specs.declared.update.Change.TheVariants.{Add, Remove}
use Rattle.kn_history.specs.declared.update.Numbered.{Numbered}
use Rattle.kn_history.specs.declared.update.Update.{Update}
use Rattle.kn_reply.specs.Logs.{log_part}
use Rattle.kn_reply.specs.Replies.{Reply, Value, Log}
use Rattle.kn_reply.specs.Replies.{News, reply_text}

-- a VALUE reply whose name and numbers its reader reads
pub record IsReadValue (index : ℕ) (name : List ℕ) (version : ℕ) (rows : List NamedRow) : Type 0 where
  pub name_is : is_name name ≡ true
  pub index_is : index ≤ 255
  pub version_is : version < 1000000000
  pub count : length rows < 1000000000
  pub each : All IsReadRow rows

-- a change whose number, or the length of whose text, has at most nine digits
abbrev pub IsReadChange : Change → ℕ → Type 0
IsReadChange (Add text) id = length text < 1000000000
IsReadChange Remove id = id < 1000000000

-- an update of a caller whose number has at most nine digits, with as many changes as an update may have
pub record IsReadUpdate (update : Update) : Type 0 where
  pub caller : update.caller < 1000000000
  pub some : 1 ≤ length update.changes
  pub few : length update.changes ≤ CHANGES
  pub each : All (λ (c : Numbered). IsReadChange c.change c.id) update.changes

-- updates behind the first n, which are handed on with numbers of at most nine digits
pub record IsReadLog (n : ℕ) (history : List Update) : Type 0 where
  pub first : n < 1000000000
  pub newest : length history < 1000000000
  pub each : All IsReadUpdate (log_part n history)

-- the text of this reply is one that replies may have
abbrev pub HasText : Reply → Type 0
HasText (Value index name version rows) = IsReadValue index name version rows
HasText (Log n history) = IsReadLog n history
HasText (News index name version) = is_name name ≡ true
HasText reply = ⊤

-- the bytes begin with the text of this reply
pub record BeginsWith (left : List ℕ) (reply : Reply) : Type 0 where
  pub more : List ℕ
  pub text : HasText reply
  pub cut : left ≡ reply_text reply ++ more

-- the text of some reply is at the front of the bytes
abbrev pub BeginsWithReply : List ℕ → Type 0
BeginsWithReply left = (reply : Reply) × BeginsWith left reply
