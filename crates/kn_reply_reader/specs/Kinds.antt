-- The texts of replies, kind by kind (keynoted's own line protocol).
use Rattle.std.specs.Prelude.{ℕ, ◌≡◌, true, List, [], ◌∷◌, ◌++◌, ⊤}
use Rattle.kn_proof.specs.declared.named.Id.{Id}
use Rattle.kn_proof.specs.Lines.{is_name}
use Rattle.kn_reply.specs.Replies.{Reply, Done, Started, Number, PrivateAdded, Added, Value, Batched, PinnedAt, Log}
use Rattle.kn_reply.specs.Replies.{News, Critical, No, NoMemory, reply_text}
use Rattle.kn_history.specs.declared.update.Change.TheVariants.{Add, Remove}
use Rattle.kn_history.specs.declared.update.Numbered.{Numbered}
use Rattle.kn_wire.specs.Items.{AddText, DropId, item_text}
use Rattle.kn_reply_reader.specs.Texts.{HasText, IsReadChange}

-- A reply of one line without a name, or one that gives a value with its rows, hands on updates, gives a value without
-- rows, or names critical assertions.
pub data Kind : Type 0 where
  OneLine : Kind
  Proved : Kind
  LogKind : Kind
  NewsKind : Kind
  CriticalKind : Kind

abbrev pub kind_of : Reply → Kind
kind_of Done = OneLine
kind_of (Started s version) = OneLine
kind_of (Number version) = OneLine
kind_of (PrivateAdded k) = OneLine
kind_of (Added k version) = OneLine
kind_of (Value index name version rows) = Proved
kind_of (Batched first added version) = OneLine
kind_of (PinnedAt version newest) = OneLine
kind_of (Log n history) = LogKind
kind_of (News index name version) = NewsKind
kind_of (Critical index ids) = CriticalKind
kind_of (No refusal) = OneLine
kind_of NoMemory = OneLine

-- the text of a reply of this kind
pub record IsTextOf (kind : Kind) (text : List ℕ) : Type 0 where
  pub reply : Reply
  pub has : HasText reply
  pub is : kind_of reply ≡ kind
  pub same : text ≡ reply_text reply

-- the text of some reply
pub record IsReplyText (text : List ℕ) : Type 0 where
  pub reply : Reply
  pub has : HasText reply
  pub same : text ≡ reply_text reply

-- the name of a compliance value, through the space that ends it
abbrev pub IsNameWord : List ℕ → Type 0
IsNameWord text = (name : List ℕ) × (is_name name ≡ true) × (text ≡ name ++ 32 ∷ [])

-- an id of any number
abbrev pub IsAnyId : Id → Type 0
IsAnyId id = ⊤

-- a change as a reply may hand it on
abbrev pub IsReadNumbered : Numbered → Type 0
IsReadNumbered c = IsReadChange c.change c.id

-- the text of an addition, or the id of a removal, and how it is written
abbrev pub IsShortText : List ℕ → Type 0
IsShortText text = IsReadChange (Add text) 0

abbrev pub addition_text : List ℕ → List ℕ
addition_text text = item_text (AddText text)

abbrev pub IsShortId : ℕ → Type 0
IsShortId k = IsReadChange Remove k

abbrev pub removal_text : ℕ → List ℕ
removal_text k = item_text (DropId k)
