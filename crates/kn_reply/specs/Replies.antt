-- Replies and their texts (keynoted's own line protocol).
use Rattle.std.specs.Prelude.{ℕ, List, [], ◌∷◌, ◌++◌, length, flat_map, codes, decimal}
use Rattle.std.specs.Arc.{arc_value}
use Rattle.kn_proof.specs.declared.named.NamedRow.{NamedRow}
use Rattle.kn_proof.specs.declared.named.Id.{Id}
use Rattle.kn_proof.specs.Texts.{id_text, value_text}
use Rattle.kn_history.specs.declared.update.Update.{Update}
use Rattle.kn_reply.specs.Logs.{log_text}
use Rattle.kn_reply.specs.declared.reply.Reply.{Reply as Printed}
use Rattle.kn_reply.specs.declared.reply.Reply.TheVariants as P
use Rattle.kn_reply.specs.declared.refusal.Refusal.{Refusal}
use Rattle.kn_reply.specs.declared.refusal.Refusal.TheVariants as R
use Rattle.kn_reply.specs.declared.refusal.ItemRefusal.{ItemRefusal}
use Rattle.kn_reply.specs.declared.refusal.ItemRefusal.TheVariants as I
use Rattle.kn_reply.specs.declared.refusal.LimitWord.{LimitWord}
use Rattle.kn_reply.specs.declared.refusal.LimitWord.TheVariants as W

pub data Reply : Type 0 where
  Done : Reply
  Started : ℕ → ℕ → Reply
  Number : ℕ → Reply
  PrivateAdded : ℕ → Reply
  Added : ℕ → ℕ → Reply
  Value : ℕ → List ℕ → ℕ → List NamedRow → Reply
  Batched : ℕ → ℕ → ℕ → Reply
  PinnedAt : ℕ → ℕ → Reply
  Log : ℕ → List Update → Reply
  News : ℕ → List ℕ → ℕ → Reply
  Critical : ℕ → List Id → Reply
  No : Refusal → Reply
  NoMemory : Reply

abbrev pub word_text : LimitWord → List ℕ
word_text W.Sessions = codes "sessions"
word_text W.Private = codes "private"
word_text W.PrivateBytes = codes "private-bytes"
word_text W.Requesters = codes "requesters"
word_text W.Attributes = codes "attributes"
word_text W.Live = codes "live"
word_text W.LiveBytes = codes "live-bytes"
word_text W.Updates = codes "updates"
word_text W.LogBytes = codes "log-bytes"
word_text W.Nodes = codes "nodes"

-- the refusal of an item of a batch, as it would be reported of a request
abbrev pub item_refusal_text : ItemRefusal → List ℕ
item_refusal_text (I.Read fault place) = codes "5 read " ++ decimal fault ++ 32 ∷ decimal place
item_refusal_text (I.Auth fault) = codes "7 auth " ++ decimal fault
item_refusal_text I.Unknown = codes "12 unknown"
item_refusal_text (I.Limit word count) = codes "13 limit " ++ word_text word ++ 32 ∷ decimal count

abbrev pub refusal_text : Refusal → List ℕ
refusal_text R.Syntax = codes "1 syntax"
refusal_text R.Command = codes "2 command"
refusal_text R.Session = codes "3 session"
refusal_text R.Admin = codes "4 admin"
refusal_text (R.Read fault place) = item_refusal_text (I.Read fault place)
refusal_text R.Policy = codes "6 policy"
refusal_text (R.Auth fault) = item_refusal_text (I.Auth fault)
refusal_text R.Name = codes "8 name"
refusal_text R.Value = codes "9 value"
refusal_text R.Values = codes "10 values"
refusal_text R.Principal = codes "11 principal"
refusal_text R.Unknown = item_refusal_text I.Unknown
refusal_text (R.Limit word count) = item_refusal_text (I.Limit word count)
refusal_text R.Long = codes "14 long"
refusal_text R.Block = codes "15 block"
refusal_text (R.Batch item) = codes "16 batch " ++ decimal item
refusal_text (R.Item item inner) = codes "17 item " ++ decimal item ++ 32 ∷ item_refusal_text inner
refusal_text (R.Retained newest) = codes "18 retained " ++ decimal newest
refusal_text (R.Ahead newest) = codes "19 ahead " ++ decimal newest

-- a standing query's level, the level's name, and the version that it holds of
abbrev pub news_text : ℕ → List ℕ → ℕ → List ℕ
news_text index name version = codes "NEWS " ++ decimal index ++ 32 ∷ name ++ 32 ∷ decimal version ++ 10 ∷ []

-- an answer needs the assertion of this id
abbrev pub need_text : Id → List ℕ
need_text id = codes "NEED " ++ id_text id ++ 10 ∷ []

-- a query's level, and the critical assertions, with their number
abbrev pub critical_text : ℕ → List Id → List ℕ
critical_text index ids =
    codes "CRITICAL " ++ decimal index ++ 32 ∷ decimal (length ids) ++ 10 ∷ flat_map need_text ids ++ codes "END\n"

-- the text of a reply
abbrev pub reply_text : Reply → List ℕ
reply_text Done = codes "OK\n"
reply_text (Started s version) = codes "OK " ++ decimal s ++ 32 ∷ decimal version ++ 10 ∷ []
reply_text (Number version) = codes "OK " ++ decimal version ++ 10 ∷ []
reply_text (PrivateAdded k) = codes "OK p" ++ decimal k ++ 10 ∷ []
reply_text (Added k version) = codes "OK a" ++ decimal k ++ 32 ∷ decimal version ++ 10 ∷ []
reply_text (Value index name version rows) = value_text index name version rows
reply_text (Batched first added version) =
    codes "OK a" ++ decimal first ++ 32 ∷ decimal added ++ 32 ∷ decimal version ++ 10 ∷ []
reply_text (PinnedAt version newest) = codes "OK " ++ decimal version ++ 32 ∷ decimal newest ++ 10 ∷ []
reply_text (Log n history) = log_text n history
reply_text (News index name version) = news_text index name version
reply_text (Critical index ids) = critical_text index ids
reply_text (No refusal) = codes "NO " ++ refusal_text refusal ++ 10 ∷ []
reply_text NoMemory = codes "NOMEM\n"

-- what a reply in code tells
abbrev pub reply_of : Printed → Reply
reply_of P.Ok = Done
reply_of (P.Started s version) = Started s version
reply_of (P.Number version) = Number version
reply_of (P.Private k) = PrivateAdded k
reply_of (P.Added k version) = Added k version
reply_of (P.Value index name version rows) = Value index name.now version rows.now
reply_of (P.Batched first added version) = Batched first added version
reply_of (P.PinnedAt version newest) = PinnedAt version newest
reply_of (P.Log n snapshot) = Log n (arc_value snapshot.now)
reply_of (P.News index name version) = News index name.now version
reply_of (P.Critical index ids) = Critical index ids.now
reply_of (P.No refusal) = No refusal
reply_of P.NoMemory = NoMemory
