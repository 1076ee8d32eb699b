-- What the parts of a line in code stand for.
use Rattle.std.specs.Prelude.{ℕ, List, codes, Option, Some, None}
use Rattle.kn_wire.specs.declared.head.Head.{Head}
use Rattle.kn_wire.specs.declared.head.Head.TheVariants as H
use Rattle.kn_wire.specs.declared.request.Request.{Request}
use Rattle.kn_wire.specs.declared.word.Word.{Word}
use Rattle.kn_wire.specs.declared.word.Word.TheVariants as W
use Rattle.kn_wire.specs.Requests as D
use Rattle.kn_wire.specs.Wired.{request_of}

-- the request of a head and its block
abbrev pub with_block : Head → List ℕ → D.Request
with_block (H.Assert s) block = D.Assert s block
with_block H.Add block = D.Add block
with_block H.Batch block = D.Batch block

-- the line of a head whose block has so many bytes
abbrev pub line_of_head : Head × ℕ → D.Line
line_of_head (head, n) = D.WithBlock n (with_block head)

-- the line, if it names a block
abbrev pub blocked_of : D.Line → Option D.Line
blocked_of (D.Whole request) = None
blocked_of (D.WithBlock n request) = Some (D.WithBlock n request)

-- the line of a request that needs no block
abbrev pub line_of_request : Request → D.Line
line_of_request request = D.Whole (request_of request)

-- the text of a command word
abbrev pub word_text : Word → List ℕ
word_text W.Open = codes "OPEN"
word_text W.Close = codes "CLOSE"
word_text W.Pin = codes "PIN"
word_text W.Assert = codes "ASSERT"
word_text W.Retract = codes "RETRACT"
word_text W.Set = codes "SET"
word_text W.SetHex = codes "SETX"
word_text W.Unset = codes "UNSET"
word_text W.Auth = codes "AUTH"
word_text W.Unauth = codes "UNAUTH"
word_text W.Clear = codes "CLEAR"
word_text W.Query = codes "QUERY"
word_text W.Watch = codes "WATCH"
word_text W.News = codes "NEWS"
word_text W.Unwatch = codes "UNWATCH"
word_text W.Critical = codes "CRITICAL"
word_text W.Admin = codes "ADMIN"
word_text W.Add = codes "ADD"
word_text W.Drop = codes "DROP"
word_text W.Batch = codes "BATCH"
word_text W.Log = codes "LOG"
word_text W.Bye = codes "BYE"
