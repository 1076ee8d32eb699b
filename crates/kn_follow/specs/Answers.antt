-- The requests of a pull, and the answers that it waits for (keynoted's own line protocol).
use Rattle.std.specs.Prelude.{ℕ, ◌≡◌, ◌≢◌, ◌⊎◌, ◌+◌, ◌-◌, ◌/◌, ◌%◌, ◌≤◌, nat_lt, if◌then◌else◌, false, List, [], ◌∷◌}
use Rattle.std.specs.Prelude.{◌++◌, length, flat_map}
use Rattle.std.specs.Prelude.{slice_index, Some, codes, decimal}
use Rattle.std.specs.List.{list_any, before_first}
use Rattle.kn_base.specs.Decimal.{decimal_of}
use Rattle.kn_history.specs.declared.update.Update.{Update}
use Rattle.kn_wire.specs.Requests.{is_newline, is_space, behind_space}
use Rattle.kn_follow.specs.Forms.{LogReply, IsLogText, IsFront}
use Rattle.kn_follow.specs.declared.reply.TheConstants.{REPLY_BYTES}
use Rattle.kn_follow.specs.declared.request.Request.{Request}
use Rattle.kn_follow.specs.declared.request.Request.TheVariants.{Admin, Log, Bye}

-- a digit in lower case
abbrev pub hex_digit : ℕ → ℕ
hex_digit n = if nat_lt n 10 then 48 + n else 97 + (n - 10)

-- the two digits of a byte, the higher first
abbrev pub hex_digits : ℕ → List ℕ
hex_digits byte = hex_digit (byte / 16) ∷ hex_digit (byte % 16) ∷ []

abbrev pub admin_line : List ℕ → List ℕ
admin_line secret = codes "ADMIN " ++ flat_map hex_digits secret ++ 10 ∷ []

-- it asks for the updates behind the first `held`
abbrev pub log_line : ℕ → List ℕ
log_line held = codes "LOG " ++ decimal held ++ 10 ∷ []

abbrev pub bye_line : List ℕ
bye_line = codes "BYE\n"

-- the line of a request, where the replica holds these updates
abbrev pub request_line : Request → List ℕ → List Update → List ℕ
request_line Admin secret held = admin_line secret
request_line Log secret held = log_line (length held)
request_line Bye secret held = bye_line

abbrev pub ok_line : List ℕ
ok_line = codes "OK\n"

-- the daemon was out of memory for the reply to LOG
abbrev pub nomem_line : List ℕ
nomem_line = codes "NOMEM\n"

-- a line with its newline
pub record IsLine (text : List ℕ) : Type 0 where
  pub words : List ℕ
  pub ends : text ≡ words ++ 10 ∷ []
  pub one : list_any is_newline words ≡ false

-- A `NO` line of this code: `NO`, a space and the number, and behind it nothing, or a space and some more bytes.
pub record IsNoLine (text : List ℕ) (code : ℕ) : Type 0 where
  pub body : List ℕ
  pub form : text ≡ codes "NO " ++ body ++ 10 ∷ []
  pub number : decimal_of (before_first is_space body) ≡ Some code
  pub more : behind_space body ≢ Some []

-- the bytes in front of the last begin some reply to LOG and aren't one, and with the last they begin none
pub record DepartsLast (text : List ℕ) : Type 0 where
  pub front : List ℕ
  pub last : ℕ
  pub cut : text ≡ front ++ last ∷ []
  pub begins : IsFront front
  pub unformed : (reply : LogReply) → IsLogText front reply → ⊥
  pub departs : IsFront text → ⊥

pub record IsOtherLine (text : List ℕ) : Type 0 where
  pub line : IsLine text
  pub other : slice_index text 0 ≢ 76

pub record IsReply (text : List ℕ) : Type 0 where
  pub reply : LogReply
  pub form : IsLogText text reply

pub record IsDeparture (text : List ℕ) : Type 0 where
  pub first : slice_index text 0 ≡ 76
  pub departs : DepartsLast text

-- The answer to LOG is the next line where its first byte isn't `L`; else it goes through the whole of the form of a
-- reply, or through the first byte that departs from it.
abbrev pub IsLogAnswer : List ℕ → Type 0
IsLogAnswer text = IsOtherLine text ⊎ (IsReply text ⊎ IsDeparture text)

-- the answer to ADMIN and to BYE is the next line
abbrev pub IsAnswerForm : Request → List ℕ → Type 0
IsAnswerForm Admin = IsLine
IsAnswerForm Log = IsLogAnswer
IsAnswerForm Bye = IsLine

-- this is the whole answer to the request, of at most 300,000 bytes
pub record IsAnswer (request : Request) (text : List ℕ) : Type 0 where
  pub form : IsAnswerForm request text
  pub short : length text ≤ REPLY_BYTES

-- these bytes don't begin with a text of the form
abbrev pub WaitsFor : (List ℕ → Type 0) → List ℕ → Type 0
WaitsFor Form bytes = (front rest : List ℕ) → bytes ≡ front ++ rest → Form front → ⊥

-- these bytes hold no whole answer
abbrev pub Awaits : Request → List ℕ → Type 0
Awaits request = WaitsFor (IsAnswer request)
