-- The requests of a byte stream (keynoted's own line protocol).
use Rattle.std.specs.Prelude.{ℕ, ◌≡◌, ◌+◌, ◌%◌, Bool, ◌==◌, ◌&&◌, ◌||◌, not, nat_le, nat_lt, if◌then◌else◌}
use Rattle.std.specs.Prelude.{List, [], ◌∷◌, length, take, drop, codes, slice_get}
use Rattle.std.specs.Prelude.{Option, Some, None, option_and_then, option_map}
use Rattle.std.specs.List.{list_all, before_first, after_first, position_or_len}
use Rattle.std.specs.Option.{option_or}
use Rattle.std.specs.Str.{bytes_eq}
use Rattle.kn_base.specs.Decimal.{decimal_of}
use Rattle.kn_base.specs.declared.limits.TheConstants.{ASSERTION_BYTES, LINE_BYTES}
use Rattle.kn_wire.specs.declared.fault.WireFault.{WireFault}
use Rattle.kn_wire.specs.declared.fault.WireFault.TheVariants.{Syntax, Command, Long, Block}

-- what a line, or a line and its block, asks; or a fault
pub data Request : Type 0 where
  Open : Request
  Close : ℕ → Request
  Pin : ℕ → Request
  Assert : ℕ → List ℕ → Request
  Retract : ℕ → ℕ → Request
  Set : ℕ → List ℕ → List ℕ → Request
  SetHex : ℕ → List ℕ → List ℕ → Request
  Unset : ℕ → List ℕ → Request
  Auth : ℕ → List ℕ → Request
  Unauth : ℕ → List ℕ → Request
  Clear : ℕ → Request
  Query : ℕ → List ℕ → Request
  Watch : ℕ → List ℕ → Request
  News : ℕ → Request
  Unwatch : ℕ → Request
  Critical : ℕ → List ℕ → Request
  Admin : List ℕ → Request
  Add : List ℕ → Request
  Drop : ℕ → Request
  Batch : List ℕ → Request
  PinAt : ℕ → ℕ → Request
  Log : ℕ → Request
  Bye : Request
  Faulty : WireFault → Request

-- what stands in a request beside numbers, names and texts: a block, digits, nothing of these, or it is a fault
pub data Content : Type 0 where
  BlockOf : List ℕ → Content
  HexOf : List ℕ → Content
  Plain : Content
  FaultOf : WireFault → Content

abbrev pub content_of : Request → Content
content_of Open = Plain
content_of (Close s) = Plain
content_of (Pin s) = Plain
content_of (Assert s block) = BlockOf block
content_of (Retract s k) = Plain
content_of (Set s name value) = Plain
content_of (SetHex s name digits) = HexOf digits
content_of (Unset s name) = Plain
content_of (Auth s principal) = Plain
content_of (Unauth s principal) = Plain
content_of (Clear s) = Plain
content_of (Query s names) = Plain
content_of (Watch s names) = Plain
content_of (News s) = Plain
content_of (Unwatch s) = Plain
content_of (Critical s names) = Plain
content_of (Admin digits) = HexOf digits
content_of (Add block) = BlockOf block
content_of (Drop k) = Plain
content_of (Batch block) = BlockOf block
content_of (PinAt s version) = Plain
content_of (Log n) = Plain
content_of Bye = Plain
content_of (Faulty fault) = FaultOf fault

-- what a line names: a whole request, or one that a block of so many bytes completes
pub data Line : Type 0 where
  Whole : Request → Line
  WithBlock : ℕ → (List ℕ → Request) → Line

abbrev pub is_space : ℕ → Bool
is_space b = b == 32

abbrev pub is_newline : ℕ → Bool
is_newline b = b == 10

-- what follows the first space, if there is one
abbrev pub behind_space : List ℕ → Option (List ℕ)
behind_space [] = None
behind_space (b ∷ bs) = if is_space b then Some bs else behind_space bs

-- a number and a space, and what follows
abbrev pub number_and_rest : List ℕ → Option (ℕ × List ℕ)
number_and_rest text =
    option_and_then (λ rest. option_map (λ n. (n, rest)) (decimal_of (before_first is_space text))) (behind_space text)

-- a letter and a number
abbrev pub number_after : ℕ → List ℕ → Option ℕ
number_after letter [] = None
number_after letter (b ∷ bs) = if b == letter then decimal_of bs else None

-- a word of at least one byte, without a space
abbrev pub is_word : List ℕ → Bool
is_word text = nat_lt 0 (length text) && list_all (λ b. not (is_space b)) text

-- a word, and what follows its space, nothing without one
abbrev pub name_and_rest : List ℕ → Option (List ℕ × List ℕ)
name_and_rest text =
    if is_word (before_first is_space text) then Some (before_first is_space text, after_first is_space text)
    else None

abbrev pub is_hex_digit : ℕ → Bool
is_hex_digit b = (nat_le 48 b && nat_le b 57) || (nat_le 65 b && nat_le b 70) || (nat_le 97 b && nat_le b 102)

-- an even number of hexadecimal digits
abbrev pub is_hex : List ℕ → Bool
is_hex text = list_all is_hex_digit text && (length text % 2 == 0)

abbrev pub when : Bool → Request → Option Line
when b request = if b then Some (Whole request) else None

-- Forms of what stands behind a command word and its space. A form gives the line of a text that has it.

-- a number alone
abbrev pub number_line : (ℕ → Request) → List ℕ → Option Line
number_line request text = option_map (λ n. Whole (request n)) (decimal_of text)

-- a letter and a number
abbrev pub letter_line : ℕ → (ℕ → Request) → List ℕ → Option Line
letter_line letter request text = option_map (λ k. Whole (request k)) (number_after letter text)

-- how many bytes a block has
abbrev pub size_line : (List ℕ → Request) → List ℕ → Option Line
size_line request text = option_map (λ n. WithBlock n request) (decimal_of text)

-- a name and a value
abbrev pub name_line : (List ℕ → List ℕ → Request) → List ℕ → Option Line
name_line request text = option_map (λ parts. Whole (request parts.0 parts.1)) (name_and_rest text)

-- a name and hexadecimal digits
abbrev pub name_hex_line : (List ℕ → List ℕ → Request) → List ℕ → Option Line
name_hex_line request text =
    option_and_then (λ parts. when (is_hex parts.1) (request parts.0 parts.1)) (name_and_rest text)

-- a number and a space, and a text of the form that the number gives
abbrev pub with_number : (ℕ → List ℕ → Option Line) → List ℕ → Option Line
with_number form text = option_and_then (λ parts. form parts.0 parts.1) (number_and_rest text)

-- a number and a space, and any text
abbrev pub number_text_line : (ℕ → List ℕ → Request) → List ℕ → Option Line
number_text_line request text = with_number (λ n more. Some (Whole (request n more))) text

-- a session alone, or with the number of a version
abbrev pub pin_line : List ℕ → Option Line
pin_line text = option_or (number_line Pin text) (with_number (λ s. number_line (PinAt s)) text)

-- digits, at least two
abbrev pub admin_line : List ℕ → Option Line
admin_line text = when (nat_lt 0 (length text) && is_hex text) (Admin text)

-- The commands.

-- a line that is not of the form of its command
abbrev pub or_malformed : Option Line → Line
or_malformed None = Whole (Faulty Syntax)
or_malformed (Some line) = line

-- nothing follows the command word
abbrev pub alone : Request → Option (List ℕ) → Line
alone request None = Whole request
alone request (Some text) = Whole (Faulty Syntax)

-- a space and a text of this form follow the command word
abbrev pub behind : (List ℕ → Option Line) → Option (List ℕ) → Line
behind form rest = or_malformed (option_and_then form rest)

-- What a line of this command word asks, with the text behind its space, if there is one. 97 is the letter a, 112 is p.
abbrev pub line_of_command : List ℕ → Option (List ℕ) → Line
line_of_command word rest =
    if bytes_eq word (codes "OPEN") then alone Open rest
    else if bytes_eq word (codes "CLOSE") then behind (number_line Close) rest
    else if bytes_eq word (codes "PIN") then behind pin_line rest
    else if bytes_eq word (codes "ASSERT") then behind (with_number (λ s. size_line (Assert s))) rest
    else if bytes_eq word (codes "RETRACT") then behind (with_number (λ s. letter_line 112 (Retract s))) rest
    else if bytes_eq word (codes "SET") then behind (with_number (λ s. name_line (Set s))) rest
    else if bytes_eq word (codes "SETX") then behind (with_number (λ s. name_hex_line (SetHex s))) rest
    else if bytes_eq word (codes "UNSET") then behind (with_number (λ s name. when (is_word name) (Unset s name))) rest
    else if bytes_eq word (codes "AUTH") then behind (number_text_line Auth) rest
    else if bytes_eq word (codes "UNAUTH") then behind (number_text_line Unauth) rest
    else if bytes_eq word (codes "CLEAR") then behind (number_line Clear) rest
    else if bytes_eq word (codes "QUERY") then behind (number_text_line Query) rest
    else if bytes_eq word (codes "WATCH") then behind (number_text_line Watch) rest
    else if bytes_eq word (codes "NEWS") then behind (number_line News) rest
    else if bytes_eq word (codes "UNWATCH") then behind (number_line Unwatch) rest
    else if bytes_eq word (codes "CRITICAL") then behind (number_text_line Critical) rest
    else if bytes_eq word (codes "ADMIN") then behind admin_line rest
    else if bytes_eq word (codes "ADD") then behind (size_line Add) rest
    else if bytes_eq word (codes "DROP") then behind (letter_line 97 Drop) rest
    else if bytes_eq word (codes "BATCH") then behind (size_line Batch) rest
    else if bytes_eq word (codes "LOG") then behind (number_line Log) rest
    else if bytes_eq word (codes "BYE") then alone Bye rest
    else Whole (Faulty Command)

-- the words are separated by one space
abbrev pub line_of : List ℕ → Line
line_of text = line_of_command (before_first is_space text) (behind_space text)

abbrev pub is_return : ℕ → Bool
is_return b = b == 13

-- the line without a carriage return at its end
abbrev pub without_return : List ℕ → List ℕ
without_return [] = []
without_return (b ∷ []) = if is_return b then [] else b ∷ []
without_return (b ∷ c ∷ bs) = b ∷ without_return (c ∷ bs)

-- the request of a block, decided by the byte behind it, and what is left
abbrev pub first_of_block : ℕ → (List ℕ → Request) → List ℕ → Option ℕ → Option (Request × List ℕ)
first_of_block n request text None = None
first_of_block n request text (Some b) =
    if b == 10 then Some (request (take n text), drop (n + 1) text) else Some (Faulty (Block n), [])

-- the request of a line and of what follows it, if that is there, and what is left
abbrev pub first_of_line : Line → List ℕ → Option (Request × List ℕ)
first_of_line (Whole request) text = Some (request, text)
first_of_line (WithBlock n request) text =
    if nat_lt ASSERTION_BYTES n then Some (Faulty (Block n), [])
    else first_of_block n request text (slice_get text n)

-- how many bytes stand before the first newline, or in all where there is none
abbrev pub line_length : List ℕ → ℕ
line_length text = position_or_len is_newline text

-- The first request of a text, if it is there, and what is left. A long line is decided by its first bytes.
abbrev pub first_of : List ℕ → Option (Request × List ℕ)
first_of text =
    if nat_lt LINE_BYTES (line_length text) then Some (Faulty Long, after_first is_newline text)
    else if nat_lt (line_length text) (length text)
    then first_of_line (line_of (without_return (before_first is_newline text))) (after_first is_newline text)
    else None

-- the text begins with these requests, and this is left
abbrev pub Takes : List ℕ → List Request → List ℕ → Type 0
Takes text [] rest = text ≡ rest
Takes text (request ∷ requests) rest =
    (left : List ℕ) × (first_of text ≡ Some (request, left)) × Takes left requests rest

-- the requests of a text are these, and this is the rest
pub record AreRequests (text : List ℕ) (requests : List Request) (rest : List ℕ) : Type 0 where
  pub taken : Takes text requests rest
  pub no_more : first_of rest ≡ None
