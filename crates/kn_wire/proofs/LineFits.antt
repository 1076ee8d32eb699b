-- What holds of each line that a command word and what follows it spell.
use Rattle.std.proofs.Common.{◌≡◌, ◌≢◌, ◌≤◌, ℕ, Bool, true, false, ◌&&◌, nat_lt, ◌⊎◌, inl, inr, List, length, refl, sym}
use Rattle.std.proofs.Common.{subst, Option, Some, None, Result, Ok, Err, option_and_then, option_map, codes}
use Rattle.std.specs.Prelude.{⊤, IfOk, if◌then◌else◌}
use Rattle.std.specs.List.{before_first}
use Rattle.std.specs.Str.{bytes_eq}
use Rattle.std.specs.Option.{option_or}
use Rattle.std.proofs.lemmas.Slice.Eq.{bytes_eq-Decides}
use Rattle.kn_base.specs.Decimal.{decimal_of}
use Rattle.kn_wire.specs.declared.fault.WireFault.{WireFault}
use Rattle.kn_wire.specs.declared.fault.WireFault.TheVariants.{Syntax, Command}
use Rattle.kn_wire.specs.declared.request.Request.{Request as Wired}
use Rattle.kn_wire.specs.Hex.{IsWellFormed}
use Rattle.kn_wire.specs.Feeding.{Bytes, held_after}
use Rattle.kn_wire.specs.Lines.{blocked_of}
use Rattle.kn_wire.specs.Requests.{Request, Open, Close, Pin, Assert, Retract, Set, SetHex, Unset, Auth, Unauth, Clear}
use Rattle.kn_wire.specs.Requests.{Query, Watch, News, Unwatch, Critical, Admin, Add, Drop, Batch, PinAt, Log, Bye}
use Rattle.kn_wire.specs.Requests.{Faulty, Line, Whole, WithBlock, behind_space, number_after, number_and_rest}
use Rattle.kn_wire.specs.Requests.{name_and_rest, is_space, is_word, is_hex, when, number_line, letter_line, size_line}
use Rattle.kn_wire.specs.Requests.{name_line}
use Rattle.kn_wire.specs.Requests.{name_hex_line, with_number, number_text_line, pin_line, admin_line, or_malformed}
use Rattle.kn_wire.specs.Requests.{alone}
use Rattle.kn_wire.specs.Requests.{behind, line_of_command, line_of}
use Rattle.kn_wire.specs.Wired.{request_of, request_or_fault}

-- what this request leaves is held
abbrev pub IsKept : Request → Type 0
IsKept request = (text left : List ℕ) → held_after text request left ≡ Bytes left

abbrev pub IsKeptLine : Line → Type 0
IsKeptLine (Whole request) = IsKept request
IsKeptLine (WithBlock n request) = (block : List ℕ) → IsKept (request block)

-- the request is of its form, with each block that isn't too long
abbrev pub OfForm : Line → Type 0
OfForm (Whole request) = IsWellFormed request
OfForm (WithBlock n request) = (block : List ℕ) → length block ≤ 16384 → IsWellFormed (request block)

-- no block is named by these: nothing follows the word, or it is neither ADD nor ASSERT nor BATCH
abbrev pub NamesNone : List ℕ → Option (List ℕ) → Type 0
NamesNone word rest = (rest ≡ None) ⊎ ((word ≢ codes "ADD") × (word ≢ codes "ASSERT") × (word ≢ codes "BATCH"))

pub record Fits (word : List ℕ) (rest : Option (List ℕ)) (line : Line) : Type 0 where
  pub kept : IsKeptLine line
  pub form : OfForm line
  pub whole : NamesNone word rest → None ≡ blocked_of line

whole-fits : (word : List ℕ) (rest : Option (List ℕ)) (request : Request) → IsKept request → IsWellFormed request
    → Fits word rest (Whole request)
whole-fits word rest request kept form = record { kept = kept; form = form; whole = λ names. refl }

-- where it holds of each line that may be there, it holds of the one that is

abbrev OfSome : (Line → Type 0) → Option Line → Type 0
OfSome P None = ⊤
OfSome P (Some line) = P line

of-and_then : (P : Line → Type 0) {A : Type 0} (o : Option A) (f : A → Option Line) → ((a : A) → OfSome P (f a))
    → OfSome P (option_and_then f o)
of-and_then P None f each = tt
of-and_then P (Some a) f each = each a

of-map : (P : Line → Type 0) {A : Type 0} (o : Option A) (f : A → Line) → ((a : A) → P (f a))
    → OfSome P (option_map f o)
of-map P None f each = tt
of-map P (Some a) f each = each a

of-when : (P : Line → Type 0) (b : Bool) (request : Request) → (b ≡ true → P (Whole request))
    → OfSome P (when b request)
of-when P true request each = each refl
of-when P false request each = tt

of-number : (P : Line → Type 0) (text : List ℕ) (form : ℕ → List ℕ → Option Line)
    → ((n : ℕ) (more : List ℕ) → OfSome P (form n more)) → OfSome P (with_number form text)
of-number P text form each =
    of-and_then P (number_and_rest text) (λ parts. form parts.0 parts.1) (λ parts. each parts.0 parts.1)

of-or : (P : Line → Type 0) (first other : Option Line) → OfSome P first → OfSome P other
    → OfSome P (option_or first other)
of-or P None other some more = more
of-or P (Some line) other some more = some

second : (a b : Bool) → (a && b) ≡ true → b ≡ true
second true b e = e
second false b e = cc

-- The lines of one command word and what follows it.

alone-fits : (word : List ℕ) (rest : Option (List ℕ)) (request : Request) → IsKept request → IsWellFormed request
    → Fits word rest (alone request rest)
alone-fits word None request kept form = whole-fits word None request kept form
alone-fits word (Some text) request kept form = whole-fits word (Some text) (Faulty Syntax) (λ t l. refl) tt

malformed-fits : (word : List ℕ) (rest : Option (List ℕ)) (o : Option Line) → OfSome (Fits word rest) o
    → Fits word rest (or_malformed o)
malformed-fits word rest None some = whole-fits word rest (Faulty Syntax) (λ t l. refl) tt
malformed-fits word rest (Some line) some = some

behind-fits : (word : List ℕ) (rest : Option (List ℕ)) (form : List ℕ → Option Line)
    → ((text : List ℕ) → OfSome (Fits word rest) (form text)) → Fits word rest (behind form rest)
behind-fits word rest form each =
    malformed-fits word rest (option_and_then form rest) (of-and_then (Fits word rest) rest form each)

-- a number alone
of-numbered : (word : List ℕ) (rest : Option (List ℕ)) (request : ℕ → Request) (text : List ℕ)
    → ((n : ℕ) → IsKept (request n)) → ((n : ℕ) → IsWellFormed (request n))
    → OfSome (Fits word rest) (number_line request text)
of-numbered word rest request text kept form =
    of-map (Fits word rest) (decimal_of text) (λ n. Whole (request n))
    (λ n. whole-fits word rest (request n) (kept n) (form n))

numbered-fits : (word : List ℕ) (rest : Option (List ℕ)) (request : ℕ → Request)
    → ((n : ℕ) → IsKept (request n)) → ((n : ℕ) → IsWellFormed (request n))
    → Fits word rest (behind (number_line request) rest)
numbered-fits word rest request kept form =
    behind-fits word rest (number_line request) (λ text. of-numbered word rest request text kept form)

-- a letter and a number
of-lettered : (word : List ℕ) (rest : Option (List ℕ)) (letter : ℕ) (request : ℕ → Request) (text : List ℕ)
    → ((n : ℕ) → IsKept (request n)) → ((n : ℕ) → IsWellFormed (request n))
    → OfSome (Fits word rest) (letter_line letter request text)
of-lettered word rest letter request text kept form =
    of-map (Fits word rest) (number_after letter text) (λ n. Whole (request n))
    (λ n. whole-fits word rest (request n) (kept n) (form n))

-- a number and any text
text-fits : (word : List ℕ) (rest : Option (List ℕ)) (request : ℕ → List ℕ → Request)
    → ((n : ℕ) (more : List ℕ) → IsKept (request n more))
    → ((n : ℕ) (more : List ℕ) → IsWellFormed (request n more))
    → Fits word rest (behind (number_text_line request) rest)
text-fits word rest request kept form =
    behind-fits word rest (number_text_line request) (λ text. of-number (Fits word rest) text _
    (λ n more. whole-fits word rest (request n more) (kept n more) (form n more)))

pin-fits : (word : List ℕ) (rest : Option (List ℕ)) → Fits word rest (behind pin_line rest)
pin-fits word rest =
    behind-fits word rest pin_line (λ text.
    of-or (Fits word rest) (number_line Pin text) (with_number (λ s. number_line (PinAt s)) text)
    (of-numbered word rest Pin text (λ s t l. refl) (λ s. tt))
    (of-number (Fits word rest) text _
    (λ s more. of-numbered word rest (PinAt s) more (λ v t l. refl) (λ v. tt))))

retract-fits : (word : List ℕ) (rest : Option (List ℕ))
    → Fits word rest (behind (with_number (λ s. letter_line 112 (Retract s))) rest)
retract-fits word rest =
    behind-fits word rest _ (λ text. of-number (Fits word rest) text _
    (λ s more. of-lettered word rest 112 (Retract s) more (λ k t l. refl) (λ k. tt)))

drop-fits : (word : List ℕ) (rest : Option (List ℕ)) → Fits word rest (behind (letter_line 97 Drop) rest)
drop-fits word rest =
    behind-fits word rest _ (λ text. of-lettered word rest 97 Drop text (λ k t l. refl) (λ k. tt))

set-fits : (word : List ℕ) (rest : Option (List ℕ))
    → Fits word rest (behind (with_number (λ s. name_line (Set s))) rest)
set-fits word rest =
    behind-fits word rest _ (λ text. of-number (Fits word rest) text _
    (λ s more. of-map (Fits word rest) (name_and_rest more) _
    (λ parts. whole-fits word rest (Set s parts.0 parts.1) (λ t l. refl) tt)))

set_hex-fits : (word : List ℕ) (rest : Option (List ℕ))
    → Fits word rest (behind (with_number (λ s. name_hex_line (SetHex s))) rest)
set_hex-fits word rest =
    behind-fits word rest _ (λ text. of-number (Fits word rest) text _
    (λ s more. of-and_then (Fits word rest) (name_and_rest more) _
    (λ parts. of-when (Fits word rest) (is_hex parts.1) (SetHex s parts.0 parts.1)
    (λ hex. whole-fits word rest (SetHex s parts.0 parts.1) (λ t l. refl) hex))))

unset-fits : (word : List ℕ) (rest : Option (List ℕ))
    → Fits word rest (behind (with_number (λ s name. when (is_word name) (Unset s name))) rest)
unset-fits word rest =
    behind-fits word rest _ (λ text. of-number (Fits word rest) text _
    (λ s name. of-when (Fits word rest) (is_word name) (Unset s name)
    (λ is. whole-fits word rest (Unset s name) (λ t l. refl) tt)))

admin-fits : (word : List ℕ) (rest : Option (List ℕ)) → Fits word rest (behind admin_line rest)
admin-fits word rest =
    behind-fits word rest admin_line (λ text.
    of-when (Fits word rest) (nat_lt 0 (length text) && is_hex text) (Admin text)
    (λ both. whole-fits word rest (Admin text) (λ t l. refl) (second (nat_lt 0 (length text)) (is_hex text) both)))

-- the word is one that a block follows
abbrev IsBlocked : List ℕ → Type 0
IsBlocked word = (word ≢ codes "ADD") × (word ≢ codes "ASSERT") × (word ≢ codes "BATCH") → ⊥

-- how many bytes a block has
of-sized : (word text : List ℕ) (request : List ℕ → Request) (more : List ℕ) → IsBlocked word
    → ((block : List ℕ) → IsKept (request block))
    → ((block : List ℕ) → length block ≤ 16384 → IsWellFormed (request block))
    → OfSome (Fits word (Some text)) (size_line request more)
of-sized word text request more is kept form =
    of-map (Fits word (Some text)) (decimal_of more) (λ n. WithBlock n request)
    (λ n. record { kept = kept; form = form; whole = whole n })
  where
    whole : (n : ℕ) → NamesNone word (Some text) → None ≡ Some (WithBlock n request)
    whole n (inl none) = cc
    whole n (inr other) = absurd (is other)

sized-fits : (word : List ℕ) (rest : Option (List ℕ)) (request : List ℕ → Request) → IsBlocked word
    → ((block : List ℕ) → IsKept (request block))
    → ((block : List ℕ) → length block ≤ 16384 → IsWellFormed (request block))
    → Fits word rest (behind (size_line request) rest)
sized-fits word None request is kept form = whole-fits word None (Faulty Syntax) (λ t l. refl) tt
sized-fits word (Some text) request is kept form =
    malformed-fits word (Some text) (size_line request text) (of-sized word text request text is kept form)

assert-fits : (word : List ℕ) (rest : Option (List ℕ)) → IsBlocked word
    → Fits word rest (behind (with_number (λ s. size_line (Assert s))) rest)
assert-fits word None is = whole-fits word None (Faulty Syntax) (λ t l. refl) tt
assert-fits word (Some text) is =
    malformed-fits word (Some text) (with_number (λ s. size_line (Assert s)) text)
    (of-number (Fits word (Some text)) text _
    (λ s more. of-sized word text (Assert s) more is (λ block t l. refl) (λ block short. short)))

-- The table of commands.

row : (P : Line → Type 0) (word name : List ℕ) (line others : Line) → (word ≡ name → P line) → P others
    → P (if bytes_eq word name then line else others)
row P word name line others this more = by (bytes_eq word name) refl
  where
    by : (t : Bool) → bytes_eq word name ≡ t → P (if t then line else others)
    by true is = this ((bytes_eq-Decides word name).0 is)
    by false is = more

command-fits : (word : List ℕ) (rest : Option (List ℕ)) → Fits word rest (line_of_command word rest)
command-fits word rest =
    row (Fits word rest) word (codes "OPEN") _ _ (λ is. alone-fits word rest Open (λ t l. refl) tt)
    (row (Fits word rest) word (codes "CLOSE") _ _ (λ is. numbered-fits word rest Close (λ s t l. refl) (λ s. tt))
    (row (Fits word rest) word (codes "PIN") _ _ (λ is. pin-fits word rest)
    (row (Fits word rest) word (codes "ASSERT") _ _ (λ is. assert-fits word rest (λ other. other.1 is))
    (row (Fits word rest) word (codes "RETRACT") _ _ (λ is. retract-fits word rest)
    (row (Fits word rest) word (codes "SET") _ _ (λ is. set-fits word rest)
    (row (Fits word rest) word (codes "SETX") _ _ (λ is. set_hex-fits word rest)
    (row (Fits word rest) word (codes "UNSET") _ _ (λ is. unset-fits word rest)
    (row (Fits word rest) word (codes "AUTH") _ _ (λ is. text-fits word rest Auth (λ s more t l. refl) (λ s more. tt))
    (row (Fits word rest) word (codes "UNAUTH") _ _
    (λ is. text-fits word rest Unauth (λ s more t l. refl) (λ s more. tt))
    (row (Fits word rest) word (codes "CLEAR") _ _ (λ is. numbered-fits word rest Clear (λ s t l. refl) (λ s. tt))
    (row (Fits word rest) word (codes "QUERY") _ _ (λ is. text-fits word rest Query (λ s more t l. refl) (λ s more. tt))
    (row (Fits word rest) word (codes "WATCH") _ _ (λ is. text-fits word rest Watch (λ s more t l. refl) (λ s more. tt))
    (row (Fits word rest) word (codes "NEWS") _ _ (λ is. numbered-fits word rest News (λ s t l. refl) (λ s. tt))
    (row (Fits word rest) word (codes "UNWATCH") _ _ (λ is. numbered-fits word rest Unwatch (λ s t l. refl) (λ s. tt))
    (row (Fits word rest) word (codes "CRITICAL") _ _
    (λ is. text-fits word rest Critical (λ s more t l. refl) (λ s more. tt))
    (row (Fits word rest) word (codes "ADMIN") _ _ (λ is. admin-fits word rest)
    (row (Fits word rest) word (codes "ADD") _ _
    (λ is. sized-fits word rest Add (λ other. other.0 is) (λ block t l. refl) (λ block short. short))
    (row (Fits word rest) word (codes "DROP") _ _ (λ is. drop-fits word rest)
    (row (Fits word rest) word (codes "BATCH") _ _
    (λ is. sized-fits word rest Batch (λ other. other.2 is) (λ block t l. refl) (λ block short. short))
    (row (Fits word rest) word (codes "LOG") _ _ (λ is. numbered-fits word rest Log (λ n t l. refl) (λ n. tt))
    (row (Fits word rest) word (codes "BYE") _ _ (λ is. alone-fits word rest Bye (λ t l. refl) tt)
    (whole-fits word rest (Faulty Command) (λ t l. refl) tt))))))))))))))))))))))

line-fits : (text : List ℕ) → Fits (before_first is_space text) (behind_space text) (line_of text)
line-fits text = command-fits (before_first is_space text) (behind_space text)

-- What the proofs above take of it.

pub kept-line : (text : List ℕ) → IsKeptLine (line_of text)
kept-line text = (line-fits text).kept

pub whole-line : (text : List ℕ) → NamesNone (before_first is_space text) (behind_space text)
    → None ≡ blocked_of (line_of text)
whole-line text = (line-fits text).whole

-- what is answered of a line that names no block is of its form
pub form_answer : (result : Result Wired WireFault) (line : List ℕ) → Whole (request_or_fault result) ≡ line_of line
    → IfOk result (λ request. IsWellFormed (request_of request))
form_answer (Ok request) line e = subst OfForm (sym e) (line-fits line).form
form_answer (Err fault) line e = tt
