-- Laws of requests.
use Rattle.std.specs.Prelude.{ℕ, ◌≡◌, ◌≤◌, List, [], ◌∷◌, ◌++◌, length, flat_map, Ok, Err}
use Rattle.std.specs.List.{AllByRecursion}
use Rattle.kn_base.specs.declared.limits.TheConstants.{LINE_BYTES}
use Rattle.kn_wire.specs.Requests.{Request, Takes, AreRequests}
use Rattle.kn_wire.specs.Requests.{first_of, first_of_line, line_of, line_length, without_return}
use Rattle.kn_wire.specs.Feeding.{Held, Bytes, held_bytes}
use Rattle.kn_wire.specs.Pieces.{Pieced}
use Rattle.kn_wire.specs.Items.{BatchItem, items_of, IsShortItem, AreItems, DepartsAt}

-- the first request of a text that begins with a line and a newline is that of the line
abbrev pub LineIsFirst : Type 0
LineIsFirst = (line rest : List ℕ) → line_length line ≡ length line → length line ≤ LINE_BYTES
    → first_of (line ++ 10 ∷ rest) ≡ first_of_line (line_of (without_return line)) rest

-- a text has a list of requests, and a rest
abbrev pub SomeReading : Type 0
SomeReading = (text : List ℕ) → (requests : List Request) × (rest : List ℕ) × AreRequests text requests rest

-- and no other
abbrev pub OneReading : Type 0
OneReading = (text : List ℕ) (requests others : List Request) (rest other_rest : List ℕ)
    → AreRequests text requests rest → AreRequests text others other_rest
    → (requests ≡ others) × (rest ≡ other_rest)

-- the first requests of a text are the first ones of a longer text too
abbrev pub RequestsGrow : Type 0
RequestsGrow = (text more : List ℕ) (requests : List Request) (rest : List ℕ) → Takes text requests rest
    → (left : List ℕ) × Takes (text ++ more) requests left

-- the requests of a stream don't depend on how it is cut
abbrev pub PiecesAreRequests : Type 0
PiecesAreRequests = (pieces : List (List ℕ)) (requests : List Request) (new : Held)
    → Pieced (Bytes []) pieces requests new
    → AreRequests (flat_map (λ piece. piece) pieces) requests (held_bytes new)

-- the items that are read of a batch's block are those of which it is made
abbrev pub BatchIsItems : Type 0
BatchIsItems = (block : List ℕ) (items : List BatchItem) → items_of block ≡ Ok items
    → AreItems block items × AllByRecursion IsShortItem items

-- and the items of which it is made are read
abbrev pub ItemsAreRead : Type 0
ItemsAreRead = (block : List ℕ) (items : List BatchItem) → AreItems block items → AllByRecursion IsShortItem items
    → items_of block ≡ Ok items

-- a block of which none are read departs from the form at the item that is named
abbrev pub BlockDeparts : Type 0
BlockDeparts = (block : List ℕ) (number : ℕ) → items_of block ≡ Err number → DepartsAt block number

-- and a block that departs from the form at an item is refused at that item
abbrev pub DepartingIsRefused : Type 0
DepartingIsRefused = (block : List ℕ) (number : ℕ) → DepartsAt block number → items_of block ≡ Err number
