-- What is held of a stream of requests, piece by piece (keynoted's own).
use Rattle.std.specs.Prelude.{ℕ, Bool, true, false, List, [], ◌++◌, Option, Some, None, option_map, if◌then◌else◌}
use Rattle.std.specs.List.{list_any, after_first}
use Rattle.kn_wire.specs.declared.fault.WireFault.{WireFault}
use Rattle.kn_wire.specs.declared.fault.WireFault.TheVariants as F
use Rattle.kn_wire.specs.Requests.{Request, Faulty, Content, BlockOf, HexOf, Plain, FaultOf}
use Rattle.kn_wire.specs.Requests.{content_of, first_of, is_newline}

-- Bytes that belong to no answered request; or a long line that was answered before its newline came; or nothing for
-- good, since a block of n bytes was refused.
pub data Held : Type 0 where
  Bytes : List ℕ → Held
  InLong : Held
  Shut : ℕ → Held

-- the bytes that belong to no answered request
abbrev pub held_bytes : Held → List ℕ
held_bytes (Bytes text) = text
held_bytes InLong = []
held_bytes (Shut n) = []

-- a block was refused, so nothing more is taken
abbrev pub is_shut : Held → Bool
is_shut (Bytes text) = false
is_shut InLong = false
is_shut (Shut n) = true

-- one more piece
abbrev pub with_piece : Held → List ℕ → Held
with_piece (Bytes text) piece = Bytes (text ++ piece)
with_piece InLong piece = if list_any is_newline piece then Bytes (after_first is_newline piece) else InLong
with_piece (Shut n) piece = Shut n

-- what is held after this fault was the first of a text, and this was left
abbrev pub held_after_fault : List ℕ → WireFault → List ℕ → Held
held_after_fault text F.Syntax left = Bytes left
held_after_fault text F.Command left = Bytes left
held_after_fault text F.Long left = if list_any is_newline text then Bytes left else InLong
held_after_fault text (F.Block n) left = Shut n

-- what is held after a request of this content was the first of a text, and this was left; only a fault may drop some
-- of it
abbrev pub held_after_content : List ℕ → Content → List ℕ → Held
held_after_content text (BlockOf block) left = Bytes left
held_after_content text (HexOf digits) left = Bytes left
held_after_content text Plain left = Bytes left
held_after_content text (FaultOf fault) left = held_after_fault text fault left

abbrev pub held_after : List ℕ → Request → List ℕ → Held
held_after text request left = held_after_content text (content_of request) left

-- the next request, and what is then held; a refused block is answered again
abbrev pub next_of : Held → Option (Request × Held)
next_of (Bytes text) = option_map (λ first. (first.0, held_after text first.0 first.1)) (first_of text)
next_of InLong = None
next_of (Shut n) = Some (Faulty (F.Block n), Shut n)
