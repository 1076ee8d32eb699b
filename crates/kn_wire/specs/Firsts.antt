-- The first request of a text, as far as it is there.
use Rattle.std.specs.Prelude.{ℕ, ◌≡◌, ◌+◌, ◌<◌, ◌≤◌, false, List, ◌++◌, length, take, drop, Some, is_some}
use Rattle.kn_base.specs.declared.limits.TheConstants.{ASSERTION_BYTES, LINE_BYTES}
use Rattle.kn_wire.specs.declared.fault.WireFault.TheVariants.{Block}
use Rattle.kn_wire.specs.declared.first.First.{First}
use Rattle.kn_wire.specs.declared.first.First.TheVariants as F
use Rattle.kn_wire.specs.declared.head.Head.{Head}
use Rattle.kn_wire.specs.declared.byte_range.ByteRange.{ByteRange}
use Rattle.kn_wire.specs.Feeding.{Held, Bytes, Shut, next_of}
use Rattle.kn_wire.specs.Lines.{with_block}
use Rattle.kn_wire.specs.ByteRanges.{bytes_in}
use Rattle.kn_wire.specs.Requests as D
use Rattle.kn_wire.specs.Requests.{first_of, line_length, line_of, without_return}

-- fewer bytes than these hold no request, however the text goes on
abbrev pub HasNoneBelow : ℕ → List ℕ → Type 0
HasNoneBelow needed text = (more : List ℕ) → length (text ++ more) < needed → is_some (first_of (text ++ more)) ≡ false

-- the next request is that of this line, which names no block
pub record SpendsLine (old : Held) (bytes : List ℕ) (line : ByteRange) (new : Held) : Type 0 where
  pub request : D.Request
  pub names : line_of (bytes_in line bytes) ≡ D.Whole request
  pub next : next_of old ≡ Some (request, new)
  pub within : line.start + line.len ≤ length bytes

-- the next request is that of this head and this block
pub record SpendsBlock (old : Held) (bytes : List ℕ) (head : Head) (block : ByteRange) (new : Held) : Type 0 where
  pub next : next_of old ≡ Some (with_block head (bytes_in block bytes), new)
  pub within : block.start + block.len ≤ length bytes
  pub short : block.len ≤ ASSERTION_BYTES

pub record WaitsFor (text : List ℕ) (searched needed : ℕ) : Type 0 where
  pub clean : searched ≡ line_length text
  pub fewer : length text < needed
  pub none : HasNoneBelow needed text

abbrev pub IsFirst : List ℕ → First → Type 0
IsFirst text (F.Waits searched needed) = WaitsFor text searched needed
IsFirst text (F.Line line bytes) = SpendsLine (Bytes text) text line (Bytes (drop bytes text)) × (bytes ≤ length text)
IsFirst text (F.WithBlock head block bytes) =
    SpendsBlock (Bytes text) text head block (Bytes (drop bytes text)) × (bytes ≤ length text)
IsFirst text (F.Long n) = (n ≡ line_length text) × (LINE_BYTES < n)
IsFirst text (F.Unended n) = next_of (Bytes text) ≡ Some (D.Faulty (Block n), Shut n)

-- so many bytes are a line, which a newline follows, and it names a block of n bytes that completes this request
pub record NamesBlock (text : List ℕ) (end n : ℕ) (request : List ℕ → D.Request) : Type 0 where
  pub ends : end ≡ line_length text
  pub short : end ≤ LINE_BYTES
  pub within : end < length text
  pub names : line_of (without_return (take end text)) ≡ D.WithBlock n request
