-- The first request of a text, as far as it is there.
use Rattle.std.proofs.Common.{◌≡◌, ◌≢◌, ◌≤◌, ◌<◌, ◌+◌, ℕ, false, Option, Some, None, option_map, is_some, List, [], ◌∷◌}
use Rattle.std.proofs.Common.{◌++◌, length, get_or, slice_get, take, drop, refl, sym, ap, subst, ◌∙◌, arith, lt-ltb}
use Rattle.std.proofs.Common.{le-ltb, eq-eqb, ne_eqb, length-append, length-drop, length-take, append-nil, drop-drop}
use Rattle.std.specs.Prelude.{if◌then◌else◌}
use Rattle.std.proofs.lemmas.List.{take-append-le, take-take, get_or-drop}
use Rattle.std.proofs.lemmas.Option.{slice_get_past, slice_get-get_or}
use Rattle.kn_wire.specs.declared.fault.WireFault.TheVariants.{Block}
use Rattle.kn_wire.specs.declared.head.Head.{Head}
use Rattle.kn_wire.specs.Feeding.{Bytes, Shut, next_of, held_after}
use Rattle.kn_wire.specs.Firsts.{HasNoneBelow, SpendsLine, SpendsBlock, WaitsFor, NamesBlock}
use Rattle.kn_wire.specs.Lines.{blocked_of, with_block}
use Rattle.kn_wire.specs.Requests.{Request, Line, Whole, WithBlock, Faulty, first_of, first_of_line, first_of_block}
use Rattle.kn_wire.specs.Requests.{line_of, line_length, without_return}
use Rattle.kn_wire.proofs.Growing.{line-first, none-first, ended-longer, same_first, spent}
use Rattle.kn_wire.proofs.LineFits.{IsKept, IsKeptLine, kept-line}
use Rattle.kn_wire.proofs.Splits.{bare_front, bare_short}

none_some : {X : Type 0} (o : Option X) → o ≡ None → is_some o ≡ false
none_some o e = ap is_some e

pub after_first_of : (text : List ℕ) (request : Request) (left : List ℕ) → first_of text ≡ Some (request, left)
    → next_of (Bytes text) ≡ Some (request, held_after text request left)
after_first_of text request left e = ap (option_map (spent text)) e

-- a first request that leaves what follows it is the next one
kept_next : (text : List ℕ) (request : Request) (left : List ℕ) → first_of text ≡ Some (request, left) → IsKept request
    → next_of (Bytes text) ≡ Some (request, Bytes left)
kept_next text request left e kept = after_first_of text request left e ∙ ap (λ h. Some (request, h)) (kept text left)

-- a block that is refused
unended_next : (text : List ℕ) (n : ℕ) → first_of text ≡ Some (Faulty (Block n), [])
    → next_of (Bytes text) ≡ Some (Faulty (Block n), Shut n)
unended_next text n e = after_first_of text (Faulty (Block n)) [] e

-- the line that so many bytes of a text and their newline spell
abbrev line_at : List ℕ → ℕ → Line
line_at text end = line_of (without_return (take end text))

at_line : (text : List ℕ) (end : ℕ) → end ≡ line_length text → end ≤ 8192 → end < length text
    → first_of text ≡ first_of_line (line_at text end) (drop (end + 1) text)
at_line text end ends short within =
    line-first text (omega arith) (omega arith)
    ∙ ap (λ n. first_of_line (line_at text n) (drop (n + 1) text)) (sym ends)

-- No newline.

pub waits_for_newline : (text : List ℕ) (end : ℕ) → end ≡ line_length text → end ≤ 8192 → end ≡ length text
    → WaitsFor text end (end + 1)
waits_for_newline text end ends short all =
    record { clean = omega arith; fewer = omega arith; none = none }
  where
    none : HasNoneBelow (end + 1) text
    none [] fewer =
        let same : first_of (text ++ []) ≡ None = ap first_of (append-nil text)
        ∙ none-first text (omega arith) (omega arith) in
        none_some (first_of (text ++ [])) same
    none (b ∷ more) fewer = let size = length-append text (b ∷ more) in absurd (omega arith)

-- A line that names no block.

no_block : (line : Line) → blocked_of line ≡ None → (request : Request) × (line ≡ Whole request)
no_block (Whole request) none = (request, refl)
no_block (WithBlock n request) none = cc

-- so many bytes are the line without its carriage return
bare_part : (text : List ℕ) (end : ℕ) → end ≤ length text
    → take (length (without_return (take end text))) text ≡ without_return (take end text)
bare_part text end within =
    let short = bare_short (take end text) in
    let size = length-take end text in
    sym (take-take (length (without_return (take end text))) end text (omega arith)) ∙ bare_front (take end text)

pub spends_line : (text line : List ℕ) (end : ℕ) → end ≡ line_length text → end ≤ 8192 → end < length text
    → line ≡ without_return (take end text) → blocked_of (line_of line) ≡ None
    → SpendsLine (Bytes text) text (record { start = 0; len = length line }) (Bytes (drop (end + 1) text))
    × (end + 1 ≤ length text)
spends_line text line end ends short within bare none =
    let size = length-take end text in
    let bare_size = bare_short (take end text) in
    let same : length line ≡ length (without_return (take end text)) = ap length bare in
    let front : take (length line) text ≡ line = ap (λ k. take k text) same ∙ bare_part text end (omega arith)
    ∙ sym bare in
    let found : (request : Request) × (line_of line ≡ Whole request) = no_block (line_of line) none in
    let kept : IsKept found.0 = subst IsKeptLine found.1 (kept-line line) in
    let first : first_of text ≡ Some (found.0, drop (end + 1) text) =
    at_line text end ends short within
    ∙ ap (λ l. first_of_line (line_of l) (drop (end + 1) text)) (sym bare)
    ∙ ap (λ l. first_of_line l (drop (end + 1) text)) found.1 in (
      record {
        request = found.0;
        names = ap line_of front ∙ found.1;
        next = kept_next text found.0 (drop (end + 1) text) first kept;
        within = omega arith;
      },
      omega arith,
    )

-- A line that names a block.

named : (line : Line) (n : ℕ) (request : List ℕ → Request) → Some (WithBlock n request) ≡ blocked_of line
    → line ≡ WithBlock n request
named (Whole request') n request e = cc
named (WithBlock n' request') n request e = same_first (WithBlock n' request') (WithBlock n request) (sym e)

pub names_block : (text line : List ℕ) (end n : ℕ) (request : List ℕ → Request) → end ≡ line_length text → end ≤ 8192
    → end < length text → line ≡ without_return (take end text)
    → Some (WithBlock n request) ≡ blocked_of (line_of line) → NamesBlock text end n request
names_block text line end n request ends short within bare names =
    record {
      ends = ends;
      short = short;
      within = within;
      names = ap line_of (sym bare) ∙ named (line_of line) n request names;
    }

-- the request of the block is that of the text
block_line : (text : List ℕ) (end n : ℕ) (request : List ℕ → Request) → NamesBlock text end n request
    → first_of text ≡ first_of_line (WithBlock n request) (drop (end + 1) text)
block_line text end n request names =
    at_line text end names.ends names.short names.within ∙ ap (λ l. first_of_line l (drop (end + 1) text)) names.names

above : (n : ℕ) (request : List ℕ → Request) (rest : List ℕ) → 16384 < n
    → first_of_line (WithBlock n request) rest ≡ Some (Faulty (Block n), [])
above n request rest large =
    ap (λ t. if t then Some (Faulty (Block n), []) else first_of_block n request rest (slice_get rest n))
    (lt-ltb 16384 n large)

-- the request of a block that isn't too large, by the byte behind it
within_limit : (n : ℕ) (request : List ℕ → Request) (rest : List ℕ) → n ≤ 16384
    → first_of_line (WithBlock n request) rest ≡ first_of_block n request rest (slice_get rest n)
within_limit n request rest small =
    ap (λ t. if t then Some (Faulty (Block n), []) else first_of_block n request rest (slice_get rest n))
    (le-ltb 16384 n small)

pub waits_for_block : (text : List ℕ) (end n : ℕ) (request : List ℕ → Request) → NamesBlock text end n request
    → n ≤ 16384 → length text ≤ end + 1 + n → WaitsFor text end (end + 1 + n + 1)
waits_for_block text end n request names small fewer =
    let ends = names.ends in
    record { clean = omega arith; fewer = omega arith; none = none }
  where
    none : HasNoneBelow (end + 1 + n + 1) text
    none more few =
        let size = length-append text more in
        let ends = names.ends in
        let within = names.within in
        let same : end ≡ line_length (text ++ more) = names.ends ∙ sym (ended-longer text more (omega arith)) in
        let front : take end (text ++ more) ≡ take end text = take-append-le end text more (omega arith) in
        let left = length-drop (end + 1) (text ++ more) in
        none_some (first_of (text ++ more)) (
        at_line (text ++ more) end same names.short (omega arith)
        ∙ ap (λ l. first_of_line (line_of (without_return l)) (drop (end + 1) (text ++ more))) front
        ∙ ap (λ l. first_of_line l (drop (end + 1) (text ++ more))) names.names
        ∙ within_limit n request (drop (end + 1) (text ++ more)) small
        ∙ ap (first_of_block n request (drop (end + 1) (text ++ more)))
        (slice_get_past (drop (end + 1) (text ++ more)) n (omega arith))
        )

pub unended_above : (text : List ℕ) (end n : ℕ) (request : List ℕ → Request) → NamesBlock text end n request → 16384 < n
    → next_of (Bytes text) ≡ Some (Faulty (Block n), Shut n)
unended_above text end n request names large =
    unended_next text n (block_line text end n request names ∙ above n request (drop (end + 1) text) large)

-- the byte behind a block
byte_behind : (text : List ℕ) (end n : ℕ) → end + 1 + n < length text
    → slice_get (drop (end + 1) text) n ≡ Some (get_or text (end + 1 + n) 0)
byte_behind text end n within =
    let size = length-drop (end + 1) text in
    slice_get-get_or (drop (end + 1) text) n 0 (omega arith) ∙ ap Some (get_or-drop (end + 1) text n 0)

block_byte : (text : List ℕ) (end n : ℕ) (request : List ℕ → Request) → NamesBlock text end n request → n ≤ 16384
    → end + 1 + n < length text
    → first_of text ≡ first_of_block n request (drop (end + 1) text) (Some (get_or text (end + 1 + n) 0))
block_byte text end n request names small within =
    block_line text end n request names
    ∙ within_limit n request (drop (end + 1) text) small
    ∙ ap (first_of_block n request (drop (end + 1) text)) (byte_behind text end n within)

pub unended_byte : (text : List ℕ) (end n : ℕ) (request : List ℕ → Request) → NamesBlock text end n request → n ≤ 16384
    → end + 1 + n < length text → get_or text (end + 1 + n) 0 ≢ 10
    → next_of (Bytes text) ≡ Some (Faulty (Block n), Shut n)
unended_byte text end n request names small within other =
    unended_next text n (
    block_byte text end n request names small within
    ∙ ap (λ t. if t then Some (request (take n (drop (end + 1) text)), drop (n + 1) (drop (end + 1) text)) else Some
    (Faulty (Block n), []))
    (ne_eqb (get_or text (end + 1 + n) 0) 10 other)
    )

pub spends_block : (text : List ℕ) (end n : ℕ) (head : Head) → NamesBlock text end n (with_block head) → n ≤ 16384
    → end + 1 + n < length text → get_or text (end + 1 + n) 0 ≡ 10
    → SpendsBlock (Bytes text) text head (record { start = end + 1; len = n }) (Bytes (drop (end + 1 + n + 1) text))
    × (end + 1 + n + 1 ≤ length text)
spends_block text end n head names small within here =
    let request = with_block head in
    let block = take n (drop (end + 1) text) in
    let place : end + 1 + (n + 1) ≡ end + 1 + n + 1 = omega arith in
    let kept : IsKept (request block) =
    subst IsKeptLine names.names (kept-line (without_return (take end text))) block in
    let first : first_of text ≡ Some (request block, drop (end + 1 + n + 1) text) =
    block_byte text end n request names small within
    ∙ ap (λ t. if t then Some (request block, drop (n + 1) (drop (end + 1) text)) else Some (Faulty (Block n), []))
    (eq-eqb (get_or text (end + 1 + n) 0) 10 here)
    ∙ ap (λ left. Some (request block, left)) (drop-drop (n + 1) (end + 1) text ∙ ap (λ k. drop k text) place) in (
      record {
        next = kept_next text (request block) (drop (end + 1 + n + 1) text) first kept;
        within = omega arith;
        short = omega arith;
      },
      omega arith,
    )
