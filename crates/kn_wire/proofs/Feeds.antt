-- What is held of a stream, and its next request.
use Rattle.std.proofs.Common.{◌≡◌, ◌≤◌, ◌<◌, ◌+◌, ℕ, Bool, true, false, Option, Some, None, option_map, is_some, List}
use Rattle.std.proofs.Common.{[], ◌++◌, length, take, drop, refl, sym, ap, ◌∙◌, ⊎_elim, ◌==◌, arith, nat_lt, ltb-true}
use Rattle.std.proofs.Common.{ltb-false, length-append, length-drop, append_assoc, drop-drop, append-nil, subst}
use Rattle.std.specs.Prelude.{if◌then◌else◌, slice_get}
use Rattle.std.proofs.lemmas.Option.{slice_get_cases}
use Rattle.std.proofs.lemmas.List.{drop-append-le, drop-take, take-append-drop, take-take}
use Rattle.std.specs.List.{list_any, after_first, before_first}
use Rattle.kn_wire.specs.declared.fault.WireFault.{WireFault}
use Rattle.kn_wire.specs.declared.fault.WireFault.TheVariants.{Long, Block}
use Rattle.kn_wire.specs.declared.cursor.Cursor.{Cursor}
use Rattle.kn_wire.specs.declared.cursor.Stage.TheVariants as S
use Rattle.kn_wire.specs.Cursors.{IsSound, held_at, held_by}
use Rattle.kn_wire.specs.Firsts.{HasNoneBelow}
use Rattle.kn_wire.specs.Feeding.{Held, Bytes, InLong, next_of, with_piece, held_after}
use Rattle.kn_wire.specs.Requests.{Request, Line, Whole, WithBlock, Faulty, first_of, first_of_line, first_of_block}
use Rattle.kn_wire.specs.Requests.{line_of, line_length, without_return, is_newline}
use Rattle.kn_wire.proofs.Firsts.{after_first_of}
use Rattle.kn_wire.proofs.Growing.{no_request, line-first, long-first, line_within, ended-longer, open-longer}
use Rattle.kn_wire.proofs.Growing.{open-length, ended-length, spent}

-- there is no next request where there is no first one
pub none_next : (text : List ℕ) → is_some (first_of text) ≡ false → next_of (Bytes text) ≡ None
none_next text none = by (first_of text) none
  where
    by : (first : Option (Request × List ℕ)) → is_some first ≡ false → option_map (spent text) first ≡ None
    by None none = refl
    by (Some first) none = cc

-- fewer bytes than are needed hold no request
pub fewer_next : (needed : ℕ) (text : List ℕ) → HasNoneBelow needed text → length text < needed
    → next_of (Bytes text) ≡ None
fewer_next needed text none fewer =
    none_next text (ap (λ t. is_some (first_of t)) (sym (append-nil text)) ∙ none [] (rw (append-nil text) fewer))

abbrev pub with_fault : WireFault → Held → Option (Request × Held)
with_fault fault held = Some (Faulty fault, held)

-- a long line whose newline is there
pub long_next : (text : List ℕ) (n : ℕ) → n ≡ line_length text → 8192 < n → n < length text
    → next_of (Bytes text) ≡ Some (Faulty Long, Bytes (drop (n + 1) text))
long_next text n ends long within =
    after_first_of text (Faulty Long) (after_first is_newline text) (long-first text (omega arith))
    ∙ by (list_any is_newline text) refl
    ∙ ap (λ k. with_fault Long (Bytes (drop (k + 1) text))) (sym ends)
  where
    by : (t : Bool) → list_any is_newline text ≡ t
        → with_fault Long (held_after text (Faulty Long) (after_first is_newline text))
        ≡ with_fault Long (Bytes (after_first is_newline text))
    by true any = ap (λ t. with_fault Long (if t then Bytes (after_first is_newline text) else InLong)) any
    by false any = let all = open-length text any in absurd (omega arith)

-- and one whose newline isn't
pub long_unended_next : (text : List ℕ) (n : ℕ) → n ≡ line_length text → 8192 < n → length text ≤ n
    → next_of (Bytes text) ≡ Some (Faulty Long, InLong)
long_unended_next text n ends long all =
    after_first_of text (Faulty Long) (after_first is_newline text) (long-first text (omega arith))
    ∙ by (list_any is_newline text) refl
  where
    by : (t : Bool) → list_any is_newline text ≡ t
        → with_fault Long (held_after text (Faulty Long) (after_first is_newline text)) ≡ with_fault Long InLong
    by true any = let within = ended-length text any in absurd (omega arith)
    by false any = ap (λ t. with_fault Long (if t then Bytes (after_first is_newline text) else InLong)) any

-- A piece is added.

-- a text that has no first request is at most a line with its newline and a block
first_none : (text : List ℕ) → next_of (Bytes text) ≡ None → first_of text ≡ None
first_none text none = by (first_of text) none
  where
    by : (first : Option (Request × List ℕ)) → option_map (spent text) first ≡ None → first ≡ None
    by None none = refl
    by (Some first) none = absurd (no_request (first.0, held_after text first.0 first.1) (sym none))

slice_get_none : (xs : List ℕ) (i : ℕ) → slice_get xs i ≡ None → length xs ≤ i
slice_get_none xs i e =
    ⊎_elim (λ found. absurd (no_request found.0 (sym e ∙ found.2))) (λ past. past.0) (slice_get_cases xs i).1

abbrev some_first : Request → List ℕ → Option (Request × List ℕ)
some_first request left = Some (request, left)

waiting_short : (line : Line) (rest : List ℕ) → first_of_line line rest ≡ None → length rest ≤ 16384
waiting_short (Whole request) rest none = absurd (no_request (request, rest) (sym none))
waiting_short (WithBlock n request) rest none = by (nat_lt 16384 n) refl none
  where
    by_newline : (t : Bool)
        → (if t then some_first (request (take n rest)) (drop (n + 1) rest) else some_first (Faulty (Block n)) [])
        ≡ None → length rest ≤ 16384
    by_newline true none = cc
    by_newline false none = cc

    by_byte : (byte : Option ℕ) → slice_get rest n ≡ byte → n ≤ 16384 → first_of_block n request rest byte ≡ None
        → length rest ≤ 16384
    by_byte None there small none = let size = slice_get_none rest n there in omega arith
    by_byte (Some b) there small none = by_newline (b == 10) none

    by : (t : Bool) → nat_lt 16384 n ≡ t
        → (if t then some_first (Faulty (Block n)) [] else first_of_block n request rest (slice_get rest n)) ≡ None
        → length rest ≤ 16384
    by true large none = cc
    by false small none = by_byte (slice_get rest n) refl (ltb-false 16384 n small) none

pub waiting_text_short : (text : List ℕ) → next_of (Bytes text) ≡ None → length text ≤ 24577
waiting_text_short text none = by (nat_lt 8192 (line_length text)) (nat_lt (line_length text) (length text)) refl refl
  where
    by : (long ended : Bool) → nat_lt 8192 (line_length text) ≡ long → nat_lt (line_length text) (length text) ≡ ended
        → length text ≤ 24577
    by true ended is_long is_ended =
        absurd (no_request (Faulty Long, after_first is_newline text) (sym (first_none text none)
        ∙ long-first text (ltb-true 8192 (line_length text) is_long)))
    by false true is_long is_ended =
        let short = ltb-false 8192 (line_length text) is_long in
        let ended = ltb-true (line_length text) (length text) is_ended in
        let size = length-drop (line_length text + 1) text in
        let rest = waiting_short (line_of (without_return (before_first is_newline text))) (after_first is_newline text)
        (sym (line-first text short ended) ∙ first_none text none) in
        omega arith
    by false false is_long is_ended =
        let short = ltb-false 8192 (line_length text) is_long in
        let all = ltb-false (line_length text) (length text) is_ended in
        omega arith

-- a longer text begins with as many bytes that are no newline
pub clean_longer : (text more : List ℕ) (searched : ℕ) → searched ≤ line_length text
    → searched ≤ line_length (text ++ more)
clean_longer text more searched clean = by (nat_lt (line_length text) (length text)) refl
  where
    by : (t : Bool) → nat_lt (line_length text) (length text) ≡ t → searched ≤ line_length (text ++ more)
    by true ended = let same = ended-longer text more (ltb-true (line_length text) (length text) ended) in omega arith
    by false unended =
        let beyond = ltb-false (line_length text) (length text) unended in
        let within = line_within text in
        let longer = open-longer text more (omega arith) in
        omega arith

pub none_longer : (needed : ℕ) (text piece : List ℕ) → HasNoneBelow needed text → HasNoneBelow needed (text ++ piece)
none_longer needed text piece none more fewer =
    ap (λ t. is_some (first_of t)) (append_assoc text piece more)
    ∙ none (piece ++ more) (rw (← append_assoc text piece more) fewer)

-- A piece of a long line.

pub skips_all : (piece : List ℕ) (end : ℕ) → end ≡ line_length piece → end ≡ length piece
    → InLong ≡ with_piece InLong piece
skips_all piece end ends all = by (list_any is_newline piece) refl
  where
    by : (t : Bool) → list_any is_newline piece ≡ t
        → InLong ≡ (if list_any is_newline piece then Bytes (after_first is_newline piece) else InLong)
    by true any = let within = ended-length piece any in absurd (omega arith)
    by false any = sym (ap (λ t. if t then Bytes (after_first is_newline piece) else InLong) any)

pub skips_line : (piece : List ℕ) (end : ℕ) → end ≡ line_length piece → end < length piece
    → Bytes (drop (end + 1) piece) ≡ with_piece InLong piece
skips_line piece end ends within = by (list_any is_newline piece) refl
  where
    by : (t : Bool) → list_any is_newline piece ≡ t
        → Bytes (drop (end + 1) piece)
        ≡ (if list_any is_newline piece then Bytes (after_first is_newline piece) else InLong)
    by true any = ap (λ k. Bytes (drop (k + 1) piece)) ends
        ∙ sym (ap (λ t. if t then Bytes (after_first is_newline piece) else InLong) any)
    by false any = let all = open-length piece any in absurd (omega arith)

-- The bytes that came.

pub take_more : (items : List ℕ) (end bytes : ℕ)
    → take (end + bytes) items ≡ take end items ++ take bytes (drop end items)
take_more items end bytes =
    sym (take-append-drop end (take (end + bytes) items))
    ∙ ap (λ t. t ++ drop end (take (end + bytes) items)) (take-take end (end + bytes) items (omega arith))
    ∙ ap (λ t. take end items ++ t) (drop-take end bytes items)

-- what is behind a place, of the bytes that came and those that are added
pub drop_more : (items : List ℕ) (end at bytes : ℕ)
    → drop (end + at) (take (end + bytes) items) ≡ drop at (take bytes (drop end items))
drop_more items end at bytes = sym (drop-drop at end (take (end + bytes) items))
    ∙ ap (drop at) (drop-take end bytes items)

-- a cursor that looked for nothing yet
pub fresh_sound : (cursor : Cursor) (bytes : List ℕ) → cursor.from ≤ length bytes → cursor.searched ≡ 0
    → cursor.needed ≡ 0 → IsSound cursor bytes
fresh_sound cursor bytes within clean needed =
    record {
      within = within;
      clean = omega arith;
      none_below = λ more fewer. absurd (omega arith);
    }

pub sound_longer : (cursor : Cursor) (bytes more : List ℕ) → IsSound cursor bytes → IsSound cursor (bytes ++ more)
sound_longer cursor bytes more sound =
    let behind : drop cursor.from (bytes ++ more) ≡ drop cursor.from bytes ++ more =
    drop-append-le cursor.from bytes more sound.within in
    let within = sound.within in
    let size = length-append bytes more in
    record {
      within = omega arith;
      clean = subst (λ (t : List ℕ). cursor.searched ≤ line_length t) (sym behind)
          (clean_longer (drop cursor.from bytes) more cursor.searched sound.clean);
      none_below = subst (λ (t : List ℕ). HasNoneBelow cursor.needed t) (sym behind)
          (none_longer cursor.needed (drop cursor.from bytes) more sound.none_below);
    }

pub held_longer : (cursor : Cursor) (bytes more : List ℕ) → cursor.stage ≡ S.Reading → cursor.from ≤ length bytes
    → held_at cursor (bytes ++ more) ≡ with_piece (held_at cursor bytes) more
held_longer cursor bytes more reading within =
    ap (λ stage. held_by stage (drop cursor.from (bytes ++ more))) reading
    ∙ ap Bytes (drop-append-le cursor.from bytes more within)
    ∙ ap (λ stage. with_piece (held_by stage (drop cursor.from bytes)) more) (sym reading)

-- nothing is next before so many bytes came
pub fewer_held : (cursor : Cursor) (bytes : List ℕ) (needed : ℕ) → cursor.stage ≡ S.Reading
    → HasNoneBelow needed (drop cursor.from bytes) → length (drop cursor.from bytes) < needed
    → next_of (held_at cursor bytes) ≡ None
fewer_held cursor bytes needed reading none fewer =
    ap (λ stage. next_of (held_by stage (drop cursor.from bytes))) reading
    ∙ fewer_next needed (drop cursor.from bytes) none fewer

-- a long line is spent, with its newline or what is there of it
pub long_held : (cursor new : Cursor) (bytes text : List ℕ) (n : ℕ) → cursor.stage ≡ S.Reading
    → text ≡ drop cursor.from bytes → n ≡ line_length text → 8192 < n
    → (n < length text → new ≡ record cursor { from = cursor.from + (n + 1); searched = 0; needed = 0 })
    → (length text ≤ n
    → new ≡ record { from = cursor.from + length text; searched = 0; needed = 0; stage = S.Skipping })
    → next_of (held_at cursor bytes) ≡ Some (Faulty Long, held_at new bytes)
long_held cursor new bytes text n reading behind ends long here underway =
    ap (λ stage. next_of (held_by stage (drop cursor.from bytes))) reading ∙ ap (λ t. next_of (Bytes t)) (sym behind)
    ∙ by (nat_lt n (length text)) refl
  where
    by : (t : Bool) → nat_lt n (length text) ≡ t → next_of (Bytes text) ≡ Some (Faulty Long, held_at new bytes)
    by true is =
        let within = ltb-true n (length text) is in
        long_next text n ends long within
        ∙ ap (λ t. with_fault Long (Bytes (drop (n + 1) t))) behind
        ∙ ap (λ t. with_fault Long (Bytes t)) (drop-drop (n + 1) cursor.from bytes)
        ∙ ap (λ stage. with_fault Long (held_by stage (drop (cursor.from + (n + 1)) bytes))) (sym reading)
        ∙ ap (λ k. with_fault Long (held_at k bytes)) (sym (here within))
    by false is =
        let all = ltb-false n (length text) is in
        long_unended_next text n ends long all ∙ ap (λ k. with_fault Long (held_at k bytes)) (sym (underway all))
