-- The requests of a script, as far as they were taken.
use Rattle.std.proofs.Common.{◌≡◌, ◌<◌, ◌≤◌, ◌+◌, ℕ, Bool, true, false, ◌==◌, ◌||◌, nat_lt, Option, List, [], ◌∷◌, ◌++◌}
use Rattle.std.proofs.Common.{length, take, drop, arith, refl, sym, ap, ◌∙◌, subst, Some, None}
use Rattle.std.specs.Prelude.{if◌then◌else◌, slice_get, IfSome}
use Rattle.std.specs.List.{list_any, before_first, after_first}
use Rattle.std.proofs.lemmas.List.{length-drop}
use Rattle.std.proofs.lemmas.Bool.Decides.{Decides-ltb}
use Rattle.kn_wire.specs.declared.fault.WireFault.TheVariants.{Long, Block}
use Rattle.kn_wire.specs.Requests.{Request, Line, Takes, AreRequests, first_of, first_of_line, first_of_block, line_of}
use Rattle.kn_wire.specs.Requests.{line_length, without_return, is_newline}
use Rattle.kn_wire.specs.Requests.Request.{Faulty}
use Rattle.kn_wire.specs.Requests.Line.{Whole, WithBlock}
use Rattle.kn_wire.proofs.Growing.{line_within}
use Rattle.kn_wire.proofs.Readings.{some_reading, one_reading}
use Rattle.kn_daemon.specs.Played.{is_last, up_to_end}
use Rattle.kn_play.specs.Playing.{AreUpToEnd}

-- Each request spends some bytes, so a text has at most as many as bytes.

IsShorter : List ℕ → Option (Request × List ℕ) → Type 0
IsShorter text first = IfSome {T = Request × List ℕ} first (λ f. length f.1 < length text)

block-left : (n : ℕ) (request : List ℕ → Request) (text : List ℕ) (byte : Option ℕ)
    → IfSome {T = Request × List ℕ} (first_of_block n request text byte) (λ f. length f.1 ≤ length text)
block-left n request text None = tt
block-left n request text (Some b) = by (b == 10)
  where
    by : (t : Bool) → IfSome {T = Request
        × List ℕ} (if t then Some (request (take n text), drop (n + 1) text) else Some (Faulty (Block n), []))
        (λ f. length f.1 ≤ length text)
    by true = let size = length-drop (n + 1) text in omega (arith, size)
    by false = omega arith

line-left : (line : Line) (text : List ℕ)
    → IfSome {T = Request × List ℕ} (first_of_line line text) (λ f. length f.1 ≤ length text)
line-left (Whole request) text = omega arith
line-left (WithBlock n request) text = by (nat_lt 16384 n)
  where
    by : (t : Bool) → IfSome {T = Request
        × List ℕ} (if t then Some (Faulty (Block n), []) else first_of_block n request text (slice_get text n))
        (λ f. length f.1 ≤ length text)
    by true = omega arith
    by false = block-left n request text (slice_get text n)

shorter : (text rest : List ℕ) (first : Option (Request × List ℕ))
    → IfSome {T = Request × List ℕ} first (λ f. length f.1 ≤ length rest) → length rest < length text
    → IsShorter text first
unfolding IsShorter
shorter text rest None within less = tt
shorter text rest (Some first) within less = omega (arith, within, less)

first-left : (text : List ℕ) → IsShorter text (first_of text)
unfolding IsShorter
first-left text = by (nat_lt 8192 (line_length text)) (nat_lt (line_length text) (length text)) refl refl
  where
    by : (long ended : Bool) → nat_lt 8192 (line_length text) ≡ long → nat_lt (line_length text) (length text) ≡ ended
        → IsShorter text (if long then Some (Faulty Long, after_first is_newline text)
        else if ended then first_of_line (line_of (without_return (before_first is_newline text)))
        (after_first is_newline text)
        else None)
    by true ended is_long is_ended =
        let size = length-drop (line_length text + 1) text in
        let long = (Decides-ltb 8192 (line_length text)).0 is_long in
        let within = line_within text in
        omega (arith, size, long, within)
    by false true is_long is_ended =
        let size = length-drop (line_length text + 1) text in
        let ended = (Decides-ltb (line_length text) (length text)).0 is_ended in
        shorter text (after_first is_newline text)
        (first_of_line (line_of (without_return (before_first is_newline text))) (after_first is_newline text))
        (line-left (line_of (without_return (before_first is_newline text))) (after_first is_newline text))
        (omega (arith, size, ended))
    by false false is_long is_ended = tt

pub takes-few : (text : List ℕ) (requests : List Request) (rest : List ℕ) → Takes text requests rest
    → length requests + length rest ≤ length text
unfolding IsShorter
takes-few text [] rest taken = let same = ap length taken in omega (arith, same)
takes-few text (request ∷ requests) rest (left, here, taken) =
    let less : length left < length text = subst (IsShorter text) here (first-left text) in
    let few = takes-few left requests rest taken in
    omega (arith, less, few)

-- Requests up to their end.

pub goes-on : (requests others : List Request) → list_any is_last requests ≡ false
    → up_to_end (requests ++ others) ≡ requests ++ up_to_end others
goes-on [] others none = refl
goes-on (request ∷ requests) others none = by (is_last request) none (goes-on requests others)
  where
    by : (t : Bool) → (t || list_any is_last requests) ≡ false
        → (list_any is_last requests ≡ false → up_to_end (requests ++ others) ≡ requests ++ up_to_end others)
        → (if t then request ∷ [] else request ∷ up_to_end (requests ++ others)) ≡ request
        ∷ (requests ++ up_to_end others)
    by true none rest = cc
    by false none rest = ap (λ rs. request ∷ rs) (rest none)

pub ends-at : (request : Request) (others : List Request) → is_last request ≡ true
    → up_to_end (request ∷ others) ≡ request ∷ []
ends-at request others last = ap (λ t. if t then request ∷ [] else request ∷ up_to_end others) last

few-to-end : (requests : List Request) → length (up_to_end requests) ≤ length requests
few-to-end [] = omega arith
few-to-end (request ∷ requests) = by (is_last request) (few-to-end requests)
  where
    by : (t : Bool) → length (up_to_end requests) ≤ length requests
        → length (if t then request ∷ [] else request ∷ up_to_end requests) ≤ length (request ∷ requests)
    by true few = omega arith
    by false few = omega (arith, few)

pub few-played : (script : List ℕ) (requests : List Request) → AreUpToEnd script requests
    → length requests ≤ length script
few-played script requests these =
    let few = takes-few script these.all these.rest these.whole.taken in
    let short = few-to-end these.all in
    let same = ap length these.end in
    omega (arith, few, short, same)

pub one-end : (script : List ℕ) (requests others : List Request) → AreUpToEnd script requests → AreUpToEnd script others
    → requests ≡ others
one-end script requests others a b = sym a.end
    ∙ ap up_to_end (one_reading script a.all b.all a.rest b.rest a.whole b.whole).0 ∙ b.end

takes-on : (text : List ℕ) (requests : List Request) (mid : List ℕ) (others : List Request) (rest : List ℕ)
    → Takes text requests mid → Takes mid others rest → Takes text (requests ++ others) rest
takes-on text [] mid others rest first more = subst (λ t. Takes t others rest) (sym first) more
takes-on text (request ∷ requests) mid others rest (left, here, first) more =
    (left, here, takes-on left requests mid others rest first more)

-- the requests of a script whose first ones are these
pub record GoOn (script : List ℕ) (requests : List Request) : Type 0 where
  pub others : List Request
  pub rest : List ℕ
  pub whole : AreRequests script (requests ++ others) rest

pub go-on : (script : List ℕ) (requests : List Request) (rest : List ℕ) → Takes script requests rest
    → GoOn script requests
go-on script requests rest taken =
    let more = some_reading rest in
    record {
      others = more.0;
      rest = more.1;
      whole = record {
        taken = takes-on script requests rest more.0 more.1 taken more.2.taken;
        no_more =
            more.2.no_more;
      };
    }
