-- A text has one list of requests, and one rest.
use Rattle.std.proofs.Common.{◌≡◌, ◌<◌, ◌≤◌, ◌+◌, ℕ, zero, suc, Bool, true, false, ◌==◌, nat_lt, Option, List, [], ◌∷◌}
use Rattle.std.proofs.Common.{◌++◌, length, take, drop, arith, refl, sym, ap, ◌∙◌, subst, Some, None}
use Rattle.std.specs.Prelude.{if◌then◌else◌, slice_get}
use Rattle.std.specs.List.{before_first, after_first}
use Rattle.std.proofs.lemmas.List.{length-drop}
use Rattle.std.proofs.lemmas.Grind.{common_steps}
use Rattle.std.proofs.lemmas.Bool.Decides.{Decides-ltb}
use Rattle.kn_wire.specs.declared.fault.WireFault.TheVariants.{Long, Block}
use Rattle.kn_wire.specs.Requests.{Request, Line, Takes, AreRequests, first_of, first_of_line, first_of_block, line_of}
use Rattle.kn_wire.specs.Requests.{line_length, without_return, is_newline}
use Rattle.kn_wire.specs.Requests.Request.{Faulty}
use Rattle.kn_wire.specs.Requests.Line.{Whole, WithBlock}

no_request : (first : Request × List ℕ) → None ≡ Some first → ⊥
no_request first e = cc

same_first : (a b : Request × List ℕ) → Some a ≡ Some b → a ≡ b
same_first a b e = cc

-- a text is taken in one way
pub takes_once : (text : List ℕ) (requests others : List Request) (rest other_rest : List ℕ) → Takes text requests rest
    → Takes text others other_rest
    → first_of rest ≡ None → first_of other_rest ≡ None → (requests ≡ others) × (rest ≡ other_rest)
takes_once text [] [] rest other_rest a b none none' = (refl, sym a ∙ b)
takes_once text [] (other ∷ others) rest other_rest a b none none' =
    absurd (no_request (other, b.0) (sym none ∙ ap first_of (sym a) ∙ b.1))
takes_once text (request ∷ requests) [] rest other_rest a b none none' =
    absurd (no_request (request, a.0) (sym none' ∙ ap first_of (sym b) ∙ a.1))
takes_once text (request ∷ requests) (other ∷ others) rest other_rest a b none none' =
    let both = same_first (request, a.0) (other, b.0) (sym a.1 ∙ b.1) in
    let same : request ≡ other = ap (λ (p : Request × List ℕ). p.0) both in
    let left : a.0 ≡ b.0 = ap (λ (p : Request × List ℕ). p.1) both in
    let more = takes_once b.0 requests others rest other_rest (subst (λ (t : List ℕ). Takes t requests rest) left a.2)
    b.2 none none' in
    (ap (λ (r : Request). r ∷ requests) same ∙ ap (λ (rs : List Request). other ∷ rs) more.0, more.1)

pub one_reading : (text : List ℕ) (requests others : List Request) (rest other_rest : List ℕ)
    → AreRequests text requests rest → AreRequests text others other_rest
    → (requests ≡ others) × (rest ≡ other_rest)
one_reading text requests others rest other_rest a b =
    takes_once text requests others rest other_rest a.taken b.taken a.no_more b.no_more

-- and it has some

block_spends : (n : ℕ) (request : List ℕ → Request) (text : List ℕ) (byte : Option ℕ) (first : Request × List ℕ)
    → first_of_block n request text byte ≡ Some first
    → length first.1 ≤ length text
block_spends n request text None first e = absurd (no_request first e)
block_spends n request text (Some b) first e = by (b == 10) e
  where
    by : (newline : Bool)
        → (if newline then Some (request (take n text), drop (n + 1) text) else Some (Faulty (Block n), []))
        ≡ Some first → length first.1 ≤ length text
    by true e =
        let left = ap (λ (p : Request × List ℕ). length p.1)
        (same_first (request (take n text), drop (n + 1) text) first e) in
        let size = length-drop (n + 1) text in
        omega (arith, left, size)
    by false e =
        let left = ap (λ (p : Request × List ℕ). length p.1) (same_first (Faulty (Block n), []) first e) in
        omega (arith, left)

line_spends : (line : Line) (text : List ℕ) (first : Request × List ℕ) → first_of_line line text ≡ Some first
    → length first.1 ≤ length text
line_spends (Whole request) text first e =
    let left = ap (λ (p : Request × List ℕ). length p.1) (same_first (request, text) first e) in
    omega (arith, left)
line_spends (WithBlock n request) text first e = by (nat_lt 16384 n) e
  where
    by : (large : Bool)
        → (if large then Some (Faulty (Block n), []) else first_of_block n request text (slice_get text n)) ≡ Some first
        → length first.1 ≤ length text
    by true e =
        let left = ap (λ (p : Request × List ℕ). length p.1) (same_first (Faulty (Block n), []) first e) in
        omega (arith, left)
    by false e = block_spends n request text (slice_get text n) first e

line_within : (text : List ℕ) → line_length text ≤ length text
line_within [] = omega arith
line_within (b ∷ text) = grind (arith, common_steps, line_within text)

-- each request spends some bytes
first_spends : (text : List ℕ) (first : Request × List ℕ) → first_of text ≡ Some first → length first.1 < length text
first_spends text first e = by (nat_lt 8192 (line_length text)) (nat_lt (line_length text) (length text)) refl refl e
  where
    by : (long ended : Bool) → nat_lt 8192 (line_length text) ≡ long → nat_lt (line_length text) (length text) ≡ ended
        → (if long then Some (Faulty Long, after_first is_newline text)
        else if ended then first_of_line (line_of (without_return (before_first is_newline text)))
        (after_first is_newline text)
        else None) ≡ Some first
        → length first.1 < length text
    by true ended is_long is_ended e =
        let left = ap (λ (p : Request × List ℕ). length p.1)
        (same_first (Faulty Long, after_first is_newline text) first e) in
        let size = length-drop (line_length text + 1) text in
        let long = (Decides-ltb 8192 (line_length text)).0 is_long in
        let within = line_within text in
        omega (arith, left, size, long, within)
    by false true is_long is_ended e =
        let spent = line_spends (line_of (without_return (before_first is_newline text))) (after_first is_newline text)
        first e in
        let size = length-drop (line_length text + 1) text in
        let ended = (Decides-ltb (line_length text) (length text)).0 is_ended in
        omega (arith, spent, size, ended)
    by false false is_long is_ended e = absurd (no_request first e)

readings_within : (most : ℕ) (text : List ℕ) → length text ≤ most → (requests : List Request) × (rest : List ℕ)
    × AreRequests text requests rest
readings_within zero text within = by (first_of text) refl
  where
    by : (first : Option (Request × List ℕ)) → first_of text ≡ first → (requests : List Request) × (rest : List ℕ)
        × AreRequests text requests rest
    by None e = ([], text, record { taken = refl; no_more = e })
    by (Some first) e = let spent = first_spends text first e in absurd (omega (arith, spent, within))
readings_within (suc most) text within = by (first_of text) refl (λ left small. readings_within most left small)
  where
    by : (first : Option (Request × List ℕ)) → first_of text ≡ first
        → ((left : List ℕ) → length left ≤ most → (requests : List Request) × (rest : List ℕ)
        × AreRequests left requests rest)
        → (requests : List Request) × (rest : List ℕ) × AreRequests text requests rest
    by None e more = ([], text, record { taken = refl; no_more = e })
    by (Some first) e more =
        let spent = first_spends text first e in
        let r = more first.1 (omega (arith, spent, within)) in
        (first.0 ∷ r.0, r.1, record { taken = (first.1, e, r.2.taken); no_more = r.2.no_more })

pub some_reading : (text : List ℕ) → (requests : List Request) × (rest : List ℕ) × AreRequests text requests rest
some_reading text = readings_within (length text) text (omega arith)

-- one more request of a text
pub takes-push : (text : List ℕ) (requests : List Request) (rest : List ℕ) (request : Request) (left : List ℕ)
    → Takes text requests rest → first_of rest ≡ Some (request, left)
    → Takes text (requests ++ request ∷ []) left
takes-push text [] rest request left h e = (left, ap first_of h ∙ e, refl)
takes-push text (first ∷ requests) rest request left (mid, here, more) e =
    (mid, here, takes-push mid requests rest request left more e)
