-- What the nodes of a system are parts of: a gate before them, or a row.
use Rattle.std.proofs.Common.{◌≡◌, ℕ, zero, suc, ◌+◌, ◌<◌, ◌≤◌, List, [], ◌∷◌, ◌++◌, length, length-append, replicate}
use Rattle.std.proofs.Common.{get_or, refl, sym, ap, ◌∙◌, subst, arith}
use Rattle.std.proofs.lemmas.List.{length-replicate}
use Rattle.kn_system.specs.declared.nodes.Up.{Up}
use Rattle.kn_system.specs.declared.nodes.Up.TheVariants.{Node, Row}
use Rattle.kn_system.specs.declared.rows.Piece.{Piece}
use Rattle.kn_system.specs.declared.rows.Piece.TheVariants.{Who, Gate}
use Rattle.kn_system.specs.Equations.{SystemEquations, IsSystem, node_total}
use Rattle.kn_system.specs.Forms.{AreForms}
use Rattle.kn_system.specs.Nodes.{pieces_of, row_ups, ups_of, ups_of_rows}
use Rattle.kn_system.proofs.KeptRows.{forms-pieces_of, length-pieces_of, length-row_ups}
use Rattle.kn_settle.specs.Counters.{FitsBelow, piece_at}

pub length-ups_of : (p i : ℕ) (above : List Up) (ps : List Piece) → AreForms p (length above) ps
    → length (ups_of i above ps) ≡ length ps
length-ups_of p i [] [] f = refl
length-ups_of p i (u ∷ us) [] f = absurd f
length-ups_of p i [] (x ∷ ps) f = absurd f
length-ups_of p i (u ∷ us) (Who q ∷ ps) f = ap suc (length-ups_of p (suc i) us ps f.1)
length-ups_of p i (u ∷ us) (Gate k n ∷ ps) f =
    let parts : List Up = replicate n (Node i) ++ us in
    let size : length us + n ≡ length parts =
    omega (arith, length-append (replicate n (Node i)) us, length-replicate n (Node i)) in
    ap suc (length-ups_of p (suc i) parts ps (subst (λ c. AreForms p c ps) size f.1))

fits-suc : (s : SystemEquations) (i : ℕ) (u : Up) → FitsBelow s i u → FitsBelow s (suc i) u
fits-suc s i (Node g) h = (omega (arith, h.0), h.1)
fits-suc s i (Row r) h = h

pub fits_below : (s : SystemEquations) (i j : ℕ) (u : Up) → i ≤ j → FitsBelow s i u → FitsBelow s j u
fits_below s i j (Node g) l h = (omega (arith, h.0), h.1)
fits_below s i j (Row r) l h = h

abbrev AllFit : SystemEquations → ℕ → List Up → Type 0
AllFit s i [] = Unit {0}
AllFit s i (u ∷ us) = FitsBelow s i u × AllFit s i us

all-suc : (s : SystemEquations) (i : ℕ) (us : List Up) → AllFit s i us → AllFit s (suc i) us
all-suc s i [] h = tt
all-suc s i (u ∷ us) h = (fits-suc s i u h.0, all-suc s i us h.1)

all-parts : (s : SystemEquations) (i n : ℕ) (us : List Up) → FitsBelow s (suc i) (Node i) → AllFit s i us
    → AllFit s (suc i) (replicate n (Node i) ++ us)
all-parts s i zero us g h = all-suc s i us h
all-parts s i (suc n) us g h = (g, all-parts s i n us g h)

all-rows : (s : SystemEquations) (i r n : ℕ) → r + n ≤ length s.rows → AllFit s i (row_ups r n)
all-rows s i r zero l = tt
all-rows s i r (suc n) l = (omega arith, all-rows s i (suc r) n (omega arith))

ups-fit : (s : SystemEquations) (p i : ℕ) (above : List Up) (ps : List Piece) → AreForms p (length above) ps
    → AllFit s i above → ((m : ℕ) → m < length ps → piece_at s (i + m) ≡ get_or ps m (Who 0))
    → (m : ℕ) (d : Up) → m < length ps → FitsBelow s (i + m) (get_or (ups_of i above ps) m d)
ups-fit s p i above [] f a e m d l = absurd (omega arith)
ups-fit s p i [] (x ∷ ps) f a e m d l = absurd f
ups-fit s p i (u ∷ us) (Who q ∷ ps) f a e zero d l = let here : i ≡ i + 0 = omega arith in
    subst (λ n. FitsBelow s n u) here a.0
ups-fit s p i (u ∷ us) (Gate k n ∷ ps) f a e zero d l = let here : i ≡ i + 0 = omega arith in
    subst (λ n. FitsBelow s n u) here a.0
ups-fit s p i (u ∷ us) (Who q ∷ ps) f a e (suc m) d l =
    let here : suc i + m ≡ i + suc m = omega arith in
    let rest = ups-fit s p (suc i) us ps f.1 (all-suc s i us a.1)
    (λ m' l'. let there : suc i + m' ≡ i + suc m' = omega arith in ap (piece_at s) there ∙ e (suc m') (omega arith)) m d
    (omega arith) in
    subst (λ n. FitsBelow s n (get_or (ups_of (suc i) us ps) m d)) here rest
ups-fit s p i (u ∷ us) (Gate k n ∷ ps) f a e (suc m) d l =
    let parts : List Up = replicate n (Node i) ++ us in
    let size : length us + n ≡ length parts =
    omega (arith, length-append (replicate n (Node i)) us, length-replicate n (Node i)) in
    let z : i ≡ i + 0 = omega arith in
    let gate : piece_at s i ≡ Gate k n = ap (piece_at s) z ∙ e 0 (omega arith) in
    let here : suc i + m ≡ i + suc m = omega arith in
    let rest = ups-fit s p (suc i) parts ps (subst (λ c. AreForms p c ps) size f.1)
    (all-parts s i n us (omega arith, (k, n, gate)) a.1)
    (λ m' l'. let there : suc i + m' ≡ i + suc m' = omega arith in ap (piece_at s) there ∙ e (suc m') (omega arith)) m d
    (omega arith) in
    subst (λ c. FitsBelow s c (get_or (ups_of (suc i) parts ps) m d)) here rest

pub system-forms : (s : SystemEquations) → IsSystem s
    → AreForms (length s.requesters) (length (row_ups 0 (length s.rows))) (pieces_of s.rows)
system-forms s is =
    subst (λ n. AreForms (length s.requesters) n (pieces_of s.rows)) (sym (length-row_ups 0 (length s.rows)))
    (forms-pieces_of s.levels (length s.requesters) s.rows is.rows_fit)

pub length-ups : (s : SystemEquations) → IsSystem s → length (ups_of_rows s.rows) ≡ node_total s.rows
length-ups s is =
    length-ups_of (length s.requesters) 0 (row_ups 0 (length s.rows)) (pieces_of s.rows) (system-forms s is)
    ∙ length-pieces_of s.rows

-- what a node is a part of
pub up-fits : (s : SystemEquations) (j : ℕ) (d : Up) → IsSystem s → j < node_total s.rows
    → FitsBelow s j (get_or (ups_of_rows s.rows) j d)
up-fits s j d is l =
    let z : 0 + j ≡ j = omega arith in
    subst (λ n. FitsBelow s n (get_or (ups_of_rows s.rows) j d)) z
    (ups-fit s (length s.requesters) 0 (row_ups 0 (length s.rows)) (pieces_of s.rows) (system-forms s is)
    (all-rows s 0 0 (length s.rows) (omega arith))
    (λ m l'. let e : 0 + m ≡ m = omega arith in ap (piece_at s) e) j d (omega (arith, length-pieces_of s.rows)))
