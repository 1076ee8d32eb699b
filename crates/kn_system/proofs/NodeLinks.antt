-- What the nodes of formulas are parts of, read node by node.
use Rattle.std.proofs.Common.{◌≡◌, ℕ, zero, suc, ◌+◌, ◌<◌, ◌^◌, All, List, [], ◌∷◌, ◌++◌, length, drop, replicate}
use Rattle.std.proofs.Common.{reverse, refl}
use Rattle.std.proofs.Common.{sym, ap, ◌∙◌, subst, length-append, Some, arith}
use Rattle.std.proofs.lemmas.List.{reverse-append, replicate_more, length-replicate, length_push}
use Rattle.std.proofs.lemmas.List.Elements.{All-append, All-pop, All-replicate}
use Rattle.std.proofs.Math.Seq.{append_snoc}
use Rattle.kn_system.specs.declared.nodes.Up.{Up}
use Rattle.kn_system.specs.declared.nodes.Up.TheVariants.{Node}
use Rattle.kn_system.specs.declared.rows.Piece.{Piece}
use Rattle.kn_system.specs.declared.rows.Piece.TheVariants.{Who, Gate}
use Rattle.kn_system.specs.Forms.{AreForms}
use Rattle.kn_system.specs.Nodes.{parts_of, ups_of}
use Rattle.kn_system.specs.StoredNodes.{number_of_up}

-- behind a piece the formulas go on
pub forms_next : (p n : ℕ) (x : Piece) (ps : List Piece) → AreForms p (suc n) (x ∷ ps) → AreForms p (n + parts_of x) ps
forms_next p n (Who q) ps h = let e : n ≡ n + 0 = omega arith in subst (λ m. AreForms p m ps) e h.1
forms_next p n (Gate k m) ps h = h.1

forms_some : (p n : ℕ) (x : Piece) (ps : List Piece) → AreForms p n (x ∷ ps) → 0 < n
forms_some p zero x ps h = absurd h
forms_some p (suc n) x ps h = omega arith

-- where a piece is left, a formula is
pub forms_left : (p n : ℕ) (x : Piece) (ps rest : List Piece) → AreForms p n rest → rest ≡ x ∷ ps → 0 < n
forms_left p n x ps rest h e = forms_some p n x ps (subst (AreForms p n) e h)

pub ups_next : (i : ℕ) (up : Up) (us : List Up) (x : Piece) (ps : List Piece)
    → ups_of i (up ∷ us) (x ∷ ps) ≡ up ∷ ups_of (suc i) (replicate (parts_of x) (Node i) ++ us) ps
ups_next i up us (Who q) ps = refl
ups_next i up us (Gate k n) ps = refl

reverse_replicate : (n : ℕ) (y : Up) → reverse (replicate n y) ≡ replicate n y
reverse_replicate zero y = refl
reverse_replicate (suc n) y =
    let one : replicate n y ++ y ∷ [] ≡ replicate (n + 1) y = replicate_more n y in
    let more : n + 1 ≡ suc n = omega arith in
    reverse-append (y ∷ []) (replicate n y) ∙ ap (λ ys. ys ++ y ∷ []) (reverse_replicate n y) ∙ one
    ∙ ap (λ m. replicate m y) more

-- what is kept of formulas of which some nodes were added
pub record AreAdded (formula : List Piece) (base : ℕ) (start : List Up) (before : List Up) (ups above : List Up)
    (k : ℕ) : Type 0 where
  pub forms : (p : ℕ) × AreForms p (length above) (drop k formula)
  pub ups_so_far : before ++ ups_of base start formula ≡ ups ++ ups_of (base + k) (reverse above) (drop k formula)

-- one more node
pub added_next : (formula : List Piece) (base : ℕ) (start before ups above : List Up) (k : ℕ) (x : Piece) (up : Up)
    (node : ℕ) (next_ups next_above : List Up) → AreAdded formula base start before ups above k
    → drop k formula ≡ x ∷ drop (k + 1) formula → node ≡ base + k → next_ups ≡ ups ++ up ∷ []
    → (us : List Up) × (above ≡ us ++ up ∷ []) × (next_above ≡ us ++ replicate (parts_of x) (Node node))
    → AreAdded formula base start before next_ups next_above (k + 1)
added_next formula base start before ups above k x up node next_ups next_above h d here pushed (us, is, after) =
    let rest : List Piece = drop (k + 1) formula in
    let size : length above ≡ suc (length us) = ap length is ∙ (omega (arith, length_push us up)) in
    let all : AreForms h.forms.0 (suc (length us)) (x ∷ rest) =
    subst (λ n. AreForms h.forms.0 n (x ∷ rest)) size (subst (AreForms h.forms.0 (length above)) d h.forms.1) in
    let left : AreForms h.forms.0 (length us + parts_of x) rest = forms_next h.forms.0 (length us) x rest all in
    let sizes : length us + parts_of x ≡ length next_above =
    omega (
      arith,
      ap length after,
      length-append us (replicate (parts_of x) (Node node)),
      length-replicate (parts_of x) (Node node),
    ) in
    let turned : reverse above ≡ up ∷ reverse us = ap reverse is ∙ reverse-append us (up ∷ []) in
    let after_turned : replicate (parts_of x) (Node (base + k)) ++ reverse us ≡ reverse next_above =
    sym (ap reverse after ∙ reverse-append us (replicate (parts_of x) (Node node))
    ∙ ap (λ ys. ys ++ reverse us) (reverse_replicate (parts_of x) (Node node))
    ∙ ap (λ n. replicate (parts_of x) (Node n) ++ reverse us) here) in
    let place : suc (base + k) ≡ base + (k + 1) = omega arith in
    let step : ups_of (base + k) (reverse above) (drop k formula) ≡ up
    ∷ ups_of (base + (k + 1)) (reverse next_above) rest =
    ap (λ xs. ups_of (base + k) xs (drop k formula)) turned ∙ ap (ups_of (base + k) (up ∷ reverse us)) d
    ∙ ups_next (base + k) up (reverse us) x rest
    ∙ ap (λ xs. up ∷ ups_of (suc (base + k)) xs rest) after_turned
    ∙ ap (λ n. up ∷ ups_of n (reverse next_above) rest) place in
    record {
      forms = (h.forms.0, subst (λ n. AreForms h.forms.0 n rest) sizes left);
      ups_so_far = h.ups_so_far ∙ ap (λ ys. ups ++ ys) step
          ∙ sym (append_snoc ups up (ups_of (base + (k + 1)) (reverse next_above) rest))
          ∙ ap (λ ys. ys ++ ups_of (base + (k + 1)) (reverse next_above) rest) (sym pushed);
    }

-- the numbers in what the last nodes are parts of, where one is taken away and the parts of a node come behind
pub low_next : (above next us : List Up) (up : Up) (n node : ℕ) → All (λ u. number_of_up u < 2 ^ 24) above
    → above ≡ us ++ up ∷ [] → next ≡ us ++ replicate n (Node node) → node < 2 ^ 24
    → (number_of_up up < 2 ^ 24) × All (λ u. number_of_up u < 2 ^ 24) next
low_next above next us up n node low is after few =
    let P : Up → Type 0 = (λ u. number_of_up u < 2 ^ 24) in
    let parts = All-pop P above us (Some up) is low in (
      parts.1,
      subst (All P) (sym after)
          (All-append P us (replicate n (Node node)) parts.0 (All-replicate P n (Node node) few)),
    )
