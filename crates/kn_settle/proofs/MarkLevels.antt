-- Marks mean levels: the formula of a row is marked exactly where it reaches the level.
use Rattle.std.proofs.Common.{◌≡◌, ℕ, zero, suc, ◌+◌, ◌<◌, ◌≤◌, Bool, true, false, cond, eqb, nat_le, List, [], ◌∷◌}
use Rattle.std.proofs.Common.{◌++◌, length, length-append, map, replicate, take, drop, get_or, slice_index, refl, ap}
use Rattle.std.proofs.Common.{◌∙◌, subst, inl, inr, arith}
use Rattle.std.proofs.lemmas.Bool.{cases_lt}
use Rattle.std.proofs.lemmas.Bool.Decides.{nat_tests}
use Rattle.std.proofs.lemmas.List.{length-replicate}
use Rattle.kn_base.specs.Threshold.{threshold, reaching}
use Rattle.kn_system.specs.declared.nodes.Up.{Up}
use Rattle.kn_system.specs.declared.nodes.Up.TheVariants.{Node}
use Rattle.kn_system.specs.declared.rows.Piece.{Piece}
use Rattle.kn_system.specs.declared.rows.Piece.TheVariants.{Who, Gate}
use Rattle.kn_system.specs.Form.{form_levels}
use Rattle.kn_system.specs.Forms.{AreForms}
use Rattle.kn_system.specs.Nodes.{ups_of}
use Rattle.kn_system.proofs.Thresholds.{threshold-ge, threshold-reached}
use Rattle.kn_settle.specs.Counters.{is_node, one_if, under, trues}

abbrev pub bits : ℕ → List ℕ → List Bool
bits v xs = map (λ x. nat_le v x) xs

pub reaching-bits : (v n : ℕ) (xs : List ℕ) → trues (take n (bits v xs)) ≡ reaching v (take n xs)
reaching-bits v zero xs = refl
reaching-bits v (suc n) [] = refl
reaching-bits v (suc n) (x ∷ xs) = ap (λ m. one_if (nat_le v x) + m) (reaching-bits v n xs)

drop-bits : (v n : ℕ) (xs : List ℕ) → drop n (bits v xs) ≡ bits v (drop n xs)
drop-bits v zero xs = refl
drop-bits v (suc n) [] = refl
drop-bits v (suc n) (x ∷ xs) = drop-bits v n xs

-- a threshold reaches v where enough do
pub threshold-bit : (top k v : ℕ) (xs : List ℕ) → 0 < v → v ≤ top
    → nat_le k (reaching v xs) ≡ nat_le v (threshold top k xs)
threshold-bit top k v xs some low =
    elim (cases_lt (reaching v xs) k) [
      | inl few ↦
          elim (cases_lt (threshold top k xs) v) [
            | inl less ↦ grind (arith, nat_tests)
            | inr no_less ↦ let enough : k ≤ reaching v xs = threshold-reached top k v xs some (omega arith) in
                absurd (omega arith)
          ]
      | inr enough ↦ let reached : v ≤ threshold top k xs = threshold-ge top k v xs low (omega arith) in
          grind (arith, nat_tests)
    ]

pub under-parts : (t : Up → Bool) (n : ℕ) (x : Up) (us : List Up) (bs : List Bool) (b : Bool) → t x ≡ b
    → under t bs (replicate n x ++ us) ≡ cond b (trues (take n bs)) 0 + under t (drop n bs) us
under-parts t zero x us bs true e = omega arith
under-parts t zero x us bs false e = omega arith
under-parts t (suc n) x us [] true e = refl
under-parts t (suc n) x us [] false e = refl
under-parts t (suc n) x us (m ∷ bs) true e =
    let rest = under-parts t n x us bs true e in
    let here : cond (t x) (one_if m) 0 ≡ one_if m = ap (λ b. cond b (one_if m) 0) e in
    omega (arith, rest, here)
under-parts t (suc n) x us (m ∷ bs) false e =
    let rest = under-parts t n x us bs false e in
    let here : cond (t x) (one_if m) 0 ≡ 0 = ap (λ b. cond b (one_if m) 0) e in
    omega (arith, rest, here)

-- none of these is a part of a gate from i on
abbrev pub AreOld : ℕ → List Up → Type 0
AreOld i [] = Unit {0}
AreOld i (u ∷ us) = ((g : ℕ) → i ≤ g → is_node g u ≡ false) × AreOld i us

pub old-none : (i g : ℕ) (us : List Up) (ms : List Bool) → AreOld i us → i ≤ g → under (is_node g) ms us ≡ 0
old-none i g us [] h l = refl
old-none i g [] (m ∷ ms) h l = refl
old-none i g (u ∷ us) (m ∷ ms) h l =
    let rest = old-none i g us ms h.1 l in
    let here : cond (is_node g u) (one_if m) 0 ≡ 0 = ap (λ b. cond b (one_if m) 0) (h.0 g l) in
    omega (arith, rest, here)

pub old-suc : (i : ℕ) (us : List Up) → AreOld i us → AreOld (suc i) us
old-suc i [] h = tt
old-suc i (u ∷ us) h = ((λ g l. h.0 g (omega arith)), old-suc i us h.1)

pub old-parts : (i n : ℕ) (us : List Up) → AreOld i us → AreOld (suc i) (replicate n (Node i) ++ us)
old-parts i zero us h = old-suc i us h
old-parts i (suc n) us h = ((λ g l. let e : eqb i g ≡ false = grind (arith, nat_tests) in e), old-parts i n us h)

-- a mark as it should be, where each gate has counted so many
abbrev pub AgreesAt : ℕ → List ℕ → (ℕ → ℕ) → ℕ → Piece → Bool → Type 0
AgreesAt v levels counted i (Who q) m = m ≡ nat_le v (slice_index levels q)
AgreesAt v levels counted i (Gate k n) m = m ≡ nat_le k (counted i)

abbrev pub Agree : ℕ → List ℕ → (ℕ → ℕ) → ℕ → List Piece → List Bool → Type 0
Agree v levels counted i [] ms = Unit {0}
Agree v levels counted i (x ∷ ps) [] = ⊥
Agree v levels counted i (x ∷ ps) (m ∷ ms) = AgreesAt v levels counted i x m × Agree v levels counted (suc i) ps ms

pub agree-from : (v : ℕ) (levels : List ℕ) (counted : ℕ → ℕ) (i : ℕ) (ps : List Piece) (ms : List Bool)
    → length ms ≡ length ps
    → ((j : ℕ) → j < length ps → AgreesAt v levels counted (i + j) (get_or ps j (Who 0)) (get_or ms j false))
    → Agree v levels counted i ps ms
agree-from v levels counted i [] ms e h = tt
agree-from v levels counted i (x ∷ ps) [] e h = absurd (cc)
agree-from v levels counted i (x ∷ ps) (m ∷ ms) e h =
    let here : i + 0 ≡ i = omega arith in (
      subst (λ n. AgreesAt v levels counted n x m) here (h 0 (omega arith)),
      agree-from v levels counted (suc i) ps ms (omega (arith, e)) (λ j l.
          let next : i + suc j ≡ suc i + j = omega arith in
          subst (λ n. AgreesAt v levels counted n (get_or ps j (Who 0)) (get_or ms j false)) next
          (h (suc j) (omega arith))),
    )

-- marked nodes are as many as the formulas that reach the level
pub forms-marked : (p v top : ℕ) (levels : List ℕ) (counted : ℕ → ℕ) → 0 < v → v ≤ top
    → (i : ℕ) (above : List Up) (ps : List Piece) (ms : List Bool) → AreForms p (length above) ps
    → Agree v levels counted i ps ms → AreOld i above
    → ((g : ℕ) → i ≤ g → counted g ≡ under (is_node g) ms (ups_of i above ps)) → (t : Up → Bool)
    → ((g : ℕ) → i ≤ g → t (Node g) ≡ false)
    → under t ms (ups_of i above ps) ≡ under t (bits v (form_levels top levels ps)) above
forms-marked p v top levels counted some low i [] [] [] f a o w t new = refl
forms-marked p v top levels counted some low i [] [] (m ∷ ms) f a o w t new = refl
forms-marked p v top levels counted some low i (u ∷ us) [] ms f a o w t new = absurd f
forms-marked p v top levels counted some low i [] (x ∷ ps) ms f a o w t new = absurd f
forms-marked p v top levels counted some low i (u ∷ us) (x ∷ ps) [] f a o w t new = absurd a
forms-marked p v top levels counted some low i (u ∷ us) (Who q ∷ ps) (m ∷ ms) f a o w t new =
    let rest : under t ms (ups_of (suc i) us ps) ≡ under t (bits v (form_levels top levels ps)) us =
    forms-marked p v top levels counted some low (suc i) us ps ms f.1 a.1 (old-suc i us o.1)
    (λ g l.
    let whole = w g (omega arith) in
    let none : cond (is_node g u) (one_if m) 0 ≡ 0 = ap (λ b. cond b (one_if m) 0) (o.0 g (omega arith)) in
    omega (arith, whole, none)) t (λ g l. new g (omega arith)) in
    ap (λ b. cond (t u) (one_if b) 0 + under t ms (ups_of (suc i) us ps)) a.0
    ∙ ap (λ n. cond (t u) (one_if (nat_le v (slice_index levels q))) 0 + n) rest
forms-marked p v top levels counted some low i (u ∷ us) (Gate k n ∷ ps) (m ∷ ms) f a o w t new =
    let behind : List ℕ = form_levels top levels ps in
    let parts : List Up = replicate n (Node i) ++ us in
    let size : length us + n ≡ length parts =
    omega (arith, length-append (replicate n (Node i)) us, length-replicate n (Node i)) in
    let forms : AreForms p (length parts) ps = subst (λ c. AreForms p c ps) size f.1 in
    let rest : (t' : Up → Bool) → ((g : ℕ) → suc i ≤ g → t' (Node g) ≡ false)
    → under t' ms (ups_of (suc i) parts ps) ≡ under t' (bits v behind) parts =
    forms-marked p v top levels counted some low (suc i) parts ps ms forms a.1 (old-parts i n us o.1)
    (λ g l.
    let whole = w g (omega arith) in
    let none : cond (is_node g u) (one_if m) 0 ≡ 0 = ap (λ b. cond b (one_if m) 0) (o.0 g (omega arith)) in
    omega (arith, whole, none)) in
    let own : eqb i i ≡ true = grind (arith, nat_tests) in
    let counted_here : counted i ≡ reaching v (take n behind) = (let whole = w i (omega arith) in
    let none : cond (is_node i u) (one_if m) 0 ≡ 0 = ap (λ b. cond b (one_if m) 0) (o.0 i (omega arith)) in
    let here = rest (is_node i) (λ g l. let e : eqb g i ≡ false = grind (arith, nat_tests) in e) in
    let split = under-parts (is_node i) n (Node i) us (bits v behind) true own in
    let older = old-none i i us (drop n (bits v behind)) o.1 (omega arith) in
    let bit = reaching-bits v n behind in
    omega (arith, whole, none, here, split, older, bit)) in
    let mark : m ≡ nat_le v (threshold top k (take n behind)) = a.0 ∙ ap (nat_le k) counted_here
    ∙ threshold-bit top k v (take n behind) some low in
    let others = rest t (λ g l. new g (omega arith)) in
    let split = under-parts t n (Node i) us (bits v behind) false (new i (omega arith)) in
    let cut : under t (drop n (bits v behind)) us ≡ under t (bits v (drop n behind)) us =
    ap (λ bs. under t bs us) (drop-bits v n behind) in
    let first : cond (t u) (one_if m) 0 ≡ cond (t u) (one_if (nat_le v (threshold top k (take n behind)))) 0 =
    ap (λ b. cond (t u) (one_if b) 0) mark in
    omega (arith, others, split, cut, first)
