-- In which row a node stands, and that the way up from it stays there.
use Rattle.std.proofs.Common.{◌≡◌, ℕ, suc, zero, ◌+◌, ◌-◌, ◌<◌, ◌≤◌, true, false, cond, nat_lt, Some, List, [], ◌∷◌}
use Rattle.std.proofs.Common.{◌++◌, All, length, length-append, replicate, get_or, slice_get, refl, sym, ap, ◌∙◌, subst}
use Rattle.std.proofs.Common.{inl, inr, arith}
use Rattle.std.proofs.lemmas.Bool.{cases_lt}
use Rattle.std.proofs.lemmas.Bool.Decides.{nat_tests}
use Rattle.std.proofs.lemmas.List.{get_or_append_left, get_or-append_right, get_or-append-add, length-replicate}
use Rattle.std.proofs.lemmas.List.Elements.{All-head, All-tail}
use Rattle.std.proofs.lemmas.Option.{get_or_from_slice_get, slice_get-get_or, slice_get_within}
use Rattle.kn_system.specs.declared.nodes.Up.{Up}
use Rattle.kn_system.specs.declared.nodes.Up.TheVariants.{Node, Row}
use Rattle.kn_system.specs.declared.rows.Piece.{Piece}
use Rattle.kn_system.specs.declared.rows.Piece.TheVariants.{Who, Gate}
use Rattle.kn_system.specs.Equations.{SystemEquations, IsSystem, IsSystemRow, node_total, row_at}
use Rattle.kn_system.specs.Forms.{AreForms}
use Rattle.kn_system.specs.Nodes.{pieces_of, row_ups, ups_of, ups_of_rows, uses_of}
use Rattle.kn_system.specs.Rows.{SystemRow}
use Rattle.kn_system.proofs.KeptRows.{ups-append}
use Rattle.kn_settle.specs.Counters.{piece_at, rank}
use Rattle.kn_settle.proofs.NodeParents.{length-ups_of}
use Rattle.kn_settle.proofs.VisitedUses.{use_found, use_read}
use Rattle.kn_watch.specs.Affected.{UsesPrincipal}
use Rattle.kn_watch.specs.Climbing.{place_of_node, row_of_node}

test-true : (i n : ℕ) → i < n → nat_lt i n ≡ true
test-true i n l = grind (arith, nat_tests)

test-false : (i n : ℕ) → n ≤ i → nat_lt i n ≡ false
test-false i n l = grind (arith, nat_tests)

row-first : (row : SystemRow) (rows : List SystemRow) (i : ℕ) → i < length row.formula → row_of_node (row ∷ rows) i ≡ 0
row-first row rows i l =
    ap (λ b. cond b 0 (suc (row_of_node rows (i - length row.formula)))) (test-true i (length row.formula) l)

row-later : (row : SystemRow) (rows : List SystemRow) (i : ℕ) → length row.formula ≤ i
    → row_of_node (row ∷ rows) i ≡ suc (row_of_node rows (i - length row.formula))
row-later row rows i l =
    ap (λ b. cond b 0 (suc (row_of_node rows (i - length row.formula)))) (test-false i (length row.formula) l)

place-first : (row : SystemRow) (rows : List SystemRow) (i : ℕ) → i < length row.formula
    → place_of_node (row ∷ rows) i ≡ i
place-first row rows i l =
    ap (λ b. cond b i (place_of_node rows (i - length row.formula))) (test-true i (length row.formula) l)

place-later : (row : SystemRow) (rows : List SystemRow) (i : ℕ) → length row.formula ≤ i
    → place_of_node (row ∷ rows) i ≡ place_of_node rows (i - length row.formula)
place-later row rows i l =
    ap (λ b. cond b i (place_of_node rows (i - length row.formula))) (test-false i (length row.formula) l)

-- a node stands in its row, at its place
pub record IsNodeOf (rows : List SystemRow) (i r m : ℕ) : Type 0 where
  pub named : r < length rows
  pub inside : m < length (row_at rows r).formula
  pub piece : get_or (row_at rows r).formula m (Who 0) ≡ get_or (pieces_of rows) i (Who 0)

node-later : (row : SystemRow) (rows : List SystemRow) (i r m : ℕ) → length row.formula ≤ i
    → IsNodeOf rows (i - length row.formula) r m → IsNodeOf (row ∷ rows) i (suc r) m
node-later row rows i r m l h = record {
  named = omega (arith, h.named);
  inside = h.inside;
  piece = h.piece ∙ sym (get_or-append_right row.formula (pieces_of rows) (length row.formula) i (Who 0) refl l);
}

pub node-of : (rows : List SystemRow) (i : ℕ) → i < node_total rows
    → IsNodeOf rows i (row_of_node rows i) (place_of_node rows i)
node-of [] i l = absurd (omega arith)
node-of (row ∷ rows) i l =
    elim (cases_lt i (length row.formula)) [
      | inl first ↦
          let here : IsNodeOf (row ∷ rows) i 0 i =
          record {
            named = omega arith;
            inside = first;
            piece =
                sym (get_or_append_left row.formula (pieces_of rows) (Who 0) i first);
          } in
          subst (λ r. IsNodeOf (row ∷ rows) i r (place_of_node (row ∷ rows) i)) (sym (row-first row rows i first))
          (subst (λ m. IsNodeOf (row ∷ rows) i 0 m) (sym (place-first row rows i first)) here)
      | inr later ↦
          let rest = node-of rows (i - length row.formula) (omega arith) in
          let there = node-later row rows i (row_of_node rows (i - length row.formula))
          (place_of_node rows (i - length row.formula)) later rest in
          subst (λ r. IsNodeOf (row ∷ rows) i r (place_of_node (row ∷ rows) i)) (sym (row-later row rows i later))
          (subst (λ m. IsNodeOf (row ∷ rows) i (suc (row_of_node rows (i - length row.formula))) m)
          (sym (place-later row rows i later)) there)
    ]

-- and each place of a row is a node
pub record IsNodeAt (rows : List SystemRow) (r m i : ℕ) : Type 0 where
  pub inside : i < node_total rows
  pub row : row_of_node rows i ≡ r
  pub piece : get_or (pieces_of rows) i (Who 0) ≡ get_or (row_at rows r).formula m (Who 0)

pub node-at : (rows : List SystemRow) (r m : ℕ) → r < length rows → m < length (row_at rows r).formula → (i : ℕ)
    × IsNodeAt rows r m i
node-at [] r m l k = absurd (omega arith)
node-at (row ∷ rows) zero m l k = (
  m,
  record {
    inside = omega arith;
    row = row-first row rows m k;
    piece =
        get_or_append_left row.formula (pieces_of rows) (Who 0) m k;
  },
)
node-at (row ∷ rows) (suc r) m l k =
    let (i, rest) = node-at rows r m (omega arith) k in
    let n : ℕ = length row.formula in
    let back : n + i - n ≡ i = omega arith in (
      n + i,
      record {
        inside = omega (arith, rest.inside);
        row = row-later row rows (n + i) (omega arith) ∙ ap (λ j. suc (row_of_node rows j)) back ∙ ap suc rest.row;
        piece = get_or-append-add row.formula (pieces_of rows) i (Who 0) ∙ rest.piece;
      },
    )

-- a use of a principal stands in a row that uses it
pub use-row : (s : SystemEquations) (p k i : ℕ) → slice_get (uses_of p (pieces_of s.rows)) k ≡ Some i
    → UsesPrincipal (row_at s.rows (row_of_node s.rows i)) p
use-row s p k i e =
    let kth = use_read s p k i e in
    let node = node-of s.rows i kth.inside in (
      place_of_node s.rows i,
      slice_get-get_or (row_at s.rows (row_of_node s.rows i)).formula (place_of_node s.rows i) (Who 0) node.inside
          ∙ ap (λ x. Some x) (node.piece ∙ kth.leaf),
    )

-- and each row that uses it has one
pub row-use : (s : SystemEquations) (p r : ℕ) → r < length s.rows → UsesPrincipal (row_at s.rows r) p → (k : ℕ)
    × (i : ℕ) × (slice_get (uses_of p (pieces_of s.rows)) k ≡ Some i) × (row_of_node s.rows i ≡ r)
row-use s p r l (m, e) =
    let inside : m < length (row_at s.rows r).formula = slice_get_within (row_at s.rows r).formula m (Who p) e in
    let (i, at) = node-at s.rows r m l inside in
    let leaf : piece_at s i ≡ Who p = at.piece ∙ get_or_from_slice_get (row_at s.rows r).formula m (Who p) (Who 0) e in
    (rank s p i, i, use_found s p i at.inside leaf, at.row)

-- what a node of one formula is a part of: a gate before it in the formula, or the row
abbrev IsUpIn : ℕ → ℕ → ℕ → Up → Type 0
IsUpIn start r i (Node g) = (start ≤ g) × (g < i)
IsUpIn start r i (Row q) = q ≡ r

abbrev AllUpIn : ℕ → ℕ → ℕ → List Up → Type 0
AllUpIn start r i [] = Unit {0}
AllUpIn start r i (u ∷ us) = IsUpIn start r i u × AllUpIn start r i us

up-suc : (start r i : ℕ) (u : Up) → IsUpIn start r i u → IsUpIn start r (suc i) u
up-suc start r i (Node g) h = (h.0, omega (arith, h.1))
up-suc start r i (Row q) h = h

all-suc : (start r i : ℕ) (us : List Up) → AllUpIn start r i us → AllUpIn start r (suc i) us
all-suc start r i [] h = tt
all-suc start r i (u ∷ us) h = (up-suc start r i u h.0, all-suc start r i us h.1)

all-parts : (start r i n : ℕ) (us : List Up) → start ≤ i → AllUpIn start r i us
    → AllUpIn start r (suc i) (replicate n (Node i) ++ us)
all-parts start r i zero us l h = all-suc start r i us h
all-parts start r i (suc n) us l h = ((l, omega arith), all-parts start r i n us l h)

ups-in : (p start r i : ℕ) (above : List Up) (ps : List Piece) → start ≤ i → AreForms p (length above) ps
    → AllUpIn start r i above → (m : ℕ) (d : Up) → m < length ps
    → IsUpIn start r (i + m) (get_or (ups_of i above ps) m d)
ups-in p start r i above [] b f a m d l = absurd (omega arith)
ups-in p start r i [] (x ∷ ps) b f a m d l = absurd f
ups-in p start r i (u ∷ us) (Who q ∷ ps) b f a zero d l = let here : i ≡ i + 0 = omega arith in
    subst (λ n. IsUpIn start r n u) here a.0
ups-in p start r i (u ∷ us) (Gate k n ∷ ps) b f a zero d l = let here : i ≡ i + 0 = omega arith in
    subst (λ m. IsUpIn start r m u) here a.0
ups-in p start r i (u ∷ us) (Who q ∷ ps) b f a (suc m) d l =
    let here : suc i + m ≡ i + suc m = omega arith in
    let rest = ups-in p start r (suc i) us ps (omega arith) f.1 (all-suc start r i us a.1) m d (omega arith) in
    subst (λ n. IsUpIn start r n (get_or (ups_of (suc i) us ps) m d)) here rest
ups-in p start r i (u ∷ us) (Gate k n ∷ ps) b f a (suc m) d l =
    let parts : List Up = replicate n (Node i) ++ us in
    let size : length us + n ≡ length parts =
    omega (arith, length-append (replicate n (Node i)) us, length-replicate n (Node i)) in
    let here : suc i + m ≡ i + suc m = omega arith in
    let rest = ups-in p start r (suc i) parts ps (omega arith) (subst (λ c. AreForms p c ps) size f.1)
    (all-parts start r i n us b a.1) m d (omega arith) in
    subst (λ c. IsUpIn start r c (get_or (ups_of (suc i) parts ps) m d)) here rest

-- the way up from a node of rows that begin with this node and row: to a gate before it in the same row, or to the row
abbrev LeadsUp : List SystemRow → ℕ → ℕ → ℕ → Up → Type 0
LeadsUp rows start r i (Node g) = (h : ℕ) × (g ≡ start + h) × (h < i) × (row_of_node rows h ≡ row_of_node rows i)
    × (place_of_node rows h < place_of_node rows i)
LeadsUp rows start r i (Row q) = q ≡ r + row_of_node rows i

leads-first : (row : SystemRow) (rows : List SystemRow) (start r i : ℕ) (u : Up) → i < length row.formula
    → IsUpIn start r (start + i) u → LeadsUp (row ∷ rows) start r i u
leads-first row rows start r i (Node g) l h =
    let j : ℕ = g - start in
    let before : j < i = omega (arith, h.0, h.1) in
    let within : j < length row.formula = omega arith in
    let one = place-first row rows j within in
    let two = place-first row rows i l in (
      j,
      omega (arith, h.0),
      before,
      row-first row rows j within ∙ sym (row-first row rows i l),
      omega (arith, one, two, before),
    )
leads-first row rows start r i (Row q) l h = let z = row-first row rows i l in omega (arith, h, z)

leads-later : (row : SystemRow) (rows : List SystemRow) (start r i : ℕ) (u : Up) → length row.formula ≤ i
    → LeadsUp rows (start + length row.formula) (suc r) (i - length row.formula) u → LeadsUp (row ∷ rows) start r i u
leads-later row rows start r i (Node g) l (h, e, before, same, place) =
    let n : ℕ = length row.formula in
    let past : n ≤ n + h = omega arith in
    let back : n + h - n ≡ h = omega arith in
    let row_one : row_of_node (row ∷ rows) (n + h) ≡ suc (row_of_node rows h) = row-later row rows (n + h) past
    ∙ ap (λ j. suc (row_of_node rows j)) back in
    let place_one : place_of_node (row ∷ rows) (n + h) ≡ place_of_node rows h = place-later row rows (n + h) past
    ∙ ap (place_of_node rows) back in
    let place_two = place-later row rows i l in (
      n + h,
      omega (arith, e),
      omega (arith, before),
      row_one ∙ ap suc same ∙ sym (row-later row rows i l),
      omega (arith, place_one, place_two, place),
    )
leads-later row rows start r i (Row q) l h = let z = row-later row rows i l in omega (arith, h, z)

ups-lead : (levels p : ℕ) (rows : List SystemRow) → All (IsSystemRow levels p) rows → (start r i : ℕ) (d : Up)
    → i < node_total rows
    → LeadsUp rows start r i (get_or (ups_of start (row_ups r (length rows)) (pieces_of rows)) i d)
ups-lead levels p [] fit start r i d l = absurd (omega arith)
ups-lead levels p (row ∷ rows) fit start r i d l =
    let first : IsSystemRow levels p row = All-head (IsSystemRow levels p) row rows fit in
    let own : List Up = Row r ∷ [] in
    let one : List Up = ups_of start own row.formula in
    let rest : List Up = ups_of (start + length row.formula) (row_ups (suc r) (length rows)) (pieces_of rows) in
    let all : ups_of start (row_ups r (length (row ∷ rows))) (pieces_of (row ∷ rows)) ≡ one ++ rest =
    ups-append p start own (row_ups (suc r) (length rows)) row.formula (pieces_of rows) first.formula.one in
    let size : length one ≡ length row.formula = length-ups_of p start own row.formula first.formula.one in
    subst (λ us. LeadsUp (row ∷ rows) start r i (get_or us i d)) (sym all)
    (elim (cases_lt i (length row.formula)) [
      | inl early ↦
          let here : get_or (one ++ rest) i d ≡ get_or one i d = get_or_append_left one rest d i (omega arith) in
          subst (LeadsUp (row ∷ rows) start r i) (sym here)
          (leads-first row rows start r i (get_or one i d) early
          (ups-in p start r start own row.formula (omega arith) first.formula.one (refl, tt) i d early))
      | inr later ↦
          let here : get_or (one ++ rest) i d ≡ get_or rest (i - length row.formula) d =
          get_or-append_right one rest (length row.formula) i d size later in
          subst (LeadsUp (row ∷ rows) start r i) (sym here)
          (leads-later row rows start r i (get_or rest (i - length row.formula) d) later
          (ups-lead levels p rows (All-tail (IsSystemRow levels p) row rows fit) (start + length row.formula) (suc r)
          (i - length row.formula) d (omega arith)))
    ])

-- the way up from a node
abbrev pub LeadsOn : List SystemRow → ℕ → Up → Type 0
LeadsOn rows i (Node g) = (g < i) × (row_of_node rows g ≡ row_of_node rows i)
    × (place_of_node rows g < place_of_node rows i)
LeadsOn rows i (Row q) = q ≡ row_of_node rows i

leads-on : (rows : List SystemRow) (i : ℕ) (u : Up) → LeadsUp rows 0 0 i u → LeadsOn rows i u
leads-on rows i (Node g) (h, e, before, same, place) =
    let is : h ≡ g = omega arith in
    subst (λ j. (j < i) × (row_of_node rows j ≡ row_of_node rows i) × (place_of_node rows j < place_of_node rows i)) is
    (before, same, place)
leads-on rows i (Row q) h = omega (arith, h)

pub up-leads : (s : SystemEquations) (i : ℕ) (d : Up) → IsSystem s → i < node_total s.rows
    → LeadsOn s.rows i (get_or (ups_of_rows s.rows) i d)
up-leads s i d fits l =
    leads-on s.rows i (get_or (ups_of_rows s.rows) i d)
    (ups-lead s.levels (length s.requesters) s.rows fits.rows_fit 0 0 i d l)
