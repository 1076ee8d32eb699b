-- Nodes that are linked to the use of the same principal before them: more and fewer of them, and what they say.
use Rattle.std.proofs.Common.{◌≡◌, ℕ, zero, suc, ◌+◌, ◌<◌, ◌≤◌, true, false, eqb, cond, List, [], ◌∷◌, ◌++◌}
use Rattle.std.proofs.Common.{length, take, get_or, set, Some, refl, inl, inr, sym, ap, ◌∙◌, add-one, arith}
use Rattle.std.specs.Prelude.{slice_get}
use Rattle.std.proofs.lemmas.Bool.{cases_eq, cases_lt}
use Rattle.std.proofs.lemmas.Bool.Decides.{nat_tests}
use Rattle.std.proofs.lemmas.Option.{get_or_from_slice_get, none-some, slice_get-get_or, slice_get_within}
use Rattle.std.proofs.lemmas.List.{get_or_append_left, get_or_push, get_or-set_same, get_or-set_other, get_or_past}
use Rattle.std.proofs.lemmas.List.{get_or-map, length-map, length-take-le, length_push, map_push, take-append-le}
use Rattle.std.proofs.lemmas.List.{take_all}
use Rattle.kn_system.specs.declared.rows.Piece.{Piece}
use Rattle.kn_system.specs.declared.rows.Piece.TheVariants.{Who, Gate}
use Rattle.kn_system.specs.LinkedNodes.{AreLastUses, AreLinked, LinkedNode, last_before, last_use_of, node_before}
use Rattle.kn_system.specs.LinkedNodes.{node_pieces}
use Rattle.kn_system.specs.Nodes.{use_before_at, uses_from, uses_of}
use Rattle.kn_system.proofs.AddedRows.{leaf_count-append}
use Rattle.kn_system.proofs.NodeLists.{uses_of-gate, uses_of-who}

-- one more number 0 behind the end
pub number_more : (numbers : List ℕ) (p : ℕ) → get_or (numbers ++ 0 ∷ []) p 0 ≡ get_or numbers p 0
number_more [] zero = refl
number_more [] (suc p) = refl
number_more (n ∷ numbers) zero = refl
number_more (n ∷ numbers) (suc p) = number_more numbers p

-- the last of some uses
last-push : (uses : List ℕ) (i : ℕ) → use_before_at (uses ++ i ∷ []) (length (uses ++ i ∷ [])) ≡ Some i
last-push uses i =
    let more : length (uses ++ i ∷ []) ≡ suc (length uses) = omega (arith, length_push uses i) in
    let within : length uses < length (uses ++ i ∷ []) = omega (arith, more) in
    ap (use_before_at (uses ++ i ∷ [])) more ∙ slice_get-get_or (uses ++ i ∷ []) (length uses) i within
    ∙ ap Some (get_or_push uses i i (length uses) refl)

-- one more principal
last-who : (p q : ℕ) (ps : List Piece)
    → last_use_of p (ps ++ Who q ∷ []) ≡ cond (eqb q p) (Some (length ps)) (last_use_of p ps)
last-who p q ps = ap (λ us. use_before_at us (length us)) (uses_of-who p q ps)
    ∙ (elim (eqb q p) as
    (λ b. use_before_at (cond b (uses_of p ps ++ length ps ∷ []) (uses_of p ps))
    (length (cond b (uses_of p ps ++ length ps ∷ []) (uses_of p ps)))
    ≡ cond b (Some (length ps)) (last_use_of p ps)) [
      | true ↦ last-push (uses_of p ps) (length ps)
      | false ↦ refl
    ])

-- one more gate
last-gate : (p k n : ℕ) (ps : List Piece) → last_use_of p (ps ++ Gate k n ∷ []) ≡ last_use_of p ps
last-gate p k n ps = ap (λ us. use_before_at us (length us)) (uses_of-gate p k n ps)

-- the last uses with one more
pub last_uses-who : (ps : List Piece) (q node : ℕ) (numbers after : List ℕ) (total more : ℕ)
    → AreLastUses ps numbers total → length ps ≡ node
    → ((p : ℕ) → get_or after p 0 ≡ cond (eqb q p) (node + 1) (get_or numbers p 0)) → more ≡ total + 1
    → AreLastUses (ps ++ Who q ∷ []) after more
last_uses-who ps q node numbers after total more are here set counted = record {
  last = λ p.
      ap node_before (set p)
      ∙ (elim (eqb q p) as
      (λ b. node_before (cond b (node + 1) (get_or numbers p 0)) ≡ cond b (Some (length ps)) (last_use_of p ps)) [
        | true ↦ ap node_before (add-one node) ∙ ap Some (sym here)
        | false ↦ are.last p
      ])
      ∙ sym (last-who p q ps);
  count = omega (arith, counted, are.count, leaf_count-append ps (Who q ∷ []));
}

pub last_uses-gate : (ps : List Piece) (k n : ℕ) (numbers : List ℕ) (total : ℕ) → AreLastUses ps numbers total
    → AreLastUses (ps ++ Gate k n ∷ []) numbers total
last_uses-gate ps k n numbers total are = record {
  last = λ p. are.last p ∙ sym (last-gate p k n ps);
  count = omega (arith, are.count, leaf_count-append ps (Gate k n ∷ []));
}

-- a principal that stands last has a number
pub last_there : (ps : List Piece) (q : ℕ) (numbers : List ℕ) (total : ℕ) → AreLastUses (ps ++ Who q ∷ []) numbers total
    → (q < length numbers) × (0 < total)
last_there ps q numbers total are =
    let yes : eqb q q ≡ true = grind (arith, nat_tests) in
    let own : node_before (get_or numbers q 0) ≡ Some (length ps) =
    are.last q ∙ last-who q q ps ∙ ap (λ b. cond b (Some (length ps)) (last_use_of q ps)) yes in
    (there own, omega (arith, are.count, leaf_count-append ps (Who q ∷ [])))
  where
    there : node_before (get_or numbers q 0) ≡ Some (length ps) → q < length numbers
    there own = elim (cases_lt q (length numbers)) [
      | inl within ↦ within
      | inr behind ↦
          let none : get_or numbers q 0 ≡ 0 = get_or_past numbers q 0 (omega (arith, behind)) in
          absurd (none-some (length ps) (sym (ap node_before none) ∙ own))
    ]

-- the last uses without the last
pub last_uses-less_who : (ps : List Piece) (q before : ℕ) (numbers : List ℕ) (total less : ℕ)
    → node_before before ≡ last_use_of q ps → less + 1 ≡ total → AreLastUses (ps ++ Who q ∷ []) numbers total
    → AreLastUses ps (set numbers q before) less
last_uses-less_who ps q before numbers total less linked counted are = record {
  last = λ p.
      elim (cases_eq p q) [
        | inl same ↦ ap (λ i. node_before (get_or (set numbers q before) i 0)) same
            ∙ ap node_before (get_or-set_same numbers q before 0 (last_there ps q numbers total are).0) ∙ linked
            ∙ ap (λ i. last_use_of i ps) (sym same)
        | inr differs ↦
            let no : eqb q p ≡ false = grind (arith, nat_tests) in
            ap node_before (get_or-set_other numbers q p before 0 differs) ∙ are.last p ∙ last-who p q ps
            ∙ ap (λ b. cond b (Some (length ps)) (last_use_of p ps)) no
      ];
  count = omega (arith, counted, are.count, leaf_count-append ps (Who q ∷ []));
}

pub last_uses-less_gate : (ps : List Piece) (k n : ℕ) (numbers : List ℕ) (total : ℕ)
    → AreLastUses (ps ++ Gate k n ∷ []) numbers total → AreLastUses ps numbers total
last_uses-less_gate ps k n numbers total are = record {
  last = λ p. are.last p ∙ last-gate p k n ps;
  count = omega (arith, are.count, leaf_count-append ps (Gate k n ∷ []));
}

-- the nodes before a place, of more nodes
take-pieces : (nodes : List LinkedNode) (node : LinkedNode) (i : ℕ) → i ≤ length nodes
    → take i (node_pieces (nodes ++ node ∷ [])) ≡ take i (node_pieces nodes)
take-pieces nodes node i within =
    let size : length (node_pieces nodes) ≡ length nodes = simp length-map in
    ap (take i) (map_push (λ (n : LinkedNode). n.piece) nodes node)
    ∙ take-append-le i (node_pieces nodes) (node.piece ∷ []) (omega (arith, size, within))

pub linked_more : (nodes : List LinkedNode) (node : LinkedNode) → AreLinked nodes
    → node_before node.before ≡ last_before (node_pieces nodes) node.piece → AreLinked (nodes ++ node ∷ [])
linked_more nodes node are linked = λ i d within.
    elim (cases_lt i (length nodes)) [
      | inl old ↦
          let same : get_or (nodes ++ node ∷ []) i d ≡ get_or nodes i d =
          get_or_append_left nodes (node ∷ []) d i old in
          ap (λ (n : LinkedNode). node_before n.before) same ∙ are i d old
          ∙ ap (λ ps. last_before ps (get_or nodes i d).piece) (sym (take-pieces nodes node i (omega (arith, old))))
          ∙ ap (λ (n : LinkedNode). last_before (take i (node_pieces (nodes ++ node ∷ []))) n.piece) (sym same)
      | inr past ↦
          let last : length nodes ≡ i = omega (arith, within, past, length_push nodes node) in
          let size : length (node_pieces nodes) ≡ length nodes = simp length-map in
          let same : get_or (nodes ++ node ∷ []) i d ≡ node = get_or_push nodes node d i last in
          let front : take i (node_pieces (nodes ++ node ∷ [])) ≡ node_pieces nodes =
          take-pieces nodes node i (omega (arith, last)) ∙ take_all i (node_pieces nodes) (omega (arith, last, size)) in
          ap (λ (n : LinkedNode). node_before n.before) same ∙ linked
          ∙ ap (λ ps. last_before ps node.piece) (sym front)
          ∙ ap (λ (n : LinkedNode). last_before (take i (node_pieces (nodes ++ node ∷ []))) n.piece) (sym same)
    ]

-- nodes without the last one, and what that was linked to
pub record IsLast (nodes : List LinkedNode) (node : LinkedNode) : Type 0 where
  pub linked : AreLinked nodes
  pub last : node_before node.before ≡ last_before (node_pieces nodes) node.piece

pub linked_less : (nodes : List LinkedNode) (node : LinkedNode) → AreLinked (nodes ++ node ∷ []) → IsLast nodes node
linked_less nodes node are =
    let size : length (node_pieces nodes) ≡ length nodes = simp length-map in
    let more : length (nodes ++ node ∷ []) ≡ length nodes + 1 = length_push nodes node in
    let same : get_or (nodes ++ node ∷ []) (length nodes) node ≡ node = get_or_push nodes node node (length nodes) refl
    in
    let front : take (length nodes) (node_pieces (nodes ++ node ∷ [])) ≡ node_pieces nodes =
    take-pieces nodes node (length nodes) (omega arith)
    ∙ take_all (length nodes) (node_pieces nodes) (omega (arith, size)) in
    record {
      linked = λ i d within.
          let old : get_or (nodes ++ node ∷ []) i d ≡ get_or nodes i d =
          get_or_append_left nodes (node ∷ []) d i within in
          ap (λ (n : LinkedNode). node_before n.before) (sym old) ∙ are i d (omega (arith, within, more))
          ∙ ap (λ ps. last_before ps (get_or (nodes ++ node ∷ []) i d).piece)
          (take-pieces nodes node i (omega (arith, within)))
          ∙ ap (λ (n : LinkedNode). last_before (take i (node_pieces nodes)) n.piece) old;
      last = ap (λ (n : LinkedNode). node_before n.before) (sym same) ∙ are (length nodes) node (omega (arith, more))
          ∙ ap (λ ps. last_before ps (get_or (nodes ++ node ∷ []) (length nodes) node).piece) front
          ∙ ap (λ (n : LinkedNode). last_before (node_pieces nodes) n.piece) same;
    }

-- where a use stands, and the uses before it
record IsUse (p s : ℕ) (ps : List Piece) (k i : ℕ) : Type 0 where
  place : ℕ
  is : i ≡ s + place
  who : slice_get ps place ≡ Some (Who p)
  front : uses_from p s (take place ps) ≡ take k (uses_from p s ps)

other_next : (p s : ℕ) (x : Piece) (ps : List Piece) (k i : ℕ)
    → ((rest : List Piece) → uses_from p s (x ∷ rest) ≡ uses_from p (suc s) rest) → IsUse p (suc s) ps k i
    → IsUse p s (x ∷ ps) k i
other_next p s x ps k i none next = record {
  place = suc next.place;
  is = omega (arith, next.is);
  who = next.who;
  front = none (take next.place ps) ∙ next.front ∙ ap (take k) (sym (none ps));
}

use_next : (p s : ℕ) (x : Piece) (ps : List Piece) (k i : ℕ)
    → ((rest : List Piece) → uses_from p s (x ∷ rest) ≡ s ∷ uses_from p (suc s) rest) → IsUse p (suc s) ps k i
    → IsUse p s (x ∷ ps) (suc k) i
use_next p s x ps k i one next = record {
  place = suc next.place;
  is = omega (arith, next.is);
  who = next.who;
  front = one (take next.place ps) ∙ ap (λ us. s ∷ us) next.front ∙ ap (take (suc k)) (sym (one ps));
}

use_first : (p s q : ℕ) (ps : List Piece) (k i : ℕ) → q ≡ p
    → ((rest : List Piece) → uses_from p s (Who q ∷ rest) ≡ s ∷ uses_from p (suc s) rest)
    → slice_get (s ∷ uses_from p (suc s) ps) k ≡ Some i
    → ((m : ℕ) → slice_get (uses_from p (suc s) ps) m ≡ Some i → IsUse p (suc s) ps m i)
    → IsUse p s (Who q ∷ ps) k i
use_first p s q ps zero i same one h next = record {
  place = 0;
  is = omega (arith, get_or_from_slice_get (s ∷ []) 0 i s h);
  who = ap (λ r. Some (Who r)) same;
  front = refl;
}
use_first p s q ps (suc k) i same one h next = use_next p s (Who q) ps k i one (next k h)

use_at : (p s : ℕ) (ps : List Piece) (k i : ℕ) → slice_get (uses_from p s ps) k ≡ Some i → IsUse p s ps k i
use_at p s [] k i h = absurd (none-some i h)
use_at p s (Gate l n ∷ ps) k i h = other_next p s (Gate l n) ps k i (λ rest. refl) (use_at p (suc s) ps k i h)
use_at p s (Who q ∷ ps) k i h =
    elim (cases_eq q p) [
      | inl same ↦
          let yes : eqb q p ≡ true = grind (arith, nat_tests) in
          let one : (rest : List Piece) → uses_from p s (Who q ∷ rest) ≡ s ∷ uses_from p (suc s) rest =
          (λ rest. ap (λ b. cond b (s ∷ uses_from p (suc s) rest) (uses_from p (suc s) rest)) yes) in
          use_first p s q ps k i same one (sym (ap (λ us. slice_get us k) (one ps)) ∙ h)
          (λ m e. use_at p (suc s) ps m i e)
      | inr differs ↦
          let no : eqb q p ≡ false = grind (arith, nat_tests) in
          let none : (rest : List Piece) → uses_from p s (Who q ∷ rest) ≡ uses_from p (suc s) rest =
          (λ rest. ap (λ b. cond b (s ∷ uses_from p (suc s) rest) (uses_from p (suc s) rest)) no) in
          other_next p s (Who q) ps k i none
          (use_at p (suc s) ps k i (sym (ap (λ us. slice_get us k) (none ps)) ∙ h))
    ]

-- the last of the first uses is the one before the next
last-take : (uses : List ℕ) (k : ℕ) → k < length uses
    → use_before_at (take k uses) (length (take k uses)) ≡ use_before_at uses k
last-take uses k within = ap (use_before_at (take k uses)) (length-take-le k uses (omega (arith, within)))
    ∙ before uses k (omega (arith, within))
  where
    before : (us : List ℕ) (n : ℕ) → n ≤ length us → use_before_at (take n us) n ≡ use_before_at us n
    before us zero l = refl
    before [] (suc n) l = absurd (omega (arith, l))
    before (u ∷ us) (suc zero) l = refl
    before (u ∷ us) (suc (suc n)) l = before us (suc n) (omega (arith, l))

-- the piece of a node that was read
piece_of_node : (nodes : List LinkedNode) (i : ℕ) (node : LinkedNode) → i < length nodes → node ≡ get_or nodes i node
    → get_or (node_pieces nodes) i (Who 0) ≡ node.piece
piece_of_node nodes i node within read = get_or-map (λ (n : LinkedNode). n.piece) nodes i node (Who 0) within
    ∙ ap (λ (n : LinkedNode). n.piece) (sym read)

-- a piece that was read is inside the pieces
pub read_at : (nodes : List LinkedNode) (i : ℕ) (node : LinkedNode) (x : Piece) → i < length nodes
    → node ≡ get_or nodes i node → x ≡ node.piece → (i < length (node_pieces nodes))
    × (get_or (node_pieces nodes) i (Who 0) ≡ x)
read_at nodes i node x within read is =
    let count : length (node_pieces nodes) ≡ length nodes = simp length-map in
    (omega (arith, within, count), piece_of_node nodes i node within read ∙ sym is)

-- the use before a node
pub use_read : (nodes : List LinkedNode) (i : ℕ) (node : LinkedNode) → AreLinked nodes → i < length nodes
    → node ≡ get_or nodes i node → (p k : ℕ) → slice_get (uses_of p (node_pieces nodes)) k ≡ Some i
    → node_before node.before ≡ use_before_at (uses_of p (node_pieces nodes)) k
use_read nodes i node are within read p k h =
    let pieces : List Piece = node_pieces nodes in
    let found : IsUse p 0 pieces k i = use_at p 0 pieces k i h in
    let place : found.place ≡ i = omega (arith, found.is) in
    let who : node.piece ≡ Who p = sym (piece_of_node nodes i node within read)
    ∙ ap (λ j. get_or pieces j (Who 0)) (sym place)
    ∙ get_or_from_slice_get pieces found.place (Who p) (Who 0) found.who in
    let front : uses_of p (take i pieces) ≡ take k (uses_of p pieces) = ap (λ j. uses_of p (take j pieces)) (sym place)
    ∙ found.front in
    ap (λ (n : LinkedNode). node_before n.before) read ∙ are i node within
    ∙ ap (λ (n : LinkedNode). last_before (take i pieces) n.piece) (sym read) ∙ ap (last_before (take i pieces)) who
    ∙ ap (λ us. use_before_at us (length us)) front
    ∙ last-take (uses_of p pieces) k (slice_get_within (uses_of p pieces) k i h)
