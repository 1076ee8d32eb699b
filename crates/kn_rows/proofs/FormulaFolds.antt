-- What is computed of a formula, by what is computed of its parts.
use Rattle.std.proofs.Common.{◌≡◌, ℕ, suc, zero, ◌+◌, ◌<◌, ◌≤◌, Bool, true, ◌&&◌, nat_le, List, [], ◌∷◌, ◌++◌, get_or}
use Rattle.std.proofs.Common.{take, length, map, flat_map, All as Each, sym, ap, subst, ◌∙◌, arith}
use Rattle.std.specs.List.{list_all}
use Rattle.std.proofs.lemmas.List.{length-map, map-append, take_more, append-nil}
use Rattle.std.proofs.lemmas.Grind.{flat_map-append}
use Rattle.std.proofs.lemmas.List.Folds.{flat_map-map}
use Rattle.std.proofs.lemmas.Bool.{and_parts, leb-true}
use Rattle.kn_base.specs.Threshold.{threshold}
use Rattle.kn_trees.specs.declared.formula.Formula.{Formula}
use Rattle.kn_trees.specs.declared.formula.Formula.TheVariants.{Who, All, Any, Threshold, rolls-Who, rolls-All}
use Rattle.kn_trees.specs.declared.formula.Formula.TheVariants.{rolls-Any, rolls-Threshold}
use Rattle.kn_trees.specs.declared.formula.Formula.TheOpen.{Formula-F}
use Rattle.kn_trees.specs.declared.formula.Formula.TheOpen.Formula-F.{Who as open_Who, All as open_All, Any as open_Any}
use Rattle.kn_trees.specs.declared.formula.Formula.TheOpen.Formula-F.{Threshold as open_Threshold}
use Rattle.kn_trees.specs.declared.formula.Formula.TheFolds.{fold-Formula, fold-roll-Formula}
use Rattle.kn_trees.specs.Formulas.{total, node_step, formula_nodes, greatest_of, depth_step, formula_depth, itself}
use Rattle.kn_trees.specs.Formulas.{sound_step, is_sound}
use Rattle.kn_meaning.specs.Formulas.{Levels, level_step, formula_level}
use Rattle.kn_meaning.specs.Occurring.{names_step, formula_names}
use Rattle.kn_rows.specs.Numbering.{NamedPiece, Leaf, Gate, pieces_step, formula_pieces}

pub fold-Who : (X : Type 0) (step : Formula-F X → X) (name : List ℕ)
    → fold-Formula X step (Who name) ≡ step (open_Who name)
fold-Who X step name = ap (fold-Formula X step) (sym (rolls-Who name)) ∙ fold-roll-Formula X step (open_Who name)

pub fold-All : (X : Type 0) (step : Formula-F X → X) (parts : List Formula)
    → fold-Formula X step (All parts) ≡ step (open_All (map (fold-Formula X step) parts))
fold-All X step parts = ap (fold-Formula X step) (sym (rolls-All parts)) ∙ fold-roll-Formula X step (open_All parts)

pub fold-Any : (X : Type 0) (step : Formula-F X → X) (parts : List Formula)
    → fold-Formula X step (Any parts) ≡ step (open_Any (map (fold-Formula X step) parts))
fold-Any X step parts = ap (fold-Formula X step) (sym (rolls-Any parts)) ∙ fold-roll-Formula X step (open_Any parts)

pub fold-Threshold : (X : Type 0) (step : Formula-F X → X) (need : ℕ) (parts : List Formula)
    → fold-Formula X step (Threshold need parts) ≡ step (open_Threshold need (map (fold-Formula X step) parts))
fold-Threshold X step need parts = ap (fold-Formula X step) (sym (rolls-Threshold need parts))
    ∙ fold-roll-Formula X step (open_Threshold need parts)

pub formula_level-Who : (top : ℕ) (at : Levels) (name : List ℕ) → formula_level top at (Who name) ≡ at name
unfolding formula_level
formula_level-Who top at name = fold-Who ℕ (level_step top at) name

pub formula_nodes-Who : (name : List ℕ) → formula_nodes (Who name) ≡ 1
unfolding formula_nodes
formula_nodes-Who name = fold-Who ℕ node_step name

pub formula_depth-Who : (name : List ℕ) → formula_depth (Who name) ≡ 1
unfolding formula_depth
formula_depth-Who name = fold-Who ℕ depth_step name

pub formula_names-Who : (name : List ℕ) → formula_names (Who name) ≡ name ∷ []
unfolding formula_names
formula_names-Who name = fold-Who (List (List ℕ)) names_step name

pub formula_pieces-Who : (name : List ℕ) → formula_pieces (Who name) ≡ Leaf name ∷ []
unfolding formula_pieces
formula_pieces-Who name = fold-Who (List NamedPiece) pieces_step name

-- The formula is that so many of these parts are needed.
pub record IsGate (need : ℕ) (parts : List Formula) (formula : Formula) : Type 0 where
  pub level : (top : ℕ) (at : Levels)
      → formula_level top at formula ≡ threshold top need (map (formula_level top at) parts)
  pub nodes : formula_nodes formula ≡ 1 + total (map formula_nodes parts)
  pub depth : formula_depth formula ≡ 1 + greatest_of (map formula_depth parts)
  pub names : formula_names formula ≡ flat_map formula_names parts
  pub pieces : formula_pieces formula ≡ Gate need (length parts) ∷ flat_map formula_pieces parts

pub IsGate-All : (parts : List Formula) → IsGate (length parts) parts (All parts)
unfolding formula_level formula_nodes formula_depth formula_names formula_pieces
IsGate-All parts = record {
  level = λ top at. fold-All ℕ (level_step top at) parts
      ∙ ap (λ n. threshold top n (map (formula_level top at) parts)) (simp length-map);
  nodes = fold-All ℕ node_step parts;
  depth = fold-All ℕ depth_step parts;
  names = fold-All (List (List ℕ)) names_step parts ∙ flat_map-map (λ ns. ns) formula_names parts;
  pieces = fold-All (List NamedPiece) pieces_step parts
      ∙ ap (λ n. Gate n n ∷ flat_map (λ ps. ps) (map formula_pieces parts)) (simp length-map)
      ∙ ap (λ ps. Gate (length parts) (length parts) ∷ ps) (flat_map-map (λ ps. ps) formula_pieces parts);
}

pub IsGate-Any : (parts : List Formula) → IsGate 1 parts (Any parts)
unfolding formula_level formula_nodes formula_depth formula_names formula_pieces
IsGate-Any parts = record {
  level = λ top at. fold-Any ℕ (level_step top at) parts;
  nodes = fold-Any ℕ node_step parts;
  depth = fold-Any ℕ depth_step parts;
  names = fold-Any (List (List ℕ)) names_step parts ∙ flat_map-map (λ ns. ns) formula_names parts;
  pieces = fold-Any (List NamedPiece) pieces_step parts
      ∙ ap (λ n. Gate 1 n ∷ flat_map (λ ps. ps) (map formula_pieces parts)) (simp length-map)
      ∙ ap (λ ps. Gate 1 (length parts) ∷ ps) (flat_map-map (λ ps. ps) formula_pieces parts);
}

pub IsGate-Threshold : (need : ℕ) (parts : List Formula) → IsGate need parts (Threshold need parts)
unfolding formula_level formula_nodes formula_depth formula_names formula_pieces
IsGate-Threshold need parts = record {
  level = λ top at. fold-Threshold ℕ (level_step top at) need parts;
  nodes = fold-Threshold ℕ node_step need parts;
  depth = fold-Threshold ℕ depth_step need parts;
  names = fold-Threshold (List (List ℕ)) names_step need parts ∙ flat_map-map (λ ns. ns) formula_names parts;
  pieces = fold-Threshold (List NamedPiece) pieces_step need parts
      ∙ ap (λ n. Gate need n ∷ flat_map (λ ps. ps) (map formula_pieces parts)) (simp length-map)
      ∙ ap (λ ps. Gate need (length parts) ∷ ps) (flat_map-map (λ ps. ps) formula_pieces parts);
}

-- parts that are sound together are sound one by one
each-sound : (parts : List Formula) → list_all itself (map is_sound parts) ≡ true
    → Each (λ part. is_sound part ≡ true) parts
each-sound [] all i d within = absurd (omega arith)
each-sound (part ∷ parts) all zero d within = (and_parts (is_sound part) (list_all itself (map is_sound parts)) all).0
each-sound (part ∷ parts) all (suc i) d within =
    each-sound parts ((and_parts (is_sound part) (list_all itself (map is_sound parts)) all).1) i d (omega arith)

-- what a sound formula says of its parts
pub record HasSoundParts (need : ℕ) (parts : List Formula) : Type 0 where
  pub need_one : 1 ≤ need
  pub each : Each (λ part. is_sound part ≡ true) parts

-- two parts at least
several : (parts : List Formula) → (nat_le 2 (length (map is_sound parts)) && list_all itself (map is_sound parts))
    ≡ true → 2 ≤ length parts
several parts all =
    let many : 2 ≤ length (map is_sound parts) =
    leb-true 2 (length (map is_sound parts))
    (and_parts (nat_le 2 (length (map is_sound parts))) (list_all itself (map is_sound parts)) all).0 in
    let same : length (map is_sound parts) ≡ length parts = simp length-map in
    omega arith

pub HasSoundParts-All : (parts : List Formula) → is_sound (All parts) ≡ true → HasSoundParts (length parts) parts
unfolding is_sound
HasSoundParts-All parts sound =
    let all : (nat_le 2 (length (map is_sound parts)) && list_all itself (map is_sound parts)) ≡ true =
    sym (fold-All Bool sound_step parts) ∙ sound in
    let many : 2 ≤ length parts = several parts all in
    record {
      need_one = omega arith;
      each = each-sound parts (and_parts (nat_le 2 (length (map is_sound parts))) (list_all itself (map is_sound parts))
          all).1;
    }

pub HasSoundParts-Any : (parts : List Formula) → is_sound (Any parts) ≡ true → HasSoundParts 1 parts
unfolding is_sound
HasSoundParts-Any parts sound =
    let all : (nat_le 2 (length (map is_sound parts)) && list_all itself (map is_sound parts)) ≡ true =
    sym (fold-Any Bool sound_step parts) ∙ sound in
    record {
      need_one = omega arith;
      each = each-sound parts (and_parts (nat_le 2 (length (map is_sound parts))) (list_all itself (map is_sound parts))
          all).1;
    }

pub HasSoundParts-Threshold : (need : ℕ) (parts : List Formula) → is_sound (Threshold need parts) ≡ true
    → HasSoundParts need parts
unfolding is_sound
HasSoundParts-Threshold need parts sound =
    let all : ((nat_le 1 need && nat_le need (length (map is_sound parts))) && list_all itself (map is_sound parts))
    ≡ true = sym (fold-Threshold Bool sound_step need parts) ∙ sound in
    let both = and_parts (nat_le 1 need && nat_le need (length (map is_sound parts)))
    (list_all itself (map is_sound parts)) all in
    record {
      need_one = leb-true 1 need (and_parts (nat_le 1 need) (nat_le need (length (map is_sound parts))) both.0).0;
      each = each-sound parts both.1;
    }

-- a part and those before it have at most as many nodes as all of them
pub total-part : (parts : List Formula) (i : ℕ) (part : Formula) → i < length parts → part ≡ get_or parts i part
    → total (map formula_nodes (take i parts)) + formula_nodes part ≤ total (map formula_nodes parts)
total-part [] i part within here = absurd (omega arith)
total-part (p ∷ parts) zero part within here = let same : formula_nodes part ≡ formula_nodes p =
    ap formula_nodes here in omega arith
total-part (p ∷ parts) (suc i) part within here = let rest = total-part parts i part (omega arith) here in omega arith

-- The formula is sound, and that so many of these parts are needed.
pub record IsSoundGate (need : ℕ) (parts : List Formula) (formula : Formula) : Type 0 where
  pub gate : IsGate need parts formula
  pub parts_sound : HasSoundParts need parts

pub IsSoundGate-All : (formula : Formula) (parts : List Formula) → formula ≡ All parts → is_sound formula ≡ true
    → IsSoundGate (length parts) parts formula
IsSoundGate-All formula parts is sound = subst (IsSoundGate (length parts) parts) (sym is)
    (record { gate = IsGate-All parts; parts_sound = HasSoundParts-All parts (ap is_sound (sym is) ∙ sound) })

pub IsSoundGate-Any : (formula : Formula) (parts : List Formula) → formula ≡ Any parts → is_sound formula ≡ true
    → IsSoundGate 1 parts formula
IsSoundGate-Any formula parts is sound = subst (IsSoundGate 1 parts) (sym is)
    (record { gate = IsGate-Any parts; parts_sound = HasSoundParts-Any parts (ap is_sound (sym is) ∙ sound) })

pub IsSoundGate-Threshold : (formula : Formula) (need : ℕ) (parts : List Formula) → formula ≡ Threshold need parts
    → is_sound formula ≡ true → IsSoundGate need parts formula
IsSoundGate-Threshold formula need parts is sound = subst (IsSoundGate need parts) (sym is)
    (record {
      gate = IsGate-Threshold need parts;
      parts_sound =
          HasSoundParts-Threshold need parts (ap is_sound (sym is) ∙ sound);
    })

pub total-append : (xs ys : List ℕ) → total (xs ++ ys) ≡ total xs + total ys
total-append [] ys = omega arith
total-append (x ∷ xs) ys = let rest : total (xs ++ ys) ≡ total xs + total ys = total-append xs ys in omega arith

-- one part more adds its nodes
pub total-more : (parts : List Formula) (i : ℕ) (part : Formula) → i < length parts → part ≡ get_or parts i part
    → total (map formula_nodes (take (i + 1) parts)) ≡ total (map formula_nodes (take i parts)) + formula_nodes part
total-more parts i part within here =
    let longer : take (i + 1) parts ≡ take i parts ++ part ∷ [] = take_more parts i part within
    ∙ ap (λ p. take i parts ++ p ∷ []) (sym here) in
    let mapped : map formula_nodes (take (i + 1) parts) ≡ map formula_nodes (take i parts) ++ formula_nodes part ∷ [] =
    ap (map formula_nodes) longer ∙ map-append formula_nodes (take i parts) (part ∷ []) in
    let sum : total (map formula_nodes (take i parts) ++ formula_nodes part ∷ [])
    ≡ total (map formula_nodes (take i parts)) + (formula_nodes part + 0) =
    total-append (map formula_nodes (take i parts)) (formula_nodes part ∷ []) in
    let whole : total (map formula_nodes (take (i + 1) parts))
    ≡ total (map formula_nodes (take i parts) ++ formula_nodes part ∷ []) = ap total mapped in
    omega arith

-- what is had of one part more stands behind
pub flat_map-more : {A B : Type 0} (f : A → List B) (parts : List A) (i : ℕ) (part : A) → i < length parts
    → part ≡ get_or parts i part → flat_map f (take (i + 1) parts) ≡ flat_map f (take i parts) ++ f part
flat_map-more f parts i part within here =
    let longer : take (i + 1) parts ≡ take i parts ++ part ∷ [] = take_more parts i part within
    ∙ ap (λ p. take i parts ++ p ∷ []) (sym here) in
    ap (flat_map f) longer ∙ flat_map-append f (take i parts) (part ∷ [])
    ∙ ap (λ bs. flat_map f (take i parts) ++ bs) (append-nil (f part))
