-- The compliance level of a Licensees formula (RFC 2704, section 5).
use Rattle.std.specs.Prelude.{ℕ, suc, List, [], ◌∷◌, slice_index, take, drop}
use Rattle.kn_base.specs.Threshold.{threshold}
use Rattle.kn_system.specs.declared.rows.Piece.{Piece}
use Rattle.kn_system.specs.declared.rows.Piece.TheVariants.{Who, Gate}

-- a gate takes as many of the formulas behind it as it counts
abbrev pub gate_level : ℕ → ℕ → ℕ → List ℕ → List ℕ
gate_level top k n levels = threshold top k (take n levels) ∷ drop n levels

-- the levels of the formulas that pieces spell, one after another, where each principal has a level
abbrev pub form_levels : ℕ → List ℕ → List Piece → List ℕ
form_levels top levels [] = []
form_levels top levels (Who p ∷ ps) = slice_index levels p ∷ form_levels top levels ps
form_levels top levels (Gate k n ∷ ps) = gate_level top k n (form_levels top levels ps)

-- the level of the one formula that pieces spell
abbrev pub form_level : ℕ → List ℕ → List Piece → ℕ
form_level top levels ps = slice_index (form_levels top levels ps) 0

-- how many principals stand in pieces
abbrev pub leaf_count : List Piece → ℕ
leaf_count [] = 0
leaf_count (Who p ∷ ps) = suc (leaf_count ps)
leaf_count (Gate k n ∷ ps) = leaf_count ps
