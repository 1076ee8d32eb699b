-- Expressions by their parts.
use Rattle.std.proofs.Common.{◌≡◌, List, [], ◌∷◌, ◌++◌, refl}
use Rattle.kn_trees.specs.declared.program.Expr.{Expr}
use Rattle.kn_program.specs.Trees.{several, joined}
use Rattle.kn_program.specs.declared.signs.Joint.{Joint}

-- a last part behind others
pub joined_more : (joint : Joint) (list : List Expr) (last : Expr) → (list ≡ [] → ⊥)
    → several joint (list ++ last ∷ []) ≡ joined joint (list ++ last ∷ [])
unfolding joined
joined_more joint [] last some = absurd (some refl)
joined_more joint (part ∷ []) last some = refl
joined_more joint (part ∷ next ∷ list) last some = refl
