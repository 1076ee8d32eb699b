use Rattle.std.proofs.Common.{◌≡◌, ℕ, List, [], ◌∷◌, refl}
use Rattle.kn_env.specs.Attributes.{is_attribute_name}
use Rattle.kn_formula.specs.Trees.{constant_value}
use Rattle.kn_lex.specs.Spelling.{is_name}
use Rattle.kn_assert.proofs.laws.names_agree.Goals as goal

pub returns : goal.returns
unfolding constant_value
returns c = record { names = same_name; constants = λ constants name. refl }
  where
    same_name : (text : List ℕ) → is_name text ≡ is_attribute_name text
    same_name [] = refl
    same_name (byte ∷ bytes) = refl
