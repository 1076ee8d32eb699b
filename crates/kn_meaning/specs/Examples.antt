-- Small policies.
use Rattle.std.specs.Prelude.{ℕ, List, [], ◌∷◌, Some, codes}
use Rattle.kn_trees.specs.declared.formula.Formula.TheVariants.{Who}
use Rattle.kn_proof.specs.declared.named.Id.TheVariants.{Shared}
use Rattle.kn_meaning.specs.Equations.{Equations, Statement}

-- one principal licenses another
abbrev pub licence : ℕ → List ℕ → List ℕ → Statement
licence id authorizer licensee =
    record { id = Shared id; authorizer = authorizer; ceiling = 1; licensees = Some (Who licensee) }

-- one requester asks between two compliance values
abbrev pub question : List ℕ → List Statement → Equations
question requester statements = record { top = 1; requesters = requester ∷ []; statements = statements }

-- the policy licenses alice
abbrev pub direct_policy : List Statement
direct_policy = licence 1 (codes "POLICY") (codes "alice") ∷ []

-- the policy licenses a, and a and b license each other
abbrev pub cyclic_policy : List Statement
cyclic_policy = licence 1 (codes "POLICY") (codes "a") ∷ licence 2 (codes "a") (codes "b")
    ∷ licence 3 (codes "b") (codes "a") ∷ []
