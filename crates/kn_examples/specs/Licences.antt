-- Principals with their levels, and formulas over them.
use Rattle.std.specs.Prelude.{ℕ, List, [], ◌∷◌, codes, Some, if◌then◌else◌}
use Rattle.std.specs.Str.{bytes_eq}
use Rattle.kn_trees.specs.declared.formula.Formula.{Formula}
use Rattle.kn_trees.specs.declared.formula.Formula.TheVariants.{Who, Threshold}
use Rattle.kn_proof.specs.declared.named.Id.TheVariants.{Shared}
use Rattle.kn_meaning.specs.Formulas.{Levels}
use Rattle.kn_meaning.specs.Equations.{Equations, Statement}

-- of three levels, bob has the middle one and carol the highest; all others have the lowest
abbrev pub levels : Levels
levels name = if bytes_eq name (codes "bob") then 1 else if bytes_eq name (codes "carol") then 2 else 0

abbrev pub alice : Formula
alice = Who (codes "alice")

abbrev pub bob : Formula
bob = Who (codes "bob")

abbrev pub carol : Formula
carol = Who (codes "carol")

-- so many of the three
abbrev pub of_three : ℕ → Formula
of_three need = Threshold need (alice ∷ bob ∷ carol ∷ [])

-- an assertion that is worth this level at most
abbrev pub statement : List ℕ → ℕ → Formula → Statement
statement authorizer ceiling licensees =
    record { id = Shared 1; authorizer = authorizer; ceiling = ceiling; licensees = Some licensees }

-- alice asks; the policy licenses carol up to the middle level and dave without limit, and carol licenses bob
abbrev pub licences : Equations
licences = record {
  top = 2;
  requesters = codes "alice" ∷ [];
  statements =
      statement (codes "POLICY") 1 carol ∷ statement (codes "POLICY") 2 (Who (codes "dave"))
      ∷ statement (codes "carol") 2 bob ∷ [];
}

-- these ask; the policy licenses two of x, y and z, and y licenses w up to the middle level
abbrev pub asked_by : List (List ℕ) → Equations
asked_by requesters = record {
  top = 2;
  requesters = requesters;
  statements =
      statement (codes "POLICY") 2 (Threshold 2 (Who (codes "x") ∷ Who (codes "y") ∷ Who (codes "z") ∷ []))
      ∷ statement (codes "y") 1 (Who (codes "w")) ∷ [];
}
