-- What is reported of a query that was settled: its value, and how large the system of it is (keynoted's own).
use Rattle.std.specs.Prelude.{ℕ, ◌≡◌, ◌+◌, ◌&&◌, not, nat_lt, Bool, false, slice_index_or, List, [], ◌∷◌, length}
use Rattle.std.specs.Prelude.{sum_by, count_by, if◌then◌else◌}
use Rattle.std.specs.List.{list_any, IsDistinct}
use Rattle.std.specs.Str.{bytes_eq}
use Rattle.kn_meaning.specs.Equations.{Equations, IsPolicyLevel, is_requester}
use Rattle.kn_meaning.specs.Critical.{equation_nodes}
use Rattle.kn_meaning.specs.Occurring.{occurring, licensees_names}
use Rattle.kn_system.specs.Equations.{SystemEquations, node_total, leaf_total}
use Rattle.kn_system.specs.Least.{least_levels}
use Rattle.kn_generate.specs.declared.query.Measured.{Measured}

-- how many have a level above the lowest and are no requesters
abbrev pub granted_count : List Bool → List ℕ → ℕ
granted_count [] levels = 0
granted_count (requester ∷ requesters) [] = 0
granted_count (requester ∷ requesters) (level ∷ levels) = (if not requester && nat_lt 0 level then 1 else 0)
    + granted_count requesters levels

-- 1 where the principal of this number has and is that
abbrev pub granted_count_at : List Bool → List ℕ → ℕ → ℕ
granted_count_at requesters levels p = if not (slice_index_or requesters p false)
    && nat_lt 0 (slice_index_or levels p 0) then 1 else 0

-- the counts are those of this system
pub record HasCounts (s : SystemEquations) (m : Measured) : Type 0 where
  pub rows : m.rows ≡ granted_count s.requesters (least_levels s)
  pub principals : m.principals ≡ length s.requesters
  pub nodes : m.nodes ≡ node_total s.rows
  pub uses : m.uses ≡ leaf_total s.rows
  pub levels : m.levels ≡ s.levels

-- The level is that of the policy in the least fixed point. The names are those that occur in the query, each once;
-- `rows` counts those of them that are no requesters and have a level above the lowest, and `uses` the principals in
-- the formulas.
pub record IsMeasured (e : Equations) (m : Measured) : Type 0 where
  pub level : IsPolicyLevel e m.level
  pub names : List (List ℕ)
  pub each_once : IsDistinct bytes_eq names
  pub occur : (name : List ℕ) → list_any (bytes_eq name) names ≡ list_any (bytes_eq name) (occurring e)
  pub rows : m.rows ≡ count_by (λ name. not (is_requester e name) && nat_lt 0 (level.levels name)) names
  pub principals : m.principals ≡ length names
  pub nodes : m.nodes ≡ equation_nodes e
  pub uses : m.uses ≡ sum_by (λ s. length (licensees_names s.licensees)) e.statements
  pub levels : m.levels ≡ e.top + 1
