-- The system that a base is in a query: its rows with the ceilings of the query, and the requesters of the query.
use Rattle.std.specs.Prelude.{ℕ, zero, suc, ◌==◌, ◌<◌, Bool, true, false, List, [], ◌∷◌, length, slice_index}
use Rattle.std.specs.Prelude.{if◌then◌else◌}
use Rattle.kn_system.specs.Rows.{SystemRow}
use Rattle.kn_system.specs.Equations.{SystemEquations}

-- whether a principal stands in a list
abbrev pub is_among : ℕ → List ℕ → Bool
is_among p [] = false
is_among p (q ∷ qs) = if q == p then true else is_among p qs

-- for each of n principals from p on whether it is a requester
abbrev pub flags_from : List ℕ → ℕ → ℕ → List Bool
flags_from requesters p zero = []
flags_from requesters p (suc n) = is_among p requesters ∷ flags_from requesters (suc p) n

-- rows from the i-th on with these ceilings
abbrev pub capped_from : List ℕ → ℕ → List SystemRow → List SystemRow
capped_from ceilings i [] = []
capped_from ceilings i (row ∷ rows) =
    (record { authorizer = row.authorizer; ceiling = slice_index ceilings i; formula = row.formula })
    ∷ capped_from ceilings (suc i) rows

-- a base in a query
abbrev pub query_system : SystemEquations → ℕ → List ℕ → List ℕ → SystemEquations
query_system base levels requesters ceilings = record {
  levels = levels;
  requesters = flags_from requesters 0 (length base.requesters);
  rows = capped_from ceilings 0 base.rows;
}

-- a principal of a base other than the policy
abbrev pub IsOther : ℕ → ℕ → Type 0
IsOther principals p = (0 < p) × (p < principals)
