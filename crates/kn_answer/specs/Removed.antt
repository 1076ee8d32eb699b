-- Assertions that were removed stay in a base as rows that are worth nothing (keynoted's own).
use Rattle.std.specs.Prelude.{ℕ, Bool, List, [], ◌∷◌, if◌then◌else◌}
use Rattle.kn_env.specs.Environment.{Asked}
use Rattle.kn_proof.specs.declared.named.NamedRow.{NamedRow}
use Rattle.kn_meaning.specs.Equations.{Equations, Part, Statement, statement_of, IsPolicyLevel}
use Rattle.kn_meaning.specs.Proofs.{IsProof}

-- a statement, and whether it is still there
pub record Kept : Type 0 where
  pub statement : Statement
  pub is_live : Bool

-- one that is no more there has the lowest compliance value
abbrev pub capped_statement : Kept → Statement
capped_statement k = record k.statement { ceiling = if k.is_live then k.statement.ceiling else 0 }

abbrev pub capped_statements : List Kept → List Statement
capped_statements [] = []
capped_statements (k ∷ ks) = capped_statement k ∷ capped_statements ks

-- those that are still there
abbrev pub live_statements : List Kept → List Statement
live_statements [] = []
live_statements (k ∷ ks) = if k.is_live then k.statement ∷ live_statements ks else live_statements ks

-- what is asked of these statements
abbrev pub query_equations : ℕ → List (List ℕ) → List Statement → Equations
query_equations top requesters statements = record { top = top; requesters = requesters; statements = statements }

-- what holds with the removed ones at nothing holds without them
pub record RemovedIsWorthless (top : ℕ) (requesters : List (List ℕ)) (kept : List Kept) : Type 0 where
  pub level : (v : ℕ) → IsPolicyLevel (query_equations top requesters (capped_statements kept)) v
      → IsPolicyLevel (query_equations top requesters (live_statements kept)) v
  pub proof : (rows : List NamedRow) (v : ℕ) → IsProof (query_equations top requesters (capped_statements kept)) rows v
      → IsProof (query_equations top requesters (live_statements kept)) rows v

abbrev pub RemovedAreWorthless : Type 0
RemovedAreWorthless = (top : ℕ) (requesters : List (List ℕ)) (kept : List Kept) → RemovedIsWorthless top requesters kept

-- the assertions that are still there, where a flag for each says whether it is
abbrev pub live_parts : List Part → List Bool → List Part
live_parts [] flags = []
live_parts (part ∷ parts) [] = []
live_parts (part ∷ parts) (flag ∷ flags) = if flag then part ∷ live_parts parts flags else live_parts parts flags

-- what assertions state in a query, and which of them are still there
abbrev pub kept_of : Asked → List Part → List Bool → List Kept
kept_of asked [] flags = []
kept_of asked (part ∷ parts) [] = []
kept_of asked (part ∷ parts) (flag ∷ flags) = (record { statement = statement_of asked part; is_live = flag })
    ∷ kept_of asked parts flags
