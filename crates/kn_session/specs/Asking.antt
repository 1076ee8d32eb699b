-- What a session asks, and its value where that is known (keynoted's own).
use Rattle.std.specs.Prelude.{ℕ, List, [], ◌∷◌, ◌++◌, flat_map, Option, Some, None, IfSome}
use Rattle.kn_env.specs.Environment.{Asked}
use Rattle.kn_trees.specs.declared.assertion.Assertion.{Assertion}
use Rattle.kn_assert.specs.Reading.{assertion_of}
use Rattle.kn_proof.specs.declared.named.Id.{Id}
use Rattle.kn_proof.specs.declared.named.Id.TheVariants.{Shared, Private}
use Rattle.kn_meaning.specs.Equations.{Equations, Part, equations_over, IsPolicyLevel}
use Rattle.kn_history.specs.History.{NumberedText, credentials_of}
use Rattle.kn_session.specs.Sessions.{StandingQuery, Session, asker}

abbrev pub part_by : (ℕ → Id) → ℕ → Option Assertion → List Part
part_by name id (Some a) = record { id = name id; assertion = a } ∷ []
part_by name id None = []

-- the assertions of texts, each under the id of its text
abbrev pub parts_of : (ℕ → Id) → List NumberedText → List Part
parts_of name texts = flat_map (λ c. part_by name c.id (assertion_of c.text)) texts

-- the credentials of the version that a session is pinned to, and then its own
abbrev pub session_parts : Session → List Part
session_parts session = parts_of Shared (credentials_of session.pinned) ++ parts_of Private session.privates

abbrev pub asked_of : Session → List (List ℕ) → Asked
asked_of session values = record { attributes = session.attributes; values = values; requesters = session.requesters }

-- what a session asks where these are the values
abbrev pub equations_of : Session → List (List ℕ) → Equations
equations_of session values = equations_over (asked_of session values) (session_parts session)

-- if it is known, this is the value of what a session asks where these are the values, by its index
abbrev pub IsLevelIfKnown : Session → List (List ℕ) → Option ℕ → Type 0
IsLevelIfKnown session values level = IfSome level (IsPolicyLevel (equations_of session values))

-- if it is known, this is the value of a standing query over its version, by its index
abbrev pub IsQueryLevelIfKnown : StandingQuery → Option ℕ → Type 0
IsQueryLevelIfKnown query level = IsLevelIfKnown (asker query) query.values level
