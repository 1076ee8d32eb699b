-- Sessions of a connection.
use Rattle.std.specs.Prelude.{ℕ, List, [], ◌∷◌, codes, None}
use Rattle.kn_trees.specs.declared.assertion.Assertion.{Assertion}
use Rattle.kn_session.specs.Sessions.{Session}
use Rattle.kn_examples.specs.Queries.{attribute}
use Rattle.kn_examples.specs.Histories.{numbered_text, update, remove}

-- a session with three assertions of its own, of which the second was retracted, two attributes and two requesters
abbrev pub session : Session
session = record {
  number = 2;
  pinned = update 1 (remove 1 ∷ []) ∷ [];
  privates = numbered_text 1 (codes "ab") ∷ numbered_text 3 (codes "c") ∷ [];
  made = 3;
  attributes = attribute (codes "v") (codes "1") ∷ attribute (codes "w") [] ∷ [];
  requesters = codes "alice" ∷ codes "rsa-hex:1023abcd" ∷ [];
  standing = None;
}

-- a new session of this number
abbrev pub empty : ℕ → Session
empty number = record {
  number = number;
  pinned = [];
  privates = [];
  made = 0;
  attributes = [];
  requesters = [];
  standing = None;
}

-- an assertion of this authorizer that licenses nobody
abbrev pub assertion_by : List ℕ → Assertion
assertion_by authorizer = record {
  authorizer = authorizer;
  constants = [];
  licensees = None;
  conditions = None;
  signature = None;
  signed_to = 0;
}
