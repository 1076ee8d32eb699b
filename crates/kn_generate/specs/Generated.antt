-- The generator (keynoted's own): which credentials and which query a start and a number of credentials give.
use Rattle.std.specs.Prelude.{ℕ, suc, zero, ◌+◌, ◌-◌, ◌*◌, ◌/◌, ◌%◌, List, [], ◌∷◌, ◌++◌, None, codes, decimal}
use Rattle.std.specs.Prelude.{flat_map}
use Rattle.kn_env.specs.Attributes.{Attribute}
use Rattle.kn_history.specs.declared.update.Update.{Update}
use Rattle.kn_history.specs.History.{loaded_history}
use Rattle.kn_session.specs.Sessions.{Session}
use Rattle.kn_meaning.specs.Equations.{Equations}
use Rattle.kn_daemon.specs.Daemon.{equations_of}
use Rattle.kn_generate.specs.declared.draws.Numbers.{Numbers}

-- the state of the draws behind one more draw
abbrev pub next_state : ℕ → ℕ
next_state x = (1103515245 * x + 12345) % 2147483648

-- behind so many draws
abbrev pub state_behind : ℕ → ℕ → ℕ
state_behind zero x = x
state_behind (suc draws) x = state_behind draws (next_state x)

-- what the last of so many draws gives
abbrev pub draw_value : ℕ → ℕ → ℕ
draw_value draws x = state_behind draws x / 65536

-- what six draws give of them to principal i of n, the last of which requests: a later principal, three of all, a
-- number that an attribute has to pass, and a compliance value
abbrev pub numbers_of : ℕ → ℕ → ℕ → Numbers
numbers_of n i x = record {
  later = i + 1 + draw_value 1 x % (n - 1 - i);
  first = draw_value 2 x % n;
  second = draw_value 3 x % n;
  third = draw_value 4 x % n;
  least = draw_value 5 x % 10;
  value = draw_value 6 x % 4;
}

-- the credential of the policy
abbrev pub policy_text : List ℕ
policy_text = codes "Authorizer: \"POLICY\"\nLicensees: \"p0\"\n"

-- the credential of principal i
unfoldable pub credential_text : ℕ → Numbers → List ℕ
credential_text i numbers = flat_map (λ part. part) (
    codes "Authorizer: \"p" ∷ decimal i ∷ codes "\"\nLicensees: \"p" ∷ decimal numbers.later
    ∷ codes "\" || 2-of(\"p" ∷ decimal numbers.first ∷ codes "\",\"p" ∷ decimal numbers.second ∷ codes "\",\"p"
    ∷ decimal numbers.third
    ∷ codes "\")\nConditions: @level > " ∷ decimal numbers.least ∷ codes " -> \"v" ∷ decimal numbers.value
    ∷ codes "\"; true -> \"v1\";\n" ∷ [])

-- the credentials of so many principals from principal i on, where the state of the draws is x
unfoldable pub credential_texts : ℕ → ℕ → ℕ → ℕ → List (List ℕ)
credential_texts n zero i x = []
credential_texts n (suc more) i x = credential_text i (numbers_of n i x)
    ∷ credential_texts n more (i + 1) (state_behind 6 x)

-- all n credentials: the policy's, and one of each principal that doesn't request
abbrev pub generated_texts : ℕ → ℕ → List (List ℕ)
generated_texts start n = policy_text ∷ credential_texts n (n - 1) 0 start

-- the principal that requests
abbrev pub last_principal : ℕ → List ℕ
last_principal n = codes "p" ++ decimal (n - 1)

-- the values of the query, the lowest first
abbrev pub generated_values : List (List ℕ)
generated_values = codes "v0" ∷ codes "v1" ∷ codes "v2" ∷ codes "v3" ∷ []

-- the attributes of the query
abbrev pub generated_attributes : List Attribute
generated_attributes = record { name = codes "level"; value = codes "5" } ∷ []

-- a session over this history in which the last of n principals requests, and the attribute `level` is 5
abbrev pub generated_session : List Update → ℕ → Session
generated_session history n = record {
  number = 1;
  pinned = history;
  privates = [];
  made = 0;
  attributes = generated_attributes;
  requesters = last_principal n ∷ [];
  standing = None;
}

-- what is asked over these credentials
abbrev pub query_over : List Update → ℕ → Equations
query_over history n = equations_of (generated_session history n) generated_values

-- what a start and a number of credentials ask
abbrev pub generated_query : ℕ → ℕ → Equations
generated_query start n = query_over (loaded_history (generated_texts start n)) n
