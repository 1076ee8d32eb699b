-- What a daemon is started with, as a call is handed it (keynoted's own).
use Rattle.std.specs.Prelude.{ℕ, List}
use Rattle.kn_trees.specs.declared.assertion.Assertion.{Assertion}
use Rattle.kn_daemon.specs.Daemon.{DaemonConfig}
use Rattle.kn_serve.specs.declared.config.ServeConfig.{ServeConfig}

-- an authenticator, by what it says of a text, and the administrators' secret
abbrev pub config_by : {A : Type 0} → (A → List ℕ → Assertion → ℕ) → A → List ℕ → DaemonConfig
config_by verdict authenticator secret = record { secret = secret; verdict = verdict authenticator }

-- those of a configuration
abbrev pub config_of : {A G : Type 0} → (A → List ℕ → Assertion → ℕ) → ServeConfig A G → DaemonConfig
config_of verdict config = config_by verdict config.authenticator.now config.secret.now
