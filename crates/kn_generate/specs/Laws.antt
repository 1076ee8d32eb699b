-- Laws of the generator.
use Rattle.std.specs.Prelude.{ℕ, ◌≤◌}
use Rattle.kn_base.specs.declared.limits.TheConstants.{GENERATED_CREDENTIALS}
use Rattle.kn_history.specs.Loading.{IsLoadable}
use Rattle.kn_generate.specs.Generated.{generated_texts}

-- each generated text reads, and together they are within the limits of the shared credentials
abbrev pub GeneratedTextsLoad : Type 0
GeneratedTextsLoad = (start n : ℕ) → n ≤ GENERATED_CREDENTIALS → IsLoadable (generated_texts start n)
