-- What is seen of a text of an evaluation.
use Rattle.std.specs.Prelude.{ℕ, List}
use Rattle.kn_cond.specs.declared.texts.Kept.{Kept}
use Rattle.kn_cond.specs.declared.texts.Kept.TheVariants.{Lent, Owned}

abbrev pub kept_bytes : Kept → List ℕ
kept_bytes (Lent bytes) = bytes.now
kept_bytes (Owned bytes) = bytes
