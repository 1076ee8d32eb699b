-- One of the files of `check` (keynoted's own).
use Rattle.std.specs.Prelude.{ℕ, List}
use Rattle.kn_words.specs.declared.files.Source.{Source}
use Rattle.kn_words.specs.declared.files.Source.TheVariants.{Policy, Script as TheScript, Reply}
use Rattle.kn_words.specs.Names.{CheckNames}

-- the name of a file
abbrev pub name_of : CheckNames → Source → List ℕ
name_of names Policy = names.policy
name_of names TheScript = names.script
name_of names Reply = names.reply
