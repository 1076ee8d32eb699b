-- What the text of a Conditions field means, from its bytes on.
use Rattle.std.specs.Prelude.{ℕ, ◌+◌, ◌*◌, List, length, Option, option_and_then, option_map}
use Rattle.std.specs.Result.{result_ok}
use Rattle.kn_env.specs.Environment.{Environment}
use Rattle.kn_lex.specs.Computed.{tokens_or_fault}
use Rattle.kn_fields.specs.Words.{Word, words_of}
use Rattle.kn_fields.specs.Reading.{whole}
use Rattle.kn_trees.specs.declared.program.Expr.{Expr}
use Rattle.kn_trees.specs.declared.program.Program.{Program}
use Rattle.kn_trees.specs.declared.kinds.Kind.{Kind}
use Rattle.kn_trees.specs.ExprKinds.{kind_of}
use Rattle.kn_program.specs.Reading.{tests_at, read_program}
use Rattle.kn_program.specs.declared.signs.Joint.TheVariants.{Or}
use Rattle.kn_cond.specs.Meaning.{Meaning, meaning_of}
use Rattle.kn_cond.specs.Programs.{program_value}

-- the words of a text, where it has tokens
abbrev pub words_in : List ℕ → Option (List Word)
words_in text = option_map words_of (result_ok (tokens_or_fault text))

-- the expression that these words spell, if they do
abbrev pub read_expression : List Word → Option Expr
read_expression words = whole (tests_at (12 * length words + 1) Or words)

abbrev pub expression_in : List ℕ → Option Expr
expression_in text = option_and_then read_expression (words_in text)

-- its kind; none where it has none, or the text spells none
abbrev pub kind_in : List ℕ → Option Kind
kind_in text = option_and_then kind_of (expression_in text)

abbrev pub program_in : List ℕ → Option Program
program_in text = option_and_then read_program (words_in text)

-- what the expression of a text means; none where the text spells none
abbrev pub meaning_in : Environment → List ℕ → Option Meaning
meaning_in e text = option_map (meaning_of e) (expression_in text)

-- the index of the compliance value of a text's program; none where the text spells none
abbrev pub value_in : Environment → List ℕ → Option ℕ
value_in e text = option_map (program_value e) (program_in text)
