-- What the functions of the cutter compute.
use Rattle.std.specs.Prelude.{ℕ, ◌+◌, Bool, false, not, ◌&&◌, ◌||◌, ◌==◌, List, [], ◌∷◌, length, if◌then◌else◌}
use Rattle.kn_base.specs.declared.span.Span.{Span}
use Rattle.kn_lex.specs.Bytes.{is_white}
use Rattle.kn_files.specs.Pieces.{is_assertion}
use Rattle.kn_files.specs.declared.within.Within.{Within}
use Rattle.kn_files.specs.declared.within.Within.TheVariants.{Plain, Comment, Body, Literal}

-- the span of a text that begins there, where it is an assertion
abbrev pub span_if : ℕ → List ℕ → List Span
span_if start text = if is_assertion text then record { start = start; end = start + length text } ∷ [] else []

-- neither white space nor a backslash
abbrev pub is_bare : ℕ → Bool
is_bare byte = not (is_white byte || byte == 92)

-- such a byte and a newline end the line
abbrev pub ends_bare : List ℕ → Bool
ends_bare [] = false
ends_bare (byte ∷ []) = false
ends_bare (byte ∷ next ∷ []) = is_bare byte && next == 10
ends_bare (byte ∷ next ∷ more ∷ bytes) = ends_bare (next ∷ more ∷ bytes)

-- a line's end makes no difference between a comment and what stands outside
abbrev pub settle_comment : Within → Within
settle_comment Plain = Plain
settle_comment Comment = Plain
settle_comment Body = Body
settle_comment (Literal quote) = Literal quote
