-- What stands between the tokens of a text.
use Rattle.std.specs.Prelude.{◌≡◌, ◌⊎◌, ℕ, Bool, true, ◌==◌, List, [], ◌∷◌, ◌++◌, drop}
use Rattle.kn_lex.specs.Spelling.{is_white_space, is_comment}
use Rattle.kn_lex.specs.Cutting.{TokenView}

-- a line ends here, or the text
abbrev pub is_line_end : List ℕ → Bool
is_line_end [] = true
is_line_end (byte ∷ bytes) = byte == 10

-- the bytes are white space, or a comment that goes on to the end of its line; this follows them
abbrev pub IsBlankPart : List ℕ → List ℕ → Type 0
IsBlankPart bytes next = (is_white_space bytes ≡ true) ⊎ ((is_comment bytes ≡ true) × (is_line_end next ≡ true))

-- behind these parts, white space and comments, the rest is left of the text
abbrev pub Skips : List ℕ → List (List ℕ) → List ℕ → Type 0
Skips text [] rest = text ≡ rest
Skips text (part ∷ parts) rest = (next : List ℕ) × (text ≡ part ++ next) × IsBlankPart part next × Skips next parts rest

-- white space and comments alone stand before the rest of the text
pub record IsGap (text rest : List ℕ) : Type 0 where
  pub parts : List (List ℕ)
  pub skips : Skips text parts rest

-- from this place on white space and comments alone stand before each token and behind the last
abbrev pub StandApart : List ℕ → ℕ → List TokenView → Type 0
StandApart text from [] = IsGap (drop from text) []
StandApart text from (token ∷ tokens) = IsGap (drop from text) (drop token.span.start text)
    × StandApart text token.span.end tokens
