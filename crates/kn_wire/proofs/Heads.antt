-- Lines that name a block.
use Rattle.std.proofs.Common.{◌≡◌, ◌≢◌, ℕ, inl, inr, Option, Some, None, option_map, option_and_then, List, ◌∷◌, ◌++◌}
use Rattle.std.proofs.Common.{refl, sym, ap, ◌∙◌, codes}
use Rattle.std.specs.List.{before_first}
use Rattle.kn_base.specs.Decimal.{decimal_of}
use Rattle.kn_wire.specs.Lines.{blocked_of}
use Rattle.kn_wire.specs.Requests.{Request, Add, Assert, Batch, Line, WithBlock, behind_space, is_space, line_of}
use Rattle.kn_wire.specs.Requests.{number_and_rest, or_malformed, size_line, with_number}
use Rattle.kn_wire.proofs.LineFits.{NamesNone, whole-line}
use Rattle.kn_wire.proofs.Splits.{split_line}

-- A line that begins with the command of a block.

-- such a command names a block, or none where what follows it is malformed
abbrev AllBlocked : Option Line → Type 0
AllBlocked o = o ≡ blocked_of (or_malformed o)

blocked-map : {A : Type 0} (o : Option A) (n : A → ℕ) (request : A → List ℕ → Request)
    → AllBlocked (option_map (λ a. WithBlock (n a) (request a)) o)
blocked-map None n request = refl
blocked-map (Some a) n request = refl

blocked-and_then : {A : Type 0} (o : Option A) (f : A → Option Line) → ((a : A) → AllBlocked (f a))
    → AllBlocked (option_and_then f o)
blocked-and_then None f each = refl
blocked-and_then (Some a) f each = each a

sized_blocked : (request : List ℕ → Request) (text : List ℕ) → AllBlocked (size_line request text)
sized_blocked request text = blocked-map (decimal_of text) (λ n. n) (λ n. request)

assert_blocked : (text : List ℕ) → AllBlocked (with_number (λ s. size_line (Assert s)) text)
assert_blocked text = blocked-and_then (number_and_rest text) _ (λ parts. sized_blocked (Assert parts.0) parts.1)

-- what follows the command is what the line names
pub names_add : (line text : List ℕ) → line ≡ codes "ADD " ++ text → size_line Add text ≡ blocked_of (line_of line)
names_add line text is = sized_blocked Add text ∙ ap (λ l. blocked_of (line_of l)) (sym is)

pub names_assert : (line text : List ℕ) → line ≡ codes "ASSERT " ++ text
    → with_number (λ s. size_line (Assert s)) text ≡ blocked_of (line_of line)
names_assert line text is = assert_blocked text ∙ ap (λ l. blocked_of (line_of l)) (sym is)

pub names_batch : (line text : List ℕ) → line ≡ codes "BATCH " ++ text
    → size_line Batch text ≡ blocked_of (line_of line)
names_batch line text is = sized_blocked Batch text ∙ ap (λ l. blocked_of (line_of l)) (sym is)

-- A line that doesn't.

-- the line doesn't begin with this word and a space
abbrev IsNoCommand : List ℕ → List ℕ → Type 0
IsNoCommand word line = (rest : List ℕ) → line ≢ word ++ 32 ∷ rest

pub names_none : (line : List ℕ) → IsNoCommand (codes "ADD") line → IsNoCommand (codes "ASSERT") line
    → IsNoCommand (codes "BATCH") line → None ≡ blocked_of (line_of line)
names_none line no_add no_assert no_batch = whole-line line (by (behind_space line) refl)
  where
    by : (rest : Option (List ℕ)) → behind_space line ≡ rest → NamesNone (before_first is_space line) rest
    by None behind = inl refl
    by (Some rest) behind =
        let whole = split_line line rest behind in
        inr (
          (λ is. no_add rest (whole ∙ ap (λ (w : List ℕ). w ++ 32 ∷ rest) is)),
          (λ is. no_assert rest (whole ∙ ap (λ (w : List ℕ). w ++ 32 ∷ rest) is)),
          (λ is. no_batch rest (whole ∙ ap (λ (w : List ℕ). w ++ 32 ∷ rest) is)),
        )
