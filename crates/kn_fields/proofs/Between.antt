-- The tokens from one place up to another, token by token.
use Rattle.std.proofs.Common.{◌≡◌, ℕ, ◌+◌, ◌-◌, ◌<◌, ◌≤◌, Option, Some, None, List, [], ◌∷◌, ◌++◌, length, drop, arith}
use Rattle.std.proofs.Common.{append-nil}
use Rattle.std.specs.Prelude.{slice_get}
use Rattle.std.proofs.lemmas.Option.{gets, slice_get_cases, slice_get_past}
use Rattle.std.proofs.lemmas.List.{take_all, length-drop, length-take-le, drop_all, drop_more}
use Rattle.std.proofs.lemmas.List.Edits.{between_more as between_pushed}
use Rattle.std.proofs.lemmas.List.Folds.{list_any-append}
use Rattle.kn_lex.specs.Cutting.{TokenView}
use Rattle.kn_fields.specs.Fields.{between}

-- these tokens behind the one that may stand at a place
abbrev pub first_then : Option TokenView → List TokenView → List TokenView
first_then None rest = []
first_then (Some token) rest = token ∷ rest

pub drop_here : {X : Type 0} (xs : List X) (i : ℕ) (t : X) → slice_get xs i ≡ Some t → drop i xs ≡ t ∷ drop (i + 1) xs
drop_here xs i t is = grind (arith, gets, drop_more)

pub drop_step : (xs : List TokenView) (i : ℕ) → i < length xs
    → drop i xs ≡ first_then (slice_get xs i) (drop (i + 1) xs)
drop_step xs i below = grind (arith, gets, drop_more)

pub between_step : (xs : List TokenView) (i to : ℕ) → i < to
    → between i to xs ≡ first_then (slice_get xs i) (between (i + 1) to xs)
unfolding between
between_step xs i to below = grind (arith, gets, drop_more, drop_all)

pub between_here : (xs : List TokenView) (i to : ℕ) (t : TokenView) → slice_get xs i ≡ Some t → i < to
    → between i to xs ≡ t ∷ between (i + 1) to xs
between_here xs i to t is below = grind (arith, between_step)

pub between_more : (xs : List TokenView) (from i : ℕ) → from ≤ i
    → between from (i + 1) xs ≡ between from i xs ++ first_then (slice_get xs i) []
unfolding between
between_more xs from i le = grind (arith, gets, slice_get_past, between_pushed, take_all, length-drop, append-nil)

pub between_none : (xs : List TokenView) (i to : ℕ) → to ≤ i → between i to xs ≡ []
unfolding between
between_none xs i to le = grind arith

pub between_whole : (xs : List TokenView) → between 0 (length xs) xs ≡ xs
unfolding between
between_whole xs = grind (arith, take_all)

pub between_length : (xs : List TokenView) (i to : ℕ) → i ≤ to → to ≤ length xs → length (between i to xs) ≡ to - i
unfolding between
between_length xs i to le fits = grind (arith, length-take-le, length-drop)

-- three tokens stand here, and others behind them
pub record HasThree (xs : List TokenView) (i to : ℕ) : Type 0 where
  pub name : TokenView
  pub equals : TokenView
  pub value : TokenView
  pub name_there : slice_get xs i ≡ Some name
  pub value_there : slice_get xs (i + 2) ≡ Some value
  pub all : between i to xs ≡ name ∷ equals ∷ value ∷ between (i + 3) to xs

pub three_here : (xs : List TokenView) (i to : ℕ) → i + 2 < to → to ≤ length xs → HasThree xs i to
three_here xs i to below within =
    grind (arith, between_step, slice_get_cases xs i, slice_get_cases xs (i + 1), slice_get_cases xs (i + 2))

-- a step of a loop up to the next label
pub ruleset stretch_steps = (drop_step, between_more, between_none, list_any-append, gets)

-- a step of a loop over them
pub ruleset steps = (between_step, between_more, between_none, between_whole, gets)
