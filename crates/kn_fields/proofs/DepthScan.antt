-- The scan tells whether the tokens go too deep.
use Rattle.std.proofs.Common.{◌≡◌, ℕ, ◌<◌, ◌⊎◌, inl, inr, true, false, Bool, ◌||◌, ◌+◌, ◌-◌, ◌≤◌, Some, sym, List, []}
use Rattle.std.proofs.Common.{◌∷◌, ◌++◌, fold, get_or, length, arith, refl}
use Rattle.std.specs.Prelude.{◌&&◌, ◌==◌, slice_get}
use Rattle.std.specs.Str.{bytes_eq}
use Rattle.std.proofs.lemmas.Bool.{cases_Bool}
use Rattle.std.proofs.lemmas.Bool.Decides.{nat_tests}
use Rattle.kn_lex.specs.Cutting.{TokenView}
use Rattle.kn_fields.specs.Depth.{is_sign, depth_behind, run_behind, IsTooDeep}
use Rattle.kn_fields.specs.Fields.{between}
use Rattle.kn_fields.specs.Scanning.{is_past, goes_deep}
use Rattle.kn_fields.proofs.Between.{steps, between_here, between_length}

-- texts of one byte
pub one_byte : (text : List ℕ) (byte : ℕ) → bytes_eq text (byte ∷ []) ≡ (length text == 1 && get_or text 0 0 == byte)
one_byte [] byte = refl
one_byte (c ∷ []) byte = grind arith
one_byte (c ∷ d ∷ ds) byte = grind (arith, nat_tests)

-- behind some of the tokens it is too deep, where so many brackets and signs stand before them
record DeepFrom (depth run : ℕ) (tokens : List TokenView) : Type 0 where
  front : List TokenView
  rest : List TokenView
  split : tokens ≡ front ++ rest
  deep : (64 < fold depth_behind depth front) ⊎ (8 < fold run_behind run front)

deep_from : (depth run : ℕ) (tokens : List TokenView) → (is_past depth run || goes_deep depth run tokens) ≡ true
    → DeepFrom depth run tokens
unfolding goes_deep
deep_from depth run [] h = record { front = []; rest = []; split = refl; deep = grind (arith, nat_tests) }
deep_from depth run (t ∷ ts) h = elim (cases_Bool (is_past depth run)) [
  | inl here ↦ record { front = []; rest = t ∷ ts; split = refl; deep = grind (arith, nat_tests) }
  | inr here ↦
      let d = deep_from (depth_behind depth t) (run_behind run t) ts (grind arith) in
      record { front = t ∷ d.front; rest = d.rest; split = cc; deep = d.deep }
]

not_from : (depth run : ℕ) (tokens front rest : List TokenView)
    → (is_past depth run || goes_deep depth run tokens) ≡ false
    → tokens ≡ front ++ rest
    → (64 < fold depth_behind depth front) ⊎ (8 < fold run_behind run front) → ⊥
unfolding goes_deep
not_from depth run tokens [] rest h e d = grind (arith, nat_tests)
not_from depth run [] (x ∷ front) rest h e d = cc
not_from depth run (t ∷ ts) (x ∷ front) rest h e d =
    grind (arith, not_from (depth_behind depth t) (run_behind run t) ts front rest)

pub deep_shown : (tokens : List TokenView) → true ≡ goes_deep 0 0 tokens → IsTooDeep tokens
deep_shown tokens h = let d = deep_from 0 0 tokens (cc) in
    record { front = d.front; rest = d.rest; split = d.split; deep = d.deep }

pub not_deep_shown : (tokens : List TokenView) → false ≡ goes_deep 0 0 tokens → IsTooDeep tokens → ⊥
not_deep_shown tokens h d = not_from 0 0 tokens d.front d.rest (cc) d.split d.deep

-- few tokens open few brackets, and few signs stand in a row among them

few_from : (depth run : ℕ) (tokens : List TokenView) → depth + length tokens ≤ 64 → run + length tokens ≤ 8
    → goes_deep depth run tokens ≡ false
unfolding goes_deep depth_behind run_behind
few_from depth run [] brackets signs = refl
few_from depth run (t ∷ ts) brackets signs =
    grind (arith, nat_tests, few_from (depth_behind depth t) (run_behind run t) ts)

pub few_tokens : (xs : List TokenView) (from to : ℕ) → from ≤ to → to ≤ length xs → to - from ≤ 8
    → goes_deep 0 0 (between from to xs) ≡ false
few_tokens xs from to le within few =
    grind (arith, between_length xs from to le within, few_from 0 0 (between from to xs))

-- token by token

deep_step : (xs : List TokenView) (i to : ℕ) (t : TokenView) (depth run more_depth more_run : ℕ) (all : Bool)
    → all ≡ goes_deep depth run (between i to xs) → Some t ≡ slice_get xs i → i < to
    → more_depth ≡ depth_behind depth t → more_run ≡ run_behind run t → is_past more_depth more_run ≡ false
    → all ≡ goes_deep more_depth more_run (between (i + 1) to xs)
unfolding goes_deep
deep_step xs i to t depth run more_depth more_run all e is below d r past =
    grind (arith, between_here xs i to t (sym is) below)

no_sign : (t : TokenView) (depth run : ℕ) → ((byte : ℕ) → is_sign (byte ∷ []) t ≡ false)
    → (depth_behind depth t ≡ depth)
    × (run_behind run t ≡ 0)
unfolding depth_behind run_behind
no_sign t depth run none = rw (none 40, none 123, none 41, none 125, none 33, none 45, none 64, none 36) (refl, refl)

-- a token that is no sign of one byte opens and closes nothing
pub quiet_step : (xs : List TokenView) (i to : ℕ) (t : TokenView) (depth run : ℕ) (all : Bool)
    → all ≡ goes_deep depth run (between i to xs) → Some t ≡ slice_get xs i → i < to
    → ((byte : ℕ) → is_sign (byte ∷ []) t ≡ false) → depth ≤ 64 → all ≡ goes_deep depth 0 (between (i + 1) to xs)
quiet_step xs i to t depth run all e is below none few =
    let still = no_sign t depth run none in
    deep_step xs i to t depth run depth 0 all e is below (sym still.0) (sym still.1) (grind (arith, nat_tests))

pub ruleset deep_steps = (steps, few_tokens)
