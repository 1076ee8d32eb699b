-- What the words of a derivation open and how many prefix signs stand in a row there, at each place.
use Rattle.std.proofs.Common.{◌≡◌, ℕ, ◌+◌, ◌-◌, ◌≤◌, true, false, ◌||◌, if◌then◌else◌, List, [], ◌∷◌, ◌++◌, codes, refl}
use Rattle.std.proofs.Common.{arith}
use Rattle.std.specs.Str.{bytes_eq}
use Rattle.std.proofs.lemmas.Bool.Decides.{nat_tests}
use Rattle.kn_lex.specs.Cutting.{TokenView}
use Rattle.kn_fields.specs.Depth.{depth_behind, run_behind, IsTooDeep}
use Rattle.kn_fields.specs.Scanning.{is_past, goes_deep}
use Rattle.kn_fields.specs.Words.{Word, word_of, words_of}
use Rattle.kn_fields.specs.Words.Word.{sign as sign_word}
use Rattle.kn_fields.proofs.DepthScan.{deep_shown}

-- the brackets that are open behind a word
abbrev sign_depth : ℕ → List ℕ → ℕ
sign_depth depth text =
    if bytes_eq text (codes "(") || bytes_eq text (codes "{") then depth + 1
    else if bytes_eq text (codes ")") || bytes_eq text (codes "}") then depth - 1
    else depth

abbrev pub word_depth : ℕ → Word → ℕ
word_depth depth (sign_word text) = sign_depth depth text
word_depth depth word = depth

-- the prefix signs that stand in a row up to a word
abbrev sign_run : ℕ → List ℕ → ℕ
sign_run run text = if bytes_eq text (codes "!") || bytes_eq text (codes "-") || bytes_eq text (codes "@")
    || bytes_eq text (codes "$") then run + 1 else 0

abbrev pub word_run : ℕ → Word → ℕ
word_run run (sign_word text) = sign_run run text
word_run run word = 0

depth_of : (depth : ℕ) (token : TokenView) → depth_behind depth token ≡ word_depth depth (word_of token)
unfolding depth_behind
depth_of depth token = grind arith

run_of : (run : ℕ) (token : TokenView) → run_behind run token ≡ word_run run (word_of token)
unfolding run_behind
run_of run token = grind arith

-- at each place at most 64 brackets are open and at most 8 prefix signs stand in a row
unfoldable pub Fits : ℕ → ℕ → List Word → Type 0
Fits depth run [] = (depth ≤ 64) × (run ≤ 8)
Fits depth run (word ∷ words) = (depth ≤ 64) × (run ≤ 8) × Fits (word_depth depth word) (word_run run word) words

fits_tokens : (depth run : ℕ) (tokens : List TokenView) → (is_past depth run || goes_deep depth run tokens) ≡ false
    → Fits depth run (words_of tokens)
unfolding Fits words_of goes_deep
fits_tokens depth run [] shallow = grind (arith, nat_tests)
fits_tokens depth run (token ∷ tokens) shallow =
    grind (arith, nat_tests, depth_of, run_of, fits_tokens (depth_behind depth token) (run_behind run token) tokens)

pub shallow_fits : (tokens : List TokenView) → (IsTooDeep tokens → ⊥) → Fits 0 0 (words_of tokens)
shallow_fits tokens shallow =
    fits_tokens 0 0 tokens (grind (arith, λ (deep : true ≡ goes_deep 0 0 tokens). shallow (deep_shown tokens deep)))

pub fits_here : (depth run : ℕ) (words : List Word) → Fits depth run words → (depth ≤ 64) × (run ≤ 8)
unfolding Fits
fits_here depth run [] fits = fits
fits_here depth run (word ∷ words) fits = (fits.0, fits.1)

pub fits_front : (depth run : ℕ) (front rest : List Word) → Fits depth run (front ++ rest) → Fits depth run front
unfolding Fits
fits_front depth run [] rest fits = fits_here depth run rest fits
fits_front depth run (word ∷ front) rest fits =
    (fits.0, fits.1, fits_front (word_depth depth word) (word_run run word) front rest fits.2)

-- a shorter run before the words gives no longer one
run_low : (run less : ℕ) (word : Word) → less ≤ run → word_run less word ≤ word_run run word
run_low run less word low = grind arith

fits_low : (depth run less : ℕ) (words : List Word) → less ≤ run → Fits depth run words → Fits depth less words
unfolding Fits
fits_low depth run less [] low fits = omega (arith, fits)
fits_low depth run less (word ∷ words) low fits = (
  fits.0,
  omega (arith, fits.1),
  fits_low (word_depth depth word) (word_run run word) (word_run less word) words (run_low run less word low)
      fits.2,
)

-- the brackets that are open behind all the words
unfoldable pub after : ℕ → List Word → ℕ
after depth [] = depth
after depth (word ∷ words) = after (word_depth depth word) words

fits_rest : (depth run : ℕ) (front rest : List Word) → Fits depth run (front ++ rest) → Fits (after depth front) 0 rest
unfolding Fits after
fits_rest depth run [] rest fits = fits_low depth run 0 rest (omega arith) fits
fits_rest depth run (word ∷ front) rest fits = fits_rest (word_depth depth word) (word_run run word) front rest fits.2

after_append : (depth : ℕ) (front rest : List Word) → after depth (front ++ rest) ≡ after (after depth front) rest
unfolding after
after_append depth [] rest = refl
after_append depth (word ∷ front) rest = after_append (word_depth depth word) front rest

-- these words close the brackets that they open
abbrev pub Closes : List Word → Type 0
Closes words = (depth : ℕ) → after depth words ≡ depth

-- a word that is no bracket
abbrev pub IsPlain : Word → Type 0
IsPlain word = (depth : ℕ) → word_depth depth word ≡ depth

-- what stands behind a part with its brackets closed
pub fits_between : (depth run : ℕ) (front rest : List Word) (word : Word) → Closes front → IsPlain word
    → Fits depth run (front ++ word ∷ rest) → Fits depth 0 rest
unfolding Fits
fits_between depth run front rest word closes plain fits =
    let behind = (fits_rest depth run front (word ∷ rest) fits).2 in
    rw (closes depth, plain depth) at (fits_low _ (word_run 0 word) 0 rest (omega arith) behind)

pub closes_between : (front rest : List Word) (word : Word) → Closes front → IsPlain word → Closes rest
    → Closes (front ++ word ∷ rest)
unfolding after
closes_between front rest word first plain second depth =
    cc (after_append depth front (word ∷ rest), first depth, plain depth, second depth)

pub closes_group : (depth : ℕ) (inner : List Word) (word : Word) → Closes inner → word_depth (depth + 1) word ≡ depth
    → after (depth + 1) (inner ++ word ∷ []) ≡ depth
unfolding after
closes_group depth inner word closes closing = cc (after_append (depth + 1) inner (word ∷ []), closes (depth + 1))

-- in brackets one more is open
pub fits_group : (depth run : ℕ) (inner : List Word)
    → Fits depth run (sign_word (codes "(") ∷ inner ++ sign_word (codes ")") ∷ []) → Fits (depth + 1) 0 inner
unfolding Fits
fits_group depth run inner fits = fits_front (depth + 1) 0 inner (sign_word (codes ")") ∷ []) fits.2

pub fits_block : (depth run : ℕ) (inner : List Word)
    → Fits depth run (sign_word (codes "{") ∷ (inner ++ sign_word (codes "}") ∷ [])) → Fits (depth + 1) 0 inner
unfolding Fits
fits_block depth run inner fits = fits_front (depth + 1) 0 inner (sign_word (codes "}") ∷ []) fits.2
