-- Going too deep is told by stretches of the tokens.
use Rattle.std.proofs.Common.{◌≡◌, ℕ, ◌+◌, ◌≤◌, ◌⊎◌, inl, inr, true, false, List, [], ◌∷◌, ◌++◌, fold, length, arith}
use Rattle.std.proofs.Common.{refl, append-nil, append_assoc, length-append}
use Rattle.std.specs.Prelude.{All}
use Rattle.std.specs.List.{filter}
use Rattle.std.proofs.lemmas.Bool.{cases_Bool}
use Rattle.std.proofs.lemmas.Slice.Eq.{bytes_eq-Decides}
use Rattle.std.proofs.lemmas.List.Elements.{filter-append, All-nil, All-cons, All-head, All-tail, All-append}
use Rattle.std.proofs.lemmas.List.Sums.{fold-append}
use Rattle.kn_lex.specs.Cutting.{TokenView}
use Rattle.kn_fields.specs.Depth.{is_opening, is_closing, is_prefix, depth_behind, run_behind, IsTooDeep}
use Rattle.kn_fields.specs.Depth.{HasOpenBrackets, HasPrefixRun}

abbrev opens : List TokenView → ℕ
opens tokens = length (filter is_opening tokens)

abbrev closes : List TokenView → ℕ
closes tokens = length (filter is_closing tokens)

abbrev AreSigns : List TokenView → Type 0
AreSigns run = All (λ token. is_prefix token ≡ true) run

-- the tokens end in a stretch that is so
record EndsIn (IsSo : List TokenView → Type 0) (tokens : List TokenView) : Type 0 where
  before : List TokenView
  stretch : List TokenView
  split : tokens ≡ before ++ stretch
  so : IsSo stretch

-- so they do behind more tokens
ends_behind : (IsSo : List TokenView → Type 0) (more tokens : List TokenView) → EndsIn IsSo tokens
    → EndsIn IsSo (more ++ tokens)
ends_behind IsSo more tokens e =
    record {
      before = more ++ e.before;
      stretch = e.stretch;
      split = cc (append_assoc more e.before e.stretch);
      so =
          e.so;
    }

abbrev IsRun : ℕ → List TokenView → Type 0
IsRun count run = (length run ≡ count) × AreSigns run

run_kept : (given front : List TokenView) (n : ℕ) → IsRun n given
    → EndsIn (IsRun (fold run_behind n front)) (given ++ front)
unfolding run_behind
run_kept given [] n is = record { before = []; stretch = given; split = append-nil given; so = is }
run_kept given (t ∷ ts) n is = elim (cases_Bool (is_prefix t)) [
  | inl sign ↦
      let longer = All-append (λ token. is_prefix token ≡ true) given (t ∷ []) is.1
      (All-cons (λ token. is_prefix token ≡ true) t [] sign (All-nil (λ token. is_prefix token ≡ true))) in
      rw sign (rw (append_assoc given (t ∷ []) ts) at
      (run_kept (given ++ t ∷ []) ts (n + 1) (grind (arith, length-append), longer)))
  | inr other ↦
      rw other (rw (append_assoc given (t ∷ []) ts) at
      (ends_behind _ (given ++ t ∷ []) ts (run_kept [] ts 0 (refl, All-nil (λ token. is_prefix token ≡ true)))))
]

run_counted : (run : List TokenView) (n : ℕ) → AreSigns run → fold run_behind n run ≡ n + length run
unfolding run_behind
run_counted [] n all = omega arith
run_counted (t ∷ ts) n all =
    let here = All-head (λ token. is_prefix token ≡ true) t ts all in
    grind (arith, here, run_counted ts (n + 1) (All-tail (λ token. is_prefix token ≡ true) t ts all))

-- no token both opens and closes
opening_only : (t : TokenView) → is_opening t ≡ true → is_closing t ≡ false
opening_only t e = grind (arith, bytes_eq-Decides)

-- so many brackets are open behind the token, whatever it is
depth_counted : (given : List TokenView) (t : TokenView) (n : ℕ) → opens given ≡ closes given + n
    → (opens (given ++ t ∷ []) ≡ closes (given ++ t ∷ []) + depth_behind n t) ⊎ (depth_behind n t ≡ 0)
unfolding depth_behind
depth_counted given t n count = grind (arith, filter-append, length-append, opening_only)

abbrev IsOpen : ℕ → List TokenView → Type 0
IsOpen count stretch = opens stretch ≡ closes stretch + count

open_kept : (given front : List TokenView) (n : ℕ) → IsOpen n given
    → EndsIn (IsOpen (fold depth_behind n front)) (given ++ front)
open_kept given [] n count = record { before = []; stretch = given; split = append-nil given; so = count }
open_kept given (t ∷ ts) n count = elim (depth_counted given t n count) [
  | inl more ↦ rw (append_assoc given (t ∷ []) ts) at (open_kept (given ++ t ∷ []) ts (depth_behind n t) more)
  | inr none ↦ rw (append_assoc given (t ∷ []) ts) at
      (ends_behind _ (given ++ t ∷ []) ts (open_kept [] ts (depth_behind n t) (cc)))
]

open_counted : (stretch : List TokenView) (n : ℕ) → n + opens stretch ≤ fold depth_behind n stretch + closes stretch
unfolding depth_behind
open_counted [] n = omega arith
open_counted (t ∷ ts) n = grind (arith, open_counted ts (depth_behind n t))

pub deep_has_stretch : (tokens : List TokenView) → IsTooDeep tokens → HasOpenBrackets tokens ⊎ HasPrefixRun tokens
deep_has_stretch tokens d = elim d.deep [
  | inl deep ↦
      let r = open_kept [] d.front 0 refl in
      inl (record {
        before = r.before;
        stretch = r.stretch;
        behind = d.rest;
        split = grind arith;
        unclosed =
            omega (arith, deep, r.so);
      })
  | inr long ↦
      let r = run_kept [] d.front 0 (refl, All-nil (λ token. is_prefix token ≡ true)) in
      inr (record {
        before = r.before;
        run = r.stretch;
        behind = d.rest;
        split = grind arith;
        long =
            omega (arith, long, r.so.0);
        signs = r.so.1;
      })
]

pub stretch_is_deep : (tokens : List TokenView) → HasOpenBrackets tokens ⊎ HasPrefixRun tokens → IsTooDeep tokens
stretch_is_deep tokens (inl h) = record {
  front = h.before ++ h.stretch;
  rest = h.behind;
  split = h.split;
  deep = inl (omega (
    arith,
    h.unclosed,
    fold-append depth_behind 0 h.before h.stretch,
    open_counted h.stretch (fold depth_behind 0 h.before),
  ));
}
stretch_is_deep tokens (inr h) = record {
  front = h.before ++ h.run;
  rest = h.behind;
  split = h.split;
  deep = inr (omega (
    arith,
    h.long,
    fold-append run_behind 0 h.before h.run,
    run_counted h.run (fold run_behind 0 h.before) h.signs,
  ));
}
