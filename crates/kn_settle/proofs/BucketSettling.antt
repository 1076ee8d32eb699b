-- A level is settled: its bucket is emptied from the front, and what comes to it meanwhile stands behind.
use Rattle.std.proofs.Common.{◌≡◌, ℕ, zero, suc, ◌-◌, ◌<◌, ◌≤◌, Bool, true, false, Option, None, Some, List, [], ◌∷◌}
use Rattle.std.proofs.Common.{length, get_or, slice_get, slice_index, slice_set, sym, ap, ◌∙◌, subst, inl, inr, arith}
use Rattle.std.proofs.lemmas.Bool.{cases_eq, cases_lt, false≢true}
use Rattle.std.proofs.lemmas.List.{get_or_default, get_or-set_same, get_or-set_other, get_or_past}
use Rattle.std.proofs.lemmas.Option.{slice_get_cases}
use Rattle.kn_system.specs.Equations.{SystemEquations, node_total, row_at}
use Rattle.kn_system.specs.Settled.{count_unsettled}
use Rattle.kn_settle.specs.Counters.{AreLonger, IsCounting, IsUsed, bucket_at}
use Rattle.kn_settle.proofs.OneMoreNode.{trues-le}
use Rattle.kn_settle.proofs.MarkedRows.{waits-down}

-- whatever was marked and used, more is marked and used by now
abbrev pub Continues : SystemEquations → ℕ → List ℕ → List ℕ → List (List ℕ) → ℕ → List ℕ → List ℕ → List (List ℕ) → ℕ
    → Type 0
Continues s v levels counts buckets steps levels_now counts_now buckets_now steps_now =
    (start : ℕ) (marks : List Bool) → IsCounting s v levels marks counts buckets → IsUsed s marks levels start steps
    → (after : List Bool) × IsUsed s after levels_now start steps_now
    × IsCounting s v levels_now after counts_now buckets_now

pub unsettled-le : (levels : List ℕ) → count_unsettled levels ≤ length levels
unsettled-le [] = omega arith
unsettled-le (zero ∷ levels) = let rest = unsettled-le levels in omega arith
unsettled-le (suc level ∷ levels) = let rest = unsettled-le levels in omega arith

-- nothing is used from here to here
pub used-here : (s : SystemEquations) (marks : List Bool) (levels : List ℕ) (now : ℕ) → length marks ≡ node_total s.rows
    → length levels ≡ length s.requesters → IsUsed s marks levels now now
used-here s marks levels now m l = record {
  nodes = omega (arith, trues-le marks, m);
  principals = omega (arith, unsettled-le levels, l);
  ticks = λ fits. (omega arith, omega arith);
}

-- what is marked now
pub counting-now : (s : SystemEquations) (v : ℕ) (levels counts : List ℕ) (buckets : List (List ℕ)) (steps : ℕ)
    (levels_now counts_now : List ℕ) (buckets_now : List (List ℕ)) (steps_now : ℕ) → length levels ≡ length s.requesters
    → (marks : List Bool) × IsCounting s v levels marks counts buckets
    → Continues s v levels counts buckets steps levels_now counts_now buckets_now steps_now → (after : List Bool)
    × IsCounting s v levels_now after counts_now buckets_now
counting-now s v levels counts buckets steps levels_now counts_now buckets_now steps_now size (marks, counting) on =
    let (after, used, now) = on steps marks counting (used-here s marks levels steps counting.counted.marks_fit size) in
    (after, now)

-- the authorizers of the first rows of a bucket have their levels
abbrev pub ArePassed : SystemEquations → List ℕ → List ℕ → ℕ → Type 0
ArePassed s levels bucket at = (i r : ℕ) → i < at → slice_get bucket i ≡ Some r
    → 0 < slice_index levels (row_at s.rows r).authorizer

abbrev from-some : Option ℕ → ℕ
from-some None = 0
from-some (Some y) = y

abbrev is-some : Option ℕ → Bool
is-some None = false
is-some (Some x) = true

no-some : (x : ℕ) → Some x ≡ None → ⊥
no-some x e = false≢true (sym (ap is-some e))

-- a longer bucket has the same row there
same-row : (old new : List ℕ) (i r : ℕ) → ((i r : ℕ) → slice_get old i ≡ Some r → slice_get new i ≡ Some r)
    → i < length old → slice_get new i ≡ Some r → slice_get old i ≡ Some r
same-row old new i r longer within e =
    elim (slice_get_cases old i).1 [
      | inl here ↦
          let was : slice_get old i ≡ Some here.0 = here.2 in
          let same : here.0 ≡ r = ap from-some (sym (longer i here.0 was) ∙ e) in
          was ∙ ap (λ x. Some x) same
      | inr past ↦ absurd (omega (arith, past.0, within))
    ]

no-lower : (levels : List ℕ) (p q v : ℕ) → 0 < v → 0 < slice_index levels q → 0 < slice_index (slice_set levels p v) q
no-lower levels p q v some has =
    elim (cases_eq q p) [
      | inl same ↦
          (elim (cases_lt p (length levels)) [
            | inl within ↦ let e : slice_index (slice_set levels p v) q ≡ v =
                ap (slice_index (slice_set levels p v)) same ∙ get_or-set_same levels p v 0 within in
                omega (arith, e, some)
            | inr past ↦ let e : slice_index levels q ≡ 0 = ap (slice_index levels) same
                ∙ get_or_past levels p 0 (omega (arith, past)) in absurd (omega (arith, e, has))
          ])
      | inr differs ↦ let e : slice_index (slice_set levels p v) q ≡ slice_index levels q =
          get_or-set_other levels p q v 0 differs in omega (arith, e, has)
    ]

-- rows that were passed stay so when a row behind them gives its level
pub passed-on : (s : SystemEquations) (v p at : ℕ) (levels next : List ℕ) (buckets after : List (List ℕ)) → 0 < v
    → next ≡ slice_set levels p v → AreLonger buckets after → at ≤ length (bucket_at buckets v)
    → ArePassed s levels (bucket_at buckets v) at → ArePassed s next (bucket_at after v) at
passed-on s v p at levels next buckets after some e longer inside passed = λ i r l got.
    let was : slice_get (bucket_at buckets v) i ≡ Some r =
    same-row (bucket_at buckets v) (bucket_at after v) i r (longer v) (omega (arith, l, inside)) got in
    subst (λ ls. 0 < slice_index ls (row_at s.rows r).authorizer) (sym e)
    (no-lower levels p (row_at s.rows r).authorizer v some (passed i r l was))

-- and the bucket is no shorter
pub still-within : (v at : ℕ) (buckets after : List (List ℕ)) → AreLonger buckets after
    → at < length (bucket_at buckets v) → at ≤ length (bucket_at after v)
still-within v at buckets after longer within =
    elim (slice_get_cases (bucket_at buckets v) at).1 [
      | inl here ↦
          let now : slice_get (bucket_at after v) at ≡ Some here.0 = longer v at here.0 here.2 in
          (elim (slice_get_cases (bucket_at after v) at).1 [
            | inl there ↦ omega (arith, there.1)
            | inr past ↦ absurd (no-some here.0 (sym now ∙ past.1))
          ])
      | inr past ↦ absurd (omega (arith, past.0, within))
    ]

-- all rows of the bucket were passed
pub all-passed : (s : SystemEquations) (levels bucket : List ℕ) (at : ℕ) → at ≡ length bucket
    → ArePassed s levels bucket at → (i r : ℕ) → slice_get bucket i ≡ Some r
    → 0 < slice_index levels (row_at s.rows r).authorizer
all-passed s levels bucket at e passed i r got =
    elim (slice_get_cases bucket i).1 [
      | inl here ↦ passed i r (omega (arith, e, here.1)) got
      | inr past ↦ absurd (no-some r (sym got ∙ past.1))
    ]

-- then the next lower level may begin
pub counting-down : (s : SystemEquations) (v : ℕ) (levels : List ℕ) (marks : List Bool) (counts : List ℕ)
    (buckets : List (List ℕ)) → IsCounting s v levels marks counts buckets
    → ((i r : ℕ) → slice_get (bucket_at buckets v) i ≡ Some r → 0 < slice_index levels (row_at s.rows r).authorizer)
    → IsCounting s (v - 1) levels marks counts buckets
counting-down s v levels marks counts buckets h done =
    record { counted = h.counted; whole = h.whole; waits = waits-down s v levels marks buckets h.waits done }

-- the bucket that was read
pub bucket-read : (buckets : List (List ℕ)) (v : ℕ) (bucket : List ℕ) → v < length buckets
    → bucket ≡ get_or buckets v bucket → bucket ≡ bucket_at buckets v
bucket-read buckets v bucket within e = e ∙ get_or_default buckets v bucket [] within

-- more rows were passed
pub passed-further : (s : SystemEquations) (levels seen bucket : List ℕ) (at next : ℕ) → seen ≡ bucket
    → ArePassed s levels bucket at
    → ((i r : ℕ) → at ≤ i → i < next → slice_get seen i ≡ Some r → 0 < slice_index levels (row_at s.rows r).authorizer)
    → ArePassed s levels bucket next
passed-further s levels seen bucket at next same before more = λ i r l got.
    elim (cases_lt i at) [
      | inl early ↦ before i r early got
      | inr late ↦ more i r (omega (arith, late)) l (ap (λ b. slice_get b i) same ∙ got)
    ]
