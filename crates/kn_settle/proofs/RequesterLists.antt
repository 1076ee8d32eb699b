-- The list of a system's requesters, made of its flags; and a system with its own requesters and ceilings is itself.
use Rattle.std.proofs.Common.{◌≡◌, ◌≢◌, ℕ, suc, ◌+◌, ◌<◌, ◌≤◌, true, false, cond, nat_lt, List, [], ◌∷◌, ◌++◌}
use Rattle.std.proofs.Common.{All, length, map, slice_index, slice_index_or, refl, sym, ap, ◌∙◌, subst, inl, inr, arith}
use Rattle.std.proofs.lemmas.Bool.{cases_eq, cases_lt}
use Rattle.std.proofs.lemmas.Bool.Decides.{nat_tests}
use Rattle.std.proofs.lemmas.List.{ext_get_or, get_or-map}
use Rattle.std.proofs.lemmas.List.Elements.{All-nil, All-cons, All-head, All-tail, All-push}
use Rattle.kn_system.specs.Equations.{SystemEquations, IsSystemRow, row_at}
use Rattle.kn_system.specs.Rows.{SystemRow}
use Rattle.kn_settle.specs.QuerySystem.{query_system, capped_from, flags_from, is_among, IsOther}
use Rattle.kn_settle.proofs.QuerySystems.{flag-at, length-flags}
use Rattle.kn_settle.proofs.FirstLevels.{among-before, among-last}

-- of the principals before n, these are the requesters
pub record AreRequestersBelow (s : SystemEquations) (n : ℕ) (numbers : List ℕ) : Type 0 where
  pub others : All (IsOther (length s.requesters)) numbers
  pub flag : (p : ℕ) → p < length s.requesters
      → is_among p numbers ≡ cond (nat_lt p n) (slice_index_or s.requesters p false) false

-- whether another principal is among the first doesn't change
later : (p n : ℕ) → p ≢ n → nat_lt p n ≡ nat_lt p (n + 1)
later p n differs =
    elim (cases_lt p n) [
      | inl before ↦ let was : nat_lt p n ≡ true = grind (arith, nat_tests) in let is : nat_lt p (n + 1) ≡ true =
          grind (arith, nat_tests) in was ∙ sym is
      | inr not_before ↦
          let was : nat_lt p n ≡ false = grind (arith, nat_tests) in
          let past : n + 1 ≤ p = omega (arith, not_before, differs) in
          let is : nat_lt p (n + 1) ≡ false = grind (arith, nat_tests) in
          was ∙ sym is
    ]

-- one more principal that is a requester
pub requesters-more : (s : SystemEquations) (n : ℕ) (numbers next : List ℕ) → 1 ≤ n → n < length s.requesters
    → true ≡ slice_index_or s.requesters n false → next ≡ numbers ++ n ∷ [] → AreRequestersBelow s n numbers
    → AreRequestersBelow s (n + 1) next
requesters-more s n numbers next some within yes_now e h = subst (AreRequestersBelow s (n + 1)) (sym e) (record {
  others = All-push (IsOther (length s.requesters)) numbers n h.others (some, within);
  flag = λ p l.
      elim (cases_eq p n) [
        | inl same ↦
            let now : nat_lt p (n + 1) ≡ true = grind (arith, nat_tests) in
            among-last numbers p n same ∙ yes_now ∙ ap (λ q. slice_index_or s.requesters q false) (sym same)
            ∙ sym (ap (λ b. cond b (slice_index_or s.requesters p false) false) now)
        | inr differs ↦ among-before numbers p n differs ∙ h.flag p l
            ∙ ap (λ b. cond b (slice_index_or s.requesters p false) false) (later p n differs)
      ];
})

-- and one that isn't
pub requesters-other : (s : SystemEquations) (n : ℕ) (numbers : List ℕ) → false ≡ slice_index_or s.requesters n false
    → AreRequestersBelow s n numbers → AreRequestersBelow s (n + 1) numbers
requesters-other s n numbers stranger h = record {
  others = h.others;
  flag = λ p l.
      elim (cases_eq p n) [
        | inl same ↦
            let was : nat_lt p n ≡ false = grind (arith, nat_tests) in
            let now : nat_lt p (n + 1) ≡ true = grind (arith, nat_tests) in
            h.flag p l ∙ ap (λ b. cond b (slice_index_or s.requesters p false) false) was ∙ stranger
            ∙ ap (λ q. slice_index_or s.requesters q false) (sym same)
            ∙ sym (ap (λ b. cond b (slice_index_or s.requesters p false) false) now)
        | inr differs ↦ h.flag p l ∙ ap (λ b. cond b (slice_index_or s.requesters p false) false) (later p n differs)
      ];
}

-- in the end the flags of the list are the system's
pub requesters-flags : (s : SystemEquations) (n : ℕ) (numbers : List ℕ) → length s.requesters ≤ n
    → AreRequestersBelow s n numbers → flags_from numbers 0 (length s.requesters) ≡ s.requesters
requesters-flags s n numbers all h =
    ext_get_or false (flags_from numbers 0 (length s.requesters)) s.requesters
    (length-flags numbers 0 (length s.requesters)) (λ p l.
    let within : p < length s.requesters = omega (arith, l, length-flags numbers 0 (length s.requesters)) in
    let here : 0 + p ≡ p = omega arith in
    let now : nat_lt p n ≡ true = grind (arith, nat_tests) in
    flag-at numbers 0 (length s.requesters) p false within ∙ ap (λ q. is_among q numbers) here ∙ h.flag p within
    ∙ ap (λ b. cond b (slice_index_or s.requesters p false) false) now)

-- a list of ceilings, from the i-th on those of these rows
own-rows : (cs : List ℕ) (i : ℕ) (rows : List SystemRow)
    → ((k : ℕ) → k < length rows → slice_index cs (i + k) ≡ (row_at rows k).ceiling) → capped_from cs i rows ≡ rows
own-rows cs i [] h = refl
own-rows cs i (row ∷ rows) h =
    let z : i + 0 ≡ i = omega arith in
    let first : slice_index cs i ≡ row.ceiling = ap (slice_index cs) (sym z) ∙ h 0 (omega arith) in
    let same : capped_from cs (suc i) rows ≡ rows =
    own-rows cs (suc i) rows (λ k l. let next : suc i + k ≡ i + suc k = omega arith in ap (slice_index cs) next
    ∙ h (suc k) (omega arith)) in
    ap (λ c. (record row { ceiling = c }) ∷ capped_from cs (suc i) rows) first ∙ ap (λ rs. row ∷ rs) same

-- a system with its own levels, requesters and ceilings is itself
pub own-system : (s : SystemEquations) (numbers : List ℕ) → flags_from numbers 0 (length s.requesters) ≡ s.requesters
    → query_system s s.levels numbers (map (λ row. row.ceiling) s.rows) ≡ s
own-system s numbers flags =
    let empty : SystemRow = record { authorizer = 0; ceiling = 0; formula = [] } in
    let rows : capped_from (map (λ row. row.ceiling) s.rows) 0 s.rows ≡ s.rows =
    own-rows (map (λ row. row.ceiling) s.rows) 0 s.rows (λ k l.
    let z : 0 + k ≡ k = omega arith in
    ap (slice_index (map (λ row. row.ceiling) s.rows)) z ∙ get_or-map (λ row. row.ceiling) s.rows k empty 0 l) in
    ap (λ fs. record s { requesters = fs; rows = capped_from (map (λ row. row.ceiling) s.rows) 0 s.rows }) flags
    ∙ ap (λ rs. record s { rows = rs }) rows

-- and they are below its levels
pub own-low : (levels principals : ℕ) (rows : List SystemRow) → All (IsSystemRow levels principals) rows
    → All (λ ceiling. ceiling < levels) (map (λ row. row.ceiling) rows)
own-low levels principals [] fit = All-nil (λ ceiling. ceiling < levels)
own-low levels principals (row ∷ rows) fit =
    All-cons (λ ceiling. ceiling < levels) row.ceiling (map (λ r. r.ceiling) rows)
    (All-head (IsSystemRow levels principals) row rows fit).ceiling
    (own-low levels principals rows (All-tail (IsSystemRow levels principals) row rows fit))

-- so the query of a system's own is the system
pub own-query : (s query : SystemEquations) (levels : ℕ) (seen numbers : List ℕ)
    → query ≡ query_system s levels seen (map (λ row. row.ceiling) s.rows) → levels ≡ s.levels → seen ≡ numbers
    → flags_from numbers 0 (length s.requesters) ≡ s.requesters → query ≡ s
own-query s query levels seen numbers is top same flags =
    is ∙ ap (λ n. query_system s n seen (map (λ row. row.ceiling) s.rows)) top
    ∙ ap (λ ns. query_system s s.levels ns (map (λ row. row.ceiling) s.rows)) same ∙ own-system s numbers flags
