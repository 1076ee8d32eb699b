-- A base in a query has the base's nodes and uses, and the query's ceilings and requesters.
use Rattle.std.proofs.Common.{◌≡◌, ℕ, zero, suc, ◌+◌, ◌<◌, ◌≤◌, Bool, true, false, cond, eqb, List, [], ◌∷◌, ◌++◌, All}
use Rattle.std.proofs.Common.{length, replicate, slice_index, slice_index_or, refl, sym, ap, ◌∙◌, subst, arith}
use Rattle.std.proofs.lemmas.Bool.Decides.{nat_tests}
use Rattle.std.proofs.lemmas.List.Elements.{All-nil, All-cons, All-head, All-tail}
use Rattle.kn_system.specs.Equations.{SystemEquations, IsSystem, IsSystemRow, node_total, row_at}
use Rattle.kn_system.specs.Nodes.{pieces_of, row_ups, ups_of, ups_of_rows}
use Rattle.kn_system.specs.Rows.{SystemRow}
use Rattle.kn_settle.specs.QuerySystem.{query_system, capped_from, flags_from, is_among, IsOther}
use Rattle.kn_settle.specs.Blank.{IsBlank}

pub pieces-capped : (cs : List ℕ) (i : ℕ) (rows : List SystemRow) → pieces_of (capped_from cs i rows) ≡ pieces_of rows
pieces-capped cs i [] = refl
pieces-capped cs i (row ∷ rows) = ap (λ ps. row.formula ++ ps) (pieces-capped cs (suc i) rows)

pub nodes-capped : (cs : List ℕ) (i : ℕ) (rows : List SystemRow) → node_total (capped_from cs i rows) ≡ node_total rows
nodes-capped cs i [] = refl
nodes-capped cs i (row ∷ rows) = ap (λ n. length row.formula + n) (nodes-capped cs (suc i) rows)

pub length-capped : (cs : List ℕ) (i : ℕ) (rows : List SystemRow) → length (capped_from cs i rows) ≡ length rows
length-capped cs i [] = refl
length-capped cs i (row ∷ rows) = ap suc (length-capped cs (suc i) rows)

pub ups-capped : (cs : List ℕ) (i : ℕ) (rows : List SystemRow) → ups_of_rows (capped_from cs i rows) ≡ ups_of_rows rows
ups-capped cs i rows = ap (λ n. ups_of 0 (row_ups 0 n) (pieces_of (capped_from cs i rows))) (length-capped cs i rows)
    ∙ ap (λ ps. ups_of 0 (row_ups 0 (length rows)) ps) (pieces-capped cs i rows)

pub authorizer-capped : (cs : List ℕ) (i j : ℕ) (rows : List SystemRow)
    → (row_at (capped_from cs i rows) j).authorizer ≡ (row_at rows j).authorizer
authorizer-capped cs i j [] = refl
authorizer-capped cs i zero (row ∷ rows) = refl
authorizer-capped cs i (suc j) (row ∷ rows) = authorizer-capped cs (suc i) j rows

pub ceiling-capped : (cs : List ℕ) (i j : ℕ) (rows : List SystemRow) → j < length rows
    → (row_at (capped_from cs i rows) j).ceiling ≡ slice_index cs (i + j)
ceiling-capped cs i j [] l = absurd (omega arith)
ceiling-capped cs i zero (row ∷ rows) l = let here : i ≡ i + 0 = omega arith in ap (slice_index cs) here
ceiling-capped cs i (suc j) (row ∷ rows) l = let next : suc i + j ≡ i + suc j = omega arith in
    ceiling-capped cs (suc i) j rows (omega arith) ∙ ap (slice_index cs) next

pub length-flags : (requesters : List ℕ) (p n : ℕ) → length (flags_from requesters p n) ≡ n
length-flags requesters p zero = refl
length-flags requesters p (suc n) = ap suc (length-flags requesters (suc p) n)

pub flag-at : (requesters : List ℕ) (p n j : ℕ) (d : Bool) → j < n
    → slice_index_or (flags_from requesters p n) j d ≡ is_among (p + j) requesters
flag-at requesters p zero j d l = absurd (omega arith)
flag-at requesters p (suc n) zero d l = let here : p ≡ p + 0 = omega arith in ap (λ q. is_among q requesters) here
flag-at requesters p (suc n) (suc j) d l = let next : suc p + j ≡ p + suc j = omega arith in
    flag-at requesters (suc p) n j d (omega arith) ∙ ap (λ q. is_among q requesters) next

-- the policy isn't among others
pub policy-not_among : (n : ℕ) (requesters : List ℕ) → All (IsOther n) requesters → is_among 0 requesters ≡ false
policy-not_among n [] h = refl
policy-not_among n (q ∷ qs) h =
    let first : IsOther n q = All-head (IsOther n) q qs h in
    let other : eqb q 0 ≡ false = (let some : 0 < q = first.0 in grind (arith, nat_tests)) in
    ap (λ b. cond b true (is_among 0 qs)) other ∙ policy-not_among n qs (All-tail (IsOther n) q qs h)

low-at : (levels i : ℕ) (cs : List ℕ) → 0 < levels → All (λ ceiling. ceiling < levels) cs → slice_index cs i < levels
low-at levels i [] some h = omega arith
low-at levels zero (c ∷ cs) some h = All-head (λ ceiling. ceiling < levels) c cs h
low-at levels (suc i) (c ∷ cs) some h = low-at levels i cs some (All-tail (λ ceiling. ceiling < levels) c cs h)

rows-fit : (own levels p : ℕ) (cs : List ℕ) (i : ℕ) (rows : List SystemRow) → 0 < levels
    → All (λ ceiling. ceiling < levels) cs → All (IsSystemRow own p) rows
    → All (IsSystemRow levels p) (capped_from cs i rows)
rows-fit own levels p cs i [] some low h = All-nil (IsSystemRow levels p)
rows-fit own levels p cs i (row ∷ rows) some low h =
    let first : IsSystemRow own p row = All-head (IsSystemRow own p) row rows h in
    All-cons (IsSystemRow levels p)
    (record { authorizer = row.authorizer; ceiling = slice_index cs i; formula = row.formula })
    (capped_from cs (suc i) rows)
    (record { authorizer = first.authorizer; ceiling = low-at levels i cs some low; formula = first.formula })
    (rows-fit own levels p cs (suc i) rows some low (All-tail (IsSystemRow own p) row rows h))

-- a base in a query is a system
pub query_system-system : (base : SystemEquations) (levels : ℕ) (requesters cs : List ℕ) → IsSystem base → 2 ≤ levels
    → levels ≤ 64 → All (IsOther (length base.requesters)) requesters → All (λ ceiling. ceiling < levels) cs
    → IsSystem (query_system base levels requesters cs)
query_system-system base levels requesters cs is least most others low =
    let size : length (flags_from requesters 0 (length base.requesters)) ≡ length base.requesters =
    length-flags requesters 0 (length base.requesters) in
    let nodes : node_total (capped_from cs 0 base.rows) ≡ node_total base.rows = nodes-capped cs 0 base.rows in
    record {
      levels_fit = (least, most);
      principals_fit = (omega (arith, size, is.principals_fit.0), omega (arith, size, is.principals_fit.1));
      policy = flag-at requesters 0 (length base.requesters) 0 true (omega (arith, is.principals_fit.0))
          ∙ policy-not_among (length base.requesters) requesters others;
      nodes_fit = omega (arith, nodes, is.nodes_fit);
      rows_fit = subst (λ n. All (IsSystemRow levels n) (capped_from cs 0 base.rows)) (sym size)
          (rows-fit base.levels levels (length base.requesters) cs 0 base.rows (omega (arith, least)) low is.rows_fit);
    }

-- what stands in memory as a base in a query
module _ (base s : SystemEquations) (levels : ℕ) (requesters cs : List ℕ)
    (e : s ≡ query_system base levels requesters cs) where
  pub query_system-size : length s.requesters ≡ length base.requesters
  query_system-size = ap (λ (x : SystemEquations). length x.requesters) e
      ∙ length-flags requesters 0 (length base.requesters)

  pub query_system-nodes : node_total s.rows ≡ node_total base.rows
  query_system-nodes = ap (λ (x : SystemEquations). node_total x.rows) e ∙ nodes-capped cs 0 base.rows

  pub query_system-levels : s.levels ≡ levels
  query_system-levels = ap (λ (x : SystemEquations). x.levels) e

  pub query_system-flags : s.requesters ≡ flags_from requesters 0 (length s.requesters)
  query_system-flags = ap (λ (x : SystemEquations). x.requesters) e
      ∙ ap (flags_from requesters 0) (sym query_system-size)

  pub query_system-others : All (IsOther (length base.requesters)) requesters
      → All (IsOther (length s.requesters)) requesters
  query_system-others h = subst (λ n. All (IsOther n) requesters) (sym query_system-size) h

  pub query_system-blank : (values reached counts counted : List ℕ) (buckets : List (List ℕ))
      → IsBlank (length base.requesters) (node_total base.rows) levels values reached counts counted buckets
      → IsBlank (length s.requesters) (node_total s.rows) s.levels values reached counts counted buckets
  query_system-blank values reached counts counted buckets h = record {
    values_none = h.values_none ∙ ap (λ n. replicate n 0) (sym query_system-size);
    reached_none = h.reached_none;
    counts_none = h.counts_none ∙ ap (λ n. replicate n 0) (sym query_system-nodes);
    counted_none = h.counted_none;
    buckets_none = h.buckets_none ∙ ap (λ n. replicate n []) (sym query_system-levels);
  }
