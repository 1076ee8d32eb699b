-- One more node is marked: what its gate has counted, and which row waits.
use Rattle.std.proofs.Common.{◌≡◌, ◌≢◌, ℕ, zero, suc, ◌+◌, ◌<◌, ◌≤◌, ◌⊎◌, Bool, true, false, cond, eqb, nat_le, min}
use Rattle.std.proofs.Common.{Option, None, Some, List, [], ◌∷◌, ◌++◌, length, get_or, slice_get, slice_index}
use Rattle.std.proofs.Common.{slice_set, refl, sym, ap, ◌∙◌, subst, inl, inr, arith}
use Rattle.std.proofs.lemmas.Bool.{cases_eq, le-leb, lt-leb}
use Rattle.std.proofs.lemmas.Bool.Decides.{nat_tests}
use Rattle.std.proofs.lemmas.List.{get_or-set_same, get_or-set_other, length-set}
use Rattle.kn_system.specs.declared.nodes.Up.{Up}
use Rattle.kn_system.specs.declared.nodes.Up.TheVariants.{Node, Row}
use Rattle.kn_system.specs.declared.rows.Piece.{Piece}
use Rattle.kn_system.specs.declared.rows.Piece.TheVariants.{Who, Gate}
use Rattle.kn_system.specs.Equations.{SystemEquations, node_total, row_at}
use Rattle.kn_system.specs.Nodes.{ups_of_rows}
use Rattle.kn_settle.specs.Counters.{AreLonger, AreWaiting, IsCounted, IsIn, IsPending, IsReady, bucket_at, is_marked}
use Rattle.kn_settle.specs.Counters.{is_node, is_row, one_if, piece_at, trues, under}

pub trues-set : (ms : List Bool) (j : ℕ) → j < length ms → is_marked ms j ≡ false
    → trues (slice_set ms j true) ≡ suc (trues ms)
trues-set [] j l e = absurd (omega arith)
trues-set (m ∷ ms) zero l e = let none : one_if m ≡ 0 = ap one_if e in omega (arith, none)
trues-set (m ∷ ms) (suc j) l e = let rest = trues-set ms j (omega arith) e in omega (arith, rest)

pub trues-le : (ms : List Bool) → trues ms ≤ length ms
trues-le [] = omega arith
trues-le (true ∷ ms) = let rest = trues-le ms in omega arith
trues-le (false ∷ ms) = let rest = trues-le ms in omega arith

under-set : (t : Up → Bool) (ms : List Bool) (us : List Up) (j : ℕ) (d : Up) (b : Bool) → j < length ms → j < length us
    → is_marked ms j ≡ false → t (get_or us j d) ≡ b
    → under t (slice_set ms j true) us ≡ under t ms us + one_if b
under-set t [] us j d b l k e h = absurd (omega arith)
under-set t (m ∷ ms) [] j d b l k e h = absurd (omega arith)
under-set t (m ∷ ms) (u ∷ us) zero d true l k e h =
    let before : cond (t u) (one_if m) 0 ≡ one_if m = ap (λ c. cond c (one_if m) 0) h in
    let after : cond (t u) (one_if true) 0 ≡ one_if true = ap (λ c. cond c (one_if true) 0) h in
    let none : one_if m ≡ 0 = ap one_if e in
    omega (arith, before, after, none)
under-set t (m ∷ ms) (u ∷ us) zero d false l k e h =
    let before : cond (t u) (one_if m) 0 ≡ 0 = ap (λ c. cond c (one_if m) 0) h in
    let after : cond (t u) (one_if true) 0 ≡ 0 = ap (λ c. cond c (one_if true) 0) h in
    omega (arith, before, after)
under-set t (m ∷ ms) (u ∷ us) (suc j) d b l k e h = let rest =
    under-set t ms us j d b (omega arith) (omega arith) e h in omega (arith, rest)

-- what one more mark adds under a gate and under a row
pub record AddsUnder (s : SystemEquations) (m : List Bool) (j : ℕ) (u : Up) : Type 0 where
  pub to_node : (g : ℕ) → under (is_node g) (slice_set m j true) (ups_of_rows s.rows)
      ≡ under (is_node g) m (ups_of_rows s.rows) + one_if (is_node g u)
  pub to_row : (r : ℕ) → under (is_row r) (slice_set m j true) (ups_of_rows s.rows)
      ≡ under (is_row r) m (ups_of_rows s.rows) + one_if (is_row r u)

pub adds-under : (s : SystemEquations) (m : List Bool) (counts : List ℕ) (j : ℕ) (d u : Up)
    → length (ups_of_rows s.rows) ≡ node_total s.rows → IsPending s m counts j → get_or (ups_of_rows s.rows) j d ≡ u
    → AddsUnder s m j u
adds-under s m counts j d u size h e =
    let inside : j < length m = omega (arith, h.inside, h.counts_but.marks_fit) in
    let within : j < length (ups_of_rows s.rows) = omega (arith, h.inside, size) in
    record {
      to_node = λ g. under-set (is_node g) m (ups_of_rows s.rows) j d (is_node g u) inside within h.unmarked
          (ap (is_node g) e);
      to_row = λ r. under-set (is_row r) m (ups_of_rows s.rows) j d (is_row r u) inside within h.unmarked
          (ap (is_row r) e);
    }

-- a gate that was pending is marked as it has counted
agreed-now : (s : SystemEquations) (m : List Bool) (counts : List ℕ) (j i k n : ℕ) → IsPending s m counts j
    → piece_at s i ≡ Gate k n → is_marked (slice_set m j true) i ≡ nat_le k (slice_index counts i)
agreed-now s m counts j i k n h e =
    elim (cases_eq i j) [
      | inl same ↦
          let inside : j < length m = omega (arith, h.inside, h.counts_but.marks_fit) in
          let on : is_marked (slice_set m j true) j ≡ true = get_or-set_same m j true false inside in
          let ready : k ≤ slice_index counts j = h.ready k n (ap (piece_at s) (sym same) ∙ e) in
          let enough : nat_le k (slice_index counts j) ≡ true = le-leb k (slice_index counts j) ready in
          ap (is_marked (slice_set m j true)) same ∙ on ∙ sym enough
          ∙ ap (λ x. nat_le k (slice_index counts x)) (sym same)
      | inr differs ↦ get_or-set_other m j i true false differs ∙ h.counts_but.agreed i k n e differs
    ]

-- nothing is counted where the node is no part of the gate
pub counted-on_row : (s : SystemEquations) (m : List Bool) (counts : List ℕ) (j r : ℕ) → IsPending s m counts j
    → AddsUnder s m j (Row r) → IsCounted s (slice_set m j true) counts (node_total s.rows)
counted-on_row s m counts j r h a = record {
  marks_fit = length-set m j true ∙ h.counts_but.marks_fit;
  counts_fit = h.counts_but.counts_fit;
  counted = λ i k n e. let before = h.counts_but.counted i k n e in let same = a.to_node i in
      omega (arith, before, same);
  agreed = λ i k n e differs. agreed-now s m counts j i k n h e;
}

-- a gate that has all it needs counts no further
pub counted-full : (s : SystemEquations) (m : List Bool) (counts : List ℕ) (j g need count : ℕ) → IsPending s m counts j
    → AddsUnder s m j (Node g) → piece_at s g ≡ Gate need count → need ≤ slice_index counts g
    → IsCounted s (slice_set m j true) counts (node_total s.rows)
counted-full s m counts j g need count h a gate full = record {
  marks_fit = length-set m j true ∙ h.counts_but.marks_fit;
  counts_fit = h.counts_but.counts_fit;
  counted = λ i k n e.
      let before = h.counts_but.counted i k n e in
      let more = a.to_node i in
      elim (cases_eq g i) [
        | inl same ↦
            let needs : need ≡ k = ap need_of (sym gate ∙ ap (piece_at s) same ∙ e) in
            let enough : k ≤ slice_index counts i =
            subst (λ x. k ≤ slice_index counts x) same (omega (arith, full, needs)) in
            omega (arith, before, more, enough)
        | inr differs ↦ let none : one_if (eqb g i) ≡ 0 = grind (arith, nat_tests) in omega (arith, before, more, none)
      ];
  agreed = λ i k n e differs. agreed-now s m counts j i k n h e;
}
  where
    need_of : Piece → ℕ
    need_of (Who q) = 0
    need_of (Gate k n) = k

-- a gate counts one more part
pub counted-more : (s : SystemEquations) (m : List Bool) (counts : List ℕ) (j g need count : ℕ) → IsPending s m counts j
    → AddsUnder s m j (Node g) → g < j → piece_at s g ≡ Gate need count → slice_index counts g < need
    → (i k n : ℕ) → piece_at s i ≡ Gate k n → slice_index (slice_set counts g (slice_index counts g + 1)) i
    ≡ min k (under (is_node i) (slice_set m j true) (ups_of_rows s.rows))
counted-more s m counts j g need count h a before gate short i k n e =
    let was = h.counts_but.counted i k n e in
    let more = a.to_node i in
    let inside : g < length counts = omega (arith, h.inside, h.counts_but.counts_fit) in
    elim (cases_eq i g) [
      | inl same ↦
          let needs : need ≡ k = ap need_of (sym gate ∙ ap (piece_at s) (sym same) ∙ e) in
          let now : slice_index (slice_set counts g (slice_index counts g + 1)) i ≡ slice_index counts g + 1 =
          ap (slice_index (slice_set counts g (slice_index counts g + 1))) same
          ∙ get_or-set_same counts g (slice_index counts g + 1) 0 inside in
          let here : slice_index counts i ≡ slice_index counts g = ap (slice_index counts) same in
          let one : one_if (eqb g i) ≡ 1 = grind (arith, nat_tests) in
          omega (arith, was, more, needs, now, here, one, short)
      | inr differs ↦
          let other : slice_index (slice_set counts g (slice_index counts g + 1)) i ≡ slice_index counts i =
          get_or-set_other counts g i (slice_index counts g + 1) 0 differs in
          let none : one_if (eqb g i) ≡ 0 = grind (arith, nat_tests) in
          omega (arith, was, more, other, none)
    ]
  where
    need_of : Piece → ℕ
    need_of (Who q) = 0
    need_of (Gate k n) = k

agreed-more : (s : SystemEquations) (m : List Bool) (counts : List ℕ) (j g i k n : ℕ) → IsPending s m counts j
    → piece_at s i ≡ Gate k n → i ≢ g
    → is_marked (slice_set m j true) i ≡ nat_le k (slice_index (slice_set counts g (slice_index counts g + 1)) i)
agreed-more s m counts j g i k n h e differs =
    agreed-now s m counts j i k n h e
    ∙ ap (nat_le k) (sym (get_or-set_other counts g i (slice_index counts g + 1) 0 differs))

-- a gate is not marked before it has counted so many
not_yet : (s : SystemEquations) (m : List Bool) (counts : List ℕ) (j g need count : ℕ) → IsPending s m counts j → g < j
    → piece_at s g ≡ Gate need count → slice_index counts g < need → is_marked (slice_set m j true) g ≡ false
not_yet s m counts j g need count h before gate short =
    get_or-set_other m j g true false (λ same. absurd (omega (arith, before, same)))
    ∙ h.counts_but.agreed g need count gate (λ same. absurd (omega (arith, before, same)))
    ∙ lt-leb need (slice_index counts g) short

pub counted-short : (s : SystemEquations) (m : List Bool) (counts : List ℕ) (j g need count : ℕ)
    → IsPending s m counts j → AddsUnder s m j (Node g) → g < j → piece_at s g ≡ Gate need count
    → slice_index counts g + 1 < need
    → IsCounted s (slice_set m j true) (slice_set counts g (slice_index counts g + 1)) (node_total s.rows)
counted-short s m counts j g need count h a before gate short =
    let inside : g < length counts = omega (arith, h.inside, h.counts_but.counts_fit) in
    record {
      marks_fit = length-set m j true ∙ h.counts_but.marks_fit;
      counts_fit = length-set counts g (slice_index counts g + 1) ∙ h.counts_but.counts_fit;
      counted = counted-more s m counts j g need count h a before gate (omega arith);
      agreed = λ i k n e differs.
          elim (cases_eq i g) [
            | inl same ↦
                let needs : need ≡ k = ap need_of (sym gate ∙ ap (piece_at s) (sym same) ∙ e) in
                let now : slice_index (slice_set counts g (slice_index counts g + 1)) g ≡ slice_index counts g + 1 =
                get_or-set_same counts g (slice_index counts g + 1) 0 inside in
                let few : nat_le k (slice_index (slice_set counts g (slice_index counts g + 1)) g) ≡ false =
                lt-leb k (slice_index (slice_set counts g (slice_index counts g + 1)) g)
                (omega (arith, now, needs, short)) in
                ap (is_marked (slice_set m j true)) same ∙ not_yet s m counts j g need count h before gate (omega arith)
                ∙ sym few ∙ ap (λ x. nat_le k (slice_index (slice_set counts g (slice_index counts g + 1)) x))
                (sym same)
            | inr other ↦ agreed-more s m counts j g i k n h e other
          ];
    }
  where
    need_of : Piece → ℕ
    need_of (Who q) = 0
    need_of (Gate k n) = k

pub counted-on : (s : SystemEquations) (m : List Bool) (counts : List ℕ) (j g need count : ℕ) → IsPending s m counts j
    → AddsUnder s m j (Node g) → g < j → piece_at s g ≡ Gate need count → slice_index counts g + 1 ≡ need
    → IsPending s (slice_set m j true) (slice_set counts g (slice_index counts g + 1)) g
counted-on s m counts j g need count h a before gate full =
    let inside : g < length counts = omega (arith, h.inside, h.counts_but.counts_fit) in
    record {
      counts_but = record {
        marks_fit = length-set m j true ∙ h.counts_but.marks_fit;
        counts_fit = length-set counts g (slice_index counts g + 1) ∙ h.counts_but.counts_fit;
        counted = counted-more s m counts j g need count h a before gate (omega arith);
        agreed = λ i k n e differs. agreed-more s m counts j g i k n h e differs;
      };
      inside = omega (arith, before, h.inside);
      unmarked = not_yet s m counts j g need count h before gate (omega arith);
      ready = λ k n e.
          let needs : need ≡ k = ap need_of (sym gate ∙ e) in
          let now : slice_index (slice_set counts g (slice_index counts g + 1)) g ≡ slice_index counts g + 1 =
          get_or-set_same counts g (slice_index counts g + 1) 0 inside in
          omega (arith, now, needs, full);
    }
  where
    need_of : Piece → ℕ
    need_of (Who q) = 0
    need_of (Gate k n) = k

-- rows wait on where a node is marked that is no row's formula
pub waits-node : (s : SystemEquations) (v : ℕ) (levels : List ℕ) (m : List Bool) (buckets : List (List ℕ)) (j g : ℕ)
    → AddsUnder s m j (Node g) → AreWaiting s v levels m buckets → AreWaiting s v levels (slice_set m j true) buckets
waits-node s v levels m buckets j g a h = record {
  size = h.size;
  good = λ w i r e. let ready = h.good w i r e in
      record { named = ready.named; ceiling = ready.ceiling; fulfilled = omega (arith, ready.fulfilled, a.to_row r) };
  waiting = λ r l full none. h.waiting r l (omega (arith, full, a.to_row r)) none;
}

-- a bucket with one more row
pub bucket-same : (buckets : List (List ℕ)) (w : ℕ) (row : List ℕ) → w < length buckets
    → bucket_at (slice_set buckets w row) w ≡ row
bucket-same buckets w row l = get_or-set_same buckets w row [] l

pub in-pushed : (bucket : List ℕ) (i r x : ℕ) → slice_get bucket i ≡ Some r → slice_get (bucket ++ x ∷ []) i ≡ Some r
in-pushed [] i r x e = absurd (cc)
in-pushed (y ∷ bucket) zero r x e = e
in-pushed (y ∷ bucket) (suc i) r x e = in-pushed bucket i r x e

pub pushed-is : (bucket : List ℕ) (x : ℕ) → slice_get (bucket ++ x ∷ []) (length bucket) ≡ Some x
pushed-is [] x = refl
pushed-is (y ∷ bucket) x = pushed-is bucket x

pub in-or-last : (bucket : List ℕ) (i r x : ℕ) → slice_get (bucket ++ x ∷ []) i ≡ Some r → (slice_get bucket i ≡ Some r)
    ⊎ (r ≡ x)
in-or-last [] zero r x e = inr (sym (ap from e))
  where
    from : Option ℕ → ℕ
    from None = 0
    from (Some y) = y
in-or-last [] (suc i) r x e = absurd (cc)
in-or-last (y ∷ bucket) zero r x e = inl e
in-or-last (y ∷ bucket) (suc i) r x e = in-or-last bucket i r x e

pub longer-push : (buckets : List (List ℕ)) (w row : ℕ) → w < length buckets
    → AreLonger buckets (slice_set buckets w (bucket_at buckets w ++ row ∷ []))
longer-push buckets w row l = λ x i r e.
    elim (cases_eq x w) [
      | inl same ↦
          let here : slice_get (bucket_at buckets w) i ≡ Some r = ap (λ y. slice_get (bucket_at buckets y) i) (sym same)
          ∙ e in
          let now : bucket_at (slice_set buckets w (bucket_at buckets w ++ row ∷ [])) x ≡ bucket_at buckets w ++ row
          ∷ [] = ap (bucket_at (slice_set buckets w (bucket_at buckets w ++ row ∷ []))) same
          ∙ bucket-same buckets w (bucket_at buckets w ++ row ∷ []) l in
          ap (λ b. slice_get b i) now ∙ in-pushed (bucket_at buckets w) i r row here
      | inr differs ↦ ap (λ b. slice_get b i)
          (get_or-set_other buckets w x (bucket_at buckets w ++ row ∷ []) [] differs) ∙ e
    ]

pub longer-trans : (a b c : List (List ℕ)) → AreLonger a b → AreLonger b c → AreLonger a c
longer-trans a b c h k = λ w i r e. k w i r (h w i r e)

-- a row whose formula is marked waits
pub waits-row : (s : SystemEquations) (v : ℕ) (levels : List ℕ) (m : List Bool) (buckets : List (List ℕ)) (j row : ℕ)
    → v < s.levels → row < length s.rows → AddsUnder s m j (Row row) → AreWaiting s v levels m buckets
    → AreWaiting s v levels (slice_set m j true)
    (slice_set buckets (min v (row_at s.rows row).ceiling) (bucket_at buckets (min v (row_at s.rows row).ceiling)
    ++ row ∷ []))
waits-row s v levels m buckets j row low within a h =
    let w : ℕ = min v (row_at s.rows row).ceiling in
    let b : List ℕ = bucket_at buckets w ++ row ∷ [] in
    let new : List (List ℕ) = slice_set buckets w b in
    let inside : w < length buckets = omega (arith, h.size, low) in
    let longer : AreLonger buckets new = longer-push buckets w row inside in
    let ready : (x i r : ℕ) → slice_get (bucket_at buckets x) i ≡ Some r → IsReady s (slice_set m j true) x r =
    (λ x i r e. let was = h.good x i r e in
    record { named = was.named; ceiling = was.ceiling; fulfilled = omega (arith, was.fulfilled, a.to_row r) }) in
    let one : one_if (eqb row row) ≡ 1 = grind (arith, nat_tests) in
    record {
      size = length-set buckets w b ∙ h.size;
      good = λ x i r e.
          elim (cases_eq x w) [
            | inl same ↦
                let now : bucket_at new x ≡ b = ap (bucket_at new) same ∙ bucket-same buckets w b inside in
                elim (in-or-last (bucket_at buckets w) i r row (ap (λ c. slice_get c i) (sym now) ∙ e)) [
                  | inl old ↦ ready x i r (ap (λ y. slice_get (bucket_at buckets y) i) same ∙ old)
                  | inr last ↦
                      record {
                        named = omega (arith, last, within);
                        ceiling = let c : (row_at s.rows r).ceiling ≡ (row_at s.rows row).ceiling =
                            ap (λ y. (row_at s.rows y).ceiling) last in omega (arith, same, c);
                        fulfilled = subst (λ y. 1 ≤ under (is_row y) (slice_set m j true) (ups_of_rows s.rows))
                            (sym last) (omega (arith, a.to_row row, one));
                      }
                ]
            | inr differs ↦ ready x i r (ap (λ c. slice_get c i) (sym (get_or-set_other buckets w x b [] differs)) ∙ e)
          ];
      waiting = λ r l full none.
          elim (cases_eq r row) [
            | inl same ↦
                let here : min v (row_at s.rows r).ceiling ≡ w = ap (λ y. min v (row_at s.rows y).ceiling) same in
                let last : slice_get (bucket_at new w) (length (bucket_at buckets w)) ≡ Some row =
                ap (λ c. slice_get c (length (bucket_at buckets w))) (bucket-same buckets w b inside)
                ∙ pushed-is (bucket_at buckets w) row in (
                  length (bucket_at buckets w),
                  ap (λ y. slice_get (bucket_at new y) (length (bucket_at buckets w))) here
                      ∙ last ∙ ap (λ y. Some y) (sym same),
                )
            | inr differs ↦
                let zero_more : one_if (eqb row r) ≡ 0 = grind (arith, nat_tests) in
                let old : IsIn (bucket_at buckets (min v (row_at s.rows r).ceiling)) r =
                h.waiting r l (omega (arith, full, a.to_row r, zero_more)) none in
                (old.0, longer (min v (row_at s.rows r).ceiling) old.0 r old.1)
          ];
    }
