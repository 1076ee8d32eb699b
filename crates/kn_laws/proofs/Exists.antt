-- Every query has a proof: principals can be settled from the highest level down.
use Rattle.std.proofs.Common.{◌≡◌, ℕ, suc, zero, ◌+◌, ◌<◌, ◌≤◌, ◌⊎◌, Bool, true, false, cond, ◌||◌, ◌==◌, List, [], ◌∷◌}
use Rattle.std.proofs.Common.{◌++◌, length, get_or, All, Any, inl, inr, refl, sym, ap, ◌∙◌, subst, append_assoc}
use Rattle.std.proofs.Common.{append-nil, arith}
use Rattle.std.specs.List.{list_any}
use Rattle.std.specs.Str.{bytes_eq}
use Rattle.std.proofs.lemmas.Bool.{cases_lt}
use Rattle.std.proofs.lemmas.Bool.Decides.{nat_tests}
use Rattle.std.proofs.lemmas.Slice.Eq.{bytes_eq-Decides}
use Rattle.kn_principal.specs.Principals.{policy}
use Rattle.kn_proof.specs.declared.named.NamedRow.{NamedRow}
use Rattle.kn_meaning.specs.Formulas.{Levels}
use Rattle.kn_meaning.specs.Equations.{Equations, Statement, worth, is_requester}
use Rattle.kn_meaning.specs.Proofs.{row_level, levels_by, Supports, IsRow, AreRows, IsProof}
use Rattle.kn_laws.proofs.Rounds.{Below, worth-carried, worth-le}
use Rattle.kn_laws.proofs.PlainProofs.{All-cons, row_level-push}

-- each level above v that an assertion is worth, its authorizer has
abbrev IsClosedAbove : Equations → ℕ → Levels → Statement → Type 0
IsClosedAbove e v at s = (u : ℕ) → v < u → u ≤ worth e.top at s → u ≤ at s.authorizer

-- all levels above v are settled, v itself may be in part, and the rows stand in order
record IsSettled (e : Equations) (v : ℕ) (rows : List NamedRow) : Type 0 where
  in_order : AreRows e [] rows
  within : v ≤ e.top
  closed : All (IsClosedAbove e v (levels_by e rows)) e.statements
  above : (name : List ℕ) → 0 < levels_by e rows name → v ≤ levels_by e rows name

-- an assertion gives its authorizer, who has no level yet, the level v
abbrev Grants : Equations → ℕ → Levels → Statement → Type 0
Grants e v at s = (at s.authorizer ≡ 0) × (v ≤ worth e.top at s)

abbrev GivesNothing : Equations → ℕ → Levels → Statement → Type 0
GivesNothing e v at s = at s.authorizer ≡ 0 → worth e.top at s < v

Any-later : {A : Type 0} (P : A → Type 0) (x : A) (xs : List A) → Any P xs → Any P (x ∷ xs)
Any-later P x xs (k, y, within, is, h) = (suc k, y, omega arith, is, h)

-- either one grants the level, or none does
find-grant : (e : Equations) (v : ℕ) (at : Levels) (ss : List Statement) → Any (Grants e v at) ss
    ⊎ All (GivesNothing e v at) ss
find-grant e v at [] = inr (λ i d l. absurd (omega arith))
find-grant e v at (s ∷ ss) = by (cases_lt (worth e.top at s) v) (cases_lt 0 (at s.authorizer)) (find-grant e v at ss)
  where
    by : (worth e.top at s < v) ⊎ (v ≤ worth e.top at s) → (0 < at s.authorizer) ⊎ (at s.authorizer ≤ 0)
        → Any (Grants e v at) ss ⊎ All (GivesNothing e v at) ss
        → Any (Grants e v at) (s ∷ ss) ⊎ All (GivesNothing e v at) (s ∷ ss)
    by worths levels (inl found) = inl (Any-later (Grants e v at) s ss found)
    by (inl less) levels (inr none) = inr (All-cons (GivesNothing e v at) s ss (λ free. less) none)
    by (inr enough) (inl some) (inr none) =
        inr (All-cons (GivesNothing e v at) s ss (λ free. absurd (omega arith)) none)
    by (inr enough) (inr free) (inr none) = inl (0, s, omega arith, refl, (omega arith, enough))

-- how many assertions have an authorizer without a level
abbrev unsettled : Levels → List Statement → ℕ
unsettled at [] = 0
unsettled at (s ∷ ss) = cond (at s.authorizer == 0) 1 0 + unsettled at ss

unsettled-le : (at other : Levels) → Below at other → (ss : List Statement) → unsettled other ss ≤ unsettled at ss
unsettled-le at other b [] = omega arith
unsettled-le at other b (s ∷ ss) =
    let first = b s.authorizer in
    let rest = unsettled-le at other b ss in
    grind (arith, nat_tests)

unsettled-less : (at other : Levels) → Below at other → (ss : List Statement)
    → Any (λ s. (at s.authorizer ≡ 0) × (0 < other s.authorizer)) ss → unsettled other ss < unsettled at ss
unsettled-less at other b [] (k, x, within, is, h) = absurd (omega arith)
unsettled-less at other b (s ∷ ss) (zero, x, within, is, (free, some)) =
    let before : at s.authorizer ≡ 0 = ap (λ z. at z.authorizer) is ∙ free in
    let after : other s.authorizer ≡ other x.authorizer = ap (λ z. other z.authorizer) is in
    let rest = unsettled-le at other b ss in
    grind (arith, nat_tests)
unsettled-less at other b (s ∷ ss) (suc k, x, within, is, h) =
    let first = b s.authorizer in
    let rest = unsettled-less at other b ss (k, x, omega arith, is, h) in
    grind (arith, nat_tests)

-- a row behind rows in order
AreRows-push : (e : Equations) (before rows : List NamedRow) (row : NamedRow) → AreRows e before rows
    → IsRow e (before ++ rows) row → AreRows e before (rows ++ row ∷ [])
AreRows-push e before [] row are is = (subst (λ rows. IsRow e rows row) (append-nil before) is, tt)
AreRows-push e before (first ∷ rows) row are is = (
  are.0,
  AreRows-push e (before ++ first ∷ []) rows row are.1
      (subst (λ all. IsRow e all row) (sym (append_assoc before (first ∷ []) rows)) is),
)

-- whom no row names, no row gives a level
row_level-none : (rows : List NamedRow) (name : List ℕ) → list_any (λ r. bytes_eq r.principal name) rows ≡ false
    → row_level rows name ≡ 0
row_level-none [] name none = refl
row_level-none (row ∷ rows) name none = by (bytes_eq row.principal name) none (row_level-none rows name)
  where
    by : (t : Bool) → (t || list_any (λ r. bytes_eq r.principal name) rows) ≡ false
        → (list_any (λ r. bytes_eq r.principal name) rows ≡ false → row_level rows name ≡ 0)
        → cond t row.value (row_level rows name) ≡ 0
    by true none rest = absurd (cc)
    by false none rest = rest none

-- and whom rows in order name, they give one
named-none : (e : Equations) (before rows : List NamedRow) (name : List ℕ) → AreRows e before rows
    → row_level rows name ≡ 0 → list_any (λ r. bytes_eq r.principal name) rows ≡ false
named-none e before [] name are none = refl
named-none e before (row ∷ rows) name are none =
    by (bytes_eq row.principal name) are.0.above_lowest none (named-none e (before ++ row ∷ []) rows name are.1)
  where
    by : (t : Bool) → 1 ≤ row.value → cond t row.value (row_level rows name) ≡ 0
        → (row_level rows name ≡ 0 → list_any (λ r. bytes_eq r.principal name) rows ≡ false)
        → (t || list_any (λ r. bytes_eq r.principal name) rows) ≡ false
    by true some none rest = absurd (omega arith)
    by false some none rest = rest none

-- a row more leaves the level of a principal, or gives its own to one who had none
push-cases : (e : Equations) (rows : List NamedRow) (row : NamedRow) (name : List ℕ)
    → (levels_by e (rows ++ row ∷ []) name ≡ levels_by e rows name)
    ⊎ ((levels_by e rows name ≡ 0) × (levels_by e (rows ++ row ∷ []) name ≡ row.value))
push-cases e rows row name =
    subst (λ n. (cond (is_requester e name) e.top n ≡ cond (is_requester e name) e.top (row_level rows name))
    ⊎ ((cond (is_requester e name) e.top (row_level rows name) ≡ 0)
    × (cond (is_requester e name) e.top n ≡ row.value)))
    (sym (row_level-push rows row name))
    (by (is_requester e name) (list_any (λ r. bytes_eq r.principal name) rows) (bytes_eq row.principal name)
    (row_level rows name) (row_level-none rows name))
  where
    by : (requester named same : Bool) (level : ℕ) → (named ≡ false → level ≡ 0)
        → (cond requester e.top (cond named level (cond same row.value 0)) ≡ cond requester e.top level)
        ⊎ ((cond requester e.top level ≡ 0)
        × (cond requester e.top (cond named level (cond same row.value 0)) ≡ row.value))
    by true named same level none = inl refl
    by false true same level none = inl refl
    by false false true level none = inr (none refl, refl)
    by false false false level none = inl (sym (none refl))

push-here : (e : Equations) (rows : List NamedRow) (row : NamedRow) → IsRow e rows row
    → levels_by e (rows ++ row ∷ []) row.principal ≡ row.value
push-here e rows row is =
    ap (cond (is_requester e row.principal) e.top) (row_level-push rows row row.principal)
    ∙ ap (λ t. cond t e.top
    (cond (list_any (λ r. bytes_eq r.principal row.principal) rows) (row_level rows row.principal)
    (cond (bytes_eq row.principal row.principal) row.value 0))) is.other
    ∙ ap (λ t. cond t (row_level rows row.principal) (cond (bytes_eq row.principal row.principal) row.value 0)) is.fresh
    ∙ ap (λ t. cond t row.value 0) ((bytes_eq-Decides row.principal row.principal).1 refl)

-- the row of an assertion that grants v
abbrev grant_row : ℕ → Statement → NamedRow
grant_row v s = record { value = v; id = s.id; principal = s.authorizer }

-- it may follow the rows
grant-is_row : (e : Equations) (v : ℕ) (rows : List NamedRow) (s : Statement) → 0 < v → IsSettled e v rows
    → levels_by e rows s.authorizer ≡ 0 → Any (Supports e (levels_by e rows) (grant_row v s)) e.statements
    → IsRow e rows (grant_row v s)
grant-is_row e v rows s some h free supported =
    let none = by (is_requester e s.authorizer) h.within free in
    record {
      other = none.0;
      fresh = named-none e [] rows s.authorizer h.in_order none.1;
      above_lowest = some;
      within = h.within;
      supported = supported;
    }
  where
    by : (t : Bool) → v ≤ e.top → cond t e.top (row_level rows s.authorizer) ≡ 0 → (t ≡ false)
        × (row_level rows s.authorizer ≡ 0)
    by true le none = absurd (omega arith)
    by false le none = (refl, none)

-- rows with one that grants v in the place of the last
module _ (e : Equations) (v : ℕ) (rows : List NamedRow) (s : Statement) (some : 0 < v) (h : IsSettled e v rows)
    (is : IsRow e rows (grant_row v s)) where
  abbrev before : Levels
  before = levels_by e rows

  abbrev after : Levels
  after = levels_by e (rows ++ grant_row v s ∷ [])

  raises : Below before after
  raises name =
      elim (push-cases e rows (grant_row v s) name) [
        | inl same ↦ omega arith
        | inr (none, given) ↦ omega arith
      ]

  -- who has more than v had it before
  carried : (u : ℕ) → v < u → (name : List ℕ) → u ≤ after name → u ≤ before name
  carried u more name l =
      elim (push-cases e rows (grant_row v s) name) [
        | inl same ↦ omega arith
        | inr (none, given) ↦ absurd (omega arith)
      ]

  stays_above : (name : List ℕ) → 0 < after name → v ≤ after name
  stays_above name l =
      elim (push-cases e rows (grant_row v s) name) [
        | inl same ↦ let old = h.above name in omega arith
        | inr (none, given) ↦ omega arith
      ]

  stays_closed : All (IsClosedAbove e v after) e.statements
  stays_closed i d l u more worths =
      let x : Statement = get_or e.statements i d in
      let earlier : u ≤ worth e.top before x =
      worth-carried u e.top after before (omega arith) (carried u more) x worths in
      let had = h.closed i d l u more earlier in
      let le = raises x.authorizer in
      omega arith

  granted : IsSettled e v (rows ++ grant_row v s ∷ [])
  granted = record {
    in_order = AreRows-push e [] rows (grant_row v s) h.in_order is;
    within = h.within;
    closed = stays_closed;
    above = stays_above;
  }

  fewer : (k : ℕ) → k < length e.statements → get_or e.statements k s ≡ s → before s.authorizer ≡ 0
      → unsettled after e.statements < unsettled before e.statements
  fewer k within here free =
      let given : after s.authorizer ≡ v = push-here e rows (grant_row v s) is in
      unsettled-less before after raises e.statements (k, s, within, here, (free, omega arith))

-- where none grants v, the next lower level may be settled
goes_down : (e : Equations) (v : ℕ) (rows : List NamedRow) → IsSettled e (suc v) rows
    → All (GivesNothing e (suc v) (levels_by e rows)) e.statements → IsSettled e v rows
goes_down e v rows h none = record {
  in_order = h.in_order;
  within = let le = h.within in omega arith;
  closed = λ i d l u more worths.
      by i d l u more worths (cases_lt 0 (levels_by e rows (get_or e.statements i d).authorizer)) (cases_lt (suc v) u);
  above = λ name some. let le = h.above name some in omega arith;
}
  where
    by : (i : ℕ) (d : Statement) → i < length e.statements → (u : ℕ) → v < u
        → u ≤ worth e.top (levels_by e rows) (get_or e.statements i d)
        → (0 < levels_by e rows (get_or e.statements i d).authorizer)
        ⊎ (levels_by e rows (get_or e.statements i d).authorizer ≤ 0) → (suc v < u) ⊎ (u ≤ suc v)
        → u ≤ levels_by e rows (get_or e.statements i d).authorizer
    by i d l u more worths levels (inl higher) = h.closed i d l u higher worths
    by i d l u more worths (inl some) (inr here) = let le = h.above (get_or e.statements i d).authorizer some in
        omega arith
    by i d l u more worths (inr free) (inr here) = let less = none i d l (omega arith) in absurd (omega arith)

-- rows at which all above v is settled
record Reached (e : Equations) (v : ℕ) : Type 0 where
  rows : List NamedRow
  settled : IsSettled e v rows

-- one level is settled, by as many grants as authorizers are left
settle-at : (e : Equations) (v n : ℕ) (rows : List NamedRow) → IsSettled e (suc v) rows
    → unsettled (levels_by e rows) e.statements ≤ n → Reached e v
settle-at e v zero rows h few =
    elim (find-grant e (suc v) (levels_by e rows) e.statements) [
      | inl (k, s, within, here, (free, enough)) ↦
          let is : IsRow e rows (grant_row (suc v) s) =
          grant-is_row e (suc v) rows s (omega arith) h free (
            k,
            s,
            within,
            here,
            record { named = refl; own = refl; enough = enough },
          ) in
          let less = fewer e (suc v) rows s (omega arith) h is k within here free in
          absurd (omega arith)
      | inr none ↦ record { rows = rows; settled = goes_down e v rows h none }
    ]
settle-at e v (suc n) rows h few =
    elim (find-grant e (suc v) (levels_by e rows) e.statements) [
      | inl (k, s, within, here, (free, enough)) ↦
          let is : IsRow e rows (grant_row (suc v) s) =
          grant-is_row e (suc v) rows s (omega arith) h free (
            k,
            s,
            within,
            here,
            record { named = refl; own = refl; enough = enough },
          ) in
          let less = fewer e (suc v) rows s (omega arith) h is k within here free in
          settle-at e v n (rows ++ grant_row (suc v) s ∷ []) (granted e (suc v) rows s (omega arith) h is) (omega arith)
      | inr none ↦ record { rows = rows; settled = goes_down e v rows h none }
    ]

settle-down : (e : Equations) (v : ℕ) → Reached e v → Reached e 0
settle-down e zero r = r
settle-down e (suc v) r =
    settle-down e v (settle-at e v (unsettled (levels_by e r.rows) e.statements) r.rows r.settled (omega arith))

-- before any row nothing above the top is open
starts : (e : Equations) → Reached e e.top
starts e = record {
  rows = [];
  settled = record {
    in_order = tt;
    within = omega arith;
    closed = λ i d l u more worths. let most = worth-le e.top (levels_by e []) low (get_or e.statements i d) in
        absurd (omega arith);
    above = λ name. at_top (is_requester e name);
  };
}
  where
    at_top : (t : Bool) → 0 < cond t e.top 0 → e.top ≤ cond t e.top 0
    at_top true l = omega arith
    at_top false l = absurd (omega arith)

    within_top : (t : Bool) → cond t e.top 0 ≤ e.top
    within_top true = omega arith
    within_top false = omega arith

    low : (name : List ℕ) → levels_by e [] name ≤ e.top
    low name = within_top (is_requester e name)

-- once all above the lowest level is settled, the rows are a proof
ends : (e : Equations) (rows : List NamedRow) → IsSettled e 0 rows → IsProof e rows (levels_by e rows policy)
ends e rows h = record {
  in_order = h.in_order;
  closed = λ i d l.
      elim (cases_lt 0 (worth e.top (levels_by e rows) (get_or e.statements i d))) [
        | inl some ↦ h.closed i d l (worth e.top (levels_by e rows) (get_or e.statements i d)) some (omega arith)
        | inr none ↦ omega arith
      ];
  claim = refl;
}

pub has_proof : (e : Equations) → (level : ℕ) × (rows : List NamedRow) × IsProof e rows level
has_proof e = let r = settle-down e e.top (starts e) in (levels_by e r.rows policy, r.rows, ends e r.rows r.settled)
