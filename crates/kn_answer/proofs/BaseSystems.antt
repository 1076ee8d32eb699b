-- A base is the system of each query over the assertions that it keeps.
use Rattle.std.proofs.Common.{◌≡◌, ℕ, zero, suc, ◌+◌, ◌-◌, ◌<◌, ◌||◌, Bool, true, false, cond, eqb, All, Some, List, []}
use Rattle.std.proofs.Common.{◌∷◌, length, map, get_or, slice_get, slice_index, refl, sym, ap, ◌∙◌, inl, inr}
use Rattle.std.proofs.Common.{arith, true≢false}
use Rattle.std.specs.List.{list_any}
use Rattle.std.specs.Str.{bytes_eq}
use Rattle.std.proofs.lemmas.Bool.{cases_eq, false_from_ne_true}
use Rattle.std.proofs.lemmas.Bool.Decides.{nat_tests}
use Rattle.std.proofs.lemmas.List.{ext_get_or, get_or-map, length-map}
use Rattle.std.proofs.lemmas.List.Elements.{All-nil, All-cons}
use Rattle.std.proofs.lemmas.Option.{slice_get-get_or, slice_get_within}
use Rattle.kn_principal.specs.Principals.{policy}
use Rattle.kn_env.specs.Environment.{Asked}
use Rattle.kn_meaning.specs.Equations.{Part, statement_of}
use Rattle.kn_system.specs.Rows.{SystemRow}
use Rattle.kn_settle.specs.QuerySystem.{capped_from, flags_from, is_among, IsOther}
use Rattle.kn_settle.proofs.QuerySystems.{flag-at, length-flags}
use Rattle.kn_rows.specs.Numbering.{AreDistinct, AreRowsOf, HaveNumbers, IsNumber}
use Rattle.kn_rows.specs.BaseRows.{AreBaseRows, AreNumbersOf}
use Rattle.kn_rows.proofs.Names.{bytes_eq-same, bytes_eq-true}
use Rattle.kn_answer.specs.Removed.{Kept, capped_statement, capped_statements, kept_of, live_parts, live_statements}
use Rattle.kn_answer.specs.Based.{BasesStateQueries, ceilings_of}
use Rattle.kn_answer.proofs.ProofLevels.{neither}

-- from the i-th on these are the ceilings of the statements
abbrev AreCeilings : List ℕ → ℕ → List Kept → Type 0
AreCeilings ceilings i [] = Unit {0}
AreCeilings ceilings i (k ∷ ks) = (slice_index ceilings i ≡ (capped_statement k).ceiling)
    × AreCeilings ceilings (suc i) ks

are-ceilings : (ceilings : List ℕ) (i : ℕ) (kept : List Kept)
    → ((j : ℕ) → slice_index ceilings (i + j) ≡ slice_index (map (λ k. (capped_statement k).ceiling) kept) j)
    → AreCeilings ceilings i kept
are-ceilings ceilings i [] h = tt
are-ceilings ceilings i (k ∷ ks) h =
    let here : i ≡ i + 0 = omega arith in (
      ap (slice_index ceilings) here ∙ h 0,
      are-ceilings ceilings (suc i) ks (λ j. let next : suc i + j ≡ i + suc j = omega arith in
          ap (slice_index ceilings) next ∙ h (suc j)),
    )

rows-queried : (top : ℕ) (names : List (List ℕ)) (asked : Asked) (parts : List Part) (live : List Bool)
    (rows : List SystemRow) (ceilings : List ℕ) (i : ℕ) → length live ≡ length parts → AreBaseRows names parts rows
    → AreCeilings ceilings i (kept_of asked parts live)
    → AreRowsOf top names (capped_statements (kept_of asked parts live)) (capped_from ceilings i rows)
rows-queried top names asked [] live [] ceilings i size are have = tt
rows-queried top names asked [] live (row ∷ rows) ceilings i size are have = absurd are
rows-queried top names asked (part ∷ parts) [] rows ceilings i size are have = absurd (omega (arith, size))
rows-queried top names asked (part ∷ parts) (flag ∷ live) [] ceilings i size are have = absurd are
rows-queried top names asked (part ∷ parts) (flag ∷ live) (row ∷ rows) ceilings i size are have = (
  record { authorizer = are.0.authorizer; ceiling = have.0; pieces = are.0.pieces; licensees = are.0.licensees top },
  rows-queried top names asked parts live rows ceilings (suc i) (omega (arith, size)) are.1 have.1,
)

-- who has a number is among the requesters' numbers where the name is among the requesters
flags-same : (names : List (List ℕ)) → AreDistinct names → (requesters : List (List ℕ)) (numbers : List ℕ)
    → AreNumbersOf names requesters numbers → (p : ℕ) (name : List ℕ) → IsNumber names name p
    → is_among p numbers ≡ list_any (bytes_eq name) requesters
flags-same names distinct [] [] are p name here = refl
flags-same names distinct [] (q ∷ qs) are p name here = absurd are
flags-same names distinct (r ∷ rs) [] are p name here = absurd are
flags-same names distinct (r ∷ rs) (q ∷ qs) are p name here =
    elim (cases_eq q p) [
      | inl same ↦
          let own : eqb q p ≡ true = grind (arith, nat_tests) in
          let both : Some r ≡ Some name = sym are.0 ∙ ap (slice_get names) same ∙ here in
          let name_is : name ≡ r = cc in
          let yes_there : bytes_eq name r ≡ true = bytes_eq-same name r name_is in
          ap (λ b. cond b true (is_among p qs)) own ∙ sym (ap (λ b. b || list_any (bytes_eq name) rs) yes_there)
      | inr differs ↦
          let other : eqb q p ≡ false = grind (arith, nat_tests) in
          let apart : bytes_eq name r ≡ false =
          false_from_ne_true (bytes_eq name r)
          (λ e. differs (distinct q p name (are.0 ∙ ap Some (sym (bytes_eq-true name r e))) here)) in
          ap (λ b. cond b true (is_among p qs)) other ∙ flags-same names distinct rs qs are.1 p name here
          ∙ sym (ap (λ b. b || list_any (bytes_eq name) rs) apart)
    ]

have-numbers : (names : List (List ℕ)) (requesters : List (List ℕ)) (numbers : List ℕ)
    → AreNumbersOf names requesters numbers → HaveNumbers requesters names
have-numbers names [] [] are name asks_it = absurd (cc)
have-numbers names [] (q ∷ qs) are name asks_it = absurd are
have-numbers names (r ∷ rs) [] are name asks_it = absurd are
have-numbers names (r ∷ rs) (q ∷ qs) are name asks_it =
    by (bytes_eq name r) refl (λ h. have-numbers names rs qs are.1 name h)
  where
    by : (b : Bool) → bytes_eq name r ≡ b → (list_any (bytes_eq name) rs ≡ true → (p : ℕ) × IsNumber names name p)
        → (p : ℕ) × IsNumber names name p
    by true e rest = (q, are.0 ∙ ap Some (sym (bytes_eq-true name r e)))
    by false e rest = rest (sym (ap (λ b. b || list_any (bytes_eq name) rs) e) ∙ asks_it)

pub bases-state : BasesStateQueries
bases-state parts names base is sized asked live numbers some size are =
    let n : ℕ = length base.requesters in
    let flags : List Bool = flags_from numbers 0 n in
    let tests : List Bool = map (λ name. list_any (bytes_eq name) asked.requesters) names in
    let count : length flags ≡ n = length-flags numbers 0 n in
    let long : length tests ≡ length names = simp length-map in
    let flagged : flags ≡ tests =
    ext_get_or false flags tests (count ∙ sym sized ∙ sym long) (λ p l.
    let within : p < length names = omega (arith, l, count, sized) in
    let name : List ℕ = get_or names p [] in
    let here : IsNumber names name p = slice_get-get_or names p [] within in
    let z : 0 + p ≡ p = omega arith in
    flag-at numbers 0 n p false (omega (arith, l, count)) ∙ ap (λ q. is_among q numbers) z
    ∙ flags-same names is.distinct asked.requesters numbers are p name here
    ∙ sym (get_or-map (λ x. list_any (bytes_eq x) asked.requesters) names p [] false within)) in
    let ceilings : List ℕ = ceilings_of asked parts live in
    record {
      numbered = record { first = is.first; distinct = is.distinct; flagged = flagged };
      all = have-numbers names asked.requesters numbers are;
      top = omega (arith, some);
      rows = rows-queried (length asked.values - 1) names asked parts live base.rows ceilings 0 size is.rows
          (are-ceilings ceilings 0 (kept_of asked parts live) (λ j. let z : 0 + j ≡ j = omega arith in
          ap (slice_index ceilings) z));
    }

-- the statements of those that are still there
pub live-kept : (asked : Asked) (parts : List Part) (live : List Bool)
    → live_statements (kept_of asked parts live) ≡ map (statement_of asked) (live_parts parts live)
live-kept asked [] live = refl
live-kept asked (part ∷ parts) [] = refl
live-kept asked (part ∷ parts) (true ∷ live) = ap (λ ss. statement_of asked part ∷ ss) (live-kept asked parts live)
live-kept asked (part ∷ parts) (false ∷ live) = live-kept asked parts live

pub length-kept : (asked : Asked) (parts : List Part) (live : List Bool) → length live ≡ length parts
    → length (kept_of asked parts live) ≡ length parts
length-kept asked [] live size = refl
length-kept asked (part ∷ parts) [] size = absurd (omega (arith, size))
length-kept asked (part ∷ parts) (flag ∷ live) size = ap suc (length-kept asked parts live (omega (arith, size)))

-- the ids of all, in their order
pub ids-kept : (asked : Asked) (parts : List Part) (live : List Bool) → length live ≡ length parts
    → map (λ s. s.id) (capped_statements (kept_of asked parts live)) ≡ map (λ part. part.id) parts
ids-kept asked [] live size = refl
ids-kept asked (part ∷ parts) [] size = absurd (omega (arith, size))
ids-kept asked (part ∷ parts) (flag ∷ live) size =
    ap (λ ids. part.id ∷ ids) (ids-kept asked parts live (omega (arith, size)))

-- requesters are others than the policy
pub others-numbered : (names : List (List ℕ)) (n : ℕ) → length names ≡ n → IsNumber names policy 0
    → (requesters : List (List ℕ)) (numbers : List ℕ) → AreNumbersOf names requesters numbers
    → list_any (bytes_eq policy) requesters ≡ false → All (IsOther n) numbers
others-numbered names n size first [] [] are none = All-nil (IsOther n)
others-numbered names n size first [] (p ∷ ps) are none = absurd are
others-numbered names n size first (r ∷ rs) [] are none = absurd are
others-numbered names n size first (r ∷ rs) (p ∷ ps) are none =
    let (own, rest) = neither (bytes_eq policy r) (list_any (bytes_eq policy) rs) none in
    let within : p < length names = slice_get_within names p r are.0 in
    All-cons (IsOther n) p ps (
      above p (λ zero_there.
          let both : Some policy ≡ Some r = sym first ∙ ap (slice_get names) (sym zero_there) ∙ are.0 in
          let same : policy ≡ r = cc in
          true≢false (sym (bytes_eq-same policy r same) ∙ own)),
      omega (arith, within, size),
    )
    (others-numbered names n size first rs ps are.1 rest)
  where
    above : (p : ℕ) → (p ≡ 0 → ⊥) → 0 < p
    above zero h = absurd (h refl)
    above (suc p) h = omega arith
