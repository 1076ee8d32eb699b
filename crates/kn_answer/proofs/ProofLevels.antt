-- The levels that rows of a proof give, by name and by number.
use Rattle.std.proofs.Common.{◌≡◌, ℕ, ◌+◌, ◌-◌, ◌<◌, ◌≤◌, Bool, true, false, cond, ◌||◌, All, List, [], ◌∷◌, ◌++◌}
use Rattle.std.proofs.Common.{slice_get, slice_index, slice_set, length, map, Some, inl, inr, refl, sym, ap, ◌∙◌, subst}
use Rattle.std.proofs.Common.{arith, true≢false}
use Rattle.std.specs.List.{list_any}
use Rattle.std.specs.Str.{bytes_eq}
use Rattle.std.proofs.lemmas.Bool.{cases_eq, false_from_ne_true}
use Rattle.std.proofs.lemmas.List.{length-map, length-set, get_or-set_same, get_or-set_other}
use Rattle.std.proofs.lemmas.Simd.{map-map}
use Rattle.std.proofs.lemmas.List.Elements.{All-nil, All-push, All-head, All-tail}
use Rattle.std.proofs.lemmas.Option.{slice_get_within}
use Rattle.kn_proof.specs.declared.named.NamedRow.{NamedRow}
use Rattle.kn_meaning.specs.Equations.{Equations, is_requester}
use Rattle.kn_meaning.specs.Proofs.{row_level, levels_by}
use Rattle.kn_system.specs.Equations.{SystemEquations}
use Rattle.kn_system.specs.Least.{at_first}
use Rattle.kn_rows.specs.Numbering.{IsNumber, AreDistinct, HaveLevels, IsSystemOf}
use Rattle.kn_rows.proofs.Names.{bytes_eq-same, bytes_eq-true}
use Rattle.kn_answer.proofs.NamedLevels.{map-have}

-- neither of two is true
pub neither : (a b : Bool) → (a || b) ≡ false → (a ≡ false) × (b ≡ false)
neither true b e = absurd (true≢false e)
neither false b e = (refl, e)

-- a row that stands behind others says nothing of other principals
row_level-other : (rows : List NamedRow) (row : NamedRow) (name : List ℕ) → bytes_eq row.principal name ≡ false
    → row_level (rows ++ row ∷ []) name ≡ row_level rows name
row_level-other [] row name other = ap (λ b. cond b row.value 0) other
row_level-other (r ∷ rows) row name other =
    ap (λ l. cond (bytes_eq r.principal name) r.value l) (row_level-other rows row name other)

-- and gives its own principal its level, where it is in none of them
row_level-own : (rows : List NamedRow) (row : NamedRow)
    → list_any (λ r. bytes_eq r.principal row.principal) rows ≡ false
    → row_level (rows ++ row ∷ []) row.principal ≡ row.value
row_level-own [] row fresh = ap (λ b. cond b row.value 0) (bytes_eq-same row.principal row.principal refl)
row_level-own (r ∷ rows) row fresh =
    let both = neither (bytes_eq r.principal row.principal) (list_any (λ x. bytes_eq x.principal row.principal) rows)
    fresh in
    ap (λ b. cond b r.value (row_level (rows ++ row ∷ []) row.principal)) both.0 ∙ row_level-own rows row both.1

-- who is in no row has the level 0
pub row_level-none : (rows : List NamedRow) (name : List ℕ) → list_any (λ r. bytes_eq r.principal name) rows ≡ false
    → row_level rows name ≡ 0
row_level-none [] name fresh = refl
row_level-none (r ∷ rows) name fresh =
    let both = neither (bytes_eq r.principal name) (list_any (λ x. bytes_eq x.principal name) rows) fresh in
    ap (λ b. cond b r.value (row_level rows name)) both.0 ∙ row_level-none rows name both.1

-- and where no row gives the level 0, who has it is in none
pub row_level-zero : (rows : List NamedRow) (name : List ℕ) → All (λ r. 1 ≤ r.value) rows → row_level rows name ≡ 0
    → list_any (λ r. bytes_eq r.principal name) rows ≡ false
row_level-zero [] name above zero = refl
row_level-zero (r ∷ rows) name above zero =
    by (bytes_eq r.principal name) refl
    (λ none. row_level-zero rows name (All-tail (λ x. 1 ≤ x.value) r rows above) none)
  where
    by : (b : Bool) → bytes_eq r.principal name ≡ b
        → (row_level rows name ≡ 0 → list_any (λ x. bytes_eq x.principal name) rows ≡ false)
        → (bytes_eq r.principal name || list_any (λ x. bytes_eq x.principal name) rows) ≡ false
    by true e rest =
        let here : row_level (r ∷ rows) name ≡ r.value = ap (λ b. cond b r.value (row_level rows name)) e in
        let some : 1 ≤ r.value = All-head (λ x. 1 ≤ x.value) r rows above in
        absurd (omega arith)
    by false e rest =
        ap (λ b. b || list_any (λ x. bytes_eq x.principal name) rows) e
        ∙ rest (sym (ap (λ b. cond b r.value (row_level rows name)) e) ∙ zero)

-- After these rows the principals have these levels, and none of the rows gives the level 0.
pub record HaveFollowed (e : Equations) (names : List (List ℕ)) (before : List NamedRow) (levels : List ℕ) :
    Type 0 where
  pub have : HaveLevels names (levels_by e before) levels
  pub size : length levels ≡ length names
  pub above : All (λ r. 1 ≤ r.value) before

-- before any row
pub HaveFollowed-none : (e : Equations) (names : List (List ℕ)) (s : SystemEquations) → IsSystemOf e names s
    → HaveFollowed e names [] (at_first s)
HaveFollowed-none e names s of =
    let top : s.levels - 1 ≡ e.top = let t : s.levels ≡ e.top + 1 = of.top in omega arith in
    let first : at_first s ≡ map (levels_by e []) names =
    ap (λ flags. map (λ b. cond b (s.levels - 1) 0) flags) of.numbered.flagged
    ∙ ap (λ t. map (λ b. cond b t 0) (map (is_requester e) names)) top
    ∙ map-map (λ b. cond b e.top 0) (is_requester e) names in
    record {
      have = subst (HaveLevels names (levels_by e [])) (sym first) (map-have names (levels_by e []));
      size = ap length first ∙ simp length-map;
      above = All-nil (λ (r : NamedRow). 1 ≤ r.value);
    }

-- after one more
pub HaveFollowed-row : (e : Equations) (names : List (List ℕ)) → AreDistinct names
    → (before : List NamedRow) (levels : List ℕ) → HaveFollowed e names before levels → (row : NamedRow) (p : ℕ)
    → IsNumber names row.principal p
    → is_requester e row.principal ≡ false → list_any (λ r. bytes_eq r.principal row.principal) before ≡ false
    → 1 ≤ row.value
    → HaveFollowed e names (before ++ row ∷ []) (slice_set levels p row.value)
HaveFollowed-row e names distinct before levels followed row p number other fresh above = record {
  have = λ q name there. at q name there;
  size = length-set levels p row.value ∙ followed.size;
  above = All-push (λ r. 1 ≤ r.value) before row followed.above above;
}
  where
    within : p < length levels
    within = let l : p < length names = slice_get_within names p row.principal number in
        let size : length levels ≡ length names = followed.size in omega arith

    own : levels_by e (before ++ row ∷ []) row.principal ≡ row.value
    own = ap (λ b. cond b e.top (row_level (before ++ row ∷ []) row.principal)) other ∙ row_level-own before row fresh

    at : (q : ℕ) (name : List ℕ) → IsNumber names name q
        → slice_index (slice_set levels p row.value) q ≡ levels_by e (before ++ row ∷ []) name
    at q name there =
        elim (cases_eq q p) [
          | inl same ↦
              let both : Some row.principal ≡ Some name = sym number ∙ ap (slice_get names) (sym same) ∙ there in
              let name_is : row.principal ≡ name = cc in
              ap (slice_index (slice_set levels p row.value)) same ∙ get_or-set_same levels p row.value 0 within
              ∙ sym own ∙ ap (levels_by e (before ++ row ∷ [])) name_is
          | inr differs ↦
              let apart : bytes_eq row.principal name ≡ false =
              false_from_ne_true (bytes_eq row.principal name)
              (λ e. differs (distinct q p name there (number ∙ ap Some (bytes_eq-true row.principal name e)))) in
              get_or-set_other levels p q row.value 0 differs
              ∙ followed.have q name there
              ∙ sym (ap (λ l. cond (is_requester e name) e.top l) (row_level-other before row name apart))
        ]
