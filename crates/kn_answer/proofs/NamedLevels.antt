-- The least levels of a system over numbers are those of the query over named principals that it stands for.
use Rattle.std.proofs.Common.{◌≡◌, ℕ, suc, zero, ◌+◌, ◌-◌, ◌<◌, ◌≤◌, ◌⊎◌, Bool, false, cond, eqb, List, [], ◌∷◌}
use Rattle.std.proofs.Common.{slice_get, slice_index, get_or, length, map, max, Some, inl, inr, refl, sym, ap, ◌∙◌}
use Rattle.std.proofs.Common.{arith}
use Rattle.std.specs.Str.{bytes_eq}
use Rattle.std.proofs.lemmas.Bool.{cases_lt, eqb-true, eq-eqb, false_from_ne_true}
use Rattle.std.proofs.lemmas.Slice.Eq.{bytes_eq-Decides}
use Rattle.std.specs.Bool.{one_answer}
use Rattle.std.specs.Option.{option_map}
use Rattle.std.proofs.lemmas.List.{length-map}
use Rattle.std.proofs.lemmas.Option.{slice_get_within, get_or_from_slice_get, slice_get-map, slice_get-get_or}
use Rattle.kn_principal.specs.Principals.{policy}
use Rattle.kn_meaning.specs.Formulas.{Levels}
use Rattle.kn_meaning.specs.Equations.{Equations, Statement, is_requester, licensees_level, IsPolicyLevel}
use Rattle.kn_meaning.specs.Equations as named
use Rattle.kn_system.specs.Rows.{SystemRow}
use Rattle.kn_system.specs.Equations.{SystemEquations}
use Rattle.kn_system.specs.Form.{form_level}
use Rattle.kn_system.specs.Least.{worth, highest_worth, round_at, round_from, round}
use Rattle.kn_system.specs.Lawful.{IsLeast}
use Rattle.kn_system.specs.Order.{Below}
use Rattle.kn_rows.specs.Numbering.{IsNumber, IsAbsent, AreDistinct, HaveLevels, IsRowOf, AreRowsOf, IsSystemOf}
use Rattle.kn_rows.proofs.Names.{bytes_eq-true, number_or_none}

-- whether a principal has a number, with it
abbrev pub MayHave : List (List ℕ) → List ℕ → Type 0
MayHave names name = ((p : ℕ) × IsNumber names name p) ⊎ IsAbsent names name

abbrev pub level_found : (levels : List ℕ) (names : List (List ℕ)) (name : List ℕ) → MayHave names name → ℕ
level_found levels names name (inl number) = slice_index levels number.0
level_found levels names name (inr none) = 0

-- the level that a principal has by its number, and 0 where it has none
abbrev pub level_at : List ℕ → List (List ℕ) → Levels
level_at levels names name = level_found levels names name (number_or_none names name)

level_found-here : (levels : List ℕ) (names : List (List ℕ)) → AreDistinct names → (p : ℕ) (name : List ℕ)
    → IsNumber names name p → (found : MayHave names name) → slice_index levels p ≡ level_found levels names name found
level_found-here levels names distinct p name here (inl number) =
    ap (slice_index levels) (distinct p number.0 name here number.1)
level_found-here levels names distinct p name here (inr none) = absurd (none p here)

pub level_at-have : (levels : List ℕ) (names : List (List ℕ)) → AreDistinct names
    → HaveLevels names (level_at levels names) levels
level_at-have levels names distinct p name here =
    level_found-here levels names distinct p name here (number_or_none names name)

-- levels by names, put in the order of the numbers
pub map-have : (names : List (List ℕ)) (at : Levels) → HaveLevels names at (map at names)
map-have names at p name here = get_or_from_slice_get (map at names) p (at name) 0 (slice_get-map at names p
    ∙ ap (option_map at) here)

-- the number of an authorizer is this one exactly where the names are equal
same_test : (names : List (List ℕ)) → AreDistinct names → (q p : ℕ) (author name : List ℕ) → IsNumber names author q
    → IsNumber names name p → eqb q p ≡ bytes_eq author name
same_test names distinct q p author name theirs here =
    one_answer (eqb q p) (bytes_eq author name) (
      (λ e. let same : q ≡ p = eqb-true q p e in let both : Some author ≡ Some name = sym theirs
          ∙ ap (slice_get names) same ∙ here in cc),
      (λ e. eq-eqb q p (distinct q p author theirs (here ∙ ap Some (sym e)))),
    )
    (bytes_eq-Decides author name)

-- a row is worth what its statement is
pub worth-same : (top : ℕ) (names : List (List ℕ)) (at : Levels) (levels : List ℕ) → HaveLevels names at levels
    → (statement : Statement) (row : SystemRow) → IsRowOf top names statement row
    → worth top levels row ≡ named.worth top at statement
worth-same top names at levels have statement row is =
    let licensees : form_level top levels row.formula ≡ licensees_level top at statement.licensees =
    is.licensees at levels have in
    let ceiling : row.ceiling ≡ statement.ceiling = is.ceiling in
    cc

-- the highest worth is the same by number and by name
pub highest_worth-same : (top : ℕ) (names : List (List ℕ)) (at : Levels) (levels : List ℕ) → AreDistinct names
    → HaveLevels names at levels → (p : ℕ) (name : List ℕ) → IsNumber names name p
    → (statements : List Statement) (rows : List SystemRow) → AreRowsOf top names statements rows
    → highest_worth top levels p rows ≡ named.highest_worth top at name statements
highest_worth-same top names at levels distinct have p name here [] [] are = refl
highest_worth-same top names at levels distinct have p name here [] (row ∷ rows) are = absurd are
highest_worth-same top names at levels distinct have p name here (s ∷ statements) [] are = absurd are
highest_worth-same top names at levels distinct have p name here (s ∷ statements) (row ∷ rows) are =
    let test : eqb row.authorizer p ≡ bytes_eq s.authorizer name =
    same_test names distinct row.authorizer p s.authorizer name are.0.authorizer here in
    let value : worth top levels row ≡ named.worth top at s = worth-same top names at levels have s row are.0 in
    let rest : highest_worth top levels p rows ≡ named.highest_worth top at name statements =
    highest_worth-same top names at levels distinct have p name here statements rows are.1 in
    let first : cond (eqb row.authorizer p) (worth top levels row) 0
    ≡ cond (bytes_eq s.authorizer name) (named.worth top at s) 0 = ap (λ b. cond b (worth top levels row) 0) test
    ∙ ap (λ w. cond (bytes_eq s.authorizer name) w 0) value in
    ap (λ w. max w (highest_worth top levels p rows)) first
    ∙ ap (max (cond (bytes_eq s.authorizer name) (named.worth top at s) 0)) rest

-- who has no number is no authorizer
pub highest_worth-none : (top : ℕ) (names : List (List ℕ)) (at : Levels) (name : List ℕ) → IsAbsent names name
    → (statements : List Statement) (rows : List SystemRow) → AreRowsOf top names statements rows
    → named.highest_worth top at name statements ≡ 0
highest_worth-none top names at name none [] rows are = refl
highest_worth-none top names at name none (s ∷ statements) [] are = absurd are
highest_worth-none top names at name none (s ∷ statements) (row ∷ rows) are =
    let other : bytes_eq s.authorizer name ≡ false =
    false_from_ne_true (bytes_eq s.authorizer name)
    (λ e. none row.authorizer (are.0.authorizer ∙ ap Some (bytes_eq-true s.authorizer name e))) in
    let rest : named.highest_worth top at name statements ≡ 0 =
    highest_worth-none top names at name none statements rows are.1 in
    ap (λ b. max (cond b (named.worth top at s) 0) (named.highest_worth top at name statements)) other ∙ ap (max 0) rest

-- a level after a round, by its place
pub round_from-at : (top : ℕ) (rows : List SystemRow) (levels : List ℕ) (flag : List ℕ → Bool) (names : List (List ℕ))
    (q p : ℕ) (name : List ℕ) → IsNumber names name p → slice_index (round_from top rows levels q (map flag names)) p
    ≡ round_at top rows levels (q + p) (flag name)
round_from-at top rows levels flag [] q p name here = absurd (let within : p < 0 = slice_get_within [] p name here in
    omega arith)
round_from-at top rows levels flag (n ∷ names) q zero name here =
    let same : n ≡ name = cc in
    let place : q + 0 ≡ q = omega arith in
    ap (λ k. round_at top rows levels k (flag n)) (sym place) ∙ ap (λ m. round_at top rows levels (q + 0) (flag m)) same
round_from-at top rows levels flag (n ∷ names) q (suc p) name here =
    let place : q + 1 + p ≡ q + suc p = omega arith in
    round_from-at top rows levels flag names (q + 1) p name here
    ∙ ap (λ k. round_at top rows levels k (flag name)) place

round_from-past : (top : ℕ) (rows : List SystemRow) (levels : List ℕ) (flags : List Bool) (q p : ℕ) → length flags ≤ p
    → slice_index (round_from top rows levels q flags) p ≡ 0
round_from-past top rows levels [] q p past = refl
round_from-past top rows levels (flag ∷ flags) q zero past = absurd (omega arith)
round_from-past top rows levels (flag ∷ flags) q (suc p) past =
    round_from-past top rows levels flags (q + 1) p (omega arith)

-- a round gives each principal the same level by its number and by its name
pub round-have : (e : Equations) (names : List (List ℕ)) (s : SystemEquations) → IsSystemOf e names s
    → (at : Levels) (levels : List ℕ) → HaveLevels names at levels
    → HaveLevels names (named.round e at) (round s levels)
round-have e names s of at levels have p name here =
    let top : s.levels - 1 ≡ e.top = let t : s.levels ≡ e.top + 1 = of.top in omega arith in
    let highest : highest_worth e.top levels p s.rows ≡ named.highest_worth e.top at name e.statements =
    highest_worth-same e.top names at levels of.numbered.distinct have p name here e.statements s.rows of.rows in
    let place : 0 + p ≡ p = omega arith in
    ap (λ t. slice_index (round_from t s.rows levels 0 s.requesters) p) top
    ∙ ap (λ flags. slice_index (round_from e.top s.rows levels 0 flags) p) of.numbered.flagged
    ∙ round_from-at e.top s.rows levels (is_requester e) names 0 p name here
    ∙ ap (λ k. round_at e.top s.rows levels k (is_requester e name)) place
    ∙ ap (λ w. cond (is_requester e name) e.top w) highest

-- where no round raises levels by name, none does by number
pub raised_by_none-have : (e : Equations) (names : List (List ℕ)) (s : SystemEquations) → IsSystemOf e names s
    → (other : Levels) → ((name : List ℕ) → named.round e other name ≤ other name)
    → Below (round s (map other names)) (map other names)
raised_by_none-have e names s of other raised p =
    elim (cases_lt p (length names)) [
      | inl within ↦
          let name : List ℕ = get_or names p [] in
          let here : IsNumber names name p = slice_get-get_or names p [] within in
          let after : slice_index (round s (map other names)) p ≡ named.round e other name =
          round-have e names s of other (map other names) (map-have names other) p name here in
          let before : slice_index (map other names) p ≡ other name = map-have names other p name here in
          let low : named.round e other name ≤ other name = raised name in
          omega arith
      | inr past ↦
          let same : length s.requesters ≡ length names = ap length of.numbered.flagged ∙ simp length-map in
          let size : length s.requesters ≤ p = omega arith in
          let none : slice_index (round s (map other names)) p ≡ 0 =
          round_from-past (s.levels - 1) s.rows (map other names) s.requesters 0 p size in
          omega arith
    ]

-- who has no number keeps the level 0
round-none : (e : Equations) (names : List (List ℕ)) (s : SystemEquations) → IsSystemOf e names s
    → (at : Levels) (name : List ℕ) → IsAbsent names name → named.round e at name ≡ 0
round-none e names s of at name none =
    let other : is_requester e name ≡ false = false_from_ne_true (is_requester e name) (λ r. let number : (p : ℕ)
    × IsNumber names name p = of.all name r in none number.0 number.1) in
    ap (λ b. cond b e.top (named.highest_worth e.top at name e.statements)) other
    ∙ highest_worth-none e.top names at name none e.statements s.rows of.rows

-- the least levels by number are the least levels by name
pub IsLeast-by_name : (e : Equations) (names : List (List ℕ)) (s : SystemEquations) → IsSystemOf e names s
    → (levels : List ℕ) → IsLeast s levels → named.IsLeast e (level_at levels names)
IsLeast-by_name e names s of levels least = record {
  solves = λ name. solved name (number_or_none names name);
  least = λ other raised name.
      lowest other (least.lowest (map other names) (raised_by_none-have e names s of other raised)) name
      (number_or_none names name);
}
  where
    at : Levels
    at = level_at levels names

    have : HaveLevels names at levels
    have = level_at-have levels names of.numbered.distinct

    solved : (name : List ℕ) (found : MayHave names name) → named.round e at name ≡ level_found levels names name found
    solved name (inl number) = sym (round-have e names s of at levels have number.0 name number.1)
        ∙ ap (λ ls. slice_index ls number.0) least.fixed
    solved name (inr none) = round-none e names s of at name none

    lowest : (other : Levels) → Below levels (map other names) → (name : List ℕ) (found : MayHave names name)
        → level_found levels names name found ≤ other name
    lowest other below name (inl number) =
        let low : slice_index levels number.0 ≤ slice_index (map other names) number.0 = below number.0 in
        let same : slice_index (map other names) number.0 ≡ other name = map-have names other number.0 name number.1 in
        omega arith
    lowest other below name (inr none) = omega arith

-- the level of number 0 is the policy's
pub IsPolicyLevel-by_name : (e : Equations) (names : List (List ℕ)) (s : SystemEquations) → IsSystemOf e names s
    → (levels : List ℕ) → IsLeast s levels → IsPolicyLevel e (slice_index levels 0)
IsPolicyLevel-by_name e names s of levels least = record {
  levels = level_at levels names;
  least = IsLeast-by_name e names s of levels least;
  here = sym (level_at-have levels names of.numbered.distinct 0 policy of.numbered.first);
}
