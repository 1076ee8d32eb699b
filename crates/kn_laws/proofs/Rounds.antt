-- One round: it keeps the order of levels, and stays at or below the top.
use Rattle.std.proofs.Common.{ℕ, ◌<◌, ◌≤◌, true, false, cond, List, [], ◌∷◌, max, Option, Some, None, inl, inr, arith}
use Rattle.std.specs.Str.{bytes_eq}
use Rattle.std.proofs.lemmas.Bool.{cases_lt}
use Rattle.kn_trees.specs.declared.formula.Formula.{Formula}
use Rattle.kn_meaning.specs.Formulas.{Levels}
use Rattle.kn_meaning.specs.Equations.{Equations, Statement, licensees_level, worth, highest_worth, is_requester, round}
use Rattle.kn_laws.proofs.Climb.{Carries, formula_level-carried, formula_level-le}

-- no level of the first is above that of the second
abbrev pub Below : Levels → Levels → Type 0
Below at other = (name : List ℕ) → at name ≤ other name

licensees_level-carried : (u top : ℕ) (at other : Levels) → 0 < u → Carries u at other → (licensees : Option Formula)
    → u ≤ licensees_level top at licensees → u ≤ licensees_level top other licensees
licensees_level-carried u top at other some c None l = l
licensees_level-carried u top at other some c (Some formula) l = formula_level-carried u top at other some c formula l

pub worth-carried : (u top : ℕ) (at other : Levels) → 0 < u → Carries u at other → (s : Statement) → u ≤ worth top at s
    → u ≤ worth top other s
worth-carried u top at other some c s l =
    let licensees : u ≤ licensees_level top at s.licensees → u ≤ licensees_level top other s.licensees =
    licensees_level-carried u top at other some c s.licensees in
    omega arith

-- higher levels make a statement worth more
pub worth-below : (top : ℕ) (at other : Levels) → Below at other → (s : Statement) → worth top at s ≤ worth top other s
worth-below top at other b s =
    let u : ℕ = worth top at s in
    elim (cases_lt 0 u) [
      | inl some ↦ worth-carried u top at other some (λ name l. let le = b name in omega arith) s (omega arith)
      | inr none ↦ omega arith
    ]

pub highest_worth-below : (top : ℕ) (at other : Levels) → Below at other → (name : List ℕ) (ss : List Statement)
    → highest_worth top at name ss ≤ highest_worth top other name ss
highest_worth-below top at other b name [] = omega arith
highest_worth-below top at other b name (s ∷ ss) =
    let first = worth-below top at other b s in
    let rest = highest_worth-below top at other b name ss in
    elim (bytes_eq s.authorizer name) as (λ t. max (cond t (worth top at s) 0) (highest_worth top at name ss)
    ≤ max (cond t (worth top other s) 0) (highest_worth top other name ss)) [
      | true ↦ omega arith
      | false ↦ omega arith
    ]

-- a round of higher levels gives higher levels
pub round-below : (e : Equations) (at other : Levels) → Below at other → Below (round e at) (round e other)
round-below e at other b name =
    let others = highest_worth-below e.top at other b name e.statements in
    elim (is_requester e name) as (λ t. cond t e.top (highest_worth e.top at name e.statements)
    ≤ cond t e.top (highest_worth e.top other name e.statements)) [
      | true ↦ omega arith
      | false ↦ omega arith
    ]

licensees_level-le : (top : ℕ) (at : Levels) → ((name : List ℕ) → at name ≤ top) → (licensees : Option Formula)
    → licensees_level top at licensees ≤ top
licensees_level-le top at low None = omega arith
licensees_level-le top at low (Some formula) = formula_level-le top at low formula

-- where no level is above the top, no assertion is worth more
pub worth-le : (top : ℕ) (at : Levels) → ((name : List ℕ) → at name ≤ top) → (s : Statement) → worth top at s ≤ top
worth-le top at low s = let licensees = licensees_level-le top at low s.licensees in omega arith

highest_worth-le : (top : ℕ) (at : Levels) → ((name : List ℕ) → at name ≤ top) → (name : List ℕ) (ss : List Statement)
    → highest_worth top at name ss ≤ top
highest_worth-le top at low name [] = omega arith
highest_worth-le top at low name (s ∷ ss) =
    let first = worth-le top at low s in
    let rest = highest_worth-le top at low name ss in
    elim (bytes_eq s.authorizer name) as (λ t. max (cond t (worth top at s) 0) (highest_worth top at name ss) ≤ top) [
      | true ↦ omega arith
      | false ↦ omega arith
    ]

-- where no level is above the top, none is after a round
pub round-le : (e : Equations) (at : Levels) → ((name : List ℕ) → at name ≤ e.top) → (name : List ℕ)
    → round e at name ≤ e.top
round-le e at low name =
    let others = highest_worth-le e.top at low name e.statements in
    elim (is_requester e name) as (λ t. cond t e.top (highest_worth e.top at name e.statements) ≤ e.top) [
      | true ↦ omega arith
      | false ↦ omega arith
    ]
