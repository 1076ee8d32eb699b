-- The rounds of the equations and their least levels (RFC 2704, section 5).
use Rattle.std.specs.Prelude.{ℕ, suc, zero, ◌+◌, ◌-◌, ◌*◌, ◌==◌, Bool, List, [], ◌∷◌, length, map, min, max}
use Rattle.std.specs.Prelude.{if◌then◌else◌}
use Rattle.kn_system.specs.Form.{form_level}
use Rattle.kn_system.specs.Rows.{SystemRow}
use Rattle.kn_system.specs.Equations.{SystemEquations}

-- what a row is worth: the lower of its ceiling and the level of its formula
abbrev pub worth : ℕ → List ℕ → SystemRow → ℕ
worth top levels row = min row.ceiling (form_level top levels row.formula)

-- the highest worth among the rows of this authorizer, and 0 where there is none
abbrev pub highest_worth : ℕ → List ℕ → ℕ → List SystemRow → ℕ
highest_worth top levels p [] = 0
highest_worth top levels p (row ∷ rows) =
    max (if row.authorizer == p then worth top levels row else 0) (highest_worth top levels p rows)

-- the level of a principal after a round: a requester has the top, and another the highest worth among its rows
abbrev pub round_at : ℕ → List SystemRow → List ℕ → ℕ → Bool → ℕ
round_at top rows levels p requester = if requester then top else highest_worth top levels p rows

-- the levels of the principals from p on after a round
abbrev pub round_from : ℕ → List SystemRow → List ℕ → ℕ → List Bool → List ℕ
round_from top rows levels p [] = []
round_from top rows levels p (requester ∷ requesters) =
    round_at top rows levels p requester ∷ round_from top rows levels (p + 1) requesters

-- the levels of all principals after a round
abbrev pub round : SystemEquations → List ℕ → List ℕ
round s levels = round_from (s.levels - 1) s.rows levels 0 s.requesters

-- requesters have the top, and all others 0
abbrev pub at_first : SystemEquations → List ℕ
at_first s = map (λ requester. if requester then s.levels - 1 else 0) s.requesters

-- so many rounds
abbrev pub rounds : SystemEquations → ℕ → List ℕ → List ℕ
rounds s zero levels = levels
rounds s (suc n) levels = rounds s n (round s levels)

-- as many rounds as there are principals times the top
abbrev pub least_levels : SystemEquations → List ℕ
least_levels s = rounds s (length s.requesters * (s.levels - 1)) (at_first s)
