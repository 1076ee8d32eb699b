-- The steps of a refresh are within its bound.
use Rattle.std.proofs.Common.{◌≡◌, ℕ, ◌+◌, ◌-◌, ◌*◌, ◌≤◌, Bool, true, false, cond, List, [], ◌∷◌, length, refl, ap}
use Rattle.std.proofs.Common.{arith}
use Rattle.std.proofs.lemmas.Nat.{mul-le}
use Rattle.kn_system.specs.Counts.{IsWithin}
use Rattle.kn_system.specs.Equations.{SystemEquations}
use Rattle.kn_settle.proofs.GateClimbs.{within-further, within-more}
use Rattle.kn_system.specs.Rows.{SystemRow}
use Rattle.kn_watch.specs.Affected.{AreAffected, IsSubset, is_affected, affected_nodes, affected_principals}
use Rattle.kn_watch.specs.Affected.{affected_uses, most_refresh_ticks, use_count}
use Rattle.kn_watch.specs.Found.{find_ticks}
use Rattle.kn_watch.specs.Raising.{raise_ticks}
use Rattle.kn_watch.specs.declared.changed.Changed.{Changed}
use Rattle.kn_watch.proofs.Sums.{sum_over-among, sum_over-linear}

find-fits : (s : SystemEquations) (affected : List Bool)
    → find_ticks s affected ≡ affected_uses s affected * (affected_nodes affected s.rows + 1)
    + affected_principals affected
find-fits s affected = sum_over-linear (use_count s) (affected_nodes affected s.rows + 1) 0 affected

-- finding and raising are all
refresh-fits : (s : SystemEquations) (affected : List Bool)
    → find_ticks s affected + raise_ticks s affected ≡ most_refresh_ticks s affected
refresh-fits s affected = ap (λ t. t + raise_ticks s affected) (find-fits s affected)

one-among : (b c : Bool) (n : ℕ) → (b ≡ true → c ≡ true) → cond b n 0 ≤ cond c n 0
one-among true c n h = let there : cond c n 0 ≡ n = ap (λ d. cond d n 0) (h refl) in omega arith
one-among false c n h = omega arith

-- more principals have no fewer nodes
nodes-among : (flags others : List Bool) → IsSubset flags others → (rows : List SystemRow)
    → affected_nodes flags rows ≤ affected_nodes others rows
nodes-among flags others h [] = omega arith
nodes-among flags others h (row ∷ rows) =
    let rest = nodes-among flags others h rows in
    let first = one-among (is_affected flags row.authorizer) (is_affected others row.authorizer) (length row.formula)
    (h row.authorizer) in
    omega (arith, rest, first)

raise-among : (s : SystemEquations) (flags others : List Bool) → IsSubset flags others
    → raise_ticks s flags ≤ raise_ticks s others
raise-among s flags others h =
    let top : ℕ = s.levels - 1 in
    let nodes : affected_nodes flags s.rows ≤ affected_nodes others s.rows = nodes-among flags others h s.rows in
    let people : affected_principals flags ≤ affected_principals others = sum_over-among (λ _. 1) 0 flags others h in
    let levels : affected_principals flags * top ≤ affected_principals others * top =
    mul-le (affected_principals flags) top (affected_principals others) top people (omega arith) in
    mul-le (affected_nodes flags s.rows) (affected_principals flags * top + 1) (affected_nodes others s.rows)
    (affected_principals others * top + 1) nodes (omega arith)

-- the steps of finding alone
pub found-ticks : (s : SystemEquations) (affected : List Bool) (old new : ℕ) → IsWithin (find_ticks s affected) old new
    → IsWithin (most_refresh_ticks s affected) old new
found-ticks s affected old new w = let all = refresh-fits s affected in
    within-more (find_ticks s affected) (most_refresh_ticks s affected) old new (omega (arith, all)) w

-- and of raising those who were found
pub refreshed-ticks : (s : SystemEquations) (changed : List Changed) (flags affected : List Bool) (old mid new : ℕ)
    → AreAffected s changed flags → AreAffected s changed affected → IsWithin (find_ticks s affected) old mid
    → IsWithin (raise_ticks s flags) mid new → IsWithin (most_refresh_ticks s affected) old new
refreshed-ticks s changed flags affected old mid new found are w x =
    let all = refresh-fits s affected in
    let fewer = raise-among s flags affected (found.least affected are.changed_rows are.users) in
    within-more (find_ticks s affected + raise_ticks s flags) (most_refresh_ticks s affected) old new
    (omega (arith, all, fewer)) (within-further (find_ticks s affected) (raise_ticks s flags) old mid new w x)
