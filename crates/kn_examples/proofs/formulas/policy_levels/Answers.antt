use Rattle.std.proofs.Common.{◌≡◌, sym, codes}
use Rattle.kn_meaning.proofs.Walks.{formula_levels}
use Rattle.kn_examples.proofs.formulas.policy_levels.Goals as goal

pub returns-clause-middle : goal.returns-clause-middle
returns-clause-middle c at least =
    let x : at (codes "x") ≡ 2 = sym (least.solves (codes "x")) in
    let w : at (codes "w") ≡ 2 = sym (least.solves (codes "w")) in
    let z : at (codes "z") ≡ 0 = sym (least.solves (codes "z")) in
    let y : at (codes "y") ≡ 1 = rw (sym (least.solves (codes "y"))) (simp (formula_levels, w)) in
    rw (sym (least.solves (codes "POLICY"))) (simp (formula_levels, x, y, z))

pub returns-clause-highest : goal.returns-clause-highest
returns-clause-highest c at least =
    let x : at (codes "x") ≡ 2 = sym (least.solves (codes "x")) in
    let z : at (codes "z") ≡ 2 = sym (least.solves (codes "z")) in
    let w : at (codes "w") ≡ 0 = sym (least.solves (codes "w")) in
    let y : at (codes "y") ≡ 0 = rw (sym (least.solves (codes "y"))) (simp (formula_levels, w)) in
    rw (sym (least.solves (codes "POLICY"))) (simp (formula_levels, x, y, z))

pub returns-clause-lowest : goal.returns-clause-lowest
returns-clause-lowest c at least =
    let x : at (codes "x") ≡ 2 = sym (least.solves (codes "x")) in
    let w : at (codes "w") ≡ 0 = sym (least.solves (codes "w")) in
    let z : at (codes "z") ≡ 0 = sym (least.solves (codes "z")) in
    let y : at (codes "y") ≡ 0 = rw (sym (least.solves (codes "y"))) (simp (formula_levels, w)) in
    rw (sym (least.solves (codes "POLICY"))) (simp (formula_levels, x, y, z))
