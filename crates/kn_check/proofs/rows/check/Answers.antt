use Rattle.std.proofs.Common.{◌≡◌, ℕ, List, slice_index, ap, subst, arith}
use Rattle.kn_proof.specs.declared.row.Row.{Row as ProofRow}
use Rattle.kn_system.specs.Equations.{SystemEquations}
use Rattle.kn_system.specs.Least.{at_first}
use Rattle.kn_system.specs.Proofs.{levels_after, IsClosed, IsProof}
use Rattle.kn_check.proofs.ProofsAccepted.{proof-refused, reject-row}
use Rattle.kn_check.proofs.rows.check.Goals as goal

pub returns-in_err-follow_rows-clause-only : goal.returns-in_err-follow_rows-clause-only
returns-in_err-follow_rows-clause-only g c = λ proof.
    let s : SystemEquations = c.args.system.now in
    let rows : List ProofRow = c.args.proof.now.rows in
    let fault = c.in_err-follow_rows.ensures.err in
    absurd (proof-refused s rows c.args.claimed _ proof (reject-row s rows c.args.claimed _ fault.0 fault.1))

pub returns-clause-least : goal.returns-clause-least
returns-clause-least g c =
    let s : SystemEquations = c.args.system.now in
    let rows : List ProofRow = c.args.proof.now.rows in
    let after : c.follow_rows.new.levels ≡ levels_after (at_first s) rows = c.in_ok-follow_rows.ensures.after in
    let proof : IsProof s rows c.args.claimed = record {
      steps = c.in_ok-follow_rows.ensures.ok;
      closed = subst (IsClosed s) after c.in_ok-test_closed.ensures.ok;
      claim = let same : slice_index c.follow_rows.new.levels 0 ≡ slice_index (levels_after (at_first s) rows) 0 =
          ap (λ (levels : List ℕ). slice_index levels 0) after in omega arith;
    } in
    (c.proof_determines_level.ensures s rows c.args.claimed proof).claim
