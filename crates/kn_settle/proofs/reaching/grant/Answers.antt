use Rattle.std.proofs.Common.{◌<◌, ℕ, List, sym, subst}
use Rattle.kn_proof.specs.declared.row.Row.{Row as ProofRow}
use Rattle.kn_system.specs.Equations.{SystemEquations}
use Rattle.kn_system.specs.Lawful.{IsGranted}
use Rattle.kn_system.specs.Settled.{IsSettled, count_unsettled}
use Rattle.kn_settle.proofs.RowGrants.{settled_read, fewer_read}
use Rattle.kn_settle.proofs.reaching.grant.Goals as goal

pub returns-in-Ok-reach-clause-settled : goal.returns-in-Ok-reach-clause-settled
returns-in-Ok-reach-clause-settled g c =
    let s : SystemEquations = c.args.system.now in
    let levels : List ℕ = c.args.levels.now.values.items in
    let rows : List ProofRow = c.args.rows.now in
    let granted : IsGranted s c.args.value levels rows c.args.row =
    c.settling_grants.ensures s c.args.value levels rows c.args.row c.requires.well_formed c.requires.above_lowest
    c.requires.settled c.requires.granted in
    subst (λ (ls : List ℕ). IsSettled s c.args.value ls c.push.new.self) (sym c.in-Ok-reach.ensures.levels)
    (settled_read s c.args.value c.authorizer-principal.result c.args.row levels rows c.push.new.self
    c.authorizer-principal.ensures.exact c.in-Ok.ensures.ok granted)

pub returns-in-Ok-reach-clause-fewer : goal.returns-in-Ok-reach-clause-fewer
returns-in-Ok-reach-clause-fewer g c =
    let s : SystemEquations = c.args.system.now in
    let levels : List ℕ = c.args.levels.now.values.items in
    let rows : List ProofRow = c.args.rows.now in
    let granted : IsGranted s c.args.value levels rows c.args.row =
    c.settling_grants.ensures s c.args.value levels rows c.args.row c.requires.well_formed c.requires.above_lowest
    c.requires.settled c.requires.granted in
    subst (λ (ls : List ℕ). count_unsettled ls < count_unsettled levels) (sym c.in-Ok-reach.ensures.levels)
    (fewer_read s c.args.value c.authorizer-principal.result c.args.row levels rows
    c.authorizer-principal.ensures.exact granted)
