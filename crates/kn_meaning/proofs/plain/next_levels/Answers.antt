use Rattle.std.proofs.Common.{◌∙◌, ◌∷◌, [], ◌++◌, ap, sym, take}
use Rattle.kn_meaning.proofs.Tables.{next_levels_take}
use Rattle.kn_meaning.specs.Equations.{round}
use Rattle.kn_meaning.specs.Tables.{level_in, equations_from, next_levels_of, entry_of}
use Rattle.kn_meaning.proofs.plain.next_levels.Goals as goal

-- what was pushed is the next entry of the next table
pub loop-entry-preserved : goal.loop-entry-preserved
loop-entry-preserved c =
    let e = equations_from c.args.top c.args.requesters.now c.args.statements.now in
    let front = next_levels_of e c.args.table.now (take c.loop-entry.entry-index c.args.table.now) in
    let name = c.in_ok-name.ensures ∙ c.as_slice-in-loop-entry.ensures in
    let level = c.in_ok-level.ensures ∙ ap (round e (level_in c.args.table.now)) c.as_slice.ensures in
    c.in_ok-add.ensures.ok
    ∙ ap (λ so_far. so_far ++ entry_of c.in_ok-name.name c.in_ok-level.level ∷ []) c.loop-entry.invariant
    ∙ ap (λ n. front ++ entry_of n c.in_ok-level.level ∷ []) name
    ∙ ap (λ v. front ++ entry_of c.entry-item.result.name v ∷ []) level
    ∙ sym (next_levels_take e c.args.table.now c.loop-entry.entry-index c.entry-item.result c.loop-entry-test.true
    c.entry-item.is)
