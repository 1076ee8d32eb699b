use Rattle.std.proofs.Common.{Some, ◌+◌, ◌∙◌, sym, map, arith}
use Rattle.kn_wire.specs.ItemsInCode as C
use Rattle.kn_transcript.proofs.PlaceLaws.{none_behind, verdicts_more, verdicts_again}
use Rattle.kn_transcript.proofs.verdicts.behind_verdicts.Goals as goal
use Rattle.kn_transcript.proofs.verdicts.behind_verdicts.Goals.{in-Some+else-adds_anew, in-None}

pub returns : goal.returns
returns c = record {
  behind = λ place fault rest within anew is_fault.
      c.loop-place.invariant place fault rest (omega (arith, within, c.loop-place-test.false)) anew is_fault;
}

pub loop-place-preserved : goal.loop-place-preserved
loop-place-preserved c =
    let items = map C.item_of c.args.items.now in
    let left = c.args.left.now in
    elim c.match-branch-2.branch [
      | in-Some+else-adds_anew w ↦
          verdicts_again items left c.loop-place.place c.loop-place.invariant (sym w.adds_anew.ensures
          ∙ w.if-adds_anew.false)
      | in-None w ↦
          verdicts_more items left c.loop-place.place c.loop-place.invariant
          (none_behind (λ rest. rest.now) (Some (c.loop-place.place + 1)) left c.in_ok-rest.field-0 w.in-None.is
          c.in_ok-rest.ensures.behind)
    ]
