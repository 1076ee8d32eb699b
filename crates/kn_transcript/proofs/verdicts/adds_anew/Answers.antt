use Rattle.std.proofs.Common.{◌∙◌, ap, sym}
use Rattle.std.specs.Prelude.{not}
use Rattle.kn_wire.specs.ItemsInCode as C
use Rattle.kn_transcript.proofs.PlaceLaws.{anew_added, anew_dropped}
use Rattle.kn_transcript.proofs.verdicts.adds_anew.Goals as goal

pub returns-in-Add : goal.returns-in-Add
returns-in-Add c =
    ap not c.is_among.ensures
    ∙ sym (anew_added c.args.items.now c.args.place _ c.requires c.in-Add.text.now (ap C.item_of c.in-Add.is))

pub returns-in-Remove : goal.returns-in-Remove
returns-in-Remove c =
    sym (anew_dropped c.args.items.now c.args.place _ c.requires c.in-Remove.k (ap C.item_of c.in-Remove.is))
