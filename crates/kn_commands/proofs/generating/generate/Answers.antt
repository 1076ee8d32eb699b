use Rattle.std.proofs.Common.{◌≡◌, ◌∙◌, List, subst}
use Rattle.std.specs.Prelude.{IfOk}
use Rattle.std.specs.Arc.{arc_value}
use Rattle.kn_history.specs.declared.update.Update.{Update}
use Rattle.kn_history.specs.History.{loaded_history}
use Rattle.kn_generate.specs.Generated.{query_over, generated_texts}
use Rattle.kn_generate.specs.Measured.{IsMeasured}
use Rattle.kn_commands.proofs.GenLoads.{looks_loaded}
use Rattle.kn_commands.proofs.generating.generate.Goals as goal

pub returns-clause-measured : goal.returns-clause-measured
returns-clause-measured g c =
    let n = c.args.numbers in
    let seen : arc_value c.in_ok-snapshot.snapshot ≡ loaded_history (generated_texts n.start n.count) =
    c.in_ok-snapshot.ensures.version
    ∙ looks_loaded _ _ _ c.in_ok-texts.texts (generated_texts n.start n.count) c.in-Ok.ensures.loaded
    c.in_ok-texts.ensures c.in_ok-snapshot.ensures.sound c.in_ok-snapshot.ensures.looked in
    subst (λ (h : List Update). IfOk c.measure.result (λ m. IsMeasured (query_over h n.count) m)) seen
    c.measure.ensures.measured
