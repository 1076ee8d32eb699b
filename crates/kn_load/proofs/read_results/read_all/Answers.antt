use Rattle.std.proofs.Common.{rules, arith}
use Rattle.std.proofs.lemmas.Grind.{common_steps}
use Rattle.kn_files.specs.Pieces.{bytes_at}
use Rattle.kn_load.proofs.ReadResultLaws.{results_of_spans}
use Rattle.kn_load.proofs.read_results.read_all.Goals as goal

pub returns : goal.returns
returns g c =
    results_of_spans (bytes_at c.args.file.now) c.args.spans.now c.for_each_mut.new.s (search rules)
    (λ i s d lt. let k = (c.for_each_mut.ensures i d (omega arith)).1 in grind (arith, common_steps))
