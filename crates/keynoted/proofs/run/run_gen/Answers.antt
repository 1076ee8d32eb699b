use Rattle.std.proofs.Common.{refl, inl, inr}
use Rattle.keynoted.proofs.GenLaws.{gen_printed}
use Rattle.keynoted.proofs.run.run_gen.Goals as goal

pub returns-in-Err : goal.returns-in-Err
returns-in-Err g c = inr c.end.ensures

pub returns-in-Ok-print_gen : goal.returns-in-Ok-print_gen
returns-in-Ok-print_gen g c =
    gen_printed c.args.numbers c.in-Ok.measured _ _ _ c.in-Ok.ensures.measured c.in-Ok.ensures.low (λ name named. inl
    (refl, (c.in-Ok-print_gen.ensures name named).writes))

pub returns-in-Err-print_gen : goal.returns-in-Err-print_gen
returns-in-Err-print_gen g c =
    gen_printed c.args.numbers c.in-Ok.measured _ _ _ c.in-Ok.ensures.measured c.in-Ok.ensures.low (λ name named. inr
    (refl, (c.in-Err-print_gen.ensures name named).writes))
