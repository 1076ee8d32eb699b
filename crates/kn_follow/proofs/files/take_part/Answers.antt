use Rattle.std.proofs.Common.{ℕ, List, subst, sym}
use Rattle.std.proofs.lemmas.Result.{err_from_is_err_and}
use Rattle.kn_follow.specs.Files.{AppliesFirst}
use Rattle.kn_follow.proofs.files.take_part.Goals as goal

pub returns-in_err-rest-clause-fault : goal.returns-in_err-rest-clause-fault
returns-in_err-rest-clause-fault c =
    let told = err_from_is_err_and c.from_residual.result c.from_residual.ensures.1 in
    rw (told.1, told.2) (λ text applies.
    c.in_err-rest.ensures.fault text
    (subst (λ (bytes : List ℕ). AppliesFirst text bytes c.args.replica.now) (sym c.as_slice.ensures) applies))
