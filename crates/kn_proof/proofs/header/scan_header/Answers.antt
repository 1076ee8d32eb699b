use Rattle.std.proofs.Common.{refl}
use Rattle.std.proofs.lemmas.Bool.{false≢true}
use Rattle.kn_proof.proofs.Lines.{no_header_form}
use Rattle.kn_proof.proofs.header.scan_header.Goals as goal

pub returns-then-not-is_form-clause-err : goal.returns-then-not-is_form-clause-err
returns-then-not-is_form-clause-err c =
    (refl, no_header_form c.args.text.now _ _ c.in-Some.ensures (λ form. false≢true (c.if-not-is_form.ensures.1 form)))
