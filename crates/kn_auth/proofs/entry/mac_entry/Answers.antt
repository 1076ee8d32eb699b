use Rattle.kn_auth.specs.KeyLines.{SpellsKey, BeginsWithKey}
use Rattle.kn_auth.proofs.LineEntries.{key_words, no_key}
use Rattle.kn_auth.proofs.Taking.{key_size, on_err_always}
use Rattle.kn_auth.proofs.entry.mac_entry.Goals as goal

pub returns-in_default-2-clause-read : goal.returns-in_default-2-clause-read
returns-in_default-2-clause-read c = no_key c.args.text.now (λ mac stated.
    let words = key_words c.args.text.now c.in-Some.digits.now c.in-Some.name.now mac c.in-Some.ensures.cut
    c.in-Some.ensures.first stated in
    let none = rw c.in_default-2.is at c.in_ok-key.ensures.key in
    none mac.key words.0)

pub returns-in_default-3-clause-read : goal.returns-in_default-3-clause-read
returns-in_default-3-clause-read c = no_key c.args.text.now (λ mac stated.
    let words = key_words c.args.text.now c.in-Some.digits.now c.in-Some.name.now mac c.in-Some.ensures.cut
    c.in-Some.ensures.first stated in
    let none = rw c.in_default-3.is at c.in_ok-principal.ensures.principal in
    none mac.principal words.1)

pub returns-in_err-principal-clause-memory : goal.returns-in_err-principal-clause-memory
returns-in_err-principal-clause-memory c =
    let spells : SpellsKey c.in-Some.digits.now c.in-Some-2.key = rw c.in-Some-2.is at c.in_ok-key.ensures.key in
    let begins : BeginsWithKey c.args.text.now = record {
      digits = c.in-Some.digits.now;
      name = c.in-Some.name.now;
      spelled = c.in-Some.ensures.cut;
      size = key_size c.in-Some.digits.now c.in-Some-2.key spells;
    } in
    on_err_always c.from_residual-in_err-principal.result begins
