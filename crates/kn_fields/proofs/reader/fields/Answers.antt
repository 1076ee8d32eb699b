use Rattle.std.proofs.Common.{Some, None, inr, sym, ◌∙◌, ap}
use Rattle.kn_fields.specs.Scanning.{fault_in}
use Rattle.kn_fields.proofs.FirstFaults.{tokens_tell, no_constant_fault}
use Rattle.kn_fields.proofs.reader.fields.Goals as goal

pub returns-in-Some-clause-fault : goal.returns-in-Some-clause-fault
returns-in-Some-clause-fault c =
    let read = c.in_ok-list.ensures in
    inr (tokens_tell c.tokens_or_first_fault.ensures.one_list c.args.text.now c.in_ok-list.list read.within read.ok
    read.faultless (Some c.in-Some.fault)
    (sym (ap fault_in c.in_ok-tokens.ensures) ∙ sym c.in_ok-fault.ensures ∙ c.in-Some.is))

pub constants-requires : goal.constants-requires
constants-requires c = no_constant_fault c.in_ok-tokens.tokens (sym c.in_ok-fault.ensures ∙ c.in_default.is)

pub returns-clause-faultless : goal.returns-clause-faultless
returns-clause-faultless c =
    let read = c.in_ok-list.ensures in
    (tokens_tell c.tokens_or_first_fault.ensures.one_list c.args.text.now c.in_ok-list.list read.within read.ok
    read.faultless None
    (sym (ap fault_in c.in_ok-tokens.ensures) ∙ sym c.in_ok-fault.ensures ∙ c.in_default.is)).1
