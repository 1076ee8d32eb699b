use Rattle.std.proofs.Common.{inl, inr}
use Rattle.kn_auth.proofs.Taking.{on_err_always}
use Rattle.kn_auth.proofs.entry.read_line.Goals as goal

pub returns-in-Some-clause-memory : goal.returns-in-Some-clause-memory
returns-in-Some-clause-memory c = on_err_always c.mac_entry.result (c.in-Some.text.now, inl c.in-Some.ensures)

pub returns-in-Some-behind-2-clause-memory : goal.returns-in-Some-behind-2-clause-memory
returns-in-Some-behind-2-clause-memory c =
    on_err_always c.secret_entry.result (c.in-Some-behind-2.digits.now, inr (inr c.in-Some-behind-2.ensures))
