use Rattle.kn_auth.proofs.KeyFiles.{taken_or_refused}
use Rattle.kn_auth.proofs.key_file.KeyFile.take_line.Goals as goal

pub returns-in-Some-clause-taken : goal.returns-in-Some-clause-taken
returns-in-Some-clause-taken c =
    taken_or_refused c.args.self.now _ c.args.line.now c.in-Some.entry c.add.result
    (rw c.in-Some.is at c.in_ok-entry.ensures.read) c.add.ensures.added
