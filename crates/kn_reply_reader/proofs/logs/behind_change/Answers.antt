use Rattle.std.specs.Prelude.{option_map}
use Rattle.kn_reply_reader.proofs.LogLaws.{change_added, change_removed}
use Rattle.kn_reply_reader.proofs.logs.behind_change.Goals as goal

pub returns-in-Some : goal.returns-in-Some
returns-in-Some c = change_added c.args.left.now c.in-Some.rest.now c.in-Some.ensures

pub returns : goal.returns
returns c =
    change_removed c.args.left.now (option_map (λ rest. rest.now) c.behind_removal.result) c.in_default.ensures
    c.behind_removal.ensures
