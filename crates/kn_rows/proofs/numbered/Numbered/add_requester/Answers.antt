use Rattle.kn_rows.proofs.NewNames.{AddsRequester-longer}
use Rattle.kn_rows.proofs.numbered.Numbered.add_requester.Goals as goal

pub returns-in_ok-add-in-None : goal.returns-in_ok-add-in-None
returns-in_ok-add-in-None c =
    AddsRequester-longer c.args.self.now c.add.new.self c.args.name.now c.requires.one_each c.in-None.ensures.absent
    c.in_ok-add-in-None.ensures.names c.in_ok-add-in-None.ensures.system
