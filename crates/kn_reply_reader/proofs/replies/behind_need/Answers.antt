use Rattle.std.proofs.Common.{refl}
use Rattle.std.specs.Prelude.{option_map}
use Rattle.kn_reply_reader.specs.Forms.{IsOfOneForm}
use Rattle.kn_reply_reader.proofs.Fronts.{behind_same}
use Rattle.kn_reply_reader.proofs.ReplyLaws.{IsNeed, need_forms, need_from, need_to}
use Rattle.kn_reply_reader.proofs.replies.behind_need.Goals as goal

pub behind_one_form-requires : goal.behind_one_form-requires
behind_one_form-requires c = refl

pub returns : goal.returns
returns c =
    behind_same (IsOfOneForm need_forms) IsNeed c.args.left.now (option_map (λ rest. rest.now) c.behind_one_form.result)
    need_from need_to
    c.behind_one_form.ensures
