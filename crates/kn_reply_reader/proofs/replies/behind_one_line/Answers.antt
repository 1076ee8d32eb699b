use Rattle.std.proofs.Common.{refl}
use Rattle.std.specs.Prelude.{option_map}
use Rattle.kn_reply_reader.specs.Forms.{IsOfOneForm}
use Rattle.kn_reply_reader.specs.OneLineForms.{one_line_forms}
use Rattle.kn_reply_reader.specs.Kinds.{OneLine, IsTextOf}
use Rattle.kn_reply_reader.proofs.Fronts.{behind_same}
use Rattle.kn_reply_reader.proofs.OneLineLaws.{one_line_from, one_line_to}
use Rattle.kn_reply_reader.proofs.replies.behind_one_line.Goals as goal

pub behind_one_form-requires : goal.behind_one_form-requires
behind_one_form-requires c = refl

pub returns : goal.returns
returns c =
    behind_same (IsOfOneForm one_line_forms) (IsTextOf OneLine) c.args.left.now
    (option_map (λ rest. rest.now) c.behind_one_form.result) one_line_from one_line_to
    c.behind_one_form.ensures
