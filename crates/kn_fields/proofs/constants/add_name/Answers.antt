use Rattle.std.proofs.Common.{◌≡◌, true, refl, arith}
use Rattle.kn_lex.specs.TokenViews.{token_view}
use Rattle.kn_fields.specs.Constants.{is_name_sort}
use Rattle.kn_fields.proofs.NameSets.{names_more}
use Rattle.kn_fields.proofs.constants.add_name.Goals as goal
use Rattle.kn_fields.proofs.constants.add_name.Goals.{in-Name, in_default}

pub returns-in-Ok : goal.returns-in-Ok
returns-in-Ok c =
    let sort : is_name_sort c.args.token.now.sort ≡ true =
    elim c.match-matches.branch
    [ in-Name w ↦ grind arith | in_default w ↦ grind (arith, c.if-not-matches.false, w.matches-is) ] in
    λ before. names_more c.args.token.now.text c.args.names.now c.insert.new.self before (token_view c.args.token.now)
    c.in-Ok.ensures.updates sort refl
