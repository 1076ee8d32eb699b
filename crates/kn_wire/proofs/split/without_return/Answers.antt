use Rattle.std.proofs.Common.{◌≡◌, ◌∙◌, [], ◌∷◌, ◌++◌, sym, ap, append-nil}
use Rattle.std.proofs.lemmas.Bool.Decides.{Decides-eqb}
use Rattle.std.proofs.lemmas.Slice.Eq.{strip_suffix_is}
use Rattle.kn_wire.specs.Requests.{without_return}
use Rattle.kn_wire.proofs.Lines.{without_return-last}
use Rattle.kn_wire.proofs.Splits.{without_return-kept}
use Rattle.kn_wire.proofs.split.without_return.Goals as goal

pub returns-in-Some : goal.returns-in-Some
returns-in-Some c =
    let whole : c.args.line.now ≡ c.in-Some.bare.now ++ 13 ∷ [] =
    rw c.in-Some.is at
    (strip_suffix_is Decides-eqb c.args.line.now (13 ∷ []) c.strip_suffix.result c.strip_suffix.ensures.cases) in
    sym (ap without_return whole ∙ without_return-last c.in-Some.bare.now 13 ∙ append-nil c.in-Some.bare.now)

pub returns-in-None : goal.returns-in-None
returns-in-None c =
    sym (without_return-kept c.args.line.now
    (rw c.in-None.is at
    (strip_suffix_is Decides-eqb c.args.line.now (13 ∷ []) c.strip_suffix.result c.strip_suffix.ensures.cases)))
