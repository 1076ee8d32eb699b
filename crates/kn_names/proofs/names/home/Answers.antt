use Rattle.std.proofs.Common.{◌∙◌, ◌%◌, ap}
use Rattle.std.specs.Hash.FoldHasher as folding
use Rattle.kn_names.specs.Chains.{home_of}
use Rattle.kn_names.proofs.names.home.Goals as goal

pub returns-clause-exact : goal.returns-clause-exact
returns-clause-exact c = unfold home_of in
    ap (λ n. n % c.args.chains) (c.finish.ensures
    ∙ ap folding.finish (c.write.ensures ∙ ap (λ h. folding.write h c.args.name.now) c.default-hasher.ensures))
