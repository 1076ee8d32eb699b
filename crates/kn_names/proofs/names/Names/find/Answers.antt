use Rattle.std.proofs.Common.{ℕ, ◌≡◌, ◌≢◌, ◌+◌, ◌-◌, ◌<◌, ◌∙◌, List, length, subst, arith}
use Rattle.std.proofs.lemmas.Bool.{false≢true}
use Rattle.std.proofs.lemmas.List.{get_or_read}
use Rattle.kn_names.specs.Chains.{IsSought}
use Rattle.kn_names.proofs.Chains.{pointwise-same, sought_next}
use Rattle.kn_names.proofs.names.Names.find.Goals as goal

pub loop-at-preserved : goal.loop-at-preserved
loop-at-preserved c =
    let names : List (List ℕ) = c.self.inside.arena in
    let heads : List ℕ = c.self.inside.heads.items in
    let links : List ℕ = c.self.inside.links.items in
    let place : ℕ = c.loop-at.at - 1 in
    let at : c.loop-at.at ≡ place + 1 = omega (arith, c.loop-at-test.true) in
    let there : place < length links = omega (arith, at, c.loop-at.invariant.within, c.self.invariant.links) in
    let sought : IsSought names (length heads) c.args.name.now (place + 1) =
    subst (IsSought names (length heads) c.args.name.now) at c.loop-at.invariant in
    let differs : c.get.result.now ≢ c.args.name.now =
    (λ e. false≢true (c.if-eq.ensures ∙ pointwise-same c.get.result.now c.args.name.now e)) in
    sought_next names heads links c.args.name.now c.get.result.now place c.index-at-in-loop-at.result.now
    c.self.invariant.chained sought c.get.ensures differs
    (get_or_read links place c.index-at-in-loop-at.result.now there c.index-at-in-loop-at.ensures 0)
