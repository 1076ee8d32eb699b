use Rattle.std.proofs.Common.{sym, ◌∙◌}
use Rattle.kn_trees.proofs.Additions.{not_added, trees-links_kept, forest-chain, trees-chain}
use Rattle.kn_trees.proofs.Forests.{length-trees_of}
use Rattle.kn_trees.proofs.forest.Forest.add_chain.Goals as goal

pub returns-in_err-place : goal.returns-in_err-place
returns-in_err-place c =
    let f = c.self.inside in
    let same =
    trees-links_kept f.parts.items f.links.items f.bytes.items f.nodes.items c.self.invariant
    c.args.signs.now c.args.rights.now _ c.in_ok-rest.ensures.kept.ok _ c.in_err-place.ensures.err in
    not_added _ _ _ _ c.from_residual-in_err-place.result c.from_residual-in_err-place.ensures.1 (same ∙ c.self.view_is)

pub invariant_of-self-2 : goal.invariant_of-self-2
invariant_of-self-2 c =
    let f = c.self.inside in
    forest-chain f.parts.items f.links.items f.bytes.items f.nodes.items c.self.invariant
    c.args.signs.now c.args.rights.now _ c.in_ok-rest.ensures.kept.ok _
    c.in_ok-rest.rest c.in_ok-rest.ensures.kept.span c.args.first c.in_ok-place.ensures.ok c.keep_links.ensures.short
    (rw c.self.view_is c.requires.rights) (rw c.self.view_is c.requires.first)

pub returns : goal.returns
returns c =
    let f = c.self.inside in
    let ok =
    trees-chain f.parts.items f.links.items f.bytes.items f.nodes.items c.self.invariant
    c.args.signs.now c.args.rights.now _ c.in_ok-rest.ensures.kept.ok _
    c.in_ok-rest.rest c.in_ok-rest.ensures.kept.span c.args.first c.in_ok-place.ensures.ok in
    rw (← c.self.view_is) (record {
      place = c.in_ok-place.ensures.place ∙ sym (length-trees_of _ f.nodes.items);
      ok =
          ok;
      err = tt;
    })
