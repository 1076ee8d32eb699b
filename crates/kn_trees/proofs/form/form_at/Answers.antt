use Rattle.std.proofs.Common.{◌≡◌, ◌<◌, length, get_or, map, sym, ap, ◌∙◌, arith}
use Rattle.std.proofs.lemmas.Int.{ints, to_z-of_z}
use Rattle.std.specs.List.{slice_range}
use Rattle.kn_trees.specs.declared.program.Expr.TheVariants as E
use Rattle.kn_trees.specs.Forests.{pools, link_at, tree_at, tree_of}
use Rattle.kn_trees.proofs.Forests.{length-trees_of, tree_at-trees_of}
use Rattle.kn_trees.proofs.form.form_at.Goals.{In-Some}
use Rattle.kn_trees.proofs.form.form_at.Goals as goal

node_is : (c : In-Some)
    → tree_at c.args.forest.now c.args.place
    ≡ tree_of (pools c.forest.inside.parts.items c.forest.inside.links.items c.forest.inside.bytes.items)
    c.args.forest.now c.in-Some.node.now
node_is c =
    let f = c.forest.inside in
    let ps = pools f.parts.items f.links.items f.bytes.items in
    let node = c.in-Some.node.now in
    let read : node ≡ get_or f.nodes.items c.args.place node =
    c.in-Some.ensures.lookup.1 ∙ ap (λ nodes. get_or nodes c.args.place node) c.deref.ensures.value in
    let inside : c.args.place < length f.nodes.items =
    omega (arith, length-trees_of ps f.nodes.items, ap length c.forest.view_is) in
    let found = tree_at-trees_of ps f.nodes.items c.args.place node inside c.forest.invariant in
    rw (← read) at (rw c.forest.view_is at found)

pub returns-in-Truth : goal.returns-in-Truth
returns-in-Truth c = rw c.in-Truth.is at (node_is (goal.at.returns-in-Truth c).In-Some)

pub returns-in-Whole : goal.returns-in-Whole
returns-in-Whole c =
    let h = rw c.in-Whole.is at (node_is (goal.at.returns-in-Whole c).In-Some) in
    grind (arith, ints, to_z-of_z)

pub returns-in-Text : goal.returns-in-Text
returns-in-Text c =
    let h = rw c.in-Text.is at (node_is (goal.at.returns-in-Text c).In-Some) in
    cc (h, c.run.ensures, c.as_slice.ensures.value)

pub returns-in-Name : goal.returns-in-Name
returns-in-Name c =
    let h = rw c.in-Name.is at (node_is (goal.at.returns-in-Name c).In-Some) in
    cc (h, c.run-in-Name.ensures, c.as_slice-in-Name.ensures.value)

pub returns-in-Not : goal.returns-in-Not
returns-in-Not c =
    let h = rw c.in-Not.is at (node_is (goal.at.returns-in-Not c).In-Some) in
    cc (h, c.at.ensures)

pub returns-in-Minus : goal.returns-in-Minus
returns-in-Minus c =
    let h = rw c.in-Minus.is at (node_is (goal.at.returns-in-Minus c).In-Some) in
    cc (h, c.at-in-Minus.ensures)

pub returns-in-Number : goal.returns-in-Number
returns-in-Number c =
    let h = rw c.in-Number.is at (node_is (goal.at.returns-in-Number c).In-Some) in
    cc (h, c.at-in-Number.ensures)

pub returns-in-Deref : goal.returns-in-Deref
returns-in-Deref c =
    let h = rw c.in-Deref.is at (node_is (goal.at.returns-in-Deref c).In-Some) in
    cc (h, c.at-in-Deref.ensures)

pub returns-in-And : goal.returns-in-And
returns-in-And c =
    let h = rw c.in-And.is at (node_is (goal.at.returns-in-And c).In-Some) in
    let places = c.run-in-And.ensures
    ∙ ap (λ pool. slice_range pool c.in-And.span.start c.in-And.span.end) c.as_slice-in-And.ensures.value in
    h ∙ ap (λ parts. E.And (map (tree_at c.args.forest.now) parts)) (sym places)

pub returns-in-Or : goal.returns-in-Or
returns-in-Or c =
    let h = rw c.in-Or.is at (node_is (goal.at.returns-in-Or c).In-Some) in
    let places = c.run-in-Or.ensures
    ∙ ap (λ pool. slice_range pool c.in-Or.span.start c.in-Or.span.end) c.as_slice-in-Or.ensures.value in
    h ∙ ap (λ parts. E.Or (map (tree_at c.args.forest.now) parts)) (sym places)

pub returns-in-Compare : goal.returns-in-Compare
returns-in-Compare c =
    let h = rw c.in-Compare.is at (node_is (goal.at.returns-in-Compare c).In-Some) in
    cc (h, c.at-in-Compare.ensures, c.at-in-Compare-2.ensures)

pub returns-in-Chain : goal.returns-in-Chain
returns-in-Chain c =
    let h = rw c.in-Chain.is at (node_is (goal.at.returns-in-Chain c).In-Some) in
    let links = c.run-in-Chain.ensures
    ∙ ap (λ pool. slice_range pool c.in-Chain.rest.start c.in-Chain.rest.end) c.as_slice-in-Chain.ensures.value in
    let rest = ap (map (link_at c.args.forest.now)) links in
    cc (h, c.at-in-Chain.ensures, rest)
