use Rattle.std.proofs.Common.{◌≡◌, ◌∙◌, ◌++◌, codes}
use Rattle.std.proofs.lemmas.Bool.Decides.{Decides-eqb}
use Rattle.std.proofs.lemmas.Slice.Eq.{strip_prefix_is}
use Rattle.kn_wire.proofs.Heads.{names_add, names_assert, names_batch, names_none}
use Rattle.kn_wire.proofs.head.read_head.Goals as goal

pub returns-in-Some : goal.returns-in-Some
returns-in-Some c =
    let is : c.args.line.now ≡ codes "ADD " ++ c.in-Some.text.now =
    rw c.in-Some.is at
    (strip_prefix_is Decides-eqb c.args.line.now (codes "ADD ") c.strip_prefix.result
    c.strip_prefix.ensures.cases) in
    c.read_size.ensures ∙ names_add c.args.line.now c.in-Some.text.now is

pub returns-in-Some-strip_prefix : goal.returns-in-Some-strip_prefix
returns-in-Some-strip_prefix c =
    let is : c.args.line.now ≡ codes "ASSERT " ++ c.in-Some-strip_prefix.text.now =
    rw c.in-Some-strip_prefix.is at
    (strip_prefix_is Decides-eqb c.args.line.now (codes "ASSERT ") c.strip_prefix-2.result
    c.strip_prefix-2.ensures.cases) in
    c.read_assert.ensures ∙ names_assert c.args.line.now c.in-Some-strip_prefix.text.now is

pub returns-in-Some-strip_prefix-2 : goal.returns-in-Some-strip_prefix-2
returns-in-Some-strip_prefix-2 c =
    let is : c.args.line.now ≡ codes "BATCH " ++ c.in-Some-strip_prefix-2.text.now =
    rw c.in-Some-strip_prefix-2.is at
    (strip_prefix_is Decides-eqb c.args.line.now (codes "BATCH ") c.strip_prefix-3.result
    c.strip_prefix-3.ensures.cases) in
    c.read_size-in-Some-strip_prefix-2.ensures ∙ names_batch c.args.line.now c.in-Some-strip_prefix-2.text.now is

pub returns : goal.returns
returns c =
    names_none c.args.line.now
    (rw c.in_default.is at
    (strip_prefix_is Decides-eqb c.args.line.now (codes "ADD ") c.strip_prefix.result c.strip_prefix.ensures.cases))
    (rw c.in_default-strip_prefix.is at
    (strip_prefix_is Decides-eqb c.args.line.now (codes "ASSERT ") c.strip_prefix-2.result
    c.strip_prefix-2.ensures.cases))
    (rw c.in_default-strip_prefix-2.is at
    (strip_prefix_is Decides-eqb c.args.line.now (codes "BATCH ") c.strip_prefix-3.result
    c.strip_prefix-3.ensures.cases))
