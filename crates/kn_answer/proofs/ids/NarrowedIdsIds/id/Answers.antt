use Rattle.std.proofs.Common.{◌≡◌, List, length, sym, subst, arith}
use Rattle.std.proofs.lemmas.List.{length-map}
use Rattle.kn_proof.specs.declared.named.Id.{Id}
use Rattle.kn_meaning.specs.Equations.{Part}
use Rattle.kn_rows.specs.Numbering.{IsNumber}
use Rattle.kn_answer.specs.Narrowed.{principals_with_level, narrow_parts}
use Rattle.kn_answer.proofs.NarrowedBases.{ids-narrowed}
use Rattle.kn_answer.proofs.ids.NarrowedIdsIds.id.Goals as goal

pub id-requires : goal.id-requires
id-requires g c =
    let parts : List Part = g.A.Assertions.parts c.args.self.now.assertions.now in
    let size : length (narrow_parts c.args.self.now.query.now parts) ≡ length parts = length-map _ _ in
    omega (arith, size, c.requires)

pub returns : goal.returns
returns g c =
    let parts : List Part = g.A.Assertions.parts c.args.self.now.assertions.now in
    subst (λ (ids : List Id). IsNumber ids c.id.result c.args.row)
    (sym (ids-narrowed (principals_with_level c.args.self.now.query.now parts) parts)) c.id.ensures
