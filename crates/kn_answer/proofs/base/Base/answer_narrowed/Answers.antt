use Rattle.std.proofs.Common.{◌≡◌, List, length, sym, ap, ◌∙◌, subst}
use Rattle.std.proofs.lemmas.List.{length-map}
use Rattle.std.proofs.lemmas.Result.{IfOk-weaker}
use Rattle.kn_env.specs.Environment.{Asked}
use Rattle.kn_meaning.specs.Equations.{IsPolicyLevel, Part, equations_over}
use Rattle.kn_meaning.specs.Proofs as proof
use Rattle.kn_answer.specs.Narrowed.{principals_with_level, narrow_parts}
use Rattle.kn_answer.specs.Removed.{live_parts}
use Rattle.kn_answer.proofs.Capped.{live-all}
use Rattle.kn_answer.proofs.NarrowedBases.{conditions-narrowed}
use Rattle.kn_answer.proofs.NarrowedQueries.{narrowed_same}
use Rattle.kn_answer.proofs.base.Base.answer_narrowed.Goals as goal

pub answer_of-requires-clause-each : goal.answer_of-requires-clause-each
answer_of-requires-clause-each c =
    let asked : Asked = c.args.query.now in
    let parts : List Part = c.args.list.now in
    c.of-values.ensures ∙ sym (conditions-narrowed asked (principals_with_level asked parts) parts)

pub returns-clause-proof : goal.returns-clause-proof
returns-clause-proof c =
    let asked : Asked = c.args.query.now in
    let parts : List Part = c.args.list.now in
    let all : live_parts (narrow_parts asked parts) c.args.self.now.live ≡ narrow_parts asked parts =
    ap (live_parts (narrow_parts asked parts)) c.requires.live
    ∙ live-all (narrow_parts asked parts) (length parts) (sym (length-map _ _)) in
    IfOk-weaker c.answer_of.result _ _
    (λ a is. (narrowed_same asked parts).proof a.rows a.value
    (subst (λ ps. proof.IsProof (equations_over asked ps) a.rows a.value) all is))
    c.answer_of.ensures.proof

pub returns-clause-least : goal.returns-clause-least
returns-clause-least c =
    let asked : Asked = c.args.query.now in
    let parts : List Part = c.args.list.now in
    let all : live_parts (narrow_parts asked parts) c.args.self.now.live ≡ narrow_parts asked parts =
    ap (live_parts (narrow_parts asked parts)) c.requires.live
    ∙ live-all (narrow_parts asked parts) (length parts) (sym (length-map _ _)) in
    IfOk-weaker c.answer_of.result _ _
    (λ a is. (narrowed_same asked parts).level a.value
    (subst (λ ps. IsPolicyLevel (equations_over asked ps) a.value) all is))
    c.answer_of.ensures.least
