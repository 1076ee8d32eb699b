use Rattle.std.proofs.Common.{◌≡◌, List, length, refl, ap, ◌∙◌, subst}
use Rattle.kn_meaning.specs.Equations.{IsPolicyLevel, Part, equations_over}
use Rattle.kn_meaning.specs.Proofs.{IsProof}
use Rattle.kn_answer.specs.Removed.{live_parts}
use Rattle.kn_answer.proofs.Capped.{live-all}
use Rattle.kn_critical.proofs.search.search.Goals as goal

pub critical_ids-requires-clause-proof : goal.critical_ids-requires-clause-proof
critical_ids-requires-clause-proof g c =
    let parts : List Part = c.args.list.now in
    let all : live_parts parts c.args.base.now.live ≡ parts = ap (live_parts parts) c.requires.whole.live
    ∙ live-all parts (length parts) refl in
    subst (λ (ps : List Part). IsProof (equations_over c.args.query.now ps) c.in_ok-answer.answer.rows
    c.in_ok-answer.answer.value) all c.in_ok-answer.ensures.proof

pub critical_ids-requires-clause-least : goal.critical_ids-requires-clause-least
critical_ids-requires-clause-least g c =
    let parts : List Part = c.args.list.now in
    let all : live_parts parts c.args.base.now.live ≡ parts = ap (live_parts parts) c.requires.whole.live
    ∙ live-all parts (length parts) refl in
    subst (λ (ps : List Part). IsPolicyLevel (equations_over c.args.query.now ps) c.in_ok-answer.answer.value) all
    c.in_ok-answer.ensures.least

pub returns-clause-least : goal.returns-clause-least
returns-clause-least g c =
    let parts : List Part = c.args.list.now in
    let all : live_parts parts c.args.base.now.live ≡ parts = ap (live_parts parts) c.requires.whole.live
    ∙ live-all parts (length parts) refl in
    subst (λ (ps : List Part). IsPolicyLevel (equations_over c.args.query.now ps) c.in_ok-answer.answer.value) all
    c.in_ok-answer.ensures.least
