use Rattle.std.proofs.Common.{◌≡◌, ◌-◌, ◌≤◌, length, subst, arith}
use Rattle.std.specs.Prelude.{decimal, IfOk}
use Rattle.std.specs.Arc.{arc_value}
use Rattle.std.proofs.lemmas.Fmt.{length-decimal-le}
use Rattle.kn_meaning.specs.Equations.{Equations}
use Rattle.kn_answer.specs.Built.{IsBuilt}
use Rattle.kn_generate.proofs.QueryLemmas.{none_private, last_requests, query_is}
use Rattle.kn_generate.proofs.query.build_generated.Goals as goal

pub build_asked-requires-clause-privates : goal.build_asked-requires-clause-privates
build_asked-requires-clause-privates c = none_private c.new-private.result c.new-private.ensures

pub build_asked-requires-clause-requesters : goal.build_asked-requires-clause-requesters
build_asked-requires-clause-requesters c =
    let most = c.requires.most in
    let low : c.args.count - 1 ≤ 2047 = omega (arith, most) in
    last_requests c.args.count c.in_ok-requesters.requesters
    (length-decimal-le 20 (c.args.count - 1) (omega arith) (omega (arith, low)) (omega (arith, low)))
    c.in_ok-requesters.ensures

pub returns : goal.returns
returns c =
    subst (λ (e : Equations). IfOk c.build_asked.result (λ built. IsBuilt e built))
    (query_is (arc_value c.args.snapshot.now) c.args.count c.new-private.result c.in_ok-attributes.attributes
    c.in_ok-requesters.requesters c.in_ok-values.values c.new-private.ensures c.in_ok-attributes.ensures
    c.in_ok-requesters.ensures c.in_ok-values.ensures)
    c.build_asked.ensures
