use Rattle.std.proofs.Common.{◌≡◌, ◌<◌, ℕ, List, length, ap, ◌∙◌, subst}
use Rattle.std.specs.Prelude.{IfOk}
use Rattle.kn_env.specs.Environment.{Asked}
use Rattle.kn_meaning.specs.Equations.{Equations, IsPolicyLevel, Part, equations_over}
use Rattle.kn_meaning.specs.Proofs as proof
use Rattle.kn_session.specs.Sessions.{Session}
use Rattle.kn_session.specs.Views.{session_of_view}
use Rattle.kn_daemon.specs.Daemon.{equations_of, session_parts}
use Rattle.kn_query.proofs.FoundValues.{in-some}
use Rattle.kn_query.proofs.SharedParts.{asked-by}
use Rattle.kn_query.proofs.query.answer_query.Goals as goal

pub returns-in-Some : goal.returns-in-Some
returns-in-Some c =
    let session : Session = session_of_view c.args.view.now in
    let same : equations_over c.in_ok-query.query (session_parts session) ≡ equations_of session c.args.values.now =
    asked-by session c.in_ok-query.query c.args.values.now c.in_ok-query.ensures.attributes
    c.in_ok-query.ensures.values c.in_ok-query.ensures.requesters in
    record {
      proof = subst (λ (e : Equations). proof.IsProof e c.in-Some.found.rows c.in-Some.found.value) same
          (in-some _ _ _ c.in-Some.is c.in_ok-found.ensures.proof);
      least = subst (λ (e : Equations). IsPolicyLevel e c.in-Some.found.value) same
          (in-some _ _ _ c.in-Some.is c.in_ok-found.ensures.least);
      below = subst (λ (vs : List (List ℕ)). c.in-Some.found.value < length vs) c.in_ok-query.ensures.values
          (in-some _ _ _ c.in-Some.is c.in_ok-found.ensures.below);
      of_version = c.answer_by_base.ensures.of_version;
    }

pub returns : goal.returns
returns c =
    let session : Session = session_of_view c.args.view.now in
    let same : equations_over c.in_ok-query.query c.in_ok-parts_of_view-in-None.field-0
    ≡ equations_of session c.args.values.now =
    ap (equations_over c.in_ok-query.query) c.in_ok-parts_of_view-in-None.ensures.parts
    ∙ asked-by session c.in_ok-query.query c.args.values.now c.in_ok-query.ensures.attributes
    c.in_ok-query.ensures.values c.in_ok-query.ensures.requesters in
    record {
      proof = subst (λ (e : Equations). IfOk c.answer-in-None.result (λ a. proof.IsProof e a.rows a.value)) same
          c.answer-in-None.ensures.proof;
      least = subst (λ (e : Equations). IfOk c.answer-in-None.result (λ a. IsPolicyLevel e a.value)) same
          c.answer-in-None.ensures.least;
      below = subst (λ (vs : List (List ℕ)). IfOk c.answer-in-None.result (λ a. a.value < length vs))
          c.in_ok-query.ensures.values c.answer-in-None.ensures.below;
      of_version = c.answer_by_base.ensures.of_version;
    }
