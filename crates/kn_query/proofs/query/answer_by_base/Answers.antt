use Rattle.std.proofs.Common.{◌≡◌, ◌<◌, ◌++◌, ℕ, List, [], length, map, sym, ap, subst, ◌∙◌}
use Rattle.std.specs.Prelude.{IfOk, IfSome}
use Rattle.kn_meaning.specs.Equations.{Equations, IsPolicyLevel, Part, equations_over}
use Rattle.kn_meaning.specs.Proofs as proof
use Rattle.kn_history.specs.declared.update.Update.{Update}
use Rattle.kn_session.specs.Sessions.{Session}
use Rattle.kn_session.specs.Views.{numbered_text, session_of_view}
use Rattle.kn_env.specs.Environment.{Asked}
use Rattle.kn_daemon.specs.Daemon.{session_parts}
use Rattle.kn_query.specs.KeptBases.{EachKept, IsKeptOrOf}
use Rattle.kn_query.specs.SharedBases.{IsOfHistory}
use Rattle.kn_query.specs.SharedParts.{private_parts, shared_parts}
use Rattle.kn_query.proofs.SharedParts.{parts-alone}
use Rattle.kn_query.proofs.query.answer_by_base.Goals as goal

pub answer_shared-requires : goal.answer_shared-requires
answer_shared-requires c = record {
  of_history = subst (λ (u : List Update). EachKept (IsOfHistory u) c.args.kept.now) (sym c.deref.ensures)
      c.requires.of_history;
}

pub returns-then-is_empty : goal.returns-then-is_empty
returns-then-is_empty c =
    let session : Session = session_of_view c.args.view.now in
    let asked : Asked = c.args.query.now in
    let none : session.privates ≡ [] = ap (map numbered_text) (c.is_empty.ensures.0 c.if-is_empty.true) in
    let same : equations_over asked (shared_parts c.deref.result.now) ≡ equations_over asked (session_parts session) =
    ap (λ (u : List Update). equations_over asked (shared_parts u)) c.deref.ensures
    ∙ ap (equations_over asked) (parts-alone session none) in
    record {
      proof = subst (λ (e : Equations). IfOk c.answer_shared.result
          (λ answered. IfSome answered (λ a. proof.IsProof e a.rows a.value))) same c.answer_shared.ensures.proof;
      least = subst (λ (e : Equations). IfOk c.answer_shared.result
          (λ answered. IfSome answered (λ a. IsPolicyLevel e a.value))) same c.answer_shared.ensures.least;
      below = c.answer_shared.ensures.below;
      of_version = subst (λ (u : List Update). EachKept (IsKeptOrOf u c.args.kept.now) c.answer_shared.new.kept)
          c.deref.ensures c.answer_shared.ensures.of_version;
    }

pub answer_own-requires : goal.answer_own-requires
answer_own-requires c = record {
  privates = c.requires.privates;
  readings = c.requires.readings;
  of_history = subst (λ (u : List Update). EachKept (IsOfHistory u) c.args.kept.now) (sym c.deref-else-is_empty.ensures)
      c.requires.of_history;
}

pub returns-else-is_empty : goal.returns-else-is_empty
returns-else-is_empty c =
    let session : Session = session_of_view c.args.view.now in
    let asked : Asked = c.args.query.now in
    let own : List Part = private_parts c.args.view.now.private.now in
    let same : equations_over asked (shared_parts c.deref-else-is_empty.result.now ++ own)
    ≡ equations_over asked (session_parts session) =
    ap (λ (u : List Update). equations_over asked (shared_parts u ++ own)) c.deref-else-is_empty.ensures in
    record {
      proof = subst (λ (e : Equations). IfOk c.answer_own.result
          (λ answered. IfSome answered (λ a. proof.IsProof e a.rows a.value))) same c.answer_own.ensures.proof;
      least = subst (λ (e : Equations). IfOk c.answer_own.result
          (λ answered. IfSome answered (λ a. IsPolicyLevel e a.value))) same c.answer_own.ensures.least;
      below = c.answer_own.ensures.below;
      of_version = subst (λ (u : List Update). EachKept (IsKeptOrOf u c.args.kept.now) c.answer_own.new.kept)
          c.deref-else-is_empty.ensures c.answer_own.ensures.of_version;
    }
