use Rattle.std.proofs.Common.{◌≡◌, ◌++◌, ℕ, suc, ◌+◌, List, [], ◌∷◌, drop, take, sym, ap, subst, ◌∙◌, arith}
use Rattle.std.proofs.Common.{append_assoc, append-nil}
use Rattle.kn_proof.specs.declared.named.Id.TheVariants.{Shared}
use Rattle.kn_meaning.specs.Equations.{Part}
use Rattle.kn_history.specs.History.{NumberedText, credentials_of}
use Rattle.kn_daemon.specs.Daemon.{parts_of}
use Rattle.kn_query.specs.SharedParts.{AreRead}
use Rattle.kn_query.proofs.Texts.{none_before, parts_more_from, read_more_from}
use Rattle.kn_query.proofs.parts.push_shared.Goals as goal

pub loop-place-init : goal.loop-place-init
loop-place-init c =
    let live : List NumberedText = credentials_of c.args.version.now in
    let none : drop c.args.first (take c.args.first live) ≡ [] = none_before live c.args.first in (
      sym (append-nil c.args.parts.now)
          ∙ ap (λ (l : List NumberedText). c.args.parts.now ++ parts_of (λ (k : ℕ). Shared k) l) (sym none),
      subst (λ (l : List NumberedText). AreRead l) (sym none) tt,
    )

pub loop-place-preserved : goal.loop-place-preserved
loop-place-preserved c =
    let live : List NumberedText = credentials_of c.args.version.now in
    let first : ℕ = c.args.first in
    let place : ℕ = c.loop-place.place in
    let next : suc place ≡ place + 1 = omega arith in
    let part : Part = record { id = Shared c.id.result; assertion = c.credential.result.now.assertion } in
    let more = parts_more_from (λ (k : ℕ). Shared k) live first place c.id.result c.credential.result.now.text
    c.credential.result.now.assertion (omega arith) c.id.ensures.id c.credential.ensures.text
    c.credential.ensures.reading in
    let read = read_more_from live first place c.credential.result.now.text c.credential.result.now.assertion
    (omega arith) c.credential.ensures.text c.credential.ensures.reading c.loop-place.invariant.1 in (
      c.in_ok-add.ensures.ok
          ∙ ap (λ (l : List Part). l ++ part ∷ []) c.loop-place.invariant.0
          ∙ append_assoc c.args.parts.now (parts_of (λ (k : ℕ). Shared k) (drop first (take place live))) (part ∷ [])
          ∙ ap (λ (l : List Part). c.args.parts.now ++ l) (sym more)
          ∙ ap (λ (n : ℕ). c.args.parts.now ++ parts_of (λ (k : ℕ). Shared k) (drop first (take n live))) next,
      subst (λ (n : ℕ). AreRead (drop first (take n live))) next read,
    )
