use Rattle.std.proofs.Common.{◌≡◌, ◌<◌, List, ◌∷◌, length, refl, ap, sym, ◌∙◌, arith}
use Rattle.std.specs.Prelude.{vec_len}
use Rattle.std.proofs.lemmas.Bool.{eqb-true}
use Rattle.kn_workers.specs.declared.post.Post.{Post}
use Rattle.kn_workers.specs.Posts.{passes_of}
use Rattle.kn_workers.proofs.HiringLaws.{gather_more, post_taken, no_items, stays_true, takes_other, rests_at_last}
use Rattle.kn_workers.proofs.hiring.gather.Goals as goal

pub posts-preserved-then-failed : goal.posts-preserved-then-failed
posts-preserved-then-failed g c =
    let first = c.remove-door.ensures in
    let some : 0 < length c.posts.posts.items = omega (arith, c.posts.posts.ok.0, first.len) in
    gather_more _ _ _ _ _ c.remove-door.result _ _ _ _ _ _ _ _ _ _ _ _ c.posts.invariant
    (post_taken c.posts.posts.items c.remove-door.result some first.value
    ∙ ap (λ (l : List (Post _)). c.remove-door.result ∷ l) (sym first.items))
    first.len c.join.ensures.ready c.join.ensures.joined c.join.ensures.seen c.put.ensures.items c.put.ensures.spare
    refl (stays_true _ _ c.if-failed.true)

pub posts-preserved : goal.posts-preserved
posts-preserved g c =
    let first = c.remove-door.ensures in
    let some : 0 < length c.posts.posts.items = omega (arith, c.posts.posts.ok.0, first.len) in
    gather_more _ _ _ _ _ c.remove-door.result _ _ _ _ _ _ _ _ _ _ _ _ c.posts.invariant
    (post_taken c.posts.posts.items c.remove-door.result some first.value
    ∙ ap (λ (l : List (Post _)). c.remove-door.result ∷ l) (sym first.items))
    first.len c.join.ensures.ready c.join.ensures.joined c.join.ensures.seen c.put.ensures.items c.put.ensures.spare
    refl (takes_other _ _ c.if-failed.false)

pub returns-clause-seen : goal.returns-clause-seen
returns-clause-seen g c =
    let none : vec_len c.posts.posts ≡ 0 = eqb-true _ 0 (sym c.is_empty.ensures ∙ c.posts-test.false) in
    rests_at_last _ _ _ _ (ap passes_of (no_items c.posts.posts.items (omega (arith, none, c.posts.posts.ok.0))))
    c.posts.invariant.7
