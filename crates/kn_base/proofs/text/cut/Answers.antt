use Rattle.std.proofs.Common.{◌≡◌, ◌==◌, false, take, take_all, ne_eqb}
use Rattle.std.proofs.lemmas.List.Elements.{All-more}
use Rattle.std.proofs.lemmas.List.Folds.{list_any_none}
use Rattle.kn_base.proofs.text.cut.Goals as goal

pub returns-then-byte-at-clause-first : goal.returns-then-byte-at-clause-first
returns-then-byte-at-clause-first c =
    let clean = list_any_none (λ b. b == c.args.at) (take c.loop-place.place c.args.text.now) c.loop-place.invariant in
    cc

pub loop-place-preserved : goal.loop-place-preserved
loop-place-preserved c =
    All-more (λ b. (b == c.args.at) ≡ false) c.args.text.now c.loop-place.place 0 c.loop-place-test.true
    c.loop-place.invariant (ne_eqb _ _ c.if-byte-at.false)

pub returns-clause-cut : goal.returns-clause-cut
returns-clause-cut c =
    list_any_none (λ b. b == c.args.at) c.args.text.now
    (rw (take_all _ _ c.loop-place-test.false) at c.loop-place.invariant)
