use Rattle.std.proofs.Common.{◌≡◌, ℕ, true, List, get_or, ap, ◌∙◌, subst, inl, inr, arith}
use Rattle.std.proofs.lemmas.Bool.{cases_lt}
use Rattle.std.proofs.lemmas.Option.{get_or_from_slice_get, slice_get-get_or, slice_get_within}
use Rattle.kn_system.specs.Equations.{SystemEquations, row_at}
use Rattle.kn_watch.specs.Affected.{IsSubset, is_affected}
use Rattle.kn_watch.specs.Found.{flags_of}
use Rattle.kn_watch.proofs.FewFound.{few-kept}
use Rattle.kn_watch.proofs.unaffected.Search.add_authorizers.Goals as goal

pub loop-place-preserved : goal.loop-place-preserved
loop-place-preserved g c =
    let s : SystemEquations = c.args.system.now in
    let rows : List ℕ = c.args.rows.now in
    let place : ℕ = c.loop-place.place in
    let found : List ℕ = c.loop-place.found in
    let more : List ℕ = c.add_authorizer.new.found in
    let kept : IsSubset (flags_of s found) (flags_of s more) =
    few-kept s c.args.self.now.without c.args.self.now.most found more c.loop-place.invariant.found
    c.in_ok-add_authorizer.ensures.found c.in_ok-add_authorizer.ensures.front in
    let now : is_affected (flags_of s more) (row_at s.rows (get_or rows place 0)).authorizer ≡ true =
    c.in_ok-add_authorizer.ensures.there c.if-not-branch.false in
    record {
      found = c.in_ok-add_authorizer.ensures.found;
      there = λ i row l e.
          elim (cases_lt i place) [
            | inl before ↦ kept (row_at s.rows row).authorizer (c.loop-place.invariant.there i row before e)
            | inr past ↦
                let same : place ≡ i = omega arith in
                let here : get_or rows place 0 ≡ row = ap (λ j. get_or rows j 0) same
                ∙ get_or_from_slice_get rows i row 0 e in
                subst (λ r. is_affected (flags_of s more) (row_at s.rows r).authorizer ≡ true) here now
          ];
      within = λ others has among. c.in_ok-add_authorizer.ensures.within others
          (has place (get_or rows place 0) (slice_get-get_or rows place 0 (omega (arith, c.loop-place-test.true))))
          (c.loop-place.invariant.within others has among);
    }

pub returns-clause-there : goal.returns-clause-there
returns-clause-there g c = λ _ i row e. c.loop-place.invariant.there i row
    (let within = slice_get_within c.args.rows.now i row e in
    omega (arith, within, c.loop-place-test.false)) e
