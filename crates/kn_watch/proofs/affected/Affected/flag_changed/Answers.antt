use Rattle.std.proofs.Common.{◌≡◌, ◌<◌, ℕ, Bool, true, List, length, get_or, sym, ap, ◌∙◌, subst, inl, inr, arith}
use Rattle.std.proofs.lemmas.Bool.{cases_lt}
use Rattle.std.proofs.lemmas.List.{length-set}
use Rattle.std.proofs.lemmas.Option.{get_or_from_slice_get, slice_get-get_or, slice_get_within}
use Rattle.kn_system.specs.Equations.{SystemEquations, row_at}
use Rattle.kn_watch.specs.declared.changed.Changed.{Changed}
use Rattle.kn_watch.specs.Affected.{IsSubset, is_affected}
use Rattle.kn_watch.proofs.FlaggedLists.{among-set, flag-kept, flag-set}
use Rattle.kn_watch.proofs.affected.Affected.flag_changed.Goals as goal

pub loop-place-preserved : goal.loop-place-preserved
loop-place-preserved g c =
    let s : SystemEquations = c.args.system.now in
    let changed : List Changed = c.args.changed.now in
    let place : ℕ = c.loop-place.place in
    let mid : List Bool = c.loop-place.self.flags.items in
    let next : List Bool = c.flag.new.self.flags.items in
    let a : ℕ = c.authorizer.result in
    let none : Changed = record { row = 0; before = 0 } in
    let within : place < length changed = omega (arith, c.loop-place-test.true, c.len-place-end.ensures) in
    let own : a ≡ (row_at s.rows (get_or changed place none).row).authorizer = c.authorizer.ensures.exact
    ∙ ap (λ (cs : List Changed). (row_at s.rows (get_or cs place none).row).authorizer) c.as_slice.ensures in
    let inside : a < length mid = omega (arith, c.authorizer.ensures.in_range, c.loop-place.invariant.size) in
    let now : is_affected next a ≡ true =
    subst (λ fs. is_affected fs a ≡ true) (sym c.in-Ok.ensures.flags) (flag-set mid a inside) in
    let kept : IsSubset mid next = subst (IsSubset mid) (sym c.in-Ok.ensures.flags) (flag-kept mid a) in
    record {
      size = ap length c.in-Ok.ensures.flags ∙ length-set mid a true ∙ c.loop-place.invariant.size;
      found = c.in-Ok.ensures.found;
      rows = λ i change l e.
          elim (cases_lt i place) [
            | inl before ↦ kept (row_at s.rows change.row).authorizer (c.loop-place.invariant.rows i change before e)
            | inr past ↦
                let same : place ≡ i = omega arith in
                let here : a ≡ (row_at s.rows change.row).authorizer = own
                ∙ ap (λ j. (row_at s.rows (get_or changed j none).row).authorizer) same
                ∙ ap (λ (ch : Changed). (row_at s.rows ch.row).authorizer)
                (get_or_from_slice_get changed i change none e) in
                subst (λ q. is_affected next q ≡ true) here now
          ];
      within = λ others first h.
          let is : is_affected others a ≡ true =
          subst (λ q. is_affected others q ≡ true) (sym own)
          (first place (get_or changed place none) (slice_get-get_or changed place none within)) in
          subst (λ fs. IsSubset fs others) (sym c.in-Ok.ensures.flags)
          (among-set mid others a is (c.loop-place.invariant.within others first h));
    }

pub returns-clause-rows : goal.returns-clause-rows
returns-clause-rows g c =
    λ i change e. c.loop-place.invariant.rows i change (let within = slice_get_within c.args.changed.now i change e in
    omega (arith, within, c.loop-place-test.false, c.len-place-end.ensures)) e
