use Rattle.std.proofs.Common.{◌≡◌, ◌==◌, List, Some, None, find, position, sym, ap, ◌∙◌, subst}
use Rattle.kn_session.specs.Sessions.{Session, OpenSessions, fault_in}
use Rattle.kn_session.specs.OnePlace.{IsOneAt}
use Rattle.kn_session.proofs.OnePlace.{one_at, one_number, none_passes, none_found}
use Rattle.kn_session.proofs.sessions.Sessions.place.Goals as goal

pub returns-in-Some-clause-place : goal.returns-in-Some-clause-place
returns-in-Some-clause-place c =
    let xs : List Session = c.self.inside.sessions.items in
    let there : position (λ (x : Session). x.number == c.args.s) xs ≡ Some c.in-Some.i =
    ap (position (λ (x : Session). x.number == c.args.s)) (sym c.as_slice.ensures.value) ∙ sym c.place_of_number.ensures
    ∙ c.in-Some.is in
    subst (λ (state : OpenSessions). IsOneAt (λ (x : Session). x.number == c.args.s) state.sessions c.in-Some.i)
    c.self.view_is
    (one_at (λ (x : Session). x.number == c.args.s) xs c.in-Some.i
    (one_number (λ (x : Session). x.number) c.args.s xs c.self.invariant.different) there)

pub returns-in-None-clause-fault : goal.returns-in-None-clause-fault
returns-in-None-clause-fault c =
    let xs : List Session = c.self.inside.sessions.items in
    let there : position (λ (x : Session). x.number == c.args.s) xs ≡ None =
    ap (position (λ (x : Session). x.number == c.args.s)) (sym c.as_slice.ensures.value) ∙ sym c.place_of_number.ensures
    ∙ c.in-None.is in
    let none : find (λ (x : Session). x.number == c.args.s) xs ≡ None = none_found _ xs (none_passes _ xs there) in
    λ f. ap (λ (state : OpenSessions). fault_in c.args.s (find (λ (x : Session). x.number == c.args.s) state.sessions)
    f) (sym c.self.view_is) ∙ ap (λ o. fault_in c.args.s o f) none
