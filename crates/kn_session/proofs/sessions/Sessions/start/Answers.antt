use Rattle.std.proofs.Common.{◌≡◌, ℕ, ◌+◌, ◌<◌, List, [], ◌∷◌, ◌++◌, length, map, sym, ap, ◌∙◌, subst, arith}
use Rattle.std.proofs.lemmas.List.{length-map, map-append}
use Rattle.kn_base.specs.declared.limits.TheConstants.{SESSIONS}
use Rattle.kn_session.specs.Sessions.{Session}
use Rattle.kn_session.specs.Connection.{AreNumbers, AreOpen}
use Rattle.kn_session.proofs.Calls.{numbers_more}
use Rattle.kn_session.proofs.sessions.Sessions.start.Goals as goal

pub invariant_of-self-2 : goal.invariant_of-self-2
invariant_of-self-2 c =
    let xs : List Session = c.self.inside.sessions.items in
    let n : ℕ = c.self.inside.started in
    let number : Session → ℕ = λ (x : Session). x.number in
    let room : length (map number xs) < SESSIONS = omega (arith, length-map xs number, c.len-count.ensures) in
    let numbers : map number (xs ++ c.new.result ∷ []) ≡ map number xs ++ (n + 1) ∷ [] =
    map-append number xs (c.new.result ∷ []) ∙ ap (λ (k : ℕ). map number xs ++ k ∷ []) (ap number c.new.ensures) in
    subst (AreOpen (n + 1)) (sym c.in-Ok.ensures.items)
    (subst (AreNumbers (n + 1)) (sym numbers) (numbers_more n (map number xs) c.self.invariant room))
