use Rattle.std.proofs.Common.{◌≤◌, ◌^◌, [], ◌∷◌, false, length, refl, length-append, ap, arith}
use Rattle.kn_system.specs.Equations.{SystemEquations}
use Rattle.kn_system.specs.KeptRows.{kept_rows}
use Rattle.kn_system.proofs.AddedRows.{IsSystem-more_principals}
use Rattle.kn_system.proofs.system.System.push_principal.Goals as goal
use Rattle.kn_system.proofs.system.System.push_principal.Goals.{in-Ok, in-Err}

pub invariant_of-self : goal.invariant_of-self
invariant_of-self g c =
    let s = c.self.inside in
    let seen = ap (λ (e : SystemEquations). length e.requesters) c.self.view_is in
    elim c.match-push.branch [
      | in-Ok w ↦
          let size = ap length w.in-Ok.ensures.ok in
          let more : length (false ∷ s.others) ≤ length (false ∷ c.push.new.self) =
          omega (arith, length-append s.others (c.args.requester ∷ [])) in
          let fit : length (false ∷ c.push.new.self) ≤ 2 ^ 24 =
          omega (arith, length-append s.others (c.args.requester ∷ [])) in (
            IsSystem-more_principals s.levels (false ∷ s.others) (false ∷ c.push.new.self)
                (kept_rows s.flat.pieces s.rows) more fit refl c.self.invariant.0,
            c.self.invariant.1,
          )
      | in-Err w ↦ rw w.in-Err.ensures.err c.self.invariant
    ]
