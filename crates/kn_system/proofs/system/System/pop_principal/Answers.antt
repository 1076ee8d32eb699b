use Rattle.std.proofs.Common.{◌≡◌, ◌-◌, ◌<◌, ◌++◌, ◌∷◌, [], All, Bool, false, List, length, length-append, take, sym}
use Rattle.std.proofs.Common.{ap, ◌∙◌, subst, arith}
use Rattle.kn_system.specs.Equations.{SystemEquations, IsRowOver}
use Rattle.kn_system.specs.KeptRows.{kept_rows}
use Rattle.kn_system.proofs.WithoutLast.{IsSystem-less_principals, popped_last, take-popped}
use Rattle.kn_system.proofs.system.System.pop_principal.Goals as goal

pub invariant_of-self : goal.invariant_of-self
invariant_of-self g c =
    let s = c.self.inside in
    let seen = ap (λ (e : SystemEquations). length e.requesters) c.self.view_is in
    let some : 0 < length s.others = omega (arith, seen, c.requires.some) in
    let (last, whole) = popped_last s.others c.pop-last.new.self c.pop-last.result c.pop-last.ensures some in
    let size : length s.others ≡ length (false ∷ c.pop-last.new.self) =
    omega (arith, ap length whole, length-append c.pop-last.new.self (last ∷ [])) in
    let same : length (false ∷ s.others) - 1 ≡ length (false ∷ c.pop-last.new.self) = omega (arith, size) in
    let over = subst (λ (e : SystemEquations). All (IsRowOver (length e.requesters - 1)) e.rows) (sym c.self.view_is)
    c.requires.over_others in
    let rows = kept_rows s.flat.pieces s.rows in (
      IsSystem-less_principals s.levels s.others c.pop-last.new.self rows (omega (arith, size))
          (subst (λ n. All (IsRowOver n) rows) same over) c.self.invariant.0,
      c.self.invariant.1,
    )

pub returns : goal.returns
returns g c =
    let s = c.self.inside in
    let seen = ap (λ (e : SystemEquations). length e.requesters) c.self.view_is in
    let some : 0 < length s.others = omega (arith, seen, c.requires.some) in
    let (last, whole) = popped_last s.others c.pop-last.new.self c.pop-last.result c.pop-last.ensures some in
    let behind : false ∷ s.others ≡ (false ∷ c.pop-last.new.self) ++ last ∷ [] =
    ap (λ (bs : List Bool). false ∷ bs) whole in
    let left : take (length (false ∷ s.others) - 1) (false ∷ s.others) ≡ false ∷ c.pop-last.new.self =
    ap (λ (bs : List Bool). take (length bs - 1) bs) behind ∙ take-popped (false ∷ c.pop-last.new.self) last in
    ap (λ (bs : List Bool). record { levels = s.levels; requesters = bs; rows = kept_rows s.flat.pieces s.rows })
    (sym left)
    ∙ ap (λ (e : SystemEquations). record e { requesters = take (length e.requesters - 1) e.requesters }) c.self.view_is
