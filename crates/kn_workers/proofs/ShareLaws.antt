-- The shares of doors add up to their quota.
use Rattle.std.proofs.Common.{◌≡◌, ℕ, ◌+◌, ◌<◌, ◌≤◌, Bool, true, false, List, [], ◌∷◌, length, refl, sym, ap, ◌∙◌}
use Rattle.std.proofs.Common.{arith}
use Rattle.std.specs.Prelude.{◌/◌, ◌%◌, ◌*◌, min, nat_lt, if◌then◌else◌}
use Rattle.std.proofs.Math.Nat.{div-add-mod, mod-lt, suc-mul}
use Rattle.std.proofs.lemmas.Bool.{ltb-true, lt-ltb}
use Rattle.kn_workers.specs.Connections.{ServedSeen}
use Rattle.kn_workers.specs.Doors.{DoorSeen}
use Rattle.kn_workers.specs.Nets.{share, AreBound}
use Rattle.kn_workers.specs.Workers.{all_quotas}

one-of : (i r : ℕ) (b : Bool) → nat_lt i r ≡ b → (if b then 1 else 0) + min i r ≡ min (i + 1) r
one-of i r true e = let less = ltb-true i r e in omega (arith, less)
one-of i r false e =
    let most : r ≤ i = not-below i r e in
    omega (arith, most)
  where
    true_not_false : true ≡ false → ⊥
    true_not_false e = cc e

    not-below : (i r : ℕ) → nat_lt i r ≡ false → r ≤ i
    not-below i r e = omega (arith, (λ (less : i < r). true_not_false (sym (lt-ltb i r less) ∙ e)))

module _ {C R : Type 0} (seen : R → DoorSeen (ServedSeen C)) (quota doors : ℕ) where
  shares-from : (i : ℕ) (rooms : List R) → AreBound seen quota doors i rooms →
      all_quotas seen rooms + min i (quota % doors) ≡ length rooms * (quota / doors) + min (i + length rooms)
      (quota % doors)
  shares-from i [] bound = omega arith
  shares-from i (room ∷ rooms) bound =
      let rest = shares-from (i + 1) rooms bound.1 in
      let first : (seen room).quota ≡ share quota doors i = bound.0.quota_is in
      let one = one-of i (quota % doors) (nat_lt i (quota % doors)) refl in
      let more = suc-mul (length rooms) (quota / doors) in
      omega (arith, rest, first, one, more)

  -- doors that were just bound give as many connections as was asked for
  pub shares_add_up : (rooms : List R) → 0 < doors → length rooms ≡ doors → AreBound seen quota doors 0 rooms →
      all_quotas seen rooms ≡ quota
  shares_add_up rooms some count bound =
      let all = shares-from 0 rooms bound in
      let less = mod-lt quota some in
      let whole = div-add-mod quota doors in
      let product : length rooms * (quota / doors) ≡ doors * (quota / doors) =
      ap (λ (n : ℕ). n * (quota / doors)) count in
      omega (arith, all, less, whole, count, product)
