-- Whom the new row of an example affects: its authorizer, whom no row names.
use Rattle.std.proofs.Common.{◌≡◌, ◌<◌, ℕ, zero, suc, true, false, List, [], ◌∷◌, Bool, Some, refl, sym, subst, arith}
use Rattle.std.specs.Prelude.{slice_get}
use Rattle.kn_system.specs.declared.rows.Piece.TheVariants.{Who}
use Rattle.kn_system.specs.Equations.{row_at}
use Rattle.kn_watch.specs.declared.changed.Changed.{Changed}
use Rattle.kn_watch.specs.Affected.{is_affected, HasChanged, IsSubset, UsesPrincipal}
use Rattle.kn_examples.specs.Licensing.{licensing, third_row, third_authorizer}

pub has-changed : HasChanged licensing third_row third_authorizer
has-changed zero change e =
    let same : (record { row = 2; before = 0 }) ≡ change = cc in
    subst (λ (c : Changed). is_affected third_authorizer (row_at licensing.rows c.row).authorizer ≡ true) same refl
has-changed (suc i) change e = absurd (cc)

pub has-row : (i row : ℕ) → slice_get (2 ∷ []) i ≡ Some row
    → is_affected third_authorizer (row_at licensing.rows row).authorizer ≡ true
has-row zero row e =
    let same : 2 ≡ row = cc in
    subst (λ (r : ℕ). is_affected third_authorizer (row_at licensing.rows r).authorizer ≡ true) same refl
has-row (suc i) row e = absurd (cc)

named : (p q i : ℕ) → slice_get (Who q ∷ []) i ≡ Some (Who p) → q ≡ p
named p q zero e = cc
named p q (suc i) e = absurd (cc)

-- no row names the third authorizer
pub has-users : (p r : ℕ) → is_affected third_authorizer p ≡ true → r < 3 → UsesPrincipal (row_at licensing.rows r) p
    → is_affected third_authorizer (row_at licensing.rows r).authorizer ≡ true
has-users p zero is l (i, e) =
    let no : false ≡ true = subst (λ (n : ℕ). is_affected third_authorizer n ≡ true) (sym (named p 1 i e)) is in
    absurd (cc)
has-users p (suc zero) is l (i, e) =
    let no : false ≡ true = subst (λ (n : ℕ). is_affected third_authorizer n ≡ true) (sym (named p 3 i e)) is in
    absurd (cc)
has-users p (suc (suc zero)) is l uses = refl
has-users p (suc (suc (suc r))) is l uses = absurd (omega (arith, l))

pub least-affected : (others : List Bool) → HasChanged licensing third_row others → IsSubset third_authorizer others
least-affected others changed zero is = absurd (cc)
least-affected others changed (suc zero) is = absurd (cc)
least-affected others changed (suc (suc zero)) is = changed 0 (record { row = 2; before = 0 }) refl
least-affected others changed (suc (suc (suc zero))) is = absurd (cc)
least-affected others changed (suc (suc (suc (suc p)))) is = absurd (cc)
