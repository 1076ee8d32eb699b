-- When two ids are one.
use Rattle.std.proofs.Common.{◌≡◌, true, false, refl, ap, ◌∙◌, sym}
use Rattle.std.proofs.lemmas.Bool.{eqb-true, eq-eqb, false_from_ne_true}
use Rattle.kn_proof.specs.declared.named.Id.{Id}
use Rattle.kn_proof.specs.declared.named.Id.TheVariants.{Shared, Private}
use Rattle.kn_meaning.specs.Critical.{is_same_id}

same-true : (a b : Id) → is_same_id a b ≡ true → a ≡ b
same-true (Shared a) (Shared b) e = ap Shared (eqb-true a b e)
same-true (Shared a) (Private b) e = absurd (cc)
same-true (Private a) (Shared b) e = absurd (cc)
same-true (Private a) (Private b) e = ap Private (eqb-true a b e)

itself : (a : Id) → is_same_id a a ≡ true
itself (Shared a) = eq-eqb a a refl
itself (Private a) = eq-eqb a a refl

-- one id passes the test
pub is_same_id-same : (a b : Id) → a ≡ b → is_same_id a b ≡ true
is_same_id-same a b e = ap (is_same_id a) (sym e) ∙ itself a

-- and two don't
pub is_same_id-other : (a b : Id) → (a ≡ b → ⊥) → is_same_id a b ≡ false
is_same_id-other a b differs = false_from_ne_true (is_same_id a b) (λ e. differs (same-true a b e))
