-- Requesters that are entered one after another.
use Rattle.std.proofs.Common.{◌≡◌, ℕ, ◌+◌, ◌<◌, Bool, true, false, ◌||◌, List, [], ◌∷◌, ◌++◌, length, length-append}
use Rattle.std.proofs.Common.{refl, ◌∙◌, arith}
use Rattle.std.specs.List.{list_any, AllByRecursion}
use Rattle.std.specs.Str.{bytes_eq}
use Rattle.std.proofs.lemmas.List.Folds.{list_any-append}
use Rattle.kn_base.specs.declared.limits.TheConstants.{REQUESTERS}
use Rattle.kn_principal.specs.Principals.{policy}
use Rattle.kn_env.specs.Environment.{IsPrincipalSize, AreRequesters}

-- a fact of each item holds of one more
pub AllByRecursion-push : {X : Type 0} (P : X → Type 0) (xs : List X) (x : X) → AllByRecursion P xs → P x
    → AllByRecursion P (xs ++ x ∷ [])
AllByRecursion-push P [] x all one = (one, tt)
AllByRecursion-push P (y ∷ xs) x all one = (all.0, AllByRecursion-push P xs x all.1 one)

pub AreRequesters-none : AreRequesters []
AreRequesters-none = record { few = omega arith; sizes = tt; others = refl }

-- one more may request where there is room and it isn't the policy
pub AreRequesters-push : (requesters : List (List ℕ)) (name : List ℕ) → AreRequesters requesters
    → length requesters < REQUESTERS → IsPrincipalSize name → bytes_eq policy name ≡ false
    → AreRequesters (requesters ++ name ∷ [])
AreRequesters-push requesters name before room size other =
    let longer : length (requesters ++ name ∷ []) ≡ length requesters + 1 = length-append requesters (name ∷ []) in
    record {
      few = omega arith;
      sizes = AllByRecursion-push IsPrincipalSize requesters name before.sizes size;
      others = list_any-append (bytes_eq policy) requesters (name ∷ [])
          ∙ none (list_any (bytes_eq policy) requesters) (bytes_eq policy name) before.others other;
    }
  where
    none : (b d : Bool) → b ≡ false → d ≡ false → (b || (d || false)) ≡ false
    none true d e f = cc
    none false true e f = cc
    none false false e f = refl
