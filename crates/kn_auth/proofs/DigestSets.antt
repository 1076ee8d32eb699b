-- The set of the digests that are listed, as the list grows.
use Rattle.std.proofs.Common.{ℕ, true, List, [], ◌∷◌, ◌++◌, arith}
use Rattle.std.specs.HashSet.{HashSet, UpdatesBy}
use Rattle.std.specs.Str.{bytes_eq}
use Rattle.std.proofs.lemmas.Cmp.{nat_list_eq_equiv}
use Rattle.std.proofs.lemmas.List.Folds.{list_any-append}
use Rattle.kn_auth.specs.Listing.{HasDigests}

pub digest_added : {S : Type 0} (key : List ℕ) (old new : HashSet (List ℕ) S) (digests : List (List ℕ))
    → UpdatesBy bytes_eq (bytes_eq key) old new true → HasDigests old digests → HasDigests new (digests ++ key ∷ [])
digest_added key old new digests updates has =
    λ digest. grind (arith, list_any-append, has digest, updates.0 digest, nat_list_eq_equiv.symm key digest)
