-- The critical assertions that were found so far.
use Rattle.std.proofs.Common.{◌≡◌, ◌⊎◌, ℕ, ◌+◌, List, [], ◌∷◌, ◌++◌, drop, inl, inr, refl, sym, ap, subst, append_assoc}
use Rattle.std.proofs.Common.{add-one}
use Rattle.std.proofs.lemmas.List.{append-nil}
use Rattle.kn_env.specs.Environment.{Asked}
use Rattle.kn_proof.specs.declared.named.Id.{Id}
use Rattle.kn_meaning.specs.Critical.{AreCritical, IsCritical}
use Rattle.kn_meaning.specs.Equations.{Part}
use Rattle.kn_critical.specs.Searching.{HasRow}
use Rattle.kn_critical.proofs.Rows.{first-of_rest}

-- these ids, and those of the assertions from this row on that are critical, are those of all
abbrev pub AreFound : Asked → List Part → ℕ → List Id → Type 0
AreFound asked parts row ids = (rest : List Id) → AreCritical asked parts (drop row parts) rest
    → AreCritical asked parts parts (ids ++ rest)

module _ (asked : Asked) (parts : List Part) (row : ℕ) (id : Id) (here : HasRow parts id row) where
  -- what the assertion of the row adds to those behind it
  stepped : (ids rest : List Id)
      → ((p : Part) → p.id ≡ id → (IsCritical asked parts p.id × (rest ≡ p.id ∷ ids))
      ⊎ ((IsCritical asked parts p.id → ⊥) × (rest ≡ ids)))
      → AreCritical asked parts (drop (row + 1) parts) ids → AreCritical asked parts (drop row parts) rest
  stepped ids rest case behind =
      let first = first-of_rest parts row id here in
      subst (λ ps. AreCritical asked parts ps rest) (sym first.2) (
        ids,
        subst (λ n. AreCritical asked parts (drop n parts) ids) (add-one row) behind,
        case first.0 first.1,
      )

  pub found-critical : (ids : List Id) → IsCritical asked parts id → AreFound asked parts row ids
      → AreFound asked parts (row + 1) (ids ++ id ∷ [])
  found-critical ids critical found rest behind =
      subst (AreCritical asked parts parts) (sym (append_assoc ids (id ∷ []) rest))
      (found (id ∷ rest)
      (stepped rest (id ∷ rest)
      (λ p same. inl (subst (IsCritical asked parts) (sym same) critical, ap (λ i. i ∷ rest) (sym same))) behind))

  pub found-other : (ids : List Id) → (IsCritical asked parts id → ⊥) → AreFound asked parts row ids
      → AreFound asked parts (row + 1) ids
  found-other ids none found rest behind =
      found rest (stepped rest rest (λ p same. inr (λ c. none (subst (IsCritical asked parts) same c), refl)) behind)

-- at the end those are all
pub all-found : (asked : Asked) (parts : List Part) (row : ℕ) (ids : List Id) → drop row parts ≡ []
    → AreFound asked parts row ids → AreCritical asked parts parts ids
all-found asked parts row ids none found =
    subst (AreCritical asked parts parts) (append-nil ids)
    (found [] (subst (λ ps. AreCritical asked parts ps []) (sym none) refl))
