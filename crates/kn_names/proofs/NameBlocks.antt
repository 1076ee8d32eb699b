-- Names in one block of bytes: one is read, added and taken away.
use Rattle.std.proofs.Common.{◌≡◌, ℕ, zero, suc, ◌-◌, ◌<◌, ◌≤◌, List, [], ◌∷◌, ◌++◌, Some, length, take, drop}
use Rattle.std.proofs.Common.{slice_get, slice_index, slice_range, refl, ap, ◌∙◌, arith}
use Rattle.std.proofs.lemmas.List.{drop-append-le, length-drop, take-append-le}
use Rattle.kn_names.specs.Arenas.{AreEnds, names_from}

pub length-names : (start : ℕ) (ends bytes : List ℕ) → length (names_from start ends bytes) ≡ length ends
length-names start [] bytes = refl
length-names start (e ∷ ends) bytes = ap suc (length-names e ends bytes)

pub name_at : (start : ℕ) (ends bytes : List ℕ) (i : ℕ) → i < length ends
    → slice_get (names_from start ends bytes) i
    ≡ Some (slice_range bytes (slice_index (start ∷ ends) i) (slice_index ends i))
name_at start [] bytes i l = absurd (omega (arith, l))
name_at start (e ∷ ends) bytes zero l = refl
name_at start (e ∷ ends) bytes (suc i) l = name_at e ends bytes i (omega (arith, l))

pub ends-last : (start : ℕ) (ends : List ℕ) (last : ℕ) → AreEnds start ends last → start ≤ last
ends-last start [] last are = omega (arith, are)
ends-last start (e ∷ ends) last are = omega (arith, are.0, ends-last e ends last are.1)

-- each name ends behind its beginning, and within all
pub ends-within : (start : ℕ) (ends : List ℕ) (last i : ℕ) → AreEnds start ends last → i < length ends
    → (slice_index (start ∷ ends) i ≤ slice_index ends i) × (slice_index ends i ≤ last)
ends-within start [] last i are l = absurd (omega (arith, l))
ends-within start (e ∷ ends) last zero are l = (are.0, ends-last e ends last are.1)
ends-within start (e ∷ ends) last (suc i) are l = ends-within e ends last i are.1 (omega (arith, l))

pub start-within : (start : ℕ) (ends : List ℕ) (last i : ℕ) → AreEnds start ends last → i ≤ length ends
    → slice_index (start ∷ ends) i ≤ last
start-within start ends last zero are l = ends-last start ends last are
start-within start [] last (suc i) are l = absurd (omega (arith, l))
start-within start (e ∷ ends) last (suc i) are l = start-within e ends last i are.1 (omega (arith, l))

pub ends-pushed : (start : ℕ) (ends : List ℕ) (last end : ℕ) → AreEnds start ends last → last ≤ end
    → AreEnds start (ends ++ end ∷ []) end
ends-pushed start [] last end are l = (omega (arith, are, l), refl)
ends-pushed start (e ∷ ends) last end are l = (are.0, ends-pushed e ends last end are.1 l)

-- bytes behind the last name change none
pub names-longer : (start : ℕ) (ends bytes more : List ℕ) (last : ℕ) → AreEnds start ends last → last ≤ length bytes
    → names_from start ends (bytes ++ more) ≡ names_from start ends bytes
names-longer start [] bytes more last are l = refl
names-longer start (e ∷ ends) bytes more last are l =
    let end : e ≤ last = ends-last e ends last are.1 in
    let size = length-drop start bytes in
    let own : slice_range (bytes ++ more) start e ≡ slice_range bytes start e =
    ap (take (e - start)) (drop-append-le start bytes more (omega (arith, end, l, are.0)))
    ∙ take-append-le (e - start) (drop start bytes) more (omega (arith, end, l, size)) in
    ap (λ x. x ∷ names_from e ends (bytes ++ more)) own
    ∙ ap (λ xs. slice_range bytes start e ∷ xs) (names-longer e ends bytes more last are.1 l)

pub names-push : (start : ℕ) (ends bytes : List ℕ) (last end : ℕ) → AreEnds start ends last
    → names_from start (ends ++ end ∷ []) bytes ≡ names_from start ends bytes ++ slice_range bytes last end ∷ []
names-push start [] bytes last end are = ap (λ s. slice_range bytes s end ∷ []) are
names-push start (e ∷ ends) bytes last end are =
    ap (λ xs. slice_range bytes start e ∷ xs) (names-push e ends bytes last end are.1)

-- the first names begin as all do
pub ends-taken : (start : ℕ) (ends : List ℕ) (last i : ℕ) → AreEnds start ends last → i ≤ length ends
    → AreEnds start (take i ends) (slice_index (start ∷ ends) i)
ends-taken start ends last zero are l = refl
ends-taken start [] last (suc i) are l = absurd (omega (arith, l))
ends-taken start (e ∷ ends) last (suc i) are l = (are.0, ends-taken e ends last i are.1 (omega (arith, l)))

pub names-taken : (start : ℕ) (ends bytes : List ℕ) (i : ℕ)
    → names_from start (take i ends) bytes ≡ take i (names_from start ends bytes)
names-taken start ends bytes zero = refl
names-taken start [] bytes (suc i) = refl
names-taken start (e ∷ ends) bytes (suc i) = ap (λ xs. slice_range bytes start e ∷ xs) (names-taken e ends bytes i)
