-- Texts that are printed one after the other.
use Rattle.std.proofs.Common.{◌≡◌, ℕ, ◌+◌, ◌<◌, true, false, List, [], ◌∷◌, ◌++◌, length, get_or, take, drop, drop-cons}
use Rattle.std.proofs.Common.{suc, sym, ap, ◌∙◌, subst, append_assoc, append-nil}
use Rattle.std.specs.Prelude.{flat_map}
use Rattle.std.proofs.lemmas.List.{take-append-drop, take_more}
use Rattle.std.proofs.lemmas.Grind.{flat_map-append}
use Rattle.kn_outside.specs.Seen.{LinkSeen}
use Rattle.kn_outside.specs.Printing.{Writes, Prints}
use Rattle.kn_outside.proofs.PrintLaws.{writes_both, prints_written, prints_more, prints_cut}

-- one more text
pub flat_map-take : {X : Type 0} (f : X → List ℕ) (xs : List X) (i : ℕ) (d : X) → i < length xs
    → flat_map f (take (i + 1) xs) ≡ flat_map f (take i xs) ++ f (get_or xs i d)
flat_map-take f xs i d h =
    ap (flat_map f) (take_more xs i d h) ∙ flat_map-append f (take i xs) (get_or xs i d ∷ [])
    ∙ ap (λ (l : List ℕ). flat_map f (take i xs) ++ l) (append-nil (f (get_or xs i d)))

flat_map-around : {X : Type 0} (f : X → List ℕ) (xs : List X) (i : ℕ) (d : X) → i < length xs
    → flat_map f xs ≡ (flat_map f (take i xs) ++ f (get_or xs i d)) ++ flat_map f (drop (suc i) xs)
flat_map-around f xs i d h =
    ap (flat_map f) (sym (take-append-drop i xs) ∙ ap (λ (l : List _). take i xs ++ l) (drop-cons xs i d h))
    ∙ flat_map-append f (take i xs) (get_or xs i d ∷ drop (suc i) xs)
    ∙ sym (append_assoc (flat_map f (take i xs)) (f (get_or xs i d)) (flat_map f (drop (suc i) xs)))

-- one more text is printed
pub printed-more : {X : Type 0} (f : X → List ℕ) (xs : List X) (i : ℕ) (d : X) (l mid l' : LinkSeen) → i < length xs →
    Writes true (flat_map f (take i xs)) l mid → Writes true (f (get_or xs i d)) mid l'
    → Writes true (flat_map f (take (i + 1) xs)) l l'
printed-more f xs i d l mid l' h before this =
    subst (λ (text : List ℕ). Writes true text l l') (sym (flat_map-take f xs i d h))
    (writes_both (flat_map f (take i xs)) (f (get_or xs i d)) l mid l' before this)

-- a front of one more text is printed
pub printed-part : {X : Type 0} (f : X → List ℕ) (xs : List X) (i : ℕ) (d : X) (l mid l' : LinkSeen) → i < length xs →
    Writes true (flat_map f (take i xs)) l mid → Prints false (f (get_or xs i d)) mid l'
    → Prints false (flat_map f xs) l l'
printed-part f xs i d l mid l' h before this =
    let a = flat_map f (take i xs) in
    let b = f (get_or xs i d) in
    subst (λ (text : List ℕ). Prints false text l l') (sym (flat_map-around f xs i d h))
    (prints_cut (a ++ b) (flat_map f (drop (suc i) xs)) l l'
    (prints_more false a b l mid l' (prints_written a l mid before) this))
