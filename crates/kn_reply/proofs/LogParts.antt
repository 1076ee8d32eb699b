-- The parts of the reply that hands on updates.
use Rattle.std.proofs.Common.{◌≡◌, ◌∙◌, ℕ, zero, suc, ◌+◌, ◌-◌, ◌≤◌, min, List, [], ◌∷◌, ◌++◌, length, take, drop, sym}
use Rattle.std.proofs.Common.{ap, subst, append_assoc, arith}
use Rattle.std.specs.Prelude.{codes, decimal, flat_map, slice_get, Some}
use Rattle.std.proofs.lemmas.List.{length-take, length-drop, take_min, drop_all, flat_map_more}
use Rattle.kn_history.specs.declared.update.Update.{Update}
use Rattle.kn_reply.specs.Logs.{log_part, update_text, log_text}

-- one more item in front
take_next : {X : Type 0} (xs : List X) (i : ℕ) (x : X) → slice_get xs i ≡ Some x → take (i + 1) xs ≡ take i xs ++ x ∷ []
take_next [] i x e = absurd (cc (e))
take_next (y ∷ xs) zero x e = cc
take_next (y ∷ xs) (suc i) x e =
    let next : suc i + 1 ≡ suc (i + 1) = omega arith in
    ap (λ n. take n (y ∷ xs)) next ∙ ap (λ l. y ∷ l) (take_next xs i x e)

-- one more item from a place on
take_next_from : {X : Type 0} (xs : List X) (from i : ℕ) (x : X) → from ≤ i → slice_get xs i ≡ Some x
    → take (i + 1 - from) (drop from xs) ≡ take (i - from) (drop from xs) ++ x ∷ []
take_next_from xs zero i x within e =
    let more : i + 1 - 0 ≡ i + 1 = omega arith in
    let all : i - 0 ≡ i = omega arith in
    ap (λ n. take n xs) more ∙ take_next xs i x e ∙ ap (λ n. take n xs ++ x ∷ []) (sym all)
take_next_from [] (suc from) i x within e = absurd (cc (e))
take_next_from (y ∷ xs) (suc from) zero x within e = absurd (omega (arith, within))
take_next_from (y ∷ xs) (suc from) (suc i) x within e =
    let more : suc i + 1 - suc from ≡ i + 1 - from = omega arith in
    let all : suc i - suc from ≡ i - from = omega arith in
    ap (λ n. take n (drop from xs)) more ∙ take_next_from xs from i x (omega (arith, within)) e
    ∙ ap (λ n. take n (drop from xs) ++ x ∷ []) (sym all)

pub updates_more : (text : List ℕ) (history : List Update) (from i : ℕ) (u : Update) → from ≤ i
    → slice_get history i ≡ Some u
    → (text ++ flat_map update_text (take (i - from) (drop from history))) ++ update_text u ≡ text
    ++ flat_map update_text (take (i + 1 - from) (drop from history))
updates_more text history from i u within e =
    flat_map_more update_text text (take (i - from) (drop from history)) u
    ∙ ap (λ l. text ++ flat_map update_text l) (sym (take_next_from history from i u within e))

-- no item is behind more than all of them
drop_min : {X : Type 0} (n : ℕ) (xs : List X) → drop (min n (length xs)) xs ≡ drop n xs
drop_min n [] = drop_all (min n 0) [] (omega arith) ∙ sym (drop_all n [] (omega arith))
drop_min zero (x ∷ xs) = let none : min 0 (length (x ∷ xs)) ≡ 0 = omega arith in ap (λ k. drop k (x ∷ xs)) none
drop_min (suc n) (x ∷ xs) =
    let less : min (suc n) (length (x ∷ xs)) ≡ suc (min n (length xs)) = omega arith in
    ap (λ k. drop k (x ∷ xs)) less ∙ drop_min n xs

-- these places are those of the updates in a reply to a client that holds the first n
pub record ArePlaces (n place from to : ℕ) : Type 0 where
  pub begins : from ≡ min n place
  pub ends : to ≡ min place (from + 16)

told_part : (n from to : ℕ) (history : List Update) → ArePlaces n (length history) from to
    → take (to - from) (drop from history) ≡ log_part n history
told_part n from to history places =
    let begins : from ≡ min n (length history) = places.begins in
    let ends : to ≡ min (length history) (from + 16) = places.ends in
    let long : length (drop n history) ≡ length history - n = length-drop n history in
    let count : to - from ≡ min 16 (length (drop n history)) = omega arith in
    let behind : drop from history ≡ drop n history = ap (λ k. drop k history) begins ∙ drop_min n history in
    ap (λ l. take (to - from) l) behind ∙ ap (λ k. take k (drop n history)) count ∙ take_min 16 (drop n history)

told_count : (n from to : ℕ) (history : List Update) → ArePlaces n (length history) from to
    → to - from ≡ length (log_part n history)
told_count n from to history places =
    let begins : from ≡ min n (length history) = places.begins in
    let ends : to ≡ min (length history) (from + 16) = places.ends in
    let long : length (drop n history) ≡ length history - n = length-drop n history in
    let count : to - from ≡ min 16 (length (drop n history)) = omega arith in
    count ∙ sym (length-take 16 (drop n history))

log_pieces : (text log n count place told end : List ℕ)
    → ((((text ++ (log ++ n)) ++ (32 ∷ [] ++ count ++ 32 ∷ place ++ 10 ∷ [])) ++ told) ++ end) ≡ text
    ++ (log ++ n ++ 32 ∷ count ++ 32 ∷ place ++ 10 ∷ told ++ end)
log_pieces text log n count place told end = simp append_assoc

pub log_parts : (text : List ℕ) (n from to place : ℕ) (history : List Update) → place ≡ length history
    → ArePlaces n place from to
    → ((((text ++ (codes "LOG " ++ decimal n)) ++ (codes " " ++ decimal (to - from) ++ 32 ∷ decimal place ++ 10 ∷ []))
    ++ flat_map update_text (take (to - from) (drop from history))) ++ codes "END\n") ≡ text ++ log_text n history
log_parts text n from to place history all places =
    let right : ArePlaces n (length history) from to = subst (λ k. ArePlaces n k from to) all places in
    rw (told_part n from to history right, told_count n from to history right, all)
    (log_pieces text (codes "LOG ") (decimal n) (decimal (length (log_part n history))) (decimal (length history))
    (flat_map update_text (log_part n history)) (codes "END\n"))
