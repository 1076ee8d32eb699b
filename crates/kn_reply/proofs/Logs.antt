-- Replies that hand on updates, one after the other.
use Rattle.std.proofs.Common.{◌≡◌, ℕ, zero, suc, ◌-◌, min, List, [], ◌∷◌, ◌++◌, length, take, drop, refl, sym, ap, ◌∙◌}
use Rattle.std.proofs.Common.{subst, arith, append_assoc, take-append-drop}
use Rattle.std.proofs.lemmas.List.{length-take, length-drop}
use Rattle.kn_base.specs.declared.limits.TheConstants.{LOG_UPDATES}
use Rattle.kn_history.specs.declared.update.Update.{Update}
use Rattle.kn_reply.specs.Logs.{log_part, held_after}
use Rattle.kn_reply.specs.Laws.{IsBeginning}

-- a part of what is behind some updates, and what is behind that
pub front-of : (held rest : List Update) (place : ℕ)
    → drop (length held) (take place (held ++ rest)) ++ drop (place - length held) rest ≡ rest
front-of [] rest place = let same : place - 0 ≡ place = omega arith in ap (λ n. take place rest ++ drop n rest) same
    ∙ take-append-drop place rest
front-of (x ∷ held) rest zero = let same : 0 - length (x ∷ held) ≡ 0 = omega arith in ap (λ n. drop n rest) same
front-of (x ∷ held) rest (suc place) =
    let same : suc place - length (x ∷ held) ≡ place - length held = omega arith in
    ap (λ n. drop (length held) (take place (held ++ rest)) ++ drop n rest) same ∙ front-of held rest place

behind : (held rest : List Update) (places : List ℕ)
    → IsBeginning (held ++ rest) (held_after (held ++ rest) held places)
behind held rest [] = record { rest = rest; whole = refl }
behind held rest (place ∷ places) =
    let seen = drop (length held) (take place (held ++ rest)) in
    let part = log_part (length held) (take place (held ++ rest)) in
    let later = drop (place - length held) rest in
    let left = drop 16 seen ++ later in
    let split : rest ≡ part ++ left = sym (front-of held rest place)
    ∙ ap (λ l. l ++ later) (sym (take-append-drop 16 seen)) ∙ append_assoc part (drop 16 seen) later in
    let same : held ++ rest ≡ (held ++ part) ++ left = ap (λ l. held ++ l) split ∙ sym (append_assoc held part left) in
    subst (λ h. IsBeginning h (held_after h (held ++ part) places)) (sym same) (behind (held ++ part) left places)

pub logs-are_a_beginning : (history : List Update) (places : List ℕ)
    → IsBeginning history (held_after history [] places)
logs-are_a_beginning history places = behind [] history places

pub logs-go_on : (history : List Update) (n : ℕ) → length (log_part n history) ≡ min LOG_UPDATES (length history - n)
logs-go_on history n = length-take 16 (drop n history) ∙ ap (λ k. min 16 k) (length-drop n history)
