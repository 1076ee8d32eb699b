-- Histories of single changes are valid by their own rules exactly where they are as lists of changes.
use Rattle.std.proofs.Common.{◌≡◌, ℕ, Bool, true, false, ◌&&◌, is_none, List, [], ◌∷◌, ◌++◌, map, refl, sym, ap, ◌∙◌}
use Rattle.std.proofs.lemmas.List.{map_push, length-map}
use Rattle.kn_history.specs.declared.update.Change.{Change}
use Rattle.kn_history.specs.declared.update.Change.TheVariants.{Add, Remove}
use Rattle.kn_history.specs.History.{refusal_of, is_well_numbered, may_follow, updates_may_follow, is_valid_history}
use Rattle.kn_history.specs.Singles.{Single, change_in, changes_in, as_update, refusal_of_single, is_single_numbered}
use Rattle.kn_history.specs.Singles.{single_may_follow, singles_may_follow, are_valid_singles}

refusal-same : (past : List Single) (change : Change) (id : ℕ)
    → refusal_of (changes_in past) change id ≡ refusal_of_single past change id
refusal-same past (Add text) id = rw (length-map past change_in) refl
refusal-same past Remove id = rw (length-map past change_in) refl

number-same : (past : List Single) (change : Change) (id : ℕ)
    → is_well_numbered (changes_in past) change id ≡ is_single_numbered past change id
number-same past (Add text) id = refl
number-same past Remove id = refl

follows-same : (past : List Single) (s : Single) → may_follow (changes_in past) (change_in s) ≡ single_may_follow past s
follows-same past s =
    ap (λ o. is_none o && is_well_numbered (changes_in past) s.change s.id) (refusal-same past s.change s.id)
    ∙ ap (λ t. is_none (refusal_of_single past s.change s.id) && t) (number-same past s.change s.id)

alone : (one rest : Bool) → (((true && true) && (one && true)) && rest) ≡ (one && rest)
alone true rest = refl
alone false rest = refl

singles-same : (past singles : List Single) → updates_may_follow (changes_in past) (map as_update singles)
    ≡ singles_may_follow past singles
singles-same past [] = refl
singles-same past (s ∷ singles) =
    alone (may_follow (changes_in past) (change_in s))
    (updates_may_follow (changes_in past ++ change_in s ∷ []) (map as_update singles))
    ∙ ap (λ t. t && updates_may_follow (changes_in past ++ change_in s ∷ []) (map as_update singles))
    (follows-same past s)
    ∙ ap (λ l. single_may_follow past s && updates_may_follow l (map as_update singles))
    (sym (map_push change_in past s))
    ∙ ap (λ t. single_may_follow past s && t) (singles-same (past ++ s ∷ []) singles)

pub singles-are_histories : (singles : List Single)
    → is_valid_history (map as_update singles) ≡ are_valid_singles singles
singles-are_histories singles = singles-same [] singles
