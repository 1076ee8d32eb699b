-- The search for an id in a page of credentials.
use Rattle.std.proofs.Common.{◌≡◌, ℕ, zero, suc, ◌+◌, ◌<◌, ◌≤◌, ◌==◌, false, List, [], ◌∷◌, length, take, sym, ap, ◌∙◌}
use Rattle.std.proofs.Common.{subst, arith}
use Rattle.std.specs.Prelude.{nat_lt, slice_get, get_or, Some}
use Rattle.std.specs.List.{list_any}
use Rattle.std.proofs.lemmas.Bool.{or_from, ne_eqb}
use Rattle.std.proofs.lemmas.List.{take_all}
use Rattle.std.proofs.lemmas.List.Folds.{list_any_more}
use Rattle.std.proofs.lemmas.Option.{slice_get-get_or}
use Rattle.kn_history.specs.History.{NumberedText}
use Rattle.kn_store.specs.Places.{IsIdAt, ends_before}

pub ends_at : (id : ℕ) (page : List NumberedText) (last : NumberedText) (n : ℕ) → length page ≡ suc n
    → slice_get page n ≡ Some last
    → ends_before id page ≡ nat_lt last.id id
ends_at id [] last n long there = cc
ends_at id (p ∷ []) last zero long there = let same : p ≡ last = cc in ap (λ (c : NumberedText). nat_lt c.id id) same
ends_at id (p ∷ []) last (suc n) long there = cc
ends_at id (p ∷ q ∷ page) last zero long there = absurd (omega arith)
ends_at id (p ∷ q ∷ page) last (suc n) long there = ends_at id (q ∷ page) last n (omega arith) there

pub found_at : (id : ℕ) (page : List NumberedText) (place : ℕ) (here : NumberedText) → place < length page
    → here ≡ get_or page place here
    → here.id ≡ id → IsIdAt id page place
found_at id page place here within is same = record {
  credential = here;
  there = slice_get-get_or page place here within ∙ ap Some (sym is);
  same = same;
}

pub passed : (id : ℕ) (page : List NumberedText) (place : ℕ) (here : NumberedText) → place < length page
    → here ≡ get_or page place here
    → (here.id ≡ id → ⊥) → list_any (λ c. c.id == id) (take place page) ≡ false
    → list_any (λ c. c.id == id) (take (place + 1) page) ≡ false
passed id page place here within is other before =
    list_any_more (λ c. c.id == id) page place here within
    ∙ or_from _ _ before (ap (λ (c : NumberedText). c.id == id) (sym is) ∙ ne_eqb here.id id other)

pub none_in_page : (id : ℕ) (page : List NumberedText) (place : ℕ) → length page ≤ place
    → list_any (λ c. c.id == id) (take place page) ≡ false
    → list_any (λ c. c.id == id) page ≡ false
none_in_page id page place all before =
    subst (λ l. list_any (λ (c : NumberedText). c.id == id) l ≡ false) (take_all place page all) before
