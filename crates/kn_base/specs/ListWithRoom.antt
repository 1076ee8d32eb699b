-- A list with room for more items.
use Rattle.std.specs.Prelude.{ℕ, List, refl}
use Rattle.std.specs.Coded.{Coded, code_by, coded×, coded_list, coded_ℕ}

-- the items of a list, and how many more can be put behind them without memory
pub record ListWithRoom (T : Type 0) : Type 0 where
  pub items : List T
  pub spare : ℕ

-- it is stored as the pair of its fields
abbrev pub coded_list_with_room : {T : Type 0} → Coded T → Coded (ListWithRoom T)
coded_list_with_room {T} code =
    code_by (List T × ℕ) (coded× (coded_list code) coded_ℕ) (λ r. (r.items, r.spare))
    (λ p. record { items = p.0; spare = p.1 }) (λ _. refl)
