-- What holds while critical assertions are searched: they are those of a base, and each is known by its row there.
use Rattle.std.specs.Prelude.{ℕ, ◌≡◌, ◌<◌, ◌≤◌, ◌^◌, zero, suc, Bool, true, not, List, [], ◌∷◌, length, map, replicate}
use Rattle.std.specs.Bool.{Decides}
use Rattle.kn_env.specs.Environment.{Asked}
use Rattle.kn_proof.specs.declared.named.Id.{Id}
use Rattle.kn_proof.specs.declared.named.NamedRow.{NamedRow}
use Rattle.kn_meaning.specs.Critical.{IsCritical, is_row_by}
use Rattle.kn_meaning.specs.Equations.{Part, equations_over, IsPolicyLevel}
use Rattle.kn_rows.specs.BaseRows.{IsBaseOf}
use Rattle.kn_rows.specs.Numbering.{IsNumber, with_names}
use Rattle.kn_answer.specs.Based.{BaseView}
use Rattle.kn_answer.specs.Removed.{live_parts}

-- the base is of these assertions, each of them is there, and there is room for the names of those who request
pub record IsWhole (asked : Asked) (parts : List Part) (base : BaseView) : Type 0 where
  pub of : IsBaseOf parts base.names base.system
  pub live : base.live ≡ replicate (length parts) true
  pub room : length (with_names base.names asked.requesters) ≤ 2 ^ 24

-- the assertion of this row has this id
abbrev pub HasRow : List Part → Id → ℕ → Type 0
HasRow parts id row = IsNumber (map (λ part. part.id) parts) id row

-- a row of a proof names the assertion of this row
abbrev pub IsRowNamed : List NamedRow → List Part → ℕ → Type 0
IsRowNamed rows parts row = (id : Id) → HasRow parts id row → is_row_by rows id ≡ true

-- the flags of a base from which those assertions of these rows, the end not among them, are out that a proof names
abbrev pub flags_without : List NamedRow → List Part → ℕ → ℕ → List Bool
flags_without rows [] start end = []
flags_without rows (part ∷ parts) zero zero = true ∷ flags_without rows parts zero zero
flags_without rows (part ∷ parts) zero (suc end) = not (is_row_by rows part.id) ∷ flags_without rows parts zero end
flags_without rows (part ∷ parts) (suc start) zero = true ∷ flags_without rows parts start zero
flags_without rows (part ∷ parts) (suc start) (suc end) = true ∷ flags_without rows parts start end

-- and the flags with all of these rows
abbrev pub flags_with : List Bool → ℕ → ℕ → List Bool
flags_with [] start end = []
flags_with (flag ∷ flags) zero zero = flag ∷ flags_with flags zero zero
flags_with (flag ∷ flags) zero (suc end) = true ∷ flags_with flags zero end
flags_with (flag ∷ flags) (suc start) zero = flag ∷ flags_with flags start zero
flags_with (flag ∷ flags) (suc start) (suc end) = flag ∷ flags_with flags start end

-- without those assertions of these rows that a proof names the policy has this level
abbrev pub IsLevelWithoutRun : Asked → List NamedRow → List Part → ℕ → ℕ → ℕ → Type 0
IsLevelWithoutRun asked rows parts start end level =
    IsPolicyLevel (equations_over asked (live_parts parts (flags_without rows parts start end))) level

-- the assertion of this row is critical
abbrev pub IsRowCritical : Asked → List Part → ℕ → Type 0
IsRowCritical asked parts row = (id : Id) → HasRow parts id row → IsCritical asked parts id

-- none of these rows has a critical assertion
abbrev pub AreUncritical : Asked → List Part → ℕ → ℕ → Type 0
AreUncritical asked parts start end = (row : ℕ) → start ≤ row → row < end → IsRowCritical asked parts row → ⊥

-- this tells whether the assertion of this row is critical
abbrev pub DecidesCritical : Asked → List Part → ℕ → Bool → Type 0
DecidesCritical asked parts row critical = (id : Id) → HasRow parts id row
    → Decides critical (IsCritical asked parts id)
