-- The tests of the plain program that follows a proof, on lists.
use Rattle.std.specs.Prelude.{ℕ, Bool, true, false, ◌==◌, ◌&&◌, not, nat_le, List, [], ◌∷◌, ◌++◌}
use Rattle.std.specs.List.{list_any, list_all}
use Rattle.std.specs.Str.{bytes_eq}
use Rattle.kn_principal.specs.Principals.{policy}
use Rattle.kn_proof.specs.declared.named.NamedRow.{NamedRow}
use Rattle.kn_meaning.specs.declared.plain.Level.{Level}
use Rattle.kn_meaning.specs.Formulas.{Levels}
use Rattle.kn_meaning.specs.Equations.{Statement, worth}
use Rattle.kn_meaning.specs.Critical.{is_same_id}
use Rattle.kn_meaning.specs.Tables.{level_in, entry_of}

abbrev pub supports : ℕ → Levels → NamedRow → Statement → Bool
supports top at row s =
    is_same_id s.id row.id && (bytes_eq s.authorizer row.principal && nat_le row.value (worth top at s))

-- whether a table has an entry for a name
abbrev pub has_entry : List Level → List ℕ → Bool
has_entry table name = list_any (λ entry. bytes_eq entry.name name) table

-- whether a row may follow those of a table, of which the requesters stand in front
abbrev pub may_follow : ℕ → List Statement → List Level → NamedRow → Bool
may_follow top ss table row =
    not (has_entry table row.principal)
    && ((nat_le 1 row.value && nat_le row.value top) && list_any (supports top (level_in table) row) ss)

abbrev pub with_row : List Level → NamedRow → List Level
with_row table row = table ++ entry_of row.principal row.value ∷ []

abbrev pub all_follow : ℕ → List Statement → List Level → List NamedRow → Bool
all_follow top ss table [] = true
all_follow top ss table (row ∷ rows) = may_follow top ss table row && all_follow top ss (with_row table row) rows

abbrev pub table_after : List Level → List NamedRow → List Level
table_after table [] = table
table_after table (row ∷ rows) = table_after (with_row table row) rows

abbrev pub is_settled : ℕ → Levels → Statement → Bool
is_settled top at s = nat_le (worth top at s) (at s.authorizer)

abbrev pub is_closed : ℕ → List Statement → List Level → Bool
is_closed top ss table = list_all (is_settled top (level_in table)) ss

-- whether the rows behind a table, with it, prove this level of the policy
abbrev pub ends_proof : ℕ → List Statement → List Level → List NamedRow → ℕ → Bool
ends_proof top ss table rows level =
    all_follow top ss table rows
    && (is_closed top ss (table_after table rows) && (level_in (table_after table rows) policy == level))
