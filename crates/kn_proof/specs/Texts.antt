-- The text of a `VALUE` reply: a compliance value, and the rows that prove it (keynoted's own line protocol).
use Rattle.std.specs.Prelude.{ℕ, ◌+◌, ◌/◌, ◌%◌, ◌==◌, nat_lt, List, [], ◌∷◌, ◌++◌, length, codes, flat_map, decimal}
use Rattle.std.specs.Prelude.{if◌then◌else◌}
use Rattle.kn_proof.specs.declared.named.Id.{Id}
use Rattle.kn_proof.specs.declared.named.Id.TheVariants.{Shared, Private}
use Rattle.kn_proof.specs.declared.named.NamedRow.{NamedRow}

-- a byte of a quoted principal
abbrev pub quoted_byte : ℕ → List ℕ
quoted_byte b =
    if b == 34 then 92 ∷ 34 ∷ []
    else if b == 92 then 92 ∷ 92 ∷ []
    else if nat_lt b 32 then octal b
    else if nat_lt 126 b then octal b
    else b ∷ []
  where
    octal : ℕ → List ℕ
    octal b = 92 ∷ (48 + b / 64) ∷ (48 + b / 8 % 8) ∷ (48 + b % 8) ∷ []

abbrev pub id_text : Id → List ℕ
id_text (Shared n) = 97 ∷ decimal n
id_text (Private n) = 112 ∷ decimal n

abbrev pub row_text : NamedRow → List ℕ
row_text row = codes "ROW " ++ decimal row.value ++ 32 ∷ id_text row.id ++ codes " \""
    ++ flat_map quoted_byte row.principal ++ codes "\"\n"

-- the reply that gives the compliance value of this index and name over this version, with its rows
abbrev pub value_text : ℕ → List ℕ → ℕ → List NamedRow → List ℕ
value_text index name version rows =
    codes "VALUE " ++ decimal index ++ 32 ∷ name ++ 32 ∷ decimal version ++ 32 ∷ decimal (length rows) ++ 10
    ∷ flat_map row_text rows ++ codes "END\n"
