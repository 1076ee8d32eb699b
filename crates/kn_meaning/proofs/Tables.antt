-- A table of next levels, one entry at a time.
use Rattle.std.proofs.Math.Seq.{take-suc}
use Rattle.std.proofs.Common.{◌≡◌, ◌<◌, ◌+◌, ℕ, List, [], ◌∷◌, ◌++◌, length, get_or, take, sym, add-one, refl}
use Rattle.kn_meaning.specs.Equations.{Equations, round}
use Rattle.kn_meaning.specs.Tables.{level_in, next_levels_of}
use Rattle.kn_meaning.specs.declared.plain.Level.{Level}

next_levels_push : (e : Equations) (table ls : List Level) (l : Level)
    → next_levels_of e table (ls ++ l ∷ []) ≡ next_levels_of e table ls
    ++ record { name = l.name; level = round e (level_in table) l.name } ∷ []
next_levels_push e table [] l = refl
next_levels_push e table (k ∷ ls) l = rw (next_levels_push e table ls l)

pub next_levels_take : (e : Equations) (table : List Level) (i : ℕ) (l : Level) → i < length table
    → l ≡ get_or table i l
    → next_levels_of e table (take (i + 1) table) ≡ next_levels_of e table (take i table)
    ++ record { name = l.name; level = round e (level_in table) l.name } ∷ []
next_levels_take e table i l within is =
    rw (add-one i, take-suc table i l within, sym is) (next_levels_push e table (take i table) l)
