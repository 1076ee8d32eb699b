-- Reading a formula from the front of a field's words: the bridge between the grammar and the code. The number bounds
-- the steps, of which three for each word are enough.
use Rattle.std.specs.Prelude.{ℕ, zero, suc, ◌*◌, List, [], ◌∷◌, length, codes, Option, Some, None}
use Rattle.kn_fields.specs.Words.{Word, Mark}
use Rattle.kn_fields.specs.Words.Word.{literal, name, number, sign, other}
use Rattle.kn_fields.specs.Reading.{Read, Reader, map_read, then_read, closed_by, more_at, tail_at, list_at, one_part}
use Rattle.kn_fields.specs.Reading.{whole, read_mark, named}
use Rattle.kn_formula.specs.Trees.{joined, need_of}
use Rattle.kn_formula.specs.declared.written.Principal.TheVariants.{Literal, Name}
use Rattle.kn_formula.specs.declared.written.Rule.{Rule}
use Rattle.kn_formula.specs.declared.written.Rule.TheVariants.{All, Any, AtLeast}
use Rattle.kn_formula.specs.declared.written.Written.{Written}
use Rattle.kn_formula.specs.declared.written.Written.TheVariants.{Who, Several}

-- the sign between the parts of a list under a rule
abbrev pub rule_text : Rule → List ℕ
rule_text All = codes "&&"
rule_text Any = codes "||"
rule_text (AtLeast need) = codes ","

-- the parts of a list under a rule: one part alone is itself, but in a threshold
abbrev pub finish_list : Rule → List Written → Written
finish_list (AtLeast need) parts = Several (AtLeast need) parts
finish_list rule parts = joined rule parts

-- a list under a rule of these items
abbrev pub parts_of : Rule → Reader Written → ℕ → Reader Written
parts_of rule item n words =
    list_at (read_mark (rule_text rule)) one_part (λ part parts. finish_list rule (part ∷ parts)) item n words

-- `-`, `of` and `(`
abbrev pub of_front : Reader Mark
of_front words =
    then_read (read_mark (codes "-") words)
    (λ mark words. then_read (named (codes "of") words) (λ mark words. read_mark (codes "(") words))

abbrev pub one_front : List Word → (Rule → Reader Written) → Read Written
one_front [] list = None
one_front (literal value ∷ words) list = Some (Who (Literal value), words)
one_front (name text ∷ words) list = Some (Who (Name text), words)
one_front (number digits ∷ words) list =
    then_read (of_front words) (λ mark words. then_read (list (AtLeast (need_of digits)) words) (closed_by (codes ")")))
one_front (sign text ∷ words) list =
    then_read (read_mark (codes "(") (sign text ∷ words))
    (λ mark words. then_read (list Any words) (closed_by (codes ")")))
one_front (other ∷ words) list = None

unfoldable mutual
  pub parts_at : ℕ → Rule → Reader Written
  parts_at zero rule words = None
  parts_at (suc n) All words = parts_of All (one_at n) (suc n) words
  parts_at (suc n) Any words = parts_of Any (parts_at n All) (suc n) words
  parts_at (suc n) (AtLeast need) words = parts_of (AtLeast need) (parts_at n Any) (suc n) words

  pub one_at : ℕ → Reader Written
  one_at zero words = None
  one_at (suc n) words = one_front words (parts_at n)

abbrev pub item_at : ℕ → Rule → Reader Written
item_at n All = one_at n
item_at n Any = parts_at n All
item_at n (AtLeast need) = parts_at n Any

-- a list under a rule with a first part that is read, and a sign behind it
abbrev pub more_parts_at : ℕ → Rule → Written → Reader Written
more_parts_at n rule first words =
    map_read (λ parts. finish_list rule (first ∷ parts))
    (more_at one_part (item_at n rule) (tail_at (read_mark (rule_text rule)) one_part (item_at n rule) n) tt words)

-- the formula of all these words
unfoldable pub read_words : List Word → Option Written
read_words words = whole (parts_at (3 * length words) Any words)
