-- Reading step by step.
use Rattle.std.proofs.Common.{◌≡◌, ℕ, zero, suc, ◌-◌, ◌*◌, List, [], ◌∷◌, ◌++◌, length, codes, Option, Some, None, refl}
use Rattle.std.proofs.Common.{sym, ap, ◌∙◌, arith}
use Rattle.kn_lex.specs.declared.token.Sort.{Sort}
use Rattle.kn_lex.specs.declared.token.Sort.TheVariants.{Label, Body, Name as SortName, Number, Text, Sign}
use Rattle.kn_fields.specs.Words.{Word, Mark, with_rest, word_by, itself}
use Rattle.kn_fields.specs.Reading.{Read, Reader, map_read, then_read, closed_by, tail_at, list_at, one_part, whole}
use Rattle.kn_fields.specs.Reading.{taken, read_mark}
use Rattle.kn_fields.proofs.Steps.{Going, going_on, tail_step, tail_none, list_none, less_one}
use Rattle.kn_formula.specs.Trees.{joined, need_of}
use Rattle.kn_formula.specs.Reading.{rule_text, finish_list, parts_of, of_front, one_front, parts_at, more_parts_at}
use Rattle.kn_formula.specs.Reading.{item_at, one_at, read_words}
use Rattle.kn_formula.specs.declared.written.Rule.{Rule}
use Rattle.kn_formula.specs.declared.written.Rule.TheVariants.{All, Any, AtLeast}
use Rattle.kn_formula.specs.declared.written.Written.{Written}
use Rattle.kn_formula.specs.declared.written.Written.TheVariants.{Several}

-- what is read behind a first part
abbrev pub parts_behind : ℕ → Rule → Written → Reader Written
parts_behind n rule first words =
    map_read (λ parts. finish_list rule (first ∷ parts))
    (tail_at (read_mark (rule_text rule)) one_part (item_at (n - 1) rule) n words)

parts_step : (budget : ℕ) (rule : Rule) (words : List Word)
    → parts_at budget rule words ≡ parts_of rule (item_at (budget - 1) rule) budget words
unfolding parts_at
parts_step zero rule words =
    sym (list_none (read_mark (rule_text rule)) one_part (λ part parts. finish_list rule (part ∷ parts))
    (item_at (0 - 1) rule) words)
parts_step (suc n) All words = ap (λ m. parts_of All (one_at m) (suc n) words) (less_one n)
parts_step (suc n) Any words = ap (λ m. parts_of Any (parts_at m All) (suc n) words) (less_one n)
parts_step (suc n) (AtLeast need) words = ap (λ m. parts_of (AtLeast need) (parts_at m Any) (suc n) words) (less_one n)

-- a first part, and the parts behind it
pub parts_read : (budget : ℕ) (rule : Rule) (words : List Word) (first : Read Written)
    → item_at (budget - 1) rule words ≡ first → parts_at budget rule words ≡ then_read first (parts_behind budget rule)
unfolding list_at
parts_read budget rule words first read = rw (parts_step budget rule words, read) refl

pub parts_more : (budget : ℕ) (rule : Rule) (first : Written) (words further : List Word) → (budget ≡ 0 → ⊥)
    → read_mark (rule_text rule) words ≡ Some (tt, further)
    → parts_behind budget rule first words ≡ more_parts_at (budget - 1) rule first further
parts_more budget rule first words further some there =
    rw (
      tail_step (read_mark (rule_text rule)) one_part (item_at (budget - 1) rule) budget words (omega (arith, some)),
      there,
    ) refl

pub parts_alone : (budget : ℕ) (rule : Rule) (first whole : Written) (words rest : List Word) → (budget ≡ 0 → ⊥)
    → read_mark (rule_text rule) words ≡ None → rest ≡ words → whole ≡ finish_list rule (first ∷ [])
    → parts_behind budget rule first words ≡ Some (whole, rest)
parts_alone budget rule first whole words rest some none same is =
    rw (same, is) (tail_none (read_mark (rule_text rule)) one_part (item_at (budget - 1) rule)
    (λ parts. finish_list rule (first ∷ parts)) budget words (omega (arith, some)) none)

-- a list under a rule of which so much is read
abbrev pub Parts : Rule → ℕ → ℕ → List Written → List Word → Read Written → Type 0
Parts rule budget left list words all =
    Going (read_mark (rule_text rule)) one_part (item_at budget rule) (finish_list rule) left tt list words all

pub parts_start : (budget : ℕ) (rule : Rule) (first : Written) (empty list : List Written) (words : List Word)
    → empty ≡ [] → list ≡ empty ++ first ∷ []
    → Parts rule budget budget list words (more_parts_at budget rule first words)
parts_start budget rule first empty list words none is =
    going_on (read_mark (rule_text rule)) one_part (item_at budget rule) (finish_list rule) budget tt (first ∷ []) list
    words
    (is ∙ ap (λ (list : List Written). list ++ first ∷ []) none)

-- a part behind others
pub whole_several : (rule : Rule) (list : List Written) (last : Written) → (list ≡ [] → ⊥)
    → Several rule (list ++ last ∷ []) ≡ finish_list rule (list ++ last ∷ [])
unfolding joined
whole_several All [] last some = absurd (some refl)
whole_several Any [] last some = absurd (some refl)
whole_several All (part ∷ []) last some = refl
whole_several Any (part ∷ []) last some = refl
whole_several _ list last some = refl

one_step : (budget : ℕ) (words : List Word) → (budget ≡ 0 → ⊥)
    → one_at budget words ≡ one_front words (parts_at (budget - 1))
unfolding one_at
one_step zero words some = absurd (some refl)
one_step (suc n) words some = ap (λ m. one_front words (parts_at m)) (less_one n)

pub one_end : (budget : ℕ) (words : List Word) → (budget ≡ 0 → ⊥) → words ≡ [] → one_at budget words ≡ None
one_end budget words some is = rw (one_step budget words some, is) refl

-- one word of this sort
pub one_word : (budget : ℕ) (words rest : List Word) (sort wanted : Sort) (text : List ℕ) → (budget ≡ 0 → ⊥)
    → words ≡ word_by sort text ∷ rest → sort ≡ wanted
    → one_at budget words ≡ one_front (word_by wanted text ∷ rest) (parts_at (budget - 1))
one_word budget words rest sort wanted text some is sort_is = rw (one_step budget words some, is, sort_is) refl

-- the list of a threshold, or none
pub one_number : (budget : ℕ) (words rest : List Word) (sort : Sort) (text : List ℕ) (opening : Read Mark)
    → (budget ≡ 0 → ⊥) → words ≡ word_by sort text ∷ rest → sort ≡ Number → of_front rest ≡ opening
    → one_at budget words
    ≡ then_read opening
    (λ mark words. then_read (parts_at (budget - 1) (AtLeast (need_of text)) words) (closed_by (codes ")")))
one_number budget words rest sort text opening some is sort_is of_is =
    rw (one_word budget words rest sort Number text some is sort_is, of_is) refl

-- a formula in brackets, or none
pub one_sign : (budget : ℕ) (words rest : List Word) (sort : Sort) (text : List ℕ) (opens : Option Mark)
    → (budget ≡ 0 → ⊥) → words ≡ word_by sort text ∷ rest → sort ≡ Sign → opens ≡ itself (codes "(") text
    → one_at budget words
    ≡ then_read (with_rest opens rest)
    (λ mark words. then_read (parts_at (budget - 1) Any words) (closed_by (codes ")")))
unfolding taken
one_sign budget words rest sort text opens some is sort_is opens_is =
    rw (one_word budget words rest sort Sign text some is sort_is, opens_is) refl

pub one_other : (budget : ℕ) (words rest : List Word) (sort : Sort) (text : List ℕ) → (budget ≡ 0 → ⊥)
    → words ≡ word_by sort text ∷ rest
    → (sort ≡ Text → ⊥) → (sort ≡ SortName → ⊥) → (sort ≡ Number → ⊥) → (sort ≡ Sign → ⊥) → one_at budget words ≡ None
one_other budget words rest Label text some is t n d s = one_word budget words rest Label Label text some is refl
one_other budget words rest Body text some is t n d s = one_word budget words rest Body Body text some is refl
one_other budget words rest Text text some is t n d s = absurd (t refl)
one_other budget words rest SortName text some is t n d s = absurd (n refl)
one_other budget words rest Number text some is t n d s = absurd (d refl)
one_other budget words rest Sign text some is t n d s = absurd (s refl)

-- the formula of all the words
pub read_is : (words : List Word) (budget : ℕ) (read : Read Written) → budget ≡ 3 * length words
    → parts_at budget Any words ≡ read → read_words words ≡ whole read
unfolding read_words
read_is words budget read enough is = rw (← enough, is) refl
