-- What is read is spelled by what is read of.
use Rattle.std.proofs.Common.{◌≡◌, ℕ, zero, suc, Bool, List, [], ◌∷◌, ◌++◌, codes, Option, Some, None, inl, inr, refl}
use Rattle.std.proofs.Common.{sym, ap, ◌∙◌}
use Rattle.std.proofs.lemmas.List.{append_assoc}
use Rattle.kn_trees.specs.declared.program.Expr.{Expr}
use Rattle.kn_trees.specs.declared.program.Expr.TheVariants as E
use Rattle.kn_fields.specs.Words.{Word}
use Rattle.kn_fields.specs.Words.Word.{literal as literal_word, name as name_word, number as number_word}
use Rattle.kn_fields.specs.Words.Word.{sign as sign_word, other as other_word}
use Rattle.kn_program.specs.Signs.{comparison_text, comparison_of, prefix_text, prefix_of, truth_of, number_of}
use Rattle.kn_program.specs.Trees.{with_prefix}
use Rattle.kn_program.specs.Grammar.{Atom, or_words, and_words, not_words, cmp_words, sum_words, product_words}
use Rattle.kn_program.specs.Grammar.{power_words, unary_words, atom_words, or_parts, and_parts, not_tree, cmp_tree}
use Rattle.kn_program.specs.Grammar.{sum_first, sum_links, product_first, product_links, power_first, power_links}
use Rattle.kn_program.specs.Grammar.{unary_tree, atom_tree, or_tree}
use Rattle.kn_program.proofs.Derivations.{cmp, negated, sum, compared, atom, signed, group, literal, number, truth}
use Rattle.kn_program.proofs.Derivations.{name}
use Rattle.kn_fields.specs.Reading.{Read, Reader, map_read, then_read, behind_sign, closed_by, taken, read_mark}
use Rattle.kn_fields.proofs.Words.{read_parts, taken_before, marked_before}
use Rattle.kn_fields.proofs.Steps.{mapped, behind, chosen}
use Rattle.kn_fields.proofs.Levels.{Spelled, IsSound, none_sound, level_sound, closed_sound}
use Rattle.kn_program.specs.Reading.{name_tree, number_tree, atom_by, atom_front, tests_at, negation_at, comparison_at}
use Rattle.kn_program.specs.Reading.{chain_at, operand_at, atom_at}
use Rattle.kn_program.specs.declared.signs.Joint.TheVariants as joint
use Rattle.kn_program.specs.declared.signs.Precedence.TheVariants as level
use Rattle.kn_program.proofs.SignLemmas.{comparison_before, prefix_before}
use Rattle.kn_program.proofs.Lists.{and_tree, sum_tree, product_tree, power_tree, or_level, and_level, sum_level}
use Rattle.kn_program.proofs.Lists.{product_level, power_level}

not_sound : (comparison negation : Reader Expr) → IsSound cmp_words cmp_tree comparison
    → IsSound not_words not_tree negation
    → IsSound not_words not_tree
    (λ words. behind_sign (read_mark (codes "!") words) (comparison words)
    (λ mark rest. map_read E.Not (negation rest)))
unfolding not_words not_tree
not_sound comparison negation below same words x rest e =
    elim (chosen (read_mark (codes "!") words) (comparison words) (λ mark rest. map_read E.Not (negation rest)) x rest
    e) [
      | inl o ↦
          let c = below words x rest o.is in
          record { form = cmp c.form; spelled = c.spelled; means = c.means }
      | inr t ↦
          let m = mapped E.Not (negation t.left) x rest t.is in
          let n = same t.left m.from rest m.is in
          record {
            form = negated n.form;
            spelled = rw (marked_before (codes "!") words t.left t.found t.there, n.spelled) refl;
            means = ap E.Not n.means ∙ m.made;
          }
    ]

cmp_sound : (sums : Reader Expr) → IsSound sum_words sum_tree sums
    → IsSound cmp_words cmp_tree (λ words. then_read (sums words) (λ left rest.
    behind_sign (taken comparison_of rest) (Some (left, rest))
    (λ found behind. map_read (E.Compare found left) (sums behind))))
unfolding cmp_words cmp_tree
cmp_sound sums sound words x rest e =
    let b = behind (sums words)
    (λ left rest. behind_sign (taken comparison_of rest) (Some (left, rest))
    (λ found behind. map_read (E.Compare found left) (sums behind))) x rest e in
    let l = sound words b.first b.middle b.is in
    elim (chosen (taken comparison_of b.middle) (Some (b.first, b.middle))
    (λ found behind. map_read (E.Compare found b.first) (sums behind)) x rest b.then_is) [
      | inl o ↦
          let same = read_parts b.first x b.middle rest o.is in
          record {
            form = sum l.form;
            spelled = ap (λ (rest : List Word). sum_words l.form ++ rest) (sym same.1) ∙ l.spelled;
            means = l.means ∙ same.0;
          }
      | inr t ↦
          let m = mapped (E.Compare t.found b.first) (sums t.left) x rest t.is in
          let r = sound t.left m.from rest m.is in
          let sign = taken_before comparison_of b.middle t.left t.found t.there in
          let middle : b.middle ≡ sign_word (comparison_text t.found) ∷ t.left =
          sign.words_are ∙ ap (λ (text : List ℕ). sign_word text ∷ t.left)
          (comparison_before sign.text t.found sign.stands_for) in
          record {
            form = compared l.form t.found r.form;
            spelled = rw (append_assoc, r.spelled, ← middle) l.spelled;
            means = rw (l.means, r.means) m.made;
          }
    ]

unary_sound : (atoms operands : Reader Expr) → IsSound atom_words atom_tree atoms
    → IsSound unary_words unary_tree operands
    → IsSound unary_words unary_tree
    (λ words. behind_sign (taken prefix_of words) (atoms words)
    (λ found rest. map_read (with_prefix found) (operands rest)))
unfolding unary_words unary_tree
unary_sound atoms operands below same words x rest e =
    elim (chosen (taken prefix_of words) (atoms words) (λ found rest. map_read (with_prefix found) (operands rest)) x
    rest
    e) [
      | inl o ↦
          let a = below words x rest o.is in
          record { form = atom a.form; spelled = a.spelled; means = a.means }
      | inr t ↦
          let m = mapped (with_prefix t.found) (operands t.left) x rest t.is in
          let u = same t.left m.from rest m.is in
          let sign = taken_before prefix_of words t.left t.found t.there in
          let words_are : words ≡ sign_word (prefix_text t.found) ∷ t.left =
          sign.words_are ∙ ap (λ (text : List ℕ). sign_word text ∷ t.left)
          (prefix_before sign.text t.found sign.stands_for) in
          record {
            form = signed t.found u.form;
            spelled = rw (words_are, u.spelled) refl;
            means = ap (with_prefix t.found) u.means ∙ m.made;
          }
    ]

group_sound : (tests : Reader Expr) → IsSound or_words or_tree tests
    → IsSound atom_words atom_tree
    (λ words. then_read (read_mark (codes "(") words) (λ mark inner. then_read (tests inner) (closed_by (codes ")"))))
unfolding atom_words atom_tree
group_sound tests sound words x rest e =
    let a = behind (read_mark (codes "(") words) (λ mark inner. then_read (tests inner) (closed_by (codes ")"))) x rest
    e in
    let b = closed_sound (codes ")") or_words or_tree tests sound a.middle x rest a.then_is in
    record {
      form = group b.form;
      spelled = ap (λ (words : List Word). sign_word (codes "(") ∷ words) b.spelled
          ∙ sym (marked_before (codes "(") words a.middle a.first a.is);
      means = b.means;
    }

-- an atom of one word
word_sound : (a : Atom) (word : Word) (words rest : List Word) (x : Expr) → atom_words a ≡ word ∷ []
    → ◌≡◌ {A = Read Expr} (Some (atom_tree a, words)) (Some (x, rest))
    → Spelled atom_words atom_tree (word ∷ words) x rest
word_sound a word words rest x is e =
    let same = read_parts (atom_tree a) x words rest e in
    record {
      form = a;
      spelled = ap (λ (spelled : List Word). spelled ++ rest) is
          ∙ ap (λ (words : List Word). word ∷ words) (sym same.1);
      means = same.0;
    }

name_sound : (text : List ℕ) (found : Option Bool) (words rest : List Word) (x : Expr) → truth_of text ≡ found
    → ◌≡◌ {A = Read Expr} (Some (name_tree found text, words)) (Some (x, rest))
    → Spelled atom_words atom_tree (name_word text ∷ words) x rest
unfolding atom_words atom_tree
name_sound text None words rest x is e = word_sound (name text is) (name_word text) words rest x refl e
name_sound text (Some value) words rest x is e = word_sound (truth text value is) (name_word text) words rest x refl e

number_sound : (tests : Reader Expr) → IsSound or_words or_tree tests
    → (digits : List ℕ) (found : Option ℕ) (words rest : List Word) (x : Expr) → number_of digits ≡ found
    → atom_by (number_tree found) (number_word digits) words tests ≡ Some (x, rest)
    → Spelled atom_words atom_tree (number_word digits ∷ words) x rest
unfolding atom_words atom_tree
number_sound tests sound digits None words rest x is e = group_sound tests sound (number_word digits ∷ words) x rest e
number_sound tests sound digits (Some value) words rest x is e =
    word_sound (number digits value is) (number_word digits) words rest x refl e

atom_sound : (tests : Reader Expr) → IsSound or_words or_tree tests
    → IsSound atom_words atom_tree (λ words. atom_front words tests)
unfolding atom_words atom_tree
atom_sound tests sound [] x rest e = absurd (cc)
atom_sound tests sound (literal_word value ∷ words) x rest e =
    word_sound (literal value) (literal_word value) words rest x refl e
atom_sound tests sound (name_word text ∷ words) x rest e = name_sound text (truth_of text) words rest x refl e
atom_sound tests sound (number_word digits ∷ words) x rest e =
    number_sound tests sound digits (number_of digits) words rest x refl e
atom_sound tests sound (sign_word text ∷ words) x rest e = group_sound tests sound (sign_word text ∷ words) x rest e
atom_sound tests sound (other_word ∷ words) x rest e = group_sound tests sound (other_word ∷ words) x rest e

mutual
  unfolding tests_at negation_at comparison_at chain_at operand_at atom_at or_words or_parts and_words and_parts
      sum_words sum_first sum_links product_words product_first product_links power_words power_first power_links

  pub sound_or : (n : ℕ) → IsSound or_words or_tree (tests_at n joint.Or)
  sound_or zero words x rest e = none_sound or_words or_tree words x rest e
  sound_or (suc n) words x rest e = level_sound or_level (tests_at n joint.And) (suc n) words x rest (sound_and n) e

  pub sound_and : (n : ℕ) → IsSound and_words and_tree (tests_at n joint.And)
  sound_and zero words x rest e = none_sound and_words and_tree words x rest e
  sound_and (suc n) words x rest e = level_sound and_level (negation_at n) (suc n) words x rest (sound_not n) e

  pub sound_not : (n : ℕ) → IsSound not_words not_tree (negation_at n)
  sound_not zero words x rest e = none_sound not_words not_tree words x rest e
  sound_not (suc n) words x rest e =
      not_sound (comparison_at n) (negation_at n) (sound_cmp n) (sound_not n) words x rest e

  pub sound_cmp : (n : ℕ) → IsSound cmp_words cmp_tree (comparison_at n)
  sound_cmp zero words x rest e = none_sound cmp_words cmp_tree words x rest e
  sound_cmp (suc n) words x rest e = cmp_sound (chain_at n level.Sum) (sound_sum n) words x rest e

  pub sound_sum : (n : ℕ) → IsSound sum_words sum_tree (chain_at n level.Sum)
  sound_sum zero words x rest e = none_sound sum_words sum_tree words x rest e
  sound_sum (suc n) words x rest e =
      level_sound sum_level (chain_at n level.Product) (suc n) words x rest (sound_product n) e

  pub sound_product : (n : ℕ) → IsSound product_words product_tree (chain_at n level.Product)
  sound_product zero words x rest e = none_sound product_words product_tree words x rest e
  sound_product (suc n) words x rest e =
      level_sound product_level (chain_at n level.Power) (suc n) words x rest (sound_power n) e

  pub sound_power : (n : ℕ) → IsSound power_words power_tree (chain_at n level.Power)
  sound_power zero words x rest e = none_sound power_words power_tree words x rest e
  sound_power (suc n) words x rest e = level_sound power_level (operand_at n) (suc n) words x rest (sound_unary n) e

  pub sound_unary : (n : ℕ) → IsSound unary_words unary_tree (operand_at n)
  sound_unary zero words x rest e = none_sound unary_words unary_tree words x rest e
  sound_unary (suc n) words x rest e =
      unary_sound (atom_at n) (operand_at n) (sound_atom n) (sound_unary n) words x rest e

  pub sound_atom : (n : ℕ) → IsSound atom_words atom_tree (atom_at n)
  sound_atom zero words x rest e = none_sound atom_words atom_tree words x rest e
  sound_atom (suc n) words x rest e = atom_sound (tests_at n joint.Or) (sound_or n) words x rest e
