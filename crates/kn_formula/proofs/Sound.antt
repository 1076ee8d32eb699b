-- What is read is spelled by what is read of.
use Rattle.std.proofs.Common.{◌≡◌, ℕ, zero, suc, List, [], ◌∷◌, codes, Option, Some, refl, sym, ap, ◌∙◌}
use Rattle.kn_fields.specs.Words.{Word, Mark}
use Rattle.kn_fields.specs.Words.Word.{literal as literal_word, name as name_word, number as number_word}
use Rattle.kn_fields.specs.Words.Word.{sign as sign_word, other as other_word}
use Rattle.kn_fields.specs.Reading.{Reader, then_read, closed_by, read_mark, named}
use Rattle.kn_fields.proofs.Words.{read_parts, marked_before, named_before}
use Rattle.kn_fields.proofs.Steps.{behind}
use Rattle.kn_fields.proofs.Levels.{Spelled, IsSound, none_sound, level_sound, closed_sound}
use Rattle.kn_formula.specs.Trees.{need_of}
use Rattle.kn_formula.specs.Grammar.{One, Forms, form_words, both_words, one_words, forms_words, form_parts, both_parts}
use Rattle.kn_formula.specs.Grammar.{one_tree, forms_parts, form_tree}
use Rattle.kn_formula.specs.Grammar.One.{group, literal, name, some_of}
use Rattle.kn_formula.specs.Reading.{of_front, one_front, parts_at, one_at}
use Rattle.kn_formula.specs.declared.written.Rule.{Rule}
use Rattle.kn_formula.specs.declared.written.Rule.TheVariants.{All, Any, AtLeast}
use Rattle.kn_formula.specs.declared.written.Written.{Written}
use Rattle.kn_formula.specs.declared.written.Written.TheVariants.{Several}
use Rattle.kn_formula.proofs.Lists.{both_tree, form_level, both_level, forms_level}

-- what stands before the list of a threshold
of_before : (words left : List Word) (mark : Mark) → of_front words ≡ Some (mark, left)
    → words ≡ sign_word (codes "-") ∷ name_word (codes "of") ∷ sign_word (codes "(") ∷ left
of_before words left mark e =
    let first = behind (read_mark (codes "-") words)
    (λ mark words. then_read (named (codes "of") words) (λ mark words. read_mark (codes "(") words)) mark left e in
    let second = behind (named (codes "of") first.middle) (λ mark words. read_mark (codes "(") words) mark left
    first.then_is in
    rw (
      marked_before (codes "-") words first.middle first.first first.is,
      named_before (codes "of") first.middle second.middle second.first second.is,
      marked_before (codes "(") second.middle left mark second.then_is,
    ) refl

abbrev pub list_tree : ℕ → Forms → Written
list_tree need fs = Several (AtLeast need) (forms_parts fs)

-- one word
word_sound : (o : One) (word : Word) (words rest : List Word) (x : Written) → one_words o ≡ word ∷ []
    → ◌≡◌ {A = Option (Written × List Word)} (Some (one_tree o, words)) (Some (x, rest))
    → Spelled one_words one_tree (word ∷ words) x rest
word_sound o word words rest x is e =
    let same = read_parts (one_tree o) x words rest e in
    record {
      form = o;
      spelled = rw (is, same.1) refl;
      means = same.0;
    }

one_sound : (list : Rule → Reader Written) → IsSound form_words form_tree (list Any)
    → ((need : ℕ) → IsSound forms_words (list_tree need) (list (AtLeast need)))
    → IsSound one_words one_tree (λ words. one_front words list)
unfolding one_words one_tree
one_sound list form forms [] x rest e = absurd (cc)
one_sound list form forms (literal_word value ∷ words) x rest e =
    word_sound (literal value) (literal_word value) words rest x refl e
one_sound list form forms (name_word text ∷ words) x rest e =
    word_sound (name text) (name_word text) words rest x refl e
one_sound list form forms (number_word digits ∷ words) x rest e =
    let need = need_of digits in
    let a = behind (of_front words) (λ mark words. then_read (list (AtLeast need) words) (closed_by (codes ")"))) x rest
    e in
    let b = closed_sound (codes ")") forms_words (list_tree need) (list (AtLeast need)) (forms need) a.middle x rest
    a.then_is in
    record {
      form = some_of digits b.form;
      spelled = ap (λ (words : List Word). number_word digits ∷ sign_word (codes "-") ∷ name_word (codes "of")
          ∷ sign_word (codes "(") ∷ words) b.spelled
          ∙ ap (λ (words : List Word). number_word digits ∷ words) (sym (of_before words a.middle a.first a.is));
      means = b.means;
    }
one_sound list form forms (sign_word text ∷ words) x rest e =
    let a = behind (read_mark (codes "(") (sign_word text ∷ words))
    (λ mark words. then_read (list Any words) (closed_by (codes ")"))) x rest e in
    let b = closed_sound (codes ")") form_words form_tree (list Any) form a.middle x rest a.then_is in
    record {
      form = group b.form;
      spelled = ap (λ (words : List Word). sign_word (codes "(") ∷ words) b.spelled
          ∙ sym (marked_before (codes "(") (sign_word text ∷ words) a.middle a.first a.is);
      means = b.means;
    }
one_sound list form forms (other_word ∷ words) x rest e = absurd (cc)

mutual
  unfolding parts_at one_at form_words form_parts both_words both_parts forms_words forms_parts

  pub sound_form : (n : ℕ) → IsSound form_words form_tree (parts_at n Any)
  sound_form zero words x rest e = none_sound form_words form_tree words x rest e
  sound_form (suc n) words x rest e = level_sound form_level (parts_at n All) (suc n) words x rest (sound_both n) e

  sound_both : (n : ℕ) → IsSound both_words both_tree (parts_at n All)
  sound_both zero words x rest e = none_sound both_words both_tree words x rest e
  sound_both (suc n) words x rest e = level_sound both_level (one_at n) (suc n) words x rest (sound_one n) e

  sound_one : (n : ℕ) → IsSound one_words one_tree (one_at n)
  sound_one zero words x rest e = none_sound one_words one_tree words x rest e
  sound_one (suc n) words x rest e = one_sound (parts_at n) (sound_form n) (λ need. sound_forms n need) words x rest e

  sound_forms : (n need : ℕ) → IsSound forms_words (list_tree need) (parts_at n (AtLeast need))
  sound_forms zero need words x rest e = none_sound forms_words (list_tree need) words x rest e
  sound_forms (suc n) need words x rest e =
      level_sound (forms_level need) (parts_at n Any) (suc n) words x rest (sound_form n) e
