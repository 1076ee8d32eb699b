-- Words that are texts.
use Rattle.std.proofs.Common.{◌≡◌, ℕ, List, [], ◌∷◌, ◌++◌, ◌+◌, ◌<◌, ◌≤◌, length, take, get_or, map, sym, ap, ◌∙◌}
use Rattle.std.proofs.Common.{subst, Bor}
use Rattle.std.specs.Prelude.{All}
use Rattle.std.specs.Str.{IsUtf8}
use Rattle.std.proofs.lemmas.List.{take_more, take_all, map_push}
use Rattle.std.proofs.lemmas.List.Elements.{All-get_or, All-push}

-- the words so far are these texts
pub record AreTexts (texts : List (Bor (List ℕ))) (words : List (List ℕ)) : Type 0 where
  pub same : map (λ s. s.now) texts ≡ words
  pub all : All IsUtf8 words

-- one more
pub one_more : (texts after : List (Bor (List ℕ))) (text : Bor (List ℕ)) (words : List (List ℕ)) (i : ℕ)
    (word slice : List ℕ) → AreTexts texts (take i words) → i < length words → word ≡ get_or words i word → slice ≡ word
    → text.now ≡ slice → IsUtf8 slice → after ≡ texts ++ text ∷ [] → AreTexts after (take (i + 1) words)
one_more texts after text words i word slice so_far lt is same now utf8 pushed =
    let more : take (i + 1) words ≡ take i words ++ word ∷ [] =
    take_more words i word lt ∙ ap (λ (w : List ℕ). take i words ++ w ∷ []) (sym is) in
    record {
      same =
          ap (map (λ s. s.now)) pushed ∙ map_push (λ s. s.now) texts text
          ∙ ap (λ (l : List (List ℕ)). l ++ text.now ∷ []) so_far.same
          ∙ ap (λ (w : List ℕ). take i words ++ w ∷ []) (now ∙ same) ∙ sym more;
      all = subst (All IsUtf8) (sym more) (All-push IsUtf8 (take i words) word so_far.all (subst IsUtf8 same utf8));
    }

-- one more word is UTF-8
pub texts_more : (words : List (List ℕ)) (i : ℕ) (word slice : List ℕ) → All IsUtf8 (take i words) → i < length words
    → word ≡ get_or words i word → slice ≡ word → IsUtf8 slice → All IsUtf8 (take (i + 1) words)
texts_more words i word slice so_far lt is same utf8 =
    let more : take (i + 1) words ≡ take i words ++ word ∷ [] =
    take_more words i word lt ∙ ap (λ (w : List ℕ). take i words ++ w ∷ []) (sym is) in
    subst (All IsUtf8) (sym more) (All-push IsUtf8 (take i words) word so_far (subst IsUtf8 same utf8))

pub texts_whole : (words : List (List ℕ)) (i : ℕ) → All IsUtf8 (take i words) → length words ≤ i → All IsUtf8 words
texts_whole words i so_far end = subst (All IsUtf8) (take_all i words end) so_far

pub all_texts : (texts : List (Bor (List ℕ))) (words : List (List ℕ)) (i : ℕ) → AreTexts texts (take i words)
    → length words ≤ i → AreTexts texts words
all_texts texts words i so_far end = subst (λ (l : List (List ℕ)). AreTexts texts l) (take_all i words end) so_far

-- a word that is no text
pub not_all : (words : List (List ℕ)) (i : ℕ) (word slice : List ℕ) → i < length words → word ≡ get_or words i word
    → slice ≡ word → (IsUtf8 slice → ⊥) → All IsUtf8 words → ⊥
not_all words i word slice lt is same none all =
    none (subst IsUtf8 (sym (same ∙ is)) (All-get_or IsUtf8 words i word lt all))
