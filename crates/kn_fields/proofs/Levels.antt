-- A level of a grammar that is a list: items with signs between them. What is read of it is what is spelled.
use Rattle.std.proofs.Common.{◌≡◌, ℕ, zero, suc, ◌+◌, ◌*◌, ◌≤◌, Bool, true, List, [], ◌∷◌, ◌++◌, length, Some, None}
use Rattle.std.proofs.Common.{◌⊎◌, inl, inr, refl, ap, ◌∙◌, arith, length-append}
use Rattle.std.proofs.lemmas.List.{append_assoc}
use Rattle.kn_fields.specs.Words.{Word, Mark}
use Rattle.kn_fields.specs.Words.Word.{sign as sign_word}
use Rattle.kn_fields.specs.Reading.{Read, Reader, map_read, then_read, closed_by, with_front, more_at, tail_at, list_at}
use Rattle.kn_fields.specs.Reading.{read_mark}
use Rattle.kn_fields.proofs.Words.{marked_before, marked_there}
use Rattle.kn_fields.proofs.Steps.{mapped, behind, fronted, chosen}

-- a front of the words is spelled by a derivation of this tree, and this is left
pub record Spelled {D X : Type 0} (words_of : D → List Word) (tree_of : D → X) (words : List Word) (tree : X)
    (rest : List Word) : Type 0 where
  pub form : D
  pub spelled : words_of form ++ rest ≡ words
  pub means : tree_of form ≡ tree

-- what a reader gives is spelled
abbrev pub IsSound : {D X : Type 0} → (D → List Word) → (D → X) → Reader X → Type 0
IsSound {D} {X} words_of tree_of read = (words : List Word) (x : X) (rest : List Word) → read words ≡ Some (x, rest)
    → Spelled words_of tree_of words x rest

pub none_sound : {D X : Type 0} (words_of : D → List Word) (tree_of : D → X) (words : List Word) (x : X)
    (rest : List Word) → ◌≡◌ {A = Read X} None (Some (x, rest)) → Spelled words_of tree_of words x rest
none_sound words_of tree_of words x rest e = absurd (cc)

-- what is spelled is read with so many steps left for each word, where what stands behind doesn't go on with it
abbrev pub IsComplete : {D X : Type 0} → ℕ → ℕ → ℕ → (D → List Word) → (D → X) → (List Word → Type 0) → Reader X
    → Type 0
IsComplete {D} {X} steps n more words_of tree_of Stops read =
    (d : D) (rest : List Word) → steps * length (words_of d) ≤ n + more → Stops rest
    → read (words_of d ++ rest) ≡ Some (tree_of d, rest)

pub record Level (S : Type 0) (X : Type 0) (E : Type 0) (Y : Type 0) (I : Type 0) (D : Type 0) : Type 1 where
  -- how it is read
  pub which : Reader S
  pub piece : S → X → List E
  pub finish : X → List E → Y
  -- how it is spelled
  pub sign : S → Word
  pub fits : S → Bool
  pub item_words : I → List Word
  pub item_tree : I → X
  pub words : D → List Word
  pub tree : D → Y
  pub alone : I → D
  pub more : I → (s : S) → fits s ≡ true → D → D
  -- the first part of a derivation, and the others
  pub Parted : D → X → List E → Type 0
  -- the one by the other
  pub tree_is : (d : D) (x : X) (others : List E) → Parted d x others → tree d ≡ finish x others
  pub alone_words : (i : I) → words (alone i) ≡ item_words i
  pub alone_parts : (i : I) → Parted (alone i) (item_tree i) []
  pub more_words : (i : I) (s : S) (f : fits s ≡ true) (d : D) → words (more i s f d) ≡ item_words i ++ sign s ∷ words d
  pub more_parts : (i : I) (s : S) (f : fits s ≡ true) (d : D) (x : X) (others : List E) → Parted d x others
      → Parted (more i s f d) (item_tree i) (piece s x ++ others)
  pub split : (d : D) → ((i : I) × (d ≡ alone i))
      ⊎ ((i : I) × (s : S) × (f : fits s ≡ true) × (o : D) × (d ≡ more i s f o))
  pub sign_before : (words rest : List Word) (s : S) → which words ≡ Some (s, rest) → (words ≡ sign s ∷ rest)
      × (fits s ≡ true)
  pub sign_there : (s : S) (rest : List Word) → fits s ≡ true → which (sign s ∷ rest) ≡ Some (s, rest)

-- a level whose sign stands for itself, and whose tree is made of a list
abbrev pub mark_level : {X E Y I D : Type 0} (text : List ℕ) (piece : Mark → X → List E) (make : List E
    → Y) (item_words : I → List Word) (item_tree : I → X) (words : D → List Word) (parts : D → List E) (alone : I
    → D) (more : I → D → D)
    → ((i : I) → words (alone i) ≡ item_words i) → ((i : I) → parts (alone i) ≡ piece tt (item_tree i) ++ [])
    → ((i : I) (d : D) → words (more i d) ≡ item_words i ++ sign_word text ∷ words d)
    → ((i : I) (d : D) → parts (more i d) ≡ piece tt (item_tree i) ++ parts d)
    → ((d : D) → ((i : I) × (d ≡ alone i)) ⊎ ((i : I) × (o : D) × (d ≡ more i o))) → Level Mark X E Y I D
mark_level {X} {E} {Y} {I} {D} text piece make item_words item_tree words parts alone more alone_words alone_parts
    more_words more_parts split = record {
      which = read_mark text;
      piece = piece;
      finish = λ x others. make (piece tt x ++ others);
      sign = λ mark. sign_word text;
      fits = λ mark. true;
      item_words = item_words;
      item_tree = item_tree;
      words = words;
      tree = λ d. make (parts d);
      alone = alone;
      more = λ i mark fits d. more i d;
      Parted = λ d x others. parts d ≡ piece tt x ++ others;
      tree_is = λ d x others is. ap make is;
      alone_words = alone_words;
      alone_parts = alone_parts;
      more_words = λ i mark fits d. more_words i d;
      more_parts = λ i mark fits d x others is. more_parts i d
          ∙ ap (λ (parts : List E). piece tt (item_tree i) ++ parts) is;
      split = λ d. elim (split d) [
        | inl a ↦ inl a
        | inr m ↦ inr (m.0, tt, refl, m.1, m.2)
      ];
      sign_before = λ words rest mark e. (marked_before text words rest mark e, refl);
      sign_there = λ mark rest fits. marked_there text rest;
    }

-- what stands behind a first item, which is read, is spelled behind it
record Tailed {S X E Y I D : Type 0} (level : Level S X E Y I D) (i : I) (words : List Word) (others : List E)
    (rest : List Word) : Type 0 where
  form : D
  spelled : level.words form ++ rest ≡ level.item_words i ++ words
  parts : level.Parted form (level.item_tree i) others

tail_sound : {S X E Y I D : Type 0} (level : Level S X E Y I D) (item : Reader X) (n : ℕ) (words : List Word)
    (others : List E) (rest : List Word)
    → IsSound level.item_words level.item_tree item
    → tail_at level.which level.piece item n words ≡ Some (others, rest) → (i : I) → Tailed level i words others rest
unfolding tail_at
tail_sound level item zero words others rest sound e i = absurd (cc)
tail_sound level item (suc n) words others rest sound e i =
    elim (chosen (level.which words) (Some ([], words))
    (more_at level.piece item (tail_at level.which level.piece item n)) others rest e) [
      | inl none ↦ record {
        form = level.alone i;
        spelled = grind (arith, level.alone_words i, none.is);
        parts =
            grind (arith, level.alone_parts i, none.is);
      }
      | inr there ↦
          let before = level.sign_before words there.left there.found there.there in
          let b = behind (item there.left)
          (λ x behind. with_front (level.piece there.found x) (tail_at level.which level.piece item n behind))
          others rest there.is in
          let o = sound there.left b.first b.middle b.is in
          let f = fronted (level.piece there.found b.first) (tail_at level.which level.piece item n b.middle) others
          rest b.then_is in
          let t = tail_sound level item n b.middle f.others rest sound f.is o.form in
          record {
            form = level.more i there.found before.1 t.form;
            spelled = grind (
              arith,
              append_assoc,
              level.more_words i there.found before.1 t.form,
              before.0,
              t.spelled,
              o.spelled,
            );
            parts = grind (arith, o.means, f.all_is, level.more_parts i there.found before.1 t.form _ _ t.parts);
          }
    ]

pub level_sound : {S X E Y I D : Type 0} (level : Level S X E Y I D) (item : Reader X) (n : ℕ) (words : List Word)
    (y : Y) (rest : List Word)
    → IsSound level.item_words level.item_tree item
    → list_at level.which level.piece level.finish item n words ≡ Some (y, rest)
    → Spelled level.words level.tree words y rest
unfolding list_at
level_sound level item n words y rest sound e =
    let b = behind (item words)
    (λ first rest. map_read (level.finish first) (tail_at level.which level.piece item n rest)) y rest e in
    let o = sound words b.first b.middle b.is in
    let m = mapped (level.finish b.first) (tail_at level.which level.piece item n b.middle) y rest b.then_is in
    let t = tail_sound level item n b.middle m.from rest sound m.is o.form in
    record {
      form = t.form;
      spelled = cc (t.spelled, o.spelled);
      means = cc (level.tree_is t.form _ _ t.parts, o.means, m.made);
    }

-- what is spelled is read: its first item, and what stands behind that
record Told {S X E Y I D : Type 0} (level : Level S X E Y I D) (item : Reader X) (n : ℕ) (d : D) (rest : List Word) :
    Type 0 where
  first : X
  others : List E
  middle : List Word
  parts : level.Parted d first others
  first_read : item (level.words d ++ rest) ≡ Some (first, middle)
  others_read : tail_at level.which level.piece item n middle ≡ Some (others, rest)

read_complete : {S X E Y I D : Type 0} (level : Level S X E Y I D) (item : Reader X) (Stops : List Word
    → Type 0) (limit n : ℕ) (d : D) (rest : List Word)
    → ((i : I) (rest : List Word) → length (level.item_words i) ≤ limit → Stops rest
    → item (level.item_words i ++ rest) ≡ Some (level.item_tree i, rest))
    → ((s : S) (rest : List Word) → level.fits s ≡ true → Stops (level.sign s ∷ rest))
    → length (level.words d) ≤ limit → length (level.words d) + 1 ≤ n → Stops rest → level.which rest ≡ None
    → Told level item n d rest
unfolding tail_at
read_complete level item Stops limit zero d rest complete between fits few stops last = absurd (omega (arith, few))
read_complete level item Stops limit (suc n) d rest complete between fits few stops last =
    elim (level.split d) [
      | inl a ↦
          let words = ap level.words a.1 ∙ level.alone_words a.0 in
          let size = ap length words in
          record {
            first = level.item_tree a.0;
            others = [];
            middle = rest;
            parts = rw a.1 (level.alone_parts a.0);
            first_read = cc (words, complete a.0 rest (omega (arith, size)) stops);
            others_read = grind arith;
          }
      | inr m ↦
          let words = ap level.words m.4 ∙ level.more_words m.0 m.1 m.2 m.3 in
          let size = ap length words ∙ length-append (level.item_words m.0) (level.sign m.1 ∷ level.words m.3) in
          let left : List Word = level.words m.3 ++ rest in
          let r = read_complete level item Stops limit n m.3 rest complete between (omega (arith, size, fits))
          (omega (arith, size, few)) stops last in
          record {
            first = level.item_tree m.0;
            others = level.piece m.1 r.first ++ r.others;
            middle = level.sign m.1 ∷ left;
            parts = grind (arith, level.more_parts m.0 m.1 m.2 m.3 _ _ r.parts);
            first_read = cc (
              words,
              append_assoc (level.item_words m.0) (level.sign m.1 ∷ level.words m.3) rest,
              complete m.0 (level.sign m.1 ∷ left) (omega (arith, size)) (between m.1 left m.2),
            );
            others_read = cc (level.sign_there m.1 left m.2, r.first_read, r.others_read);
          }
    ]

pub level_complete : {S X E Y I D : Type 0} (level : Level S X E Y I D) (item : Reader X) (Stops : List Word
    → Type 0) (n : ℕ) (d : D) (rest : List Word)
    → ((i : I) (rest : List Word) → length (level.item_words i) ≤ length (level.words d) → Stops rest
    → item (level.item_words i ++ rest) ≡ Some (level.item_tree i, rest))
    → ((s : S) (rest : List Word) → level.fits s ≡ true → Stops (level.sign s ∷ rest))
    → length (level.words d) + 1 ≤ n → Stops rest → level.which rest ≡ None
    → list_at level.which level.piece level.finish item n (level.words d ++ rest) ≡ Some (level.tree d, rest)
unfolding list_at
level_complete level item Stops n d rest complete between few stops last =
    let r = read_complete level item Stops (length (level.words d)) n d rest complete between (omega arith) few stops
    last in
    cc (r.first_read, r.others_read, level.tree_is d _ _ r.parts)

-- what a closing sign follows is spelled with it, and read
pub closed_sound : {D X : Type 0} (text : List ℕ) (words_of : D → List Word) (tree_of : D → X) (read : Reader X)
    → IsSound words_of tree_of read
    → IsSound (λ d. words_of d ++ sign_word text ∷ []) tree_of (λ words. then_read (read words) (closed_by text))
closed_sound text words_of tree_of read sound words x rest e =
    let b = behind (read words) (closed_by text) x rest e in
    let m = mapped (λ mark. b.first) (read_mark text b.middle) x rest b.then_is in
    let d = sound words b.first b.middle b.is in
    record {
      form = d.form;
      spelled = grind (arith, append_assoc, marked_before text b.middle rest m.from m.is, d.spelled);
      means = cc (d.means, m.made);
    }

pub closed_complete : {X : Type 0} (text : List ℕ) (read : Reader X) (inner rest : List Word) (x : X)
    → read (inner ++ sign_word text ∷ rest) ≡ Some (x, sign_word text ∷ rest)
    → then_read (read ((inner ++ sign_word text ∷ []) ++ rest)) (closed_by text) ≡ Some (x, rest)
closed_complete text read inner rest x e = cc (append_assoc inner (sign_word text ∷ []) rest, marked_there text rest)
