-- Replies with a name, and those that name critical assertions.
use Rattle.std.proofs.Common.{◌≡◌, ◌≢◌, ℕ, suc, ◌+◌, ◌^◌, ◌<◌, ◌≤◌, true, false, ◌==◌, List, [], ◌∷◌, ◌++◌, length}
use Rattle.std.proofs.Common.{codes, decimal, flat_map, get_or, Option, Some, None, refl, sym, ap, ◌∙◌, arith, subst}
use Rattle.std.proofs.Common.{inl, inr, append_assoc, length-append}
use Rattle.std.specs.List.{list_any, All}
use Rattle.std.proofs.lemmas.Bool.{false≢true}
use Rattle.kn_base.proofs.Cuts.{cut_once}
use Rattle.kn_proof.specs.declared.named.Id.{Id}
use Rattle.kn_proof.specs.declared.named.Id.TheVariants.{Shared, Private}
use Rattle.kn_proof.specs.Lines.{is_name}
use Rattle.kn_proof.proofs.Lines.{lacking, name_lacks}
use Rattle.kn_reply.specs.Replies.{Reply, Done, Started, Number, PrivateAdded, Added, Value, Batched, PinnedAt, Log}
use Rattle.kn_reply.specs.Replies.{News, Critical, No, NoMemory, news_text, need_text, critical_text, reply_text}
use Rattle.kn_reply_reader.specs.Texts.{HasText}
use Rattle.kn_reply_reader.specs.Numerals.{IsNumberAt, HasNoNumber}
use Rattle.kn_reply_reader.specs.Fronts.{IsBehindOne, AreApart, TextOf, Items}
use Rattle.kn_reply_reader.specs.Forms.{IsOfForm, IsOfOneForm}
use Rattle.kn_reply_reader.specs.Kinds.{NewsKind, CriticalKind, IsTextOf, IsNameWord, IsAnyId, kind_of}
use Rattle.kn_reply_reader.proofs.Written.{number_apart}
use Rattle.kn_reply_reader.proofs.Fronts.{Then, Just, behind_same, apart_same, then_none, then_some, then_apart}
use Rattle.kn_reply_reader.proofs.Fronts.{just_apart, just_none, just_some, items_apart}
use Rattle.kn_reply_reader.proofs.FormLaws.{form_apart}

-- A name and the space behind it.

pub name_none : (left : List ℕ) → list_any (λ b. b == 32) left ≡ false → IsBehindOne IsNameWord left None
name_none left none text rest is e = lacking 32 left is.0 rest none (e ∙ ap (λ (l : List ℕ). l ++ rest) is.2
    ∙ append_assoc is.0 (32 ∷ []) rest)

pub name_apart : AreApart IsNameWord
name_apart a b r s is is' e =
    let same = cut_once 32 is.0 is'.0 r s (name_lacks 32 is.0 (omega arith) is.1)
    (name_lacks 32 is'.0 (omega arith) is'.1)
    (sym (append_assoc is.0 (32 ∷ []) r) ∙ ap (λ (l : List ℕ). l ++ r) (sym is.2) ∙ e
    ∙ ap (λ (l : List ℕ). l ++ s) is'.2 ∙ append_assoc is'.0 (32 ∷ []) s) in
    (is.2 ∙ ap (λ (l : List ℕ). l ++ 32 ∷ []) same.0 ∙ sym is'.2, same.1)

module _ (left name rest : List ℕ) (cut : left ≡ name ++ 32 ∷ rest) where
  pub name_some : is_name name ≡ true → IsBehindOne IsNameWord left (Some rest)
  name_some is = (name ++ 32 ∷ [], (name, is, refl), cut ∙ sym (append_assoc name (32 ∷ []) rest))

  pub name_other : list_any (λ b. b == 32) name ≡ false → is_name name ≡ false → IsBehindOne IsNameWord left None
  name_other first other text more is e =
      let same = cut_once 32 name is.0 rest more first (name_lacks 32 is.0 (omega arith) is.1)
      (sym cut ∙ e ∙ ap (λ (l : List ℕ). l ++ more) is.2 ∙ append_assoc is.0 (32 ∷ []) more) in
      false≢true (sym other ∙ ap is_name same.0 ∙ is.1)

-- NEWS: a form, a name, and another form.

abbrev NewsFront : List ℕ → Type 0
NewsFront text = IsOfForm (codes "NEWS # ") text

abbrev NewsEnd : List ℕ → Type 0
NewsEnd text = IsOfForm (codes "#\n") text

abbrev NewsParts : List ℕ → Type 0
NewsParts text = Then NewsFront (Then IsNameWord NewsEnd) text

news_whole : (index version : ℕ) (name : List ℕ)
    → (codes "NEWS " ++ decimal index ++ 32 ∷ []) ++ ((name ++ 32 ∷ []) ++ (decimal version ++ 10 ∷ []))
    ≡ news_text index name version
news_whole index version name =
    ap (λ (l : List ℕ). codes "NEWS " ++ l) (regrouped (decimal index) name (decimal version))
  where
    regrouped : (a b c : List ℕ) → (a ++ 32 ∷ []) ++ ((b ++ 32 ∷ []) ++ (c ++ 10 ∷ [])) ≡ ((a ++ 32 ∷ b) ++ 32 ∷ c)
        ++ 10 ∷ []
    regrouped a b c =
        append_assoc a (32 ∷ []) ((b ++ 32 ∷ []) ++ (c ++ 10 ∷ []))
        ∙ ap (λ (l : List ℕ). a ++ 32 ∷ l) (append_assoc b (32 ∷ []) (c ++ 10 ∷ []))
        ∙ sym (append_assoc a (32 ∷ b) (32 ∷ (c ++ 10 ∷ []))) ∙ sym (append_assoc (a ++ 32 ∷ b) (32 ∷ c) (10 ∷ []))

news_from : (text : List ℕ) → NewsParts text → IsTextOf NewsKind text
news_from text is =
    let index = get_or is.2.0 0 0 in
    let rest = is.3 in
    let name = rest.2.0 in
    let version = get_or rest.3.0 0 0 in
    let behind : is.1 ≡ (name ++ 32 ∷ []) ++ (decimal version ++ 10 ∷ []) =
    rest.4 ∙ ap (λ (l : List ℕ). l ++ rest.1) rest.2.2 ∙ ap (λ (l : List ℕ). (name ++ 32 ∷ []) ++ l) rest.3.1 in
    record {
      reply = News index name version;
      has = rest.2.1;
      is = refl;
      same = is.4 ∙ ap (λ (l : List ℕ). l ++ is.1) is.2.1
          ∙ ap (λ (l : List ℕ). (codes "NEWS " ++ decimal index ++ 32 ∷ []) ++ l) behind
          ∙ news_whole index version name;
    }

news_to : (text : List ℕ) → IsTextOf NewsKind text → NewsParts text
news_to text is = go is.reply is.has is.is is.same
  where
    go : (reply : Reply) → HasText reply → kind_of reply ≡ NewsKind → text ≡ reply_text reply → NewsParts text
    go (News index name version) has told same = (
      codes "NEWS " ++ decimal index ++ 32 ∷ [],
      (name ++ 32 ∷ []) ++ (decimal version ++ 10 ∷ []),
      (index ∷ [], refl),
      (name ++ 32 ∷ [], decimal version ++ 10 ∷ [], (name, has, refl), (version ∷ [], refl), refl),
      same ∙ sym (news_whole index version name),
    )
    go Done has told same = absurd (cc)
    go (Started s version) has told same = absurd (cc)
    go (Number version) has told same = absurd (cc)
    go (PrivateAdded k) has told same = absurd (cc)
    go (Added k version) has told same = absurd (cc)
    go (Value index name version rows) has told same = absurd (cc)
    go (Batched first added version) has told same = absurd (cc)
    go (PinnedAt version newest) has told same = absurd (cc)
    go (Log n history) has told same = absurd (cc)
    go (Critical index ids) has told same = absurd (cc)
    go (No refusal) has told same = absurd (cc)
    go NoMemory has told same = absurd (cc)

news_same : (left : List ℕ) (found : Option (List ℕ)) → IsBehindOne NewsParts left found
    → IsBehindOne (IsTextOf NewsKind) left found
news_same left found = behind_same NewsParts (IsTextOf NewsKind) left found news_from news_to

pub news_apart : AreApart (IsTextOf NewsKind)
news_apart = apart_same NewsParts (IsTextOf NewsKind) news_to
    (then_apart NewsFront (Then IsNameWord NewsEnd) (form_apart (codes "NEWS # ") refl)
    (then_apart IsNameWord NewsEnd name_apart (form_apart (codes "#\n") refl)))

module _ (left : List ℕ) where
  pub news_none : IsBehindOne NewsFront left None → IsBehindOne (IsTextOf NewsKind) left None
  news_none none = news_same left None (then_none NewsFront (Then IsNameWord NewsEnd) left none)

  module _ (named : List ℕ) (first : IsBehindOne NewsFront left (Some named)) where
    go_on : (found : Option (List ℕ)) → IsBehindOne (Then IsNameWord NewsEnd) named found
        → IsBehindOne (IsTextOf NewsKind) left found
    go_on found is =
        news_same left found
        (then_some NewsFront (Then IsNameWord NewsEnd) left named found (form_apart (codes "NEWS # ") refl) first is)

    pub news_unnamed : IsBehindOne IsNameWord named None → IsBehindOne (IsTextOf NewsKind) left None
    news_unnamed none = go_on None (then_none IsNameWord NewsEnd named none)

    pub news_end : (numbered : List ℕ) (found : Option (List ℕ)) → IsBehindOne IsNameWord named (Some numbered)
        → IsBehindOne NewsEnd numbered found
        → IsBehindOne (IsTextOf NewsKind) left found
    news_end numbered found second third =
        go_on found (then_some IsNameWord NewsEnd named numbered found name_apart second third)

-- A number that ends in a byte, and what depends on it.

abbrev pub Counted : ℕ → ℕ → (ℕ → List ℕ → Type 0) → List ℕ → Type 0
Counted most end B text = (n : ℕ) × (b : List ℕ) × (n ≤ most) × B n b × (text ≡ decimal n ++ end ∷ b)

module _ (most end : ℕ) (B : ℕ → List ℕ → Type 0) (small : most < 2 ^ 64) (below : end < 48) where
  pub counted_apart : ((n : ℕ) → AreApart (B n)) → AreApart (Counted most end B)
  counted_apart apart a b r s is is' e =
      let first = number_apart most end is.0 is'.0 (is.1 ++ r) (is'.1 ++ s) small below is.2 is'.2
      (sym (append_assoc (decimal is.0) (end ∷ is.1) r) ∙ ap (λ (l : List ℕ). l ++ r) (sym is.4) ∙ e
      ∙ ap (λ (l : List ℕ). l ++ s) is'.4 ∙ append_assoc (decimal is'.0) (end ∷ is'.1) s) in
      let second = apart is'.0 is.1 is'.1 r s (subst (λ (n : ℕ). B n is.1) first.0 is.3) is'.3 first.1 in (
        is.4 ∙ ap (λ (n : ℕ). decimal n ++ end ∷ is.1) first.0 ∙ ap (λ (l : List ℕ). decimal is'.0 ++ end ∷ l) second.0
            ∙ sym is'.4,
        second.1,
      )

  pub counted_none : (left : List ℕ) → HasNoNumber most end left → IsBehindOne (Counted most end B) left None
  counted_none left none text rest is e =
      none is.0 (is.1 ++ rest) (record {
        small = is.2;
        cut = e ∙ ap (λ (l : List ℕ). l ++ rest) is.4
            ∙ append_assoc (decimal is.0) (end ∷ is.1) rest;
      })

  pub counted_some : (left rest : List ℕ) (n : ℕ) (found : Option (List ℕ)) → IsNumberAt most end left n rest
      → IsBehindOne (B n) rest found
      → IsBehindOne (Counted most end B) left found
  counted_some left rest n None at none = λ text more is e.
      let first = number_apart most end n is.0 rest (is.1 ++ more) small below at.small is.2
      (sym at.cut ∙ e ∙ ap (λ (l : List ℕ). l ++ more) is.4 ∙ append_assoc (decimal is.0) (end ∷ is.1) more) in
      none is.1 more (subst (λ (m : ℕ). B m is.1) (sym first.0) is.3) first.1
  counted_some left rest n (Some more) at next = (
    decimal n ++ end ∷ next.0,
    (n, next.0, at.small, next.1, refl),
    at.cut ∙ ap (λ (l : List ℕ). decimal n ++ end ∷ l) next.2 ∙ sym (append_assoc (decimal n) (end ∷ next.0) more),
  )

-- The lines NEED.

abbrev pub IsNeed : List ℕ → Type 0
IsNeed text = TextOf IsAnyId need_text text

abbrev pub need_forms : List (List ℕ)
need_forms = codes "NEED a#\n" ∷ codes "NEED p#\n" ∷ []

pub need_from : (text : List ℕ) → IsOfOneForm need_forms text → IsNeed text
need_from text (inl is) = (Shared (get_or is.0 0 0), tt, is.1)
need_from text (inr (inl is)) = (Private (get_or is.0 0 0), tt, is.1)
need_from text (inr (inr is)) = absurd is

pub need_to : (text : List ℕ) → IsNeed text → IsOfOneForm need_forms text
need_to text is = go is.0 is.2
  where
    go : (id : Id) → text ≡ need_text id → IsOfOneForm need_forms text
    go (Shared n) same = inl (n ∷ [], same)
    go (Private n) same = inr (inl (n ∷ [], same))

need_once : (id other : Id) (r s : List ℕ) → need_text id ++ r ≡ need_text other ++ s → (need_text id ≡ need_text other)
    × (r ≡ s)
need_once (Shared n) (Shared m) r s e =
    form_apart (codes "NEED a#\n") refl (need_text (Shared n)) (need_text (Shared m)) r s (n ∷ [], refl) (m ∷ [], refl)
    e
need_once (Private n) (Private m) r s e =
    form_apart (codes "NEED p#\n") refl (need_text (Private n)) (need_text (Private m)) r s (n ∷ [], refl) (
      m ∷ [],
      refl,
    ) e
need_once (Shared n) (Private m) r s e = let letters : 97 ≡ 112 = ap (λ (l : List ℕ). get_or l 5 0) e in
    absurd (omega (arith, letters))
need_once (Private n) (Shared m) r s e = let letters : 112 ≡ 97 = ap (λ (l : List ℕ). get_or l 5 0) e in
    absurd (omega (arith, letters))

pub need_apart : AreApart IsNeed
need_apart a b r s is is' e =
    let same = need_once is.0 is'.0 r s (ap (λ (l : List ℕ). l ++ r) (sym is.2) ∙ e
    ∙ ap (λ (l : List ℕ). l ++ s) is'.2) in
    (is.2 ∙ same.0 ∙ sym is'.2, same.1)

-- each has some bytes
needs_bytes : (ids : List Id) → length ids ≤ length (flat_map need_text ids)
needs_bytes [] = omega arith
needs_bytes (id ∷ ids) =
    let rest = needs_bytes ids in
    let size : length (flat_map need_text (id ∷ ids)) ≡ length (need_text id) + length (flat_map need_text ids) =
    length-append (need_text id) (flat_map need_text ids) in
    let some : 1 ≤ length (need_text id) = omega arith in
    omega (arith, rest, size, some)

-- CRITICAL: a form, a number, so many lines, and the last line. Bytes that begin with so many lines are no fewer.

abbrev CriticalFront : List ℕ → Type 0
CriticalFront text = IsOfForm (codes "CRITICAL # ") text

abbrev Ended : ℕ → List ℕ → Type 0
Ended count text = Then (Items IsAnyId need_text count) (Just (codes "END\n")) text

abbrev CriticalParts : ℕ → List ℕ → Type 0
CriticalParts most text = Then CriticalFront (Counted most 10 Ended) text

critical_whole : (index : ℕ) (ids : List Id)
    → (codes "CRITICAL " ++ decimal index ++ 32 ∷ [])
    ++ (decimal (length ids) ++ 10 ∷ (flat_map need_text ids ++ codes "END\n")) ≡ critical_text index ids
critical_whole index ids = simp append_assoc

critical_from : (most : ℕ) (text : List ℕ) → CriticalParts most text → IsTextOf CriticalKind text
critical_from most text is =
    let index = get_or is.2.0 0 0 in
    let counted = is.3 in
    let lines = counted.3 in
    let ids = lines.2.0 in
    let end : counted.1 ≡ flat_map need_text ids ++ codes "END\n" =
    lines.4 ∙ ap (λ (l : List ℕ). l ++ lines.1) lines.2.3 ∙ ap (λ (l : List ℕ). flat_map need_text ids ++ l) lines.3 in
    let behind : is.1 ≡ decimal (length ids) ++ 10 ∷ (flat_map need_text ids ++ codes "END\n") =
    counted.4 ∙ ap (λ (l : List ℕ). decimal counted.0 ++ 10 ∷ l) end
    ∙ ap (λ (n : ℕ). decimal n ++ 10 ∷ (flat_map need_text ids ++ codes "END\n")) (sym lines.2.1) in
    record {
      reply = Critical index ids;
      has = tt;
      is = refl;
      same = is.4 ∙ ap (λ (l : List ℕ). l ++ is.1) is.2.1
          ∙ ap (λ (l : List ℕ). (codes "CRITICAL " ++ decimal index ++ 32 ∷ []) ++ l) behind ∙ critical_whole index ids;
    }

any_ids : (ids : List Id) → All IsAnyId ids
any_ids ids k d within = tt

critical_to : (most : ℕ) (text : List ℕ) → length text ≤ most → IsTextOf CriticalKind text → CriticalParts most text
critical_to most text short is = go is.reply is.is is.same
  where
    go : (reply : Reply) → kind_of reply ≡ CriticalKind → text ≡ reply_text reply → CriticalParts most text
    go (Critical index ids) needed same =
        let front = codes "CRITICAL " ++ decimal index ++ 32 ∷ [] in
        let lines = flat_map need_text ids ++ codes "END\n" in
        let whole : text ≡ front ++ (decimal (length ids) ++ 10 ∷ lines) = same ∙ sym (critical_whole index ids) in
        let size : length text ≡ length front + length (decimal (length ids) ++ 10 ∷ lines) = ap length whole
        ∙ length-append front (decimal (length ids) ++ 10 ∷ lines) in
        let size' : length (decimal (length ids) ++ 10 ∷ lines) ≡ length (decimal (length ids)) + length (10 ∷ lines) =
        length-append (decimal (length ids)) (10 ∷ lines) in
        let size'' : length lines ≡ length (flat_map need_text ids) + length (codes "END\n") =
        length-append (flat_map need_text ids) (codes "END\n") in
        let bytes = needs_bytes ids in
        let few : length ids ≤ most =
        few_lines (length ids) (length (flat_map need_text ids)) (length lines) (length (10 ∷ lines))
        (length (decimal (length ids))) (length (decimal (length ids) ++ 10 ∷ lines)) (length front)
        (length text) bytes size'' refl size' size short in (
          front,
          decimal (length ids) ++ 10 ∷ lines,
          (index ∷ [], refl),
          (
            length ids,
            lines,
            few,
            (flat_map need_text ids, codes "END\n", (ids, refl, any_ids ids, refl), refl, refl),
            refl,
          ),
          whole,
        )
      where
        few_lines : (n f l k d b h t : ℕ) → n ≤ f → l ≡ f + 4 → k ≡ suc l → b ≡ d + k → t ≡ h + b → t ≤ most → n ≤ most
        few_lines n f l k d b h t p q u v w x = omega (arith, p, q, u, v, w, x)
    go Done needed same = absurd (cc)
    go (Started s version) needed same = absurd (cc)
    go (Number version) needed same = absurd (cc)
    go (PrivateAdded k) needed same = absurd (cc)
    go (Added k version) needed same = absurd (cc)
    go (Value index name version rows) needed same = absurd (cc)
    go (Batched first added version) needed same = absurd (cc)
    go (PinnedAt version newest) needed same = absurd (cc)
    go (Log n history) needed same = absurd (cc)
    go (News index name version) needed same = absurd (cc)
    go (No refusal) needed same = absurd (cc)
    go NoMemory needed same = absurd (cc)

critical_same : (most : ℕ) (left : List ℕ) (found : Option (List ℕ)) → most ≡ length left
    → IsBehindOne (CriticalParts most) left found → IsBehindOne (IsTextOf CriticalKind) left found
critical_same most left None all none = λ text rest is e.
    let size : length left ≡ length text + length rest = ap length e ∙ length-append text rest in
    none text rest (critical_to most text (omega (arith, size, all)) is) e
critical_same most left (Some rest) all cut = (cut.0, critical_from most cut.0 cut.1, cut.2)

needs_apart : (count : ℕ) → AreApart (Items IsAnyId need_text count)
needs_apart count = items_apart IsAnyId need_text count need_apart

module _ (most : ℕ) (left : List ℕ) (all : most ≡ length left) where
  pub critical_none : IsBehindOne CriticalFront left None → IsBehindOne (IsTextOf CriticalKind) left None
  critical_none none = critical_same most left None all (then_none CriticalFront (Counted most 10 Ended) left none)

  module _ (small : most < 2 ^ 64) (counted : List ℕ) (first : IsBehindOne CriticalFront left (Some counted)) where
    behind_front : (found : Option (List ℕ)) → IsBehindOne (Counted most 10 Ended) counted found
        → IsBehindOne (IsTextOf CriticalKind) left found
    behind_front found is =
        critical_same most left found all
        (then_some CriticalFront (Counted most 10 Ended) left counted found (form_apart (codes "CRITICAL # ") refl)
        first is)

    pub critical_uncounted : HasNoNumber most 10 counted → IsBehindOne (IsTextOf CriticalKind) left None
    critical_uncounted none = behind_front None (counted_none most 10 Ended small (omega arith) counted none)

    module _ (count : ℕ) (needs : List ℕ) (at : IsNumberAt most 10 counted count needs) where
      behind_count : (found : Option (List ℕ)) → IsBehindOne (Ended count) needs found
          → IsBehindOne (IsTextOf CriticalKind) left found
      behind_count found is =
          behind_front found (counted_some most 10 Ended small (omega arith) counted needs count found at is)

      pub critical_few : IsBehindOne (Items IsAnyId need_text count) needs None
          → IsBehindOne (IsTextOf CriticalKind) left None
      critical_few none =
          behind_count None (then_none (Items IsAnyId need_text count) (Just (codes "END\n")) needs none)

      module _ (end : List ℕ) (lines : IsBehindOne (Items IsAnyId need_text count) needs (Some end)) where
        behind_lines : (found : Option (List ℕ)) → IsBehindOne (Just (codes "END\n")) end found
            → IsBehindOne (IsTextOf CriticalKind) left found
        behind_lines found is =
            behind_count found
            (then_some (Items IsAnyId need_text count) (Just (codes "END\n")) needs end found (needs_apart count) lines
            is)

        pub critical_unended : ((rest : List ℕ) → end ≢ codes "END\n" ++ rest)
            → IsBehindOne (IsTextOf CriticalKind) left None
        critical_unended none = behind_lines None (just_none (codes "END\n") end none)

        pub critical_end : (rest : List ℕ) → end ≡ codes "END\n" ++ rest
            → IsBehindOne (IsTextOf CriticalKind) left (Some rest)
        critical_end rest cut = behind_lines (Some rest) (just_some (codes "END\n") end rest cut)

ended_apart : (count : ℕ) → AreApart (Ended count)
ended_apart count =
    then_apart (Items IsAnyId need_text count) (Just (codes "END\n")) (needs_apart count) (just_apart (codes "END\n"))

parts_apart : (most : ℕ) → most < 2 ^ 64 → AreApart (CriticalParts most)
parts_apart most small =
    then_apart CriticalFront (Counted most 10 Ended) (form_apart (codes "CRITICAL # ") refl)
    (counted_apart most 10 Ended small (omega arith) ended_apart)

pub critical_apart : (left a b r s : List ℕ) → length left < 2 ^ 64 → IsTextOf CriticalKind a → IsTextOf CriticalKind b
    → left ≡ a ++ r → left ≡ b ++ s → a ≡ b
critical_apart left a b r s small is is' e e' =
    let size : length left ≡ length a + length r = ap length e ∙ length-append a r in
    let size' : length left ≡ length b + length s = ap length e' ∙ length-append b s in
    (parts_apart (length left) small a b r s (critical_to (length left) a (omega (arith, size)) is)
    (critical_to (length left) b (omega (arith, size')) is') (sym e ∙ e')).0
