-- Between tokens stand white space and comments alone.
use Rattle.std.proofs.Common.{◌≡◌, ◌⊎◌, ℕ, true, false, Bool, ◌+◌, ◌-◌, inl, inr, List, [], ◌∷◌, ◌++◌, length, take}
use Rattle.std.proofs.Common.{drop, arith, refl, sym, ◌∙◌, ap, subst}
use Rattle.std.specs.Prelude.{◌==◌}
use Rattle.std.proofs.Math.Seq.{take-add}
use Rattle.std.proofs.lemmas.List.{drop-drop, length-drop, length-take-le, take-append-drop}
use Rattle.std.proofs.lemmas.List.Folds.{list_all-append}
use Rattle.kn_lex.specs.Spelling.{is_comment, Spells}
use Rattle.kn_lex.specs.Cutting.{IsLexeme, is_token, Cuts, TokenView, start}
use Rattle.kn_lex.specs.Between.{is_line_end, IsBlankPart, IsGap, StandApart}
use Rattle.kn_lex.specs.declared.lexeme.Lexeme.{Lexeme}
use Rattle.kn_lex.specs.declared.lexeme.Lexeme.TheVariants.{Comment}
use Rattle.kn_lex.specs.declared.lexeme.Place.{Place}
use Rattle.kn_lex.specs.declared.lexeme.Context.{Context}
use Rattle.kn_lex.proofs.Order.{along}

comment_more : (bytes : List ℕ) (c : ℕ) → is_comment bytes ≡ true → (c == 10) ≡ false
    → is_comment (bytes ++ c ∷ []) ≡ true
comment_more bytes c e other = grind (arith, list_all-append)

-- the longest comment goes on to the end of its line
comment_to_end : (context : Context) (text : List ℕ) (n : ℕ) → IsLexeme context text Comment n
    → ((bytes : List ℕ) → is_comment bytes ≡ true → Spells context Comment bytes) → is_comment (take n text) ≡ true
    → is_line_end (drop n text) ≡ true
comment_to_end context text n lexeme spells comment = by (drop n text) refl
  where
    longer : (c : ℕ) (cs : List ℕ) → drop n text ≡ c ∷ cs → (b : Bool) → (c == 10) ≡ b → b ≡ true
    longer c cs e true here = refl
    longer c cs e false here =
        let size : length (c ∷ cs) ≡ length text - n = ap (λ (bs : List ℕ). length bs) (sym e) ∙ length-drop n text in
        let next : take (n + 1) text ≡ take n text ++ c ∷ [] = take-add n 1 text
        ∙ ap (λ bs. take n text ++ take 1 bs) e in
        let is : is_comment (take (n + 1) text) ≡ true = ap is_comment next
        ∙ comment_more (take n text) c comment here in
        absurd (omega (
          arith,
          size,
          lexeme.longest Comment (n + 1) (omega (arith, size)) (spells (take (n + 1) text) is),
        ))

    by : (left : List ℕ) → drop n text ≡ left → is_line_end left ≡ true
    by [] e = refl
    by (c ∷ cs) e = let ends = longer c cs e (c == 10) refl in ends

blank_part : (context : Context) (text : List ℕ) (lexeme : Lexeme) (n : ℕ) → IsLexeme context text lexeme n
    → is_token lexeme ≡ false
    → IsBlankPart (take n text) (drop n text)
blank_part context text lexeme n cut e = grind (arith, comment_to_end)

one_more : (text rest part next : List ℕ) → text ≡ part ++ next → IsBlankPart part next → IsGap next rest
    → IsGap text rest
one_more text rest part next is blank gap = record { parts = part ∷ gap.parts; skips = (next, is, blank, gap.skips) }

-- a part before a place
before : (whole : List ℕ) (from next : ℕ) (part : List ℕ) (tokens : List TokenView)
    → drop from whole ≡ part ++ drop next whole
    → IsBlankPart part (drop next whole)
    → StandApart whole next tokens → StandApart whole from tokens
before whole from next part [] is blank h = one_more (drop from whole) [] part (drop next whole) is blank h
before whole from next part (token ∷ tokens) is blank h = grind (arith, one_more)

nothing : (text : List ℕ) → IsGap text text
nothing text = record { parts = []; skips = refl }

pub apart : (text : List ℕ) (tokens : List TokenView) → Cuts text tokens → StandApart text 0 tokens
apart text tokens h =
    rw h.exact
    (along text (λ place at tokens. StandApart text at tokens) (λ end at e. rw e (nothing [])) skip
    (λ place at sort n left cut some rest.
    (nothing (drop at text), rw (length-take-le n (drop at text) cut.within) rest))
    h.lexemes start 0 h.reached.0 h.reached.1)
  where
    skip : (place : Place) (at : ℕ) (lexeme : Lexeme) (n : ℕ) (left : List TokenView)
        → IsLexeme place.context (drop at text) lexeme n
        → (is_token lexeme ≡ false) ⊎ (n ≡ 0) → StandApart text (at + n) left → StandApart text at left
    skip place at lexeme n left cut (inl e) rest =
        let parted = sym (take-append-drop n (drop at text)) in
        before text at (at + n) (take n (drop at text)) left (rw (← drop-drop n at text) parted)
        (rw (← drop-drop n at text) (blank_part place.context (drop at text) lexeme n cut e)) rest
    skip place at lexeme n left cut (inr e) rest = let same : at + n ≡ at = omega (arith, e) in
        subst (λ k. StandApart text k left) same rest
