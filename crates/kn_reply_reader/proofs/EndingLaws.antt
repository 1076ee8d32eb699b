-- Texts that end by their first line END.
use Rattle.std.proofs.Common.{◌≡◌, ◌≢◌, ℕ, ◌+◌, ◌-◌, ◌<◌, false, ◌==◌, List, [], ◌∷◌, ◌++◌, length, take, drop, codes}
use Rattle.std.proofs.Common.{flat_map, All, refl, sym, ap, ◌∙◌, arith, append_assoc, length-append, take_at, drop_at}
use Rattle.std.specs.List.{list_any}
use Rattle.std.proofs.lemmas.List.{append_cancel_left, flat_map_more}
use Rattle.std.proofs.lemmas.List.Elements.{All-nil, All-head, All-tail, All-push}
use Rattle.kn_base.proofs.Cuts.{cut_once, no_cut}
use Rattle.kn_proof.specs.Lines.{IsLine}
use Rattle.kn_reply_reader.specs.ValueReplies.{IsOtherLine, AreOtherLines, IsThroughEnd}

abbrev all_of : List (List ℕ) → List ℕ
all_of lines = flat_map (λ line. line) lines

end_line : IsLine (codes "END\n")
end_line = record { front = codes "END"; spelled = refl; whole = refl }

-- two lines at one front are one
line_once : (a b x y : List ℕ) → IsLine a → IsLine b → a ++ x ≡ b ++ y → (a ≡ b) × (x ≡ y)
line_once a b x y is is' e =
    let cut : is.front ++ 10 ∷ x ≡ is'.front ++ 10 ∷ y =
    sym (append_assoc is.front (10 ∷ []) x) ∙ ap (λ (l : List ℕ). l ++ x) (sym is.spelled) ∙ e
    ∙ ap (λ (l : List ℕ). l ++ y) is'.spelled ∙ append_assoc is'.front (10 ∷ []) y in
    let same = cut_once 10 is.front is'.front x y is.whole is'.whole cut in
    (is.spelled ∙ ap (λ (l : List ℕ). l ++ 10 ∷ []) same.0 ∙ sym is'.spelled, same.1)

other_line : (line r s : List ℕ) → IsOtherLine line → line ++ r ≢ codes "END\n" ++ s
other_line line r s is e = is.other (line_once line (codes "END\n") r s is.whole end_line e).0

-- the first line of some, and what is behind it
first_line : (line : List ℕ) (lines : List (List ℕ)) (rest : List ℕ)
    → all_of (line ∷ lines) ++ rest ≡ line ++ (all_of lines ++ rest)
first_line line lines rest = append_assoc line (all_of lines) rest

-- a text has one first line END
ends_once : (lines others : List (List ℕ)) (r s : List ℕ) → All IsOtherLine lines → All IsOtherLine others
    → all_of lines ++ (codes "END\n" ++ r) ≡ all_of others ++ (codes "END\n" ++ s)
    → (all_of lines ≡ all_of others) × (r ≡ s)
ends_once [] [] r s each each' e = (refl, append_cancel_left (codes "END\n") r s e)
ends_once [] (m ∷ others) r s each each' e =
    absurd (other_line m (all_of others ++ (codes "END\n" ++ s)) r (All-head IsOtherLine m others each')
    (sym (e ∙ first_line m others (codes "END\n" ++ s))))
ends_once (l ∷ lines) [] r s each each' e =
    absurd (other_line l (all_of lines ++ (codes "END\n" ++ r)) s (All-head IsOtherLine l lines each)
    (sym (first_line l lines (codes "END\n" ++ r)) ∙ e))
ends_once (l ∷ lines) (m ∷ others) r s each each' e =
    let next : l ++ (all_of lines ++ (codes "END\n" ++ r)) ≡ m ++ (all_of others ++ (codes "END\n" ++ s)) =
    sym (first_line l lines (codes "END\n" ++ r)) ∙ e ∙ first_line m others (codes "END\n" ++ s) in
    let line = line_once l m _ _ (All-head IsOtherLine l lines each).whole (All-head IsOtherLine m others each').whole
    next in
    let rest = ends_once lines others r s (All-tail IsOtherLine l lines each) (All-tail IsOtherLine m others each')
    line.1 in
    let same : l ≡ m = line.0 in
    let behind : all_of lines ≡ all_of others = rest.0 in
    (cc, rest.1)

-- where a text has no newline behind some lines, none of its lines is END
no_end : (lines others : List (List ℕ)) (r s : List ℕ) → All IsOtherLine lines → All IsOtherLine others
    → list_any (λ b. b == 10) r ≡ false → all_of lines ++ r ≡ all_of others ++ (codes "END\n" ++ s) → ⊥
no_end [] others r s each each' clean e =
    no_cut 10 (all_of others ++ codes "END") s
    (ap (list_any (λ b. b == 10)) (append_assoc (all_of others) (codes "END") (10 ∷ s) ∙ sym e) ∙ clean)
no_end (l ∷ lines) [] r s each each' clean e =
    other_line l (all_of lines ++ r) s (All-head IsOtherLine l lines each) (sym (first_line l lines r) ∙ e)
no_end (l ∷ lines) (m ∷ others) r s each each' clean e =
    let next : l ++ (all_of lines ++ r) ≡ m ++ (all_of others ++ (codes "END\n" ++ s)) =
    sym (first_line l lines r) ∙ e ∙ first_line m others (codes "END\n" ++ s) in
    let line = line_once l m _ _ (All-head IsOtherLine l lines each).whole (All-head IsOtherLine m others each').whole
    next in
    no_end lines others r s (All-tail IsOtherLine l lines each) (All-tail IsOtherLine m others each') clean line.1

-- a text that is cut behind its line END, by its lines
spelled_by : (text reply rest : List ℕ) (is : IsThroughEnd text reply rest)
    → text ≡ all_of is.others.lines ++ (codes "END\n" ++ rest)
spelled_by text reply rest is =
    is.cut ∙ ap (λ (l : List ℕ). l ++ rest) is.ends ∙ ap (λ (l : List ℕ). (l ++ codes "END\n") ++ rest) is.others.joined
    ∙ append_assoc (all_of is.others.lines) (codes "END\n") rest

-- it is cut in one way
pub cut_end_once : (text a b r s : List ℕ) → IsThroughEnd text a r → IsThroughEnd text b s → (a ≡ b) × (r ≡ s)
cut_end_once text a b r s is is' =
    let same = ends_once is.others.lines is'.others.lines r s is.others.each is'.others.each
    (sym (spelled_by text a r is) ∙ spelled_by text b s is') in (
      is.ends ∙ ap (λ (l : List ℕ). l ++ codes "END\n") (is.others.joined ∙ same.0 ∙ sym is'.others.joined)
          ∙ sym is'.ends,
      same.1,
    )

-- other lines stand at the front of a text, and this is behind them
pub record IsBehindOthers (text rest : List ℕ) : Type 0 where
  pub before : List ℕ
  pub others : AreOtherLines before
  pub spelled : text ≡ before ++ rest

pub none_before : AreOtherLines []
none_before = record { lines = []; each = All-nil IsOtherLine; joined = refl }

pub one_more : (before line : List ℕ) → AreOtherLines before → IsOtherLine line → AreOtherLines (before ++ line)
one_more before line others is = record {
  lines = others.lines ++ line ∷ [];
  each = All-push IsOtherLine others.lines line others.each is;
  joined = ap (λ (l : List ℕ). l ++ line) others.joined ∙ flat_map_more (λ (l : List ℕ). l) [] others.lines line;
}

pub begun : (text : List ℕ) → IsBehindOthers text text
begun text = record { before = []; others = none_before; spelled = refl }

-- one more line is passed
pub passed : (text lines word rest : List ℕ) → IsBehindOthers text lines → ((r : List ℕ) → lines ≢ codes "END\n" ++ r)
    → lines ≡ word ++ 10 ∷ rest → list_any (λ b. b == 10) word ≡ false → IsBehindOthers text rest
passed text lines word rest at other cut clean = record {
  before = at.before ++ (word ++ 10 ∷ []);
  others = one_more at.before (word ++ 10 ∷ []) at.others (record {
    whole = record { front = word; spelled = refl; whole = clean };
    other = λ e. other rest (line ∙ ap (λ (l : List ℕ). l ++ rest) e);
  });
  spelled = at.spelled ∙ ap (λ (l : List ℕ). at.before ++ l) line ∙ sym (append_assoc at.before (word ++ 10 ∷ []) rest);
}
  where
    line : lines ≡ (word ++ 10 ∷ []) ++ rest
    line = cut ∙ sym (append_assoc word (10 ∷ []) rest)

pub shorter : (lines word rest : List ℕ) → lines ≡ word ++ 10 ∷ rest → length rest < length lines
shorter lines word rest cut =
    let size : length lines ≡ length word + length (10 ∷ rest) = ap length cut ∙ length-append word (10 ∷ rest) in
    omega arith

-- the line END is reached
pub ended : (text lines rest : List ℕ) → IsBehindOthers text lines → lines ≡ codes "END\n" ++ rest
    → IsThroughEnd text (take (length text - length rest) text) (drop (length text - length rest) text)
ended text lines rest at end = record {
  before = at.before;
  others = at.others;
  ends = front;
  cut =
      spelled ∙ ap (λ (l : List ℕ). l ++ rest) (sym front)
      ∙ ap (λ (l : List ℕ). take (length text - length rest) text ++ l) (sym back);
}
  where
    reply : List ℕ
    reply = at.before ++ codes "END\n"

    spelled : text ≡ reply ++ rest
    spelled = at.spelled ∙ ap (λ (l : List ℕ). at.before ++ l) end ∙ sym (append_assoc at.before (codes "END\n") rest)

    size : length reply ≡ length text - length rest
    size =
        let s : length text ≡ length reply + length rest = ap length spelled ∙ length-append reply rest in
        omega arith

    front : take (length text - length rest) text ≡ reply
    front = ap (take (length text - length rest)) spelled ∙ take_at reply rest (length text - length rest) size

    back : drop (length text - length rest) text ≡ rest
    back = ap (drop (length text - length rest)) spelled ∙ drop_at reply rest (length text - length rest) size

-- no line is END
pub unended : (text lines reply rest : List ℕ) → IsBehindOthers text lines → list_any (λ b. b == 10) lines ≡ false
    → IsThroughEnd text reply rest → ⊥
unended text lines reply rest at clean is =
    no_end at.others.lines is.others.lines lines rest at.others.each is.others.each clean
    (ap (λ (l : List ℕ). l ++ lines) (sym at.others.joined) ∙ sym at.spelled ∙ spelled_by text reply rest is)
