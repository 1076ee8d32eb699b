-- What has neither a token nor a lexical fault is white space and comments without a byte 0.
use Rattle.std.proofs.Common.{◌≡◌, ℕ, zero, suc, true, false, Bool, ◌+◌, ◌⊎◌, inl, inr, List, [], ◌∷◌, ◌++◌, Option}
use Rattle.std.proofs.Common.{Some, None, take, drop, arith, refl, if◌then◌else◌, sym, ◌∙◌, ap, subst, append_assoc}
use Rattle.std.proofs.Common.{append-nil, take-append-drop}
use Rattle.std.specs.Prelude.{not, ◌||◌, ◌==◌}
use Rattle.std.specs.List.{list_any, list_all}
use Rattle.std.proofs.lemmas.Bool.{false≢true}
use Rattle.std.proofs.lemmas.Bool.Decides.{nat_tests}
use Rattle.std.proofs.lemmas.List.Folds.{list_any-append}
use Rattle.kn_lex.specs.Spelling.{is_white_space, is_comment, Spells}
use Rattle.kn_lex.specs.Between.{is_line_end, Skips}
use Rattle.kn_lex.specs.Cutting.{start, context_after, IsLexeme, Reaches, place_after, is_token, tokens_of, Cuts}
use Rattle.kn_lex.specs.Cutting.{lexeme_bytes}
use Rattle.kn_lex.specs.Faults.{goes_on, IsFaultless}
use Rattle.kn_lex.specs.Scanning.{lexeme_at, plain_lexeme, white_len, line_len, fault_at, zero_fault, zero_place}
use Rattle.kn_lex.specs.declared.lexeme.Lexeme.{Lexeme}
use Rattle.kn_lex.specs.declared.lexeme.Lexeme.TheVariants.{White, Comment, Token}
use Rattle.kn_lex.specs.declared.lexeme.Place.{Place}
use Rattle.kn_lex.specs.declared.lexeme.Context.{Context}
use Rattle.kn_lex.specs.declared.lexeme.Context.TheVariants.{LineStart, WithinLine, CommentBody}
use Rattle.kn_lex.specs.declared.fault.LexFault.{LexFault}
use Rattle.kn_lex.proofs.ScannedLengths.{both, same_byte}
use Rattle.kn_lex.proofs.Between.{apart}
use Rattle.kn_lex.proofs.Scans.{line_ends}
use Rattle.kn_lex.proofs.Lexemes.{lexeme_is}
use Rattle.kn_lex.proofs.BlankToEnd.{settled_stays}
use Rattle.kn_lex.proofs.PlaceFaults.{shown_least, Least}
use Rattle.kn_lex.proofs.OneLexing.{IsClean, end_clean}
use Rattle.kn_lex.proofs.LexerStates.{every_cutting, finished_cuts, finished_faultless}
use Rattle.kn_files.specs.Pieces.{is_assertion}

pub either_false : (a b : Bool) → (a || b) ≡ false → (a ≡ false) × (b ≡ false)
either_false a b e = (grind arith, grind arith)

abbrev pub has_zero : List ℕ → Bool
has_zero bytes = list_any (λ byte. 0 == byte) bytes

-- white space and comments before other bytes

white_passed : (bytes rest : List ℕ) → is_white_space bytes ≡ true → goes_on false (bytes ++ rest) ≡ goes_on false rest
white_passed [] rest e = refl
white_passed (c ∷ []) rest e = grind (arith, nat_tests)
white_passed (c ∷ d ∷ ds) rest e = grind (arith, nat_tests, white_passed (d ∷ ds) rest)

commented : (bytes rest : List ℕ) → list_all (λ byte. not (byte == 10)) bytes ≡ true
    → goes_on true (bytes ++ rest) ≡ goes_on true rest
commented [] rest e = refl
commented (c ∷ cs) rest e = grind (arith, nat_tests, commented cs rest)

comment_passed : (bytes rest : List ℕ) → is_comment bytes ≡ true → goes_on false (bytes ++ rest) ≡ goes_on true rest
comment_passed bytes rest e = grind (arith, commented)

-- a line ends a comment
line_ends_comment : (front left : List ℕ) → is_line_end (front ++ left) ≡ true
    → goes_on true front ≡ goes_on false front
line_ends_comment [] left e = refl
line_ends_comment (c ∷ cs) left e = rw (same_byte c 10 e) refl

-- where nothing goes on, white space or a comment begins

quiet_plain : (first : Bool) (c : ℕ) (cs : List ℕ) → goes_on false (c ∷ cs) ≡ false
    → (plain_lexeme first (c ∷ cs) ≡ Some (White, white_len (c ∷ cs)))
    ⊎ (plain_lexeme first (c ∷ cs) ≡ Some (Comment, line_len (c ∷ cs)))
unfolding plain_lexeme
quiet_plain first c cs e = grind (arith, nat_tests)

quiet_piece : (context : Context) (c : ℕ) (cs : List ℕ) → (context ≡ CommentBody → ⊥) → goes_on false (c ∷ cs) ≡ false
    → (lexeme_at context (c ∷ cs) ≡ Some (White, white_len (c ∷ cs)))
    ⊎ (lexeme_at context (c ∷ cs) ≡ Some (Comment, line_len (c ∷ cs)))
quiet_piece context c cs n e = grind (arith, quiet_plain)

pub none_at_end : (context : Context) (piece : Lexeme) (n : ℕ) → (context ≡ CommentBody → ⊥)
    → IsLexeme context [] piece n
    → ⊥
unfolding plain_lexeme
none_at_end context piece n o cut = let found = lexeme_is context [] piece n cut in absurd (grind arith)

quiet_sort : (context : Context) (text : List ℕ) (p : Lexeme × ℕ) → (context ≡ CommentBody → ⊥)
    → goes_on false text ≡ false → IsLexeme context text p.0 p.1 → is_token p.0 ≡ false
quiet_sort context [] p n e cut = absurd (none_at_end context p.0 p.1 n cut)
quiet_sort context (c ∷ cs) p n e cut = grind (arith, lexeme_is, quiet_piece)

-- behind white space and comments no body is due
pub no_body_due : (piece : Lexeme) (bytes : List ℕ) → is_token piece ≡ false → context_after piece bytes ≡ CommentBody
    → ⊥
no_body_due piece bytes e k = absurd (grind arith)

-- no piece is a token
abbrev pub AreUntold : List (Lexeme × ℕ) → Type 0
AreUntold [] = Unit {0}
AreUntold (p ∷ ps) = (is_token p.0 ≡ false) × AreUntold ps

pub untold_tokens : (pieces : List (Lexeme × ℕ)) (place : Place) (at : ℕ) (text : List ℕ) → AreUntold pieces
    → tokens_of place at text pieces ≡ []
untold_tokens [] place at text u = refl
untold_tokens ((White, n) ∷ ps) place at text u =
    untold_tokens ps (place_after place White (take n text)) (at + n) (drop n text) u.1
untold_tokens ((Comment, n) ∷ ps) place at text u =
    untold_tokens ps (place_after place Comment (take n text)) (at + n) (drop n text) u.1
untold_tokens ((Token sort, n) ∷ ps) place at text u = absurd (false≢true (sym u.0))

pub quiet_along : (pieces : List (Lexeme × ℕ)) (place : Place) (text : List ℕ) (end : Place) (left : List ℕ)
    → Reaches place text pieces end left
    → (place.context ≡ CommentBody → ⊥) → goes_on false text ≡ false → AreUntold pieces
    × (end.context ≡ CommentBody → ⊥) × (goes_on false left ≡ false)
quiet_along [] place text end left h o e = (
  tt,
  subst (λ (p : Place). p.context ≡ CommentBody → ⊥) h.0 o,
  subst (λ (bs : List ℕ). goes_on false bs ≡ false) h.1 e,
)
quiet_along (p ∷ ps) place text end left h o e =
    grind (
      arith,
      quiet_sort,
      no_body_due,
      settled_stays,
      lexeme_is,
      quiet_along ps (place_after place p.0 (take p.1 text)) (drop p.1 text) end left h.1,
    )

-- byte 0 is a fault

zero_found : (at : ℕ) (bytes : List ℕ) → zero_fault at (zero_place bytes) ≡ None → has_zero bytes ≡ false
unfolding zero_place
zero_found at [] e = refl
zero_found at (c ∷ cs) e = grind (arith, nat_tests, zero_found at cs)

no_zero_place : (bytes : List ℕ) → has_zero bytes ≡ false → zero_place bytes ≡ None
unfolding zero_place
no_zero_place [] e = refl
no_zero_place (c ∷ cs) e = grind (arith, nat_tests, no_zero_place cs)

pub unblank : (b : Bool) (fault : LexFault) (o : Option LexFault) → (if b then Some fault else o) ≡ None → (b ≡ false)
    × (o ≡ None)
unblank b fault o e = grind arith

clean_zero : (place : Place) (at : ℕ) (text : List ℕ) (piece : Lexeme) (n : ℕ) → is_token piece ≡ false
    → IsLexeme place.context text piece n → fault_at place at text ≡ None
    → has_zero (take n text) ≡ false
clean_zero place at text piece n untold cut clean = grind (arith, zero_found, lexeme_is)

-- a comment is the rest of its line

pub same_size : (o : Option (Lexeme × ℕ)) (p q : Lexeme × ℕ) → o ≡ Some p → o ≡ Some q → p.1 ≡ q.1
same_size o p q e f = let same : p ≡ q = cc in ap (λ (r : Lexeme × ℕ). r.1) same

pub comment_len : (context : Context) (left : List ℕ) (n : ℕ) → (context ≡ CommentBody → ⊥)
    → IsLexeme context left Comment n → is_comment (take n left) ≡ true → n ≡ line_len left
unfolding plain_lexeme
comment_len context left zero o cut e = absurd (false≢true e)
comment_len context [] (suc n) o cut e = absurd (false≢true e)
comment_len context (c ∷ cs) (suc n) o cut e = by context o (lexeme_is context (c ∷ cs) Comment (suc n) cut)
  where
    hash : c ≡ 35
    hash = same_byte c 35 (both (c == 35) (list_all (λ byte. not (byte == 10)) (take n cs)) e).0

    by : (k : Context) → (k ≡ CommentBody → ⊥) → lexeme_at k (c ∷ cs) ≡ Some (Comment, suc n)
        → suc n ≡ line_len (c ∷ cs)
    by LineStart o f =
        same_size (lexeme_at LineStart (c ∷ cs)) (Comment, suc n) (Comment, line_len (c ∷ cs)) f (rw hash refl)
    by WithinLine o f =
        same_size (lexeme_at WithinLine (c ∷ cs)) (Comment, suc n) (Comment, line_len (c ∷ cs)) f (rw hash refl)
    by CommentBody o f = absurd (o refl)

-- the text has these bytes before what is left, which are neither a token nor a fault
pub record IsSilentBefore (text left : List ℕ) : Type 0 where
  pub front : List ℕ
  pub whole : text ≡ front ++ left
  pub quiet : goes_on false front ≡ false
  pub no_zero : has_zero front ≡ false

pub spells_comment : (context : Context) (bytes : List ℕ) → Spells context Comment bytes → is_comment bytes ≡ true
spells_comment context bytes h = grind arith

front_quiet : (context : Context) (piece : Lexeme) (n : ℕ) (text front left : List ℕ) → (context ≡ CommentBody → ⊥)
    → is_token piece ≡ false → IsLexeme context text piece n
    → drop n text ≡ front ++ left → goes_on false front ≡ false → goes_on false (take n text ++ front) ≡ false
front_quiet context White n text front left o u cut whole quiet = grind (arith, white_passed)
front_quiet context Comment n text front left o u cut whole quiet =
    let comment = spells_comment context (take n text) cut.spelled in
    let end : is_line_end (front ++ left) ≡ true =
    ap is_line_end (sym whole) ∙ ap (λ (k : ℕ). is_line_end (drop k text)) (comment_len context text n o cut comment)
    ∙ line_ends text in
    comment_passed (take n text) front comment ∙ line_ends_comment front left end ∙ quiet
front_quiet context (Token sort) n text front left o u cut whole quiet = absurd (false≢true (sym u))

pub silent_before : (pieces : List (Lexeme × ℕ)) (place : Place) (at : ℕ) (text : List ℕ) (end : Place) (left : List ℕ)
    → Reaches place text pieces end left
    → (place.context ≡ CommentBody → ⊥) → AreUntold pieces → IsClean place at text pieces → IsSilentBefore text left
silent_before [] place at text end left h o u c = record { front = []; whole = h.1; quiet = refl; no_zero = refl }
silent_before (p ∷ ps) place at text end left h o u c =
    let bytes : List ℕ = take p.1 text in
    let rest = silent_before ps (place_after place p.0 bytes) (at + p.1) (drop p.1 text) end left h.1
    (no_body_due p.0 bytes u.0) u.1 c.1 in
    record {
      front = bytes ++ rest.front;
      whole = sym (take-append-drop p.1 text) ∙ ap (λ (more : List ℕ). bytes ++ more) rest.whole
          ∙ sym (append_assoc bytes rest.front left);
      quiet = front_quiet place.context p.0 p.1 text rest.front left o u.0 h.0 rest.whole rest.quiet;
      no_zero = list_any-append (λ byte. 0 == byte) bytes rest.front
          ∙ rw (clean_zero place at text p.0 p.1 u.0 h.0 c.0, rest.no_zero) refl;
    }

pub silent_whole : (pieces : List (Lexeme × ℕ)) (place : Place) (at : ℕ) (text : List ℕ) (end : Place)
    → Reaches place text pieces end []
    → (place.context ≡ CommentBody → ⊥) → AreUntold pieces → IsClean place at text pieces → is_assertion text ≡ false
silent_whole pieces place at text end h o u c = grind (arith, silent_before, append-nil)

gap_quiet : (parts : List (List ℕ)) (text : List ℕ) → Skips text parts [] → goes_on false text ≡ false
gap_quiet [] text h = ap (goes_on false) h
gap_quiet (part ∷ parts) text h =
    grind (arith, white_passed, comment_passed, line_ends_comment, append-nil, gap_quiet parts h.0 h.3)

pub kept : (text : List ℕ) → Cuts text [] → IsFaultless text → is_assertion text ≡ false
kept text cuts faultless =
    elim (every_cutting text) [
      | inl h ↦
          let gap = apart text [] cuts in
          let quiet = quiet_along h.1.lexemes start text h.1.end [] h.1.reached (λ k. absurd (cc))
          (gap_quiet gap.parts text gap.skips) in
          silent_whole h.1.lexemes start 0 text h.1.end h.1.reached (λ k. absurd (cc)) quiet.0 h.1.clean
      | inr h ↦ absurd (faultless h.0 h.1.has)
    ]

-- what has neither shows no fault

has_zero-parts : (n : ℕ) (bytes : List ℕ) → has_zero bytes ≡ false → (has_zero (take n bytes) ≡ false)
    × (has_zero (drop n bytes) ≡ false)
has_zero-parts n bytes e =
    either_false (has_zero (take n bytes)) (has_zero (drop n bytes))
    (sym (list_any-append (λ byte. 0 == byte) (take n bytes) (drop n bytes)) ∙ ap has_zero (take-append-drop n bytes)
    ∙ e)

no_zero_left : (pieces : List (Lexeme × ℕ)) (place : Place) (text : List ℕ) (end : Place) (left : List ℕ)
    → Reaches place text pieces end left → has_zero text ≡ false → has_zero left ≡ false
no_zero_left [] place text end left h e = ap has_zero (sym h.1) ∙ e
no_zero_left (p ∷ ps) place text end left h e =
    no_zero_left ps (place_after place p.0 (take p.1 text)) (drop p.1 text) end left h.1 (has_zero-parts p.1 text e).1

quiet_clean : (place : Place) (at : ℕ) (left : List ℕ) → (place.context ≡ CommentBody → ⊥) → goes_on false left ≡ false
    → has_zero left ≡ false → fault_at place at left ≡ None
quiet_clean place at [] o e z = end_clean place.context place.has_token at
quiet_clean place at (c ∷ cs) o e z = grind (arith, quiet_piece, no_zero_place, has_zero-parts)

pub left_out : (text : List ℕ) → is_assertion text ≡ false → Cuts text [] × IsFaultless text
left_out text e =
    let parts = either_false (goes_on false text) (has_zero text) e in
    elim (every_cutting text) [
      | inl h ↦
          let quiet = quiet_along h.1.lexemes start text h.1.end [] h.1.reached (λ k. absurd (cc)) parts.0 in (
            subst (Cuts text) (h.1.exact ∙ untold_tokens h.1.lexemes start 0 text quiet.0) (finished_cuts text h.0 h.1),
            finished_faultless text h.0 h.1,
          )
      | inr h ↦
          let o = h.1.has in
          let quiet = quiet_along o.lexemes start text o.place o.left o.reached (λ k. absurd (cc)) parts.0 in
          absurd (subst (Least h.0)
          (quiet_clean o.place (lexeme_bytes o.lexemes) o.left quiet.1 quiet.2
          (no_zero_left o.lexemes start text o.place o.left o.reached parts.1))
          (shown_least o.place (lexeme_bytes o.lexemes) o.left h.0 o.shown))
    ]
