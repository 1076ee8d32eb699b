-- A list of tokens cuts a text exactly where it is finished: each token whole, all in order and apart, and bodies where
-- they are due.
use Rattle.std.proofs.Common.{◌≡◌, add-zero, ℕ, zero, suc, true, false, Bool, ◌+◌, ◌≤◌, ◌&&◌, not, List, [], ◌∷◌, ◌++◌}
use Rattle.std.proofs.Common.{All, Option, Some, None, map, length, take, drop, arith, refl, sym, ◌∙◌, ap, ◌<◌, ◌⊎◌}
use Rattle.std.proofs.Common.{inl, inr}
use Rattle.std.specs.Prelude.{◌==◌, if◌then◌else◌}
use Rattle.std.proofs.lemmas.Bool.{false≢true}
use Rattle.std.proofs.lemmas.List.{drop-drop, length-take-le, drop_all, length-drop, length-append}
use Rattle.std.proofs.lemmas.List.Elements.{All-nil, All-cons, All-head, All-tail}
use Rattle.std.specs.List.{list_all}
use Rattle.std.proofs.lemmas.Bool.Decides.{nat_tests}
use Rattle.kn_lex.specs.Spelling.{Spells, is_white_space, is_comment}
use Rattle.kn_lex.specs.Cutting.{IsLexeme, Reaches, Cuts, TokenView}
use Rattle.kn_lex.specs.Cutting.{start, place_after, context_after, token_of, tokens_of}
use Rattle.kn_lex.specs.Cutting.{is_line_start, is_comment_label, is_token}
use Rattle.kn_lex.specs.Scanning.{body_len, lexeme_at, plain_lexeme, white_len, line_len}
use Rattle.kn_lex.specs.TokenFacts.{begins_line, StandInOrder}
use Rattle.kn_lex.specs.Finished.{context_of, IsWhole, is_body_empty, body_due, body_here, AreTokensOf, body_place}
use Rattle.kn_lex.specs.declared.token.Sort.{Sort}
use Rattle.kn_lex.specs.declared.token.Sort.TheVariants.{Body}
use Rattle.kn_lex.specs.declared.lexeme.Lexeme.{Lexeme}
use Rattle.kn_lex.specs.declared.lexeme.Lexeme.TheVariants.{White, Comment, Token}
use Rattle.kn_lex.specs.declared.lexeme.Place.{Place}
use Rattle.kn_lex.specs.declared.lexeme.Context.{Context}
use Rattle.kn_lex.specs.declared.lexeme.Context.TheVariants.{LineStart, WithinLine, CommentBody}
use Rattle.kn_lex.specs.Bytes.{is_gap, is_white, begins_with}
use Rattle.kn_lex.specs.TokenViews.{is_label_sort}
use Rattle.kn_lex.specs.Between.{is_line_end, IsGap, Skips, StandApart}
use Rattle.kn_lex.proofs.ScannedLengths.{both, gap_white, white_some}
use Rattle.kn_lex.proofs.Scans.{drop_next}
use Rattle.kn_lex.proofs.Order.{along, made, in_order, next_begins}
use Rattle.kn_lex.proofs.Between.{apart}
use Rattle.kn_lex.proofs.Lexemes.{lexeme_sound, lexeme_is, white_first}

-- a token tells its context
own_context : (context : Context) (sort : Sort) (bytes : List ℕ) → Spells context (Token sort) bytes
    → context_of sort (is_line_start context) ≡ context
own_context context sort bytes s = grind arith

whole_tokens : (text : List ℕ) (tokens : List TokenView) → Cuts text tokens → All (IsWhole text) tokens
whole_tokens text tokens h =
    rw h.exact
    (along text (λ place at tokens. is_line_start place.context ≡ begins_line text at
    → All (IsWhole text) tokens) (λ end at e line. All-nil (IsWhole text))
    (λ place at lexeme n left cut empty rest line. rest (next_begins text place at lexeme n line cut)) token h.lexemes
    start 0 h.reached.0 h.reached.1 refl)
  where
    token : (place : Place) (at : ℕ) (sort : Sort) (n : ℕ) (left : List TokenView)
        → IsLexeme place.context (drop at text) (Token sort) n → 0 < n
        → (is_line_start (context_after (Token sort) (take n (drop at text))) ≡ begins_line text (at + n)
        → All (IsWhole text) left)
        → is_line_start place.context ≡ begins_line text at
        → All (IsWhole text) (made place.context at sort (take n (drop at text)) ∷ left)
    token place at sort n left cut some rest line =
        let size : length (take n (drop at text)) ≡ n = length-take-le n (drop at text) cut.within in
        All-cons (IsWhole text) (made place.context at sort (take n (drop at text))) left
        (record {
          some = omega arith;
          size = refl;
          slice = rw size refl;
          line = line;
          longest = rw (own_context place.context sort _ cut.spelled, size) cut;
        })
        (rest (next_begins text place at (Token sort) n line cut))

-- where a body is due at a place
abbrev due : Context → ℕ → List ℕ → Option ℕ
due CommentBody at text = if is_body_empty text then None else Some at
due context at text = None

-- what is due behind a lexeme, and before it

abbrev Balanced : List ℕ → Option ℕ → List TokenView → Type 0
Balanced whole before tokens = before ∷ map (body_due whole) tokens ≡ map body_here tokens ++ None ∷ []

-- the body of a comment would be empty exactly where it is
empty_body : (text : List ℕ) → is_body_empty text ≡ (body_len text == 0)
unfolding body_len
empty_body text = grind arith

due_nil : (context : Context) (at : ℕ) → due context at [] ≡ None
due_nil context at = grind arith

-- a token stands where it is due, and a body is due behind it where it ought to be
due_here : (context : Context) (at : ℕ) (text : List ℕ) (sort : Sort) (n : ℕ) → IsLexeme context text (Token sort) n
    → 0 < n
    → due context at text ≡ body_place sort at
due_here context at text sort n cut some = grind (arith, lexeme_is, empty_body)

due_behind : (whole : List ℕ) (sort : Sort) (bytes : List ℕ) (end : ℕ)
    → (if is_label_sort sort && is_comment_label bytes && not (is_body_empty (drop end whole)) then Some end else None)
    ≡ due (context_after (Token sort) bytes) end (drop end whole)
due_behind whole sort bytes end = grind arith

-- what is no token takes no body's place
due_skipped : (context : Context) (at to : ℕ) (text behind : List ℕ) (lexeme : Lexeme) (n : ℕ)
    → IsLexeme context text lexeme n
    → (is_token lexeme ≡ false) ⊎ (n ≡ 0)
    → (due context at text ≡ None) × (due (context_after lexeme (take n text)) to behind ≡ None)
due_skipped context at to text behind lexeme n cut empty = grind (arith, lexeme_is, empty_body)

balanced : (text : List ℕ) (tokens : List TokenView) → Cuts text tokens → Balanced text None tokens
balanced text tokens h =
    rw h.exact
    (along text (λ place at tokens. Balanced text (due place.context at (drop at text)) tokens)
    (λ end at e. rw (e, due_nil end.context at) refl) skip token
    h.lexemes start 0 h.reached.0 h.reached.1)
  where
    skip : (place : Place) (at : ℕ) (lexeme : Lexeme) (n : ℕ) (left : List TokenView)
        → IsLexeme place.context (drop at text) lexeme n
        → (is_token lexeme ≡ false) ⊎ (n ≡ 0)
        → Balanced text (due (context_after lexeme (take n (drop at text))) (at + n) (drop (at + n) text)) left
        → Balanced text (due place.context at (drop at text)) left
    skip place at lexeme n left cut empty rest =
        let none = due_skipped place.context at (at + n) (drop at text) (drop (at + n) text) lexeme n cut empty in
        rw none.0 (rw none.1 at rest)

    token : (place : Place) (at : ℕ) (sort : Sort) (n : ℕ) (left : List TokenView)
        → IsLexeme place.context (drop at text) (Token sort) n → 0 < n
        → Balanced text (due (context_after (Token sort) (take n (drop at text))) (at + n) (drop (at + n) text)) left
        → Balanced text (due place.context at (drop at text)) (made place.context at sort (take n (drop at text))
        ∷ left)
    token place at sort n left cut some rest =
        let size : length (take n (drop at text)) ≡ n = length-take-le n (drop at text) cut.within in
        cc (
          due_here place.context at (drop at text) sort n cut some,
          size,
          due_behind text sort (take n (drop at text)) (at + n),
        )

pub tokens_finished : (text : List ℕ) (tokens : List TokenView) → Cuts text tokens → AreTokensOf text tokens
tokens_finished text tokens h =
    grind (arith, whole_tokens text tokens, in_order text tokens, apart, balanced text tokens h)

-- each token tells whether a line begins where it does
pub first_of_lines : (text : List ℕ) (tokens : List TokenView) → Cuts text tokens
    → All (λ token. token.first ≡ begins_line text token.span.start) tokens
first_of_lines text tokens h = λ k d below. (whole_tokens text tokens h k d below).line

-- lexemes cut the rest of a text into tokens

record Cutting (place : Place) (at : ℕ) (text : List ℕ) (tokens : List TokenView) : Type 0 where
  lexemes : List (Lexeme × ℕ)
  end : Place
  reached : Reaches place text lexemes end []
  done : end.context ≡ CommentBody → ⊥
  exact : tokens ≡ tokens_of place at text lexemes

abbrev CutsFrom : List ℕ → Place → ℕ → List TokenView → Type 0
CutsFrom whole place at tokens = Cutting place at (drop at whole) tokens

cut_on : (whole : List ℕ) (place : Place) (at : ℕ) (p : Lexeme × ℕ) (more tokens : List TokenView)
    → IsLexeme place.context (drop at whole) p.0 p.1
    → tokens ≡ token_of place.context at p.0 (take p.1 (drop at whole)) ++ more
    → CutsFrom whole (place_after place p.0 (take p.1 (drop at whole))) (at + p.1) more → CutsFrom whole place at tokens
cut_on whole place at p more tokens cut is next =
    let rest : Cutting (place_after place p.0 (take p.1 (drop at whole))) (at + p.1) (drop p.1 (drop at whole)) more =
    rw (drop-drop p.1 at whole) next in
    record {
      lexemes = p ∷ rest.lexemes;
      end = rest.end;
      reached = (cut, rest.reached);
      done = rest.done;
      exact =
          cc (is, rest.exact);
    }

-- white space and comments are cut into lexemes

-- a newline ends white space, and what else is white goes on with it
white_behind : (c : ℕ) (xs : List ℕ) → is_white c ≡ true
    → (drop (white_len (c ∷ xs)) (c ∷ xs) ≡ xs) ⊎ (drop (white_len (c ∷ xs)) (c ∷ xs) ≡ drop (white_len xs) xs)
unfolding white_len
white_behind c xs w = grind (arith, nat_tests, drop_next)

white_none : (xs : List ℕ) → begins_with is_white xs ≡ false → drop (white_len xs) xs ≡ xs
unfolding white_len
white_none xs e = grind arith

white_front : (part next rest : List ℕ) (parts : List (List ℕ)) → is_white_space part ≡ true
    → IsGap (drop (white_len next) next) rest
    → Skips next parts rest
    → IsGap (drop (white_len (part ++ next)) (part ++ next)) rest
white_front [] next rest parts e inner more = absurd (false≢true e)
white_front (c ∷ []) next rest parts e inner more = grind (arith, white_behind)
white_front (c ∷ d ∷ ds) next rest parts e inner more =
    let both_parts = both (is_gap c) (is_white_space (d ∷ ds)) e in
    elim (white_behind c (d ∷ ds ++ next) (gap_white c both_parts.0)) [
      | inl b ↦ rw b (record { parts = (d ∷ ds) ∷ parts; skips = (next, refl, inl both_parts.1, more) })
      | inr b ↦ rw b (white_front (d ∷ ds) next rest parts both_parts.1 inner more)
    ]

hash_front : (part next : List ℕ) → is_comment part ≡ true → begins_with is_white (part ++ next) ≡ false
hash_front part next e = grind arith

white_skips : (parts : List (List ℕ)) (text rest : List ℕ) → Skips text parts rest → begins_with is_white rest ≡ false
    → IsGap (drop (white_len text) text) rest
white_skips [] text rest same none = rw (same, white_none rest none) (record { parts = []; skips = refl })
white_skips (part ∷ parts) text rest (next, is, inl white, more) none =
    grind (arith, white_front, white_skips parts next rest more)
white_skips (part ∷ parts) text rest (next, is, inr comment, more) none =
    rw (is, white_none (part ++ next) (hash_front part next comment.0))
    (record { parts = part ∷ parts; skips = (next, refl, inr comment, more) })

line_front : (cs next : List ℕ) → list_all (λ byte. not (byte == 10)) cs ≡ true → is_line_end next ≡ true
    → drop (line_len (cs ++ next)) (cs ++ next) ≡ next
line_front [] next all end = grind arith
line_front (c ∷ cs) next all end = grind (arith, line_front cs next, drop_next)

white_found : (context : Context) (c : ℕ) (cs : List ℕ) → (context ≡ CommentBody → ⊥) → is_white c ≡ true
    → lexeme_at context (c ∷ cs) ≡ Some (White, white_len (c ∷ cs))
unfolding plain_lexeme
white_found context c cs inside w = grind arith

comment_found : (context : Context) (c : ℕ) (cs : List ℕ) → (context ≡ CommentBody → ⊥) → (c == 35) ≡ true
    → lexeme_at context (c ∷ cs) ≡ Some (Comment, line_len (c ∷ cs))
unfolding plain_lexeme
comment_found context c cs inside h = grind (arith, nat_tests)

-- a lexeme that is no token begins here, and a gap is left behind it
record Step (context : Context) (text rest : List ℕ) : Type 0 where
  lexeme : Lexeme
  n : ℕ
  some : 0 < n
  found : lexeme_at context text ≡ Some (lexeme, n)
  other : is_token lexeme ≡ false
  gap : IsGap (drop n text) rest

no_token : (context : Context) (at : ℕ) (lexeme : Lexeme) (bytes : List ℕ) → is_token lexeme ≡ false
    → (token_of context at lexeme bytes ≡ []) × (context_after lexeme bytes ≡ CommentBody → ⊥)
no_token context at lexeme bytes e = grind arith

white_step : (context : Context) (part next rest : List ℕ) (parts : List (List ℕ)) → (context ≡ CommentBody → ⊥)
    → is_white_space part ≡ true
    → Skips next parts rest → begins_with is_white rest ≡ false → Step context (part ++ next) rest
white_step context [] next rest parts inside white more none = absurd (false≢true white)
white_step context (c ∷ cs) next rest parts inside white more none =
    let w = white_first c cs white in
    record {
      lexeme = White;
      n = white_len (c ∷ cs ++ next);
      some = white_some c (cs ++ next) w;
      found = white_found context c (cs ++ next) inside w;
      other = refl;
      gap = white_skips ((c ∷ cs) ∷ parts) (c ∷ cs ++ next) rest (next, refl, inl white, more) none;
    }

comment_step : (context : Context) (part next rest : List ℕ) (parts : List (List ℕ)) → (context ≡ CommentBody → ⊥)
    → is_comment part ≡ true
    → is_line_end next ≡ true → Skips next parts rest → Step context (part ++ next) rest
comment_step context [] next rest parts inside comment end more = absurd (false≢true comment)
comment_step context (c ∷ cs) next rest parts inside comment end more =
    grind (arith, comment_found context c (cs ++ next) inside, line_front (c ∷ cs) next (grind (arith, nat_tests)))

gap_step : (context : Context) (parts : List (List ℕ)) (text rest : List ℕ) → (context ≡ CommentBody → ⊥)
    → Skips text parts rest
    → begins_with is_white rest ≡ false
    → (text ≡ rest) ⊎ Step context text rest
gap_step context [] text rest inside same none = inl same
gap_step context (part ∷ parts) text rest inside skips none = grind (arith, white_step, comment_step)

gap_length : (parts : List (List ℕ)) (text rest : List ℕ) → Skips text parts rest → length rest ≤ length text
gap_length [] text rest same = omega (arith, ap length same)
gap_length (part ∷ parts) text rest (next, is, blank, more) =
    omega (arith, ap length is, length-append part next, gap_length parts next rest more)

-- through a gap
walk : (n : ℕ) (whole rest : List ℕ) (place : Place) (at to : ℕ) (tokens : List TokenView) → rest ≡ drop to whole
    → at ≤ to
    → to ≤ length whole
    → length whole ≤ at + n
    → (place.context ≡ CommentBody → ⊥) → is_line_start place.context ≡ begins_line whole at
    → IsGap (drop at whole) rest
    → begins_with is_white rest ≡ false
    → ((end : Place) → (end.context ≡ CommentBody → ⊥) → is_line_start end.context ≡ begins_line whole to
    → CutsFrom whole end to tokens)
    → CutsFrom whole place at tokens
walk zero whole rest place at to tokens is low high few inside line gap none go =
    let same : at ≡ to = omega (arith, low, high, few) in rw same (go place inside (rw (← same) line))
walk (suc n) whole rest place at to tokens is low high few inside line gap none go =
    elim (gap_step place.context gap.parts (drop at whole) rest inside gap.skips none) [
      | inl equal ↦
          let same : at ≡ to =
          omega (arith, low, high, length-drop at whole, ap length (equal ∙ is), length-drop to whole) in
          rw same (go place inside (rw (← same) line))
      | inr step ↦
          let cut = lexeme_sound place.context (drop at whole) (step.lexeme, step.n) step.found in
          let bytes : List ℕ = take step.n (drop at whole) in
          let none_here = no_token place.context at step.lexeme bytes step.other in
          let next : IsGap (drop (at + step.n) whole) rest = rw (← (drop-drop step.n at whole)) step.gap in
          let less = gap_length next.parts (drop (at + step.n) whole) rest next.skips in
          let end = ap length is ∙ length-drop to whole in
          cut_on whole place at (step.lexeme, step.n) tokens tokens cut (cc (none_here.0))
          (walk n whole rest (place_after place step.lexeme bytes) (at + step.n) to tokens is
          (omega (arith, cut.within, length-drop at whole, less, length-drop (at + step.n) whole, end, high, low)) high
          (omega (arith, few, step.some))
          none_here.1 (next_begins whole place at step.lexeme step.n line cut) next none go)
    ]

-- a token and what stands behind it

token_is : (context : Context) (token : TokenView) → token.first ≡ is_line_start context → 0 < length token.text
    → token.span.end ≡ token.span.start + length token.text
    → token ∷ [] ≡ token_of context token.span.start (Token token.sort) token.text
token_is context token line some size = grind arith

-- what the rest of the tokens needs
abbrev Next : List ℕ → List TokenView → Type 0
Next whole [] = Unit {0}
Next whole (token ∷ tokens) =
    (place : Place) → is_line_start place.context ≡ begins_line whole token.span.end
    → Balanced whole (due place.context token.span.end (drop token.span.end whole)) tokens
    → CutsFrom whole place token.span.end tokens

end_within : (whole : List ℕ) (token : TokenView) → IsWhole whole token → token.span.end ≤ length whole
end_within whole token w = omega (arith, w.some, w.size, w.longest.within, length-drop token.span.start whole)

token_step : (whole : List ℕ) (place : Place) (token : TokenView) (tokens : List TokenView) → IsWhole whole token
    → context_of token.sort token.first ≡ place.context
    → is_line_start place.context ≡ begins_line whole token.span.start → Balanced whole (body_due whole token) tokens
    → Next whole (token ∷ tokens)
    → CutsFrom whole place token.span.start (token ∷ tokens)
token_step whole place token tokens w context line balanced next =
    let at : ℕ = token.span.start in
    let n : ℕ = length token.text in
    let bytes : List ℕ = take n (drop at whole) in
    let cut : IsLexeme place.context (drop at whole) (Token token.sort) n = rw (← context) w.longest in
    let own = token_is place.context token (w.line ∙ sym line) w.some w.size
    ∙ ap (token_of place.context at (Token token.sort)) w.slice in
    let there : body_due whole token ≡ due (context_after (Token token.sort) bytes) token.span.end
    (drop token.span.end whole) =
    due_behind whole token.sort token.text token.span.end
    ∙ ap (λ (bs : List ℕ). due (context_after (Token token.sort) bs) token.span.end (drop token.span.end whole))
    w.slice in
    let begins = next_begins whole place at (Token token.sort) n line cut in
    cut_on whole place at (Token token.sort, n) tokens (token ∷ tokens) cut (ap (λ (ts : List TokenView). ts
    ++ tokens) own)
    (rw (← w.size) (next (place_after place (Token token.sort) bytes) (rw w.size begins) (rw (← there) balanced)))

before_is : (whole : List ℕ) (before : Option ℕ) (token : TokenView) (tokens : List TokenView)
    → Balanced whole before (token ∷ tokens)
    → (before ≡ body_here token) × Balanced whole (body_due whole token) tokens
before_is whole before token tokens e = (cc, cc)

other_context : (sort : Sort) (at : ℕ) (first : Bool) → None ≡ body_place sort at
    → context_of sort first ≡ (if first then LineStart else WithinLine)
other_context sort at first e = grind arith

inside_context : (context : Context) (first : Bool) → (context ≡ CommentBody → ⊥) → first ≡ is_line_start context
    → (if first then LineStart else WithinLine) ≡ context
inside_context context first inside e = grind arith

body_is : (sort : Sort) (at from : ℕ) (first : Bool) → Some at ≡ body_place sort from
    → (context_of sort first ≡ CommentBody) × (at ≡ from)
body_is sort at from first e = grind arith

no_white : (context : Context) (text : List ℕ) (sort : Sort) (n : ℕ) → (context ≡ CommentBody → ⊥)
    → lexeme_at context text ≡ Some (Token sort, n)
    → begins_with is_white text ≡ false
no_white context text sort n inside found = grind (arith, white_found)

-- from a place that is not behind the label of a comment
inside_from : (tokens : List TokenView) (whole : List ℕ) (place : Place) (at : ℕ) → at ≤ length whole
    → (place.context ≡ CommentBody → ⊥)
    → is_line_start place.context ≡ begins_line whole at → Balanced whole None tokens → StandInOrder at tokens
    → StandApart whole at tokens
    → All (IsWhole whole) tokens → Next whole tokens → CutsFrom whole place at tokens
inside_from [] whole place at le inside line balanced order apart w next =
    let size = drop_all (length whole) whole (omega arith) in
    walk (length whole) whole [] place at (length whole) [] (sym size) le (omega arith) (omega arith) inside line apart
    refl
    (λ end out there. record { lexemes = []; end = end; reached = (refl, size); done = out; exact = refl })
inside_from (token ∷ tokens) whole place at le inside line balanced order apart w next =
    let own = All-head (IsWhole whole) token tokens w in
    let parts = before_is whole None token tokens balanced in
    let other = other_context token.sort token.span.start token.first parts.0 in
    let plain : (context_of token.sort token.first ≡ CommentBody) → ⊥ = λ e. line_not token.first (sym other ∙ e) in
    let found = lexeme_is (context_of token.sort token.first) (drop token.span.start whole) (Token token.sort)
    (length token.text) own.longest in
    walk (length whole) whole (drop token.span.start whole) place at token.span.start (token ∷ tokens) refl order.0
    (omega (arith, end_within whole token own, order.1)) (omega arith) inside line apart.0
    (no_white (context_of token.sort token.first) (drop token.span.start whole) token.sort (length token.text) plain
    found)
    (λ here out there. token_step whole here token tokens own (other
    ∙ inside_context here.context token.first out (own.line ∙ sym there)) there parts.1 next)
  where
    line_not : (b : Bool) → (if b then LineStart else WithinLine) ≡ CommentBody → ⊥
    line_not b e = grind arith

-- from a place behind the label of a comment
behind_from : (tokens : List TokenView) (whole : List ℕ) (place : Place) (at : ℕ) → place.context ≡ CommentBody
    → at ≤ length whole
    → is_line_start place.context ≡ begins_line whole at
    → Balanced whole (due place.context at (drop at whole)) tokens → StandInOrder at tokens → StandApart whole at tokens
    → All (IsWhole whole) tokens → Next whole tokens → CutsFrom whole place at tokens
behind_from tokens whole place at here le line balanced order apart w next =
    by (is_body_empty (drop at whole)) refl (rw here at balanced)
  where
    filled : (tokens : List TokenView) → Balanced whole (Some at) tokens → All (IsWhole whole) tokens
        → Next whole tokens
        → CutsFrom whole place at tokens
    filled [] balanced w next = absurd (cc)
    filled (token ∷ tokens) balanced w next =
        let own = All-head (IsWhole whole) token tokens w in
        let parts = before_is whole (Some at) token tokens balanced in
        let body = body_is token.sort at token.span.start token.first parts.0 in
        rw body.1 (token_step whole place token tokens own (body.0 ∙ sym here) (rw (← body.1) line) parts.1 next)

    by : (b : Bool) → is_body_empty (drop at whole) ≡ b → Balanced whole (if b then None else Some at) tokens
        → CutsFrom whole place at tokens
    by false e balanced = filled tokens balanced w next
    by true e balanced =
        let found : lexeme_at place.context (drop at whole) ≡ Some (Token Body, 0) =
        rw here (grind (arith, nat_tests, empty_body (drop at whole))) in
        let behind : Place = place_after place (Token Body) [] in
        cut_on whole place at (Token Body, 0) tokens tokens
        (lexeme_sound place.context (drop at whole) (Token Body, 0) found) refl
        (rw (add-zero at) (inside_from tokens whole behind at le (λ k. absurd (cc)) (rw here at line) balanced order
        apart w next))

start_from : (tokens : List TokenView) (whole : List ℕ) (place : Place) (at : ℕ) → at ≤ length whole
    → is_line_start place.context ≡ begins_line whole at
    → Balanced whole (due place.context at (drop at whole)) tokens → StandInOrder at tokens → StandApart whole at tokens
    → All (IsWhole whole) tokens → Next whole tokens → CutsFrom whole place at tokens
start_from tokens whole place at le line balanced order apart w next = grind (arith, behind_from, apart, inside_from)

cut_from : (tokens : List TokenView) (whole : List ℕ) (place : Place) (at : ℕ) → at ≤ length whole
    → is_line_start place.context ≡ begins_line whole at
    → Balanced whole (due place.context at (drop at whole)) tokens → StandInOrder at tokens → StandApart whole at tokens
    → All (IsWhole whole) tokens → CutsFrom whole place at tokens
cut_from [] whole place at le line balanced order apart w =
    start_from [] whole place at le line balanced order apart w tt
cut_from (token ∷ tokens) whole place at le line balanced order apart w =
    start_from (token ∷ tokens) whole place at le line balanced order apart w
    (λ behind begins due_there. cut_from tokens whole behind token.span.end
    (end_within whole token (All-head (IsWhole whole) token tokens w)) begins due_there
    order.2 apart.1 (All-tail (IsWhole whole) token tokens w))

pub finished_tokens : (text : List ℕ) (tokens : List TokenView) → AreTokensOf text tokens → Cuts text tokens
finished_tokens text tokens h =
    grind (arith, cut_from tokens text start 0 (omega arith) refl h.bodies h.order h.apart h.whole)
