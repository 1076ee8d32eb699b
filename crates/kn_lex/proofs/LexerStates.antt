-- What the lexer knows at a place that it has reached.
use Rattle.std.proofs.Common.{◌≡◌, ℕ, true, false, zero, suc, Bool, ◌+◌, ◌-◌, ◌*◌, ◌<◌, ◌≤◌, ◌⊎◌, inl, inr, List, []}
use Rattle.std.proofs.Common.{◌++◌, Option, Some, None, Result, Ok, Err, length, take, drop, arith, refl, sym, add-zero}
use Rattle.std.specs.Prelude.{nat_lt}
use Rattle.std.proofs.lemmas.Bool.Decides.{nat_tests}
use Rattle.std.proofs.lemmas.List.{length-drop, drop_all, drop-drop, append-nil}
use Rattle.kn_lex.specs.Spelling.{Spells}
use Rattle.kn_lex.specs.Cutting.{IsLexeme, Reaches, Cuts, start, lexeme_bytes, place_after, context_after, token_of}
use Rattle.kn_lex.specs.Cutting.{tokens_of}
use Rattle.kn_lex.specs.Cutting.{TokenView}
use Rattle.kn_lex.specs.Faults.{goes_on, IsFaultless, IsFirstLexicalFault}
use Rattle.kn_lex.specs.Scanning.{lexeme_at, fault_at, stuck_fault, body_len}
use Rattle.kn_lex.specs.TokenViews.{HasCause}
use Rattle.kn_lex.specs.declared.token.Sort.TheVariants.{Body}
use Rattle.kn_lex.specs.declared.lexeme.Lexeme.TheVariants.{Token}
use Rattle.kn_lex.specs.declared.lexeme.Lexeme.{Lexeme}
use Rattle.kn_lex.specs.declared.lexeme.Place.{Place}
use Rattle.kn_lex.specs.declared.lexeme.Context.{Context}
use Rattle.kn_lex.specs.declared.lexeme.Context.TheVariants.{LineStart, WithinLine, CommentBody}
use Rattle.kn_lex.specs.declared.fault.LexFault.{LexFault}
use Rattle.kn_lex.specs.Computed.{next_tokens, tokens_from, tokens_or_fault}
use Rattle.kn_lex.proofs.ScannedLengths.{choice, lexeme_some}
use Rattle.kn_lex.proofs.Lexemes.{lexeme_sound}
use Rattle.kn_lex.proofs.PlaceFaults.{fault_shown}
use Rattle.kn_lex.proofs.BlankToEnd.{settled_stays}
use Rattle.kn_lex.proofs.OneLexing.{IsClean, one_more, through, least_behind, none_behind, one_cutting, end_clean}

-- clean lexemes reach this place, and these are their tokens
pub record IsReached (text : List ℕ) (place : Place) (at : ℕ) (tokens : List TokenView) : Type 0 where
  pub lexemes : List (Lexeme × ℕ)
  pub reached : Reaches start text lexemes place (drop at text)
  pub size : lexeme_bytes lexemes ≡ at
  pub clean : IsClean start 0 text lexemes
  pub exact : tokens ≡ tokens_of start 0 text lexemes

-- how much is left to do: two for each byte, and one for the body of a comment
abbrev pub to_do : Context → ℕ → ℕ
to_do LineStart n = 2 * n
to_do WithinLine n = 2 * n
to_do CommentBody n = 2 * n + 1

pub reached_start : (text : List ℕ) → IsReached text start 0 []
reached_start text = record { lexemes = []; reached = (refl, refl); size = refl; clean = tt; exact = refl }

-- one more clean lexeme
pub reached_more : (text : List ℕ) (place : Place) (at : ℕ) (tokens more : List TokenView) (p : Lexeme × ℕ)
    → IsReached text place at tokens
    → lexeme_at place.context (drop at text) ≡ Some p → fault_at place at (drop at text) ≡ None
    → more ≡ tokens ++ token_of place.context at p.0 (take p.1 (drop at text))
    → IsReached text (place_after place p.0 (take p.1 (drop at text))) (at + p.1) more
reached_more text place at tokens more p h found clean exact = grind (arith, one_more, lexeme_sound, drop-drop)

-- the fault that this place shows is the first one
pub reached_fault : (text : List ℕ) (place : Place) (at : ℕ) (tokens : List TokenView) (fault : LexFault)
    → IsReached text place at tokens
    → fault_at place at (drop at text) ≡ Some fault → IsFirstLexicalFault text fault
reached_fault text place at tokens fault h e = grind (arith, fault_shown, through, least_behind)

pub has_cause : (text : List ℕ) (fault : LexFault) → IsFirstLexicalFault text fault → HasCause text fault
has_cause text fault h = grind arith

-- the whole text is cut into clean lexemes
pub record IsFinished (text : List ℕ) (tokens : List TokenView) : Type 0 where
  pub lexemes : List (Lexeme × ℕ)
  pub end : Place
  pub reached : Reaches start text lexemes end []
  pub done : end.context ≡ CommentBody → ⊥
  pub clean : IsClean start 0 text lexemes
  pub exact : tokens ≡ tokens_of start 0 text lexemes

finished_here : (text : List ℕ) (place : Place) (at : ℕ) (tokens : List TokenView) → IsReached text place at tokens
    → drop at text ≡ []
    → (place.context ≡ CommentBody → ⊥) → IsFinished text tokens
finished_here text place at tokens h e n = grind arith

-- at the end an empty body may still come
body_last : (text : List ℕ) (has_token : Bool) (at : ℕ) (tokens : List TokenView)
    → IsReached text (record { context = CommentBody; has_token = has_token }) at tokens
    → drop at text ≡ [] → IsFinished text tokens
unfolding body_len
body_last text has_token at tokens h e =
    let place : Place = record { context = CommentBody; has_token = has_token } in
    let found : lexeme_at CommentBody (drop at text) ≡ Some (Token Body, 0) = rw e refl in
    let clean : fault_at place at (drop at text) ≡ None = rw e (end_clean CommentBody has_token at) in
    let nothing : tokens ≡ tokens ++ token_of CommentBody at (Token Body) (take 0 (drop at text)) =
    sym (append-nil tokens) in
    let more = reached_more text place at tokens tokens (Token Body, 0) h found clean nothing in
    let rest : drop (at + 0) text ≡ [] = rw (add-zero at) e in
    finished_here text (place_after place (Token Body) (take 0 (drop at text))) (at + 0) tokens more rest
    (λ k. within_line k)
  where
    within_line : WithinLine ≡ CommentBody → ⊥
    within_line k = absurd (cc)

finished_at : (text : List ℕ) (context : Context) (has_token : Bool) (at : ℕ) (tokens : List TokenView)
    → IsReached text (record { context = context; has_token = has_token }) at tokens
    → drop at text ≡ [] → IsFinished text tokens
finished_at text LineStart has_token at tokens h e =
    finished_here text (record { context = LineStart; has_token = has_token }) at tokens h e (λ k. absurd (cc))
finished_at text WithinLine has_token at tokens h e =
    finished_here text (record { context = WithinLine; has_token = has_token }) at tokens h e (λ k. absurd (cc))
finished_at text CommentBody has_token at tokens h e = body_last text has_token at tokens h e

pub finished : (text : List ℕ) (place : Place) (at : ℕ) (tokens : List TokenView) → IsReached text place at tokens
    → length text ≤ at
    → IsFinished text tokens
finished text place at tokens h le = finished_at text place.context place.has_token at tokens h (drop_all at text le)

pub finished_cuts : (text : List ℕ) (tokens : List TokenView) → IsFinished text tokens → Cuts text tokens
finished_cuts text tokens h = record { lexemes = h.lexemes; reached = (h.end, h.reached, h.done); exact = h.exact }

pub finished_faultless : (text : List ℕ) (tokens : List TokenView) → IsFinished text tokens → IsFaultless text
finished_faultless text tokens h fault o =
    let on = through h.lexemes start 0 text h.end [] o.lexemes o.place o.left fault (lexeme_bytes o.lexemes) h.reached
    h.clean
    o.reached (omega arith) o.shown in
    none_behind on.0 h.end (0 + lexeme_bytes h.lexemes) o.place o.left fault (lexeme_bytes o.lexemes) h.done on.1 on.2
    o.shown

-- one list of tokens at most cuts a text
pub one_list : (text : List ℕ) (tokens other : List TokenView) → Cuts text tokens → Cuts text other → tokens ≡ other
one_list text tokens other h k = grind (arith, one_cutting)

-- each lexeme leaves less to do

some_of : (context : Context) (rest : List ℕ) (p : Lexeme × ℕ) → IsLexeme context rest p.0 p.1
    → (Spells context p.0 [] → ⊥) → 0 < p.1
some_of context rest p h none = grind arith

to_do_bound : (context : Context) (n : ℕ) → to_do context n ≤ 2 * n + 1
to_do_bound context n = grind arith

pub less_to_do : (context : Context) (has_token : Bool) (rest : List ℕ) (p : Lexeme × ℕ) (n m : ℕ)
    → lexeme_at context rest ≡ Some p → n + p.1 ≡ m
    → to_do (place_after (record { context = context; has_token = has_token }) p.0 (take p.1 rest)).context n
    < to_do context m
less_to_do LineStart has_token rest p n m found e =
    let some = some_of LineStart rest p (lexeme_sound LineStart rest p found) (lexeme_some true p.0) in
    omega (arith, some, to_do_bound (context_after p.0 (take p.1 rest)) n, e)
less_to_do WithinLine has_token rest p n m found e =
    let some = some_of WithinLine rest p (lexeme_sound WithinLine rest p found) (lexeme_some false p.0) in
    omega (arith, some, to_do_bound (context_after p.0 (take p.1 rest)) n, e)
less_to_do CommentBody has_token rest p n m found e = grind arith

-- the step that the lexer makes
pub reached_step : (text rest bytes : List ℕ) (place next : Place) (at : ℕ) (tokens more : List TokenView)
    (p : Lexeme × ℕ)
    → IsReached text place at tokens
    → rest ≡ drop at text → bytes ≡ take p.1 rest → lexeme_at place.context rest ≡ Some p
    → fault_at place at rest ≡ None
    → more ≡ tokens ++ token_of place.context at p.0 bytes → next ≡ place_after place p.0 bytes
    → IsReached text next (at + p.1) more
reached_step text rest bytes place next at tokens more p h back front found clean exact then_place =
    grind (arith, reached_more)

pub smaller_step : (text rest bytes : List ℕ) (place next : Place) (at : ℕ) (p : Lexeme × ℕ) → at ≤ length text
    → rest ≡ drop at text
    → p.1 ≤ length rest
    → bytes ≡ take p.1 rest → lexeme_at place.context rest ≡ Some p → next ≡ place_after place p.0 bytes
    → to_do next.context (length text - (at + p.1)) < to_do place.context (length text - at)
smaller_step text rest bytes place next at p le back within front found next_is =
    grind (
      arith,
      length-drop at text,
      less_to_do place.context place.has_token rest p (length text - (at + p.1)) (length text - at) found,
    )

pub settled_step : (text rest : List ℕ) (context : Context) (at : ℕ) (p : Lexeme × ℕ) → rest ≡ drop at text
    → lexeme_at context rest ≡ Some p
    → goes_on false rest ≡ false → goes_on false (drop (at + p.1) text) ≡ false
settled_step text rest context at p back found e =
    rw (← drop-drop p.1 at text, ← back) (settled_stays context rest p found e)

stuck_some : (at : ℕ) (bytes : List ℕ) → 0 < length bytes → stuck_fault at bytes ≡ None → ⊥
unfolding stuck_fault
stuck_some at bytes some e = grind arith

-- where something is left a fault is shown, or a lexeme begins
fault_or_lexeme : (place : Place) (at : ℕ) (left : List ℕ) → 0 < length left → fault_at place at left ≡ None
    → lexeme_at place.context left ≡ None → ⊥
fault_or_lexeme place at left some clean none = grind (arith, stuck_some)

-- the answer is the text's
abbrev pub Tells : List ℕ → Result (List TokenView) LexFault → Type 0
Tells text (Ok tokens) = IsFinished text tokens
Tells text (Err fault) = IsFirstLexicalFault text fault

told_from : (fuel : ℕ) (text : List ℕ) (place : Place) (at : ℕ) (tokens : List TokenView)
    → IsReached text place at tokens
    → at ≤ length text
    → to_do place.context (length text - at) < fuel → Tells text (tokens_from fuel text place at tokens)
unfolding tokens_from
told_from zero text place at tokens h le few = absurd (omega arith)
told_from (suc fuel) text place at tokens h le few =
    choice (Tells text) (nat_lt at (length text)) _ _
    (λ b. step (grind (arith, nat_tests)) (fault_at place at left) refl (lexeme_at place.context left) refl _
    (λ p. told_from fuel text (place_after place p.0 (take p.1 left)) (at + p.1)
    (tokens ++ token_of place.context at p.0 (take p.1 left))))
    (λ b. finished text place at tokens h (grind (arith, nat_tests)))
  where
    left : List ℕ
    left = drop at text

    step : at < length text → (o : Option LexFault) → fault_at place at left ≡ o → (q : Option (Lexeme × ℕ))
        → lexeme_at place.context left ≡ q
        → (go : Lexeme × ℕ → Result (List TokenView) LexFault)
        → ((p : Lexeme × ℕ)
        → IsReached text (place_after place p.0 (take p.1 left)) (at + p.1)
        (tokens ++ token_of place.context at p.0 (take p.1 left))
        → at + p.1 ≤ length text → to_do (place_after place p.0 (take p.1 left)).context (length text - (at + p.1))
        < fuel → Tells text (go p))
        → Tells text (next_tokens o q tokens go)
    step below (Some fault) e q f go rest = reached_fault text place at tokens fault h e
    step below None e None f go rest =
        absurd (fault_or_lexeme place at left (omega (arith, length-drop at text, below)) e f)
    step below None e (Some p) f go rest =
        let within : p.1 ≤ length left = (lexeme_sound place.context left p f).within in
        let size : length left ≡ length text - at = length-drop at text in
        let sum : (length text - (at + p.1)) + p.1 ≡ length text - at = omega (arith, within, size, below) in
        let less = less_to_do place.context place.has_token left p (length text - (at + p.1))
        (length text - at) f sum in
        rest p (reached_more text place at tokens _ p h f e refl) (omega (arith, within, size, below))
        (omega (arith, less, few))

pub tokens_or_fault_tells : (text : List ℕ) → Tells text (tokens_or_fault text)
unfolding tokens_or_fault
tokens_or_fault_tells text = told_from (suc (2 * length text)) text start 0 [] (reached_start text) (omega arith)
    (omega arith)

-- every text is cut into clean lexemes or has a first fault
pub every_cutting : (text : List ℕ) → ((list : List TokenView) × IsFinished text list)
    ⊎ ((fault : LexFault) × IsFirstLexicalFault text fault)
every_cutting text = by (tokens_or_fault text) (tokens_or_fault_tells text)
  where
    by : (r : Result (List TokenView) LexFault) → Tells text r
        → ((list : List TokenView) × IsFinished text list) ⊎ ((fault : LexFault) × IsFirstLexicalFault text fault)
    by (Ok list) h = inl (list, h)
    by (Err fault) h = inr (fault, h)

pub every_text : (text : List ℕ) → ((list : List TokenView) × Cuts text list × IsFaultless text)
    ⊎ ((fault : LexFault) × IsFirstLexicalFault text fault)
every_text text =
    elim (every_cutting text) [
      | inl h ↦ inl (h.0, finished_cuts text h.0 h.1, finished_faultless text h.0 h.1)
      | inr h ↦ inr h
    ]

pub one_fault : (text : List ℕ) (fault other : LexFault) → IsFirstLexicalFault text fault
    → IsFirstLexicalFault text other → fault ≡ other
one_fault text fault other h k =
    elim (h.least other k.has) [
      | inl below ↦ elim (k.least fault h.has)
          [ inl above ↦ absurd (omega (arith, below, above)) | inr same ↦ sym same ]
      | inr same ↦ same
    ]
