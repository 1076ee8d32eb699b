-- Each token among clean lexemes is one of the text.
use Rattle.std.proofs.Common.{◌≡◌, ◌<◌, ◌⊎◌, ◌++◌, Option, Some, ℕ, true, false, Bool, ◌+◌, ◌≤◌, inr, List, [], ◌∷◌}
use Rattle.std.proofs.Common.{None, length, take, drop, arith, refl, subst}
use Rattle.std.specs.Prelude.{All, nat_lt}
use Rattle.std.proofs.lemmas.List.{length-drop, length-take-le}
use Rattle.std.proofs.lemmas.List.Elements.{All-nil, All-cons}
use Rattle.std.proofs.lemmas.Bool.Decides.{nat_tests}
use Rattle.kn_base.specs.declared.limits.TheConstants.{WHOLE_NUMBER}
use Rattle.kn_base.specs.Decimal.{digits_value}
use Rattle.kn_lex.specs.Spelling.{Spells}
use Rattle.kn_lex.specs.Cutting.{IsLexeme, is_token, Cuts, TokenView, start, place_after, token_of}
use Rattle.kn_lex.specs.Faults.{Shows, IsFaultless, begins_fraction}
use Rattle.kn_lex.specs.Scanning.{fault_at}
use Rattle.kn_lex.specs.TokenFacts.{IsSpelled, IsTokenOf}
use Rattle.kn_lex.specs.declared.token.Sort.{Sort}
use Rattle.kn_lex.specs.declared.token.Sort.TheVariants.{Number as NumberSort}
use Rattle.kn_lex.specs.declared.lexeme.Lexeme.{Lexeme}
use Rattle.kn_lex.specs.declared.lexeme.Lexeme.TheVariants.{Token}
use Rattle.kn_lex.specs.declared.lexeme.Place.{Place}
use Rattle.kn_lex.specs.declared.lexeme.Context.{Context}
use Rattle.kn_lex.specs.declared.fault.LexFault.{LexFault}
use Rattle.kn_lex.specs.declared.fault.LexFault.TheVariants.{Float, Number}
use Rattle.kn_lex.proofs.PlaceFaults.{Least, shown_least}
use Rattle.kn_lex.proofs.Order.{along, made}
use Rattle.kn_lex.proofs.Lexemes.{lexeme_is}
use Rattle.kn_lex.proofs.LexerStates.{IsReached, reached_start, reached_more, reached_fault}

-- no place that clean lexemes reach shows a fault where the text has none
clean_at : (text : List ℕ) (place : Place) (at : ℕ) (tokens : List TokenView) → IsFaultless text
    → IsReached text place at tokens
    → fault_at place at (drop at text) ≡ None
clean_at text place at tokens faultless h = by (fault_at place at (drop at text)) refl
  where
    by : (o : Option LexFault) → fault_at place at (drop at text) ≡ o → o ≡ None
    by None e = refl
    by (Some fault) e = absurd (faultless fault (reached_fault text place at tokens fault h e).has)

-- a number that shows no fault is not too large
number_bound : (place : Place) (at : ℕ) (left : List ℕ) (n : ℕ) → IsLexeme place.context left (Token NumberSort) n
    → fault_at place at left ≡ None
    → digits_value (take n left) ≤ WHOLE_NUMBER
number_bound place at left n cut clean =
    by (nat_lt WHOLE_NUMBER (digits_value (take n left))) refl (begins_fraction (drop n left)) refl
  where
    none : (fault : LexFault) → Shows place at left fault → ⊥
    none fault shown = subst (Least fault) clean (shown_least place at left fault shown)

    by : (b : Bool) → nat_lt WHOLE_NUMBER (digits_value (take n left)) ≡ b → (f : Bool)
        → begins_fraction (drop n left) ≡ f
        → digits_value (take n left) ≤ WHOLE_NUMBER
    by false b f e = grind (arith, nat_tests)
    by true b true e = absurd (none (Float at) (refl, inr (record { n = n; cut = cut; shown = e })))
    by true b false e =
        absurd (none (Number at) (refl, record { n = n; cut = cut; shown = (e, grind (arith, nat_tests)) }))

lexeme_spelled : (context : Context) (sort : Sort) (bytes : List ℕ) → Spells context (Token sort) bytes
    → (sort ≡ NumberSort → digits_value bytes ≤ WHOLE_NUMBER)
    → IsSpelled sort bytes
lexeme_spelled context sort bytes s b = grind arith

pub token_facts : (text : List ℕ) (tokens : List TokenView) → Cuts text tokens → IsFaultless text
    → All (IsTokenOf text) tokens
token_facts text tokens h faultless =
    rw h.exact (along text Tokens (λ end at e list reached. All-nil (IsTokenOf text)) skip token h.lexemes start 0
    h.reached.0 h.reached.1 [] (reached_start text))
  where
    Tokens : Place → ℕ → List TokenView → Type 0
    Tokens place at tokens = (list : List TokenView) → IsReached text place at list → All (IsTokenOf text) tokens

    more : (place : Place) (at : ℕ) (lexeme : Lexeme) (n : ℕ) (list : List TokenView)
        → IsLexeme place.context (drop at text) lexeme n
        → IsReached text place at list
        → IsReached text (place_after place lexeme (take n (drop at text))) (at + n)
        (list ++ token_of place.context at lexeme (take n (drop at text)))
    more place at lexeme n list cut reached =
        reached_more text place at list _ (lexeme, n) reached (lexeme_is place.context (drop at text) lexeme n cut)
        (clean_at text place at list faultless reached) refl

    skip : (place : Place) (at : ℕ) (lexeme : Lexeme) (n : ℕ) (left : List TokenView)
        → IsLexeme place.context (drop at text) lexeme n
        → (is_token lexeme ≡ false) ⊎ (n ≡ 0) → Tokens (place_after place lexeme (take n (drop at text))) (at + n) left
        → Tokens place at left
    skip place at lexeme n left cut empty rest list reached = rest _ (more place at lexeme n list cut reached)

    token : (place : Place) (at : ℕ) (sort : Sort) (n : ℕ) (left : List TokenView)
        → IsLexeme place.context (drop at text) (Token sort) n → 0 < n
        → Tokens (place_after place (Token sort) (take n (drop at text))) (at + n) left
        → Tokens place at (made place.context at sort (take n (drop at text)) ∷ left)
    token place at sort n left cut some rest list reached =
        let size : length (take n (drop at text)) ≡ n = length-take-le n (drop at text) cut.within in
        All-cons (IsTokenOf text) (made place.context at sort (take n (drop at text))) left
        (record {
          some = omega arith;
          size = refl;
          within = omega (arith, size, length-drop at text, cut.within, some);
          slice = rw size refl;
          spelled = lexeme_spelled place.context sort _ cut.spelled
              (λ same. number_bound place at (drop at text) n (rw (← same) cut)
              (clean_at text place at list faultless reached));
        })
        (rest _ (more place at (Token sort) n list cut reached))
