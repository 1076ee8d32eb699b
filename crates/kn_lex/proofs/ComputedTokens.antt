-- What is computed of a text is its list of tokens, or its first fault.
use Rattle.std.proofs.Common.{◌≡◌, ℕ, ◌-◌, ◌≤◌, List, Result, Ok, Err, length, arith, refl, ap, subst}
use Rattle.std.proofs.lemmas.List.{length-drop}
use Rattle.kn_lex.specs.Cutting.{Cuts, start, tokens_of, TokenView}
use Rattle.kn_lex.specs.Faults.{IsFaultless, IsFirstLexicalFault}
use Rattle.kn_lex.specs.Computed.{tokens_or_fault}
use Rattle.kn_lex.specs.declared.fault.LexFault.{LexFault}
use Rattle.kn_lex.proofs.Order.{along}
use Rattle.kn_lex.proofs.LexerStates.{IsFinished, Tells, tokens_or_fault_tells}
use Rattle.kn_lex.proofs.LexerStates.{finished_cuts, finished_faultless, one_list, one_fault}

pub tokens_told : (text : List ℕ) (tokens : List TokenView) → tokens_or_fault text ≡ Ok tokens → Cuts text tokens
    × IsFaultless text
tokens_told text tokens e =
    let h : IsFinished text tokens = subst (Tells text) e (tokens_or_fault_tells text) in
    (finished_cuts text tokens h, finished_faultless text tokens h)

pub fault_told : (text : List ℕ) (fault : LexFault) → tokens_or_fault text ≡ Err fault → IsFirstLexicalFault text fault
fault_told text fault e = subst (Tells text) e (tokens_or_fault_tells text)

pub cuts_told : (text : List ℕ) (tokens : List TokenView) → Cuts text tokens × IsFaultless text
    → tokens_or_fault text ≡ Ok tokens
cuts_told text tokens h = by (tokens_or_fault text) refl
  where
    by : (r : Result (List TokenView) LexFault) → tokens_or_fault text ≡ r → r ≡ Ok tokens
    by (Ok list) e = ap Ok (one_list text list tokens (tokens_told text list e).0 h.0)
    by (Err fault) e = let first = fault_told text fault e in absurd (h.1 fault first.has)

pub first_told : (text : List ℕ) (fault : LexFault) → IsFirstLexicalFault text fault → tokens_or_fault text ≡ Err fault
first_told text fault h = by (tokens_or_fault text) refl
  where
    by : (r : Result (List TokenView) LexFault) → tokens_or_fault text ≡ r → r ≡ Err fault
    by (Ok list) e = let none = (tokens_told text list e).1 in absurd (none fault h.has)
    by (Err other) e = ap Err (one_fault text other fault (fault_told text other e) h)

-- a lexeme that is a token has a byte at least
pub fewer_tokens : (text : List ℕ) (tokens : List TokenView) → Cuts text tokens → length tokens ≤ length text
fewer_tokens text tokens h =
    let bound : length (tokens_of start 0 text h.lexemes) ≤ length text - 0 =
    along text (λ place at tokens. length tokens ≤ length text - at) (λ end at e. omega arith)
    (λ place at lexeme n left cut empty rest. omega (arith, rest))
    (λ place at sort n left cut some rest. omega (arith, some, rest, cut.within, length-drop at text))
    h.lexemes start 0 h.reached.0 h.reached.1 in
    rw h.exact (omega (arith, bound))
