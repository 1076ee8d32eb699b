-- The tokens of a text, or its first lexical fault, computed lexeme by lexeme. A law says that they are those of the
-- relations.
use Rattle.std.specs.Prelude.{ℕ, zero, suc, ◌+◌, ◌*◌, nat_lt, List, [], ◌++◌, length, take, drop, Option, Some, None}
use Rattle.std.specs.Prelude.{Result, Ok, Err, if◌then◌else◌}
use Rattle.kn_lex.specs.Cutting.{TokenView, start, place_after, token_of}
use Rattle.kn_lex.specs.Scanning.{lexeme_at, fault_at}
use Rattle.kn_lex.specs.declared.lexeme.Lexeme.{Lexeme}
use Rattle.kn_lex.specs.declared.lexeme.Place.{Place}
use Rattle.kn_lex.specs.declared.fault.LexFault.{LexFault}

-- a place's fault ends the text, and else its lexeme goes on
abbrev pub next_tokens : Option LexFault → Option (Lexeme × ℕ) → List TokenView
    → (Lexeme × ℕ → Result (List TokenView) LexFault)
    → Result (List TokenView) LexFault
next_tokens (Some fault) lexeme tokens go = Err fault
next_tokens None None tokens go = Ok tokens
next_tokens None (Some p) tokens go = go p

-- the tokens of a text of which these stand before a place, by so many lexemes at most
unfoldable pub tokens_from : ℕ → List ℕ → Place → ℕ → List TokenView → Result (List TokenView) LexFault
tokens_from zero text place at tokens = Ok tokens
tokens_from (suc lexemes) text place at tokens =
    if nat_lt at (length text) then
    next_tokens (fault_at place at (drop at text)) (lexeme_at place.context (drop at text)) tokens
    (λ p. tokens_from lexemes text (place_after place p.0 (take p.1 (drop at text))) (at + p.1)
    (tokens ++ token_of place.context at p.0 (take p.1 (drop at text))))
    else Ok tokens

-- the tokens of a text, or its first lexical fault
unfoldable pub tokens_or_fault : List ℕ → Result (List TokenView) LexFault
tokens_or_fault text = tokens_from (suc (2 * length text)) text start 0 []
