-- Where only white space and comments are left, so it stays behind each lexeme.
use Rattle.std.proofs.Common.{◌≡◌, ℕ, true, false, Bool, List, [], ◌∷◌, Some, drop, arith, refl}
use Rattle.std.proofs.lemmas.Bool.Decides.{nat_tests}
use Rattle.kn_lex.specs.Faults.{goes_on}
use Rattle.kn_lex.specs.Scanning.{white_len, line_len, body_len, plain_lexeme, lexeme_at}
use Rattle.kn_lex.specs.declared.lexeme.Lexeme.{Lexeme}
use Rattle.kn_lex.specs.declared.lexeme.Context.{Context}
use Rattle.kn_lex.proofs.Scans.{drop_next}

settled_body : (rest : List ℕ) (commented : Bool) → goes_on commented rest ≡ false
    → goes_on false (drop (body_len rest) rest) ≡ false
unfolding body_len
settled_body [] commented e = refl
settled_body (c ∷ cs) commented e = grind (arith, nat_tests, settled_body cs true, settled_body cs false, drop_next)

settled_line : (rest : List ℕ) → goes_on true rest ≡ false → goes_on false (drop (line_len rest) rest) ≡ false
settled_line [] e = refl
settled_line (c ∷ cs) e = grind (arith, nat_tests, settled_line cs, drop_next)

settled_white : (rest : List ℕ) → goes_on false rest ≡ false → goes_on false (drop (white_len rest) rest) ≡ false
unfolding white_len
settled_white [] e = refl
settled_white (c ∷ cs) e = grind (arith, nat_tests, settled_white cs, drop_next)

-- where nothing goes on a lexeme is white space or a comment
settled_plain : (first : Bool) (rest : List ℕ) (p : Lexeme × ℕ) → plain_lexeme first rest ≡ Some p
    → goes_on false rest ≡ false
    → goes_on false (drop p.1 rest) ≡ false
unfolding plain_lexeme
settled_plain first rest p found e = grind (arith, nat_tests, settled_white, settled_line, drop_next)

pub settled_stays : (context : Context) (rest : List ℕ) (p : Lexeme × ℕ) → lexeme_at context rest ≡ Some p
    → goes_on false rest ≡ false
    → goes_on false (drop p.1 rest) ≡ false
settled_stays context rest p found e = grind (arith, settled_plain, settled_body)
