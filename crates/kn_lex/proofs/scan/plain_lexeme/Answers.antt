use Rattle.std.proofs.Common.{rules, sym, ◌∙◌, ap, Some}
use Rattle.kn_lex.specs.declared.bytes.Kind.TheVariants.{Hash, Numeral, Quote}
use Rattle.kn_lex.specs.declared.lexeme.Lexeme.TheVariants.{Comment, Token}
use Rattle.kn_lex.specs.declared.token.Sort.TheVariants.{Number}
use Rattle.kn_lex.proofs.Lexemes.{plain_lexeme_of}
use Rattle.kn_lex.proofs.scan.plain_lexeme.Goals as goal

pub returns-in-Hash-clause-lexeme : goal.returns-in-Hash-clause-lexeme
returns-in-Hash-clause-lexeme c =
    ap (λ n. Some (Comment, n)) c.line_len.ensures.len
    ∙ sym (plain_lexeme_of _ _ Hash (search rules) (sym c.kind_of.ensures ∙ c.in-Hash.is))

pub returns-in-Numeral-clause-lexeme : goal.returns-in-Numeral-clause-lexeme
returns-in-Numeral-clause-lexeme c =
    ap (λ n. Some (Token Number, n)) c.run_len-in-Numeral.ensures.len
    ∙ sym (plain_lexeme_of _ _ Numeral (search rules) (sym c.kind_of.ensures ∙ c.in-Numeral.is))

pub returns-in-Quote-clause-lexeme : goal.returns-in-Quote-clause-lexeme
returns-in-Quote-clause-lexeme c =
    c.with_sort.ensures
    ∙ rw c.quote_len.ensures.len
    (sym (plain_lexeme_of _ _ Quote (search rules) (sym c.kind_of.ensures ∙ c.in-Quote.is)))
