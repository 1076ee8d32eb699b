use Rattle.std.proofs.Common.{map, ap, arith, ◌∙◌}
use Rattle.kn_lex.specs.TokenViews.{token_view}
use Rattle.kn_lex.proofs.LexerStates.{reached_step, reached_fault, has_cause}
use Rattle.kn_lex.proofs.LexerStates.{finished, finished_cuts, finished_faultless}
use Rattle.kn_lex.proofs.LexerStates.{one_list, smaller_step, settled_step}
use Rattle.kn_lex.proofs.Firsts.{zero_dropped}
use Rattle.kn_lex.proofs.lexer.tokens.Goals as goal

pub read_lexeme-requires-clause-no_zero : goal.read_lexeme-requires-clause-no_zero
read_lexeme-requires-clause-no_zero c none =
    rw c.split_at.ensures.back (zero_dropped _ _ (c.has_zero-has_zero.ensures none))

pub returns-in-Err-read_lexeme-clause-only : goal.returns-in-Err-read_lexeme-clause-only
returns-in-Err-read_lexeme-clause-only c tokens cuts faultless =
    let fault = rw c.split_at.ensures.back at c.in-Err-read_lexeme.ensures.err in
    absurd (faultless c.in-Err-read_lexeme.fault (reached_fault _ _ _ _ _ c.loop-at.invariant.reached fault).has)

pub returns-in-Err-read_lexeme-clause-stuck : goal.returns-in-Err-read_lexeme-clause-stuck
returns-in-Err-read_lexeme-clause-stuck c =
    let fault = rw c.split_at.ensures.back at c.in-Err-read_lexeme.ensures.err in
    has_cause _ _ (reached_fault _ _ _ _ _ c.loop-at.invariant.reached fault)

pub loop-at-smaller : goal.loop-at-smaller
loop-at-smaller c =
    smaller_step _ _ _ _ _ _ (c.in-Ok-read_lexeme.read.lexeme, c.in-Ok-read_lexeme.read.len) c.loop-at.invariant.within
    c.split_at.ensures.back c.in-Ok-read_lexeme.ensures.within
    c.split_at-in-loop-at.ensures.front c.in-Ok-read_lexeme.ensures.lexeme c.place_after-place.ensures

pub loop-at-preserved : goal.loop-at-preserved
loop-at-preserved c = record {
  within = omega (arith, c.in-Ok-read_lexeme.ensures.within);
  room = grind (arith, c.in-Ok-read_lexeme.ensures.within, c.push_token.ensures.room, c.loop-at.invariant.room);
  reached = reached_step _ _ _ _ _ _ _ _ (c.in-Ok-read_lexeme.read.lexeme, c.in-Ok-read_lexeme.read.len)
      c.loop-at.invariant.reached c.split_at.ensures.back
      c.split_at-in-loop-at.ensures.front c.in-Ok-read_lexeme.ensures.lexeme c.in-Ok-read_lexeme.ensures.clean
      c.push_token.ensures.pushed c.place_after-place.ensures;
  settled = λ s. settled_step _ _ _ _ (c.in-Ok-read_lexeme.read.lexeme, c.in-Ok-read_lexeme.read.len)
      c.split_at.ensures.back c.in-Ok-read_lexeme.ensures.lexeme (c.in-Ok-read_lexeme.ensures.settled s);
}

pub returns-clause-found : goal.returns-clause-found
returns-clause-found c =
    rw (c.of.ensures, c.finish.ensures)
    (finished_cuts _ _ (finished _ _ _ _ c.loop-at.invariant.reached c.loop-at-test.false))

pub returns-clause-faultless : goal.returns-clause-faultless
returns-clause-faultless c = finished_faultless _ _ (finished _ _ _ _ c.loop-at.invariant.reached c.loop-at-test.false)

pub returns-clause-only : goal.returns-clause-only
returns-clause-only c tokens cuts faultless =
    c.of.ensures ∙ ap (map token_view) c.finish.ensures
    ∙ one_list _ _ _ (finished_cuts _ _ (finished _ _ _ _ c.loop-at.invariant.reached c.loop-at-test.false)) cuts
