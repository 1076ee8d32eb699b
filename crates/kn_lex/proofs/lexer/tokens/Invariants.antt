use Rattle.std.proofs.Common.{◌≡◌, ◌≤◌, ◌-◌, length, drop, map, true, false}
use Rattle.kn_lex.specs.Faults.{goes_on}
use Rattle.kn_lex.specs.TokenViews.{token_view}
use Rattle.kn_lex.proofs.LexerStates.{IsReached, to_do}
use Rattle.kn_lex.proofs.lexer.tokens.Given as goal

abbrev pub invariant-loop-at : goal.invariant-loop-at
invariant-loop-at l =
    record {
      within : l.at ≤ length l.text;
      room : length l.text - l.at ≤ l.list.spare;
      reached : IsReached l.text l.place l.at (map token_view l.list.items);
      settled : l.settled ≡ true → goes_on false (drop l.at l.text) ≡ false;
    }

abbrev pub decreases-loop-at : goal.decreases-loop-at
decreases-loop-at l = to_do l.place.context (length l.text - l.at)
