use Rattle.std.proofs.Common.{◌≡◌, ◌≤◌, ◌-◌, drop, length}
use Rattle.kn_lex.specs.Scanning.{quote_len, more_len}
use Rattle.kn_lex.specs.declared.quote.Quote.TheVariants.{Opening}
use Rattle.kn_lex.proofs.quote.quote_len.Given as goal

-- what was passed counts with what is left
abbrev pub invariant-loop-at : goal.invariant-loop-at
invariant-loop-at l = record {
  within : l.at ≤ length l.rest;
  counted : quote_len Opening l.rest ≡ more_len l.at (quote_len l.quote (drop l.at l.rest));
}

abbrev pub decreases-loop-at : goal.decreases-loop-at
decreases-loop-at l = length l.rest - l.at
