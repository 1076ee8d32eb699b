-- The table of bytes says what begins with each.
use Rattle.std.proofs.Common.{◌≡◌, ℕ, ◌<◌, get_or, arith}
use Rattle.std.proofs.lemmas.List.FromFn.{get_or-map-range_with_len}
use Rattle.kn_lex.specs.Bytes.{kind_of}
use Rattle.kn_lex.specs.declared.bytes.Kind.TheVariants.{Space}
use Rattle.kn_lex.specs.declared.bytes.TheConstants.{KINDS}

pub kind_at : (byte : ℕ) → byte < 256 → get_or KINDS byte Space ≡ kind_of byte
kind_at byte below = get_or-map-range_with_len kind_of 0 256 byte byte Space below (omega arith)
