-- No reply's text begins another's.
use Rattle.std.specs.Prelude.{ℕ, ◌≡◌, ◌<◌, ◌^◌, List, length}
use Rattle.kn_reply.specs.Replies.{Reply, reply_text}
use Rattle.kn_reply_reader.specs.Texts.{BeginsWith}

-- bytes that code may hold begin with the text of one reply at most, so that what is left behind it is one thing
abbrev pub RepliesAreApart : Type 0
RepliesAreApart = (left : List ℕ) (reply other : Reply) → length left < 2 ^ 64
    → BeginsWith left reply → BeginsWith left other → reply_text reply ≡ reply_text other
