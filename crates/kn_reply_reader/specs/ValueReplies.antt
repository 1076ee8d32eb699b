-- A VALUE reply at the front of bytes (keynoted's own).
use Rattle.std.specs.Prelude.{ℕ, ◌≡◌, ◌≢◌, List, ◌++◌, codes, flat_map, All}
use Rattle.kn_proof.specs.declared.reply.ReadReply.{ReadReply}
use Rattle.kn_proof.specs.Lines.{IsLine}
use Rattle.kn_proof.specs.Reading.{IsReplyText}

-- a whole line that isn't END
pub record IsOtherLine (line : List ℕ) : Type 0 where
  pub whole : IsLine line
  pub other : line ≢ codes "END\n"

-- bytes that are such lines
pub record AreOtherLines (bytes : List ℕ) : Type 0 where
  pub lines : List (List ℕ)
  pub each : All IsOtherLine lines
  pub joined : bytes ≡ flat_map (λ line. line) lines

-- the bytes through the first line END of a text, and those behind it
pub record IsThroughEnd (text reply rest : List ℕ) : Type 0 where
  pub before : List ℕ
  pub others : AreOtherLines before
  pub ends : reply ≡ before ++ codes "END\n"
  pub cut : text ≡ reply ++ rest

-- the text of this reply stands at the front of bytes, and these are left behind it
pub record IsValueAt (left : List ℕ) (reply : ReadReply) (rest : List ℕ) : Type 0 where
  pub text : List ℕ
  pub read : IsReplyText text reply
  pub cut : left ≡ text ++ rest
