-- What a reader gives whose rest is known.
use Rattle.std.proofs.Common.{ℕ, List, ◌++◌, sym, ap, ◌∙◌, append_assoc}
use Rattle.std.proofs.Common.{Option, Some, None}
use Rattle.std.specs.Io.KnownBytes.{Consumes}

-- one more piece is read
pub read_chunk : (a b c : Option (List ℕ)) (content piece : List ℕ) → Consumes a b content → Consumes b c piece
    → Consumes a c (content ++ piece)
read_chunk None b c content piece first last = tt
read_chunk (Some x) None c content piece first last = absurd first
read_chunk (Some x) (Some y) None content piece first last = absurd last
read_chunk (Some x) (Some y) (Some z) content piece first last = first ∙ ap (λ (l : List ℕ). content ++ l) last
    ∙ sym (append_assoc content piece z)
