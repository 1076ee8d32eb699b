-- Bytes that are written one piece after the other.
use Rattle.std.proofs.Common.{ℕ, ◌+◌, List, [], ◌++◌, take, drop, sym, ap, ◌∙◌, append_assoc, append-nil, Option, Some}
use Rattle.std.proofs.Common.{None}
use Rattle.std.proofs.Math.Seq.{take-add}
use Rattle.std.specs.Io.KnownBytes.{Appends, Keeps}

-- nothing was written yet
pub write_nothing : (a : Option (List ℕ)) → Appends a a []
write_nothing None = tt
write_nothing (Some held) = sym (append-nil held)

-- one piece and then another
pub write_both : (a b c : Option (List ℕ)) (x y : List ℕ) → Appends a b x → Appends b c y → Appends a c (x ++ y)
write_both None b c x y first next = tt
write_both (Some held) None c x y first next = absurd first
write_both (Some held) (Some more) None x y first next = absurd next
write_both (Some held) (Some more) (Some most) x y first next = next ∙ ap (λ (l : List ℕ). l ++ y) first
    ∙ append_assoc held x y

-- what is kept gets nothing more
pub write_kept : (a b c : Option (List ℕ)) (x : List ℕ) → Appends a b x → Keeps b c → Appends a c x
write_kept None b c x first kept = tt
write_kept (Some held) None c x first kept = absurd first
write_kept (Some held) (Some more) None x first kept = absurd kept
write_kept (Some held) (Some more) (Some most) x first kept = kept ∙ first

-- a part of a text, and the next part of it
pub write_part : (a b c : Option (List ℕ)) (text : List ℕ) (k n : ℕ) → Appends a b (take k text)
    → Appends b c (take n (drop k text)) → Appends a c (take (k + n) text)
write_part a b c text k n first next =
    rw (take-add k n text) (write_both a b c (take k text) (take n (drop k text)) first next)
