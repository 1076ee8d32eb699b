-- The lines that tell what stops a command, by their parts.
use Rattle.std.proofs.Common.{◌≡◌, ℕ, Bool, List, [], ◌++◌, subst, append_assoc}
use Rattle.std.specs.Prelude.{codes, decimal}
use Rattle.std.specs.Option.{unwrap_or}
use Rattle.kn_outside.specs.Seen.{LinkSeen}
use Rattle.kn_outside.specs.Printing.{Prints}
use Rattle.kn_fields.specs.declared.fault.ReadFault.{ReadFault}
use Rattle.kn_fields.specs.Numbers.{fault_number, fault_place}
use Rattle.kn_reply.specs.declared.refusal.LimitWord.{LimitWord}
use Rattle.kn_reply.specs.Replies.{word_text}
use Rattle.kn_inputs.specs.InputFaults.{policy_fault_line, limit_line, keys_line}
use Rattle.kn_endings.specs.AskEndings.{cut_line, block_line}

-- the same line, printed whole or in part
pub prints_line : (whole : Bool) (text line : List ℕ) (l l' : LinkSeen) → text ≡ line → Prints whole text l l'
    → Prints whole line l l'
prints_line whole text line l l' same prints = subst (λ (t : List ℕ). Prints whole t l l') same prints

-- the parts of a line, one after the other
abbrev pub parts_of : List ℕ → List ℕ → List ℕ → List ℕ → List ℕ → List ℕ
parts_of name first behind second third =
    codes "error policy "
    ++ (name ++ (codes " " ++ (first ++ (behind ++ (second ++ (codes " " ++ (third ++ (codes "\n" ++ []))))))))

pub fault_parts : (name a b p : List ℕ) (n : ℕ) (fault : ReadFault) → a ≡ decimal n
    → b ≡ decimal (unwrap_or (fault_number fault) 0) → p ≡ decimal (fault_place fault) →
    parts_of name a (codes " ") b p ≡ policy_fault_line name n fault
unfolding policy_fault_line
fault_parts name a b p n fault first second third = rw (first, second, third) (simp append_assoc)

pub limit_parts : (name a b p : List ℕ) (n : ℕ) (word : LimitWord) (count : ℕ) → a ≡ decimal n → b ≡ word_text word
    → p ≡ decimal count →
    parts_of name a (codes " limit ") b p ≡ limit_line name n word count
unfolding limit_line
limit_parts name a b p n word count first second third = rw (first, second, third) (simp append_assoc)

pub keys_parts : (a : List ℕ) (n : ℕ) → a ≡ decimal n → codes "error keys " ++ (a ++ (codes "\n" ++ [])) ≡ keys_line n
unfolding keys_line
keys_parts a n first = rw first (simp append_assoc)

pub cut_parts : (a : List ℕ) (n : ℕ) → a ≡ decimal n → codes "error link cut " ++ (a ++ (codes "\n" ++ [])) ≡ cut_line n
unfolding cut_line
cut_parts a n first = rw first (simp append_assoc)

pub block_parts : (a : List ℕ) (n : ℕ) → a ≡ decimal n
    → codes "error link block " ++ (a ++ (codes "\n" ++ [])) ≡ block_line n
unfolding block_line
block_parts a n first = rw first (simp append_assoc)
