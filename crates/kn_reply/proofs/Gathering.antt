-- A text that is gathered into few writes.
use Rattle.std.proofs.Common.{◌≡◌, ◌∙◌, ◌==◌, ◌&&◌, ℕ, Bool, true, false, not, nat_lt, List, [], ◌∷◌, ◌++◌, refl, sym}
use Rattle.std.proofs.Common.{ap, subst, append_assoc, append-nil, arith}
use Rattle.std.specs.Prelude.{length, codes, decimal, flat_map, if◌then◌else◌}
use Rattle.std.specs.List.{list_all}
use Rattle.kn_proof.specs.declared.named.NamedRow.{NamedRow}
use Rattle.kn_proof.specs.Texts.{quoted_byte, row_text, value_text}
use Rattle.kn_outside.specs.Seen.{LinkSeen}
use Rattle.kn_outside.specs.Printing.{Prints}
use Rattle.kn_outside.proofs.PrintLaws.{prints_more, prints_cut, writes_nothing}
use Rattle.kn_reply.specs.Gathering.{GatheredBy}
use Rattle.kn_reply.specs.Plain.{is_plain}

-- nothing was put
pub gathered_nothing : (seen : LinkSeen) → GatheredBy false [] [] seen seen
gathered_nothing seen = ([], refl, record { writes = writes_nothing seen; later = omega arith })

-- bytes were taken
pub gathered_more : (pending bytes text : List ℕ) (first seen : LinkSeen) → GatheredBy false pending text first seen
    → GatheredBy false (pending ++ bytes) (text ++ bytes) first seen
gathered_more pending bytes text first seen (written, same, printed) =
    (written, ap (λ (t : List ℕ). t ++ bytes) same ∙ append_assoc written pending bytes, printed)

-- after a failed write nothing changes
pub gathered_failed : (pending bytes text : List ℕ) (first seen : LinkSeen) → GatheredBy true pending text first seen
    → GatheredBy true pending (text ++ bytes) first seen
gathered_failed pending bytes text first seen printed = prints_cut text bytes first seen printed

-- what was pending was written
pub gathered_written : (pending text : List ℕ) (first seen seen' : LinkSeen) → GatheredBy false pending text first seen
    → Prints true pending seen seen' → GatheredBy false [] (text ++ []) first seen'
gathered_written pending text first seen seen' (written, same, printed) more = (
  written ++ pending,
  append-nil text ∙ same ∙ sym (append-nil (written ++ pending)),
  prints_more true written pending first seen seen' printed more,
)

pub gathered_cut : (pending items text : List ℕ) (first seen seen' : LinkSeen)
    → GatheredBy false pending text first seen → Prints false pending seen seen'
    → GatheredBy true items (text ++ []) first seen'
gathered_cut pending items text first seen seen' (written, same, printed) more =
    subst (λ (t : List ℕ). Prints false t first seen') (sym (append-nil text ∙ same))
    (prints_more false written pending first seen seen' printed more)

-- bytes were written where nothing was pending
pub gathered_direct : (bytes text : List ℕ) (first seen seen' : LinkSeen) → GatheredBy false [] text first seen
    → Prints true bytes seen seen' → GatheredBy false [] (text ++ bytes) first seen'
gathered_direct bytes text first seen seen' (written, same, printed) more =
    let all : text ≡ written = same ∙ append-nil written in (
      written ++ bytes,
      ap (λ (t : List ℕ). t ++ bytes) all ∙ sym (append-nil (written ++ bytes)),
      prints_more true written bytes first seen seen' printed more,
    )

pub gathered_direct_cut : (bytes items text : List ℕ) (first seen seen' : LinkSeen)
    → GatheredBy false [] text first seen → Prints false bytes seen seen'
    → GatheredBy true items (text ++ bytes) first seen'
gathered_direct_cut bytes items text first seen seen' (written, same, printed) more =
    let all : text ≡ written = same ∙ append-nil written in
    subst (λ (t : List ℕ). Prints false (t ++ bytes) first seen') (sym all)
    (prints_more false written bytes first seen seen' printed more)

-- all that was put is written
pub gathered_all : (text : List ℕ) (first seen : LinkSeen) → GatheredBy false [] text first seen
    → Prints true text first seen
gathered_all text first seen (written, same, printed) =
    subst (λ (t : List ℕ). Prints true t first seen) (sym (same ∙ append-nil written)) printed

-- the parts of the reply that gives a compliance value
pub value_parts : (text name : List ℕ) (rows : List NamedRow) (index version number count : ℕ) → number ≡ index
    → count ≡ length rows
    → ((((((((text ++ codes "VALUE ") ++ decimal number) ++ codes " ") ++ name) ++ codes " ")
    ++ ([] ++ decimal version ++ 32 ∷ decimal count ++ 10 ∷ [])) ++ flat_map row_text rows) ++ codes "END\n")
    ≡ text ++ value_text index name version rows
value_parts text name rows index version number count same all = rw (same, all) (simp append_assoc)

-- Bytes that stand for themselves.

plain_byte : (b : ℕ) → is_plain b ≡ true → quoted_byte b ≡ b ∷ []
plain_byte b = by (b == 34) (b == 92) (nat_lt b 32) (nat_lt 126 b) _ _ _ _ _
  where
    by : (p q r s : Bool) (v w x y z : List ℕ) → (not p && not q && not r && not s) ≡ true
        → (if p then v else if q then w else if r then x else if s then y else z) ≡ z
    by true q r s v w x y z e = cc
    by false true r s v w x y z e = cc
    by false false true s v w x y z e = cc
    by false false false true v w x y z e = cc
    by false false false false v w x y z e = refl

pub plain_text : (text : List ℕ) → list_all is_plain text ≡ true → flat_map quoted_byte text ≡ text
plain_text [] all = refl
plain_text (b ∷ text) all = by (is_plain b) refl all (plain_text text)
  where
    by : (t : Bool) → is_plain b ≡ t → (t && list_all is_plain text) ≡ true
        → (list_all is_plain text ≡ true → flat_map quoted_byte text ≡ text)
        → quoted_byte b ++ flat_map quoted_byte text ≡ b ∷ text
    by true is all more = ap (λ (q : List ℕ). q ++ flat_map quoted_byte text) (plain_byte b is)
        ∙ ap (λ (t : List ℕ). b ∷ t) (more all)
    by false is all more = cc
