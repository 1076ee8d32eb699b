-- Texts that are printed one after the other, and bytes that are read one after the other.
use Rattle.std.proofs.Common.{◌≡◌, ℕ, ◌+◌, Bool, true, false, List, [], ◌++◌, length, take, drop, sym, ap}
use Rattle.std.proofs.Common.{◌∙◌, subst, length-append, arith, Option}
use Rattle.std.proofs.lemmas.List.{take-append-le}
use Rattle.std.proofs.Math.Seq.{take-add, take-append-add}
use Rattle.kn_outside.specs.Seen.{LinkSeen}
use Rattle.kn_outside.specs.SpecifiedBytes.{more}
use Rattle.kn_outside.specs.Faults.{Rose}
use Rattle.kn_outside.specs.Printing.{Writes, Prints}
use Rattle.kn_outside.proofs.Parts.{more_more, more_nothing}

-- one text and then another, both whole
pub writes_both : (a b : List ℕ) (l l' l'' : LinkSeen) → Writes true a l l' → Writes true b l' l''
    → Writes true (a ++ b) l l''
writes_both a b l l' l'' first second =
    second ∙ ap (λ (x : LinkSeen). record x { written = more b x.written }) first
    ∙ ap (λ (w : Option (List ℕ)). record l { written = w }) (more_more a b l.written)

-- a text that was printed whole, and then another one, whole or in part
pub prints_more : (whole : Bool) (a b : List ℕ) (l l' l'' : LinkSeen) → Prints true a l l' → Prints whole b l' l''
    → Prints whole (a ++ b) l l''
prints_more true a b l l' l'' p q =
    let first = p.later in
    let next = q.later in
    record { writes = writes_both a b l l' l'' p.writes q.writes; later = omega arith }
prints_more false a b l l' l'' p q =
    let cut = q.writes in
    let n = cut.0 in
    let part = cut.1 in
    let same : l'.faults ≡ l.faults = ap (λ (x : LinkSeen). x.faults) p.writes in
    let next = q.later in
    record {
      writes = (
        length a + n,
        rw (length-append a b) (omega arith),
        subst (λ (count : ℕ). Rose count l''.faults) same cut.2,
        cut.3 ∙ ap (λ (x : LinkSeen). record x { written = more (take n b) x.written; faults = l''.faults }) p.writes
            ∙ ap (λ (w : Option (List ℕ)). record l { written = w; faults = l''.faults })
            (more_more a (take n b) l.written
            ∙ ap (λ (t : List ℕ). more t l.written) (sym (take-append-add a b n))),
      );
      later = omega arith;
    }

-- a part of a text is a part of a longer one
pub prints_cut : (a b : List ℕ) (l l' : LinkSeen) → Prints false a l l' → Prints false (a ++ b) l l'
prints_cut a b l l' p =
    let cut = p.writes in
    let n = cut.0 in
    let part = cut.1 in
    record {
      writes = (
        n,
        rw (length-append a b) (omega arith),
        cut.2,
        cut.3 ∙ ap (λ (t : List ℕ). record l { written = more t l.written; faults = l'.faults })
            (sym (take-append-le n a b (omega arith))),
      );
      later = p.later;
    }

-- an empty text is written at once
pub writes_nothing : (l : LinkSeen) → Writes true [] l l
writes_nothing l = ap (λ (w : Option (List ℕ)). record l { written = w }) (more_nothing l.written)

-- what is written whole leaves the count of faults
pub prints_written : (text : List ℕ) (l l' : LinkSeen) → Writes true text l l' → Prints true text l l'
prints_written text l l' written =
    let count : l'.faults ≡ l.faults = ap (λ (x : LinkSeen). x.faults) written in
    record { writes = written; later = omega arith }

-- a front of a text and the next part of it
pub writes_parts : (text : List ℕ) (done n : ℕ) (l l' l'' : LinkSeen) → Writes true (take done text) l l'
    → Writes true (take n (drop done text)) l' l''
    → Writes true (take (done + n) text) l l''
writes_parts text done n l l' l'' first second =
    subst (λ (t : List ℕ). Writes true t l l'') (sym (take-add done n text))
    (writes_both (take done text) (take n (drop done text)) l l' l'' first second)
