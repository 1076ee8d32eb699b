-- What calls on a link take and write, one after the other.
use Rattle.std.proofs.Common.{◌≡◌, ℕ, true, false, List, [], ◌++◌, take, sym, ap, ◌∙◌, arith}
use Rattle.kn_outside.specs.Seen.{LinkSeen}
use Rattle.kn_outside.specs.SpecifiedBytes.{more}
use Rattle.kn_outside.specs.Printing.{Prints}
use Rattle.kn_outside.proofs.Parts.{more_more, more_nothing, before_nothing, before_parts}
use Rattle.kn_follow.specs.Pulling.{Gains}

pub gains-nothing : (l : LinkSeen) → Gains l l [] []
gains-nothing l = record {
  took = more_nothing l.taken;
  left = before_nothing l.left;
  wrote = more_nothing l.written;
  later = omega arith;
}

pub gains-more : (l m l' : LinkSeen) (taken written piece text : List ℕ) → Gains l m taken written
    → Gains m l' piece text → Gains l l' (taken ++ piece) (written ++ text)
gains-more l m l' taken written piece text g h =
    let first = g.later in
    let then = h.later in
    record {
      took = h.took ∙ ap (more piece) g.took ∙ more_more taken piece l.taken;
      left = before_parts taken piece l.left m.left l'.left g.left h.left;
      wrote = h.wrote ∙ ap (more text) g.wrote ∙ more_more written text l.written;
      later = omega arith;
    }

-- a text was written whole
pub gains-written : (text : List ℕ) (l l' : LinkSeen) → Prints true text l l' → Gains l l' [] text
gains-written text l l' p = record {
  took = ap (λ (x : LinkSeen). x.taken) p.writes ∙ more_nothing l.taken;
  left = sym (ap (λ (x : LinkSeen). x.left) p.writes) ∙ before_nothing l'.left;
  wrote = ap (λ (x : LinkSeen). x.written) p.writes;
  later = p.later;
}

-- a text was written in part
pub gains-part : (text : List ℕ) (l l' : LinkSeen) (p : Prints false text l l') → Gains l l' [] (take p.writes.0 text)
gains-part text l l' p =
    let cut = p.writes in
    record {
      took = ap (λ (x : LinkSeen). x.taken) cut.3 ∙ more_nothing l.taken;
      left = sym (ap (λ (x : LinkSeen). x.left) cut.3) ∙ before_nothing l'.left;
      wrote = ap (λ (x : LinkSeen). x.written) cut.3;
      later = p.later;
    }

-- where a text was written whole, no call failed
pub written-calm : (text : List ℕ) (l l' : LinkSeen) → Prints true text l l' → l'.faults ≡ l.faults
written-calm text l l' p = ap (λ (x : LinkSeen). x.faults) p.writes
