-- What a call takes, writes and sees, step by step.
use Rattle.std.proofs.Common.{◌≡◌, ℕ, ◌≤◌, true, false, List, [], ◌++◌, refl, sym, ap, ◌∙◌, append_assoc, append-nil}
use Rattle.std.proofs.Common.{arith, Option, Some, None, subst}
use Rattle.std.specs.Prelude.{take}
use Rattle.kn_outside.specs.Seen.{LinkSeen}
use Rattle.kn_outside.specs.SpecifiedBytes.{more, before}
use Rattle.kn_outside.specs.Printing.{Prints}
use Rattle.kn_outside.specs.Reading.{Reads, Fails}
use Rattle.kn_history.specs.declared.update.Update.{Update}
use Rattle.kn_registry.specs.Passes.{PassSeen, Moves}
use Rattle.kn_registry.proofs.PassMoves.{moves-nothing, moves-more}
use Rattle.kn_serve.specs.Serving.{Gains}

more-nothing : (told : Option (List ℕ)) → told ≡ more [] told
more-nothing None = refl
more-nothing (Some x) = ap (λ (y : List ℕ). Some y) (sym (append-nil x))

more-more : (a b : List ℕ) (told : Option (List ℕ)) → more b (more a told) ≡ more (a ++ b) told
more-more a b None = refl
more-more a b (Some x) = ap (λ (y : List ℕ). Some y) (append_assoc x a b)

before-nothing : (told : Option (List ℕ)) → told ≡ before [] told
before-nothing None = refl
before-nothing (Some x) = refl

before-before : (a b : List ℕ) (told : Option (List ℕ)) → before a (before b told) ≡ before (a ++ b) told
before-before a b None = refl
before-before a b (Some x) = ap (λ (y : List ℕ). Some y) (sym (append_assoc a b x))

-- what one step does to a link: these bytes were taken, which are the next of the input, and these written
pub record Passed (piece text : List ℕ) (l l' : LinkSeen) : Type 0 where
  pub took : l'.taken ≡ more piece l.taken
  pub left : l.left ≡ before piece l'.left
  pub wrote : l'.written ≡ more text l.written
  pub later : l.faults ≤ l'.faults

-- no call failed where a text was printed whole
pub printed_calm : (l l' : LinkSeen) (text : List ℕ) → Prints true text l l' → l'.faults ≡ l.faults
printed_calm l l' text p = ap (λ (x : LinkSeen). x.faults) p.writes

-- nor where bytes were read
pub read_calm : (piece : List ℕ) (l l' : LinkSeen) → Reads piece l l' → l'.faults ≡ l.faults
read_calm piece l l' r = ap (λ (x : LinkSeen). x.faults) r.taken

-- a text was printed whole
pub passed_whole : (text : List ℕ) (l l' : LinkSeen) → Prints true text l l' → Passed [] text l l'
passed_whole text l l' p = record {
  took = ap (λ (x : LinkSeen). x.taken) p.writes ∙ more-nothing l.taken;
  left = sym (ap (λ (x : LinkSeen). x.left) p.writes) ∙ before-nothing l'.left;
  wrote = ap (λ (x : LinkSeen). x.written) p.writes;
  later = p.later;
}

-- a text was printed in part
pub passed_part : (text : List ℕ) (l l' : LinkSeen) (p : Prints false text l l') → Passed [] (take p.writes.0 text) l l'
passed_part text l l' p =
    let cut = p.writes in
    record {
      took = ap (λ (x : LinkSeen). x.taken) cut.3 ∙ more-nothing l.taken;
      left = sym (ap (λ (x : LinkSeen). x.left) cut.3) ∙ before-nothing l'.left;
      wrote = ap (λ (x : LinkSeen). x.written) cut.3;
      later = p.later;
    }

-- bytes were read
pub passed_read : (piece : List ℕ) (l l' : LinkSeen) → Reads piece l l' → Passed piece [] l l'
passed_read piece l l' r =
    let same : l'.faults ≡ l.faults = ap (λ (x : LinkSeen). x.faults) r.taken in
    record {
      took = ap (λ (x : LinkSeen). x.taken) r.taken;
      left = r.left;
      wrote = ap (λ (x : LinkSeen). x.written) r.taken ∙ more-nothing l.written;
      later = omega arith;
    }

-- a read failed
pub passed_failed : (l l' : LinkSeen) → Fails l l' → l.faults ≤ l'.faults → Passed [] [] l l'
passed_failed l l' f later = record {
  took = ap (λ (x : LinkSeen). x.taken) f.same ∙ more-nothing l.taken;
  left = sym (ap (λ (x : LinkSeen). x.left) f.same) ∙ before-nothing l'.left;
  wrote = ap (λ (x : LinkSeen). x.written) f.same ∙ more-nothing l.written;
  later = later;
}

pub gains_nothing : (v : PassSeen) (l : LinkSeen) → Gains v v l l [] [] []
gains_nothing v l = record {
  seen = [];
  own = [];
  moves = moves-nothing v;
  took = more-nothing l.taken;
  left = before-nothing l.left;
  wrote = more-nothing l.written;
  later = omega arith;
}

-- one more step of the pass and the link
pub gains_more : (u v w : PassSeen) (l l' l'' : LinkSeen) (taken written piece text : List ℕ) (stops entries : List ℕ)
    (more_seen own : List Update) → Gains u v l l' taken written stops → Moves v w more_seen own entries →
    Passed piece text l' l'' → Gains u w l l'' (taken ++ piece) (written ++ text) (stops ++ entries)
gains_more u v w l l' l'' taken written piece text stops entries more_seen own g m p =
    let first = g.later in
    let then = p.later in
    record {
      seen = g.seen ++ more_seen;
      own = g.own ++ own;
      moves = moves-more u v w g.seen more_seen g.own own stops entries g.moves m;
      took = p.took ∙ ap (more piece) g.took ∙ more-more taken piece l.taken;
      left = g.left ∙ ap (before taken) p.left ∙ before-before taken piece l''.left;
      wrote = p.wrote ∙ ap (more text) g.wrote ∙ more-more written text l.written;
      later = omega arith;
    }

-- a request was answered: nothing was taken
pub gains_answer : (u v w : PassSeen) (l l' l'' : LinkSeen) (taken written text : List ℕ) (stops entries : List ℕ)
    (more_seen own : List Update) → Gains u v l l' taken written stops → Moves v w more_seen own entries →
    Passed [] text l' l'' → Gains u w l l'' taken (written ++ text) (stops ++ entries)
gains_answer u v w l l' l'' taken written text stops entries more_seen own g m p =
    subst (λ (x : List ℕ). Gains u w l l'' x (written ++ text) (stops ++ entries)) (append-nil taken)
    (gains_more u v w l l' l'' taken written [] text stops entries more_seen own g m p)

-- bytes were read: nothing was written, and the pass didn't move
pub gains_read : (u v : PassSeen) (l l' l'' : LinkSeen) (taken written piece stops : List ℕ) →
    Gains u v l l' taken written stops → Passed piece [] l' l'' → Gains u v l l'' (taken ++ piece) written stops
gains_read u v l l' l'' taken written piece stops g p =
    let gained : Gains u v l l'' (taken ++ piece) (written ++ []) (stops ++ []) =
    gains_more u v v l l' l'' taken written piece [] stops [] [] [] g (moves-nothing v) p in
    subst (λ (x : List ℕ). Gains u v l l'' (taken ++ piece) written x) (append-nil stops)
    (subst (λ (x : List ℕ). Gains u v l l'' (taken ++ piece) x (stops ++ [])) (append-nil written) gained)

-- nothing was read or written
pub gains_quiet : (u v : PassSeen) (l l' l'' : LinkSeen) (taken written stops : List ℕ) →
    Gains u v l l' taken written stops → Passed [] [] l' l'' → Gains u v l l'' taken written stops
gains_quiet u v l l' l'' taken written stops g p =
    subst (λ (x : List ℕ). Gains u v l l'' x written stops) (append-nil taken)
    (gains_read u v l l' l'' taken written [] stops g p)
