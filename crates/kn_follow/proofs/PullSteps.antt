-- One request of a pull and its answer.
use Rattle.std.proofs.Common.{◌≡◌, ℕ, ◌≤◌, true, false, List, [], ◌++◌, length, take, drop, Result, Ok}
use Rattle.std.proofs.Common.{Err, IfOk, IfErr, refl, sym, ap, ◌∙◌, subst, arith, append-nil, inl, inr}
use Rattle.std.proofs.lemmas.List.{take-append-drop}
use Rattle.kn_outside.specs.Seen.{LinkSeen}
use Rattle.kn_outside.specs.Faults.{Rose}
use Rattle.kn_outside.specs.Printing.{Prints}
use Rattle.kn_history.specs.declared.update.Update.{Update}
use Rattle.kn_follow.specs.declared.pull_fault.PullFault.{PullFault}
use Rattle.kn_follow.specs.declared.pull_fault.PullFault.TheVariants.{Read, Write, Denied, Ended, Long, Follow}
use Rattle.kn_follow.specs.declared.pull_fault.PullFault.TheVariants.{Unserved, NoMemory}
use Rattle.kn_follow.specs.declared.request.Request.{Request}
use Rattle.kn_follow.specs.Answers.{IsAnswer, Awaits}
use Rattle.kn_follow.specs.Pulling.{Gains, IsUnanswered, Stops}
use Rattle.kn_follow.specs.Exchanges.{IsAnswered, IsNotAnswered, IsNotRead, IsStopped, Passes}
use Rattle.kn_follow.proofs.LinkGains.{gains-nothing, gains-more, gains-written, gains-part, written-calm}

-- Causes over two stretches of calls, of which the first had no fault.

unanswered-later : (request : Request) (line written held : List ℕ) (l m l' : LinkSeen) (fault : PullFault)
    → m.faults ≡ l.faults → IsUnanswered request line written held m l' fault
    → IsUnanswered request line written held l l' fault
unanswered-later request line written held l m l' Read calm (a, b, c, d) =
    (a, b, c, subst (λ n. Rose n l'.faults) calm d)
unanswered-later request line written held l m l' Write calm (n, a, b, d) =
    (n, a, b, subst (λ k. Rose k l'.faults) calm d)
unanswered-later request line written held l m l' (Ended n) calm (a, b, c, d, e, f) = (a, b, c, d, e, f ∙ calm)
unanswered-later request line written held l m l' (Long n) calm (a, b, c, d, e) = (a, b, c, d, e ∙ calm)
unanswered-later request line written held l m l' NoMemory calm (a, b) = (a, b ∙ calm)
unanswered-later request line written held l m l' (Denied code) calm h = h
unanswered-later request line written held l m l' (Follow fault) calm h = h
unanswered-later request line written held l m l' Unserved calm h = h

pub stops-later : (request : Request) (line written held : List ℕ) (l m l' : LinkSeen) (old new : List Update)
    (fault : PullFault) → m.faults ≡ l.faults → Stops request line written held m l' old new fault
    → Stops request line written held l l' old new fault
stops-later request line written held l m l' old new fault calm (inl cut) =
    inl (record { cause = unanswered-later request line written held l m l' fault calm cut.cause; kept = cut.kept })
stops-later request line written held l m l' old new fault calm (inr ended) =
    inr (record {
      answer = ended.answer;
      rest = ended.rest;
      asked = ended.asked;
      cut = ended.cut;
      whole = ended.whole;
      cause = ended.cause;
      calm = ended.calm ∙ calm;
    })

-- Waiting.

-- the cause of a fault where nothing is to be written is that behind a line that was written
unanswered-behind : (request : Request) (line written held : List ℕ) (l l' : LinkSeen) (fault : PullFault)
    → IsUnanswered request [] written held l l' fault → (written ≡ []) × IsUnanswered request line line held l l' fault
unanswered-behind request line written held l l' Read (a, b, c, d) = (a, (refl, b, c, d))
unanswered-behind request line written held l l' Write (n, a, b, d) = absurd (omega (arith, a))
unanswered-behind request line written held l l' (Ended n) (a, b, c, d, e, f) = (a, (refl, b, c, d, e, f))
unanswered-behind request line written held l l' (Long n) (a, b, c, d, e) = (a, (refl, b, c, d, e))
unanswered-behind request line written held l l' NoMemory (inl a, b) = (a, (inr refl, b))
unanswered-behind request line written held l l' NoMemory (inr a, b) = (a, (inr refl, b))
unanswered-behind request line written held l l' (Denied code) h = absurd h
unanswered-behind request line written held l l' (Follow fault) h = absurd h
unanswered-behind request line written held l l' Unserved h = absurd h

-- a line was written, and then nothing came
pub asked-in_vain : (request : Request) (line held : List ℕ) (l m l' : LinkSeen) (fault : PullFault)
    → Prints true line l m → IsNotAnswered request [] held m l' fault → IsNotAnswered request line held l l' fault
asked-in_vain request line held l m l' fault p n =
    let behind = unanswered-behind request line n.written (held ++ n.piece) m l' fault n.cause in
    let gains : Gains l l' n.piece (line ++ n.written) =
    gains-more l m l' [] line n.piece n.written (gains-written line l m p) n.gains in
    record {
      piece = n.piece;
      written = line;
      gains = subst (Gains l l' n.piece) (ap (λ t. line ++ t) behind.0 ∙ append-nil line) gains;
      cause = unanswered-later request line line (held ++ n.piece) l m l' fault (written-calm line l m p) behind.1;
    }

-- a line was written, and then its answer came
pub asked-well : (request : Request) (line old new : List ℕ) (l m l' : LinkSeen) (count : ℕ) → Prints true line l m
    → IsAnswered request [] old new m l' count → IsAnswered request line old new l l' count
asked-well request line old new l m l' count p a =
    let gains : Gains l l' a.piece (line ++ []) =
    gains-more l m l' [] line a.piece [] (gains-written line l m p) a.gains in
    record {
      piece = a.piece;
      gains = subst (Gains l l' a.piece) (append-nil line) gains;
      came = a.came;
      within = a.within;
      answer = a.answer;
      calm = a.calm ∙ written-calm line l m p;
    }

-- the line wasn't written whole
pub not-written : (request : Request) (line held : List ℕ) (l l' : LinkSeen) → Prints false line l l'
    → IsNotAnswered request line held l l' Write
not-written request line held l l' p =
    let cut = p.writes in
    record {
      piece = [];
      written = take cut.0 line;
      gains = gains-part line l l' p;
      cause = (cut.0, cut.1, refl, cut.2);
    }

-- What came since some bytes were held, where no call failed.
pub record IsHeld (old new : List ℕ) (l l' : LinkSeen) : Type 0 where
  pub piece : List ℕ
  pub gains : Gains l l' piece []
  pub came : new ≡ old ++ piece
  pub calm : l'.faults ≡ l.faults

pub held-first : (old : List ℕ) (l : LinkSeen) → IsHeld old old l l
held-first old l = record { piece = []; gains = gains-nothing l; came = sym (append-nil old); calm = refl }

pub waited-not : (request : Request) (old mid : List ℕ) (l m l' : LinkSeen) (fault : PullFault) → IsHeld old mid l m
    → Awaits request mid → length mid ≤ 300000 → IsNotRead m l' fault → IsNotAnswered request [] old l l' fault
waited-not request old mid l m l' Read h waits short (g, rose) = record {
  piece = h.piece;
  written = [];
  gains = subst (λ t. Gains l l' t []) (append-nil h.piece) (gains-more l m l' h.piece [] [] [] h.gains g);
  cause = (
    refl,
    subst (Awaits request) h.came waits,
    subst (λ t. length t ≤ 300000) h.came short,
    subst (λ n. Rose n l'.faults) h.calm rose,
  );
}
waited-not request old mid l m l' NoMemory h waits short (piece, g, calm) = record {
  piece = h.piece ++ piece;
  written = [];
  gains = gains-more l m l' h.piece [] piece [] h.gains g;
  cause = (inl refl, calm ∙ h.calm);
}
waited-not request old mid l m l' Write h waits short n = absurd n
waited-not request old mid l m l' (Denied code) h waits short n = absurd n
waited-not request old mid l m l' (Ended bytes) h waits short n = absurd n
waited-not request old mid l m l' (Long bytes) h waits short n = absurd n
waited-not request old mid l m l' (Follow fault) h waits short n = absurd n
waited-not request old mid l m l' Unserved h waits short n = absurd n

-- Stopping, or going on behind an answer.

-- out of memory for the line
pub stopped-before : (request : Request) (line held : List ℕ) (l : LinkSeen) (holds : List Update)
    → IsStopped request line held l l holds holds NoMemory
stopped-before request line held l holds =
    record {
      piece = [];
      written = [];
      gains = gains-nothing l;
      stops =
          inl (record { cause = (inl refl, refl); kept = refl });
    }

pub passed : (request : Request) (line old mid new answer : List ℕ) (l l' : LinkSeen) (count : ℕ)
    → IsAnswered request line old mid l l' count → answer ≡ take count mid → new ≡ drop count mid
    → Passes request line answer old new l l'
passed request line old mid new answer l l' count a is left = record {
  piece = a.piece;
  gains = a.gains;
  came = sym a.came ∙ sym (take-append-drop count mid) ∙ ap (λ t. t ++ drop count mid) (sym is)
      ∙ ap (λ t. answer ++ t) (sym left);
  whole = subst (IsAnswer request) (sym is) a.answer;
  calm = a.calm;
}

-- What is answered, where a line was written whole.
pub ask-answers : (request : Request) (line old new : List ℕ) (l m l' : LinkSeen) (r : Result ℕ PullFault)
    → Prints true line l m → IfOk r (λ count. IsAnswered request [] old new m l' count)
    → IfOk r (λ count. IsAnswered request line old new l l' count)
ask-answers request line old new l m l' (Ok count) p a = asked-well request line old new l m l' count p a
ask-answers request line old new l m l' (Err fault) p a = tt

pub ask-faults : (request : Request) (line old : List ℕ) (l m l' : LinkSeen) (r : Result ℕ PullFault)
    → Prints true line l m → IfErr r (λ fault. IsNotAnswered request [] old m l' fault)
    → IfErr r (λ fault. IsNotAnswered request line old l l' fault)
ask-faults request line old l m l' (Ok count) p n = tt
ask-faults request line old l m l' (Err fault) p n = asked-in_vain request line old l m l' fault p n
