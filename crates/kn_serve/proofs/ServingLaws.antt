-- The serving loop: its invariant is kept, and each way out of it serves the connection.
use Rattle.std.proofs.Common.{◌≡◌, ℕ, ◌+◌, ◌<◌, ◌≤◌, Bool, true, false, List, [], ◌++◌, length, refl, sym, ◌∙◌}
use Rattle.std.proofs.Common.{arith, None, subst}
use Rattle.std.specs.Prelude.{take}
use Rattle.kn_base.specs.declared.limits.TheConstants.{REQUESTS}
use Rattle.kn_outside.specs.Seen.{LinkSeen}
use Rattle.kn_outside.specs.Reading.{Reads, Fails}
use Rattle.kn_history.specs.declared.update.Update.{Update}
use Rattle.kn_history.specs.History.{is_valid_history}
use Rattle.kn_wire.specs.declared.fault.WireFault.TheVariants as F
use Rattle.kn_wire.specs.Requests.{Request, Bye, Faulty}
use Rattle.kn_wire.specs.Feeding.{Held, Bytes, held_bytes, with_piece, next_of}
use Rattle.kn_reply.specs.Replies.{reply_text}
use Rattle.kn_daemon.specs.declared.ended.Ended.{Ended}
use Rattle.kn_daemon.specs.declared.ended.Ended.TheVariants as E
use Rattle.kn_daemon.specs.Shapes.{shape_of}
use Rattle.kn_daemon.specs.Daemon.{DaemonConfig, State, first_state}
use Rattle.kn_daemon.specs.Served.{IsServed, is_bye, is_block}
use Rattle.kn_daemon.specs.Underway.{IsUnderway, IsReplied}
use Rattle.kn_daemon.specs.Laws.{Begins, TakesPiece, AnswersOne, EndsByBye, EndsByBlock, EndsByWrite}
use Rattle.kn_daemon.specs.Laws.{EndsWithoutRequest}
use Rattle.kn_daemon.specs.Laws.{EndsByBudget, EndsByMemory, UnderwayIsSmall, HasNoRequest}
use Rattle.kn_registry.specs.Passes.{PassSeen}
use Rattle.kn_serve.specs.Handling.{Moment, in_state, HasRoom, TakesNext}
use Rattle.kn_serve.specs.Serving.{Gains, Serving, Serves, HasCause, IsInputEnd, is_over}
use Rattle.kn_serve.proofs.GainsLaws.{Passed, printed_calm, read_calm, passed_whole, passed_part, passed_read}
use Rattle.kn_serve.proofs.GainsLaws.{passed_failed, gains_nothing, gains_answer, gains_read, gains_quiet}

pub serving_begun : Begins → (g : DaemonConfig) (v : PassSeen) (l : LinkSeen) (now : State) (h : Held) →
    now ≡ first_state → h ≡ Bytes [] → Serving g v l (in_state now v l) h 0
serving_begun law g v l now h first empty =
    let begun : Serving g v l (in_state first_state v l) (Bytes []) 0 = record {
      taken = [];
      written = [];
      stops = [];
      gains = gains_nothing v l;
      underway = law g v.seen v.number;
      calm = refl;
    } in
    subst (λ (x : State). Serving g v l (in_state x v l) h 0) (sym first)
    (subst (λ (x : Held). Serving g v l (in_state first_state v l) x 0) (sym empty) begun)

-- a connection for which memory ran out
pub serves_nothing : EndsByMemory → (g : DaemonConfig) (v : PassSeen) (l : LinkSeen) → is_valid_history v.seen ≡ true →
    Serves g v v l l E.Memory
serves_nothing law g v l valid = record {
  taken = [];
  written = [];
  stops = [];
  gains = gains_nothing v l;
  served = law g v.seen v.number (is_over l.left) valid;
  cause = refl;
  still = λ same. refl;
}

module _ (g : DaemonConfig) (u : PassSeen) (l : LinkSeen) (m : Moment) (h : Held) (answered : ℕ)
    (s : Serving g u l m h answered) where
  -- there is room for one more session and one more private assertion
  pub serving_room : UnderwayIsSmall → answered < REQUESTS → HasRoom m.state
  serving_room law few =
      let small = law g s.taken s.written m.pass.seen (length u.seen) u.number s.stops m.state h answered s.underway in
      (answered, omega arith, small)

  -- nothing was done
  pub serving_still : (m' : Moment) (h' : Held) → h' ≡ h → m' ≡ m → Serving g u l m' h' answered
  serving_still m' h' held same =
      subst (λ (x : Held). Serving g u l m' x answered) (sym held)
      (subst (λ (x : Moment). Serving g u l x h answered) (sym same) s)

  -- one more piece was read
  pub serving_reads : TakesPiece → (l'' : LinkSeen) (h' : Held) (piece : List ℕ) → h' ≡ with_piece h piece →
      Reads piece m.link l'' → Serving g u l (in_state m.state m.pass l'') h' answered
  serving_reads law l'' h' piece held reads =
      let underway : Held → Type 0 =
      λ x. IsUnderway g (s.taken ++ piece) s.written m.pass.seen (length u.seen) u.number s.stops m.state x
      answered in
      record {
        taken = s.taken ++ piece;
        written = s.written;
        stops = s.stops;
        gains =
            gains_read u m.pass l m.link l'' s.taken s.written piece s.stops s.gains
            (passed_read piece m.link l'' reads);
        underway = subst underway (sym held)
            (law g s.taken s.written m.pass.seen (length u.seen) u.number s.stops m.state h answered piece s.underway);
        calm = read_calm piece m.link l'' reads ∙ s.calm;
      }

  -- No whole request is held.
  module _ (dries : EndsWithoutRequest) (l'' : LinkSeen) (few : answered < REQUESTS) (none : next_of h ≡ None)
      (valid : is_valid_history m.pass.seen ≡ true) where
    dry : HasNoRequest g s.taken s.written m.pass.seen (length u.seen) u.number s.stops h
    dry =
        dries g s.taken s.written m.pass.seen (length u.seen) u.number s.stops m.state h answered s.underway few none
        valid

    -- a read failed
    pub serves_read : Fails m.link l'' → m.link.faults ≤ l''.faults → Serves g u m.pass l l'' E.ReadFault
    serves_read fails later =
        let d = dry in
        let earlier = s.gains.later in
        let rose = fails.rose in
        record {
          taken = s.taken;
          written = s.written;
          stops = s.stops;
          gains =
              gains_quiet u m.pass l m.link l'' s.taken s.written s.stops s.gains
              (passed_failed m.link l'' fails later);
          served = d.by_read (is_over l''.left);
          cause = omega arith;
          still = λ same. absurd (cc same);
        }

    -- the input ended
    ended_so : (ended : Ended) → Reads [] m.link l'' →
        IsServed g s.taken s.written ended (is_over l''.left) m.pass.seen (length u.seen) (length m.pass.seen) u.number
        s.stops →
        HasCause ended l l'' → (ended ≡ E.Memory → m.pass ≡ u) → Serves g u m.pass l l'' ended
    ended_so ended reads served cause still = record {
      taken = s.taken;
      written = s.written;
      stops = s.stops;
      gains =
          gains_quiet u m.pass l m.link l'' s.taken s.written s.stops s.gains (passed_read [] m.link l'' reads);
      served = served;
      cause = cause;
      still = still;
    }

    pub serves_end : (ended : Ended) → Reads [] m.link l'' → is_over l''.left ≡ true →
        IsInputEnd ended (held_bytes h) → Serves g u m.pass l l'' ended
    serves_end E.Done reads over end =
        let d = dry in
        let served : Bool → Type 0 =
        λ b. IsServed g s.taken s.written E.Done b m.pass.seen (length u.seen) (length m.pass.seen) u.number
        s.stops in
        ended_so E.Done reads (subst served (sym over) (d.by_end end)) (read_calm [] m.link l'' reads ∙ s.calm)
        (λ same. absurd (cc same))
    serves_end (E.Cut n) reads over end =
        let d = dry in
        let served : ℕ → Bool → Type 0 =
        λ k b. IsServed g s.taken s.written (E.Cut k) b m.pass.seen (length u.seen) (length m.pass.seen) u.number
        s.stops in
        let all : served (length (held_bytes h)) (is_over l''.left) =
        subst (λ (b : Bool). served (length (held_bytes h)) b) (sym over) (d.by_cut end.1) in
        ended_so (E.Cut n) reads (subst (λ (k : ℕ). served k (is_over l''.left)) (sym end.0) all)
        (read_calm [] m.link l'' reads ∙ s.calm) (λ same. absurd (cc same))
    serves_end E.Memory reads over end = absurd end
    serves_end E.ReadFault reads over end = absurd end
    serves_end E.WriteFault reads over end = absurd end
    serves_end (E.Block n) reads over end = absurd end
    serves_end E.Budget reads over end = absurd end

  -- One more request was answered.
  module _ (m' : Moment) (h' : Held) (request : Request) (whole : Bool) (t : TakesNext g m m' h h' request whole) where
    -- what was replied is told by the number that the pass had at first
    replied : IsReplied g u.number m.pass.seen t.handled.more t.handled.entries m.state (shape_of request)
        t.handled.reply m'.state
    replied =
        let d = t.handled in
        let by : ℕ → Type 0 =
        λ k. IsReplied g k m.pass.seen d.more d.entries m.state (shape_of request) d.reply m'.state in
        subst by s.gains.moves.number d.replied

    gained : (text : List ℕ) → Passed [] text m.link m'.link →
        Gains u m'.pass l m'.link s.taken (s.written ++ text) (s.stops ++ t.handled.entries)
    gained text passed =
        let d = t.handled in
        gains_answer u m.pass m'.pass l m.link m'.link s.taken s.written text s.stops d.entries d.more _ s.gains
        d.moves passed

    valid_so : is_valid_history m'.pass.seen ≡ true → is_valid_history (m.pass.seen ++ t.handled.more) ≡ true
    valid_so valid = subst (λ (x : List Update). is_valid_history x ≡ true) t.handled.moves.seen valid

    -- and the connection ended so
    served_by : (ended : Ended) (text : List ℕ) → Passed [] text m.link m'.link →
        IsServed g s.taken (s.written ++ text) ended (is_over m'.link.left) (m.pass.seen ++ t.handled.more)
        (length u.seen) (length (m.pass.seen ++ t.handled.more)) u.number (s.stops ++ t.handled.entries) →
        HasCause ended l m'.link → (ended ≡ E.Memory → ⊥) → Serves g u m'.pass l m'.link ended
    served_by ended text passed served cause other =
        let d = t.handled in
        let served_over : List Update → Type 0 =
        λ x. IsServed g s.taken (s.written ++ text) ended (is_over m'.link.left) x (length u.seen) (length x)
        u.number (s.stops ++ d.entries) in
        record {
          taken = s.taken;
          written = s.written ++ text;
          stops = s.stops ++ d.entries;
          gains = gained text passed;
          served = subst served_over (sym d.moves.seen) served;
          cause = cause;
          still = λ same. absurd (other same);
        }

  -- one more request that doesn't end the connection
  pub serving_answers : AnswersOne → (m' : Moment) (h' : Held) (request : Request) →
      TakesNext g m m' h h' request true → is_bye request ≡ false → is_block request ≡ false →
      Serving g u l m' h' (answered + 1)
  serving_answers law m' h' request t no_bye no_block =
      let d = t.handled in
      let text : List ℕ = reply_text d.reply in
      let underway : List Update → Type 0 =
      λ x. IsUnderway g s.taken (s.written ++ text) x (length u.seen) u.number (s.stops ++ d.entries) m'.state h'
      (answered + 1) in
      let next : underway (m.pass.seen ++ d.more) =
      law g s.taken s.written m.pass.seen d.more (length u.seen) u.number s.stops d.entries m.state m'.state h h'
      answered request d.reply s.underway t.next (replied m' h' request true t) no_bye no_block in
      record {
        taken = s.taken;
        written = s.written ++ text;
        stops = s.stops ++ d.entries;
        gains = gained m' h' request true t text (passed_whole text m.link m'.link d.prints);
        underway = subst underway (sym d.moves.seen) next;
        calm = printed_calm m.link m'.link text d.prints ∙ s.calm;
      }

  -- BYE was answered
  pub serves_bye : EndsByBye → (m' : Moment) (h' : Held) → answered < REQUESTS → TakesNext g m m' h h' Bye true →
      is_valid_history m'.pass.seen ≡ true → Serves g u m'.pass l m'.link E.Done
  serves_bye law m' h' few t valid =
      let d = t.handled in
      let text : List ℕ = reply_text d.reply in
      served_by m' h' Bye true t E.Done text (passed_whole text m.link m'.link d.prints)
      (law g s.taken s.written m.pass.seen d.more (length u.seen) u.number s.stops d.entries m.state m'.state h h'
      answered d.reply (is_over m'.link.left) s.underway few t.next (replied m' h' Bye true t)
      (valid_so m' h' Bye true t valid))
      (printed_calm m.link m'.link text d.prints ∙ s.calm) (λ same. cc same)

  -- a block was refused
  pub serves_block : EndsByBlock → (m' : Moment) (h' : Held) (n : ℕ) → answered < REQUESTS →
      TakesNext g m m' h h' (Faulty (F.Block n)) true → is_valid_history m'.pass.seen ≡ true →
      Serves g u m'.pass l m'.link (E.Block n)
  serves_block law m' h' n few t valid =
      let d = t.handled in
      let text : List ℕ = reply_text d.reply in
      let request : Request = Faulty (F.Block n) in
      served_by m' h' request true t (E.Block n) text (passed_whole text m.link m'.link d.prints)
      (law g s.taken s.written m.pass.seen d.more (length u.seen) u.number s.stops d.entries m.state m'.state h h'
      answered n d.reply (is_over m'.link.left) s.underway few t.next (replied m' h' request true t)
      (valid_so m' h' request true t valid))
      (printed_calm m.link m'.link text d.prints ∙ s.calm) (λ same. cc same)

  -- a write failed
  pub serves_write : EndsByWrite → (m' : Moment) (h' : Held) (request : Request) → answered < REQUESTS →
      TakesNext g m m' h h' request false → is_valid_history m'.pass.seen ≡ true →
      Serves g u m'.pass l m'.link E.WriteFault
  serves_write law m' h' request few t valid =
      let d = t.handled in
      let cut = d.prints.writes in
      let earlier = s.gains.later in
      let rose = cut.2 in
      served_by m' h' request false t E.WriteFault (take cut.0 (reply_text d.reply))
      (passed_part (reply_text d.reply) m.link m'.link d.prints)
      (law g s.taken s.written m.pass.seen d.more (length u.seen) u.number s.stops d.entries m.state m'.state h h'
      answered cut.0 request d.reply (is_over m'.link.left) s.underway few t.next (replied m' h' request false t) cut.1
      (valid_so m' h' request false t valid))
      (omega arith) (λ same. cc same)

  -- as many requests were answered as a connection has
  pub serves_budget : EndsByBudget → answered ≡ REQUESTS → is_valid_history m.pass.seen ≡ true →
      Serves g u m.pass l m.link E.Budget
  serves_budget law full valid =
      let underway : ℕ → Type 0 =
      λ k. IsUnderway g s.taken s.written m.pass.seen (length u.seen) u.number s.stops m.state h k in
      record {
        taken = s.taken;
        written = s.written;
        stops = s.stops;
        gains = s.gains;
        served =
            law g s.taken s.written m.pass.seen (length u.seen) u.number s.stops m.state h (is_over m.link.left)
            (subst underway full s.underway) valid;
        cause = s.calm;
        still = λ same. absurd (cc same);
      }

pub none_still : (h h' : Held) → next_of h ≡ None → h' ≡ h → next_of h' ≡ None
none_still h h' none same = subst (λ (x : Held). next_of x ≡ None) (sym same) none

pub end_still : (h h' : Held) (ended : Ended) → h' ≡ h → IsInputEnd ended (held_bytes h') →
    IsInputEnd ended (held_bytes h)
end_still h h' ended same end = subst (λ (x : Held). IsInputEnd ended (held_bytes x)) same end
