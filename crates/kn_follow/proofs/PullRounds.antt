-- The rounds of a pull, and the pull as a whole.
use Rattle.std.proofs.Common.{◌≡◌, ℕ, ◌+◌, ◌<◌, List, [], ◌∷◌, ◌++◌, length, refl, sym, ap, ◌∙◌, subst, arith}
use Rattle.std.proofs.Common.{append_assoc, append-nil}
use Rattle.std.proofs.lemmas.List.{length-append}
use Rattle.kn_outside.specs.Seen.{LinkSeen}
use Rattle.kn_history.specs.declared.update.Update.{Update}
use Rattle.kn_follow.specs.declared.pull_fault.PullFault.{PullFault}
use Rattle.kn_follow.specs.declared.request.Request.TheVariants.{Admin, Log, Bye}
use Rattle.kn_follow.specs.Forms.{ReceivedUpdate}
use Rattle.kn_follow.specs.Following.{Takes, update_behind, IsApplied}
use Rattle.kn_follow.specs.Answers.{IsAnswer, admin_line, log_line, bye_line, ok_line}
use Rattle.kn_follow.specs.Pulling.{Gains, Rounds, IsLastReply, IsServed, IsPulled, IsPullFault}
use Rattle.kn_follow.specs.Exchanges.{Passes, IsStopped, IsRound, IsFollowed, IsUnfollowed}
use Rattle.kn_follow.proofs.LinkGains.{gains-nothing, gains-more}
use Rattle.kn_follow.proofs.PullSteps.{stops-later}

-- Replies that are applied.

takes-length : (old : List Update) (updates : List ReceivedUpdate) (new : List Update) → Takes old updates new
    → length new ≡ length old + length updates
takes-length old [] new takes = let same = ap length takes in omega (arith, same)
takes-length old (u ∷ updates) new takes =
    let rest = takes-length (old ++ update_behind old u ∷ []) updates new takes.1 in
    let size = length-append old (update_behind old u ∷ []) in
    omega (arith, rest, size)

pub applied-length : (old : List Update) (text : List ℕ) (count : ℕ) (new : List Update) → IsApplied old text count new
    → length new ≡ length old + count
applied-length old text count new a =
    let size = takes-length old a.reply.updates new a.taken.takes in
    let number = a.taken.number in
    omega (arith, size, number)

none-taken : (old : List Update) (updates : List ReceivedUpdate) (new : List Update) → 0 ≡ length updates
    → Takes old updates new → new ≡ old
none-taken old [] new none takes = takes
none-taken old (u ∷ updates) new none takes = absurd (omega (arith, none))

applied-none : (old : List Update) (text : List ℕ) (new : List Update) → IsApplied old text 0 new → new ≡ old
applied-none old text new a = none-taken old a.reply.updates new a.taken.number a.taken.takes

-- Rounds.

rounds-more : (old : List Update) (lines texts : List ℕ) (mid : List Update) (replies : List (List ℕ)) (answer : List ℕ)
    (count : ℕ) (new : List Update) → Rounds old lines texts mid replies → IsAnswer Log answer → 0 < count
    → IsApplied mid answer count new
    → Rounds old (lines ++ log_line (length mid)) (texts ++ answer) new (replies ++ answer ∷ [])
rounds-more old lines texts mid [] answer count new rounds whole some applied =
    let here : mid ≡ old = rounds.2 in (
      count,
      new,
      [],
      [],
      whole,
      some,
      subst (λ (us : List Update). IsApplied us answer count new) here applied,
      (refl, refl, refl),
      ap (λ t. t ++ log_line (length mid)) rounds.0 ∙ ap (λ (us : List Update). log_line (length us)) here
          ∙ sym (append-nil (log_line (length old))),
      ap (λ t. t ++ answer) rounds.1 ∙ sym (append-nil answer),
    )
rounds-more old lines texts mid (reply ∷ replies) answer count new (
  n,
  next,
  others,
  behind,
  first,
  many,
  is,
  rest,
  asked,
  answered,
) whole some applied = (
  n,
  next,
  others ++ log_line (length mid),
  behind ++ answer,
  first,
  many,
  is,
  rounds-more next others behind mid replies answer count new rest whole some applied,
  ap (λ t. t ++ log_line (length mid)) asked ∙ append_assoc (log_line (length old)) others (log_line (length mid)),
  ap (λ t. t ++ answer) answered ∙ append_assoc reply behind answer,
)

-- What rounds have made of a replica and a link, where no call failed.
pub record IsFollowing (old new : List Update) (held held' : List ℕ) (l l' : LinkSeen) : Type 0 where
  pub piece : List ℕ
  pub lines : List ℕ
  pub texts : List ℕ
  pub replies : List (List ℕ)
  pub rounds : Rounds old lines texts new replies
  pub gains : Gains l l' piece lines
  pub came : held ++ piece ≡ texts ++ held'
  pub calm : l'.faults ≡ l.faults

pub following-first : (old : List Update) (held : List ℕ) (l : LinkSeen) → IsFollowing old old held held l l
following-first old held l = record {
  piece = [];
  lines = [];
  texts = [];
  replies = [];
  rounds = (refl, refl, refl);
  gains = gains-nothing l;
  came = append-nil held;
  calm = refl;
}

-- two stretches of what came, one behind the other
pieces-join : (held piece texts mid next answer new : List ℕ) → held ++ piece ≡ texts ++ mid
    → mid ++ next ≡ answer ++ new → held ++ (piece ++ next) ≡ (texts ++ answer) ++ new
pieces-join held piece texts mid next answer new first second =
    sym (append_assoc held piece next) ∙ ap (λ t. t ++ next) first ∙ append_assoc texts mid next
    ∙ ap (λ t. texts ++ t) second ∙ sym (append_assoc texts answer new)

pub following-more : (old mid new : List Update) (h h' h'' : List ℕ) (l m l' : LinkSeen) (count : ℕ)
    → IsFollowing old mid h h' l m → IsRound mid new h' h'' m l' count → 0 < count → IsFollowing old new h h'' l l'
following-more old mid new h h' h'' l m l' count f r some =
    let p = r.passes in
    record {
      piece = f.piece ++ p.piece;
      lines = f.lines ++ log_line (length mid);
      texts = f.texts ++ r.answer;
      replies = f.replies ++ r.answer ∷ [];
      rounds = rounds-more old f.lines f.texts mid f.replies r.answer count new f.rounds p.whole some r.applied;
      gains = gains-more l m l' f.piece f.lines p.piece (log_line (length mid)) f.gains p.gains;
      came = pieces-join h f.piece f.texts h' p.piece r.answer h'' f.came p.came;
      calm = p.calm ∙ f.calm;
    }

pub followed : (old mid new : List Update) (h h' h'' : List ℕ) (l m l' : LinkSeen) → IsFollowing old mid h h' l m
    → IsRound mid new h' h'' m l' 0 → IsFollowed old new h h'' l l'
followed old mid new h h' h'' l m l' f r =
    let p = r.passes in
    let same : new ≡ mid = applied-none mid r.answer new r.applied in
    let last : IsLastReply mid r.answer =
    record {
      answer = p.whole;
      applied =
          subst (λ (us : List Update). IsApplied mid r.answer 0 us) same r.applied;
    } in
    let done : IsFollowed old mid h h'' l l' = record {
      piece = f.piece ++ p.piece;
      lines = f.lines;
      texts = f.texts;
      replies = f.replies;
      rounds = f.rounds;
      reply = r.answer;
      last = last;
      gains = gains-more l m l' f.piece f.lines p.piece (log_line (length mid)) f.gains p.gains;
      came = pieces-join h f.piece f.texts h' p.piece r.answer h'' f.came p.came;
      calm = p.calm ∙ f.calm;
    } in
    subst (λ (us : List Update). IsFollowed old us h h'' l l') (sym same) done

pub unfollowed : (old mid new : List Update) (h h' : List ℕ) (l m l' : LinkSeen) (fault : PullFault)
    → IsFollowing old mid h h' l m → IsStopped Log (log_line (length mid)) h' m l' mid new fault
    → IsUnfollowed old new h l l' fault
unfollowed old mid new h h' l m l' fault f s = record {
  lines = f.lines;
  texts = f.texts;
  replies = f.replies;
  mid = mid;
  rounds = f.rounds;
  piece = f.piece ++ s.piece;
  written = s.written;
  rest = h' ++ s.piece;
  gains = gains-more l m l' f.piece f.lines s.piece s.written f.gains s.gains;
  came =
      sym (append_assoc h f.piece s.piece) ∙ ap (λ t. t ++ s.piece) f.came ∙ append_assoc f.texts h' s.piece;
  stops = stops-later Log (log_line (length mid)) s.written (h' ++ s.piece) l m l' mid new fault f.calm s.stops;
}

-- The pull.

module _ (secret : List ℕ) (old : List Update) (l : LinkSeen) where
  -- ADMIN wasn't granted
  pub pull-refused : (l' : LinkSeen) (fault : PullFault) → IsStopped Admin (admin_line secret) [] l l' old old fault
      → IsPullFault secret old old l l' fault
  pull-refused l' fault s = record {
    request = Admin;
    asked = [];
    answered = [];
    mid = old;
    underway = (refl, refl, refl);
    written = s.written;
    held = s.piece;
    gains = s.gains;
    stops = s.stops;
  }

  module _ (m : LinkSeen) (held : List ℕ) (granted : Passes Admin (admin_line secret) ok_line [] held l m) where
    -- a request for updates stopped it
    pub pull-unfollowed : (new : List Update) (l' : LinkSeen) (fault : PullFault) → IsUnfollowed old new held m l' fault
        → IsPullFault secret old new l l' fault
    pull-unfollowed new l' fault u =
        let gains : Gains l l' (granted.piece ++ u.piece) (admin_line secret ++ (u.lines ++ u.written)) =
        gains-more l m l' granted.piece (admin_line secret) u.piece (u.lines ++ u.written) granted.gains u.gains in
        let taken : granted.piece ++ u.piece ≡ (ok_line ++ u.texts) ++ u.rest =
        pieces-join [] granted.piece ok_line held u.piece u.texts u.rest granted.came u.came in
        record {
          request = Log;
          asked = admin_line secret ++ u.lines;
          answered = ok_line ++ u.texts;
          mid = u.mid;
          underway = record {
            lines = u.lines;
            texts = u.texts;
            replies = u.replies;
            rounds = u.rounds;
            asks = refl;
            answers = refl;
          };
          written = u.written;
          held = u.rest;
          gains =
              subst (λ t. Gains l l' t ((admin_line secret ++ u.lines) ++ u.written)) taken
              (subst (Gains l l' (granted.piece ++ u.piece)) (sym (append_assoc (admin_line secret) u.lines u.written))
              gains);
          stops = stops-later Log (log_line (length u.mid)) u.written u.rest l m l' u.mid new fault granted.calm
              u.stops;
        }

    module _ (new : List Update) (n : LinkSeen) (held' : List ℕ) (f : IsFollowed old new held held' m n) where
      -- what was taken and written up to BYE
      before-bye : Gains l n (granted.piece ++ f.piece) ((admin_line secret ++ f.lines) ++ log_line (length new))
      before-bye =
          subst (Gains l n (granted.piece ++ f.piece))
          (sym (append_assoc (admin_line secret) f.lines (log_line (length new))))
          (gains-more l m n granted.piece (admin_line secret) f.piece (f.lines ++ log_line (length new)) granted.gains
          f.gains)

      came-before : granted.piece ++ f.piece ≡ ((ok_line ++ f.texts) ++ f.reply) ++ held'
      came-before =
          pieces-join [] granted.piece ok_line held f.piece (f.texts ++ f.reply) held' granted.came f.came
          ∙ ap (λ t. t ++ held') (sym (append_assoc ok_line f.texts f.reply))

      served : IsServed secret old ((admin_line secret ++ f.lines) ++ log_line (length new))
          ((ok_line ++ f.texts) ++ f.reply) new
      served = record {
        lines = admin_line secret ++ f.lines;
        texts = ok_line ++ f.texts;
        granted = record {
          lines = f.lines;
          texts = f.texts;
          replies = f.replies;
          rounds = f.rounds;
          asks = refl;
          answers = refl;
        };
        reply = f.reply;
        last = f.last;
        asks = refl;
        answers = refl;
      }

      -- BYE stopped it
      pub pull-unfinished : (l' : LinkSeen) (fault : PullFault) → IsStopped Bye bye_line held' n l' new new fault
          → IsPullFault secret old new l l' fault
      pull-unfinished l' fault s =
          let asked = (admin_line secret ++ f.lines) ++ log_line (length new) in
          let answered = (ok_line ++ f.texts) ++ f.reply in
          let gains : Gains l l' ((granted.piece ++ f.piece) ++ s.piece) (asked ++ s.written) =
          gains-more l n l' (granted.piece ++ f.piece) asked s.piece s.written before-bye s.gains in
          record {
            request = Bye;
            asked = asked;
            answered = answered;
            mid = new;
            underway = served;
            written = s.written;
            held = held' ++ s.piece;
            gains =
                subst (λ t. Gains l l' t (asked ++ s.written))
                (ap (λ t. t ++ s.piece) came-before ∙ append_assoc answered held' s.piece) gains;
            stops = stops-later Bye bye_line s.written (held' ++ s.piece) l n l' new new fault (f.calm
                ∙ granted.calm) s.stops;
          }

      -- BYE was answered
      pub pull-done : (l' : LinkSeen) (rest : List ℕ) (number : ℕ) → Passes Bye bye_line ok_line held' rest n l'
          → number ≡ length new → IsPulled secret old new l l' number
      pull-done l' rest number p is =
          let asked = (admin_line secret ++ f.lines) ++ log_line (length new) in
          let answered = (ok_line ++ f.texts) ++ f.reply in
          let gains : Gains l l' ((granted.piece ++ f.piece) ++ p.piece) (asked ++ bye_line) =
          gains-more l n l' (granted.piece ++ f.piece) asked p.piece bye_line before-bye p.gains in
          let taken : (granted.piece ++ f.piece) ++ p.piece ≡ (answered ++ ok_line) ++ rest =
          pieces-join [] (granted.piece ++ f.piece) answered held' p.piece ok_line rest came-before p.came in
          record {
            asked = asked;
            answered = answered;
            rest = rest;
            served = served;
            gains = subst (λ t. Gains l l' t (asked ++ bye_line)) taken gains;
            calm = p.calm ∙ (f.calm ∙ granted.calm);
            length_is = is;
          }
