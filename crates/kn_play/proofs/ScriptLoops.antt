-- A script that is being played: its requests are taken one by one, and what they come to in the end.
use Rattle.std.proofs.Common.{◌≡◌, ◌<◌, ◌≤◌, ◌+◌, ◌-◌, ℕ, Bool, true, false, ◌||◌, Option, List, [], ◌∷◌, ◌++◌, length}
use Rattle.std.proofs.Common.{take, drop, arith, refl, sym, ap, ◌∙◌, subst, Some, None, append_assoc, append-nil}
use Rattle.std.proofs.Common.{take-append-drop, take_all, take_at}
use Rattle.std.specs.List.{list_any, slice_range}
use Rattle.std.proofs.Math.Seq.{take-add}
use Rattle.std.proofs.lemmas.List.{length_push}
use Rattle.kn_history.specs.declared.update.Update.{Update}
use Rattle.kn_wire.specs.Requests.{Request, Takes, AreRequests}
use Rattle.kn_wire.specs.Feeding.{Held, Bytes, held_bytes, with_piece, next_of}
use Rattle.kn_wire.proofs.Growing.{next-grows, pushed-pushed, pushed-nothing, pushed-not_shut, none-left}
use Rattle.kn_wire.proofs.Readings.{takes-push}
use Rattle.kn_session.specs.Sessions.{OpenSessions}
use Rattle.kn_daemon.specs.Daemon.{State, first_state}
use Rattle.kn_daemon.specs.Served.{is_bye, is_block}
use Rattle.kn_daemon.specs.Underway.{IsSmall}
use Rattle.kn_daemon.specs.Played.{after_request, played, is_last, up_to_end, no_config}
use Rattle.kn_daemon.proofs.Serving.{next-not_shut}
use Rattle.kn_daemon.proofs.Counts.{played-small}
use Rattle.kn_play.specs.declared.asking.Asked.{Asked}
use Rattle.kn_play.specs.declared.answering.Step.{Step}
use Rattle.kn_play.specs.declared.playing.AnsweredQuery.{AnsweredQuery}
use Rattle.kn_play.specs.Playing.{state_of_sessions, NumbersGoOn, IsNoAnsweredQuery, Asks, IsRequestPlayed, PlaysNext}
use Rattle.kn_play.specs.Playing.{IsFed, TakesRequest, IsSpent, TakesOne, IsScriptRead, Next, AskNothing, HasLast}
use Rattle.kn_play.specs.Playing.{IsPlayed, IsBeingPlayed, later_of}
use Rattle.kn_play.proofs.Requests.{GoOn, goes-on, ends-at, go-on}

-- Pieces.

pub range-joins : (script : List ℕ) (from end : ℕ) → from ≤ end
    → take end script ≡ take from script ++ slice_range script from end
range-joins script from end less =
    let size : end ≡ from + (end - from) = omega arith in
    ap (λ n. take n script) size ∙ take-add from (end - from) script

pub feeds-piece : (script : List ℕ) (from end : ℕ) (held after : Held) (piece : List ℕ) (requests : List Request)
    → IsFed script from held requests
    → end ≤ length script → take end script ≡ take from script ++ piece → after ≡ with_piece held piece
    → IsFed script end after requests
feeds-piece script from end held after piece requests fed within more same =
    subst (λ h. IsFed script end h requests) (sym same)
    (record {
      within = within;
      begins = λ rest.
          subst (Takes (take end script ++ rest) requests) (sym (pushed-pushed held piece rest))
          (subst (λ text. Takes text requests (held_bytes (with_piece held (piece ++ rest))))
          (sym (append_assoc (take from script) piece rest) ∙ ap (λ front. front ++ rest) (sym more))
          (fed.begins (piece ++ rest)));
      not_shut = pushed-not_shut held piece fed.not_shut;
    })

or-right : (a b : Bool) → (a || b) ≡ false → b ≡ false
or-right true b e = cc
or-right false b e = e

module _ (script : List ℕ) (requests : List Request) (from : ℕ) where
  pub takes-request : (held after : Held) (request : Request) → IsFed script from held requests
      → next_of held ≡ Some (request, after)
      → TakesRequest script requests from after request
  takes-request held after request fed next =
      record {
        within = fed.within;
        begins = λ more.
            takes-push (take from script ++ more) requests (held_bytes (with_piece held more)) request
            (held_bytes (with_piece after more)) (fed.begins more)
            (next-grows held after request more fed.not_shut next);
        not_shut = λ goes_on. next-not_shut held after request fed.not_shut
            (or-right (is_bye request) (is_block request) goes_on) next;
      }

  -- more can be taken behind a request that doesn't end the script
  pub fed-on : (held : Held) (request : Request) → TakesRequest script requests from held request
      → is_last request ≡ false
      → IsFed script from held (requests ++ request ∷ [])
  fed-on held request t goes_on = record { within = t.within; begins = t.begins; not_shut = t.not_shut goes_on }

  -- the requests that were taken are the first ones of the script
  pub taken-first : (held : Held)
      → ((more : List ℕ) → Takes (take from script ++ more) requests (held_bytes (with_piece held more)))
      → GoOn script requests
  taken-first held begins =
      go-on script requests (held_bytes (with_piece held (drop from script)))
      (subst (λ text. Takes text requests (held_bytes (with_piece held (drop from script))))
      (take-append-drop from script)
      (begins (drop from script)))

  -- and all of them, where no more is left
  pub spent-all : (held : Held) → IsSpent script requests from held → AreRequests script requests (held_bytes held)
  spent-all held spent =
      let all = spent.all in
      let text : take from script ++ [] ≡ script = append-nil (take from script)
      ∙ take_all from script (omega (arith, all)) in
      record {
        taken = subst (λ t. Takes t requests (held_bytes held)) text
            (subst (Takes (take from script ++ []) requests) (pushed-nothing held) (spent.fed.begins []));
        no_more = none-left held spent.none;
      }

takes-one : (history : List Update) (script : List ℕ) (requests : List Request) (old : OpenSessions) (from : ℕ)
    (held after : Held) (new : OpenSessions) (step : Step) (request : Request)
    → IsFed script from held requests → next_of held ≡ Some (request, after)
    → IsRequestPlayed history old request new step → TakesOne history script requests old from after new step
takes-one history script requests old from held after new step request fed next played =
    record {
      request = request;
      taken = takes-request script requests from held after request fed next;
      played =
          played;
    }

-- what the next request came to, where these bytes were fed before it and the sessions are as they were
pub next-taken : (history : List Update) (script : List ℕ) (requests : List Request) (was old : OpenSessions) (from : ℕ)
    (held after : Held) (new : OpenSessions) (o : Option Step) (step : Step) → old ≡ was
    → IsFed script from held requests → PlaysNext history old held new after o → o ≡ Some step
    → TakesOne history script requests was from after new step
next-taken history script requests was old from held after new o step same fed answers is =
    let a : PlaysNext history old held new after (Some step) =
    subst (PlaysNext history old held new after) is answers in
    subst (λ s. TakesOne history script requests s from after new step) same
    (takes-one history script requests old from held after new step a.0 fed a.1 a.2)

pub next-dry : (history : List Update) (script : List ℕ) (requests : List Request) (was old : OpenSessions) (from : ℕ)
    (held after : Held) (new : OpenSessions) (o : Option Step) → old ≡ was
    → IsFed script from held requests → from ≡ length script → PlaysNext history old held new after o → o ≡ None
    → IsScriptRead script requests was from after new
next-dry history script requests was old from held after new o same fed all answers is =
    let a : PlaysNext history old held new after None = subst (PlaysNext history old held new after) is answers in
    record {
      spent = record {
        all = all;
        fed = subst (λ h. IsFed script from h requests) (sym a.1) fed;
        none = subst (λ h. next_of h ≡ None) (sym a.1) a.0;
      };
      same = a.2 ∙ same;
    }

pub is-taken : (history : List Update) (script : List ℕ) (requests : List Request) (old : OpenSessions) (from : ℕ)
    (held : Held) (new : OpenSessions) (o : Option Step) (step : Step)
    → Next history script requests old from held new o → o ≡ Some step
    → TakesOne history script requests old from held new step
is-taken history script requests old from held new o step next is =
    subst (Next history script requests old from held new) is next

pub is-dry : (history : List Update) (script : List ℕ) (requests : List Request) (old : OpenSessions) (from : ℕ)
    (held : Held) (new : OpenSessions) (o : Option Step)
    → Next history script requests old from held new o → o ≡ None → IsScriptRead script requests old from held new
is-dry history script requests old from held new o next is =
    subst (Next history script requests old from held new) is next

-- States.

pub played-append : (history : List Update) (state : State) (front back : List Request)
    → played no_config history state (front ++ back)
    ≡ played no_config history (played no_config history state front) back
played-append history state [] back = refl
played-append history state (request ∷ front) back =
    played-append history (after_request no_config history state request) front back

-- The last query.

nothing-push : (history : List Update) (state : State) (requests : List Request) (request : Request)
    → AskNothing history state requests → IsNoAnsweredQuery (played no_config history state requests) request
    → AskNothing history state (requests ++ request ∷ [])
nothing-push history state [] request nothing none = (none, tt)
nothing-push history state (first ∷ requests) request nothing none =
    (nothing.0, nothing-push history (after_request no_config history state first) requests request nothing.1 none)

pub nothing-at : (history : List Update) (state : State) (between : List Request) (other : Request)
    (rest : List Request) → AskNothing history state (between ++ other ∷ rest)
    → IsNoAnsweredQuery (played no_config history state between) other
nothing-at history state [] other rest nothing = nothing.0
nothing-at history state (first ∷ between) other rest nothing =
    nothing-at history (after_request no_config history state first) between other rest nothing.1

last-later : (history : List Update) (requests : List Request) (request : Request) (count : ℕ)
    (last : Option AnsweredQuery)
    (asked : Option Asked) → length requests ≡ count
    → HasLast history requests last → Asks (played no_config history first_state requests) request asked
    → HasLast history (requests ++ request ∷ []) (later_of last count asked)
last-later history requests request count last (Some asked) size has asks =
    record {
      front = requests;
      query = request;
      behind = [];
      cut = refl;
      before = sym size;
      asks = asks;
      last = tt;
    }
last-later history requests request count None None size has none =
    nothing-push history first_state requests request has none
last-later history requests request count (Some last) None size has none =
    let here : List Request = has.front ++ has.query ∷ [] in
    let cut : requests ≡ here ++ has.behind = has.cut ∙ sym (append_assoc has.front (has.query ∷ []) has.behind) in
    let state : played no_config history first_state requests
    ≡ played no_config history (played no_config history first_state here) has.behind =
    ap (played no_config history first_state) cut ∙ played-append history first_state here has.behind in
    record {
      front = has.front;
      query = has.query;
      behind = has.behind ++ request ∷ [];
      cut = ap (λ rs. rs ++ request ∷ []) has.cut ∙ append_assoc has.front (has.query ∷ has.behind) (request ∷ []);
      before = has.before;
      asks = has.asks;
      last = nothing-push history (played no_config history first_state here) has.behind request has.last
          (subst (λ s. IsNoAnsweredQuery s request) state none);
    }

-- Steps of the loop.

pub begun : (history : List Update) (script : List ℕ) (held : Held) (sessions : OpenSessions) → held ≡ Bytes []
    → sessions ≡ record { started = 0; sessions = [] }
    → IsBeingPlayed history script 0 held [] sessions None 0
begun history script held sessions empty first =
    record {
      fed = subst (λ h. IsFed script 0 h []) (sym empty)
          (record { within = omega arith; begins = λ more. refl; not_shut = refl });
      goes_on = refl;
      state = ap state_of_sessions first;
      last = tt;
      size = refl;
    }

pub has-room : (history : List Update) (script : List ℕ) (from : ℕ) (held : Held) (requests : List Request)
    (sessions : OpenSessions) (last : Option AnsweredQuery) (count : ℕ)
    → IsBeingPlayed history script from held requests sessions last count → count < 2147483648 → NumbersGoOn sessions
has-room history script from held requests sessions last count u few =
    let small : IsSmall (length requests) (state_of_sessions sessions) =
    subst (IsSmall (length requests)) (sym u.state) (played-small no_config history requests) in
    let started = small.started in
    let size = u.size in
    record {
      started = omega (arith, started, size, few);
      made = λ s session found. let made = small.made s session found in omega (arith, made, size, few);
    }

pub any-push : (requests : List Request) (request : Request) → list_any is_last requests ≡ false
    → is_last request ≡ false → list_any is_last (requests ++ request ∷ []) ≡ false
any-push [] request none last = ap (λ t. t || false) last
any-push (first ∷ requests) request none last = by (is_last first) none (λ rest. any-push requests request rest last)
  where
    by : (t : Bool) → (t || list_any is_last requests) ≡ false
        → (list_any is_last requests ≡ false → list_any is_last (requests ++ request ∷ []) ≡ false)
        → (t || list_any is_last (requests ++ request ∷ [])) ≡ false
    by true none rest = cc
    by false none rest = rest none

module _ (history : List Update) (script : List ℕ) (from : ℕ) (held : Held) (requests : List Request)
    (old : OpenSessions) (last : Option AnsweredQuery) (count : ℕ)
    (u : IsBeingPlayed history script from held requests old last count) where
  module _ (fed : ℕ) (after : Held) (new : OpenSessions) (step : Step)
      (t : TakesOne history script requests old fed after new step) where
    all : List Request
    all = requests ++ t.request ∷ []

    state-all : state_of_sessions new ≡ played no_config history first_state all
    unfolding all
    state-all = t.played.state ∙ ap (λ s. after_request no_config history s t.request) u.state
        ∙ sym (played-append history first_state requests (t.request ∷ []))

    last-all : HasLast history all (later_of last count step.asked)
    unfolding all
    last-all = last-later history requests t.request count last step.asked u.size u.last
        (subst (λ s. Asks s t.request step.asked) u.state t.played.asks)

    size-all : length all ≡ count + 1
    unfolding all
    size-all = length_push requests t.request ∙ ap (λ n. n + 1) u.size

    -- one more request that doesn't end the script
    pub goes-further : step.is_last ≡ false
        → IsBeingPlayed history script fed after (requests ++ t.request ∷ []) new (later_of last count step.asked)
        (count + 1)
    unfolding all
    goes-further more =
        let goes_on : is_last t.request ≡ false = sym t.played.last ∙ more in
        record {
          fed = fed-on script requests fed after t.request t.taken goes_on;
          goes_on = any-push requests t.request u.goes_on goes_on;
          state = state-all;
          last = last-all;
          size = size-all;
        }

    -- the request that ends the script
    pub finished-last : (most : ℕ) → step.is_last ≡ true → count < most
        → IsPlayed history script most (record { sessions = new; last = later_of last count step.asked })
    unfolding all
    finished-last most ends more =
        let last_one : is_last t.request ≡ true = sym t.played.last ∙ ends in
        let g = taken-first script all fed after t.taken.begins in
        let size = size-all in
        let whole : take most all ≡ all = take_all most all (omega (arith, size, more)) in
        record {
          requests = all;
          these = record {
            all = all ++ g.others;
            rest = g.rest;
            whole = g.whole;
            end = ap up_to_end (append_assoc requests (t.request ∷ []) g.others)
                ∙ goes-on requests (t.request ∷ g.others) u.goes_on
                ∙ ap (λ back. requests ++ back) (ends-at t.request g.others last_one);
          };
          state = state-all ∙ ap (played no_config history first_state) (sym whole);
          last = subst (λ rs. HasLast history rs (later_of last count step.asked)) (sym whole) last-all;
        }

  -- no whole request is left
  pub finished-dry : (fed : ℕ) (after : Held) (new : OpenSessions) (most : ℕ)
      → IsScriptRead script requests old fed after new → count ≤ most
      → IsPlayed history script most (record { sessions = new; last = last })
  finished-dry fed after new most dry more =
      let size = u.size in
      let whole : take most requests ≡ requests = take_all most requests (omega (arith, size, more)) in
      record {
        requests = requests;
        these = record {
          all = requests;
          rest = held_bytes after;
          whole = spent-all script requests fed after dry.spent;
          end = ap up_to_end (sym (append-nil requests)) ∙ goes-on requests [] u.goes_on ∙ append-nil requests;
        };
        state = ap state_of_sessions dry.same ∙ u.state ∙ ap (played no_config history first_state) (sym whole);
        last = subst (λ rs. HasLast history rs last) (sym whole) u.last;
      }

  -- as many requests were played as there are to be
  pub finished-most : IsPlayed history script count (record { sessions = old; last = last })
  finished-most =
      let g = taken-first script requests from held u.fed.begins in
      let front : take count (requests ++ up_to_end g.others) ≡ requests =
      take_at requests (up_to_end g.others) count u.size in
      record {
        requests = requests ++ up_to_end g.others;
        these = record {
          all = requests ++ g.others;
          rest = g.rest;
          whole = g.whole;
          end =
              goes-on requests g.others u.goes_on;
        };
        state = u.state ∙ ap (played no_config history first_state) (sym front);
        last = subst (λ rs. HasLast history rs last) (sym front) u.last;
      }
