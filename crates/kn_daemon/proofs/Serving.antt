-- A connection that is being served: one more request, and its end.
use Rattle.std.proofs.Common.{◌≡◌, ◌≢◌, ◌<◌, ◌≤◌, ◌+◌, ◌-◌, ℕ, Bool, true, false, Option, List, [], ◌∷◌, ◌++◌, length}
use Rattle.std.proofs.Common.{take, drop, filter_map, flat_map, option_to_list, option_map, cond, inl, inr, arith, refl}
use Rattle.std.proofs.Common.{sym, ap, ◌∙◌, subst, Some, None, append_assoc, append-nil, length-append, take_all}
use Rattle.std.proofs.Common.{take_at, le_refl}
use Rattle.std.specs.List.{list_any, last_or, cons_option}
use Rattle.std.proofs.lemmas.List.{map_push, length_push, length-map, length-drop, flat_map_more, take-append-le}
use Rattle.std.proofs.lemmas.List.{drop-append-le, drop_all, take_rest}
use Rattle.std.proofs.lemmas.List.Elements.{filter-append, filter_map-append}
use Rattle.kn_wire.specs.declared.fault.WireFault.{WireFault}
use Rattle.kn_wire.specs.declared.fault.WireFault.TheVariants as F
use Rattle.kn_history.specs.declared.update.Update.{Update}
use Rattle.kn_wire.specs.Requests.{Request, Bye, Faulty, Takes}
use Rattle.kn_wire.specs.Requests.{first_of, is_newline}
use Rattle.kn_reply.specs.Replies.{Reply, reply_text}
use Rattle.kn_history.specs.History.{is_valid_history, own_updates}
use Rattle.kn_daemon.specs.declared.ended.Ended.{Ended}
use Rattle.kn_daemon.specs.declared.ended.Ended.TheVariants as E
use Rattle.kn_daemon.specs.Shapes.{shape_of}
use Rattle.kn_daemon.specs.Daemon.{DaemonConfig, State, first_state, Permits}
use Rattle.kn_daemon.specs.Linearized.{Exchange, Along, InOrder, IsBehind, StopsAt, update_of, update_by, requests_in}
use Rattle.kn_daemon.specs.Linearized.{texts_in}
use Rattle.kn_wire.specs.Feeding.{Held, Bytes, InLong, Shut, held_bytes, with_piece, held_after}
use Rattle.kn_wire.specs.Feeding.{held_after_fault, next_of, is_shut}
use Rattle.kn_daemon.specs.Served.{IsDrained, IsCut, IsWritten, HasEnd, IsServed, is_bye, is_block}
use Rattle.kn_daemon.specs.Underway.{IsUnderway, IsReplied}
use Rattle.kn_daemon.specs.Laws.{HasNoRequest}
use Rattle.kn_wire.proofs.Growing.{no_request, same_first, next-grows, pushed-pushed, pushed-nothing, pushed-not_shut}
use Rattle.kn_wire.proofs.Growing.{none-left}
use Rattle.kn_wire.proofs.Readings.{takes-push}
use Rattle.kn_daemon.proofs.Runs.{order-ends, order-push, along-longer, along-push, stops-push, last-push, any-take}
use Rattle.kn_daemon.proofs.Runs.{any-push}

-- what the updates that were seen meanwhile say of the place of the request's own
behind : (caller : ℕ) (history more : List Update) (o : Option Update) → own_updates caller more ≡ option_to_list o
    → IsBehind o (length history) (length (history ++ more))
behind caller history more None own = let sizes = length-append history more in omega (arith, sizes)
behind caller history [] (Some update) own = absurd (no_update own)
  where
    no_update : [] ≡ update ∷ [] → ⊥
    no_update e = cc
behind caller history (first ∷ more) (Some update) own =
    let sizes = length-append history (first ∷ more) in omega (arith, sizes)

one-of : (o : Option Update) → cons_option o [] ≡ option_to_list o
one-of None = refl
one-of (Some update) = refl

-- after a request that goes on, more can be taken
not_shut-after : (text : List ℕ) (request : Request) (left : List ℕ) → is_block request ≡ false
    → is_shut (held_after text request left) ≡ false
not_shut-after text (Faulty fault) left h = by_fault fault h
  where
    by_line : (t : Bool) → is_shut (cond t (Bytes left) InLong) ≡ false
    by_line true = refl
    by_line false = refl

    by_fault : (fault : WireFault) → is_block (Faulty fault) ≡ false
        → is_shut (held_after_fault text fault left) ≡ false
    by_fault F.Syntax h = refl
    by_fault F.Command h = refl
    by_fault F.Long h = by_line (list_any is_newline text)
    by_fault (F.Block n) h = cc
not_shut-after text request left h = refl

pub next-not_shut : (held after : Held) (request : Request) → is_shut held ≡ false → is_block request ≡ false
    → next_of held ≡ Some (request, after) → is_shut after ≡ false
next-not_shut (Bytes text) after request no_block goes_on e = by (first_of text) e
  where
    spent : Request × List ℕ → Request × Held
    spent first = (first.0, held_after text first.0 first.1)

    by : (first : Option (Request × List ℕ)) → option_map spent first ≡ Some (request, after) → is_shut after ≡ false
    by None e = absurd (no_request (request, after) e)
    by (Some first) e =
        let same : (first.0, held_after text first.0 first.1) ≡ (request, after) =
        same_first (first.0, held_after text first.0 first.1) (request, after) e in
        let request_same : first.0 ≡ request = ap (λ (p : Request × Held). p.0) same in
        sym (ap (λ (p : Request × Held). is_shut p.1) same)
        ∙ not_shut-after text first.0 first.1 (ap is_block request_same ∙ goes_on)
next-not_shut InLong after request no_block goes_on e = absurd (no_request (request, after) e)
next-not_shut (Shut n) after request no_block goes_on e = cc

module _ (g : DaemonConfig) (taken written : List ℕ) (history more : List Update) (start caller : ℕ)
    (stops entries : List ℕ)
    (old new : State) (held after : Held) (answered : ℕ) (request : Request) (reply : Reply)
    (u : IsUnderway g taken written history start caller stops old held answered)
    (next : next_of held ≡ Some (request, after))
    (r : IsReplied g caller history more entries old (shape_of request) reply new) where
  abbrev exchange : Exchange
  exchange = record { request = request; reply = reply; place = length (history ++ more) }

  abbrev all : List Exchange
  all = u.exchanges ++ exchange ∷ []

  requests-all : requests_in all ≡ requests_in u.exchanges ++ request ∷ []
  requests-all = map_push _ u.exchanges exchange

  texts-all : texts_in all ≡ texts_in u.exchanges ++ reply_text reply ∷ []
  texts-all = map_push _ u.exchanges exchange

  taken-all : (bytes : List ℕ) → Takes (taken ++ bytes) (requests_in all) (held_bytes (with_piece after bytes))
  taken-all bytes =
      subst (λ requests. Takes (taken ++ bytes) requests (held_bytes (with_piece after bytes))) (sym requests-all)
      (takes-push (taken ++ bytes) (requests_in u.exchanges) (held_bytes (with_piece held bytes)) request
      (held_bytes (with_piece after bytes)) (u.requests bytes) (next-grows held after request bytes u.not_shut next))

  replies-all : Along g caller (history ++ more) first_state all new
  replies-all =
      along-push g caller (history ++ more) first_state u.exchanges old exchange new
      (along-longer g caller history more start (length history) first_state u.exchanges old
      (le_refl (length history)) u.in_order u.replies)
      (subst (λ past. Permits g caller past old (shape_of request) reply new)
      (sym (take_all (length (history ++ more)) (history ++ more)
      (le_refl (length (history ++ more))))) r.permitted)

  order-all : InOrder caller start all (length (history ++ more))
  order-all =
      order-push caller start u.exchanges (length history) exchange u.in_order
      (behind caller history more (update_by caller (shape_of request) reply) r.own)

  own-all : own_updates caller (drop start (history ++ more)) ≡ filter_map (update_of caller) all
  own-all =
      ap (own_updates caller) (drop-append-le start history more
      (order-ends caller start u.exchanges (length history) u.in_order))
      ∙ filter-append _ (drop start history) more
      ∙ ap (λ front. front ++ own_updates caller more) u.own
      ∙ ap (λ back. filter_map (update_of caller) u.exchanges ++ back)
      (r.own ∙ sym (one-of (update_by caller (shape_of request) reply)))
      ∙ sym (filter_map-append (update_of caller) u.exchanges (exchange ∷ []))

  stops-all : StopsAt all (stops ++ entries)
  stops-all = stops-push u.exchanges stops exchange entries u.stopped r.stood

  bytes-all : written ++ reply_text reply ≡ flat_map (λ text. text) (texts_in all)
  bytes-all =
      ap (λ front. front ++ reply_text reply) u.bytes
      ∙ flat_map_more (λ (text : List ℕ). text) [] (texts_in u.exchanges) (reply_text reply)
      ∙ ap (flat_map (λ text. text)) (sym texts-all)

  count-all : length all ≡ answered + 1
  count-all = length_push u.exchanges exchange ∙ ap (λ n. n + 1) u.count

  pub answers-one : is_bye request ≡ false → is_block request ≡ false
      → IsUnderway g taken (written ++ reply_text reply)
      (history ++ more) start caller (stops ++ entries) new after (answered + 1)
  answers-one not_bye not_block =
      record {
        exchanges = all;
        requests = taken-all;
        not_shut = next-not_shut held after request u.not_shut not_block next;
        goes_on = record {
          no_bye =
              ap (list_any is_bye) requests-all ∙ any-push is_bye
              (requests_in u.exchanges) request u.goes_on.no_bye not_bye;
          no_block =
              ap (list_any is_block) requests-all ∙ any-push is_block
              (requests_in u.exchanges) request u.goes_on.no_block not_block;
        };
        count = count-all;
        replies = replies-all;
        in_order = order-all;
        own = own-all;
        stopped = stops-all;
        bytes = bytes-all;
      }

  pub last-all : last_or None (requests_in all) ≡ Some request
  last-all = ap (last_or None) requests-all ∙ last-push None (requests_in u.exchanges) request

  bye-all : list_any is_bye (take (length all - 1) (requests_in all)) ≡ false
  bye-all =
      let size : length all - 1 ≡ length u.exchanges = let l = length_push u.exchanges exchange in omega (arith, l) in
      ap (λ n. list_any is_bye (take n (requests_in all))) size
      ∙ ap (λ requests. list_any is_bye (take (length u.exchanges) requests)) requests-all
      ∙ ap (list_any is_bye) (take_at (requests_in u.exchanges) (request ∷ []) (length u.exchanges)
      (length-map u.exchanges _))
      ∙ u.goes_on.no_bye

  pub served-last : (ended : Ended) (is_over : Bool) (bytes : List ℕ) → answered < 1000000
      → is_valid_history (history ++ more) ≡ true
      → IsWritten ended bytes (texts_in all) → HasEnd ended is_over (requests_in all) (held_bytes after)
      → IsServed g taken bytes ended is_over (history ++ more) start (length (history ++ more)) caller
      (stops ++ entries)
  served-last ended is_over bytes fewer valid is_written why =
      record {
        exchanges = all;
        rest = held_bytes after;
        last = new;
        requests =
            subst (λ text. Takes text (requests_in all) (held_bytes after)) (append-nil taken)
            (subst (Takes (taken ++ []) (requests_in all)) (pushed-nothing after) (taken-all []));
        replies = replies-all;
        places = record {
          valid = valid;
          within = le_refl (length (history ++ more));
          in_order = order-all;
          own = ap (own_updates caller) (take_rest (history ++ more) start) ∙ own-all;
          stopped = stops-all;
        };
        bytes = is_written;
        one_bye = bye-all;
        count = let c = count-all in omega (arith, c, fewer);
        why = why;
      }

  pub cut-last : (at : ℕ) → at < length (reply_text reply)
      → IsCut (written ++ take at (reply_text reply)) (texts_in all)
  cut-last at part =
      record {
        whole = texts_in u.exchanges;
        last = reply_text reply;
        at = at;
        these = texts-all;
        part = part;
        bytes = ap (λ front. front ++ take at (reply_text reply)) u.bytes;
      }

  pub some-all : requests_in all ≢ []
  some-all none =
      let size : length (requests_in all) ≡ 0 = ap length none in
      let all_size : length (requests_in all) ≡ length all = length-map all _ in
      let l = length_push u.exchanges exchange in
      omega (arith, size, all_size, l)

-- Ends behind a last request.

pub ends-by_bye : (g : DaemonConfig) (taken written : List ℕ) (history more : List Update) (start caller : ℕ)
    (stops entries : List ℕ) (old new : State) (held after : Held) (answered : ℕ) (reply : Reply) (is_over : Bool)
    → IsUnderway g taken written history start caller stops old held answered → answered < 1000000
    → next_of held ≡ Some (Bye, after) → IsReplied g caller history more entries old (shape_of Bye) reply new
    → is_valid_history (history ++ more) ≡ true
    → IsServed g taken (written ++ reply_text reply) E.Done is_over (history ++ more) start
    (length (history ++ more)) caller (stops ++ entries)
ends-by_bye g taken written history more start caller stops entries old new held after answered reply is_over u fewer
    next r valid =
    served-last g taken written history more start caller stops entries old new held after answered Bye reply u next r
    E.Done is_over (written ++ reply_text reply) fewer valid
    (bytes-all g taken written history more start caller stops entries old new held after answered Bye reply u next r)
    (inl (last-all g taken written history more start caller stops entries old new held after answered Bye reply u next
    r))

pub ends-by_block : (g : DaemonConfig) (taken written : List ℕ) (history more : List Update) (start caller : ℕ)
    (stops entries : List ℕ) (old new : State) (held after : Held) (answered n : ℕ) (reply : Reply) (is_over : Bool)
    → IsUnderway g taken written history start caller stops old held answered → answered < 1000000
    → next_of held ≡ Some (Faulty (F.Block n), after)
    → IsReplied g caller history more entries old (shape_of (Faulty (F.Block n))) reply new
    → is_valid_history (history ++ more) ≡ true
    → IsServed g taken (written ++ reply_text reply)
    (E.Block n) is_over (history ++ more) start (length (history ++ more)) caller (stops ++ entries)
ends-by_block g taken written history more start caller stops entries old new held after answered n reply is_over u
    fewer next r valid =
    served-last g taken written history more start caller stops entries old new held after answered
    (Faulty (F.Block n)) reply u next r (E.Block n) is_over (written ++ reply_text reply) fewer valid
    (bytes-all g taken written history more start caller stops entries old new held after answered
    (Faulty (F.Block n)) reply u next r)
    (last-all g taken written history more start caller stops entries old new held after answered
    (Faulty (F.Block n)) reply u next r)

pub ends-by_write : (g : DaemonConfig) (taken written : List ℕ) (history more : List Update) (start caller : ℕ)
    (stops entries : List ℕ) (old new : State) (held after : Held) (answered at : ℕ) (request : Request) (reply : Reply)
    (is_over : Bool)
    → IsUnderway g taken written history start caller stops old held answered → answered < 1000000
    → next_of held ≡ Some (request, after) → IsReplied g caller history more entries old (shape_of request) reply new
    → at < length (reply_text reply) → is_valid_history (history ++ more) ≡ true
    → IsServed g taken (written ++ take at (reply_text reply)) E.WriteFault is_over (history ++ more) start
    (length (history ++ more)) caller (stops ++ entries)
ends-by_write g taken written history more start caller stops entries old new held after answered at request reply
    is_over u fewer next r part valid =
    served-last g taken written history more start caller stops entries old new held after answered request reply u next
    r E.WriteFault is_over (written ++ take at (reply_text reply)) fewer valid
    (cut-last g taken written history more start caller stops entries old new held after answered request reply u next r
    at part)
    (some-all g taken written history more start caller stops entries old new held after answered request reply u next
    r)

-- The start, one more piece, and ends between requests.

pub begins : (g : DaemonConfig) (history : List Update) (caller : ℕ)
    → IsUnderway g [] [] history (length history) caller [] first_state (Bytes []) 0
begins g history caller =
    record {
      exchanges = [];
      requests = λ more. refl;
      not_shut = refl;
      goes_on = record { no_bye = refl; no_block = refl };
      count = refl;
      replies = refl;
      in_order = le_refl (length history);
      own = ap (own_updates caller) (drop_all (length history) history (le_refl (length history)));
      stopped = refl;
      bytes = refl;
    }

pub takes-piece : (g : DaemonConfig) (taken written : List ℕ) (history : List Update) (start caller : ℕ)
    (stops : List ℕ)
    (state : State) (held : Held) (answered : ℕ) (piece : List ℕ)
    → IsUnderway g taken written history start caller stops state held answered
    → IsUnderway g (taken ++ piece) written history start caller stops state (with_piece held piece) answered
takes-piece g taken written history start caller stops state held answered piece u =
    record {
      exchanges = u.exchanges;
      requests = λ more.
          subst (λ text. Takes text (requests_in u.exchanges) (held_bytes (with_piece (with_piece held piece) more)))
          (sym (append_assoc taken piece more))
          (subst (Takes (taken ++ (piece ++ more)) (requests_in u.exchanges)) (sym (pushed-pushed held piece more))
          (u.requests (piece ++ more)));
      not_shut = pushed-not_shut held piece u.not_shut;
      goes_on = u.goes_on;
      count = u.count;
      replies = u.replies;
      in_order = u.in_order;
      own = u.own;
      stopped = u.stopped;
      bytes = u.bytes;
    }

module _ (g : DaemonConfig) (taken written : List ℕ) (history : List Update) (start caller : ℕ) (stops : List ℕ)
    (state : State) (held : Held) (answered : ℕ)
    (u : IsUnderway g taken written history start caller stops state held answered)
    (valid : is_valid_history history ≡ true) where
  pub served-now : (ended : Ended) (is_over : Bool) → answered ≤ 1000000
      → IsWritten ended written (texts_in u.exchanges)
      → HasEnd ended is_over (requests_in u.exchanges) (held_bytes held)
      → IsServed g taken written ended is_over history start (length history) caller stops
  served-now ended is_over within is_written why =
      record {
        exchanges = u.exchanges;
        rest = held_bytes held;
        last = state;
        requests =
            subst (λ text. Takes text (requests_in u.exchanges) (held_bytes held)) (append-nil taken)
            (subst (Takes (taken ++ []) (requests_in u.exchanges)) (pushed-nothing held) (u.requests []));
        replies = u.replies;
        places = record {
          valid = valid;
          within = le_refl (length history);
          in_order = u.in_order;
          own = ap (own_updates caller) (take_rest history start) ∙ u.own;
          stopped = u.stopped;
        };
        bytes = is_written;
        one_bye = any-take is_bye (length u.exchanges - 1) (requests_in u.exchanges) u.goes_on.no_bye;
        count = let c = u.count in omega (arith, c, within);
        why = why;
      }

  pub size-now : length (requests_in u.exchanges) ≡ answered
  size-now = length-map u.exchanges _ ∙ u.count

  drained : answered < 1000000 → next_of held ≡ None → IsDrained (requests_in u.exchanges) (held_bytes held)
  drained fewer none = record {
    no_more = none-left held none;
    goes_on = u.goes_on;
    fewer = let s = size-now in omega (arith, s, fewer);
  }

  pub ends-dry : answered < 1000000 → next_of held ≡ None → HasNoRequest g taken written history start caller stops held
  ends-dry fewer none =
      let within : answered ≤ 1000000 = omega (arith, fewer) in
      let dry = drained fewer none in
      record {
        by_read = λ is_over. served-now E.ReadFault is_over within u.bytes dry;
        by_end = λ nothing. served-now E.Done true within u.bytes (inr (dry, nothing, refl));
        by_cut = λ some. served-now (E.Cut (length (held_bytes held))) true within u.bytes (dry, refl, refl, some);
      }

pub ends-by_budget : (g : DaemonConfig) (taken written : List ℕ) (history : List Update) (start caller : ℕ)
    (stops : List ℕ)
    (state : State) (held : Held) (is_over : Bool)
    → IsUnderway g taken written history start caller stops state held 1000000 → is_valid_history history ≡ true
    → IsServed g taken written E.Budget is_over history start (length history) caller stops
ends-by_budget g taken written history start caller stops state held is_over u valid =
    served-now g taken written history start caller stops state held 1000000 u valid E.Budget is_over
    (le_refl 1000000) u.bytes
    (size-now g taken written history start caller stops state held 1000000 u valid, u.goes_on)

pub ends-by_memory : (g : DaemonConfig) (history : List Update) (caller : ℕ) (is_over : Bool)
    → is_valid_history history ≡ true
    → IsServed g [] [] E.Memory is_over history (length history) (length history) caller []
unfolding begins
ends-by_memory g history caller is_over valid =
    served-now g [] [] history (length history) caller [] first_state (Bytes []) 0
    (begins g history caller) valid E.Memory is_over (omega arith) refl (refl, refl)

-- a longer history
pub served-longer : (g : DaemonConfig) (taken written : List ℕ) (ended : Ended) (is_over : Bool)
    (history more : List Update)
    (start end caller : ℕ) (stops : List ℕ)
    → is_valid_history (history ++ more) ≡ true → IsServed g taken written ended is_over history start end caller stops
    → IsServed g taken written ended is_over (history ++ more) start end caller stops
served-longer g taken written ended is_over history more start end caller stops valid s =
    let within = s.places.within in
    let ends = order-ends caller start s.exchanges end s.places.in_order in
    let sizes = length-append history more in
    let rest = length-drop start history in
    record {
      exchanges = s.exchanges;
      rest = s.rest;
      last = s.last;
      requests = s.requests;
      replies =
          along-longer g caller history more start end first_state s.exchanges s.last within s.places.in_order
          s.replies;
      places = record {
        valid = valid;
        within = omega (arith, within, sizes);
        in_order = s.places.in_order;
        own =
            ap (λ part. own_updates caller (take (end - start) part))
            (drop-append-le start history more (omega (arith, within, ends)))
            ∙ ap (own_updates caller) (take-append-le (end - start) (drop start history) more
            (omega (arith, within, rest)))
            ∙ s.places.own;
        stopped = s.places.stopped;
      };
      bytes = s.bytes;
      one_bye = s.one_bye;
      count = s.count;
      why = s.why;
    }
