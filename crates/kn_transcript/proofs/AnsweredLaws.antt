-- Requests that were answered, one more at a time.
use Rattle.std.proofs.Common.{◌≡◌, ℕ, Bool, true, false, cond, List, [], ◌∷◌, ◌++◌, length, filter, refl, sym, ap, ◌∙◌}
use Rattle.std.proofs.Common.{subst, append_assoc, append-nil}
use Rattle.std.specs.Prelude.{count_by}
use Rattle.std.specs.List.{list_any}
use Rattle.std.proofs.lemmas.List.{map_push, flat_map_more, length_push}
use Rattle.std.proofs.lemmas.List.Elements.{All-push, All-nil, filter-append}
use Rattle.std.proofs.lemmas.List.Sums.{length-filter}
use Rattle.kn_history.specs.declared.update.Update.{Update}
use Rattle.kn_wire.specs.Requests.{Request}
use Rattle.kn_reply.specs.Replies.{Reply, reply_text}
use Rattle.kn_reply_reader.specs.Texts.{HasText}
use Rattle.kn_daemon.specs.Shapes.{shape_of}
use Rattle.kn_daemon.specs.Daemon.{State, first_state}
use Rattle.kn_daemon.proofs.Runs.{any-push}
use Rattle.kn_transcript.specs.declared.progress.Progress.{Progress}
use Rattle.kn_transcript.specs.Followed.{Answered, Follows, IsPermitted, history_behind}
use Rattle.kn_transcript.specs.Accepted.{IsFollowed, is_foreign, is_value, requests_in, text_in}
use Rattle.kn_transcript.specs.Judging.{state_of}
use Rattle.kn_transcript.specs.Progress.{IsAnsweredBy, HasComeTo, AreMeant, count_value}

-- one more reply is followed
pub follows-push : (past : List Update) (old : State) (answered : List Answered) (history : List Update) (state : State)
    (request : Request) (reply : Reply) (new : State)
    → Follows past old answered history state → IsPermitted history state (shape_of request) reply new
    → Follows past old (answered ++ record { request = request; reply = reply } ∷ [])
    (history_behind history (shape_of request) reply) new
follows-push past old [] history state request reply new is permitted = (
  new,
  subst (λ (h : List Update). IsPermitted h old (shape_of request) reply new) is.0
      (subst (λ (s : State). IsPermitted history s (shape_of request) reply new) is.1 permitted),
  (ap (λ (h : List Update). history_behind h (shape_of request) reply) is.0, refl),
)
follows-push past old (a ∷ answered) history state request reply new (mid, first, later) permitted = (
  mid,
  first,
  follows-push (history_behind past (shape_of a.request) a.reply) mid answered history state request reply new later
      permitted,
)

pub requests-push : (answered : List Answered) (request : Request) (reply : Reply)
    → requests_in (answered ++ record { request = request; reply = reply } ∷ []) ≡ requests_in answered ++ request ∷ []
requests-push answered request reply =
    map_push (λ (a : Answered). a.request) answered (record { request = request; reply = reply })

texts-push : (answered : List Answered) (request : Request) (reply : Reply)
    → text_in (answered ++ record { request = request; reply = reply } ∷ []) ≡ text_in answered ++ reply_text reply
texts-push answered request reply =
    sym (flat_map_more (λ (a : Answered). reply_text a.reply) [] answered (record { request = request; reply = reply }))

-- count_by goes over a list from its front, so that one more element is told by `filter`
count-push : {X : Type 0} (p : X → Bool) (xs : List X) (x : X)
    → count_by p (xs ++ x ∷ []) ≡ count_value (count_by p xs) (p x)
count-push {X = X} p xs x =
    sym (length-filter p (xs ++ x ∷ [])) ∙ ap length (filter-append p xs (x ∷ []))
    ∙ by (p x) (filter p xs) ∙ ap (λ (n : ℕ). count_value n (p x)) (length-filter p xs)
  where
    by : (b : Bool) (ys : List X) → length (ys ++ cond b (x ∷ []) []) ≡ count_value (length ys) b
    by true ys = length_push ys x
    by false ys = ap length (append-nil ys)

pub first-come : (past : List Update) (replies : List ℕ) (progress : Progress) → progress.book ≡ past
    → progress.left.now ≡ replies → progress.answers ≡ 0 → state_of progress.connection ≡ first_state
    → HasComeTo past replies [] progress
first-come past replies progress book left answers state = record {
  judged = refl;
  texts = sym left;
  each = All-nil (λ (a : Answered). HasText a.reply);
  follows = (book, state);
  values = answers;
}

module _ (past : List Update) (replies : List ℕ) (answered : List Answered) (old : Progress)
    (come : HasComeTo past replies answered old) where
  -- and another one
  pub come-on : (request : Request) (new : Progress) (a : IsAnsweredBy old request new)
      → HasComeTo past replies (answered ++ record { request = request; reply = a.takes.reply } ∷ []) new
  come-on request new a =
      let reply = a.takes.reply in
      let taken = a.takes.taken in
      record {
        judged = subst (λ (rs : List Request). list_any is_foreign rs ≡ false)
            (sym (requests-push answered request reply))
            (any-push is_foreign (requests_in answered) request come.judged a.judged);
        texts =
            come.texts ∙ ap (λ (l : List ℕ). text_in answered ++ l) taken.cut
            ∙ sym (append_assoc (text_in answered) (reply_text reply) new.left.now)
            ∙ ap (λ (l : List ℕ). l ++ new.left.now) (sym (texts-push answered request reply));
        each = All-push (λ (a : Answered). HasText a.reply) answered (record { request = request; reply = reply })
            come.each taken.text;
        follows =
            subst (λ (h : List Update).
            Follows past first_state (answered ++ record { request = request; reply = reply } ∷ []) h
            (state_of new.connection))
            (sym a.takes.behind)
            (follows-push past first_state answered old.book (state_of old.connection) request reply
            (state_of new.connection)
            come.follows taken.permitted);
        values =
            a.values ∙ ap (λ (n : ℕ). count_value n (is_value reply)) come.values
            ∙ sym (count-push (λ (a : Answered). is_value a.reply) answered
            (record { request = request; reply = reply }));
      }

  -- these requests of the script were answered, and these are left
  pub followed : (script : List ℕ) (behind : List Request) → AreMeant script (requests_in answered) behind
      → IsFollowed past script replies answered behind old.left.now old.book (state_of old.connection)
  followed script behind meant = record {
    requests = meant.all;
    rest = meant.rest;
    read = meant.read;
    cut = meant.cut;
    judged = come.judged;
    texts = come.texts;
    each = come.each;
    follows = come.follows;
  }
