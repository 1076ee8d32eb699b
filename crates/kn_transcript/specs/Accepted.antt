-- Accepted transcripts (keynoted's own).
use Rattle.std.specs.Prelude.{ℕ, ◌≡◌, Bool, true, false, List, [], ◌++◌, length, map, take, flat_map, count_by, All}
use Rattle.std.specs.List.{list_any}
use Rattle.kn_base.specs.declared.limits.TheConstants.{REQUESTS}
use Rattle.kn_history.specs.declared.update.Update.{Update}
use Rattle.kn_wire.specs.Requests.{Request, AreRequests}
use Rattle.kn_session.specs.Calls.{Unwatch}
use Rattle.kn_reply.specs.Replies.{Reply, Value, reply_text}
use Rattle.kn_reply_reader.specs.Texts.{HasText}
use Rattle.kn_daemon.specs.Daemon.{State, first_state}
use Rattle.kn_daemon.specs.Shapes.{ForNews, ForLog, WithCritical, ToKeep, Shape, Calls, Looks, Asks, shape_of}
use Rattle.kn_daemon.specs.Played.{up_to_end}
use Rattle.kn_transcript.specs.Followed.{Answered, Follows}

-- What a transcript doesn't judge: standing queries, critical assertions, and updates that are handed on.

abbrev pub is_foreign_shape : Shape → Bool
is_foreign_shape (Calls s Unwatch) = true
is_foreign_shape (Looks (ForNews s)) = true
is_foreign_shape (Looks (ForLog n)) = true
is_foreign_shape (Asks ToKeep s names) = true
is_foreign_shape (Asks WithCritical s names) = true
is_foreign_shape shape = false

-- a request that a transcript doesn't judge
abbrev pub is_foreign : Request → Bool
is_foreign request = is_foreign_shape (shape_of request)

-- the requests that are meant: up to the one that ends a connection, and as many as a connection has
abbrev pub meant_of : List Request → List Request
meant_of requests = take REQUESTS (up_to_end requests)

abbrev pub is_value : Reply → Bool
is_value (Value index name version rows) = true
is_value reply = false

abbrev pub requests_in : List Answered → List Request
requests_in answered = map (λ a. a.request) answered

abbrev pub text_in : List Answered → List ℕ
text_in answered = flat_map (λ a. reply_text a.reply) answered

-- The first requests of a script were answered by the first bytes of the replies, each by a reply that is permitted.
-- Then these requests and these bytes are left, and these are the history and the state.
pub record IsFollowed (past : List Update) (script replies : List ℕ) (answered : List Answered) (behind : List Request)
    (left : List ℕ) (history : List Update) (state : State) : Type 0 where
  pub requests : List Request
  pub rest : List ℕ
  pub read : AreRequests script requests rest
  pub cut : meant_of requests ≡ requests_in answered ++ behind
  pub judged : list_any is_foreign (requests_in answered) ≡ false
  pub texts : replies ≡ text_in answered ++ left
  pub each : All (λ a. HasText a.reply) answered
  pub follows : Follows past first_state answered history state

-- The transcript is accepted: all requests that are meant are answered, and no bytes are left. So many replies give a
-- value, and then there are so many updates.
pub record IsAcceptedTranscript (past : List Update) (script replies : List ℕ) (answers version : ℕ) : Type 0 where
  pub answered : List Answered
  pub history : List Update
  pub state : State
  pub followed : IsFollowed past script replies answered [] [] history state
  pub values : answers ≡ count_by (λ a. is_value a.reply) answered
  pub updates : version ≡ length history
