-- A caller's requests at legal places of one history (keynoted's own).
use Rattle.std.specs.Prelude.{ℕ, ◌≡◌, ◌≤◌, ◌<◌, Bool, true, false, List, [], ◌∷◌, ◌++◌, length, map, take, filter_map}
use Rattle.std.specs.Prelude.{slice_range, Option, Some, None, option_map}
use Rattle.kn_reply.specs.declared.refusal.Refusal.{Refusal}
use Rattle.kn_reply.specs.declared.refusal.Refusal.TheVariants as R
use Rattle.kn_reply.specs.declared.refusal.ItemRefusal.TheVariants as I
use Rattle.kn_history.specs.declared.update.Update.{Update}
use Rattle.kn_wire.specs.Requests.{Request}
use Rattle.kn_wire.specs.Items.{items_of}
use Rattle.kn_reply.specs.Replies.{Reply, Number, Added, Batched, No, NoMemory, reply_text}
use Rattle.kn_history.specs.Batches.{batch_by}
use Rattle.kn_history.specs.History.{is_valid_history, addition_by, removal_by, own_updates}
use Rattle.kn_daemon.specs.Shapes.{AddText, DropId, ApplyBlock, Shape, Updates, Looks, shape_of}
use Rattle.kn_daemon.specs.Daemon.{DaemonConfig, State, Permits, read_items}

-- a request, its reply, and the place in the history where it stands: after so many updates
pub record Exchange : Type 0 where
  pub request : Request
  pub reply : Reply
  pub place : ℕ

-- the replies follow from one another, each at its place of the one history
abbrev pub Along : DaemonConfig → ℕ → List Update → State → List Exchange → State → Type 0
Along g caller history old [] new = new ≡ old
Along g caller history old (e ∷ es) new =
    (mid : State) × Permits g caller (take e.place history) old (shape_of e.request) e.reply mid
    × Along g caller history mid es new

abbrev pub requests_in : List Exchange → List Request
requests_in exchanges = map (λ e. e.request) exchanges

abbrev pub texts_in : List Exchange → List (List ℕ)
texts_in exchanges = map (λ e. reply_text e.reply) exchanges

-- The caller's update that a request of this shape asks for and its reply names, if it names one: the reply says that
-- it was accepted, and tells the id of an addition, or of a batch's first one.
abbrev pub update_by : ℕ → Shape → Reply → Option Update
update_by caller (Updates (AddText text)) (Added id version) = Some (addition_by caller text id)
update_by caller (Updates (DropId id)) (Number version) = Some (removal_by caller id)
update_by caller (Updates (ApplyBlock block)) (Batched first added version) =
    option_map (batch_by caller first) (read_items (items_of block))
update_by caller shape reply = None

abbrev pub update_of : ℕ → Exchange → Option Update
update_of caller e = update_by caller (shape_of e.request) e.reply

-- what an exchange has to be behind: an update stands past all before it
abbrev pub IsBehind : Option Update → ℕ → ℕ → Type 0
IsBehind None low place = low ≤ place
IsBehind (Some update) low place = low < place

-- the places do not fall, and lie from `low` to `high`
abbrev pub InOrder : ℕ → ℕ → List Exchange → ℕ → Type 0
InOrder caller low [] high = low ≤ high
InOrder caller low (e ∷ es) high = IsBehind (update_of caller e) low e.place × InOrder caller e.place es high

-- Whether this refusal of a request of this shape is the history's, so that it depends on the place, and not the
-- state's. What isn't there and limits are the history's of an update, or of an item of one, and else the state's.
abbrev pub is_by_history : Shape → Refusal → Bool
is_by_history (Updates update) R.Unknown = true
is_by_history (Updates update) (R.Limit word count) = true
is_by_history (Updates update) (R.Item item I.Unknown) = true
is_by_history (Updates update) (R.Item item (I.Limit word count)) = true
is_by_history (Looks look) (R.Retained newest) = true
is_by_history (Looks look) (R.Ahead newest) = true
is_by_history shape refusal = false

-- the history at the place is changed or looked at
abbrev pub meets_history : Shape → Bool
meets_history (Updates update) = true
meets_history (Looks look) = true
meets_history shape = false

-- whether a reply that is permitted to a request of this shape depends on its place: an update was accepted there, or a
-- version or updates were taken, or the history refused it
abbrev pub is_placed : Shape → Reply → Bool
is_placed shape (No refusal) = is_by_history shape refusal
is_placed shape NoMemory = false
is_placed shape reply = meets_history shape

-- where the turn was had for an exchange: at its place if the reply depends on that, and else nowhere or once somewhere
abbrev pub StandsFor : Bool → ℕ → List ℕ → Type 0
StandsFor true place entries = entries ≡ place ∷ []
StandsFor false place entries = length entries ≤ 1

-- where the turn was had for all of them, in order
abbrev pub StopsAt : List Exchange → List ℕ → Type 0
StopsAt [] stops = stops ≡ []
StopsAt (e ∷ es) stops =
    (entries : List ℕ) × (later : List ℕ) × StandsFor (is_placed (shape_of e.request) e.reply) e.place entries
    × StopsAt es later × (stops ≡ entries ++ later)

-- The exchanges stand at legal places of one history, the caller's own updates between `start` and `end` are those of
-- its accepted requests, and the turn was had at `stops`.
pub record IsLinearized (caller : ℕ) (history : List Update) (start end : ℕ) (stops : List ℕ)
    (exchanges : List Exchange) : Type 0 where
  pub valid : is_valid_history history ≡ true
  pub within : end ≤ length history
  pub in_order : InOrder caller start exchanges end
  pub own : own_updates caller (slice_range history start end) ≡ filter_map (update_of caller) exchanges
  pub stopped : StopsAt exchanges stops
