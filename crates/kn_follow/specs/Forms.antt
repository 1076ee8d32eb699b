-- The form of a reply to LOG (keynoted's own line protocol).
use Rattle.std.specs.Prelude.{ℕ, ◌≡◌, ◌⊎◌, ◌+◌, ◌-◌, ◌<◌, ◌≤◌, min, List, ◌∷◌, ◌++◌, length, take, map, flat_map}
use Rattle.std.specs.Prelude.{codes, decimal}
use Rattle.std.specs.List.{AllByRecursion}
use Rattle.kn_base.specs.declared.limits.TheConstants.{CHANGES, LOG_UPDATES}
use Rattle.kn_history.specs.declared.update.Update.{Update}
use Rattle.kn_wire.specs.Items.{BatchItem, item_text, IsShortItem}
use Rattle.kn_reply.specs.Logs.{item_of_change}

-- an update as a reply tells it: its caller, and its changes as items, so without the ids of additions
pub record ReceivedUpdate : Type 0 where
  pub caller : ℕ
  pub items : List BatchItem

abbrev pub received_update : Update → ReceivedUpdate
received_update u = record { caller = u.caller; items = map (λ c. item_of_change c.change c.id) u.changes }

abbrev pub received_text : ReceivedUpdate → List ℕ
received_text u = codes "UPDATE " ++ decimal u.caller ++ 32 ∷ decimal (length u.items) ++ 10
    ∷ flat_map item_text u.items

-- a reply to a client that holds the first `from` updates, where there are `place` of them: it hands on these
pub record LogReply : Type 0 where
  pub from : ℕ
  pub place : ℕ
  pub updates : List ReceivedUpdate

abbrev pub form_text : LogReply → List ℕ
form_text reply =
    codes "LOG " ++ decimal reply.from ++ 32 ∷ decimal (length reply.updates) ++ 32 ∷ decimal reply.place
    ++ 10 ∷ flat_map received_text reply.updates ++ codes "END\n"

-- an update has from 1 to 256 changes, and its numbers have at most nine digits
pub record IsTellable (u : ReceivedUpdate) : Type 0 where
  pub caller : u.caller < 1000000000
  pub some : 1 ≤ length u.items
  pub few : length u.items ≤ CHANGES
  pub items : AllByRecursion IsShortItem u.items

-- a reply hands on the updates behind the first `from`, all of them or as many as a reply may
pub record HasForm (reply : LogReply) : Type 0 where
  pub behind : reply.from ≤ reply.place
  pub short : reply.place < 1000000000
  pub count : length reply.updates ≡ min LOG_UPDATES (reply.place - reply.from)
  pub each : AllByRecursion IsTellable reply.updates

-- the text is of the form
pub record IsLogText (text : List ℕ) (reply : LogReply) : Type 0 where
  pub form : HasForm reply
  pub same : text ≡ form_text reply

-- some text of the form begins so
pub record IsFront (front : List ℕ) : Type 0 where
  pub reply : LogReply
  pub rest : List ℕ
  pub form : HasForm reply
  pub begins : form_text reply ≡ front ++ rest

-- The text departs from the form at this byte: what is in front of it begins some text of the form, and no such text
-- begins with it and this byte, or the text breaks off there.
pub record DepartsAt (text : List ℕ) (at : ℕ) : Type 0 where
  pub front : IsFront (take at text)
  pub unformed : (reply : LogReply) → IsLogText text reply → ⊥
  pub stops : (at ≡ length text) ⊎ ((at < length text) × (IsFront (take (at + 1) text) → ⊥))
