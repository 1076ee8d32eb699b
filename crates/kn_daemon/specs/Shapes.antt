-- Requests by shape (keynoted's own): what sort of thing each asks. What may be replied to a request, and what it
-- changes, is said by its shape.
use Rattle.std.specs.Prelude.{ℕ, ◌≡◌, ◌≤◌, ⊤, true, List, length}
use Rattle.kn_base.specs.declared.limits.TheConstants.{ASSERTION_BYTES}
use Rattle.kn_session.specs.Calls.{Call, call_of, asserted_text}
use Rattle.kn_session.specs.Calls as C
use Rattle.kn_wire.specs.declared.fault.WireFault.{WireFault}
use Rattle.kn_wire.specs.Hex.{bytes_of_hex}
use Rattle.kn_wire.specs.Requests.{Request, Open, Close, Pin, Assert, Retract, Set, SetHex, Unset, Auth, Unauth, Clear}
use Rattle.kn_wire.specs.Requests.{Query, Watch, News, Unwatch, Critical, Admin, Add, Drop, Batch, PinAt, Log, Bye}
use Rattle.kn_wire.specs.Requests.{Faulty, is_hex}
use Rattle.kn_daemon.specs.declared.shape.Shape.{Shape as Asked}
use Rattle.kn_daemon.specs.declared.shape.Shape.TheVariants as S

-- an update of the shared credentials
pub data Updating : Type 0 where
  AddText : List ℕ → Updating
  DropId : ℕ → Updating
  ApplyBlock : List ℕ → Updating

-- A look at the history at the place of the request: its version for a new session, or for an open one; for an open
-- session a retained version, by its number; its version for a standing query; or the updates behind the first n.
pub data Look : Type 0 where
  ForOpen : Look
  ForPin : ℕ → Look
  ForPinAt : ℕ → ℕ → Look
  ForNews : ℕ → Look
  ForLog : ℕ → Look

-- How a question is answered: with rows that prove the level, with the critical assertions, or by the level alone, and
-- then it is kept as the session's standing query.
pub data Question : Type 0 where
  WithProof : Question
  WithCritical : Question
  ToKeep : Question

-- what concerns the connection itself
pub data Control : Type 0 where
  ShowSecret : List ℕ → Control
  Leave : Control

-- A call of one session; an update; a look at the history at the place; a question on a session, with the names of the
-- compliance values; what concerns the connection; or a fault.
pub data Shape : Type 0 where
  Calls : ℕ → Call → Shape
  Updates : Updating → Shape
  Looks : Look → Shape
  Asks : Question → ℕ → List ℕ → Shape
  Controls : Control → Shape
  AtFault : WireFault → Shape

abbrev pub shape_of : Request → Shape
shape_of Open = Looks ForOpen
shape_of (Close s) = Calls s C.Close
shape_of (Pin s) = Looks (ForPin s)
shape_of (Assert s text) = Calls s (C.Assert text)
shape_of (Retract s k) = Calls s (C.Retract k)
shape_of (Set s name value) = Calls s (C.Set name value)
shape_of (SetHex s name digits) = Calls s (C.Set name (bytes_of_hex digits))
shape_of (Unset s name) = Calls s (C.Unset name)
shape_of (Auth s text) = Calls s (C.Auth text)
shape_of (Unauth s text) = Calls s (C.Unauth text)
shape_of (Clear s) = Calls s C.Clear
shape_of (Query s names) = Asks WithProof s names
shape_of (Watch s names) = Asks ToKeep s names
shape_of (News s) = Looks (ForNews s)
shape_of (Unwatch s) = Calls s C.Unwatch
shape_of (Critical s names) = Asks WithCritical s names
shape_of (Admin digits) = Controls (ShowSecret (bytes_of_hex digits))
shape_of (Add text) = Updates (AddText text)
shape_of (Drop k) = Updates (DropId k)
shape_of (Batch block) = Updates (ApplyBlock block)
shape_of (PinAt s version) = Looks (ForPinAt s version)
shape_of (Log n) = Looks (ForLog n)
shape_of Bye = Controls Leave
shape_of (Faulty fault) = AtFault fault

-- what a shape in code stands for
abbrev pub shape_in_code : Asked → Shape
shape_in_code (S.Call s call) = Calls s (call_of call)
shape_in_code (S.SetHex s name digits) = Calls s (C.Set name.now (bytes_of_hex digits.now))
shape_in_code S.Open = Looks ForOpen
shape_in_code (S.Pin s) = Looks (ForPin s)
shape_in_code (S.Add block) = Updates (AddText block.now)
shape_in_code (S.Remove k) = Updates (DropId k)
shape_in_code (S.Batch block) = Updates (ApplyBlock block.now)
shape_in_code (S.PinAt s version) = Looks (ForPinAt s version)
shape_in_code (S.Log n) = Looks (ForLog n)
shape_in_code (S.News s) = Looks (ForNews s)
shape_in_code (S.Query s values) = Asks WithProof s values.now
shape_in_code (S.Watch s values) = Asks ToKeep s values.now
shape_in_code (S.Critical s values) = Asks WithCritical s values.now
shape_in_code (S.Admin digits) = Controls (ShowSecret (bytes_of_hex digits.now))
shape_in_code S.Bye = Controls Leave

-- its parts are of their form: digits are hexadecimal digits, an even number of them, and no text of an assertion and
-- no block is too long
abbrev pub IsFormed : Asked → Type 0
IsFormed (S.Call s call) = length (asserted_text (call_of call)) ≤ ASSERTION_BYTES
IsFormed (S.SetHex s name digits) = is_hex digits.now ≡ true
IsFormed S.Open = ⊤
IsFormed (S.Pin s) = ⊤
IsFormed (S.Add block) = length block.now ≤ ASSERTION_BYTES
IsFormed (S.Remove k) = ⊤
IsFormed (S.Batch block) = length block.now ≤ ASSERTION_BYTES
IsFormed (S.PinAt s version) = ⊤
IsFormed (S.Log n) = ⊤
IsFormed (S.News s) = ⊤
IsFormed (S.Query s values) = ⊤
IsFormed (S.Watch s values) = ⊤
IsFormed (S.Critical s values) = ⊤
IsFormed (S.Admin digits) = is_hex digits.now ≡ true
IsFormed S.Bye = ⊤
