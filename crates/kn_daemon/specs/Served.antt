-- A connection served, and why it ended (keynoted's own).
use Rattle.std.specs.Prelude.{ℕ, ◌≡◌, ◌≢◌, ◌-◌, ◌≤◌, ◌<◌, Bool, true, false, List, [], ◌∷◌, ◌++◌, length, take}
use Rattle.std.specs.Prelude.{flat_map, Some, None, ◌⊎◌}
use Rattle.std.specs.List.{list_any, last_or}
use Rattle.kn_base.specs.declared.limits.TheConstants.{REQUESTS}
use Rattle.kn_wire.specs.declared.fault.WireFault.TheVariants as F
use Rattle.kn_history.specs.declared.update.Update.{Update}
use Rattle.kn_wire.specs.Requests.{Request, Bye, Faulty, Takes}
use Rattle.kn_wire.specs.Requests.{first_of}
use Rattle.kn_daemon.specs.declared.ended.Ended.{Ended}
use Rattle.kn_daemon.specs.declared.ended.Ended.TheVariants as E
use Rattle.kn_daemon.specs.Daemon.{DaemonConfig, State, first_state}
use Rattle.kn_daemon.specs.Linearized.{Exchange, Along, IsLinearized, requests_in, texts_in}

abbrev pub is_bye : Request → Bool
is_bye Bye = true
is_bye request = false

-- a block that is refused
abbrev pub is_block : Request → Bool
is_block (Faulty (F.Block n)) = true
is_block request = false

-- of the texts, the last only in part
pub record IsCut (written : List ℕ) (texts : List (List ℕ)) : Type 0 where
  pub whole : List (List ℕ)
  pub last : List ℕ
  pub at : ℕ
  pub these : texts ≡ whole ++ last ∷ []
  pub part : at < length last
  pub bytes : written ≡ flat_map (λ text. text) whole ++ take at last

-- what was written: all replies, or where a write failed not all of the last
abbrev pub IsWritten : Ended → List ℕ → List (List ℕ) → Type 0
IsWritten E.WriteFault written texts = IsCut written texts
IsWritten ended written texts = written ≡ flat_map (λ text. text) texts

-- none of the requests ends the connection
pub record GoesOn (requests : List Request) : Type 0 where
  pub no_bye : list_any is_bye requests ≡ false
  pub no_block : list_any is_block requests ≡ false

-- all requests of what was taken were answered, fewer than a connection has, and none of them ends the connection
pub record IsDrained (requests : List Request) (rest : List ℕ) : Type 0 where
  pub no_more : first_of rest ≡ None
  pub goes_on : GoesOn requests
  pub fewer : length requests < REQUESTS

-- why a connection ended, where these requests were answered, these bytes left, and `is_over` says whether the input
-- had ended
abbrev pub HasEnd : Ended → Bool → List Request → List ℕ → Type 0
HasEnd E.Done is_over requests rest =
    (last_or None requests ≡ Some Bye) ⊎ (IsDrained requests rest × (rest ≡ []) × (is_over ≡ true))
HasEnd E.Memory is_over requests rest = (requests ≡ []) × (rest ≡ [])
HasEnd E.ReadFault is_over requests rest = IsDrained requests rest
HasEnd E.WriteFault is_over requests rest = requests ≢ []
HasEnd (E.Cut held) is_over requests rest =
    IsDrained requests rest × (is_over ≡ true) × (held ≡ length rest) × (0 < held)
HasEnd (E.Block n) is_over requests rest = last_or None requests ≡ Some (Faulty (F.Block n))
HasEnd E.Budget is_over requests rest = (length requests ≡ REQUESTS) × GoesOn requests

-- A connection served: the bytes taken and written, how it ended, whether the input had ended, the history, the part of
-- it that was seen in the call, whose connection, and where the turn was had.
pub record IsServed (g : DaemonConfig) (taken written : List ℕ) (ended : Ended) (is_over : Bool) (history : List Update)
    (start end caller : ℕ) (stops : List ℕ) : Type 0 where
  pub exchanges : List Exchange
  pub rest : List ℕ
  pub last : State
  pub requests : Takes taken (requests_in exchanges) rest
  pub replies : Along g caller history first_state exchanges last
  pub places : IsLinearized caller history start end stops exchanges
  pub bytes : IsWritten ended written (texts_in exchanges)
  pub one_bye : list_any is_bye (take (length exchanges - 1) (requests_in exchanges)) ≡ false
  pub count : length exchanges ≤ REQUESTS
  pub why : HasEnd ended is_over (requests_in exchanges) rest
