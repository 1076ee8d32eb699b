-- Connections that were served: what contracts see of one, and what holds of it (keynoted's own).
use Rattle.std.specs.Prelude.{ℕ, ◌≡◌, ◌<◌, ◌⊎◌, Bool, true, false, List, [], ◌∷◌, ◌++◌, flat_map, slice_range, IfSome}
use Rattle.kn_outside.specs.Seen.{LinkSeen}
use Rattle.kn_history.specs.declared.update.Update.{Update}
use Rattle.kn_daemon.specs.declared.ended.Ended.{Ended}
use Rattle.kn_daemon.specs.declared.ended.Ended.TheVariants as E
use Rattle.kn_daemon.specs.Daemon.{DaemonConfig}
use Rattle.kn_daemon.specs.Served.{IsServed}
use Rattle.kn_serve.specs.Serving.{is_over, IsOrderly}
use Rattle.kn_history.specs.History.{own_updates}

-- A connection: its link, how it ended, the number of the pass that served it, the lengths of what that pass had seen
-- before and after, and those at which it had the turn.
pub record ServedSeen (C : Type 0) : Type 0 where
  pub link : C
  pub ended : Ended
  pub caller : ℕ
  pub from : ℕ
  pub to : ℕ
  pub stops : List ℕ

-- whether a connection ended because a call of its link failed
abbrev pub is_fault : Ended → Bool
is_fault E.ReadFault = true
is_fault E.WriteFault = true
is_fault ended = false

-- nothing was taken of a link and nothing written to it, if it tells that, and no call of it failed
pub record IsNew (l : LinkSeen) : Type 0 where
  pub taken : IfSome l.taken (λ bytes. bytes ≡ [])
  pub written : IfSome l.written (λ bytes. bytes ≡ [])
  pub faults : l.faults ≡ 0

-- The caller's connection was served over this history: all that was taken of its link and written to it, if the link
-- tells that. Only where it ended by a fault did a call of its link fail. Where the link tells an input that is in
-- order, and no call of it failed, all of it was answered unless memory ran out.
pub record IsConnection {C : Type 0} (seen : C → LinkSeen) (g : DaemonConfig) (history : List Update) (caller : ℕ)
    (s : ServedSeen C) : Type 0 where
  pub number : s.caller ≡ caller
  pub taken : List ℕ
  pub written : List ℕ
  pub took : IfSome (seen s.link).taken (λ bytes. bytes ≡ taken)
  pub wrote : IfSome (seen s.link).written (λ bytes. bytes ≡ written)
  pub served : IsServed g taken written s.ended (is_over (seen s.link).left) history s.from s.to caller s.stops
  pub cause : is_fault s.ended ≡ true → 0 < (seen s.link).faults
  pub calm : is_fault s.ended ≡ false → (seen s.link).faults ≡ 0
  pub complete : IfSome (seen s.link).taken
      (λ given. IfSome (seen s.link).left (λ left. IsOrderly (given ++ left) → (seen s.link).faults ≡ 0
      → (s.ended ≡ E.Done) ⊎ (s.ended ≡ E.Memory)))

module _ {C : Type 0} where
  -- what was seen in the connections follows one another, from one length to another
  abbrev pub FollowEachOther : ℕ → List (ServedSeen C) → ℕ → Type 0
  FollowEachOther start [] end = start ≡ end
  FollowEachOther start (s ∷ later) end = (s.from ≡ start) × FollowEachOther s.to later end

  -- the lengths at which the turn was had in all of them
  abbrev pub stops_of : List (ServedSeen C) → List ℕ
  stops_of connections = flat_map (λ s. s.stops) connections

  -- the caller's own updates that a history has between the lengths of its connections
  abbrev pub own_in : List Update → ℕ → List (ServedSeen C) → List Update
  own_in history caller connections = flat_map (λ s. own_updates caller (slice_range history s.from s.to)) connections
