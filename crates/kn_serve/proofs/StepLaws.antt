-- The next request of a connection, where it is a fault.
use Rattle.std.proofs.Common.{◌≡◌, Bool, true, false, inl, inr, refl, ap, subst}
use Rattle.std.specs.Prelude.{Option, Result, Err, ◌⊎◌}
use Rattle.kn_outside.specs.Seen.{LinkSeen}
use Rattle.kn_wire.specs.declared.fault.WireFault.{WireFault}
use Rattle.kn_wire.specs.declared.fault.WireFault.TheVariants as F
use Rattle.kn_wire.specs.declared.request.Request.{Request}
use Rattle.kn_wire.specs.Requests.{Faulty}
use Rattle.kn_wire.specs.Requests as Q
use Rattle.kn_wire.specs.Feeding.{Held}
use Rattle.kn_wire.specs.Feeds.{IsAnswer}
use Rattle.kn_daemon.specs.Shapes.{shape_of}
use Rattle.kn_daemon.specs.Daemon.{DaemonConfig, State}
use Rattle.kn_daemon.specs.Served.{is_bye, is_block}
use Rattle.kn_registry.specs.Passes.{PassSeen}
use Rattle.kn_serve.specs.Handling.{Moment, in_state, Tells, TakesNext}
use Rattle.kn_serve.proofs.HandlingLaws.{told_handled}

goes_on : (fault : WireFault) → (fault ≡ F.Syntax) ⊎ ((fault ≡ F.Command) ⊎ (fault ≡ F.Long)) →
    is_block (Faulty fault) ≡ false
goes_on fault (inl e) = ap (λ (f : WireFault). is_block (Faulty f)) e
goes_on fault (inr (inl e)) = ap (λ (f : WireFault). is_block (Faulty f)) e
goes_on fault (inr (inr e)) = ap (λ (f : WireFault). is_block (Faulty f)) e

module _ (g : DaemonConfig) (v : PassSeen) (now : State) (l l' : LinkSeen) (h h' : Held)
    (answer : Result (Option Request) WireFault) (fault : WireFault) (answered : IsAnswer h answer h')
    (is : answer ≡ Err fault) where
  abbrev before : Moment
  before = in_state now v l

  abbrev after : Moment
  after = in_state now v l'

  -- the feed answered a fault, and its refusal was told
  pub refused_took : (whole : Bool) → Tells g (shape_of (Faulty fault)) whole now now l l' →
      TakesNext g before after h h' (Faulty fault) whole
  refused_took whole told = record {
    next = subst (λ (a : Result (Option Request) WireFault). IsAnswer h a h') is answered;
    handled = told_handled g (shape_of (Faulty fault)) whole v now now l l' told;
  }

  -- and it is this one
  pub refused_as : (whole : Bool) (other : WireFault) → Tells g (shape_of (Faulty fault)) whole now now l l' →
      fault ≡ other → TakesNext g before after h h' (Faulty other) whole
  refused_as whole other told same =
      subst (λ (f : WireFault). TakesNext g before after h h' (Faulty f) whole) same (refused_took whole told)

  -- and it doesn't end the connection
  pub refused_line : Tells g (shape_of (Faulty fault)) true now now l l' →
      (fault ≡ F.Syntax) ⊎ ((fault ≡ F.Command) ⊎ (fault ≡ F.Long)) →
      (request : Q.Request) × TakesNext g before after h h' request true × (is_bye request ≡ false)
      × (is_block request ≡ false)
  refused_line told line = (Faulty fault, refused_took true told, refl, goes_on fault line)
