-- The first fault and the first departure, place by place.
use Rattle.std.proofs.Common.{◌≡◌, ℕ, Bool, List, [], ◌∷◌, ◌++◌, Option, Some, None, if◌then◌else◌, refl}
use Rattle.std.specs.Option.{option_or}
use Rattle.kn_lex.specs.Cutting.{TokenView}
use Rattle.kn_fields.specs.Fields.{Field, field_with}
use Rattle.kn_fields.specs.Faults.{is_bad_field, is_second}
use Rattle.kn_fields.specs.Expectations.{expecting_behind, departs}
use Rattle.kn_fields.specs.Scanning.{first_place, order_place, version_place, end_place, departure, constant_place}
use Rattle.kn_fields.specs.Scanning.{fault_at, fault_without, fault_in}
use Rattle.kn_fields.specs.declared.constants.Expecting.TheVariants.{Setting}
use Rattle.kn_fields.specs.declared.fault.ReadFault.{ReadFault}
use Rattle.kn_fields.specs.declared.fault.ReadFault.TheVariants.{BadField, FieldTwice, FieldOrder, NoAuthorizer}
use Rattle.kn_fields.specs.declared.fault.ReadFault.TheVariants.{Version, Constant}
use Rattle.kn_fields.proofs.Lists.{expecting_steps}

pub place_over : (is_bad : List TokenView → TokenView → Bool) (before : List TokenView)
    → first_place is_bad before [] ≡ None
unfolding first_place
place_over is_bad before = refl

pub place_here : (is_bad : List TokenView → TokenView → Bool) (before : List TokenView) (token : TokenView)
    (tokens : List TokenView)
    → first_place is_bad before (token ∷ tokens)
    ≡ (if is_bad before token then Some token.span.start else first_place is_bad (before ++ token ∷ []) tokens)
unfolding first_place
place_here is_bad before token tokens = refl

pub departure_by : (tokens : List TokenView) (label : Option ℕ)
    → departure tokens label
    ≡ option_or (first_place departs [] tokens) (end_place label (expecting_behind Setting tokens))
unfolding departure
departure_by tokens label = refl

-- a step of the loop that looks for a departure
pub ruleset departure_steps = (expecting_steps, place_over, place_here, departure_by)

pub fault_in_order : (tokens : List TokenView)
    → fault_in tokens
    ≡ fault_at BadField (first_place is_bad_field [] tokens) (fault_at FieldTwice (first_place is_second [] tokens)
    (fault_at FieldOrder (order_place tokens)
    (fault_without NoAuthorizer (field_with 1 tokens)
    (fault_at Version (version_place tokens) (fault_at Constant (constant_place tokens) None)))))
unfolding fault_in
fault_in_order tokens = refl

pub fault_here : (fault : ℕ → ReadFault) (at : ℕ) (others : Option ReadFault)
    → fault_at fault (Some at) others ≡ Some (fault at)
unfolding fault_at
fault_here fault at others = refl

pub fault_later : (fault : ℕ → ReadFault) (others : Option ReadFault) → fault_at fault None others ≡ others
unfolding fault_at
fault_later fault others = refl

pub fault_lacking : (fault : ReadFault) (others : Option ReadFault) → fault_without fault None others ≡ Some fault
unfolding fault_without
fault_lacking fault others = refl

pub fault_there : (fault : ReadFault) (field : Field) (others : Option ReadFault)
    → fault_without fault (Some field) others ≡ others
unfolding fault_without
fault_there fault field others = refl

-- the first fault by those that come before it
pub ruleset first_faults = (fault_in_order, fault_here, fault_later, fault_lacking, fault_there)
