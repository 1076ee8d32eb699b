-- Where the replies of a worked connection had the turn, and how it ends.
use Rattle.std.proofs.Common.{◌≡◌, ℕ, ◌<◌, Bool, true, false, cond, List, [], ◌∷◌, ◌++◌, length, refl, inr, zero-le}
use Rattle.std.specs.List.{list_any}
use Rattle.kn_base.specs.declared.limits.TheConstants.{REQUESTS}
use Rattle.kn_wire.specs.Requests.{Request}
use Rattle.kn_daemon.specs.declared.ended.Ended.TheVariants as E
use Rattle.kn_daemon.specs.Shapes.{shape_of}
use Rattle.kn_daemon.specs.Linearized.{Exchange, StopsAt, StandsFor, is_placed}
use Rattle.kn_daemon.specs.Served.{HasEnd, is_bye, is_block}

-- the turn was had at the place of each reply that depends on it, and for no other reply
abbrev pub turns_of : List Exchange → List ℕ
turns_of [] = []
turns_of (e ∷ es) = cond (is_placed (shape_of e.request) e.reply) (e.place ∷ []) [] ++ turns_of es

pub turns_stand : (es : List Exchange) → StopsAt es (turns_of es)
turns_stand [] = refl
turns_stand (e ∷ es) =
    let placed = is_placed (shape_of e.request) e.reply in
    (cond placed (e.place ∷ []) [], turns_of es, by placed, turns_stand es, refl)
  where
    by : (b : Bool) → StandsFor b e.place (cond b (e.place ∷ []) [])
    by true = refl
    by false = zero-le

-- all requests were answered, none of them ends the connection, and the input has ended
pub all_answered : (requests : List Request) → list_any is_bye requests ≡ false → list_any is_block requests ≡ false
    → length requests < REQUESTS → HasEnd E.Done true requests []
all_answered requests no_bye no_block fewer =
    inr (
      record { no_more = refl; goes_on = record { no_bye = no_bye; no_block = no_block }; fewer = fewer },
      refl,
      refl,
    )
