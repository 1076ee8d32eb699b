-- The first place that a scan gives is that of the first bad token.
use Rattle.std.proofs.Common.{append-nil, append_assoc, ◌≡◌, ℕ, Bool, true, false, Option, Some, None, List, [], ◌∷◌}
use Rattle.std.proofs.Common.{◌++◌, arith, length, length-append, refl, ap}
use Rattle.std.specs.Prelude.{if◌then◌else◌}
use Rattle.std.specs.Option.{option_or}
use Rattle.kn_lex.specs.Cutting.{TokenView}
use Rattle.kn_fields.specs.Faults.{HasNone, HasFirst}
use Rattle.kn_fields.specs.Scanning.{first_place}

-- the place is that of the first bad token, or none is bad
abbrev IsFirstPlace : (List TokenView → TokenView → Bool) → List TokenView → Option ℕ → Type 0
IsFirstPlace is_bad tokens None = HasNone is_bad tokens
IsFirstPlace is_bad tokens (Some at) = HasFirst is_bad tokens at

-- the tokens that are looked at stand behind others
abbrev Behind : List TokenView → (List TokenView → TokenView → Bool) → List TokenView → TokenView → Bool
Behind front is_bad before token = is_bad (front ++ before) token

none_on : (is_bad : List TokenView → TokenView → Bool) (front : List TokenView) (t : TokenView) (ts : List TokenView)
    → is_bad front t ≡ false
    → HasNone (Behind (front ++ t ∷ []) is_bad) ts
    → HasNone (Behind front is_bad) (t ∷ ts)
none_on is_bad front t ts fine none [] token behind e = grind (arith, append-nil)
none_on is_bad front t ts fine none (x ∷ before) token behind e = grind (arith, append_assoc, none before token behind)

none_in_nothing : (is_bad : List TokenView → TokenView → Bool) → HasNone is_bad []
none_in_nothing is_bad before token behind e =
    absurd (omega (arith, length-append before (token ∷ behind), ap (λ (ts : List TokenView). length ts) e))

place_told : (is_bad : List TokenView → TokenView → Bool) (front tokens : List TokenView)
    → IsFirstPlace (Behind front is_bad) tokens (first_place is_bad front tokens)
unfolding first_place
place_told is_bad front [] = none_in_nothing (Behind front is_bad)
place_told is_bad front (t ∷ ts) =
    by (is_bad front t) refl (first_place is_bad (front ++ t ∷ []) ts) (place_told is_bad (front ++ t ∷ []) ts)
  where
    by : (b : Bool) → is_bad front t ≡ b → (o : Option ℕ) → IsFirstPlace (Behind (front ++ t ∷ []) is_bad) ts o
        → IsFirstPlace (Behind front is_bad) (t ∷ ts) (if b then Some t.span.start else o)
    by true bad o rest = record {
      before = [];
      token = t;
      behind = ts;
      here = refl;
      bad = rw append-nil bad;
      first =
          none_in_nothing (Behind front is_bad);
      place = refl;
    }
    by false fine None rest = none_on is_bad front t ts fine rest
    by false fine (Some at) f = record {
      before = t ∷ f.before;
      token = f.token;
      behind = f.behind;
      here = cc;
      bad = grind (arith, append_assoc);
      first = none_on is_bad front t f.before fine f.first;
      place = f.place;
    }

pub none_shown : (is_bad : List TokenView → TokenView → Bool) (tokens : List TokenView)
    → first_place is_bad [] tokens ≡ None
    → HasNone is_bad tokens
none_shown is_bad tokens e = rw e at (place_told is_bad [] tokens)

pub first_shown : (is_bad : List TokenView → TokenView → Bool) (tokens : List TokenView) (at : ℕ)
    → first_place is_bad [] tokens ≡ Some at → HasFirst is_bad tokens at
first_shown is_bad tokens at e = rw e at (place_told is_bad [] tokens)

-- a scan of two parts
pub place_append : (is_bad : List TokenView → TokenView → Bool) (front tokens others : List TokenView)
    → first_place is_bad front (tokens ++ others)
    ≡ option_or (first_place is_bad front tokens) (first_place is_bad (front ++ tokens) others)
unfolding first_place
place_append is_bad front [] others = grind (arith, append-nil)
place_append is_bad front (t ∷ ts) others = grind (arith, append_assoc, place_append is_bad (front ++ t ∷ []) ts others)

pub none_place : (is_bad : List TokenView → TokenView → Bool) (tokens : List TokenView) → HasNone is_bad tokens
    → first_place is_bad [] tokens ≡ None
none_place is_bad tokens none = by (first_place is_bad [] tokens) (place_told is_bad [] tokens)
  where
    by : (o : Option ℕ) → IsFirstPlace is_bad tokens o → o ≡ None
    by None told = refl
    by (Some at) f = absurd (cc (none f.before f.token f.behind f.here, f.bad))

pub shown_place : (is_bad : List TokenView → TokenView → Bool) (tokens : List TokenView) (at : ℕ)
    → HasFirst is_bad tokens at
    → first_place is_bad [] tokens ≡ Some at
unfolding first_place
shown_place is_bad tokens at f =
    let none = none_place is_bad f.before f.first in
    let parts = place_append is_bad [] f.before (f.token ∷ f.behind) in
    grind (arith, none, parts)
