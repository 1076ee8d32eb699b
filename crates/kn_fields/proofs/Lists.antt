-- A list of constants is what the steps of the loop take: three tokens for each, of different names.
use Rattle.std.proofs.Common.{◌≤◌, length, ◌≡◌, ℕ, false, Option, Some, None, inl, inr, List, [], ◌∷◌, ◌++◌, map, codes}
use Rattle.std.proofs.Common.{arith, refl, append-nil, append_assoc, bytes_eq}
use Rattle.std.specs.List.{list_any, IsDistinct, AllByRecursion}
use Rattle.std.proofs.lemmas.Bool.Decides.{nat_tests}
use Rattle.std.proofs.lemmas.List.Folds.{list_any-append}
use Rattle.std.proofs.lemmas.Slice.Eq.{bytes_eq-Decides}
use Rattle.std.specs.Option.{option_or}
use Rattle.kn_lex.specs.Cutting.{TokenView}
use Rattle.kn_lex.specs.declared.token.Sort.TheVariants.{Text, Sign}
use Rattle.kn_fields.specs.Constants.{constants_of, IsSetting, AreSettings, IsConstantList, BeginsConstantList}
use Rattle.kn_fields.specs.Constants.{HasDeparture}
use Rattle.kn_fields.specs.Fields.{Field, field_with}
use Rattle.kn_fields.specs.Expectations.{is_name, next_expecting, expecting_behind, departs}
use Rattle.kn_fields.specs.Faults.{DepartsAt}
use Rattle.kn_fields.specs.Scanning.{first_place, end_place, departure, constant_place}
use Rattle.kn_fields.specs.declared.constants.Expecting.{Expecting}
use Rattle.kn_fields.specs.declared.constants.Expecting.TheVariants.{Setting}
use Rattle.kn_fields.proofs.Between.{steps}
use Rattle.kn_fields.proofs.Places.{first_shown, none_shown, none_place, place_append}

pub expecting_append : (expecting : Expecting) (tokens others : List TokenView)
    → expecting_behind expecting (tokens ++ others) ≡ expecting_behind (expecting_behind expecting tokens) others
unfolding expecting_behind
expecting_append expecting [] others = refl
expecting_append expecting (t ∷ tokens) others = expecting_append (next_expecting expecting) tokens others

pub expecting_more : (expecting : Expecting) (tokens : List TokenView) (token : TokenView)
    → expecting_behind expecting (tokens ++ token ∷ []) ≡ next_expecting (expecting_behind expecting tokens)
unfolding expecting_behind
expecting_more expecting tokens token = expecting_append expecting tokens (token ∷ [])

pub expecting_first : (expecting : Expecting) → expecting_behind expecting [] ≡ expecting
unfolding expecting_behind
expecting_first expecting = refl

-- a step of the loop over what is expected
pub ruleset expecting_steps = (steps, expecting_more, expecting_first)

-- three tokens that fit behind whole constants set a new name
fit_three : (front : List TokenView) (n e v : TokenView) (rest : List TokenView)
    → expecting_behind Setting front ≡ Setting
    → first_place departs front (n ∷ e ∷ v ∷ rest) ≡ None
    → IsSetting n e v × (list_any (is_name n.text) front ≡ false)
    × (first_place departs (front ++ n ∷ e ∷ v ∷ []) rest ≡ None)
unfolding first_place expecting_behind
fit_three front n e v rest due none = grind (arith, nat_tests, bytes_eq-Decides, append_assoc, expecting_append)

three_fit : (front : List TokenView) (n e v : TokenView) (rest : List TokenView)
    → expecting_behind Setting front ≡ Setting
    → IsSetting n e v → list_any (is_name n.text) front ≡ false
    → first_place departs (front ++ n ∷ e ∷ v ∷ []) rest ≡ None → first_place departs front (n ∷ e ∷ v ∷ rest) ≡ None
unfolding first_place expecting_behind
three_fit front n e v rest due set new none = grind (arith, nat_tests, bytes_eq-Decides, append_assoc, expecting_append)

-- the names that a list sets
names : List TokenView → List (List ℕ)
names tokens = map (λ constant. constant.name) (constants_of tokens)

-- no such name stands among these tokens
abbrev IsApart : List TokenView → List (List ℕ) → Type 0
IsApart front texts = AllByRecursion (λ text. list_any (is_name text) front ≡ false) texts

-- names that don't stand among more tokens don't stand among fewer, and differ from the name that was set last
apart_from : (front : List TokenView) (n e v : TokenView) (texts : List (List ℕ)) → IsSetting n e v
    → IsApart (front ++ n ∷ e ∷ v ∷ []) texts
    → IsApart front texts × AllByRecursion (λ text. bytes_eq n.text text ≡ false) texts
apart_from front n e v [] set apart = (tt, tt)
apart_from front n e v (text ∷ texts) set apart =
    grind (arith, list_any-append, apart_from front n e v texts set apart.1)

apart_to : (front : List TokenView) (n e v : TokenView) (texts : List (List ℕ)) → IsSetting n e v → IsApart front texts
    → AllByRecursion (λ text. bytes_eq n.text text ≡ false) texts
    → IsApart (front ++ n ∷ e ∷ v ∷ []) texts
apart_to front n e v [] set apart own = tt
apart_to front n e v (text ∷ texts) set apart own =
    grind (arith, list_any-append, apart_to front n e v texts set apart.1 own.1)

apart_at_first : (texts : List (List ℕ)) → IsApart [] texts
apart_at_first [] = tt
apart_at_first (text ∷ texts) = (refl, apart_at_first texts)

-- constants whose names stand nowhere before
record AreNew (front tokens : List TokenView) : Type 0 where
  settings : AreSettings tokens
  apart : IsApart front (names tokens)
  distinct : IsDistinct bytes_eq (names tokens)

one_new : (front : List TokenView) (n e v : TokenView) (rest : List TokenView) → IsSetting n e v
    → list_any (is_name n.text) front ≡ false → AreNew (front ++ n ∷ e ∷ v ∷ []) rest
    → AreNew front (n ∷ e ∷ v ∷ rest)
unfolding names constants_of IsDistinct
one_new front n e v rest set new others =
    let apart = apart_from front n e v (names rest) set others.apart in
    record { settings = (set, others.settings); apart = (new, apart.0); distinct = (apart.1, others.distinct) }

none_new : (front : List TokenView) → AreNew front []
unfolding names constants_of IsDistinct
none_new front = record { settings = tt; apart = tt; distinct = tt }

-- tokens that don't depart begin a list, and are one where a name is due behind them
record IsBegun (front tokens : List TokenView) : Type 0 where
  behind : List TokenView
  all : AreNew front (tokens ++ behind)
  whole : expecting_behind Setting tokens ≡ Setting → behind ≡ []

an_equals : TokenView
an_equals = record { sort = Sign; span = record { start = 0; end = 0 }; text = codes "="; first = false }

a_literal : TokenView
a_literal = record { sort = Text; span = record { start = 0; end = 0 }; text = []; first = false }

begun : (front tokens : List TokenView) → expecting_behind Setting front ≡ Setting
    → first_place departs front tokens ≡ None
    → IsBegun front tokens
unfolding expecting_behind first_place an_equals a_literal
begun front [] due none = record { behind = []; all = none_new front; whole = λ h. refl }
begun front (n ∷ []) due none =
    let f = fit_three front n an_equals a_literal [] due (grind (arith, expecting_append)) in
    record {
      behind = an_equals ∷ a_literal ∷ [];
      all = one_new front n an_equals a_literal [] f.0 f.1 (none_new _);
      whole = λ h. cc h;
    }
begun front (n ∷ e ∷ []) due none =
    let f = fit_three front n e a_literal [] due (grind (arith, expecting_append)) in
    record { behind = a_literal ∷ []; all = one_new front n e a_literal [] f.0 f.1 (none_new _); whole = λ h. cc h }
begun front (n ∷ e ∷ v ∷ rest) due none =
    let f = fit_three front n e v rest due none in
    let b = begun (front ++ n ∷ e ∷ v ∷ []) rest (grind (arith, expecting_append)) f.2 in
    record { behind = b.behind; all = one_new front n e v (rest ++ b.behind) f.0 f.1 b.all; whole = b.whole }

-- a list departs nowhere, and a name is due behind it
new_fit : (front tokens : List TokenView) → expecting_behind Setting front ≡ Setting → AreNew front tokens
    → (first_place departs front tokens ≡ None) × (expecting_behind Setting tokens ≡ Setting)
unfolding names constants_of expecting_behind first_place IsDistinct
new_fit front [] due new = (refl, refl)
new_fit front (n ∷ []) due new = absurd new.settings
new_fit front (n ∷ e ∷ []) due new = absurd new.settings
new_fit front (n ∷ e ∷ v ∷ rest) due new =
    let s = new.settings.0 in
    let apart = apart_to front n e v (names rest) s new.apart.1 new.distinct.0 in
    let more = new_fit (front ++ n ∷ e ∷ v ∷ []) rest (grind (arith, expecting_append))
    (record { settings = new.settings.1; apart = apart; distinct = new.distinct.1 }) in
    (three_fit front n e v rest due s new.apart.0 more.0, more.1)

pub list_passes : (tokens : List TokenView) → IsConstantList tokens → (first_place departs [] tokens ≡ None)
    × (expecting_behind Setting tokens ≡ Setting)
unfolding names expecting_behind
list_passes tokens list =
    new_fit [] tokens refl
    (record { settings = list.settings; apart = apart_at_first (names tokens); distinct = list.distinct })

begin_passes : (tokens : List TokenView) → BeginsConstantList tokens → first_place departs [] tokens ≡ None
begin_passes tokens begins =
    grind (arith, place_append departs [] tokens begins.behind, list_passes (tokens ++ begins.behind) begins.list)

begins_list : (tokens : List TokenView) → first_place departs [] tokens ≡ None → BeginsConstantList tokens
unfolding names expecting_behind
begins_list tokens none =
    let b = begun [] tokens refl none in
    record { behind = b.behind; list = record { settings = b.all.settings; distinct = b.all.distinct } }

pub whole_list : (tokens : List TokenView) → first_place departs [] tokens ≡ None
    → expecting_behind Setting tokens ≡ Setting
    → IsConstantList tokens
unfolding names expecting_behind
whole_list tokens none due =
    let b = begun [] tokens refl none in
    let list : IsConstantList (tokens ++ b.behind) = record { settings = b.all.settings; distinct = b.all.distinct } in
    rw (b.whole due, append-nil) at list

-- where a list departs, or breaks off

departure_shown : (tokens : List TokenView) (at : ℕ) → first_place departs [] tokens ≡ Some at → HasDeparture tokens at
departure_shown tokens at e =
    let f = first_shown departs tokens at e in
    record {
      before = f.before;
      token = f.token;
      behind = f.behind;
      here = f.here;
      begins = begins_list f.before (none_place departs f.before f.first);
      departs = λ begins.
          cc (
            none_shown departs (f.before ++ f.token ∷ []) (begin_passes (f.before ++ f.token ∷ []) begins) f.before
                f.token [] refl,
            f.bad,
          );
      place = f.place;
    }

shown_departure : (tokens : List TokenView) (at : ℕ) → HasDeparture tokens at → first_place departs [] tokens ≡ Some at
unfolding first_place
shown_departure tokens at d =
    let none = begin_passes d.before d.begins in
    let one = place_append departs [] d.before (d.token ∷ []) in
    let all = place_append departs [] d.before (d.token ∷ d.behind) in
    let departs_here : first_place departs [] (d.before ++ d.token ∷ []) ≡ None
    → ⊥ = λ fits. d.departs (begins_list (d.before ++ d.token ∷ []) fits) in
    grind arith

pub departs_shown : (field : Field) (at : ℕ) → departure field.tokens (Some field.label.span.start) ≡ Some at
    → DepartsAt field at
unfolding departure
departs_shown field at e = by (first_place departs [] field.tokens) refl e
  where
    by : (o : Option ℕ) → first_place departs [] field.tokens ≡ o
        → option_or o (end_place (Some field.label.span.start) (expecting_behind Setting field.tokens)) ≡ Some at
        → DepartsAt field at
    by None none h = inr (
      begins_list field.tokens none,
      (λ list. grind (arith, list_passes field.tokens list)),
      grind arith,
    )
    by (Some a) found h = inl (departure_shown field.tokens at (cc))

pub shown_departs : (field : Field) (at : ℕ) → DepartsAt field at
    → departure field.tokens (Some field.label.span.start) ≡ Some at
unfolding departure
shown_departs field at (inl h) = grind (arith, shown_departure field.tokens at h)
shown_departs field at (inr h) =
    let none = begin_passes field.tokens h.0 in
    let unfinished : expecting_behind Setting field.tokens ≡ Setting
    → ⊥ = λ due. h.1 (whole_list field.tokens none due) in
    grind arith

pub no_departure : (field : Field) → departure field.tokens (Some field.label.span.start) ≡ None
    → IsConstantList field.tokens
unfolding departure
no_departure field e = whole_list field.tokens (grind arith) (grind arith)

pub settings_there : (tokens : List TokenView) (field : Field) → field_with 6 tokens ≡ Some field
    → constant_place tokens ≡ None → AreSettings field.tokens
unfolding constant_place
settings_there tokens field there none = (no_departure field (grind arith)).settings

-- fewer than three tokens set nothing
pub constants_over : (xs : List TokenView) → length xs ≤ 2 → constants_of xs ≡ []
unfolding constants_of
constants_over xs few = grind arith
