-- What a view of a session shows, and what holds of it (keynoted's own).
use Rattle.std.specs.Prelude.{ℕ, ◌≡◌, ◌≤◌, List, map, length, nat_eq, Option, Some, option_map}
use Rattle.std.specs.List.{AllByRecursion, IsDistinct}
use Rattle.std.specs.Str.{bytes_eq}
use Rattle.std.specs.Arc.{arc_value}
use Rattle.kn_base.specs.declared.limits.TheConstants.{PRIVATE_ASSERTIONS, PRIVATE_BYTES}
use Rattle.kn_principal.specs.Principals.{normal_form}
use Rattle.kn_env.specs.Environment.{AreRequesters}
use Rattle.kn_assert.specs.Reading.{assertion_of}
use Rattle.kn_history.specs.History.{NumberedText, text_bytes}
use Rattle.kn_session.specs.Sessions.{StandingQuery, Session}
use Rattle.kn_session.specs.Asking.{IsQueryLevelIfKnown}
use Rattle.kn_session.specs.declared.view.Private.{Private}
use Rattle.kn_session.specs.declared.view.View.{View}

-- the text of a private assertion with its id
abbrev pub numbered_text : Private → NumberedText
numbered_text p = record { id = p.id; text = p.text }

-- the session that a view shows
abbrev pub session_of_view : View → Session
session_of_view v = record {
  number = v.number;
  pinned = arc_value v.snapshot.now;
  privates = map numbered_text v.private.now;
  made = v.made;
  attributes = v.attributes.now;
  requesters = v.requesters.now;
  standing = option_map (λ query. query.now) v.standing;
}

-- a private assertion is the reading of its text
abbrev pub IsReadPrivate : Private → Type 0
IsReadPrivate p = assertion_of p.text ≡ Some p.assertion

-- so is each of these
abbrev pub AreReadPrivates : List Private → Type 0
AreReadPrivates privates = AllByRecursion IsReadPrivate privates

-- the ids of texts, in their order
abbrev pub ids_of : List NumberedText → List ℕ
ids_of texts = map (λ c. c.id) texts

-- texts that may be a session's private assertions: not too many, short enough together, with ids from 1 of which no
-- two are equal
pub record ArePrivates (texts : List NumberedText) : Type 0 where
  pub few : length texts ≤ PRIVATE_ASSERTIONS
  pub short : text_bytes texts ≤ PRIVATE_BYTES
  pub from_one : AllByRecursion (λ k. 1 ≤ k) (ids_of texts)
  pub different : IsDistinct nat_eq (ids_of texts)

-- requesters that are normal forms, no two of them equal
pub record AreNormalForms (requesters : List (List ℕ)) : Type 0 where
  pub normal : AllByRecursion (λ r. normal_form r ≡ r) requesters
  pub different : IsDistinct bytes_eq requesters

-- what holds of every open session
pub record IsSession (x : Session) : Type 0 where
  pub privates : ArePrivates x.privates
  pub made : AllByRecursion (λ k. k ≤ x.made) (ids_of x.privates)
  pub requesters : AreRequesters x.requesters
  pub forms : AreNormalForms x.requesters

-- A standing query is kept with copies of private assertions that are readings of their texts, and with its value, if
-- that is known.
pub record IsStanding (copies : List Private) (level : Option ℕ) (query : StandingQuery) : Type 0 where
  pub readings : AreReadPrivates copies
  pub privates : ArePrivates query.privates
  pub requesters : AreRequesters query.requesters
  pub value : IsQueryLevelIfKnown query level

-- A session is kept with its private assertions and the count of their bytes.
pub record IsKept (privates : List Private) (count : ℕ) (x : Session) : Type 0 where
  pub readings : AreReadPrivates privates
  pub bytes : count ≡ text_bytes x.privates
  pub session : IsSession x
