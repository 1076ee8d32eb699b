-- The fields that an open session and a standing query are kept in.
use Rattle.std.specs.Prelude.{map}
use Rattle.std.specs.Arc.{arc_value}
use Rattle.kn_session.specs.Sessions.{StandingQuery, Session}
use Rattle.kn_session.specs.Views.{numbered_text}
use Rattle.kn_session.specs.declared.session.OpenSession.TheInside.{Inside}
use Rattle.kn_session.specs.declared.standing.StandingQuery.TheInside.{Inside as StandingInside}

abbrev pub session_of_fields : Inside → Session
session_of_fields s = record {
  number = s.number;
  pinned = arc_value s.snapshot;
  privates = map numbered_text s.private;
  made = s.made;
  attributes = s.attributes;
  requesters = s.requesters;
  standing = s.standing;
}

abbrev pub query_of_fields : StandingInside → StandingQuery
query_of_fields q = record {
  pinned = arc_value q.snapshot;
  privates = map numbered_text q.private;
  attributes = q.attributes;
  requesters = q.requesters;
  values = q.values;
}
