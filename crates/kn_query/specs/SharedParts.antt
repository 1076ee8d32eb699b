-- The credentials of a version as the assertions of a query (keynoted's own).
use Rattle.std.specs.Prelude.{List, IsSome, map}
use Rattle.std.specs.List.{AllByRecursion}
use Rattle.kn_assert.specs.Reading.{assertion_of}
use Rattle.kn_proof.specs.declared.named.Id.TheVariants.{Shared, Private as Own}
use Rattle.kn_meaning.specs.Equations.{Part}
use Rattle.kn_history.specs.declared.update.Update.{Update}
use Rattle.kn_history.specs.History.{NumberedText, credentials_of}
use Rattle.kn_session.specs.declared.view.Private.{Private}
use Rattle.kn_session.specs.Views.{numbered_text}
use Rattle.kn_daemon.specs.Daemon.{parts_of}

-- the credentials of the version that these updates made, in order of id
abbrev pub shared_parts : List Update → List Part
shared_parts version = parts_of Shared (credentials_of version)

-- private assertions, in order of id
abbrev pub private_parts : List Private → List Part
private_parts privates = parts_of Own (map numbered_text privates)

-- each text has a reading
abbrev pub AreRead : List NumberedText → Type 0
AreRead texts = AllByRecursion (λ c. IsSome (assertion_of c.text)) texts
