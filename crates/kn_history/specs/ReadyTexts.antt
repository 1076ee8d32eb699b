-- What holds of each text that is ready to be added.
use Rattle.std.specs.Prelude.{◌≡◌, Some}
use Rattle.std.specs.Arc.{arc_value}
use Rattle.kn_assert.specs.Reading.{assertion_of}
use Rattle.kn_history.specs.declared.credential.Ready.TheInside.{Inside}

pub record IsReadyToAdd (r : Inside) : Type 0 where
  pub reading : assertion_of (arc_value r.credential).text ≡ Some (arc_value r.credential).assertion
  pub logged : r.logged ≡ (arc_value r.credential).text
