-- The system before rows of it changed.
use Rattle.std.specs.Prelude.{List, [], ◌∷◌, slice_set}
use Rattle.kn_system.specs.Equations.{SystemEquations, row_at}
use Rattle.kn_system.specs.Rows.{SystemRow}
use Rattle.kn_watch.specs.declared.changed.Changed.{Changed}

-- the row with the ceiling that it had
abbrev pub row_before : List SystemRow → Changed → SystemRow
row_before rows change = record {
  authorizer = (row_at rows change.row).authorizer;
  ceiling = change.before;
  formula = (row_at rows change.row).formula;
}

-- rows, where each that changed has the ceiling that it had
abbrev pub put_back : List Changed → List SystemRow → List SystemRow
put_back [] rows = rows
put_back (change ∷ changed) rows = put_back changed (slice_set rows change.row (row_before rows change))

-- the system before the change
abbrev pub system_before : SystemEquations → List Changed → SystemEquations
system_before s changed = record { levels = s.levels; requesters = s.requesters; rows = put_back changed s.rows }
