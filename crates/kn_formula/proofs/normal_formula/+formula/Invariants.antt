use Rattle.std.proofs.Common.{◌≡◌, false, map, take}
use Rattle.std.specs.List.{list_any}
use Rattle.kn_formula.specs.Trees.{itself, has_bad_name, formula_of}
use Rattle.kn_formula.proofs.normal_formula.+formula.Given as goal

-- the formulas of the parts so far, of which none has a bad principal
abbrev pub invariant-loop-part : goal.invariant-loop-part
invariant-loop-part l =
    record {
      formulas : l.list ≡ map (formula_of l.constants) (take l.part-index l.part-items);
      named : list_any itself (map (has_bad_name l.constants) (take l.part-index l.part-items)) ≡ false;
    }
