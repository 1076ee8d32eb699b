use Rattle.kn_formula.proofs.Licenses.{formula_stands, formula_found, fault_stands, fault_found}
use Rattle.kn_formula.proofs.laws.licensees_found.Goals as goal

pub returns : goal.returns
returns c =
    record {
      formula = λ constants tokens f. (formula_stands constants tokens f, formula_found constants tokens f);
      fault = λ constants tokens fault. (fault_stands constants tokens fault, fault_found constants tokens fault);
    }
