use Rattle.std.proofs.Common.{◌≡◌, ℕ, true, List, Option, drop, map}
use Rattle.kn_reply_reader.specs.Forms.{IsOfOneForm, are_forms}
use Rattle.kn_reply_reader.specs.Fronts.{IsBehindOne}
use Rattle.kn_reply_reader.proofs.forms.behind_one_form.Given as goal

-- what is behind one of the other forms is behind one of all
abbrev pub invariant-loop-form : goal.invariant-loop-form
invariant-loop-form l =
    record {
      forms : are_forms (drop l.form-index (map (λ form. form.now) l.forms)) ≡ true;
      goes_on : (found : Option (List ℕ))
          → IsBehindOne (IsOfOneForm (drop l.form-index (map (λ form. form.now) l.forms))) l.left found
          → IsBehindOne (IsOfOneForm (map (λ form. form.now) l.forms)) l.left found;
    }
