use Rattle.std.proofs.Common.{◌≡◌, ℕ, true, List, Option, drop}
use Rattle.kn_reply_reader.specs.Forms.{IsOfForm, is_form}
use Rattle.kn_reply_reader.specs.Fronts.{IsBehindOne}
use Rattle.kn_reply_reader.proofs.forms.behind_form.Given as goal

-- what is behind the rest of the form is behind the whole
abbrev pub invariant-loop-part : goal.invariant-loop-part
invariant-loop-part l =
    record {
      form : is_form (drop l.part-index l.form) ≡ true;
      goes_on : (found : Option (List ℕ)) → IsBehindOne (IsOfForm (drop l.part-index l.form)) l.rest found
          → IsBehindOne (IsOfForm l.form) l.left found;
    }
