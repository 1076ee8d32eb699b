use Rattle.std.proofs.Common.{◌≡◌, ◌+◌, ◌<◌, ◌≤◌, ◌^◌, ℕ, List, [], ◌∷◌, ◌++◌, get_or, length, take, sym, ap, ◌∙◌}
use Rattle.std.proofs.Common.{subst, arith}
use Rattle.std.proofs.lemmas.List.{take_more}
use Rattle.kn_rows.specs.BaseRows.{AreNumbersOf}
use Rattle.kn_rows.specs.Numbering.{with_name, with_names}
use Rattle.kn_rows.specs.Extending.{Extends}
use Rattle.kn_rows.proofs.RowsOfAssertions.{extended-base}
use Rattle.kn_rows.proofs.NamesAdded.{room_for_next, with_names-again, with_names-more}
use Rattle.kn_rows.proofs.BaseRows.{AreNumbersOf-kept, AreNumbersOf-longer}
use Rattle.kn_rows.proofs.numbered.Numbered.numbers.Goals.{After-as_slice}
use Rattle.kn_rows.proofs.numbered.Numbered.numbers.Goals as goal

-- the name at hand is the next one of the principals
within : (c : After-as_slice) → c.loop-principal.principal-index < length c.args.principals.now
within c = omega (arith, ap length c.as_slice-principal-items.ensures)

next_name : (c : After-as_slice)
    → c.as_slice.result.now ≡ get_or c.args.principals.now c.loop-principal.principal-index c.as_slice.result.now
next_name c =
    let i : ℕ = c.loop-principal.principal-index in
    c.as_slice.ensures ∙ c.principal-item.is
    ∙ ap (λ xs. get_or xs i c.principal-item.result) c.as_slice-principal-items.ensures
    ∙ ap (λ d. get_or c.args.principals.now i d) (sym c.as_slice.ensures)

pub number-requires-clause-few : goal.number-requires-clause-few
number-requires-clause-few c =
    let i : ℕ = c.loop-principal.principal-index in
    let principals : List (List ℕ) = c.args.principals.now in
    subst (λ names. length (with_name names c.as_slice.result.now) ≤ 2 ^ 24) (sym c.loop-principal.invariant.entered)
    (room_for_next c.args.self.now.names principals i c.as_slice.result.now (within c) (next_name c) c.requires.few)

pub returns-in_err-add-clause-base : goal.returns-in_err-add-clause-base
returns-in_err-add-clause-base c =
    λ parts is. extended-base 1 (c.as_slice.result.now ∷ []) c.loop-principal.self c.number.new.self
    c.in_ok-number.ensures.ok parts (c.loop-principal.invariant.base parts is)

pub loop-principal-preserved : goal.loop-principal-preserved
loop-principal-preserved c =
    let i : ℕ = c.loop-principal.principal-index in
    let principals : List (List ℕ) = c.args.principals.now in
    let here = (goal.at.loop-principal-preserved c).After-as_slice in
    let ext : Extends 1 (c.as_slice.result.now ∷ []) c.loop-principal.self c.number.new.self =
    c.in_ok-number.ensures.ok in
    let kept : AreNumbersOf c.number.new.self.names (take i principals) c.loop-principal.numbers =
    AreNumbersOf-kept c.loop-principal.self.names c.number.new.self.names ext.names.keeps (take i principals)
    c.loop-principal.numbers c.loop-principal.invariant.numbers in
    let longer : AreNumbersOf c.number.new.self.names (take i principals ++ c.as_slice.result.now ∷ [])
    (c.loop-principal.numbers ++ c.in_ok-number.number ∷ []) =
    AreNumbersOf-longer c.number.new.self.names (take i principals) c.loop-principal.numbers kept
    c.as_slice.result.now c.in_ok-number.number c.in_ok-number.ensures.number in
    let more : take i principals ++ c.as_slice.result.now ∷ [] ≡ take (i + 1) principals =
    ap (λ n. take i principals ++ n ∷ []) (next_name here)
    ∙ sym (take_more principals i c.as_slice.result.now (within here)) in
    record {
      numbers = subst (AreNumbersOf c.number.new.self.names (take (i + 1) principals)) (sym c.in_ok-add.ensures.ok)
          (subst (λ ps. AreNumbersOf c.number.new.self.names ps (c.loop-principal.numbers ++ c.in_ok-number.number
          ∷ [])) more longer);
      base = λ parts is. extended-base 1 (c.as_slice.result.now ∷ []) c.loop-principal.self c.number.new.self ext parts
          (c.loop-principal.invariant.base parts is);
      rows = ext.rows ∙ c.loop-principal.invariant.rows;
      one_each = ext.one_each;
      entered = c.in_ok-number.ensures.entered
          ∙ ap (λ names. with_name names c.as_slice.result.now) c.loop-principal.invariant.entered
          ∙ with_names-more c.args.self.now.names principals i c.as_slice.result.now (within here) (next_name here);
      names = omega (arith, ext.few, c.loop-principal.invariant.names);
    }

-- what was entered so far makes no difference
pub returns-in_err-number-clause-again : goal.returns-in_err-number-clause-again
returns-in_err-number-clause-again c =
    let principals : List (List ℕ) = c.args.principals.now in
    ap (λ names. with_names names principals) (c.in_err-number.ensures.err_names ∙ c.loop-principal.invariant.entered)
    ∙ with_names-again c.args.self.now.names principals c.loop-principal.principal-index

pub returns-in_err-add-clause-again : goal.returns-in_err-add-clause-again
returns-in_err-add-clause-again c =
    let i : ℕ = c.loop-principal.principal-index in
    let principals : List (List ℕ) = c.args.principals.now in
    let here = (goal.at.returns-in_err-add-clause-again c).After-as_slice in
    ap (λ names. with_names names principals) (c.in_ok-number.ensures.entered
    ∙ ap (λ names. with_name names c.as_slice.result.now) c.loop-principal.invariant.entered
    ∙ with_names-more c.args.self.now.names principals i c.as_slice.result.now (within here) (next_name here))
    ∙ with_names-again c.args.self.now.names principals (i + 1)

pub returns-clause-again : goal.returns-clause-again
returns-clause-again c =
    let principals : List (List ℕ) = c.args.principals.now in
    ap (λ names. with_names names principals) c.loop-principal.invariant.entered
    ∙ with_names-again c.args.self.now.names principals c.loop-principal.principal-index
