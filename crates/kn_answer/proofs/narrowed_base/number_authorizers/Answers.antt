use Rattle.std.proofs.Common.{◌≡◌, ℕ, ◌<◌, List, [], ◌∷◌, length, map, get_or, sym, ap, ◌∙◌, arith}
use Rattle.std.proofs.lemmas.List.{length-map}
use Rattle.kn_meaning.specs.Equations.{Part}
use Rattle.kn_rows.specs.Numbering.{with_name}
use Rattle.kn_rows.specs.Extending.{Extends}
use Rattle.kn_rows.proofs.NamesAdded.{with_names-more}
use Rattle.kn_rows.proofs.RowsOfAssertions.{extended-base}
use Rattle.kn_answer.proofs.NarrowedBases.{authorizer-here}
use Rattle.kn_answer.proofs.narrowed_base.number_authorizers.Goals as goal

pub loop-part-preserved : goal.loop-part-preserved
loop-part-preserved c =
    let i : ℕ = c.loop-part.part-index in
    let list : List Part = c.args.list.now in
    let part : Part = c.part-item.result in
    let authorizers : List (List ℕ) = map (λ (p : Part). p.assertion.authorizer) list in
    let items : c.as_slice-part-items.result.now ≡ list = c.as_slice-part-items.ensures in
    let within : i < length list = omega (arith, ap length items) in
    let size : length authorizers ≡ length list = length-map _ _ in
    let here : part ≡ get_or list i part = c.part-item.is ∙ ap (λ xs. get_or xs i part) items in
    let name : List ℕ = c.as_slice.result.now in
    let own : name ≡ part.assertion.authorizer = c.as_slice.ensures
    ∙ ap (λ (p : Part). p.assertion.authorizer) c.part.view_is in
    let name_is : name ≡ get_or authorizers i name = own ∙ authorizer-here list i part within here
    ∙ ap (get_or authorizers i) (sym own) in
    let ext : Extends 1 (name ∷ []) c.loop-part.numbered c.number.new.self = c.in_ok-number.ensures.ok in
    record {
      entered =
          c.in_ok-number.ensures.entered ∙ ap (λ names. with_name names name) c.loop-part.invariant.entered
          ∙ with_names-more c.args.numbered.now.names authorizers i name (omega (arith, within, size)) name_is;
      base = λ parts is. extended-base 1 (name ∷ []) c.loop-part.numbered c.number.new.self ext parts
          (c.loop-part.invariant.base parts is);
      one_each = ext.one_each;
      rows = ext.rows ∙ c.loop-part.invariant.rows;
      levels = ext.levels ∙ c.loop-part.invariant.levels;
      names = omega (arith, ext.few, c.loop-part.invariant.names);
    }
