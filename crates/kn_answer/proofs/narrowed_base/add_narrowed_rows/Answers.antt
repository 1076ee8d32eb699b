use Rattle.std.proofs.Common.{◌≡◌, ℕ, ◌+◌, ◌<◌, List, [], ◌∷◌, ◌++◌, length, map, get_or, replicate, take, true}
use Rattle.std.proofs.Common.{sym, ap, ◌∙◌, subst, arith, append_assoc}
use Rattle.std.specs.List.{list_any}
use Rattle.std.specs.Str.{bytes_eq}
use Rattle.std.proofs.lemmas.List.{length-map, length_push, map-append, replicate_more, take_more}
use Rattle.kn_trees.specs.declared.assertion.Assertion.{Assertion}
use Rattle.kn_trees.specs.Formulas.{field_nodes}
use Rattle.kn_meaning.specs.Equations.{Part}
use Rattle.kn_system.specs.Equations.{SystemEquations}
use Rattle.kn_rows.specs.declared.numbered.Numbered.{Numbered}
use Rattle.kn_rows.specs.BaseRows.{IsBaseOf}
use Rattle.kn_rows.specs.Extending.{AddsNarrowedRow}
use Rattle.kn_rows.specs.Numbering.{IsNumber}
use Rattle.kn_rows.specs.Sizes.{size_of, total_size}
use Rattle.kn_rows.proofs.NewNames.{among_one, is_among}
use Rattle.kn_rows.proofs.SizesAdded.{total_size-drop, total_size-longer, total_size-split}
use Rattle.kn_answer.specs.Narrowed.{narrowed_part}
use Rattle.kn_answer.proofs.NarrowedBases.{authorizer-here, narrowed-base, narrowed-nodes}
use Rattle.kn_answer.proofs.narrowed_base.add_narrowed_rows.Goals.{After-part-item}
use Rattle.kn_answer.proofs.narrowed_base.add_narrowed_rows.Goals as goal

-- the assertion at hand is the next one
within : (c : After-part-item) → c.loop-part.part-index < length c.args.list.now
within c = omega (arith, ap length c.as_slice-part-items.ensures)

next_part : (c : After-part-item)
    → c.part-item.result ≡ get_or c.args.list.now c.loop-part.part-index c.part-item.result
next_part c = c.part-item.is
    ∙ ap (λ ps. get_or ps c.loop-part.part-index c.part-item.result) c.as_slice-part-items.ensures

pub add_narrowed_row-requires-clause-authorizer : goal.add_narrowed_row-requires-clause-authorizer
add_narrowed_row-requires-clause-authorizer c = λ name among.
    let at = (goal.at.add_narrowed_row-requires-clause-authorizer c).After-part-item in
    let i : ℕ = c.loop-part.part-index in
    let list : List Part = c.args.list.now in
    let part : Part = c.part-item.result in
    let authorizers : List (List ℕ) = map (λ (p : Part). p.assertion.authorizer) list in
    let size : length authorizers ≡ length list = length-map _ _ in
    let own : name ≡ part.assertion.authorizer = among_one name c.part.inside.assertion.now.authorizer among
    ∙ ap (λ (p : Part). p.assertion.authorizer) c.part.view_is in
    let authorizes : list_any (bytes_eq part.assertion.authorizer) authorizers ≡ true =
    is_among authorizers i part.assertion.authorizer (omega (arith, within at, size))
    (authorizer-here list i part (within at) (next_part at)) in
    subst (λ (names : List (List ℕ)). (p : ℕ) × IsNumber names name p) (sym c.loop-part.invariant.names)
    (c.requires.authorizers name (subst (λ n. list_any (bytes_eq n) authorizers ≡ true) (sym own) authorizes))

pub add_narrowed_row-requires-clause-nodes_fit : goal.add_narrowed_row-requires-clause-nodes_fit
add_narrowed_row-requires-clause-nodes_fit c =
    let at = (goal.at.add_narrowed_row-requires-clause-nodes_fit c).After-part-item in
    let i : ℕ = c.loop-part.part-index in
    let list : List Part = c.args.list.now in
    let part : Part = c.part-item.result in
    let rest = total_size-drop list i part (within at) (next_part at) in
    let own : field_nodes c.part.inside.assertion.now.licensees ≡ field_nodes part.assertion.licensees =
    ap (λ (p : Part). field_nodes p.assertion.licensees) c.part.view_is in
    omega (arith, rest, own, total_size-split list i, c.loop-part.invariant.nodes, c.requires.nodes_fit)

pub loop-part-preserved : goal.loop-part-preserved
loop-part-preserved c =
    let at = (goal.at.loop-part-preserved c).After-part-item in
    let i : ℕ = c.loop-part.part-index in
    let list : List Part = c.args.list.now in
    let part : Part = c.part-item.result in
    let old : Numbered = c.loop-part.numbered in
    let new : Numbered = c.add_narrowed_row.new.self in
    let narrow : Part → Part = narrowed_part c.args.numbered.now.names in
    let longer : take i list ++ part ∷ [] ≡ take (i + 1) list =
    ap (λ x. take i list ++ x ∷ []) (next_part at) ∙ sym (take_more list i part (within at)) in
    let size : total_size (take (i + 1) list) ≡ total_size (take i list) + size_of part = ap total_size (sym longer)
    ∙ total_size-longer (take i list) part in
    let adds : AddsNarrowedRow part.assertion 0 old new =
    subst (λ (a : Assertion). AddsNarrowedRow a 0 old new) (ap (λ (p : Part). p.assertion) c.part.view_is)
    c.in_ok-add_narrowed_row.ensures.ok in
    let more : length new.system.rows ≡ length old.system.rows + 1 =
    ap (λ (s : SystemEquations). length s.rows) adds.system ∙ length_push old.system.rows adds.row in
    let narrowed_more : map narrow (take i list) ++ narrowed_part old.names part ∷ [] ≡ map narrow (take (i + 1) list) =
    ap (λ names. map narrow (take i list) ++ narrowed_part names part ∷ []) c.loop-part.invariant.names
    ∙ sym (map-append narrow (take i list) (part ∷ [])) ∙ ap (map narrow) longer in
    record {
      base = λ parts is. subst (λ (ps : List Part). IsBaseOf ps new.names new.system)
          (append_assoc parts (map narrow (take i list)) (narrowed_part old.names part ∷ [])
          ∙ ap (λ ps. parts ++ ps) narrowed_more)
          (narrowed-base part 0 old new adds (parts ++ map narrow (take i list))
          (c.loop-part.invariant.base parts is));
      names = adds.names ∙ c.loop-part.invariant.names;
      requesters = ap (λ (s : SystemEquations). s.requesters) adds.system ∙ c.loop-part.invariant.requesters;
      levels = ap (λ (s : SystemEquations). s.levels) adds.system ∙ c.loop-part.invariant.levels;
      nodes = omega (arith, size, narrowed-nodes part 0 old new adds, c.loop-part.invariant.nodes);
      rows = omega (arith, more, c.loop-part.invariant.rows);
      live =
          c.in_ok-add.ensures.ok ∙ ap (λ fs. fs ++ true ∷ []) c.loop-part.invariant.live
          ∙ append_assoc c.args.live.now (replicate i true) (true ∷ [])
          ∙ ap (λ fs. c.args.live.now ++ fs) (replicate_more i true);
    }
