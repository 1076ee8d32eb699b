use Rattle.std.proofs.Common.{◌≡◌, ◌+◌, ◌<◌, ◌≤◌, ℕ, List, [], ◌∷◌, ◌++◌, length, get_or, replicate, take, true, sym}
use Rattle.std.proofs.Common.{ap, ◌∙◌, subst, arith, append_assoc}
use Rattle.std.proofs.lemmas.List.{append-nil, replicate_more, take_all, take_more}
use Rattle.kn_meaning.specs.Equations.{Part}
use Rattle.kn_rows.specs.BaseRows.{IsBaseOf}
use Rattle.kn_rows.specs.Sizes.{IsReadablePart, size_of, total_size}
use Rattle.kn_rows.proofs.SizesAdded.{total_size-drop, total_size-longer, total_size-split}
use Rattle.kn_answer.proofs.LongerBases.{goes-on-after, goes-on-same}
use Rattle.kn_answer.proofs.base.Base.extend_all.Goals.{After-part-item}
use Rattle.kn_answer.proofs.base.Base.extend_all.Goals as goal

pub loop-part-init : goal.loop-part-init
loop-part-init c = record {
  base = λ parts is. subst (λ (ps : List Part). IsBaseOf ps c.args.self.names c.args.self.system)
      (sym (append-nil parts)) is;
  live = sym (append-nil c.args.self.live);
  names = omega arith;
  nodes = omega arith;
  goes_on = goes-on-same c.args.self;
}

-- the assertion at hand is the next one
within : (c : After-part-item) → c.loop-part.part-index < length c.args.list.now
within c = omega (arith, ap length c.as_slice-part-items.ensures)

next_part : (c : After-part-item)
    → c.part-item.result ≡ get_or c.args.list.now c.loop-part.part-index c.part-item.result
next_part c = c.part-item.is
    ∙ ap (λ ps. get_or ps c.loop-part.part-index c.part-item.result) c.as_slice-part-items.ensures

-- with those before it, it is no more than all
room : (c : After-part-item)
    → total_size (take c.loop-part.part-index c.args.list.now) + size_of c.part-item.result
    ≤ total_size c.args.list.now
room c =
    let i : ℕ = c.loop-part.part-index in
    let list : List Part = c.args.list.now in
    let rest = total_size-drop list i c.part-item.result (within c) (next_part c) in
    omega (arith, rest, total_size-split list i)

pub extend-requires-clause-readable : goal.extend-requires-clause-readable
extend-requires-clause-readable c =
    subst IsReadablePart (sym (next_part c))
    (c.requires.readable c.loop-part.part-index c.part-item.result (within c))

pub extend-requires-clause-names_fit : goal.extend-requires-clause-names_fit
extend-requires-clause-names_fit c = omega (arith, room c, c.loop-part.invariant.names, c.requires.names_fit)

pub extend-requires-clause-nodes_fit : goal.extend-requires-clause-nodes_fit
extend-requires-clause-nodes_fit c = omega (arith, room c, c.loop-part.invariant.nodes, c.requires.nodes_fit)

pub loop-part-preserved : goal.loop-part-preserved
loop-part-preserved c =
    let at = goal.at.loop-part-preserved c in
    let i : ℕ = c.loop-part.part-index in
    let list : List Part = c.args.list.now in
    let a : Part = c.part-item.result in
    let longer : take i list ++ a ∷ [] ≡ take (i + 1) list =
    ap (λ x. take i list ++ x ∷ []) (next_part at.After-part-item)
    ∙ sym (take_more list i a (within at.After-part-item)) in
    let size : total_size (take (i + 1) list) ≡ total_size (take i list) + size_of a = ap total_size (sym longer)
    ∙ total_size-longer (take i list) a in
    record {
      base = λ parts is. subst (λ (ps : List Part). IsBaseOf ps c.in_ok-base.base.names c.in_ok-base.base.system)
          (append_assoc parts (take i list) (a ∷ []) ∙ ap (λ ps. parts ++ ps) longer)
          (c.in_ok-base.ensures.base (parts ++ take i list) (c.loop-part.invariant.base parts is));
      live =
          c.in_ok-base.ensures.live ∙ ap (λ fs. fs ++ true ∷ []) c.loop-part.invariant.live
          ∙ append_assoc c.args.self.live (replicate i true) (true ∷ [])
          ∙ ap (λ fs. c.args.self.live ++ fs) (replicate_more i true);
      names = omega (arith, size, c.loop-part.invariant.names, c.in_ok-base.ensures.names);
      nodes = omega (arith, size, c.loop-part.invariant.nodes, c.in_ok-base.ensures.nodes);
      goes_on = goes-on-after c.args.self c.loop-part.base c.in_ok-base.base c.loop-part.invariant.goes_on
          c.in_ok-base.ensures.goes_on;
    }

pub returns : goal.returns
returns c =
    let size : c.loop-part.part-index ≡ length c.args.list.now =
    omega (arith, ap length c.as_slice-part-items.ensures) in
    let all : take c.loop-part.part-index c.args.list.now ≡ c.args.list.now =
    take_all c.loop-part.part-index c.args.list.now (omega (arith, size)) in
    record {
      base = λ parts is.
          subst (λ (ps : List Part). IsBaseOf (parts ++ ps) c.loop-part.base.names c.loop-part.base.system) all
          (c.loop-part.invariant.base parts is);
      names = omega (arith, ap total_size all, c.loop-part.invariant.names);
      nodes = omega (arith, ap total_size all, c.loop-part.invariant.nodes);
      live = c.loop-part.invariant.live ∙ ap (λ n. c.args.self.live ++ replicate n true) size;
      goes_on = c.loop-part.invariant.goes_on;
    }
