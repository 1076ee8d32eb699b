use Rattle.std.proofs.Common.{◌≡◌, ℕ, ◌+◌, ◌^◌, ◌<◌, ◌≤◌, List, [], ◌∷◌, ◌++◌, length, get_or, replicate, take, true}
use Rattle.std.proofs.Common.{refl, sym, ap, ◌∙◌, subst, arith}
use Rattle.std.proofs.lemmas.List.{replicate_more, take_all, take_more}
use Rattle.kn_meaning.specs.Equations.{Part}
use Rattle.kn_rows.specs.BaseRows.{IsBaseOf}
use Rattle.kn_rows.specs.Numbering.{with_names}
use Rattle.kn_rows.specs.Sizes.{IsReadablePart, size_of, total_size}
use Rattle.kn_rows.proofs.NamesAdded.{length-with_names}
use Rattle.kn_rows.proofs.Pieces.{nodes-front, rows-nodes}
use Rattle.kn_rows.proofs.SizesAdded.{total_size-drop, total_size-longer, total_size-split}
use Rattle.kn_rows.proofs.Texts.{texts_readable, texts_small}
use Rattle.kn_answer.specs.Removed.{live_parts}
use Rattle.kn_answer.proofs.Capped.{live-all}
use Rattle.kn_answer.proofs.base.Base.of.Goals.{After-part-item, In_ok-longer}
use Rattle.kn_answer.proofs.base.Base.of.Goals as goal

-- the assertion at hand is the next one
within : (c : After-part-item) → c.loop-part.part-index < length c.args.list.now
within c = omega (arith, ap length c.as_slice-part-items.ensures)

next_part : (c : After-part-item)
    → c.part-item.result ≡ get_or c.args.list.now c.loop-part.part-index c.part-item.result
next_part c = c.part-item.is
    ∙ ap (λ ps. get_or ps c.loop-part.part-index c.part-item.result) c.as_slice-part-items.ensures

-- with those before it, it is the first ones
longer : (c : After-part-item)
    → take c.loop-part.part-index c.args.list.now ++ c.part-item.result ∷ []
    ≡ take (c.loop-part.part-index + 1) c.args.list.now
longer c =
    ap (λ part. take c.loop-part.part-index c.args.list.now ++ part ∷ []) (next_part c)
    ∙ sym (take_more c.args.list.now c.loop-part.part-index c.part-item.result (within c))

-- and they have room together
room : (c : After-part-item)
    → 65 + total_size (take c.loop-part.part-index c.args.list.now) + size_of c.part-item.result < 2 ^ 24
room c =
    let i : ℕ = c.loop-part.part-index in
    let list : List Part = c.args.list.now in
    let small = texts_small c.readings_are_computed.ensures.reading c.readings_are_sound.ensures list c.requires in
    let rest = total_size-drop list i c.part-item.result (within c) (next_part c) in
    omega (arith, rest, small, total_size-split list i)

pub extend-requires-clause-readable : goal.extend-requires-clause-readable
extend-requires-clause-readable c =
    subst IsReadablePart (sym (next_part c))
    (texts_readable c.readings_are_computed.ensures.reading c.readings_are_sound.ensures c.requires.texts
    c.args.list.now c.requires.read c.loop-part.part-index c.part-item.result (within c))

pub extend-requires-clause-names_fit : goal.extend-requires-clause-names_fit
extend-requires-clause-names_fit c = omega (arith, room c, c.loop-part.invariant.names)

pub extend-requires-clause-nodes_fit : goal.extend-requires-clause-nodes_fit
extend-requires-clause-nodes_fit c = omega (arith, room c, c.loop-part.invariant.nodes)

-- the longer base is that of the first assertions
of_first : (c : In_ok-longer) (first : List Part)
    → take c.loop-part.part-index c.args.list.now ++ c.part-item.result ∷ [] ≡ first
    → IsBaseOf first c.in_ok-longer.longer.names c.in_ok-longer.longer.system
of_first c first same =
    subst (λ (ps : List Part). IsBaseOf ps c.in_ok-longer.longer.names c.in_ok-longer.longer.system) same
    (c.in_ok-longer.ensures.base (take c.loop-part.part-index c.args.list.now) c.loop-part.invariant.base)

-- the formulas so far have too many nodes, so all have
pub returns-then-nodes-most_nodes-clause-none : goal.returns-then-nodes-most_nodes-clause-none
returns-then-nodes-most_nodes-clause-none c = λ none asked.
    let i : ℕ = c.loop-part.part-index in
    let list : List Part = c.args.list.now in
    let at = goal.at.returns-then-nodes-most_nodes-clause-none c in
    let of = of_first at.In_ok-longer (take (i + 1) list) (longer at.After-part-item) in
    omega (
      arith,
      rows-nodes asked c.in_ok-longer.longer.names (take (i + 1) list) c.in_ok-longer.longer.system.rows of.rows,
      nodes-front asked list (i + 1),
      c.nodes.ensures,
      c.if-nodes-most_nodes.true,
    )

pub loop-part-preserved : goal.loop-part-preserved
loop-part-preserved c =
    let i : ℕ = c.loop-part.part-index in
    let list : List Part = c.args.list.now in
    let at = goal.at.loop-part-preserved c in
    let first = longer at.After-part-item in
    let size : total_size (take (i + 1) list) ≡ total_size (take i list) + size_of c.part-item.result =
    ap total_size (sym first) ∙ total_size-longer (take i list) c.part-item.result in
    record {
      base = of_first at.In_ok-longer (take (i + 1) list) first;
      live = c.in_ok-longer.ensures.live ∙ ap (λ fs. fs ++ true ∷ []) c.loop-part.invariant.live
          ∙ replicate_more i true;
      names = omega (arith, size, c.loop-part.invariant.names, c.in_ok-longer.ensures.names);
      nodes = omega (arith, size, c.loop-part.invariant.nodes, c.in_ok-longer.ensures.nodes);
      small = omega (arith, c.nodes.ensures, c.if-nodes-most_nodes.false);
    }

pub returns-clause-live : goal.returns-clause-live
returns-clause-live c =
    let list : List Part = c.args.list.now in
    let size : c.loop-part.part-index ≡ length list = omega (arith, ap length c.as_slice-part-items.ensures) in
    ap (live_parts list) (c.loop-part.invariant.live ∙ ap (λ n. replicate n true) size)
    ∙ live-all list (length list) refl

pub returns-clause-names : goal.returns-clause-names
returns-clause-names c =
    let list : List Part = c.args.list.now in
    let small : 65 + total_size list < 2 ^ 24 =
    texts_small c.readings_are_computed.ensures.reading c.readings_are_sound.ensures list c.requires in
    let size : c.loop-part.part-index ≡ length list = omega (arith, ap length c.as_slice-part-items.ensures) in
    let all : take c.loop-part.part-index list ≡ list = take_all c.loop-part.part-index list (omega (arith, size)) in
    omega (arith, ap total_size all, small, c.loop-part.invariant.names)

pub returns-clause-room : goal.returns-clause-room
returns-clause-room c = λ requesters short.
    let list : List Part = c.args.list.now in
    let small : 65 + total_size list < 2 ^ 24 =
    texts_small c.readings_are_computed.ensures.reading c.readings_are_sound.ensures list c.requires in
    let size : c.loop-part.part-index ≡ length list = omega (arith, ap length c.as_slice-part-items.ensures) in
    let all : take c.loop-part.part-index list ≡ list = take_all c.loop-part.part-index list (omega (arith, size)) in
    let entered : length (with_names c.loop-part.base.names requesters) ≤ length c.loop-part.base.names
    + length requesters = length-with_names c.loop-part.base.names requesters in
    omega (arith, entered, ap total_size all, short, small, c.loop-part.invariant.names)
