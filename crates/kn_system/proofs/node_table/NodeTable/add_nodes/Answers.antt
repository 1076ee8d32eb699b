use Rattle.std.proofs.Common.{◌≡◌, ◌<◌, ◌+◌, ◌^◌, ◌++◌, ◌∷◌, ℕ, [], List, take, length, length-append, get_or, ap, ◌∙◌}
use Rattle.std.proofs.Common.{sym}
use Rattle.std.proofs.Common.{arith, rules}
use Rattle.std.proofs.lemmas.List.{append-nil, append_assoc, drop_more, take_more, length-take, take-append-le}
use Rattle.std.proofs.lemmas.List.{length_push}
use Rattle.kn_system.specs.declared.nodes.Up.{Up}
use Rattle.kn_system.specs.declared.rows.Piece.{Piece}
use Rattle.kn_system.specs.declared.rows.Piece.TheVariants.{Who}
use Rattle.kn_system.specs.Nodes.{FlatNodes, parts_of}
use Rattle.kn_system.proofs.NodeLinks.{added_next, forms_left, low_next}
use Rattle.kn_system.proofs.node_table.NodeTable.add_nodes.Goals as goal

pub take_up-requires : goal.take_up-requires
take_up-requires c =
    let k : ℕ = c.loop-piece.piece-index in
    let formula = c.args.formula.now in
    record {
      some = forms_left _ _ _ _ _ c.loop-piece.invariant.added.forms.1
          (drop_more formula k (Who 0) (search rules));
    }

pub push-requires-in-loop-piece-clause-few : goal.push-requires-in-loop-piece-clause-few
push-requires-in-loop-piece-clause-few c =
    let k : ℕ = c.loop-piece.piece-index in
    let formula : List Piece = c.args.formula.now in
    let old : List Piece = c.args.self.now.pieces in
    let within : k < length formula = search rules in
    omega (
      arith,
      ap length c.loop-piece.invariant.pieces,
      length-append old (take k formula),
      length-take k formula,
      within,
      c.requires.few,
    )

pub push-requires-in-loop-piece-clause-low : goal.push-requires-in-loop-piece-clause-low
push-requires-in-loop-piece-clause-low c =
    let (us, is, after) = c.in_ok-up.ensures in
    (low_next c.loop-piece.above.items us us c.in_ok-up.up 0 0 c.loop-piece.invariant.low is (sym (append-nil us))
    (omega arith)).0

pub loop-piece-preserved : goal.loop-piece-preserved
loop-piece-preserved c =
    let k : ℕ = c.loop-piece.piece-index in
    let formula : List Piece = c.args.formula.now in
    let old : List Piece = c.args.self.now.pieces in
    let before : List Up = c.args.self.now.ups in
    let x : Piece = get_or formula k (Who 0) in
    let within : k < length formula = search rules in
    let pushed = c.in_ok-push.ensures.ok in
    let pieces : c.push-in-loop-piece.new.self.pieces ≡ c.loop-piece.self.pieces ++ x ∷ [] =
    ap (λ (f : FlatNodes). f.pieces) pushed in
    let ups : c.push-in-loop-piece.new.self.ups ≡ c.loop-piece.self.ups ++ c.in_ok-up.up ∷ [] =
    ap (λ (f : FlatNodes). f.ups) pushed in
    let node : c.len.result ≡ length old + k = c.len.ensures.nodes ∙ ap length c.loop-piece.invariant.pieces
    ∙ length-append old (take k formula) ∙ (omega (arith, length-take k formula)) in
    let few : c.len.result < 2 ^ 24 = omega (arith, node, within, c.requires.few) in
    let (us, is, after) = c.in_ok-up.ensures in
    record {
      pieces = pieces ∙ ap (λ ps. ps ++ x ∷ []) c.loop-piece.invariant.pieces
          ∙ append_assoc old (take k formula) (x ∷ [])
          ∙ ap (λ ps. old ++ ps) (sym (take_more formula k (Who 0) within));
      added = added_next formula (length old) _ before c.loop-piece.self.ups c.loop-piece.above.items k x c.in_ok-up.up
          c.len.result _ c.take_up.new.above.items c.loop-piece.invariant.added (drop_more formula k (Who 0) within)
          node ups c.in_ok-up.ensures;
      kept_ups = ap (take (length before)) ups
          ∙ take-append-le (length before) c.loop-piece.self.ups (c.in_ok-up.up ∷ []) c.loop-piece.invariant.longer
          ∙ c.loop-piece.invariant.kept_ups;
      longer = omega (
        arith,
        c.loop-piece.invariant.longer,
        ap length ups,
        length_push c.loop-piece.self.ups c.in_ok-up.up,
      );
      low = (low_next c.loop-piece.above.items c.take_up.new.above.items us c.in_ok-up.up (parts_of x) c.len.result
          c.loop-piece.invariant.low is after few).1;
    }
