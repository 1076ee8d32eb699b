use Rattle.std.proofs.Common.{◌≡◌, ◌+◌, ◌-◌, ◌<◌, ◌≤◌, ◌^◌, length, min, take, drop}
use Rattle.kn_system.specs.Form.{form_levels}
use Rattle.kn_system.specs.Forms.{AreTallied}
use Rattle.kn_system.specs.LinkedNodes.{node_pieces}
use Rattle.kn_system.proofs.formula.+level_at.Given as goal

abbrev pub decreases-level_at : goal.decreases-level_at
decreases-level_at g l = length l.nodes.now - l.at

abbrev pub invariant-loop-part : goal.invariant-loop-part
invariant-loop-part g l = record {
  further : l.at < l.next;
  inside : l.next ≤ length l.nodes;
  rest : drop l._part (form_levels l.top l.values (drop (l.at + 1) (node_pieces l.nodes)))
      ≡ form_levels l.top l.values (drop l.next (node_pieces l.nodes));
  tallied : AreTallied l.tally (take l._part (form_levels l.top l.values (drop (l.at + 1) (node_pieces l.nodes))));
  size : length l.tally ≡ 64;
  ticks : l.steps ≡ min (l.fn.steps + (l.next - l.at)) (2 ^ 64 - 1);
}
