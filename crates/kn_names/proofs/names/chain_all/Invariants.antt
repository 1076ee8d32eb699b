use Rattle.std.proofs.Common.{◌≡◌, length, vec_capacity}
use Rattle.kn_names.specs.Chains.{AreChained}
use Rattle.kn_names.proofs.names.chain_all.Given as goal

abbrev pub invariant-loop-number : goal.invariant-loop-number
invariant-loop-number l = record {
  chained : AreChained l.arena l.number l.heads.items l.links.items;
  chains : length l.heads.items ≡ length l.initial.heads.items;
  links : length l.links.items ≡ length l.initial.links.items;
  room : vec_capacity l.links ≡ vec_capacity l.initial.links;
}
