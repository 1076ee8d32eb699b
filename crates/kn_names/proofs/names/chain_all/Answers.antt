use Rattle.std.proofs.Common.{ℕ, ◌≡◌, ◌+◌, ◌<◌, ◌∙◌, List, get_or, length, slice_set, sym, ap, refl, arith}
use Rattle.std.proofs.lemmas.List.{get_or_read, get_or-set_other, get_or-set_same, length-set}
use Rattle.kn_names.specs.Chains.{home_at, home_of}
use Rattle.kn_names.proofs.Chains.{chained_next, named}
use Rattle.kn_names.proofs.names.chain_all.Goals as goal

pub loop-number-preserved : goal.loop-number-preserved
loop-number-preserved c =
    let names : List (List ℕ) = c.args.arena.now in
    let n : ℕ = c.loop-number.number in
    let heads : List ℕ = c.loop-number.heads.items in
    let links : List ℕ = c.loop-number.links.items in
    let there : c.home-home.result < length heads = omega (arith, c.home-home.ensures.in_range, c.len.ensures) in
    let read : c.index.result.now ≡ get_or heads c.home-home.result 0 =
    get_or_read heads c.home-home.result c.index.result.now there c.index.ensures 0 in
    let chains : c.len.result ≡ length heads = omega (arith, c.len.ensures) in
    let home : c.home-home.result ≡ home_at names (length heads) n = c.home-home.ensures.exact
    ∙ ap (λ k. home_of k c.get.result.now) chains
    ∙ sym (named names (length heads) n c.get.result.now c.get.ensures) in
    let few : n < length names = omega (arith, c.loop-number-test.true, c.len-number-end.ensures) in
    let link : n < length links = omega (arith, few, c.requires.links, c.loop-number.invariant.links) in
    record {
      chained = chained_next names n heads links (slice_set heads c.home-home.result (n + 1))
          (slice_set links n c.index.result.now) c.home-home.result home there refl
          (λ i l. get_or-set_other links n i c.index.result.now 0 (omega (arith, l)))
          (get_or-set_same links n c.index.result.now 0 link ∙ read) c.loop-number.invariant.chained;
      chains = length-set heads c.home-home.result (n + 1) ∙ c.loop-number.invariant.chains;
      links = length-set links n c.index.result.now ∙ c.loop-number.invariant.links;
      room = c.loop-number.invariant.room;
    }
