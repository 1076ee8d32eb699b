use Rattle.std.proofs.Common.{ℕ, ◌≡◌, ◌+◌, ◌-◌, ◌<◌, ◌∙◌, List, get_or, length, slice_set, take, sym, ap, subst, arith}
use Rattle.std.proofs.lemmas.List.{get_or_read}
use Rattle.kn_names.specs.Chains.{IsTable, home_of}
use Rattle.kn_names.proofs.Chains.{table_popped}
use Rattle.kn_names.proofs.names.Names.pop.Goals as goal

pub invariant_of-self : goal.invariant_of-self
invariant_of-self c =
    let names : List (List ℕ) = c.self.inside.arena in
    let heads : List ℕ = c.self.inside.heads.items in
    let links : List ℕ = c.self.inside.links.items in
    let last : ℕ = c.len-last.result - 1 in
    let some = ap length c.self.view_is in
    let size : last + 1 ≡ length names = omega (arith, c.len-last.ensures, c.requires, some) in
    let there : last < length links = omega (arith, size, c.self.invariant.links) in
    let read : c.index.result.now ≡ get_or links last 0 =
    get_or_read links last c.index.result.now there c.index.ensures 0 in
    let chains : c.len.result ≡ length heads = omega (arith, c.len.ensures) in
    let home : c.home-home.result ≡ home_of (length heads) c.get.result.now = c.home-home.ensures.exact
    ∙ ap (λ n. home_of n c.get.result.now) chains in
    let popped : c.pop.new.self ≡ take last names = c.pop.ensures ∙ ap (λ n. take n names) (omega (arith, size)) in
    subst (λ ns. IsTable ns (slice_set heads c.home-home.result c.index.result.now) c.truncate.new.self.items)
    (sym popped)
    (table_popped names c.get.result.now heads links _ _ last c.home-home.result c.self.invariant size c.get.ensures
    home (omega (arith, c.home-home.ensures.in_range, c.len.ensures)) (ap (slice_set heads c.home-home.result) read)
    c.truncate.ensures.items)
