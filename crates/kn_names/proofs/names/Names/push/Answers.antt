use Rattle.std.proofs.Common.{ℕ, ◌≡◌, ◌+◌, ◌<◌, ◌∙◌, ◌∷◌, ◌++◌, [], List, get_or, length, slice_set, sym, ap, subst}
use Rattle.std.proofs.Common.{arith}
use Rattle.std.proofs.lemmas.List.{get_or_read}
use Rattle.kn_names.specs.Chains.{IsTable, home_of}
use Rattle.kn_names.proofs.Chains.{table_pushed}
use Rattle.kn_names.proofs.names.Names.push.Goals as goal

pub invariant_of-self-2 : goal.invariant_of-self-2
invariant_of-self-2 c =
    let names : List (List ℕ) = c.self.inside.arena in
    let name : List ℕ = c.args.name.now in
    let heads : List ℕ = c.make_room.new.heads.items in
    let links : List ℕ = c.make_room.new.links.items in
    let table : IsTable names heads links = c.make_room.ensures.table in
    let room : length names < length heads = c.in_ok-make_room.ensures.chains in
    let there : c.home-home.result < length heads = omega (arith, c.home-home.ensures.in_range, c.len.ensures) in
    let read : c.index.result.now ≡ get_or heads c.home-home.result 0 =
    get_or_read heads c.home-home.result c.index.result.now there c.index.ensures 0 in
    let chains : c.len.result ≡ length heads = omega (arith, c.len.ensures) in
    let home : c.home-home.result ≡ home_of (length heads) name = c.home-home.ensures.exact
    ∙ ap (λ n. home_of n name) chains in
    let some = ap length c.self.view_is in
    let number : c.len-number.result ≡ length names = omega (arith, c.len-number.ensures, table.links) in
    subst (λ ns. IsTable ns (slice_set heads c.home-home.result (c.len-number.result + 1))
    c.push_reserved.new.self.items) (sym c.in_ok-push.ensures.ok)
    (table_pushed names name heads links _ _ c.home-home.result table room (omega (arith, c.requires.few, some)) home
    there (ap (λ n. slice_set heads c.home-home.result (n + 1)) number) (c.push_reserved.ensures.items
    ∙ ap (λ v. links ++ v ∷ []) read))
