use Rattle.std.proofs.Common.{ℕ, ◌≡◌, ◌∙◌, ◌≤◌, ◌-◌, ◌∷◌, ◌++◌, List, drop, take, sym, ap, subst, length, slice_index}
use Rattle.std.proofs.Common.{arith}
use Rattle.std.proofs.lemmas.List.{length-take-le, take-append-drop}
use Rattle.kn_names.specs.Arenas.{AreEnds, names_from}
use Rattle.kn_names.proofs.NameBlocks.{ends-taken, length-names, names-longer, names-taken, start-within}
use Rattle.kn_names.proofs.arena.Arena.pop.Goals as goal

pub invariant_of-self : goal.invariant_of-self
invariant_of-self c =
    let bytes : List ℕ = c.self.inside.bytes.items in
    let ends : List ℕ = c.self.inside.ends.items in
    let last : ℕ = c.len-last.result - 1 in
    let few : last ≤ length ends = omega (arith, c.len-last.ensures) in
    let start : c.start-start.result ≤ length bytes =
    omega (arith, c.start-start.ensures, start-within 0 ends (length bytes) last c.self.invariant.0 few) in
    let size : length c.truncate-2.new.self.items ≡ c.start-start.result = ap length c.truncate-2.ensures.items
    ∙ length-take-le c.start-start.result bytes start in
    let are : AreEnds 0 (take last ends) (slice_index (0 ∷ ends) last) =
    ends-taken 0 ends (length bytes) last c.self.invariant.0 few in (
      subst (λ es. AreEnds 0 es (length c.truncate-2.new.self.items)) (sym c.truncate.ensures.items)
          (subst (AreEnds 0 (take last ends)) (sym (size ∙ c.start-start.ensures)) are),
      omega (arith, size, start, c.self.invariant.1),
    )

pub returns : goal.returns
returns c =
    let bytes : List ℕ = c.self.inside.bytes.items in
    let ends : List ℕ = c.self.inside.ends.items in
    let last : ℕ = c.len-last.result - 1 in
    let begins : ℕ = slice_index (0 ∷ ends) last in
    let few : last ≤ length ends = omega (arith, c.len-last.ensures) in
    let within : begins ≤ length bytes = start-within 0 ends (length bytes) last c.self.invariant.0 few in
    let cut : c.truncate-2.new.self.items ≡ take begins bytes = c.truncate-2.ensures.items
    ∙ ap (λ n. take n bytes) c.start-start.ensures in
    let are : AreEnds 0 (take last ends) begins = ends-taken 0 ends (length bytes) last c.self.invariant.0 few in
    let longer : names_from 0 (take last ends) (take begins bytes ++ drop begins bytes)
    ≡ names_from 0 (take last ends) (take begins bytes) =
    names-longer 0 (take last ends) (take begins bytes) (drop begins bytes) begins are
    (omega (arith, length-take-le begins bytes within)) in
    let count : last ≡ length c.args.self.now - 1 =
    omega (arith, c.len-last.ensures, length-names 0 ends bytes, ap length c.self.view_is) in
    ap (λ es. names_from 0 es c.truncate-2.new.self.items) c.truncate.ensures.items
    ∙ ap (names_from 0 (take last ends)) cut ∙ sym longer
    ∙ ap (names_from 0 (take last ends)) (take-append-drop begins bytes)
    ∙ names-taken 0 ends bytes last ∙ ap (take last) c.self.view_is ∙ ap (λ n. take n c.args.self.now) count
