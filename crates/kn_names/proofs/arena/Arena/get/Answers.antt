use Rattle.std.proofs.Common.{ℕ, List, ◌≡◌, ◌∙◌, ◌<◌, Some, sym, ap, get_or, length, slice_get, slice_index}
use Rattle.std.proofs.Common.{slice_range, ◌∷◌, arith}
use Rattle.std.proofs.lemmas.List.{get_or_read}
use Rattle.kn_names.proofs.NameBlocks.{ends-within, length-names, name_at}
use Rattle.kn_names.proofs.arena.Arena.get.Goals as goal

pub start-start-requires : goal.start-start-requires
start-start-requires c = omega (
  arith,
  c.requires,
  length-names 0 c.self.inside.ends.items c.self.inside.bytes.items,
  ap length c.self.view_is,
)

pub index-requires : goal.index-requires
index-requires c = omega (
  arith,
  c.requires,
  length-names 0 c.self.inside.ends.items c.self.inside.bytes.items,
  ap length c.self.view_is,
)

pub part-requires : goal.part-requires
part-requires c =
    let ends : List ℕ = c.self.inside.ends.items in
    let within : c.args.number < length ends =
    omega (arith, c.requires, length-names 0 ends c.self.inside.bytes.items, ap length c.self.view_is) in
    let bounds = ends-within 0 ends (length c.self.inside.bytes.items) c.args.number c.self.invariant.0 within in
    let read : c.index.result.now ≡ get_or ends c.args.number 0 =
    get_or_read ends c.args.number c.index.result.now within c.index.ensures 0 in
    record {
      order = omega (arith, bounds.0, c.start-start.ensures, read);
      inside = omega (arith, bounds.1, read);
    }

pub returns : goal.returns
returns c =
    let ends : List ℕ = c.self.inside.ends.items in
    let within : c.args.number < length ends =
    omega (arith, c.requires, length-names 0 ends c.self.inside.bytes.items, ap length c.self.view_is) in
    let read : c.index.result.now ≡ get_or ends c.args.number 0 =
    get_or_read ends c.args.number c.index.result.now within c.index.ensures 0 in
    let begins : ℕ = slice_index (0 ∷ ends) c.args.number in
    let same : slice_range c.self.inside.bytes.items begins (get_or ends c.args.number 0) ≡ c.part.result.now =
    sym (c.part.ensures ∙ ap (λ bs. slice_range bs c.start-start.result c.index.result.now) c.as_slice.ensures.value
    ∙ ap (λ s. slice_range c.self.inside.bytes.items s c.index.result.now) c.start-start.ensures
    ∙ ap (slice_range c.self.inside.bytes.items begins) read) in
    ap (λ ns. slice_get ns c.args.number) (sym c.self.view_is)
    ∙ name_at 0 ends c.self.inside.bytes.items c.args.number within ∙ ap Some same
