use Rattle.std.proofs.Common.{ℕ, ◌≡◌, ◌∙◌, ◌-◌, ◌∷◌, ◌++◌, [], List, drop, take, sym, ap, subst, length, length-append}
use Rattle.std.proofs.Common.{slice_range, arith}
use Rattle.std.proofs.lemmas.List.{take_all}
use Rattle.std.proofs.Math.Seq.{drop-append_seam}
use Rattle.kn_names.specs.Arenas.{AreEnds, names_from}
use Rattle.kn_names.proofs.NameBlocks.{ends-pushed, names-longer, names-push}
use Rattle.kn_names.proofs.arena.Arena.push.Goals as goal

pub invariant_of-self-2 : goal.invariant_of-self-2
invariant_of-self-2 c =
    let bytes : List ℕ = c.self.inside.bytes.items in
    let more : c.extend_from_slice.new.self.items ≡ bytes ++ c.args.name.now =
    c.in-Ok-extend_from_slice.ensures.items in
    let size = ap length more in
    let all = length-append bytes c.args.name.now in
    let ends : c.push_reserved.new.self.items ≡ c.self.inside.ends.items ++ c.len-2.result ∷ [] =
    c.push_reserved.ensures.items ∙ ap (λ es. es ++ c.len-2.result ∷ []) c.reserve.ensures.items in
    let end : c.len-2.result ≡ length c.extend_from_slice.new.self.items = omega (arith, c.len-2.ensures) in
    let are : AreEnds 0 (c.self.inside.ends.items ++ c.len-2.result ∷ []) c.len-2.result =
    ends-pushed 0 c.self.inside.ends.items (length bytes) c.len-2.result c.self.invariant.0
    (omega (arith, end, size, all)) in (
      subst (λ es. AreEnds 0 es (length c.extend_from_slice.new.self.items)) (sym ends)
          (subst (AreEnds 0 (c.self.inside.ends.items ++ c.len-2.result ∷ [])) end are),
      omega (arith, size, all, c.if-name-len.false, c.len.ensures, c.self.invariant.1),
    )

pub returns-clause-ok : goal.returns-clause-ok
returns-clause-ok c =
    let bytes : List ℕ = c.self.inside.bytes.items in
    let name : List ℕ = c.args.name.now in
    let before : List ℕ = c.self.inside.ends.items in
    let more : c.extend_from_slice.new.self.items ≡ bytes ++ name = c.in-Ok-extend_from_slice.ensures.items in
    let size = ap length more in
    let all = length-append bytes name in
    let ends : c.push_reserved.new.self.items ≡ before ++ c.len-2.result ∷ [] = c.push_reserved.ensures.items
    ∙ ap (λ es. es ++ c.len-2.result ∷ []) c.reserve.ensures.items in
    let end : c.len-2.result ≡ length c.extend_from_slice.new.self.items = omega (arith, c.len-2.ensures) in
    let behind : drop (length bytes) (bytes ++ name) ≡ name = drop-append_seam bytes name in
    let last : slice_range (bytes ++ name) (length bytes) c.len-2.result ≡ name =
    ap (take (c.len-2.result - length bytes)) behind
    ∙ take_all (c.len-2.result - length bytes) name (omega (arith, end, size, all)) in
    ap (λ es. names_from 0 es c.extend_from_slice.new.self.items) ends
    ∙ ap (names_from 0 (before ++ c.len-2.result ∷ [])) more
    ∙ names-push 0 before (bytes ++ name) (length bytes) c.len-2.result c.self.invariant.0
    ∙ ap (λ n. names_from 0 before (bytes ++ name) ++ n ∷ []) last
    ∙ ap (λ ns. ns ++ name ∷ []) (names-longer 0 before bytes name (length bytes) c.self.invariant.0 (omega arith)
    ∙ c.self.view_is)
