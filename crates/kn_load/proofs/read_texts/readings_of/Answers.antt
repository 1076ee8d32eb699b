use Rattle.std.proofs.Common.{◌≡◌, ◌∙◌, [], sym}
use Rattle.std.proofs.lemmas.List.{nil_from_length}
use Rattle.std.specs.Vec.Iter.{into_iter_items}
use Rattle.kn_load.proofs.ReadingLaws.{next_left, none_left}
use Rattle.kn_load.proofs.read_texts.readings_of.Goals as goal

pub add_result-requires : goal.add_result-requires
add_result-requires c =
    let given = c.requires.results in
    let next = next_left given.0 c.loop-found.readings c.in-Some.found (into_iter_items c.next.new.self)
    (rw c.in-Some.ensures.steps.0 at (c.loop-found.invariant given.0 given.1)) in
    record { found = (next.text, next.of_text) }

pub loop-found-preserved : goal.loop-found-preserved
loop-found-preserved c = λ texts all.
    let next = next_left texts c.loop-found.readings c.in-Some.found (into_iter_items c.next.new.self)
    (rw c.in-Some.ensures.steps.0 at (c.loop-found.invariant texts all)) in
    next.more c.add_result.new.self (c.in_ok-add_result.ensures next.front next.text next.are next.of_text)

pub returns : goal.returns
returns c = λ texts all.
    let none : into_iter_items c.loop-found.found-iterator ≡ [] =
    nil_from_length _ (sym c.loop-found.found-iterator.rest.ok.0 ∙ c.in-None.ensures.steps.0) in
    none_left texts c.loop-found.readings (rw none at (c.loop-found.invariant texts all))
