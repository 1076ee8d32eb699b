use Rattle.std.proofs.Common.{◌≡◌, ◌++◌, [], ◌∷◌, map, sym, ap, ◌∙◌, append_assoc, append-nil}
use Rattle.kn_env.specs.Attributes.{Attribute, with_attribute}
use Rattle.kn_env.specs.Entries.{attribute_of}
use Rattle.kn_env.proofs.AttributeMaps.{IsNext, with_new_attribute, next_copied}
use Rattle.kn_env.proofs.attributes.Attributes.copy.Goals as goal
use Rattle.kn_env.proofs.attributes.Attributes.copy.Goals.{In-Some}

-- what is copied, the next attribute, and what is left
all : (c : In-Some) → c.loop-name.copy ++ attribute_of (c.in-Some.name.now, c.in-Some.value.now)
    ∷ map attribute_of c.next.new.self ≡ map attribute_of c.self.inside.entries.entries
all c = ap (λ entries. c.loop-name.copy ++ map attribute_of entries) (sym c.in-Some.ensures.steps)
    ∙ c.loop-name.invariant ∙ sym c.self.view_is

next : (c : In-Some) → IsNext c.loop-name.copy (attribute_of (c.in-Some.name.now, c.in-Some.value.now))
next c = next_copied c.self.inside.entries.entries c.loop-name.copy
    (attribute_of (c.in-Some.name.now, c.in-Some.value.now)) (map attribute_of c.next.new.self) c.self.invariant
    c.iter-name-items.ensures.unique (all c)

pub enter-requires : goal.enter-requires
enter-requires c = let is_next = next (goal.at.enter-requires c).In-Some in record { room = λ new. is_next.room }

pub loop-name-preserved : goal.loop-name-preserved
loop-name-preserved c =
    let a : Attribute = attribute_of (c.in-Some.name.now, c.in-Some.value.now) in
    let is_next = next (goal.at.loop-name-preserved c).In-Some in
    let copied : c.enter.new.self ≡ c.loop-name.copy ++ a ∷ [] =
    c.in_ok-enter.ensures.ok
    ∙ ap (λ name. with_attribute name c.as_slice-in-loop-name.result.now c.loop-name.copy) c.as_slice.ensures.value
    ∙ ap (λ value. with_attribute a.name value c.loop-name.copy) c.as_slice-in-loop-name.ensures.value
    ∙ with_new_attribute a.name a.value c.loop-name.copy is_next.new in
    ap (λ attributes. attributes ++ map attribute_of c.next.new.self) copied
    ∙ append_assoc c.loop-name.copy (a ∷ []) (map attribute_of c.next.new.self)
    ∙ all (goal.at.loop-name-preserved c).In-Some
    ∙ c.self.view_is

pub returns : goal.returns
returns c =
    sym (append-nil c.loop-name.copy)
    ∙ ap (λ entries. c.loop-name.copy ++ map attribute_of entries) (sym c.in-None.ensures.steps.0)
    ∙ c.loop-name.invariant
