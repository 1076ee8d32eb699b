use Rattle.std.proofs.Common.{zero, suc, List, [], ◌∷◌, ◌++◌, All, sym, subst, arith}
use Rattle.std.proofs.lemmas.List.Elements.{All-append}
use Rattle.kn_outside.specs.InMemory.{LinkInMemory}
use Rattle.kn_workers.specs.InMemory.{IsNewLink}
use Rattle.kn_fakes.proofs.doors.with_link.Goals as goal

one_new : (l : LinkInMemory) → IsNewLink l → All IsNewLink (l ∷ [])
one_new l is zero d lt = is
one_new l is (suc k) d lt = absurd (omega (arith, lt))

more_new : (links : List LinkInMemory) (l : LinkInMemory) → All IsNewLink links → IsNewLink l → All IsNewLink
    (links ++ l ∷ [])
more_new links l are is = All-append IsNewLink links (l ∷ []) are (one_new l is)

pub returns-in-Ok : goal.returns-in-Ok
returns-in-Ok c = subst (All IsNewLink) (sym c.in-Ok.ensures.ok) (more_new _ _ c.requires.links c.requires.link)
