-- A root pass that was never split sees its own updates alone.
use Rattle.std.proofs.Common.{◌≡◌, ℕ, ◌++◌, ◌∷◌, [], List, refl, sym, ap, ◌∙◌, subst, arith, append-nil}
use Rattle.kn_history.specs.declared.update.Update.{Update}
use Rattle.kn_turn.specs.Entries.{AllNameUpTo}
use Rattle.kn_registry.specs.Callers.{caller_of}
use Rattle.kn_registry.specs.Passes.{PassSeen, IsSoundPass, Moves, Looks}
use Rattle.kn_history.specs.History.{own_updates}

-- what stands behind in a list names no more than the list
named_behind : (n : ℕ) (front more : List Update) → AllNameUpTo caller_of n (front ++ more)
    → AllNameUpTo caller_of n more
named_behind n [] more h = h
named_behind n (u ∷ front) more h = named_behind n front more h.1

-- updates that name caller 0 at most are its own
all_own : (more : List Update) → AllNameUpTo caller_of 0 more → own_updates 0 more ≡ more
all_own [] h = refl
all_own (u ∷ more) h = let zero : u.caller ≡ 0 = omega (arith, h.0) in rw (zero, all_own more h.1) refl

-- what it has seen more is its own
pub alone : (v w : PassSeen) (more own : List Update) (entries : List ℕ) → v.number ≡ 0 → v.splits ≡ 0 → IsSoundPass w
    → Moves v w more own entries → more ≡ own
alone v w more own entries number unsplit sound moves =
    let named : AllNameUpTo caller_of 0 w.seen = subst (λ (n : ℕ). AllNameUpTo caller_of n w.seen) (moves.splits
    ∙ unsplit) (sound.root (moves.number ∙ number)) in
    let behind : AllNameUpTo caller_of 0 more =
    named_behind 0 v.seen more (subst (AllNameUpTo caller_of 0) moves.seen named) in
    sym (all_own more behind) ∙ ap (λ (n : ℕ). own_updates n more) (sym number) ∙ moves.named

-- where it looked and added nothing, it has seen nothing new
pub looks_alone : (v w : PassSeen) → v.number ≡ 0 → v.splits ≡ 0 → IsSoundPass w → Looks v w → w.seen ≡ v.seen
looks_alone v w number unsplit sound looks =
    looks.moves.seen
    ∙ ap (λ (m : List Update). v.seen ++ m) (alone v w looks.more [] _ number unsplit sound looks.moves)
    ∙ append-nil v.seen
