-- The bases that are kept, while the pass sees more.
use Rattle.std.proofs.Common.{◌≡◌, ℕ, zero, suc, Bool, List, [], ◌∷◌, ◌++◌, length, take, refl}
use Rattle.std.proofs.Common.{sym, ap}
use Rattle.std.proofs.Common.{◌∙◌, subst, arith}
use Rattle.std.proofs.Common.{inl, inr}
use Rattle.std.proofs.lemmas.List.{take_all, take-take}
use Rattle.kn_outside.specs.Seen.{LinkSeen}
use Rattle.kn_history.specs.declared.update.Update.{Update}
use Rattle.kn_session.specs.Sessions.{Session, StandingQuery, asker, query_at}
use Rattle.kn_wire.specs.Feeding.{Held}
use Rattle.kn_daemon.specs.Shapes.{Shape}
use Rattle.kn_daemon.specs.Daemon.{DaemonConfig}
use Rattle.kn_registry.specs.Passes.{PassSeen, Moves}
use Rattle.kn_query.specs.declared.shared_base.SharedBase.{SharedBase}
use Rattle.kn_query.specs.declared.kept_bases.KeptBases.{KeptBases}
use Rattle.kn_query.specs.KeptBases.{EachKept, IsKeptOrOf}
use Rattle.kn_query.specs.SharedBases.{IsOfHistory, IsOfVersion}
use Rattle.kn_query.proofs.KeptBaseLaws.{each-weaker, kept-has}
use Rattle.kn_serve.specs.Handling.{Moment, Handles}
use Rattle.kn_serve.specs.Serving.{Serving}
use Rattle.kn_serve.specs.KeptBases.{IsFirstOf, ArePinned, IsKept}
use Rattle.kn_serve.proofs.PinnedLaws.{underway-pinned}

-- the first updates stay
take-grown : (n : ℕ) (xs ys : List Update) → n ≡ length (take n xs) → take n xs ≡ take n (xs ++ ys)
take-grown zero xs ys whole = refl
take-grown (suc n) [] ys whole = absurd (cc)
take-grown (suc n) (x ∷ xs) ys whole =
    let rest : n ≡ length (take n xs) = omega (arith, whole) in ap (λ l. x ∷ l) (take-grown n xs ys rest)

-- what is kept stays of the history while it grows
pub kept-grown : (history more : List Update) (kept : KeptBases) → IsKept history kept → IsKept (history ++ more) kept
kept-grown history more kept is =
    each-weaker (λ shared. IsOfVersion (take shared.number history) shared)
    (λ shared. IsOfVersion (take shared.number (history ++ more)) shared)
    (λ shared of. subst (λ (u : List Update). IsOfVersion u shared)
    (take-grown shared.number history more of.credentials.number) of) kept is

pub kept-moved : (v w : PassSeen) (more own : List Update) (entries : List ℕ) (kept : KeptBases)
    → Moves v w more own entries
    → IsKept v.seen kept → IsKept w.seen kept
kept-moved v w more own entries kept moves is =
    subst (λ (u : List Update). IsKept u kept) (sym moves.seen) (kept-grown v.seen more kept is)

pub kept-handled : (g : DaemonConfig) (shape : Shape) (whole : Bool) (m m' : Moment) (kept : KeptBases)
    → Handles g shape whole m m' → IsKept m.pass.seen kept → IsKept m'.pass.seen kept
kept-handled g shape whole m m' kept handled is =
    kept-moved m.pass m'.pass handled.more _ handled.entries kept handled.moves is

-- each base is of what the first updates of a later version of the history made
pub kept-of_earlier : (version history : List Update) (kept : KeptBases) → IsFirstOf version history
    → IsKept history kept → EachKept (IsOfHistory version) kept
kept-of_earlier version history kept first is =
    each-weaker (λ shared. IsOfVersion (take shared.number history) shared) (IsOfHistory version)
    (λ shared of within. subst (λ (u : List Update). IsOfVersion u shared)
    (sym (take-take shared.number (length version) history within) ∙ ap (take shared.number) (sym first)) of) kept is

-- and one that is of a version of the history is of the history
kept-of : (version history : List Update) (shared : SharedBase) → IsFirstOf version history
    → IsOfVersion version shared → IsOfVersion (take shared.number history) shared
kept-of version history shared first is =
    subst (λ (u : List Update). IsOfVersion u shared)
    (first ∙ ap (λ (n : ℕ). take n history) (sym is.credentials.number)) is

kept-or-of : (version history : List Update) (old : KeptBases) (shared : SharedBase) → IsFirstOf version history
    → IsKept history old → IsKeptOrOf version old shared → IsOfVersion (take shared.number history) shared
kept-or-of version history old shared first is (inl before) =
    kept-has (λ s. IsOfVersion (take s.number history) s) old shared is before
kept-or-of version history old shared first is (inr of) = kept-of version history shared first of

-- what is kept after a question is of the history of which it was before
pub kept-after : (version history : List Update) (old new : KeptBases) → IsFirstOf version history
    → EachKept (IsKeptOrOf version old) new → IsKept history old → IsKept history new
kept-after version history old new first each is =
    each-weaker (IsKeptOrOf version old) (λ shared. IsOfVersion (take shared.number history) shared)
    (λ shared from. kept-or-of version history old shared first is from) new each

-- all that was seen is a version of itself
all-first : (history : List Update) → IsFirstOf history history
all-first history = sym (take_all (length history) history (omega arith))

-- a standing query is asked over all that was seen
pub newest-first : (asking : Session) (query : StandingQuery) (made seen : List Update)
    → asking ≡ asker (query_at made query)
    → made ≡ seen → IsFirstOf asking.pinned seen
newest-first asking query made seen asks same =
    subst (λ (u : List Update). IsFirstOf u seen) (sym (ap (λ (x : Session). x.pinned) asks ∙ same)) (all-first seen)

-- the sessions are pinned between two requests
pub serving_pinned : (g : DaemonConfig) (u : PassSeen) (l : LinkSeen) (m : Moment) (h : Held) (answered : ℕ)
    → Serving g u l m h answered
    → ArePinned m.pass.seen m.state
serving_pinned g u l m h answered s =
    underway-pinned g s.taken s.written m.pass.seen (length u.seen) u.number s.stops m.state h answered s.underway
