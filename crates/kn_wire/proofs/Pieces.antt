-- The requests of a stream don't depend on how it is cut.
use Rattle.std.proofs.Common.{◌≡◌, ℕ, inl, inr, List, [], ◌∷◌, ◌++◌, flat_map, refl, sym, ap, ◌∙◌, subst, None}
use Rattle.std.proofs.Common.{append_assoc, append-nil}
use Rattle.kn_wire.specs.Requests.{Request, Takes, AreRequests, first_of}
use Rattle.kn_wire.specs.Feeding.{Held, Bytes, InLong, Shut, held_bytes, with_piece}
use Rattle.kn_wire.specs.Pieces.{Taken, IsAtRest, Pieced}
use Rattle.kn_wire.proofs.Growing.{next-grows, pushed-pushed, pushed-nothing, none-left}
use Rattle.kn_wire.proofs.Readings.{takes-push}

-- whatever more bytes come, these are the first requests of what was taken
abbrev AreFirst : List ℕ → List Request → Held → Type 0
AreFirst text requests held = (more : List ℕ) → Takes (text ++ more) requests (held_bytes (with_piece held more))

first-taken : (text : List ℕ) (requests : List Request) (held : Held) (others : List Request) (new : Held)
    → AreFirst text requests held → Taken held others new → AreFirst text (requests ++ others) new
first-taken text requests held [] new first taken =
    λ more. subst (λ rs. Takes (text ++ more) rs (held_bytes (with_piece new more))) (sym (append-nil requests))
    (subst (λ h. Takes (text ++ more) requests (held_bytes (with_piece h more))) (sym taken) (first more))
first-taken text requests held (request ∷ others) new first (mid, not_shut, next, later) =
    let one : AreFirst text (requests ++ request ∷ []) mid = λ more.
    takes-push (text ++ more) requests (held_bytes (with_piece held more)) request (held_bytes (with_piece mid more))
    (first more) (next-grows held mid request more not_shut next) in
    λ more. subst (λ rs. Takes (text ++ more) rs (held_bytes (with_piece new more)))
    (append_assoc requests (request ∷ []) others)
    (first-taken text (requests ++ request ∷ []) mid others new one later more)

first-pushed : (text : List ℕ) (requests : List Request) (held : Held) (piece : List ℕ) → AreFirst text requests held
    → AreFirst (text ++ piece) requests (with_piece held piece)
first-pushed text requests held piece first = λ more.
    subst (λ t. Takes t requests (held_bytes (with_piece (with_piece held piece) more)))
    (sym (append_assoc text piece more))
    (subst (Takes (text ++ (piece ++ more)) requests) (sym (pushed-pushed held piece more)) (first (piece ++ more)))

at_rest-none : (held : Held) → IsAtRest held → first_of (held_bytes held) ≡ None
at_rest-none held (inr none) = none-left held none
at_rest-none (Shut n) (inl shut) = refl
at_rest-none (Bytes text) (inl shut) = cc
at_rest-none InLong (inl shut) = cc

pieced : (text : List ℕ) (requests : List Request) (held : Held) (pieces : List (List ℕ)) (others : List Request)
    (new : Held)
    → AreFirst text requests held → Pieced held pieces others new
    → AreRequests (text ++ flat_map (λ piece. piece) pieces) (requests ++ others) (held_bytes new)
pieced text requests held [] others new first (taken, at_rest) =
    let all = first-taken text requests held others new first taken in
    record {
      taken = subst (Takes (text ++ []) (requests ++ others)) (pushed-nothing new) (all []);
      no_more = at_rest-none new at_rest;
    }
pieced text requests held (piece ∷ pieces) others new first (now, later, mid, cut, taken, at_rest, rest) =
    let all = first-taken text requests held now mid first taken in
    let more = pieced (text ++ piece) (requests ++ now) (with_piece mid piece) pieces later new
    (first-pushed text (requests ++ now) mid piece all) rest in
    subst (λ rs. AreRequests (text ++ flat_map (λ p. p) (piece ∷ pieces)) rs (held_bytes new))
    (append_assoc requests now later ∙ ap (λ rs. requests ++ rs) (sym cut))
    (subst (λ t. AreRequests t ((requests ++ now) ++ later) (held_bytes new))
    (append_assoc text piece (flat_map (λ p. p) pieces)) more)

pub pieces-are_requests : (pieces : List (List ℕ)) (requests : List Request) (new : Held)
    → Pieced (Bytes []) pieces requests new → AreRequests (flat_map (λ piece. piece) pieces) requests (held_bytes new)
pieces-are_requests pieces requests new h = pieced [] [] (Bytes []) pieces requests new (λ more. refl) h
