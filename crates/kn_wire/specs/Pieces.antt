-- A stream of requests that comes in pieces (keynoted's own).
use Rattle.std.specs.Prelude.{ℕ, ◌≡◌, ◌⊎◌, true, false, List, [], ◌∷◌, ◌++◌, Some, None}
use Rattle.kn_wire.specs.Requests.{Request}
use Rattle.kn_wire.specs.Feeding.{Held, with_piece, next_of, is_shut}

-- these requests are taken one after the other; then this is held
abbrev pub Taken : Held → List Request → Held → Type 0
Taken held [] new = new ≡ held
Taken held (request ∷ requests) new =
    (mid : Held) × (is_shut held ≡ false) × (next_of held ≡ Some (request, mid)) × Taken mid requests new

-- nothing more is taken: there is no whole request, or a block was refused
abbrev pub IsAtRest : Held → Type 0
IsAtRest held = (is_shut held ≡ true) ⊎ (next_of held ≡ None)

-- pieces are added one after the other, and before each, and after the last, all requests are taken
abbrev pub Pieced : Held → List (List ℕ) → List Request → Held → Type 0
Pieced held [] requests new = Taken held requests new × IsAtRest new
Pieced held (piece ∷ pieces) requests new = (first : List Request) × (others : List Request) × (mid : Held)
    × (requests ≡ first ++ others) × Taken held first mid × IsAtRest mid
    × Pieced (with_piece mid piece) pieces others new
