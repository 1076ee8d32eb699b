-- When the lines of a key file take memory, and which digits spell a key.
use Rattle.std.proofs.Common.{◌≡◌, ℕ, ◌≤◌, List, length, Result, Ok, Err, arith}
use Rattle.std.specs.Prelude.{OnErr}
use Rattle.hex.specs.Hex.{decode_of}
use Rattle.hex.proofs.HexLemmas.{decode_of-ok}
use Rattle.kn_auth.specs.KeyLines.{SpellsKey, HasKeySize}

-- what holds anyway holds after an error
pub on_err_always : {T E P : Type 0} (r : Result T E) → P → OnErr r P
on_err_always (Ok x) p = tt
on_err_always (Err e) p = p

-- digits that are none or too many spell no key
pub key_digits : (digits key : List ℕ) → SpellsKey digits key → (1 ≤ length digits) × (length digits ≤ 256)
key_digits digits key s =
    let twice = (decode_of-ok digits key s.decoded).2 in
    let some = s.some in
    let few : length key ≤ 128 = s.few in
    (omega (arith, twice, some), omega (arith, twice, few))

-- and others do, where they are digits
pub spelled_key : (digits key : List ℕ) → decode_of digits ≡ Ok key → 1 ≤ length digits → length digits ≤ 256
    → SpellsKey digits key
spelled_key digits key decoded some few =
    let twice = (decode_of-ok digits key decoded).2 in
    record { decoded = decoded; some = omega (arith, twice, some); few = omega (arith, twice, few) }

-- what spells a key has the size of one
pub key_size : (digits key : List ℕ) → SpellsKey digits key → HasKeySize digits
key_size digits key s =
    let sizes = decode_of-ok digits key s.decoded in
    let fit = key_digits digits key s in
    record { even = λ odd. omega (arith, sizes.0, odd); some = fit.0; few = fit.1 }
