-- A block that is combined with a pad byte by byte.
use Rattle.std.proofs.Common.{◌≡◌, ℕ, ◌+◌, ◌<◌, List, [], ◌∷◌, ◌++◌, length, take, drop, get_or, set, sym, ap, ◌∙◌}
use Rattle.std.proofs.Common.{arith, append_assoc}
use Rattle.std.specs.Prelude.{bit_xor}
use Rattle.std.proofs.Math.Seq.{set-append_seam, get_or-append_seam}
use Rattle.std.proofs.lemmas.List.{drop_more, take_more, length-take-le, length-map, map-append}
use Rattle.kn_auth.specs.Codes.{xor_with}

-- the byte between two parts is combined
combined_at : (pad : ℕ) (front : List ℕ) (byte : ℕ) (rest : List ℕ) (i : ℕ) → length front ≡ i
    → set (front ++ byte ∷ rest) i (bit_xor (get_or (front ++ byte ∷ rest) i 0) pad) ≡ front ++ bit_xor byte pad ∷ rest
combined_at pad front byte rest i size =
    let read : get_or (front ++ byte ∷ rest) i 0 ≡ byte = rw (← size) (get_or-append_seam front byte rest 0) in
    rw read (rw (← size) (set-append_seam front byte rest (bit_xor byte pad)))

-- one byte more is combined
pub xor_more : (pad : ℕ) (xs : List ℕ) (i : ℕ) → i < length xs
    → set (xor_with pad (take i xs) ++ drop i xs) i (bit_xor (get_or (xor_with pad (take i xs) ++ drop i xs) i 0) pad)
    ≡ xor_with pad (take (i + 1) xs) ++ drop (i + 1) xs
xor_more pad xs i within =
    let size : length (xor_with pad (take i xs)) ≡ i = simp (length-map) (length-take-le i xs (omega arith)) in
    let rest : drop i xs ≡ get_or xs i 0 ∷ drop (i + 1) xs = drop_more xs i 0 within in
    let front : xor_with pad (take (i + 1) xs) ≡ xor_with pad (take i xs) ++ bit_xor (get_or xs i 0) pad ∷ [] =
    ap (xor_with pad) (take_more xs i 0 within) ∙ map-append _ (take i xs) (get_or xs i 0 ∷ []) in
    rw rest
    (combined_at pad (xor_with pad (take i xs)) (get_or xs i 0) (drop (i + 1) xs) i size
    ∙ sym (append_assoc (xor_with pad (take i xs)) (bit_xor (get_or xs i 0) pad ∷ []) (drop (i + 1) xs))
    ∙ ap (λ l. l ++ drop (i + 1) xs) (sym front))
