-- Message authentication codes: HMAC (RFC 2104) over SHA-256 (FIPS 180-4), whose blocks have 64 bytes.
use Rattle.std.specs.Prelude.{ℕ, ◌-◌, nat_lt, List, ◌++◌, length, map, replicate, bit_xor, if◌then◌else◌}
use Rattle.sha2.specs.Sha256.{sha256}

-- each byte combined with the pad
abbrev pub xor_with : ℕ → List ℕ → List ℕ
xor_with pad bytes = map (λ byte. bit_xor byte pad) bytes

-- the bytes, and zeros behind them to the end of a block
abbrev pub block_of : List ℕ → List ℕ
block_of bytes = bytes ++ replicate (64 - length bytes) 0

-- a key that is longer than a block is hashed first (RFC 2104, section 2)
abbrev pub key_block : List ℕ → List ℕ
key_block key = block_of (if nat_lt 64 (length key) then sha256 key else key)

-- the code of a message: H(K XOR opad, H(K XOR ipad, text)) (RFC 2104, section 2)
abbrev pub hmac : List ℕ → List ℕ → List ℕ
hmac key message = sha256 (xor_with 0x5c (key_block key) ++ sha256 (xor_with 0x36 (key_block key) ++ message))

-- the code of a body and the tail behind it
abbrev pub mac_of : List ℕ → List ℕ → List ℕ → List ℕ
mac_of key body tail = hmac key (body ++ tail)
