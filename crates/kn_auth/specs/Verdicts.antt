-- What authenticators answer for a text with its reading: the number of the fault, and 0 where the text is admitted
-- (keynoted's own; the signature covers what RFC 2704, section 4, the Signature field, says).
use Rattle.std.specs.Prelude.{ℕ, ◌==◌, Bool, false, ◌||◌, nat_eq, List, length, take, drop, codes, find, Option, Some}
use Rattle.std.specs.Prelude.{None, is_some, if◌then◌else◌}
use Rattle.std.specs.List.{list_any, starts_with}
use Rattle.std.specs.Option.{option_map, option_map_or}
use Rattle.std.specs.Result.{result_ok}
use Rattle.std.specs.Str.{bytes_eq}
use Rattle.sha2.specs.Sha256.{sha256}
use Rattle.hex.specs.Hex.{decode_sized}
use Rattle.kn_trees.specs.declared.assertion.Assertion.{Assertion}
use Rattle.kn_auth.specs.Codes.{mac_of}
use Rattle.kn_auth.specs.declared.entry.MacKey.{MacKey}
use Rattle.kn_auth.specs.declared.either.Either.{Either}

-- the key of a principal in normal form
abbrev pub key_of : List ℕ → List MacKey → Option (List ℕ)
key_of principal keys = option_map (λ mac. mac.key) (find (λ mac. bytes_eq principal mac.principal) keys)

abbrev pub has_key : List ℕ → List MacKey → Bool
has_key principal keys = is_some (key_of principal keys)

abbrev pub has_digest : List ℕ → List (List ℕ) → Bool
has_digest digest digests = list_any (bytes_eq digest) digests

-- the front of a signature by a code, which names its algorithm and the encoding of the code
abbrev pub mac_algorithm : List ℕ
mac_algorithm = codes "sig-hmac-sha256-hex:"

-- the digits, of either case, spell a code of 32 bytes
abbrev pub spells_code : List ℕ → List ℕ → Bool
spells_code digits mac = option_map_or (λ bytes. bytes_eq bytes mac) (result_ok (decode_sized digits 32)) false

-- the digits are checked with the authorizer's key
abbrev pub code_verdict : Option (List ℕ) → List ℕ → List ℕ → ℕ
code_verdict None digits body = 3
code_verdict (Some key) digits body = if spells_code digits (mac_of key body mac_algorithm) then 0 else 4

abbrev pub signature_verdict : Option (List ℕ) → Option (List ℕ) → List ℕ → ℕ
signature_verdict None key body = 1
signature_verdict (Some signature) key body =
    if starts_with nat_eq signature mac_algorithm then code_verdict key (drop (length mac_algorithm) signature) body
    else 2

-- The verdict of keys: the code is that of the text up to the label of the signature, followed by the algorithm's name.
abbrev pub mac_verdict : List MacKey → List ℕ → Assertion → ℕ
mac_verdict keys text assertion =
    signature_verdict assertion.signature (key_of assertion.authorizer keys) (take assertion.signed_to text)

-- the verdict of a list of digests
abbrev pub digest_verdict : List (List ℕ) → List ℕ → Assertion → ℕ
digest_verdict digests text assertion = if has_digest (sha256 text) digests then 0 else 5

-- the verdict of both: one that admits the text is enough, and else the keys' counts
abbrev pub first_verdict : ℕ → ℕ → ℕ
first_verdict by_keys by_digests = if by_keys == 0 || by_digests == 0 then 0 else by_keys

abbrev pub verdict_of : Either → List ℕ → Assertion → ℕ
verdict_of either text assertion =
    first_verdict (mac_verdict either.keys text assertion) (digest_verdict either.digests text assertion)
