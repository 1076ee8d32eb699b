-- Names in chains, by their hashes.
use Rattle.std.specs.Prelude.{ℕ, ◌≡◌, ◌-◌, ◌%◌, ◌^◌, ◌<◌, ◌≤◌, List, [], length, slice_get, slice_index, slice_index_or}
use Rattle.std.specs.Prelude.{Some}
use Rattle.std.specs.Hash.FoldHasher as folding

-- the chain of a name where there are so many
unfoldable pub home_of : ℕ → List ℕ → ℕ
home_of chains name = folding.finish (folding.write folding.initial name) % chains

-- the chain of the name at a place
abbrev pub home_at : List (List ℕ) → ℕ → ℕ → ℕ
home_at names chains place = home_of chains (slice_index_or names place [])

-- the number is 0 where none of the first names, so many, is of a chain, and else the last of these has the place
-- before it
pub record IsLast (names : List (List ℕ)) (chains chain count number : ℕ) : Type 0 where
  pub within : number ≤ count
  pub own : 0 < number → home_at names chains (number - 1) ≡ chain
  pub last : (place : ℕ) → place < count → home_at names chains place ≡ chain → place < number

-- the first names, so many, stand in chains: each begins with its last name, and each name leads to the one before it
pub record AreChained (names : List (List ℕ)) (count : ℕ) (firsts nexts : List ℕ) : Type 0 where
  pub heads : (chain : ℕ) → chain < length firsts → IsLast names (length firsts) chain count (slice_index firsts chain)
  pub links : (place : ℕ) → place < count
      → IsLast names (length firsts) (home_at names (length firsts) place) place (slice_index nexts place)

-- all names stand in chains, of which there are as many as names at least
pub record IsTable (names : List (List ℕ)) (firsts nexts : List ℕ) : Type 0 where
  pub chained : AreChained names (length names) firsts nexts
  pub links : length nexts ≡ length names
  pub chains : length names ≤ length firsts
  pub few : length names ≤ 2 ^ 24

-- a search for a name has looked at all that stand behind this number in its chain
pub record IsSought (names : List (List ℕ)) (chains : ℕ) (name : List ℕ) (number : ℕ) : Type 0 where
  pub within : number ≤ length names
  pub own : 0 < number → home_at names chains (number - 1) ≡ home_of chains name
  pub left : (place : ℕ) → slice_get names place ≡ Some name → place < number
