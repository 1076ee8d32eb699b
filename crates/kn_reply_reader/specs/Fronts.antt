-- Texts at the front of bytes.
use Rattle.std.specs.Prelude.{ℕ, ◌≡◌, ◌≢◌, List, ◌++◌, length, flat_map, Option, Some, None}
use Rattle.std.specs.List.{All}

-- what is left behind one of these texts; nothing where the bytes begin with none of them
abbrev pub IsBehindOne : (List ℕ → Type 0) → List ℕ → Option (List ℕ) → Type 0
IsBehindOne Is left None = (text rest : List ℕ) → Is text → left ≢ text ++ rest
IsBehindOne Is left (Some rest) = (text : List ℕ) × Is text × (left ≡ text ++ rest)

-- bytes begin with one of these texts at most
abbrev pub AreApart : (List ℕ → Type 0) → Type 0
AreApart Is = (a b r s : List ℕ) → Is a → Is b → a ++ r ≡ b ++ s → (a ≡ b) × (r ≡ s)

-- the text of an item of a kind
abbrev pub TextOf : {X : Type 0} → (X → Type 0) → (X → List ℕ) → List ℕ → Type 0
TextOf {X} Is text_of text = (x : X) × Is x × (text ≡ text_of x)

-- the texts of so many, one behind the other
abbrev pub Items : {X : Type 0} → (X → Type 0) → (X → List ℕ) → ℕ → List ℕ → Type 0
Items {X} Is text_of count text = (xs : List X) × (length xs ≡ count) × All Is xs × (text ≡ flat_map text_of xs)
