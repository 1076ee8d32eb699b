-- Reading from the front of a field's words: what a grammar's reading is made of.
use Rattle.std.specs.Prelude.{◌≡◌, ℕ, zero, suc, List, [], ◌∷◌, ◌++◌, Option, Some, None, Result, Ok, Err}
use Rattle.kn_fields.specs.Words.{Word, Mark, with_rest, itself}
use Rattle.kn_fields.specs.Words.Word.{name, sign}
use Rattle.kn_fields.specs.declared.grammar_fault.GrammarFault.{GrammarFault}
use Rattle.kn_fields.specs.declared.grammar_fault.GrammarFault.TheVariants.{Syntax, NoMemory}

-- what is read, and the words behind it
abbrev pub Read : Type 0 → Type 0
Read X = Option (X × List Word)

abbrev pub Reader : Type 0 → Type 0
Reader X = List Word → Read X

-- what a sign at the front stands for, and the words behind it
unfoldable pub taken : {S : Type 0} → (List ℕ → Option S) → Reader S
taken which (sign text ∷ words) = with_rest (which text) words
taken which words = None

-- this sign at the front, and the words behind it
abbrev pub read_mark : List ℕ → Reader Mark
read_mark text words = taken (itself text) words

-- this name at the front, and the words behind it
unfoldable pub named : List ℕ → Reader Mark
named wanted (name text ∷ words) = with_rest (itself wanted text) words
named wanted words = None

-- what is read, made into something else
abbrev pub map_read : {X Y : Type 0} → (X → Y) → Read X → Read Y
map_read make None = None
map_read make (Some read) = Some (make read.0, read.1)

-- what is read behind something
abbrev pub then_read : {X Y : Type 0} → Read X → (X → Reader Y) → Read Y
then_read None go = None
then_read (Some read) go = go read.0 read.1

-- what is read behind a sign that is there, or else
abbrev pub behind_sign : {S Y : Type 0} → Read S → Read Y → (S → Reader Y) → Read Y
behind_sign None otherwise go = otherwise
behind_sign (Some found) otherwise go = go found.0 found.1

-- what this closing sign follows
abbrev pub closed_by : {X : Type 0} → List ℕ → X → Reader X
closed_by text read rest = map_read (λ mark. read) (read_mark text rest)

abbrev pub with_front : {E : Type 0} → List E → Read (List E) → Read (List E)
with_front front None = None
with_front front (Some read) = Some (front ++ read.0, read.1)

-- an item behind a sign, and what follows it in a list; each item gives a piece of the list
abbrev pub more_at : {S X E : Type 0} → (S → X → List E) → Reader X → Reader (List E) → S → Reader (List E)
more_at piece item tail found words =
    then_read (item words) (λ read behind. with_front (piece found read) (tail behind))

-- signs with an item behind each, of which there are fewer than so many
unfoldable pub tail_at : {S X E : Type 0} → Reader S → (S → X → List E) → Reader X → ℕ → Reader (List E)
tail_at which piece item zero words = None
tail_at which piece item (suc n) words =
    behind_sign (which words) (Some ([], words)) (more_at piece item (tail_at which piece item n))

-- an item, and signs with an item behind each
unfoldable pub list_at : {S X E Y : Type 0} → Reader S → (S → X → List E) → (X → List E → Y) → Reader X → ℕ → Reader Y
list_at which piece finish item n words =
    then_read (item words) (λ first rest. map_read (finish first) (tail_at which piece item n rest))

-- a part of a list that is the piece of its own
abbrev pub one_part : {X : Type 0} → Mark → X → List X
one_part mark part = part ∷ []

-- what is read, where nothing stands behind it
abbrev pub whole : {X : Type 0} → Read X → Option X
whole None = None
whole (Some (read, [])) = Some read
whole (Some (read, word ∷ words)) = None

-- what the code gives of such a reading, and the words that it leaves
abbrev pub Reads : {X : Type 0} → Result X GrammarFault → Read X → List Word → Type 0
Reads (Ok read) wanted rest = wanted ≡ Some (read, rest)
Reads (Err Syntax) wanted rest = wanted ≡ None
Reads (Err NoMemory) wanted rest = Unit {0}

-- what the code gives of all the words
abbrev pub ReadsWhole : {X : Type 0} → Result X GrammarFault → Option X → Type 0
ReadsWhole (Ok read) wanted = wanted ≡ Some read
ReadsWhole (Err Syntax) wanted = wanted ≡ None
ReadsWhole (Err NoMemory) wanted = Unit {0}
