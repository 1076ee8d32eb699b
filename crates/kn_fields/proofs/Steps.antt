-- Reading, taken apart, and step by step.
use Rattle.std.proofs.Common.{◌≡◌, ℕ, zero, suc, ◌-◌, ◌<◌, ◌≤◌, List, [], ◌∷◌, ◌++◌, Option, Some, None, Result, Err}
use Rattle.std.proofs.Common.{◌⊎◌, refl, arith, append-nil}
use Rattle.std.specs.Result.{IsErrAnd}
use Rattle.std.proofs.lemmas.List.{append_assoc}
use Rattle.kn_fields.specs.Words.{Word}
use Rattle.kn_fields.specs.Reading.{Read, Reader, map_read, then_read, behind_sign, with_front, more_at, tail_at}
use Rattle.kn_fields.specs.Reading.{list_at, whole, Reads, ReadsWhole}
use Rattle.kn_fields.specs.declared.grammar_fault.GrammarFault.{GrammarFault}

-- what is read, taken apart

pub record Mapped {X Y : Type 0} (make : X → Y) (read : Read X) (y : Y) (rest : List Word) : Type 0 where
  pub from : X
  pub is : read ≡ Some (from, rest)
  pub made : make from ≡ y

pub mapped : {X Y : Type 0} (make : X → Y) (read : Read X) (y : Y) (rest : List Word)
    → map_read make read ≡ Some (y, rest) → Mapped make read y rest
mapped make read y rest e = grind arith

pub record Behind {X Y : Type 0} (read : Read X) (go : X → Reader Y) (y : Y) (rest : List Word) : Type 0 where
  pub first : X
  pub middle : List Word
  pub is : read ≡ Some (first, middle)
  pub then_is : go first middle ≡ Some (y, rest)

pub behind : {X Y : Type 0} (read : Read X) (go : X → Reader Y) (y : Y) (rest : List Word)
    → then_read read go ≡ Some (y, rest) → Behind read go y rest
behind read go y rest e = grind arith

pub record Fronted {E : Type 0} (front : List E) (read : Read (List E)) (all : List E) (rest : List Word) : Type 0 where
  pub others : List E
  pub is : read ≡ Some (others, rest)
  pub all_is : front ++ others ≡ all

pub fronted : {E : Type 0} (front : List E) (read : Read (List E)) (all : List E) (rest : List Word)
    → with_front front read ≡ Some (all, rest) → Fronted front read all rest
fronted front read all rest e = grind arith

-- a sign is there, or isn't
pub record Otherwise {S Y : Type 0} (found : Read S) (otherwise : Read Y) (y : Y) (rest : List Word) : Type 0 where
  pub none : found ≡ None
  pub is : otherwise ≡ Some (y, rest)

pub record There {S Y : Type 0} (sign : Read S) (go : S → Reader Y) (y : Y) (rest : List Word) : Type 0 where
  pub found : S
  pub left : List Word
  pub there : sign ≡ Some (found, left)
  pub is : go found left ≡ Some (y, rest)

pub chosen : {S Y : Type 0} (found : Read S) (otherwise : Read Y) (go : S → Reader Y) (y : Y) (rest : List Word)
    → behind_sign found otherwise go ≡ Some (y, rest) → Otherwise found otherwise y rest ⊎ There found go y rest
chosen found otherwise go y rest e = grind arith

pub whole_read : {X : Type 0} (read : Read X) (x : X) → whole read ≡ Some x → read ≡ Some (x, [])
whole_read read x e = grind arith

-- what the code gives

-- another reading that is the same
pub reads_along : {X : Type 0} {one other : Read X} (result : Result X GrammarFault) (rest : List Word) → other ≡ one
    → Reads result one rest → Reads result other rest
reads_along result rest is read = rw is read

-- so where the fault is handed on
pub fault_handed_on : {X Y : Type 0} {part : Read X} {all : Read Y} (grammar_fault : GrammarFault)
    (rest left : List Word)
    (result : Result Y GrammarFault) → IsErrAnd result (λ e. e ≡ grammar_fault)
    → Reads {X = X} (Err grammar_fault) part rest → (part ≡ None → all ≡ None) → Reads result all left
fault_handed_on grammar_fault rest left result handed read go = grind arith

-- a list, of which some items are read

front_twice : {E : Type 0} (list piece : List E) (read : Read (List E))
    → with_front (list ++ piece) read ≡ with_front list (with_front piece read)
front_twice list piece read = grind (arith, append_assoc)

-- these are read of a list, behind a sign that is read; with what is read from here on they make up all
pub record Going {S X E Y : Type 0} (which : Reader S) (piece : S → X → List E) (item : Reader X) (make : List E
    → Y) (n : ℕ) (s : S) (list : List E) (words : List Word) (all : Read Y) : Type 0 where
  pub is : map_read make (with_front list (more_at piece item (tail_at which piece item n) s words)) ≡ all

-- an item more is read
going_item : {S X E Y : Type 0} {which : Reader S} {piece : S → X → List E} {item : Reader X} {make : List E
    → Y} {n : ℕ} {s : S} {list : List E} {words rest : List Word} {all : Read Y} {x : X}
    → Going which piece item make n s list words all → item words ≡ Some (x, rest)
    → all ≡ map_read make (with_front (list ++ piece s x) (tail_at which piece item n rest))
going_item {piece} {s} {list} {x} going read = grind (arith, front_twice list (piece s x), going.is)

pub tail_step : {S X E : Type 0} (which : Reader S) (piece : S → X → List E) (item : Reader X) (n : ℕ)
    (words : List Word) → 0 < n
    → tail_at which piece item n words
    ≡ behind_sign (which words) (Some ([], words)) (more_at piece item (tail_at which piece item (n - 1)))
unfolding tail_at
tail_step which piece item zero words some = absurd (omega arith)
tail_step which piece item (suc n) words some = let less : suc n - 1 ≡ n = omega arith in rw less refl

-- and a sign behind it
pub going_more : {S X E Y : Type 0} {which : Reader S} {piece : S → X → List E} {item : Reader X} {make : List E
    → Y} {n : ℕ} {s next : S} {list longer : List E} {words rest further : List Word} {all : Read Y} {x : X}
    → Going which piece item make n s list words all → 0 < n → item words ≡ Some (x, rest) → longer ≡ list ++ piece s x
    → which rest ≡ Some (next, further)
    → Going which piece item make (n - 1) next longer further all
going_more {which} {piece} {item} {n} {rest} going some read longer_is sign =
    record { is = grind (arith, going_item going read, tail_step which piece item n rest some) }

-- no sign is behind it
pub going_last : {S X E Y : Type 0} {which : Reader S} {piece : S → X → List E} {item : Reader X} {make : List E
    → Y} {n : ℕ} {s : S} {list : List E} {words rest left : List Word} {all : Read Y} {x : X} {y : Y}
    → Going which piece item make n s list words all → 0 < n → item words ≡ Some (x, rest) → which rest ≡ None
    → left ≡ rest → y ≡ make (list ++ piece s x) → all ≡ Some (y, left)
going_last {which} {piece} {item} {n} {rest} going some read sign same made =
    grind (arith, going_item going read, tail_step which piece item n rest some, append-nil)

-- no item is there
pub going_none : {S X E Y : Type 0} {which : Reader S} {piece : S → X → List E} {item : Reader X} {make : List E
    → Y} {n : ℕ} {s : S} {list : List E} {words : List Word} {all : Read Y}
    → Going which piece item make n s list words all → item words ≡ None → all ≡ None
going_none going read = grind (arith, going.is)

-- no step is left
pub going_over : {S X E Y : Type 0} {which : Reader S} {piece : S → X → List E} {item : Reader X} {make : List E
    → Y} {n : ℕ} {s : S} {list : List E} {words : List Word} {all : Read Y}
    → Going which piece item make n s list words all → n ≤ 0 → all ≡ None
unfolding tail_at
going_over {item} {words} going none = grind (arith, going.is)

-- at first nothing of a list is read
pub going_list : {S X E Y : Type 0} (which : Reader S) (piece : S → X → List E) (item : Reader X) (make : List E
    → Y) (finish : X → List E → Y) (n : ℕ) (s : S) (list : List E) (words : List Word)
    → list ≡ [] → ((x : X) (others : List E) → make (piece s x ++ others) ≡ finish x others)
    → Going which piece item make n s list words (list_at which piece finish item n words)
unfolding list_at
going_list which piece item make finish n s list words none same = record { is = grind arith }

-- so where a list begins with these
front_made : {E Y : Type 0} (make : List E → Y) (front : List E) (read : Read (List E))
    → map_read make (with_front front read) ≡ map_read (λ others. make (front ++ others)) read
front_made make front None = refl
front_made make front (Some read) = refl

pub going_on : {S X E Y : Type 0} (which : Reader S) (piece : S → X → List E) (item : Reader X) (make : List E
    → Y) (n : ℕ) (s : S) (front list : List E) (words : List Word) → list ≡ front
    → Going which piece item make n s list words
    (map_read (λ others. make (front ++ others)) (more_at piece item (tail_at which piece item n) s words))
going_on which piece item make n s front list words same =
    record { is = rw same (front_made make front (more_at piece item (tail_at which piece item n) s words)) }

-- a list with a part at its end has some
pub not_none : {E : Type 0} (list longer : List E) (part : E) → longer ≡ list ++ part ∷ [] → longer ≡ [] → ⊥
not_none [] longer part is none = absurd (cc)
not_none (first ∷ list) longer part is none = absurd (cc)

-- nothing is behind it
pub tail_none : {S X E Y : Type 0} (which : Reader S) (piece : S → X → List E) (item : Reader X) (make : List E
    → Y) (n : ℕ) (words : List Word) → 0 < n → which words ≡ None
    → map_read make (tail_at which piece item n words) ≡ Some (make [], words)
tail_none which piece item make n words some sign = grind (arith, tail_step which piece item n words some)

pub list_none : {S X E Y : Type 0} (which : Reader S) (piece : S → X → List E) (finish : X → List E
    → Y) (item : Reader X) (words : List Word) → list_at which piece finish item 0 words ≡ None
unfolding list_at tail_at
list_none which piece finish item words = grind arith

pub less_one : (n : ℕ) → n ≡ suc n - 1
less_one n = omega arith

-- nothing is left behind what is read, or something is, or nothing is read
pub whole_end : {X : Type 0} (x : X) (rest : List Word) → rest ≡ [] → whole (Some (x, rest)) ≡ Some x
whole_end x rest is = grind arith

pub whole_more : {X : Type 0} (x : X) (rest more : List Word) (word : Word) → rest ≡ word ∷ more
    → whole (Some (x, rest)) ≡ None
whole_more x rest more word is = grind arith

pub whole_fault : {X : Type 0} (grammar_fault : GrammarFault) (read : Read X) (wanted : Option X) (rest : List Word)
    (result : Result X GrammarFault) → IsErrAnd result (λ e. e ≡ grammar_fault)
    → Reads {X = X} (Err grammar_fault) read rest
    → wanted ≡ whole read → ReadsWhole result wanted
whole_fault grammar_fault read wanted rest result handed none is = grind arith
