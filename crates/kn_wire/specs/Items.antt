-- The items of a batch's block (keynoted's own line protocol).
use Rattle.std.specs.Prelude.{ℕ, zero, suc, ◌≡◌, ◌≢◌, ◌⊎◌, ◌+◌, ◌<◌, ◌≤◌, if◌then◌else◌}
use Rattle.std.specs.Prelude.{List, [], ◌∷◌, ◌++◌, length, take, drop, flat_map, codes, decimal, slice_get}
use Rattle.std.specs.Prelude.{Option, Some, None, option_and_then, option_map, Result, Ok, Err}
use Rattle.std.specs.List.{list_any, before_first, after_first, AllByRecursion}
use Rattle.std.specs.Str.{bytes_eq}
use Rattle.kn_base.specs.Decimal.{decimal_of}
use Rattle.kn_base.specs.declared.limits.TheConstants.{CHANGES}
use Rattle.kn_wire.specs.Requests.{is_space, is_newline, behind_space, number_after}

-- the addition of a text, or the removal of an id
pub data BatchItem : Type 0 where
  AddText : List ℕ → BatchItem
  DropId : ℕ → BatchItem

-- the text of an item: ADD and the length of the text, and the text; or DROP and the id
abbrev pub item_text : BatchItem → List ℕ
item_text (AddText text) = codes "ADD " ++ decimal (length text) ++ 10 ∷ text ++ 10 ∷ []
item_text (DropId k) = codes "DROP a" ++ decimal k ++ 10 ∷ []

-- Reading a block.

-- the addition of so many bytes, decided by the byte behind them, and what is left
abbrev pub added_item : List ℕ → ℕ → Option ℕ → Option (BatchItem × List ℕ)
added_item text n None = None
added_item text n (Some b) = if is_newline b then Some (AddText (take n text), drop (n + 1) text) else None

abbrev pub addition_of : List ℕ → List ℕ → Option (BatchItem × List ℕ)
addition_of more text = option_and_then (λ n. added_item text n (slice_get text n)) (decimal_of more)

abbrev pub removal_of : List ℕ → List ℕ → Option (BatchItem × List ℕ)
removal_of more text = option_map (λ k. (DropId k, text)) (number_after 97 more)

-- the item of a line and of what follows it, and what is left
abbrev pub item_of_line : List ℕ → List ℕ → Option (BatchItem × List ℕ)
item_of_line line text =
    if bytes_eq (before_first is_space line) (codes "ADD")
    then option_and_then (λ more. addition_of more text) (behind_space line)
    else if bytes_eq (before_first is_space line) (codes "DROP")
    then option_and_then (λ more. removal_of more text) (behind_space line)
    else None

-- the item with which a text begins, and what is left
abbrev pub first_item : List ℕ → Option (BatchItem × List ℕ)
first_item text =
    if list_any is_newline text then item_of_line (before_first is_newline text) (after_first is_newline text)
    else None

abbrev pub item_before : BatchItem → Result (List BatchItem) ℕ → Result (List BatchItem) ℕ
item_before item (Ok items) = Ok (item ∷ items)
item_before item (Err number) = Err number

-- what is found of the next item, which has this number, and of those behind it
abbrev pub items_behind : ℕ → Option (BatchItem × List ℕ) → (List ℕ → Result (List BatchItem) ℕ)
    → Result (List BatchItem) ℕ
items_behind number None behind = Err number
items_behind number (Some first) behind = item_before first.0 (behind first.1)

-- The items of a text, of which so many may still come; or the number of the first at which it departs from the form,
-- where the next item has this number.
abbrev pub items_from : ℕ → ℕ → List ℕ → Result (List BatchItem) ℕ
items_from zero number [] = Ok []
items_from zero number (b ∷ text) = Err number
items_from (suc more) number [] = Ok []
items_from (suc more) number (b ∷ text) =
    items_behind number (first_item (b ∷ text)) (λ left. items_from more (number + 1) left)

-- the items of a block, of which there are 1 to 256; or the number, from 1, of the first at which it departs from the
-- form
abbrev pub items_of : List ℕ → Result (List BatchItem) ℕ
items_of [] = Err 1
items_of (b ∷ text) = items_from CHANGES 1 (b ∷ text)

-- What a block is, in terms of its text.

-- numbers in the text of an item have at most nine digits
abbrev pub IsShortItem : BatchItem → Type 0
IsShortItem (AddText text) = length text < 1000000000
IsShortItem (DropId k) = k < 1000000000

-- the block is these items without anything between or behind them
pub record AreItems (block : List ℕ) (items : List BatchItem) : Type 0 where
  pub some : 1 ≤ length items
  pub few : length items ≤ CHANGES
  pub joined : block ≡ flat_map item_text items

-- The block departs from the form at this item, counted from 1: no item begins there, or as many as there may be stand
-- in front of it and a byte follows.
pub record DepartsAt (block : List ℕ) (number : ℕ) : Type 0 where
  pub front : List BatchItem
  pub rest : List ℕ
  pub cut : block ≡ flat_map item_text front ++ rest
  pub place : number ≡ length front + 1
  pub within : length front ≤ CHANGES
  pub short : AllByRecursion IsShortItem front
  pub there : (rest ≢ []) ⊎ (front ≡ [])
  pub why : (length front ≡ CHANGES)
      ⊎ ((item : BatchItem) (left : List ℕ) → IsShortItem item → rest ≡ item_text item ++ left → ⊥)
