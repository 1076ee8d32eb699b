-- What holds of the items of a block in code, as parts of the block.
use Rattle.std.proofs.Common.{◌≡◌, ◌≤◌, ◌+◌, ℕ, List, [], ◌∷◌, ◌++◌, length, map, flat_map, codes, decimal, Some, Ok}
use Rattle.std.proofs.Common.{All, sym, ap, ◌∙◌, subst, arith, length-append}
use Rattle.std.proofs.lemmas.List.{length-map, map-append}
use Rattle.std.proofs.lemmas.List.Elements.{All-nil, All-cons}
use Rattle.kn_wire.specs.declared.items.BatchItem.{BatchItem}
use Rattle.kn_wire.specs.declared.items.BatchItem.TheVariants.{Add, Remove}
use Rattle.kn_wire.specs.Items as I
use Rattle.kn_wire.specs.Items.{item_text, first_item, items_of}
use Rattle.kn_wire.specs.ItemsInCode.{item_of, IsWithin}
use Rattle.kn_wire.proofs.ItemBlocks.{read-are_items}
use Rattle.kn_wire.proofs.ItemSteps.{BeginsWith, begins_with_more}

text_within : (item : BatchItem) (limit : ℕ) → length (item_text (item_of item)) ≤ limit → IsWithin limit item
text_within (Add text) limit within =
    let front = codes "ADD " ++ decimal (length text.now) in
    let outer = length-append (front ++ 10 ∷ text.now) (10 ∷ []) in
    let inner = length-append front (10 ∷ text.now) in
    omega arith
text_within (Remove k) limit within = tt

texts_within : (items : List BatchItem) (limit : ℕ) → length (flat_map item_text (map item_of items)) ≤ limit
    → All (IsWithin limit) items
texts_within [] limit within = All-nil (IsWithin limit)
texts_within (item ∷ items) limit within =
    let sizes = length-append (item_text (item_of item)) (flat_map item_text (map item_of items)) in
    All-cons (IsWithin limit) item items (text_within item limit (omega arith)) (texts_within items limit (omega arith))

-- no text is longer than the block
pub items_within : (block : List ℕ) (items : List BatchItem) (limit : ℕ) → length block ≤ limit
    → items_of block ≡ Ok (map item_of items) → All (IsWithin limit) items
items_within block items limit within read =
    let size = ap length (read-are_items block (map item_of items) read).0.joined in
    texts_within items limit (omega arith)

pub items_some : (block : List ℕ) (items : List BatchItem) → items_of block ≡ Ok (map item_of items) → 1 ≤ length items
items_some block items read =
    let some = (read-are_items block (map item_of items) read).0.some in
    let size = length-map items item_of in
    omega arith

-- one more item is read
pub begins_with_item : (block : List ℕ) (items new : List BatchItem) (item : BatchItem) (text left : List ℕ) (count : ℕ)
    → BeginsWith block (map item_of items) text → count ≡ length items → count + 1 ≤ 256
    → new ≡ items ++ item ∷ [] → first_item text ≡ Some (item_of item, left) → BeginsWith block (map item_of new) left
begins_with_item block items new item text left count begins size few pushed first =
    let same = length-map items item_of in
    let front : map item_of new ≡ map item_of items ++ item_of item ∷ [] = ap (map item_of) pushed
    ∙ map-append item_of items (item ∷ []) in
    subst (λ (l : List I.BatchItem). BeginsWith block l left) (sym front)
    (begins_with_more block (map item_of items) text left (item_of item) begins (omega arith) first)
