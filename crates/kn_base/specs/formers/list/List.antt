-- A `List` in a type that leads back to itself: it is seen as the list of its items, and so it stores
-- them as a plain list does, one by one and in their order.
use mathlib.Core.Path.{◌≡◌, refl, sym}
use mathlib.Core.List.{List, []}
use mathlib.Core.Former.{Former, this, list, via, children}
use native.Mathlib.Bridge.{le_prop}
use base.Stored.{code_map}
use denote.RattleType.{RattleType}
use denote.HoleLaws.{Alike}
use denote.HolePlaces.{Recodes, struct_places, laid}
use denote.Hole.Carrier.{listed, list-listed}
use denote.Hole.Fix.{over}
use denote.Param.Weighed.{Weighed, w_list}
use denote.Model.Placed.{view_places}
use Rattle.std.specs.formers.vec.Vec as vec
use Rattle.std.specs.declared.alloc.Global.{Global}
use Rattle.std.specs.contracts.alloc.Global as heap
use Rattle.std.specs.contracts.impls.GlobalAllocator.TheImpl.{ghosts}
use Rattle.kn_base.specs.declared.list.List.TheInside.{Inside}
use Rattle.kn_base.specs.declared.list.List.TheView.{view, invariant}
use Rattle.kn_base.specs.contracts.list.List as row
use Rattle.kn_base.specs.contracts.list.List.TheInside as inner

-- its shape is the list of the shapes
abbrev pub the_former : Former {0} → Former {0}
the_former g = list g

-- its measure is the largest of its items'
abbrev pub the_weighed : {g : Former {0}} → Weighed g → Weighed (the_former g)
the_weighed w = w_list w

-- it may be empty, so it can end a recursive type
pub the_empty : List ⊥
the_empty = []

abbrev pub the_items : (X : Type 0) → List X → List X
the_items X items = items

pub the_items_listed : (X : Type 0) (items : List X) → listed _ (children (the_former this) X items) ≡ the_items X items
the_items_listed X items = list-listed X items

-- its one field stores the items as a `Vec` does
abbrev stored : Former {0}
stored = via (vec.the_former this Global) Inside (λ X fields. fields.items) (λ X items. record { items = items })
    (λ X fields. refl) (λ X items. refl)

module _ (R R' : RattleType) (h : R.Denot → R'.Denot) where
  -- the length stays along h, and the bound on it has one proof at most
  pub the_places : Alike R R' h → Alike (row.the_row R) (row.the_row R') ((the_former this).map R.Denot R'.Denot h)
  the_places alike =
      view_places stored (list this) view (λ X Y k fields. refl) (λ X fields. refl) R.Denot R'.Denot h
      (row.the_row R).coded (row.the_row R').coded
      (invariant R.Denot) (invariant R'.Denot) (λ _ p q. le_prop p q) (λ _ p q. le_prop p q) (λ _ bound. bound)
      (λ _ bound. bound)
      (over (inner.the_row R)) (over (inner.the_row R'))
      (struct_places (inner.the_type R) (inner.the_type R') (vec.mapped h, tt) _ (λ _. refl) refl
      (laid _ _ _ (vec.the_places heap.the_row ghosts R R' h alike), tt))

  pub the_codes_placed : Recodes R R' h
      → Recodes (row.the_row R) (row.the_row R') ((the_former this).map R.Denot R'.Denot h)
  the_codes_placed same items = sym (code_map R.coded.code R'.coded.code h (λ x. sym (same x)) items)
