-- A `Boxed` in a type that leads back to itself: it is seen as the one value that it holds.
use mathlib.Core.Path.{refl}
use mathlib.Core.Former.{Former, this, const, pair, via}
use base.Stored.{gnil}
use base.Fml.{ftrue}
use denote.RattleType.{RattleType}
use denote.Memory.{part_of}
use denote.RawPtr.{Ptr}
use denote.Sharing.{nothing}
use denote.HoleLaws.{Alike}
use denote.HolePlaces.{Recodes, struct_places, laid, one_value}
use denote.Hole.Fix.{over}
use denote.Param.Weighed.{Weighed}
use denote.Model.Placed.{view_places}
use Rattle.std.specs.declared.boxed.Box.{Box}
use Rattle.std.specs.contracts.boxed.Box as heap_box
use Rattle.std.specs.declared.alloc.Global.{Global}
use Rattle.std.specs.contracts.alloc.Global as heap
use Rattle.std.specs.contracts.impls.GlobalAllocator.TheImpl.{ghosts}
use Rattle.kn_base.specs.declared.boxed.Boxed.TheInside.{Inside}
use Rattle.kn_base.specs.declared.boxed.Boxed.TheView.{view, invariant}
use Rattle.kn_base.specs.contracts.boxed.Boxed as row
use Rattle.kn_base.specs.contracts.boxed.Boxed.TheInside as inner

-- it has the shape and the measure of its value; it is never empty
abbrev pub the_former : Former {0} → Former {0}
the_former g = g

abbrev pub the_weighed : {g : Former {0}} → Weighed g → Weighed (the_former g)
the_weighed w = w

-- its one field is where the value lies, and the value
abbrev stored : Former {0}
stored = via (pair (const (Ptr × Global)) this) Inside
    (λ X fields. ((fields.inner.ptr, fields.inner.alloc), fields.inner.value))
    (λ X parts. record { inner = record { ptr = parts.0.0; alloc = parts.0.1; value = parts.1 } })
    (λ X fields. refl) (λ X parts. refl)

abbrev holding : {X Y : Type 0} → Box X Global → Y → Box Y Global
holding held value = record { ptr = held.ptr; alloc = held.alloc; value = value }

abbrev boxed_row : RattleType → RattleType
boxed_row R = heap_box.the_row R heap.the_row ghosts

module _ (R R' : RattleType) (h : R.Denot → R'.Denot) where
  -- a box lies, owns and lends as its value does
  box_places : Alike R R' h → Alike (boxed_row R) (boxed_row R') (λ held. holding held (h held.value))
  unfolding part_of
  box_places alike = record {
    mir_same = λ k. (boxed_row (one_value R (alike.mir_same k) (λ _. ftrue) (λ _ _. nothing) gnil)).mir;
    own_same = λ held k.
        (boxed_row (one_value R (alike.mir_same k) (alike.own_same held.value k) (alike.shr_same held.value k)
        gnil)).own_val (holding held tt);
    shr_same = λ held k.
        (boxed_row (one_value R (alike.mir_same k) (alike.own_same held.value k) (alike.shr_same held.value k)
        gnil)).shr_at (holding held tt);
  }

  pub the_places : Alike R R' h → Alike (row.the_row R) (row.the_row R') ((the_former this).map R.Denot R'.Denot h)
  the_places alike =
      view_places stored this view (λ X Y k fields. refl) (λ X fields. refl) R.Denot R'.Denot h
      (row.the_row R).coded (row.the_row R').coded
      (invariant R.Denot) (invariant R'.Denot) (λ _ p q. refl) (λ _ p q. refl) (λ _ _. tt) (λ _ _. tt)
      (over (inner.the_row R)) (over (inner.the_row R'))
      (struct_places (inner.the_type R) (inner.the_type R') ((λ held. holding held (h held.value)), tt) _ (λ _. refl)
      refl
      (laid _ _ _ (box_places alike), tt))

  pub the_codes_placed : Recodes R R' h
      → Recodes (row.the_row R) (row.the_row R') ((the_former this).map R.Denot R'.Denot h)
  the_codes_placed same value = same value
