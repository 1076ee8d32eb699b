-- The bases that are kept.
use Rattle.std.proofs.Common.{◌≡◌, List, Option, Some, None, refl, sym, subst, inl, inr}
use Rattle.std.specs.Prelude.{IfSome}
use Rattle.kn_history.specs.declared.update.Update.{Update}
use Rattle.kn_query.specs.declared.kept_bases.KeptBases.{KeptBases}
use Rattle.kn_query.specs.declared.shared_base.SharedBase.{SharedBase}
use Rattle.kn_query.specs.KeptBases.{EachKept, IsKeptIn, IsKeptOrOf}
use Rattle.kn_query.specs.SharedBases.{IsOfVersion}

-- what holds of a base that there may be
pub some-weaker : (P Q : SharedBase → Type 0) → ((shared : SharedBase) → P shared → Q shared) → (o : Option SharedBase)
    → IfSome o P → IfSome o Q
some-weaker P Q from None is = tt
some-weaker P Q from (Some shared) is = from shared is

pub each-weaker : (P Q : SharedBase → Type 0) → ((shared : SharedBase) → P shared → Q shared) → (kept : KeptBases)
    → EachKept P kept → EachKept Q kept
each-weaker P Q from kept each = (some-weaker P Q from kept.recent each.0, some-weaker P Q from kept.other each.1)

-- of one that is kept there holds what holds of each
pub kept-has : (P : SharedBase → Type 0) (kept : KeptBases) (shared : SharedBase) → EachKept P kept
    → IsKeptIn kept shared → P shared
kept-has P kept shared each (inl is) = subst (λ o. IfSome o P) is each.0
kept-has P kept shared each (inr is) = subst (λ o. IfSome o P) is each.1
