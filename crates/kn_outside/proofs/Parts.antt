-- Parts of texts, one after the other.
use Rattle.std.proofs.Common.{◌≡◌, ℕ, ◌+◌, List, [], ◌++◌, drop, Option, Some, None, refl, sym, ◌∙◌, ap, append_assoc}
use Rattle.std.proofs.Common.{append-nil}
use Rattle.std.proofs.Math.Seq.{drop-drop}
use Rattle.kn_outside.specs.SpecifiedBytes.{more, before}

-- what is left of a list after two parts
pub left_after : (xs : List ℕ) (at n : ℕ) → drop (at + n) xs ≡ drop n (drop at xs)
left_after xs at n = sym (drop-drop n at xs)

-- two texts that were added, one after the other
pub more_more : (front next : List ℕ) (old : Option (List ℕ)) → more next (more front old) ≡ more (front ++ next) old
more_more front next None = refl
more_more front next (Some told) = ap Some (append_assoc told front next)

-- two parts of what is left, one before the other
pub before_parts : (front next : List ℕ) (old mid new : Option (List ℕ)) → old ≡ before front mid
    → mid ≡ before next new → old ≡ before (front ++ next) new
before_parts front next old mid None first second = first ∙ ap (before front) second
before_parts front next old mid (Some told) first second =
    first ∙ ap (before front) second ∙ ap Some (sym (append_assoc front next told))

pub more_nothing : (old : Option (List ℕ)) → old ≡ more [] old
more_nothing None = refl
more_nothing (Some told) = ap Some (sym (append-nil told))

pub before_nothing : (old : Option (List ℕ)) → old ≡ before [] old
before_nothing None = refl
before_nothing (Some told) = refl
