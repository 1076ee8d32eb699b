-- Rows that are noted while a base follows removals.
use Rattle.std.proofs.Common.{◌≡◌, ℕ, zero, suc, ◌<◌, Bool, false, List, [], ◌∷◌, length, refl, sym, ap}
use Rattle.std.proofs.Common.{subst, ◌∙◌}
use Rattle.std.specs.Prelude.{slice_get, slice_set}
use Rattle.kn_answer.specs.Based.{BaseView}
use Rattle.kn_query.specs.declared.changed_rows.ChangedRows.{ChangedRows}
use Rattle.kn_query.specs.ChangedRows.{AreBelow, HasRow, NotesRows}

pub notes-none : (changed : ChangedRows) (flags : List Bool) → NotesRows changed changed flags flags
notes-none changed flags =
    record { keeps = λ row has. has; others = λ row none. refl; below = λ below. below }

pub notes-then : (a b c : ChangedRows) (flags mid later : List Bool) → length mid ≡ length flags
    → NotesRows a b flags mid → NotesRows b c mid later
    → NotesRows a c flags later
notes-then a b c flags mid later long first then = record {
  keeps = λ row has. then.keeps row (first.keeps row has);
  others = λ row none. first.others row (λ has. none (then.keeps row has)) ∙ then.others row none;
  below = λ below.
      subst (λ (n : ℕ). AreBelow n c) long
      (then.below (subst (λ (n : ℕ). AreBelow n b) (sym long) (first.below below)));
}

-- another flag stays
set-others : (flags : List Bool) (row other : ℕ) → (row ≡ other → ⊥)
    → slice_get flags other ≡ slice_get (slice_set flags row false) other
set-others [] row other apart = refl
set-others (flag ∷ flags) zero zero apart = absurd (apart refl)
set-others (flag ∷ flags) zero (suc other) apart = refl
set-others (flag ∷ flags) (suc row) zero apart = refl
set-others (flag ∷ flags) (suc row) (suc other) apart = set-others flags row other (λ same. apart (ap suc same))

-- a row is noted whose flag falls
pub notes-removal : (old new : ChangedRows) (row : ℕ) (base later : BaseView) → row < length base.live
    → later ≡ record base { live = slice_set base.live row false } → HasRow new row
    → ((other : ℕ) → HasRow old other → HasRow new other)
    → ((count : ℕ) → row < count → AreBelow count old → AreBelow count new)
    → NotesRows old new base.live later.live
notes-removal old new row base later within is has keeps below = record {
  keeps = keeps;
  others = λ other none.
      set-others base.live row other (λ same. none (subst (HasRow new) same has))
      ∙ sym (ap (λ (b : BaseView). slice_get b.live other) is);
  below = below (length base.live) within;
}
