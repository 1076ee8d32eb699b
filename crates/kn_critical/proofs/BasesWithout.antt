-- A base from which a run of assertions is taken out for one answer.
use Rattle.std.proofs.Common.{◌≡◌, ℕ, ◌≤◌, ◌^◌, List, length, sym, ap, ◌∙◌, subst}
use Rattle.kn_env.specs.Environment.{Asked}
use Rattle.kn_proof.specs.declared.named.NamedRow.{NamedRow}
use Rattle.kn_meaning.specs.Equations.{Part, equations_over, IsPolicyLevel}
use Rattle.kn_rows.specs.BaseRows.{IsBaseOf}
use Rattle.kn_rows.specs.Numbering.{with_names}
use Rattle.kn_answer.specs.Based.{BaseView}
use Rattle.kn_answer.specs.Removed.{live_parts}
use Rattle.kn_critical.specs.Searching.{IsLevelWithoutRun, IsWhole, flags_with, flags_without}
use Rattle.kn_critical.proofs.Flags.{all-back, length-without}

module _ (asked : Asked) (rows : List NamedRow) (parts : List Part) (start end : ℕ) (old out : BaseView)
    (whole : IsWhole asked parts old)
    (taken : out ≡ record old { live = flags_without rows parts start end }) where
  flags : out.live ≡ flags_without rows parts start end
  flags = ap (λ (b : BaseView). b.live) taken

  -- what was answered holds of the others
  pub level-without : (level : ℕ) → IsPolicyLevel (equations_over asked (live_parts parts out.live)) level
      → IsLevelWithoutRun asked rows parts start end level
  level-without level least = subst (λ fs. IsPolicyLevel (equations_over asked (live_parts parts fs)) level) flags least

  -- the run is within the flags
  pub end-within : (answered : BaseView) → answered.live ≡ out.live → length answered.live ≡ length parts
  end-within answered live = ap length live ∙ ap length flags ∙ length-without rows parts start end

  -- and the base is as before where the run is put back
  pub whole-again : (answered new : BaseView) → IsBaseOf parts answered.names answered.system
      → with_names answered.names asked.requesters ≡ with_names out.names asked.requesters → answered.live ≡ out.live
      → new ≡ record answered { live = flags_with answered.live start end } → IsWhole asked parts new
  whole-again answered new is again live put =
      let names : with_names new.names asked.requesters ≡ with_names old.names asked.requesters =
      ap (λ (b : BaseView). with_names b.names asked.requesters) put ∙ again
      ∙ ap (λ (b : BaseView). with_names b.names asked.requesters) taken in
      record {
        of = subst (λ (b : BaseView). IsBaseOf parts b.names b.system) (sym put) is;
        live = ap (λ (b : BaseView). b.live) put ∙ ap (λ fs. flags_with fs start end) (live ∙ flags)
            ∙ all-back rows parts start end;
        room = subst (λ ns. length ns ≤ 2 ^ 24) (sym names) whole.room;
      }
