-- The policy's level over versions of which one goes on from the other.
use Rattle.std.proofs.Common.{◌≡◌, ℕ, zero, suc, ◌+◌, ◌<◌, ◌≤◌, Bool, true, false, cond, List, [], ◌∷◌, ◌++◌, length}
use Rattle.std.proofs.Common.{replicate, take, inl, inr, refl, sym, ap, subst, ◌∙◌, arith}
use Rattle.std.specs.Prelude.{◌⊎◌, slice_get}
use Rattle.std.proofs.lemmas.Bool.{cases_eq}
use Rattle.std.proofs.lemmas.List.{length-append, length-replicate, take_all, take-take}
use Rattle.kn_proof.specs.declared.named.Id.TheVariants.{Shared}
use Rattle.kn_meaning.specs.Equations.{Part, IsPolicyLevel, equations_over}
use Rattle.kn_history.specs.declared.update.Update.{Update}
use Rattle.kn_history.specs.History.{NumberedText, credentials_of}
use Rattle.kn_daemon.specs.Daemon.{parts_of}
use Rattle.kn_answer.specs.Removed.{live_parts}
use Rattle.kn_answer.specs.Unaffected.{AreSameBut, KeepsPolicyLevel}
use Rattle.kn_query.specs.declared.changed_rows.ChangedRows.{ChangedRows}
use Rattle.kn_query.specs.declared.shared_base.SharedBase.{SharedBase}
use Rattle.kn_query.specs.declared.steady.Steady.{Steady}
use Rattle.kn_query.specs.ChangedRows.{HasRow}
use Rattle.kn_query.specs.Following.{live_credentials}
use Rattle.kn_query.specs.SharedBases.{HasCredentials}
use Rattle.kn_query.specs.SharedParts.{AreRead, shared_parts}
use Rattle.kn_query.specs.Steady.{Covers, IsSteady, KeepsLevel}
use Rattle.kn_query.proofs.Rows.{live-parts}
use Rattle.kn_query.proofs.SharedParts.{parts-count}

-- What is known for a version.

-- for an earlier version it is known too
pub steady-since : (version : List Update) (number : ℕ) (old new : Steady) → number ≤ length version
    → IsSteady (take number version) old → KeepsLevel (take number version) version → new.to ≡ number
    → ((n : ℕ) → Covers new n → (n ≡ number) ⊎ Covers old n)
    → IsSteady version new
steady-since version number old new within is kept last covers = record {
  within = omega (arith, within, last);
  keeps = λ n covered. let high = covered.1 in by n (omega (arith, high, last)) (covers n covered);
}
  where
    by : (n : ℕ) → n ≤ number → ((n ≡ number) ⊎ Covers old n) → KeepsLevel (take n version) version
    by n le (inl same) = subst (λ (k : ℕ). KeepsLevel (take k version) version) (sym same) kept
    by n le (inr covered) = λ asked level has.
        let first : KeepsLevel (take n version) (take number version) =
        subst (λ (v : List Update). KeepsLevel v (take number version)) (take-take n number version le)
        (is.keeps n covered) in
        kept asked level (first asked level has)

-- those up to this number, and itself
pub covered-before : (old : Steady) (number : ℕ) → number ≤ old.to + 1
    → (n : ℕ) → Covers (record { from = old.from; to = number }) n → (n ≡ number) ⊎ Covers old n
covered-before old number near n covered = by (cases_eq n number)
  where
    by : ((n ≡ number) ⊎ (n ≡ number → ⊥)) → (n ≡ number) ⊎ Covers old n
    by (inl same) = inl same
    by (inr differs) = let high = covered.1 in inr (covered.0, omega (arith, high, differs, near))

-- itself alone
pub covered-alone : (old new : Steady) (number : ℕ) → new.from ≡ number → new.to ≡ number
    → (n : ℕ) → Covers new n → (n ≡ number) ⊎ Covers old n
covered-alone old new number first last n covered = let low = covered.0 in let high = covered.1 in
    inl (omega (arith, low, high, first, last))

-- what is known changes nothing else of a base
pub with-steady : (version : List Update) (shared new : SharedBase) (steady : Steady)
    → new ≡ record shared { steady = steady } → IsSteady version steady → HasCredentials version shared
    → HasCredentials version new
with-steady version shared new steady is known has =
    subst (HasCredentials version) (sym is)
    (record {
      number = has.number;
      has_rows = record { of = has.has_rows.of; flags = has.has_rows.flags };
      live = has.live;
      newest = has.newest;
      steady = known;
    })

-- Flags before and after, with rows behind that weren't there.

same-behind : (old new : List Bool) (k : ℕ) → length new ≡ length old
    → (i : ℕ) → (i < length old → slice_get old i ≡ slice_get new i)
    → (length old ≤ i → i < length old + k → ⊥)
    → slice_get (old ++ replicate k false) i ≡ slice_get (new ++ replicate k true) i
same-behind [] [] zero long i same none = refl
same-behind [] [] (suc k) long zero same none = absurd (none (omega arith) (omega arith))
same-behind [] [] (suc k) long (suc i) same none =
    same-behind [] [] k long i (λ less. refl) (λ low high. none (omega (arith, low)) (omega (arith, high)))
same-behind [] (b ∷ new) k long i same none = absurd (omega (arith, long))
same-behind (b ∷ old) [] k long i same none = absurd (omega (arith, long))
same-behind (b ∷ old) (d ∷ new) k long zero same none = same (omega arith)
same-behind (b ∷ old) (d ∷ new) k long (suc i) same none =
    same-behind old new k (omega (arith, long)) i (λ less. same (omega (arith, less)))
    (λ low high. none (omega (arith, low)) (omega (arith, high)))

none-live : (more : List NumberedText) (k : ℕ) → live_credentials more (replicate k false) ≡ []
none-live [] k = refl
none-live (c ∷ more) zero = refl
none-live (c ∷ more) (suc k) = none-live more k

live-before : (rows more : List NumberedText) (flags : List Bool) (k : ℕ) → length flags ≡ length rows
    → live_credentials (rows ++ more) (flags ++ replicate k false) ≡ live_credentials rows flags
live-before [] more [] k long = none-live more k
live-before [] more (flag ∷ flags) k long = absurd (omega (arith, long))
live-before (c ∷ rows) more [] k long = absurd (omega (arith, long))
live-before (c ∷ rows) more (flag ∷ flags) k long =
    ap (λ (l : List NumberedText). cond flag (c ∷ l) l) (live-before rows more flags k (omega (arith, long)))

-- A base that followed updates: `flags` are those of its rows before them, `mid` those without what they removed, and
-- `more` are the rows that they added. `noted` has all that changed.
module _ (earlier version : List Update) (rows more : List NumberedText) (flags mid : List Bool) (new : SharedBase)
    (changed noted : ChangedRows) where
  pub level-kept : length flags ≡ length rows → live_credentials rows flags ≡ credentials_of earlier
      → length mid ≡ length flags
      → ((row : ℕ) → (HasRow changed row → ⊥) → slice_get flags row ≡ slice_get mid row)
      → ((row : ℕ) → HasRow changed row → HasRow noted row)
      → ((row : ℕ) → length rows ≤ row → row < length new.rows → HasRow noted row)
      → noted.many ≡ false → new.rows ≡ rows ++ more → new.base.live ≡ mid ++ replicate (length more) true
      → AreRead new.rows → HasCredentials version new → KeepsPolicyLevel noted.rows.items new.base
      → KeepsLevel earlier version
  level-kept long live as_long others keeps added few all longer read has kept =
      let old : List Bool = flags ++ replicate (length more) false in
      let parts : List Part = parts_of Shared new.rows in
      let count : length parts ≡ length new.rows = parts-count Shared new.rows read in
      let old_long : length old ≡ length new.rows =
      omega (
        arith,
        length-append flags (replicate (length more) false),
        length-replicate (length more) false,
        long,
        ap length all,
        length-append rows more,
      ) in
      let rows_long : length new.rows ≡ length rows + length more = ap length all ∙ length-append rows more in
      let same : AreSameBut noted.rows.items old new.base.live =
      λ i none.
      same-behind flags mid (length more) as_long i (λ less. others i (λ was. none (keeps i was few)))
      (λ low high. none (added i (omega (arith, low, long)) (omega (arith, high, long, rows_long)) few))
      ∙ sym (ap (λ (l : List Bool). slice_get l i) longer) in
      let before : live_parts parts old ≡ shared_parts earlier =
      live-parts Shared new.rows old read old_long
      ∙ ap (parts_of Shared) (ap (λ (l : List NumberedText). live_credentials l old) all
      ∙ live-before rows more flags (length more) long ∙ live) in
      let after : live_parts parts new.base.live ≡ shared_parts version =
      live-parts Shared new.rows new.base.live read has.has_rows.flags ∙ ap (parts_of Shared) has.live in
      λ asked level is.
      subst (λ (ps : List Part). IsPolicyLevel (equations_over asked ps) level) after
      (kept parts has.has_rows.of old new.base.live (old_long ∙ sym count) (has.has_rows.flags ∙ sym count) same
      asked level
      (subst (λ (ps : List Part). IsPolicyLevel (equations_over asked ps) level) (sym before) is))
