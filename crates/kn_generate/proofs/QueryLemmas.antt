-- What is asked, and what is counted of its system.
use Rattle.std.proofs.Common.{◌≡◌, ℕ, zero, suc, Bool, true, false, not, ◌&&◌, ◌+◌, ◌-◌, ◌*◌, ◌<◌, ◌≤◌, List, [], ◌∷◌}
use Rattle.std.proofs.Common.{map, length, drop, drop-cons, refl, sym, ◌∙◌, ap, subst, codes, arith, if◌then◌else◌}
use Rattle.std.proofs.Common.{None}
use Rattle.std.specs.Prelude.{nat_lt, slice_index, slice_index_or, decimal}
use Rattle.std.proofs.lemmas.List.Elements.{All-get_or}
use Rattle.std.specs.List.{IsDistinct}
use Rattle.kn_env.specs.Attributes.{Attribute}
use Rattle.kn_env.specs.Environment.{AreRequesters}
use Rattle.kn_env.proofs.Requesters.{AreRequesters-none, AreRequesters-push}
use Rattle.kn_history.specs.declared.update.Update.{Update}
use Rattle.kn_session.specs.declared.view.Private.{Private}
use Rattle.kn_session.specs.Views.{ArePrivates, numbered_text}
use Rattle.kn_meaning.specs.Equations.{Equations}
use Rattle.kn_daemon.specs.Daemon.{equations_of}
use Rattle.kn_system.specs.Equations.{SystemEquations}
use Rattle.kn_system.specs.Lawful.{AreLevels, KeepsLevels}
use Rattle.kn_system.specs.Least.{round, rounds, at_first, least_levels}
use Rattle.kn_generate.specs.Generated.{last_principal, generated_attributes, generated_values, query_over}
use Rattle.kn_generate.specs.Measured.{granted_count, granted_count_at}

no_privates : ArePrivates []
unfolding IsDistinct
no_privates = record { few = omega arith; short = omega arith; from_one = tt; different = tt }

pub none_private : (privates : List Private) → privates ≡ [] → ArePrivates (map numbered_text privates)
none_private privates e = subst (λ (ps : List Private). ArePrivates (map numbered_text ps)) (sym e) no_privates

pub last_requests : (n : ℕ) (requesters : List (List ℕ)) → length (decimal (n - 1)) ≤ 20
    → requesters ≡ last_principal n ∷ [] → AreRequesters requesters
last_requests n requesters short e =
    subst AreRequesters (sym e)
    (AreRequesters-push [] (last_principal n) AreRequesters-none (omega arith)
    (record { some = omega arith; short = omega arith }) refl)

pub query_is : (h : List Update) (n : ℕ) (privates : List Private) (attributes : List Attribute)
    (requesters values : List (List ℕ)) → privates ≡ [] → attributes ≡ generated_attributes
    → requesters ≡ last_principal n ∷ []
    → values ≡ generated_values
    → equations_of (record {
      number = 1;
      pinned = h;
      privates = map numbered_text privates;
      made = 0;
      attributes =
          attributes;
      requesters = requesters;
      standing = None;
    }) values ≡ query_over h n
query_is h n privates attributes requesters values a b c d = rw (a, b, c, d) refl

rounds_fit : (s : SystemEquations) → KeepsLevels s → (n : ℕ) (levels : List ℕ) → AreLevels s levels
    → AreLevels s (rounds s n levels)
rounds_fit s keeps zero levels are = are
rounds_fit s keeps (suc n) levels are = rounds_fit s keeps n (round s levels) (keeps.step levels are)

-- the least levels fit the system
pub least_fit : (s : SystemEquations) → KeepsLevels s → AreLevels s (least_levels s)
least_fit s keeps = rounds_fit s keeps (length s.requesters * (s.levels - 1)) (at_first s) keeps.start

-- that of the policy too
pub policy_low : (s : SystemEquations) → KeepsLevels s → 1 ≤ length s.requesters
    → slice_index (least_levels s) 0 < s.levels
policy_low s keeps some =
    let fit = least_fit s keeps in
    let size = fit.size in
    All-get_or (λ (level : ℕ). level < s.levels) (least_levels s) 0 0 (omega (arith, size, some)) fit.low

-- what one more principal counts
pub granted_count_here : (rs : List Bool) (ls : List ℕ) (p : ℕ) → p < length rs → length ls ≡ length rs
    → granted_count (drop p rs) (drop p ls)
    ≡ (if not (slice_index_or rs p false) && nat_lt 0 (slice_index_or ls p 0) then 1 else 0)
    + granted_count (drop (p + 1) rs) (drop (p + 1) ls)
granted_count_here rs ls p below same =
    let next : suc p ≡ p + 1 = omega arith in
    let requesters = drop-cons rs p false below in
    let levels = drop-cons ls p 0 (omega arith) in
    ap (λ (l : List Bool). granted_count l (drop p ls)) requesters
    ∙ ap (λ (l : List ℕ). granted_count (slice_index_or rs p false ∷ drop (suc p) rs) l) levels
    ∙ ap (λ (k : ℕ). (if not (slice_index_or rs p false) && nat_lt 0 (slice_index_or ls p 0) then 1 else 0)
    + granted_count (drop k rs) (drop k ls)) next

-- the count so far and what is left of it make the same with one more principal
pub granted_count_more : (rs : List Bool) (ls : List ℕ) (p count one all : ℕ) → p < length rs → length ls ≡ length rs
    → one ≡ granted_count_at rs ls p
    → count + granted_count (drop p rs) (drop p ls) ≡ all
    → (count + one) + granted_count (drop (p + 1) rs) (drop (p + 1) ls) ≡ all
granted_count_more rs ls p count one all below same is before =
    let here : granted_count (drop p rs) (drop p ls) ≡ granted_count_at rs ls p
    + granted_count (drop (p + 1) rs) (drop (p + 1) ls) = granted_count_here rs ls p below same in
    omega arith
