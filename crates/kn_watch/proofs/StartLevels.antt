-- The levels from which the affected principals are raised: what the others have is their least level.
use Rattle.std.proofs.Common.{◌≡◌, ℕ, suc, zero, ◌+◌, ◌-◌, ◌<◌, ◌≤◌, Bool, true, false, cond, min, List, [], ◌∷◌, ◌++◌}
use Rattle.std.proofs.Common.{length, replicate, slice_index, slice_index_or, refl, sym, ap, ◌∙◌, subst, inl, inr}
use Rattle.std.proofs.Common.{arith}
use Rattle.std.proofs.lemmas.Bool.{cases_lt, false≢true}
use Rattle.std.proofs.lemmas.List.{get_or_past}
use Rattle.std.proofs.lemmas.List.Elements.{All-from_get_or}
use Rattle.kn_system.specs.Equations.{SystemEquations, IsSystem, IsSystemRow, row_at}
use Rattle.kn_system.specs.Lawful.{IsByPrincipal}
use Rattle.kn_system.specs.Least.{worth, at_first, least_levels}
use Rattle.kn_system.specs.Order.{Below}
use Rattle.kn_system.specs.Proofs.{IsClosed}
use Rattle.kn_system.proofs.ProofsDetermine.{closed-stays, size-at_first}
use Rattle.kn_system.proofs.Settles.{least_levels-is_least}
use Rattle.kn_system.proofs.Rounds.{by_principal, length-round}
use Rattle.kn_watch.specs.declared.changed.Changed.{Changed}
use Rattle.kn_watch.specs.Affected.{AreAffected, HasChanged, HasUsers, UsesPrincipal, is_affected}
use Rattle.kn_watch.specs.Changes.{system_before}
use Rattle.kn_watch.specs.Raising.{AreStarted, IsStart, start_level}
use Rattle.kn_watch.proofs.Before.{IsSameButCeiling, length-put_back, put_back-other, put_back-same}
use Rattle.kn_watch.proofs.Worths.{first-least, least-closed, least-low, worth-below, worth-used}

-- a row's authorizer is a principal
pub authorizer-fits : (s : SystemEquations) (i : ℕ) → IsSystem s → i < length s.rows
    → (row_at s.rows i).authorizer < length s.requesters
authorizer-fits s i fits l = let row : IsSystemRow s.levels (length s.requesters) (row_at s.rows i) =
    fits.rows_fit i (record { authorizer = 0; ceiling = 0; formula = [] }) l in row.authorizer

-- the affected principals with their levels of the first list, and the others with the lower of both
abbrev mixed : List Bool → ℕ → List ℕ → List ℕ → List ℕ
mixed affected p [] ys = []
mixed affected p (x ∷ xs) ys = cond (is_affected affected p) x (min x (slice_index ys p)) ∷ mixed affected (suc p) xs ys

cond-none : (b : Bool) (y : ℕ) → 0 ≡ cond b 0 (min 0 y)
cond-none true y = refl
cond-none false y = omega arith

mixed-from : (affected : List Bool) (p : ℕ) (xs ys : List ℕ) (i : ℕ)
    → slice_index (mixed affected p xs ys) i
    ≡ cond (is_affected affected (p + i)) (slice_index xs i) (min (slice_index xs i) (slice_index ys (p + i)))
mixed-from affected p [] ys i = cond-none (is_affected affected (p + i)) (slice_index ys (p + i))
mixed-from affected p (x ∷ xs) ys zero =
    let e : p ≡ p + 0 = omega arith in
    ap (λ q. cond (is_affected affected q) x (min x (slice_index ys q))) e
mixed-from affected p (x ∷ xs) ys (suc i) =
    let e : suc p + i ≡ p + suc i = omega arith in
    mixed-from affected (suc p) xs ys i
    ∙ ap (λ q. cond (is_affected affected q) (slice_index xs i) (min (slice_index xs i) (slice_index ys q))) e

mixed-at : (affected : List Bool) (xs ys : List ℕ) (i : ℕ)
    → slice_index (mixed affected 0 xs ys) i
    ≡ cond (is_affected affected i) (slice_index xs i) (min (slice_index xs i) (slice_index ys i))
mixed-at affected xs ys i =
    let e : 0 + i ≡ i = omega arith in
    mixed-from affected 0 xs ys i
    ∙ ap (λ q. cond (is_affected affected q) (slice_index xs i) (min (slice_index xs i) (slice_index ys q))) e

cond-low : (b : Bool) (x y : ℕ) → cond b x (min x y) ≤ x
cond-low true x y = omega arith
cond-low false x y = omega arith

cond-high : (b : Bool) (z x y : ℕ) → z ≤ x → z ≤ y → z ≤ cond b x (min x y)
cond-high true z x y l h = l
cond-high false z x y l h = omega arith

mixed-low : (affected : List Bool) (xs ys : List ℕ) → Below (mixed affected 0 xs ys) xs
mixed-low affected xs ys = λ i.
    let e = mixed-at affected xs ys i in
    let l = cond-low (is_affected affected i) (slice_index xs i) (slice_index ys i) in
    omega arith

mixed-high : (affected : List Bool) (zs xs ys : List ℕ) → Below zs xs → Below zs ys → Below zs (mixed affected 0 xs ys)
mixed-high affected zs xs ys b c = λ i.
    let e = mixed-at affected xs ys i in
    let l = cond-high (is_affected affected i) (slice_index zs i) (slice_index xs i) (slice_index ys i) (b i) (c i) in
    omega arith

mixed-other : (affected : List Bool) (xs ys : List ℕ) (i : ℕ) → is_affected affected i ≡ false
    → slice_index (mixed affected 0 xs ys) i ≡ min (slice_index xs i) (slice_index ys i)
mixed-other affected xs ys i h = mixed-at affected xs ys i
    ∙ ap (λ b. cond b (slice_index xs i) (min (slice_index xs i) (slice_index ys i))) h

mixed-affected : (affected : List Bool) (xs ys : List ℕ) (i : ℕ) → is_affected affected i ≡ true
    → slice_index (mixed affected 0 xs ys) i ≡ slice_index xs i
mixed-affected affected xs ys i h = mixed-at affected xs ys i
    ∙ ap (λ b. cond b (slice_index xs i) (min (slice_index xs i) (slice_index ys i))) h

-- whom a row of another uses is not affected
pub used-other : (s : SystemEquations) (affected : List Bool) (i p : ℕ) → HasUsers s affected → i < length s.rows
    → is_affected affected (row_at s.rows i).authorizer ≡ false → UsesPrincipal (row_at s.rows i) p
    → is_affected affected p ≡ false
used-other s affected i p users l other used = at (is_affected affected p) refl
  where
    at : (b : Bool) → is_affected affected p ≡ b → b ≡ false
    at false e = refl
    at true e = absurd (false≢true (sym other ∙ users p i e l used))

-- a row of another didn't change
row-other : (s : SystemEquations) (changed : List Changed) (affected : List Bool) (i : ℕ)
    → HasChanged s changed affected → is_affected affected (row_at s.rows i).authorizer ≡ false
    → row_at (system_before s changed).rows i ≡ row_at s.rows i
row-other s changed affected i first other =
    put_back-other changed s.rows i
    (λ k change e same. false≢true (sym other ∙ ap (λ j. is_affected affected (row_at s.rows j).authorizer) same
    ∙ first k change e))

before-closed : (s : SystemEquations) (changed : List Changed) (i : ℕ) → IsSystem s → i < length s.rows
    → worth (s.levels - 1) (least_levels (system_before s changed)) (row_at (system_before s changed).rows i)
    ≤ slice_index (least_levels (system_before s changed)) (row_at s.rows i).authorizer
before-closed s changed i fits l =
    let b : SystemEquations = system_before s changed in
    let same : IsSameButCeiling (row_at s.rows i) (row_at b.rows i) = put_back-same changed s.rows i in
    let within : i < length b.rows = omega (arith, length-put_back changed s.rows) in
    let in_range : (row_at b.rows i).authorizer < length b.requesters =
    subst (λ p. p < length s.requesters) (sym same.authorizer) (authorizer-fits s i fits l) in
    subst (λ p. worth (s.levels - 1) (least_levels b) (row_at b.rows i) ≤ slice_index (least_levels b) p)
    same.authorizer (least-closed b i within in_range)

mixed-closed : (s : SystemEquations) (changed : List Changed) (affected : List Bool) (i : ℕ) → IsSystem s
    → HasChanged s changed affected → HasUsers s affected → i < length s.rows → (flag : Bool)
    → is_affected affected (row_at s.rows i).authorizer ≡ flag
    → worth (s.levels - 1) (mixed affected 0 (least_levels (system_before s changed)) (least_levels s))
    (row_at (system_before s changed).rows i)
    ≤ slice_index (mixed affected 0 (least_levels (system_before s changed)) (least_levels s))
    (row_at s.rows i).authorizer
mixed-closed s changed affected i fits first users l true e =
    let b : SystemEquations = system_before s changed in
    let old : List ℕ = least_levels b in
    let new : List ℕ = least_levels s in
    let m : List ℕ = mixed affected 0 old new in
    let low : worth (s.levels - 1) m (row_at b.rows i) ≤ worth (s.levels - 1) old (row_at b.rows i) =
    worth-below (s.levels - 1) m old (row_at b.rows i) (mixed-low affected old new) in
    let closed = before-closed s changed i fits l in
    let here : slice_index m (row_at s.rows i).authorizer ≡ slice_index old (row_at s.rows i).authorizer =
    mixed-affected affected old new (row_at s.rows i).authorizer e in
    omega arith
mixed-closed s changed affected i fits first users l false e =
    let b : SystemEquations = system_before s changed in
    let old : List ℕ = least_levels b in
    let new : List ℕ = least_levels s in
    let m : List ℕ = mixed affected 0 old new in
    let top : ℕ = s.levels - 1 in
    let low : worth top m (row_at b.rows i) ≤ worth top old (row_at b.rows i) =
    worth-below top m old (row_at b.rows i) (mixed-low affected old new) in
    let closed = before-closed s changed i fits l in
    let row : row_at b.rows i ≡ row_at s.rows i = row-other s changed affected i first e in
    let moved : worth top m (row_at b.rows i) ≡ worth top m (row_at s.rows i) = ap (worth top m) row in
    let used : worth top m (row_at s.rows i) ≤ worth top new (row_at s.rows i) =
    worth-used top m new (row_at s.rows i) (λ p usage.
    let lower : slice_index m p ≡ min (slice_index old p) (slice_index new p) =
    mixed-other affected old new p (used-other s affected i p users l e usage) in
    omega arith) in
    let there : worth top new (row_at s.rows i) ≤ slice_index new (row_at s.rows i).authorizer =
    least-closed s i l (authorizer-fits s i fits l) in
    let here : slice_index m (row_at s.rows i).authorizer
    ≡ min (slice_index old (row_at s.rows i).authorizer) (slice_index new (row_at s.rows i).authorizer) =
    mixed-other affected old new (row_at s.rows i).authorizer e in
    omega arith

-- nobody else had more before the change
other-low : (s : SystemEquations) (changed : List Changed) (affected : List Bool) (p : ℕ) → IsSystem s
    → HasChanged s changed affected → HasUsers s affected → is_affected affected p ≡ false
    → slice_index (least_levels (system_before s changed)) p ≤ slice_index (least_levels s) p
other-low s changed affected p fits first users other =
    let b : SystemEquations = system_before s changed in
    let old : List ℕ = least_levels b in
    let new : List ℕ = least_levels s in
    let m : List ℕ = mixed affected 0 old new in
    let closed : IsClosed b m = (λ i l.
    let same : IsSameButCeiling (row_at s.rows i) (row_at b.rows i) = put_back-same changed s.rows i in
    let within : i < length s.rows = omega (arith, l, length-put_back changed s.rows) in
    subst (λ q. worth (s.levels - 1) m (row_at b.rows i) ≤ slice_index m q) (sym same.authorizer)
    (mixed-closed s changed affected i fits first users within (is_affected affected (row_at s.rows i).authorizer)
    refl)) in
    let started : Below (at_first b) m = mixed-high affected (at_first b) old new (first-least b) (first-least s) in
    let all : Below old m = (least_levels-is_least b).lowest m (closed-stays b m started closed) in
    let le : slice_index old p ≤ slice_index m p = all p in
    let here : slice_index m p ≡ min (slice_index old p) (slice_index new p) = mixed-other affected old new p other in
    omega arith

-- zeros behind a list
pub padded : (xs : List ℕ) (n p : ℕ) → slice_index (xs ++ replicate n 0) p ≡ slice_index xs p
padded [] zero p = refl
padded [] (suc n) zero = refl
padded [] (suc n) (suc p) = padded [] n p
padded (x ∷ xs) n zero = refl
padded (x ∷ xs) n (suc p) = padded xs n p

-- what a start is
record IsMade (s : SystemEquations) (affected : List Bool) (old start : List ℕ) : Type 0 where
  others : (p : ℕ) → is_affected affected p ≡ false → slice_index start p ≡ slice_index old p
  affected_ones : (p : ℕ) → is_affected affected p ≡ true → slice_index start p ≡ slice_index (at_first s) p

started-made : (s : SystemEquations) (changed : List Changed) (affected : List Bool) (values start : List ℕ)
    → values ++ replicate (length s.requesters - length values) 0 ≡ least_levels (system_before s changed)
    → AreStarted s affected values start → IsMade s affected (least_levels (system_before s changed)) start
started-made s changed affected values start before made =
    let b : SystemEquations = system_before s changed in
    let old : List ℕ = least_levels b in
    let size : length old ≡ length s.requesters = sym (ap length (least_levels-is_least b).fixed)
    ∙ length-round b old in
    record {
      others = λ p other.
          elim (cases_lt p (length s.requesters)) [
            | inl within ↦
                let kept : start_level s affected values p ≡ slice_index values p =
                ap (λ c. cond c (cond (slice_index_or s.requesters p false) (s.levels - 1) 0)
                (slice_index values p)) other in
                made.level p within ∙ kept ∙ sym (padded values (length s.requesters - length values) p)
                ∙ ap (λ xs. slice_index xs p) before
            | inr past ↦
                let one : slice_index start p ≡ 0 = get_or_past start p 0 (omega (arith, made.size)) in
                let two : slice_index old p ≡ 0 = get_or_past old p 0 (omega arith) in
                one ∙ sym two
          ];
      affected_ones = λ p is.
          elim (cases_lt p (length s.requesters)) [
            | inl within ↦
                let by : IsByPrincipal s p (slice_index_or s.requesters p false) = by_principal s p false within in
                let anew : start_level s affected values p ≡ cond (slice_index_or s.requesters p false) (s.levels - 1)
                0 = ap (λ c. cond c (cond (slice_index_or s.requesters p false) (s.levels - 1) 0)
                (slice_index values p)) is in
                made.level p within ∙ anew ∙ sym by.first
            | inr past ↦
                let one : slice_index start p ≡ 0 = get_or_past start p 0 (omega (arith, made.size)) in
                let two : slice_index (at_first s) p ≡ 0 =
                get_or_past (at_first s) p 0 (omega (arith, size-at_first s)) in
                one ∙ sym two
          ];
    }

made-between : (s : SystemEquations) (affected : List Bool) (old start : List ℕ) (p low high : ℕ)
    → IsMade s affected old start
    → (is_affected affected p ≡ true → (low ≤ slice_index (at_first s) p) × (slice_index (at_first s) p ≤ high))
    → (is_affected affected p ≡ false → (low ≤ slice_index old p) × (slice_index old p ≤ high))
    → (low ≤ slice_index start p) × (slice_index start p ≤ high)
made-between s affected old start p low high made one two = at (is_affected affected p) refl
  where
    at : (b : Bool) → is_affected affected p ≡ b → (low ≤ slice_index start p) × (slice_index start p ≤ high)
    at true e = let same = made.affected_ones p e in let h = one e in
        (omega (arith, same, h.0), omega (arith, same, h.1))
    at false e = let same = made.others p e in let h = two e in (omega (arith, same, h.0), omega (arith, same, h.1))

-- from these levels the affected principals may be raised
pub started : (s : SystemEquations) (changed : List Changed) (affected : List Bool) (values start : List ℕ) → IsSystem s
    → AreAffected s changed affected
    → values ++ replicate (length s.requesters - length values) 0 ≡ least_levels (system_before s changed)
    → AreStarted s affected values start → IsStart s affected start
started s changed affected values start fits are before made =
    let b : SystemEquations = system_before s changed in
    let old : List ℕ = least_levels b in
    let new : List ℕ = least_levels s in
    let is : IsMade s affected old start = started-made s changed affected values start before made in
    let between : (p : ℕ) → (slice_index (at_first s) p ≤ slice_index start p)
    × (slice_index start p ≤ slice_index new p) =
    (λ p. made-between s affected old start p (slice_index (at_first s) p) (slice_index new p) is
    (λ yes_one. (omega arith, first-least s p))
    (λ other. (first-least b p, other-low s changed affected p fits are.changed_rows are.users other))) in
    record {
      fit = record {
        size = made.size;
        low = All-from_get_or (λ level. level < s.levels) start 0 (λ p l. let le = (between p).1 in
            let top = least-low s p in omega (arith, le, top, fits.levels_fit.0));
      };
      above = λ p. (between p).0;
      below = λ p. (between p).1;
      closed = λ levels same i l other.
          let top : ℕ = s.levels - 1 in
          let used : worth top levels (row_at s.rows i) ≤ worth top old (row_at s.rows i) =
          worth-used top levels old (row_at s.rows i) (λ p usage.
          let unaffected : is_affected affected p ≡ false = used-other s affected i p are.users l other usage in
          let here : slice_index levels p ≡ slice_index old p = same p unaffected ∙ is.others p unaffected in
          omega arith) in
          let moved : worth top old (row_at b.rows i) ≡ worth top old (row_at s.rows i) =
          ap (worth top old) (row-other s changed affected i are.changed_rows other) in
          let closed = before-closed s changed i fits l in
          let own : slice_index levels (row_at s.rows i).authorizer ≡ slice_index old (row_at s.rows i).authorizer =
          same (row_at s.rows i).authorizer other ∙ is.others (row_at s.rows i).authorizer other in
          omega arith;
    }
