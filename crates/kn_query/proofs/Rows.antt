-- The credentials of the rows of a base: their places and ids, and those of them that are still there.
use Rattle.std.proofs.Common.{◌≡◌, ℕ, zero, suc, ◌<◌, ◌≤◌, ◌==◌, ◌||◌, Bool, true, false, not, cond, List, [], ◌∷◌}
use Rattle.std.proofs.Common.{◌++◌, drop, get_or, length, map, replicate, take, Some, refl, sym, ap, subst, ◌∙◌, arith}
use Rattle.std.proofs.Common.{append_assoc, take-append-drop}
use Rattle.std.specs.Prelude.{slice_get, slice_set, option_map}
use Rattle.std.proofs.lemmas.Bool.{or_from, or_parts, ne_eqb, eq-eqb}
use Rattle.std.proofs.lemmas.Option.{same_Some, slice_get-map, slice_get_read}
use Rattle.std.proofs.lemmas.List.{length-set}
use Rattle.std.proofs.lemmas.List.Sums.{sum_by-cons}
use Rattle.kn_trees.specs.declared.assertion.Assertion.{Assertion}
use Rattle.kn_assert.specs.Reading.{assertion_of}
use Rattle.kn_proof.specs.declared.named.Id.{Id}
use Rattle.kn_meaning.specs.Equations.{Part}
use Rattle.kn_history.specs.declared.update.Change.{Change}
use Rattle.kn_history.specs.declared.update.Change.TheVariants.{Add, Remove}
use Rattle.kn_history.specs.declared.update.Numbered.{Numbered}
use Rattle.kn_history.specs.History.{NumberedText, text_bytes}
use Rattle.kn_history.specs.Ids.{IdsAscend}
use Rattle.kn_history.proofs.Ids.{ascend-weaker}
use Rattle.kn_store.specs.Places.{has_id}
use Rattle.kn_daemon.specs.Daemon.{part_by, parts_of}
use Rattle.kn_system.specs.Equations.{SystemEquations}
use Rattle.kn_rows.specs.BaseRows.{IsBaseOf}
use Rattle.kn_answer.specs.Based.{BaseView}
use Rattle.kn_answer.specs.Removed.{live_parts}
use Rattle.kn_query.specs.Following.{AreAbove, AreUpTo, FollowsRemovals, live_credentials, without_removed}
use Rattle.kn_query.specs.SharedParts.{AreRead}
use Rattle.kn_query.proofs.LaterVersions.{above-lower, without-none, without-then}
use Rattle.kn_query.proofs.Texts.{found}

-- Lists from a place on.

take-next : {X : Type 0} (xs : List X) (place : ℕ) (x : X) → slice_get xs place ≡ Some x
    → take (suc place) xs ≡ take place xs ++ x ∷ []
take-next [] place x here = absurd (cc)
take-next (y ∷ xs) zero x here = ap (λ z. z ∷ []) (same_Some y x here)
take-next (y ∷ xs) (suc place) x here = ap (λ l. y ∷ l) (take-next xs place x here)

pub more-from : {X : Type 0} (xs : List X) (first place : ℕ) (x : X) → first ≤ place → slice_get xs place ≡ Some x
    → drop first (take (suc place) xs) ≡ drop first (take place xs) ++ x ∷ []
more-from [] first place x within here = absurd (cc)
more-from (y ∷ xs) zero place x within here = take-next (y ∷ xs) place x here
more-from (y ∷ xs) (suc first) zero x within here = absurd (omega (arith, within))
more-from (y ∷ xs) (suc first) (suc place) x within here = more-from xs first place x (omega (arith, within)) here

pub from-split : {X : Type 0} (xs : List X) (first place : ℕ) → first ≤ place
    → drop first xs ≡ drop first (take place xs) ++ drop place xs
from-split xs zero place within = sym (take-append-drop place xs)
from-split xs (suc first) zero within = absurd (omega (arith, within))
from-split [] (suc first) (suc place) within = refl
from-split (x ∷ xs) (suc first) (suc place) within = from-split xs first place (omega (arith, within))

-- Ids that ascend.

pub ascend-first : (low : ℕ) (xs ys : List NumberedText) → IdsAscend low (xs ++ ys) → IdsAscend low xs
ascend-first low [] ys ids = tt
ascend-first low (x ∷ xs) ys ids = (ids.0, ascend-first x.id xs ys ids.1)

pub ascend-last : (low last : ℕ) (xs ys : List NumberedText) → IdsAscend low (xs ++ ys) → AreAbove last ys
    → IdsAscend last ys
ascend-last low last [] [] ids above = tt
ascend-last low last [] (y ∷ ys) ids above = (above.0, ids.1)
ascend-last low last (x ∷ xs) ys ids above = ascend-last x.id last xs ys ids.1 above

pub ascend-both : (low last : ℕ) (xs ys : List NumberedText) → low ≤ last → IdsAscend low xs → AreUpTo last xs
    → IdsAscend last ys → IdsAscend low (xs ++ ys)
ascend-both low last [] ys le ids up_to later = ascend-weaker low last ys le later
ascend-both low last (x ∷ xs) ys le ids up_to later = (ids.0, ascend-both x.id last xs ys up_to.0 ids.1 up_to.1 later)

-- the next credential of a version goes on
pub next-ascends : (old credentials : List NumberedText) (first place : ℕ) (c : NumberedText) → first ≤ place
    → slice_get credentials place ≡ Some c
    → IdsAscend 0 (old ++ drop first credentials) → IdsAscend 0 ((old ++ drop first (take place credentials)) ++ c ∷ [])
next-ascends old credentials first place c within here ids =
    let so_far = drop first (take place credentials) in
    let rest = drop (suc place) credentials in
    let split : old ++ drop first credentials ≡ ((old ++ so_far) ++ c ∷ []) ++ rest =
    ap (λ l. old ++ l) (from-split credentials first (suc place) (omega (arith, within))
    ∙ ap (λ l. l ++ rest) (more-from credentials first place c within here))
    ∙ ap (λ l. old ++ l) (append_assoc so_far (c ∷ []) rest)
    ∙ sym (append_assoc old so_far (c ∷ rest))
    ∙ sym (append_assoc (old ++ so_far) (c ∷ []) rest) in
    ascend-first 0 ((old ++ so_far) ++ c ∷ []) rest (subst (IdsAscend 0) split ids)

-- a credential by its id and its text
pub pair-at : (credentials : List NumberedText) (place : ℕ) (row : NumberedText)
    → slice_get (map (λ c. c.id) credentials) place ≡ Some row.id
    → slice_get (map (λ c. c.text) credentials) place ≡ Some row.text → slice_get credentials place ≡ Some row
pair-at [] place row id_here text_here = absurd (cc)
pair-at (c ∷ credentials) zero row id_here text_here =
    let id_is : c.id ≡ row.id = same_Some c.id row.id id_here in
    let text_is : c.text ≡ row.text = same_Some c.text row.text text_here in
    λ i. Some (record { id = id_is i; text = text_is i })
pair-at (c ∷ credentials) (suc place) row id_here text_here = pair-at credentials place row id_here text_here

pub last-up_to : (low : ℕ) (xs : List NumberedText) (last : NumberedText) (n : ℕ) → IdsAscend low xs → length xs ≡ suc n
    → slice_get xs n ≡ Some last → AreUpTo last.id xs
last-up_to low [] last n ids long here = absurd (omega (arith, long))
last-up_to low (x ∷ []) last zero ids long here =
    let same : x.id ≡ last.id = ap (λ (c : NumberedText). c.id) (same_Some x last here) in (omega (arith, same), tt)
last-up_to low (x ∷ []) last (suc n) ids long here = absurd (omega (arith, long))
last-up_to low (x ∷ y ∷ xs) last zero ids long here = absurd (omega (arith, long))
last-up_to low (x ∷ y ∷ xs) last (suc n) ids long here =
    let rest = last-up_to x.id (y ∷ xs) last n ids.1 (omega (arith, long)) here in
    let next : y.id ≤ last.id = rest.0 in
    let above : x.id < y.id = ids.1.0 in
    (omega (arith, next, above), rest)

-- no id before a place is above the one there
pub ids-ordered : (low : ℕ) (xs : List NumberedText) (i j a b : ℕ) → IdsAscend low xs → i ≤ j
    → slice_get (map (λ c. c.id) xs) i ≡ Some a
    → slice_get (map (λ c. c.id) xs) j ≡ Some b → (low < b) × (a ≤ b)
ids-ordered low [] i j a b ids le here there = absurd (cc)
ids-ordered low (x ∷ xs) zero zero a b ids le here there =
    let one : x.id ≡ a = same_Some x.id a here in let two : x.id ≡ b = same_Some x.id b there in let first = ids.0 in
    (omega (arith, two, first), omega (arith, one, two))
ids-ordered low (x ∷ xs) zero (suc j) a b ids le here there =
    let one : x.id ≡ a = same_Some x.id a here in let first = ids.0 in
    let rest = ids-ordered x.id xs j j b b ids.1 (omega arith) there there in
    let above = rest.0 in
    (omega (arith, first, above), omega (arith, one, above))
ids-ordered low (x ∷ xs) (suc i) zero a b ids le here there = absurd (omega (arith, le))
ids-ordered low (x ∷ xs) (suc i) (suc j) a b ids le here there =
    let rest = ids-ordered x.id xs i j a b ids.1 (omega (arith, le)) here there in
    let above = rest.0 in let first = ids.0 in
    (omega (arith, first, above), rest.1)

-- a higher id stands behind
pub stands-behind : (low : ℕ) (xs : List NumberedText) (i j a b : ℕ) → IdsAscend low xs
    → slice_get (map (λ c. c.id) xs) i ≡ Some a
    → slice_get (map (λ c. c.id) xs) j ≡ Some b → a < b → i < j
stands-behind low [] i j a b ids here there less = absurd (cc)
stands-behind low (x ∷ xs) zero zero a b ids here there less =
    let one : x.id ≡ a = same_Some x.id a here in let two : x.id ≡ b = same_Some x.id b there in
    absurd (omega (arith, one, two, less))
stands-behind low (x ∷ xs) zero (suc j) a b ids here there less = omega arith
stands-behind low (x ∷ xs) (suc i) zero a b ids here there less =
    let two : x.id ≡ b = same_Some x.id b there in
    let above = (ids-ordered x.id xs i i a a ids.1 (omega arith) here here).0 in
    absurd (omega (arith, two, above, less))
stands-behind low (x ∷ xs) (suc i) (suc j) a b ids here there less =
    let rest = stands-behind x.id xs i j a b ids.1 here there less in omega (arith, rest)

pub id-here : (xs : List NumberedText) (i id : ℕ) (c : NumberedText) → slice_get xs i ≡ Some c → c.id ≡ id
    → slice_get (map (λ c. c.id) xs) i ≡ Some id
id-here xs i id c here same = slice_get-map (λ (x : NumberedText). x.id) xs i
    ∙ ap (option_map (λ (x : NumberedText). x.id)) here ∙ ap Some same

pub read-id : (rows seen : List NumberedText) (i id : ℕ) (c : NumberedText) → seen ≡ rows → i < length rows
    → c ≡ get_or seen i c → id ≡ c.id
    → slice_get (map (λ c. c.id) rows) i ≡ Some id
read-id rows seen i id c same within is named =
    id-here rows i id c (slice_get_read rows (length rows) i c refl within (is ∙ ap (λ l. get_or l i c) same))
    (sym named)

pub id-nowhere : (id : ℕ) (xs : List NumberedText) → ((i : ℕ) → slice_get (map (λ c. c.id) xs) i ≡ Some id → ⊥)
    → has_id id xs ≡ false
id-nowhere id [] none = refl
id-nowhere id (x ∷ xs) none =
    or_from _ _ (ne_eqb x.id id (λ same. none zero (ap Some same))) (id-nowhere id xs (λ i here. none (suc i) here))

-- How many credentials of a version stand in front.

is-later : (earlier later : List NumberedText) (last i id : ℕ) → AreAbove last later → length earlier ≤ i
    → slice_get (map (λ c. c.id) (earlier ++ later)) i ≡ Some id → last < id
is-later [] [] last i id above within here = absurd (cc)
is-later [] (c ∷ later) last zero id above within here =
    let same : c.id ≡ id = same_Some c.id id here in let first = above.0 in omega (arith, same, first)
is-later [] (c ∷ later) last (suc i) id above within here = is-later [] later last i id above.1 (omega arith) here
is-later (c ∷ earlier) later last zero id above within here = absurd (omega (arith, within))
is-later (c ∷ earlier) later last (suc i) id above within here =
    is-later earlier later last i id above (omega (arith, within)) here

pub front-ends : (earlier later : List NumberedText) (last n id : ℕ) → AreAbove last later → length earlier ≤ suc n
    → slice_get (map (λ c. c.id) (earlier ++ later)) n ≡ Some id → id ≤ last → suc n ≡ length earlier
front-ends [] later last n id above long here low =
    let higher = is-later [] later last n id above (omega arith) here in absurd (omega (arith, higher, low))
front-ends (c ∷ earlier) later last zero id above long here low = omega (arith, long)
front-ends (c ∷ earlier) later last (suc n) id above long here low =
    ap suc (front-ends earlier later last n id above (omega (arith, long)) here low)

pub front-shorter : (earlier later : List NumberedText) (last n id : ℕ) → AreUpTo last earlier → length earlier ≤ suc n
    → slice_get (map (λ c. c.id) (earlier ++ later)) n ≡ Some id → last < id → length earlier ≤ n
front-shorter [] later last n id up_to long here high = omega arith
front-shorter (c ∷ earlier) later last zero id up_to long here high =
    let same : c.id ≡ id = same_Some c.id id here in let first = up_to.0 in absurd (omega (arith, same, first, high))
front-shorter (c ∷ earlier) later last (suc n) id up_to long here high =
    let rest = front-shorter earlier later last n id up_to.1 (omega (arith, long)) here high in omega (arith, rest)

-- The parts of credentials.

pub later-parts : (name : ℕ → Id) (earlier more : List NumberedText)
    → parts_of name (earlier ++ more) ≡ parts_of name earlier ++ parts_of name more
later-parts name [] more = refl
later-parts name (c ∷ earlier) more =
    ap (λ (ps : List Part). part_by name c.id (assertion_of c.text) ++ ps) (later-parts name earlier more)
    ∙ sym (append_assoc (part_by name c.id (assertion_of c.text)) (parts_of name earlier) (parts_of name more))

-- the later ones have no more bytes than all
pub later-bytes : (earlier more : List NumberedText) → text_bytes more ≤ text_bytes (earlier ++ more)
later-bytes [] more = omega arith
later-bytes (c ∷ earlier) more =
    let rest = later-bytes earlier more in
    omega (arith, rest, sum_by-cons (λ (t : NumberedText). length t.text) c (earlier ++ more))

-- A base of as many principals and rows is of the same assertions.

pub same-base : (parts : List Part) (names others : List (List ℕ)) (system new : SystemEquations) → others ≡ names
    → new ≡ system
    → IsBaseOf parts names system → IsBaseOf parts others new
same-base parts names others system new named same is =
    subst (λ ns. IsBaseOf parts ns new) (sym named) (subst (λ s. IsBaseOf parts names s) (sym same) is)

-- Those that are still there.

pub live-up_to : (most : ℕ) (rows : List NumberedText) (flags : List Bool) → AreUpTo most rows
    → AreUpTo most (live_credentials rows flags)
live-up_to most [] flags up_to = tt
live-up_to most (c ∷ rows) [] up_to = tt
live-up_to most (c ∷ rows) (flag ∷ flags) up_to = by flag (live-up_to most rows flags up_to.1)
  where
    by : (b : Bool) → AreUpTo most (live_credentials rows flags)
        → AreUpTo most (cond b (c ∷ live_credentials rows flags) (live_credentials rows flags))
    by true rest = (up_to.0, rest)
    by false rest = rest

live-above : (low : ℕ) (rows : List NumberedText) (flags : List Bool) → AreAbove low rows
    → AreAbove low (live_credentials rows flags)
live-above low [] flags above = tt
live-above low (c ∷ rows) [] above = tt
live-above low (c ∷ rows) (flag ∷ flags) above = by flag (live-above low rows flags above.1)
  where
    by : (b : Bool) → AreAbove low (live_credentials rows flags)
        → AreAbove low (cond b (c ∷ live_credentials rows flags) (live_credentials rows flags))
    by true rest = (above.0, rest)
    by false rest = rest

pub live-everything : (rows : List NumberedText) → live_credentials rows (replicate (length rows) true) ≡ rows
live-everything [] = refl
live-everything (c ∷ rows) = ap (λ (l : List NumberedText). c ∷ l) (live-everything rows)

pick-both : (c : NumberedText) (all left more : List NumberedText) → all ≡ left ++ more → (flag : Bool)
    → cond flag (c ∷ all) all ≡ cond flag (c ∷ left) left ++ more
pick-both c all left more same true = ap (λ (l : List NumberedText). c ∷ l) same
pick-both c all left more same false = same

pub live-both : (rows more : List NumberedText) (flags : List Bool) → length flags ≡ length rows
    → live_credentials (rows ++ more) (flags ++ replicate (length more) true) ≡ live_credentials rows flags ++ more
live-both [] more [] long = live-everything more
live-both [] more (flag ∷ flags) long = absurd (omega (arith, long))
live-both (c ∷ rows) more [] long = absurd (omega (arith, long))
live-both (c ∷ rows) more (flag ∷ flags) long =
    pick-both c (live_credentials (rows ++ more) (flags ++ replicate (length more) true)) (live_credentials rows flags)
    more
    (live-both rows more flags (omega (arith, long))) flag

one-live : (name : ℕ → Id) (c : NumberedText) (a : Assertion) (ps : List Part) (cs : List NumberedText)
    → assertion_of c.text ≡ Some a → ps ≡ parts_of name cs
    → (b : Bool) → cond b (record { id = name c.id; assertion = a } ∷ ps) ps ≡ parts_of name (cond b (c ∷ cs) cs)
one-live name c a ps cs is same true =
    ap (λ (l : List Part). record { id = name c.id; assertion = a } ∷ l) same
    ∙ ap (λ o. part_by name c.id o ++ parts_of name cs) (sym is)
one-live name c a ps cs is same false = same

-- the assertions that are still there are those of the credentials that are
pub live-parts : (name : ℕ → Id) (rows : List NumberedText) (flags : List Bool) → AreRead rows
    → length flags ≡ length rows
    → live_parts (parts_of name rows) flags ≡ parts_of name (live_credentials rows flags)
live-parts name [] flags read long = refl
live-parts name (c ∷ rows) [] read long = absurd (omega (arith, long))
live-parts name (c ∷ rows) (flag ∷ flags) read long =
    let one : (a : Assertion) × (assertion_of c.text ≡ Some a) = found (assertion_of c.text) read.0 in
    ap (λ o. live_parts (part_by name c.id o ++ parts_of name rows) (flag ∷ flags)) one.1
    ∙ one-live name c one.0 (live_parts (parts_of name rows) flags) (live_credentials rows flags) one.1
    (live-parts name rows flags read.1 (omega (arith, long))) flag

-- A row that is removed.

keeps-nowhere : (id : ℕ) (c : NumberedText) (left : List NumberedText) → (c.id == id) ≡ false → has_id id left ≡ false
    → (flag : Bool) → has_id id (cond flag (c ∷ left) left) ≡ false
keeps-nowhere id c left other none true = or_from _ _ other none
keeps-nowhere id c left other none false = none

live-nowhere : (id : ℕ) (rows : List NumberedText) (flags : List Bool) → has_id id rows ≡ false
    → has_id id (live_credentials rows flags) ≡ false
live-nowhere id [] flags none = refl
live-nowhere id (c ∷ rows) [] none = refl
live-nowhere id (c ∷ rows) (flag ∷ flags) none =
    let parts = or_parts (c.id == id) (has_id id rows) none in
    keeps-nowhere id c (live_credentials rows flags) parts.0 (live-nowhere id rows flags parts.1) flag

abbrev removal : ℕ → Numbered
removal id = record { change = Remove; id = id }

stays : (c : NumberedText) (rest others : List NumberedText) (here later : Bool) → (here || later) ≡ false
    → (later ≡ false → rest ≡ others)
    → cond (not (here || false)) (c ∷ rest) rest ≡ c ∷ others
stays c rest others true later none same = absurd (cc)
stays c rest others false later none same = ap (λ (l : List NumberedText). c ∷ l) (same none)

-- a removal of an id that none has takes none away
none-without : (id : ℕ) (credentials : List NumberedText) → has_id id credentials ≡ false
    → without_removed (removal id ∷ []) credentials ≡ credentials
none-without id [] none = refl
none-without id (c ∷ credentials) none =
    stays c (without_removed (removal id ∷ []) credentials) credentials (c.id == id) (has_id id credentials) none
    (none-without id credentials)

above-nowhere : (id : ℕ) (credentials : List NumberedText) → AreAbove id credentials → has_id id credentials ≡ false
above-nowhere id [] above = refl
above-nowhere id (c ∷ credentials) above =
    or_from _ _ (ne_eqb c.id id (λ same. let first = above.0 in absurd (omega (arith, same, first))))
    (above-nowhere id credentials above.1)

ascend-above : (low : ℕ) (credentials : List NumberedText) → IdsAscend low credentials → AreAbove low credentials
ascend-above low [] ids = tt
ascend-above low (c ∷ credentials) ids =
    let first = ids.0 in
    (first, above-lower low c.id credentials (omega (arith, first)) (ascend-above c.id credentials ids.1))

goes : (c : NumberedText) (rest : List NumberedText) (here : Bool) → here ≡ true
    → cond (not (here || false)) (c ∷ rest) rest ≡ rest
goes c rest true is = refl
goes c rest false is = absurd (cc)

remains : (c : NumberedText) (rest : List NumberedText) (here : Bool) → here ≡ false
    → cond (not (here || false)) (c ∷ rest) rest ≡ c ∷ rest
remains c rest true is = absurd (cc)
remains c rest false is = refl

first-removed : (id : ℕ) (c : NumberedText) (left : List NumberedText) → c.id ≡ id → AreAbove id left
    → (flag : Bool) → left ≡ without_removed (removal id ∷ []) (cond flag (c ∷ left) left)
first-removed id c left same above true =
    sym (none-without id left (above-nowhere id left above))
    ∙ sym (goes c (without_removed (removal id ∷ []) left) (c.id == id) (eq-eqb c.id id same))
first-removed id c left same above false = sym (none-without id left (above-nowhere id left above))

later-removed : (id : ℕ) (c : NumberedText) (left new : List NumberedText) → c.id < id
    → new ≡ without_removed (removal id ∷ []) left
    → (flag : Bool) → cond flag (c ∷ new) new ≡ without_removed (removal id ∷ []) (cond flag (c ∷ left) left)
later-removed id c left new below is true =
    ap (λ (l : List NumberedText). c ∷ l) is
    ∙ sym (remains c (without_removed (removal id ∷ []) left) (c.id == id)
    (ne_eqb c.id id (λ same. absurd (omega (arith, same, below)))))
later-removed id c left new below is false = is

-- a removal of the id of a row takes the row's credential away, where it is still there
row-removed : (low id : ℕ) (rows : List NumberedText) (flags : List Bool) (row : ℕ) → IdsAscend low rows
    → length flags ≡ length rows
    → slice_get (map (λ c. c.id) rows) row ≡ Some id
    → live_credentials rows (slice_set flags row false)
    ≡ without_removed (removal id ∷ []) (live_credentials rows flags)
row-removed low id [] flags row ids long here = absurd (cc)
row-removed low id (c ∷ rows) [] row ids long here = absurd (omega (arith, long))
row-removed low id (c ∷ rows) (flag ∷ flags) zero ids long here =
    let same : c.id ≡ id = same_Some c.id id here in
    let above : AreAbove id rows = subst (λ n. AreAbove n rows) same (ascend-above c.id rows ids.1) in
    first-removed id c (live_credentials rows flags) same (live-above id rows flags above) flag
row-removed low id (c ∷ rows) (flag ∷ flags) (suc row) ids long here =
    later-removed id c (live_credentials rows flags) (live_credentials rows (slice_set flags row false))
    (ids-ordered c.id rows row row id id ids.1 (omega arith) here here).0
    (row-removed c.id id rows flags row ids.1 (omega (arith, long)) here) flag

added-nothing : (text : List ℕ) (id : ℕ) (credentials : List NumberedText)
    → without_removed (record { change = Add text; id = id } ∷ []) credentials ≡ credentials
added-nothing text id [] = refl
added-nothing text id (c ∷ credentials) = ap (λ (l : List NumberedText). c ∷ l) (added-nothing text id credentials)

-- A base that follows removals.

module _ (rows : List NumberedText) where
  pub follows-none : (base : BaseView) → FollowsRemovals [] rows base base
  follows-none base =
      record { names = refl; system = refl; flags = refl; live = sym (without-none (live_credentials rows base.live)) }

  pub follows-then : (changes more : List Numbered) (a b c : BaseView) → FollowsRemovals changes rows a b
      → FollowsRemovals more rows b c
      → FollowsRemovals (changes ++ more) rows a c
  follows-then changes more a b c first then = record {
    names = then.names ∙ first.names;
    system = then.system ∙ first.system;
    flags = then.flags ∙ first.flags;
    live = then.live ∙ ap (without_removed more) first.live
        ∙ sym (without-then changes more (live_credentials rows a.live));
  }

  pub follows-addition : (c : Numbered) (text : List ℕ) (base : BaseView) → c.change ≡ Add text
      → FollowsRemovals (c ∷ []) rows base base
  follows-addition c text base adds = record {
    names = refl;
    system = refl;
    flags = refl;
    live = sym (ap (λ (change : Change). without_removed (record { change = change; id = c.id } ∷ [])
        (live_credentials rows base.live)) adds
        ∙ added-nothing text c.id (live_credentials rows base.live));
  }

  pub follows-removal : (id row : ℕ) (base new : BaseView) → IdsAscend 0 rows → length base.live ≡ length rows
      → slice_get (map (λ c. c.id) rows) row ≡ Some id → new ≡ record base { live = slice_set base.live row false }
      → FollowsRemovals (removal id ∷ []) rows base new
  follows-removal id row base new ids long here is = record {
    names = ap (λ (b : BaseView). b.names) is;
    system = ap (λ (b : BaseView). b.system) is;
    flags = ap (λ (b : BaseView). length b.live) is ∙ length-set base.live row false;
    live = ap (λ (b : BaseView). live_credentials rows b.live) is ∙ row-removed 0 id rows base.live row ids long here;
  }

  pub follows-absent : (id : ℕ) (base : BaseView) → has_id id rows ≡ false
      → FollowsRemovals (removal id ∷ []) rows base base
  follows-absent id base none = record {
    names = refl;
    system = refl;
    flags = refl;
    live = sym (none-without id (live_credentials rows base.live) (live-nowhere id rows base.live none));
  }
