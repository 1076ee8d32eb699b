-- What later updates make of the credentials of a version.
use Rattle.std.proofs.Common.{◌≡◌, ℕ, ◌+◌, ◌<◌, ◌≤◌, ◌||◌, Bool, true, false, not, cond, List, [], ◌∷◌, ◌++◌, drop}
use Rattle.std.proofs.Common.{take, refl, sym, ap, subst, ◌∙◌, arith, append_assoc, append-nil, take-append-drop}
use Rattle.std.specs.List.{AllByRecursion, list_any}
use Rattle.std.proofs.lemmas.Bool.{and_parts, and_from}
use Rattle.std.proofs.lemmas.Bool.Decides.{Decides-eqb}
use Rattle.std.proofs.lemmas.List.Concat.{flat_map-append}
use Rattle.std.proofs.lemmas.List.Elements.{filter-append}
use Rattle.std.proofs.lemmas.List.Folds.{list_any-append}
use Rattle.std.proofs.lemmas.List.Sums.{sum_by-append, sum_by-cons, sum_by_push}
use Rattle.std.specs.Prelude.{is_none}
use Rattle.kn_history.specs.declared.update.Change.{Change}
use Rattle.kn_history.specs.declared.update.Change.TheVariants.{Add, Remove}
use Rattle.kn_history.specs.declared.update.Numbered.{Numbered}
use Rattle.kn_history.specs.declared.update.Update.{Update}
use Rattle.kn_history.specs.History.{NumberedText, added_count, additions, all_changes, credentials_of, is_removal_of}
use Rattle.kn_history.specs.History.{kept_credential, live}
use Rattle.kn_history.specs.History.{all_may_follow, is_valid_history, is_well_numbered, may_follow, refusal_of}
use Rattle.kn_history.specs.History.{update_may_follow, updates_may_follow}
use Rattle.kn_query.specs.Following.{AreAbove, AreUpTo, is_removed_by, without_removed}

-- What later changes make of the credentials.

kept-later : (change : Change) (id : ℕ) (later changes : List Numbered)
    → kept_credential change id (later ++ changes) ≡ without_removed changes (kept_credential change id later)
kept-later (Add text) id later changes =
    ap (λ t. cond t [] (record { id = id; text = text } ∷ []))
    (list_any-append (λ c. is_removal_of id c.change c.id) later changes)
    ∙ by (list_any (λ c. is_removal_of id c.change c.id) later)
  where
    own_text : List NumberedText
    own_text = record { id = id; text = text } ∷ []

    last : (gone : Bool) → cond gone [] own_text ≡ cond (not gone) own_text []
    last true = refl
    last false = refl

    by : (gone : Bool)
        → cond (gone || is_removed_by changes id) [] own_text ≡ without_removed changes (cond gone [] own_text)
    by true = refl
    by false = last (is_removed_by changes id)
kept-later Remove id later changes = refl

-- those that the changes don't remove stay, and those that they add stand behind them
pub live-later : (past changes : List Numbered) → live (past ++ changes) ≡ without_removed changes (live past)
    ++ live changes
live-later [] changes = refl
live-later (c ∷ past) changes =
    ap (λ first. first ++ live (past ++ changes)) (kept-later c.change c.id past changes)
    ∙ ap (λ rest. without_removed changes (kept_credential c.change c.id past) ++ rest) (live-later past changes)
    ∙ sym (append_assoc (without_removed changes (kept_credential c.change c.id past))
    (without_removed changes (live past))
    (live changes))
    ∙ ap (λ l. l ++ live changes)
    (sym (filter-append (λ c. not (is_removed_by changes c.id)) (kept_credential c.change c.id past) (live past)))

changes-split : (version : List Update) (n : ℕ)
    → all_changes version ≡ all_changes (take n version) ++ all_changes (drop n version)
changes-split version n =
    ap all_changes (sym (take-append-drop n version))
    ∙ flat_map-append (λ (u : Update). u.changes) (take n version) (drop n version)

pub credentials-since : (version : List Update) (n : ℕ)
    → credentials_of version ≡ without_removed (all_changes (drop n version)) (credentials_of (take n version))
    ++ credentials_of (drop n version)
credentials-since version n = ap live (changes-split version n)
    ∙ live-later (all_changes (take n version)) (all_changes (drop n version))

-- Changes that take effect one after the other.

pub without-then : (changes more : List Numbered) (credentials : List NumberedText)
    → without_removed (changes ++ more) credentials ≡ without_removed more (without_removed changes credentials)
without-then changes more [] = refl
without-then changes more (c ∷ credentials) =
    ap (λ t. cond (not t) (c ∷ without_removed (changes ++ more) credentials)
    (without_removed (changes ++ more) credentials))
    (list_any-append (λ n. is_removal_of c.id n.change n.id) changes more)
    ∙ ap (λ l. cond (not (is_removed_by changes c.id || is_removed_by more c.id)) (c ∷ l) l)
    (without-then changes more credentials)
    ∙ by (is_removed_by changes c.id)
  where
    rest : List NumberedText
    rest = without_removed more (without_removed changes credentials)

    by : (gone : Bool) → cond (not (gone || is_removed_by more c.id)) (c ∷ rest) rest
        ≡ without_removed more
        (cond (not gone) (c ∷ without_removed changes credentials) (without_removed changes credentials))
    by true = refl
    by false = refl

-- no change removes any
pub without-none : (credentials : List NumberedText) → without_removed [] credentials ≡ credentials
without-none [] = refl
without-none (c ∷ credentials) = ap (λ (l : List NumberedText). c ∷ l) (without-none credentials)

-- Ids of all of some credentials.

pub all-first : (P : NumberedText → Type 0) (xs ys : List NumberedText) → AllByRecursion P (xs ++ ys)
    → AllByRecursion P xs
all-first P [] ys all = tt
all-first P (x ∷ xs) ys all = (all.0, all-first P xs ys all.1)

pub all-last : (P : NumberedText → Type 0) (xs ys : List NumberedText) → AllByRecursion P (xs ++ ys)
    → AllByRecursion P ys
all-last P [] ys all = all
all-last P (x ∷ xs) ys all = all-last P xs ys all.1

pub all-both : (P : NumberedText → Type 0) (xs ys : List NumberedText) → AllByRecursion P xs → AllByRecursion P ys
    → AllByRecursion P (xs ++ ys)
all-both P [] ys first last = last
all-both P (x ∷ xs) ys first last = (first.0, all-both P xs ys first.1 last)

pub up_to-more : (most higher : ℕ) (xs : List NumberedText) → most ≤ higher → AreUpTo most xs → AreUpTo higher xs
up_to-more most higher [] le all = tt
up_to-more most higher (x ∷ xs) le all =
    (let first = all.0 in omega (arith, le, first), up_to-more most higher xs le all.1)

pub above-lower : (lower low : ℕ) (xs : List NumberedText) → lower ≤ low → AreAbove low xs → AreAbove lower xs
above-lower lower low [] le all = tt
above-lower lower low (x ∷ xs) le all =
    (let first = all.0 in omega (arith, le, first), above-lower lower low xs le all.1)

-- Changes that may follow one after the other.

may-append : (past xs ys : List Numbered) → all_may_follow past xs ≡ true → all_may_follow (past ++ xs) ys ≡ true
    → all_may_follow past (xs ++ ys) ≡ true
may-append past [] ys first rest = subst (λ l. all_may_follow l ys ≡ true) (append-nil past) rest
may-append past (c ∷ xs) ys first rest =
    let parts = and_parts (may_follow past c) (all_may_follow (past ++ c ∷ []) xs) first in
    and_from (may_follow past c) (all_may_follow (past ++ c ∷ []) (xs ++ ys)) parts.0
    (may-append (past ++ c ∷ []) xs ys parts.1
    (subst (λ l. all_may_follow l ys ≡ true) (sym (append_assoc past (c ∷ []) xs)) rest))

may-behind : (past xs ys : List Numbered) → all_may_follow past (xs ++ ys) ≡ true
    → all_may_follow (past ++ xs) ys ≡ true
may-behind past [] ys all = subst (λ l. all_may_follow l ys ≡ true) (sym (append-nil past)) all
may-behind past (c ∷ xs) ys all =
    let parts = and_parts (may_follow past c) (all_may_follow (past ++ c ∷ []) (xs ++ ys)) all in
    subst (λ l. all_may_follow l ys ≡ true) (append_assoc past (c ∷ []) xs) (may-behind (past ++ c ∷ []) xs ys parts.1)

may-updates : (past : List Numbered) (updates : List Update) → updates_may_follow past updates ≡ true
    → all_may_follow past (all_changes updates) ≡ true
may-updates past [] follow = refl
may-updates past (u ∷ updates) follow =
    let parts = and_parts (update_may_follow past u) (updates_may_follow (past ++ u.changes) updates) follow in
    let changes = (and_parts _ (all_may_follow past u.changes) parts.0).1 in
    may-append past u.changes (all_changes updates) changes (may-updates (past ++ u.changes) updates parts.1)

-- The ids that changes add are above those before them.

one-above : (low id : ℕ) (text : List ℕ) (gone : Bool) → low < id
    → AreAbove low (cond gone [] (record { id = id; text = text } ∷ []))
one-above low id text true less = tt
one-above low id text false less = (less, tt)

kept-above : (past later : List Numbered) (change : Change) (id : ℕ) → is_well_numbered past change id ≡ true
    → AreAbove (additions past) (kept_credential change id later)
kept-above past later (Add text) id well =
    let same : id ≡ additions past + 1 = (Decides-eqb id (additions past + 1)).0 (and_parts _ _ well).0 in
    one-above (additions past) id text (list_any (λ c. is_removal_of id c.change c.id) later) (omega (arith, same))
kept-above past later Remove id well = tt

added-above : (past changes : List Numbered) → all_may_follow past changes ≡ true
    → AreAbove (additions past) (live changes)
added-above past [] follow = tt
added-above past (c ∷ changes) follow =
    let parts = and_parts (may_follow past c) (all_may_follow (past ++ c ∷ []) changes) follow in
    let well = (and_parts (is_none (refusal_of past c.change c.id)) (is_well_numbered past c.change c.id) parts.0).1 in
    let more : additions (past ++ c ∷ []) ≡ additions past + added_count c.change =
    sum_by_push (λ (n : Numbered). added_count n.change) past c in
    all-both (λ x. additions past < x.id) (kept_credential c.change c.id changes) (live changes)
    (kept-above past changes c.change c.id well)
    (above-lower (additions past) (additions (past ++ c ∷ [])) (live changes) (omega (arith, more))
    (added-above (past ++ c ∷ []) changes parts.1))

-- the credentials that later updates of a version added
pub newer-above : (version : List Update) (n : ℕ) → is_valid_history version ≡ true
    → AreAbove (additions (all_changes (take n version))) (credentials_of (drop n version))
newer-above version n valid =
    added-above (all_changes (take n version)) (all_changes (drop n version))
    (may-behind [] (all_changes (take n version)) (all_changes (drop n version))
    (subst (λ l. all_may_follow [] l ≡ true) (changes-split version n) (may-updates [] version valid)))

-- And no id is above the number of additions.

one-up_to : (most id : ℕ) (text : List ℕ) (gone : Bool) → id ≤ most
    → AreUpTo most (cond gone [] (record { id = id; text = text } ∷ []))
one-up_to most id text true le = tt
one-up_to most id text false le = (le, tt)

kept-up_to : (past later : List Numbered) (change : Change) (id most : ℕ) → is_well_numbered past change id ≡ true
    → additions past + added_count change ≤ most
    → AreUpTo most (kept_credential change id later)
kept-up_to past later (Add text) id most well le =
    let same : id ≡ additions past + 1 = (Decides-eqb id (additions past + 1)).0 (and_parts _ _ well).0 in
    one-up_to most id text (list_any (λ c. is_removal_of id c.change c.id) later) (omega (arith, same, le))
kept-up_to past later Remove id most well le = tt

added-up_to : (past changes : List Numbered) → all_may_follow past changes ≡ true
    → AreUpTo (additions (past ++ changes)) (live changes)
added-up_to past [] follow = tt
added-up_to past (c ∷ changes) follow =
    let parts = and_parts (may_follow past c) (all_may_follow (past ++ c ∷ []) changes) follow in
    let well = (and_parts (is_none (refusal_of past c.change c.id)) (is_well_numbered past c.change c.id) parts.0).1 in
    let whole : additions (past ++ c ∷ changes) ≡ additions past + additions (c ∷ changes) =
    sum_by-append (λ (n : Numbered). added_count n.change) past (c ∷ changes) in
    let one : additions (c ∷ changes) ≡ added_count c.change + additions changes =
    sum_by-cons (λ (n : Numbered). added_count n.change) c changes in
    all-both (λ x. x.id ≤ additions (past ++ c ∷ changes)) (kept_credential c.change c.id changes) (live changes)
    (kept-up_to past changes c.change c.id (additions (past ++ c ∷ changes)) well (omega (arith, whole, one)))
    (subst (λ l. AreUpTo (additions l) (live changes)) (append_assoc past (c ∷ []) changes)
    (added-up_to (past ++ c ∷ []) changes parts.1))

pub ids-up_to : (version : List Update) → is_valid_history version ≡ true
    → AreUpTo (additions (all_changes version)) (credentials_of version)
ids-up_to version valid = added-up_to [] (all_changes version) (may-updates [] version valid)

-- there are no fewer additions later
pub additions-grow : (version : List Update) (n : ℕ)
    → additions (all_changes (take n version)) ≤ additions (all_changes version)
additions-grow version n =
    let split : additions (all_changes version) ≡ additions (all_changes (take n version))
    + additions (all_changes (drop n version)) =
    ap additions (changes-split version n)
    ∙ sum_by-append (λ (c : Numbered). added_count c.change) (all_changes (take n version))
    (all_changes (drop n version)) in
    omega (arith, split)

-- of those that later updates added neither
pub newer-up_to : (version : List Update) (n : ℕ) → is_valid_history version ≡ true
    → AreUpTo (additions (all_changes version)) (credentials_of (drop n version))
newer-up_to version n valid =
    all-last (λ x. x.id ≤ additions (all_changes version))
    (without_removed (all_changes (drop n version)) (credentials_of (take n version)))
    (credentials_of (drop n version))
    (subst (AreUpTo (additions (all_changes version))) (credentials-since version n) (ids-up_to version valid))
