-- The plain program's test of a proof holds exactly where the rows are one.
use Rattle.std.proofs.Common.{◌≡◌, ℕ, suc, zero, ◌≤◌, Bool, true, false, cond, ◌||◌, ◌&&◌, not, nat_le, ◌==◌, List, []}
use Rattle.std.proofs.Common.{◌∷◌, ◌++◌, map, All, Any, refl, sym, ap, ◌∙◌, subst, append_assoc, append-nil, arith}
use Rattle.std.specs.Bool.{Decides}
use Rattle.std.specs.List.{list_any, list_all}
use Rattle.std.specs.Str.{bytes_eq}
use Rattle.std.proofs.lemmas.Bool.{and_parts, and_from, or_parts, or_from, not-true, not_from_false, leb-true, le-leb}
use Rattle.std.proofs.lemmas.Bool.{eqb-true, eq-eqb}
use Rattle.std.proofs.lemmas.Slice.Eq.{bytes_eq-Decides}
use Rattle.std.proofs.lemmas.Bool.Decides.{Decides-at, same_from_decides}
use Rattle.std.proofs.lemmas.List.Folds.{list_any-append, Any-from_list_any, list_any-from_Any}
use Rattle.kn_principal.specs.Principals.{policy}
use Rattle.kn_proof.specs.declared.named.Id.{Id}
use Rattle.kn_proof.specs.declared.named.Id.TheVariants.{Shared, Private}
use Rattle.kn_proof.specs.declared.named.NamedRow.{NamedRow}
use Rattle.kn_meaning.specs.declared.plain.Level.{Level}
use Rattle.kn_meaning.specs.declared.plain.Stated.{Stated}
use Rattle.kn_meaning.specs.Formulas.{Levels}
use Rattle.kn_meaning.specs.Equations.{Equations, Statement, worth, is_requester}
use Rattle.kn_meaning.specs.Tables.{level_in, entry_of, entries_of, statement_in, equations_from}
use Rattle.kn_meaning.specs.Proofs.{row_level, levels_by, Supports, IsRow, AreRows, IsClosed, IsProof}
use Rattle.kn_meaning.specs.Critical.{is_same_id}
use Rattle.kn_laws.specs.Tested.{supports, has_entry, may_follow, with_row, all_follow, table_after, is_settled}
use Rattle.kn_laws.specs.Tested.{is_closed, ends_proof}
use Rattle.kn_laws.proofs.Rounds.{worth-below}

Decides-id : (a b : Id) → Decides (is_same_id a b) (a ≡ b)
Decides-id (Shared a) (Shared b) = (λ e. ap Shared (eqb-true a b e), λ e. eq-eqb a b (cc))
Decides-id (Shared a) (Private b) = (λ e. absurd (cc), λ e. absurd (cc))
Decides-id (Private a) (Shared b) = (λ e. absurd (cc), λ e. absurd (cc))
Decides-id (Private a) (Private b) = (λ e. ap Private (eqb-true a b e), λ e. eq-eqb a b (cc))

-- texts are compared alike from both sides
bytes_eq-turned : (x y : List ℕ) → bytes_eq x y ≡ bytes_eq y x
bytes_eq-turned x y =
    same_from_decides (bytes_eq x y) (bytes_eq y x) (bytes_eq-Decides x y) (
      (λ e. sym ((bytes_eq-Decides y x).0 e)),
      (λ e. (bytes_eq-Decides y x).1 (sym e)),
    )

-- a test that decides finds one that it decides
Decides-any : {A : Type 0} (p : A → Bool) (P : A → Type 0) → ((x : A) → Decides (p x) (P x)) → (xs : List A)
    → Decides (list_any p xs) (Any P xs)
Decides-any p P each xs = (λ e. found (Any-from_list_any p xs e), λ any. list_any-from_Any p xs (passes any))
  where
    found : Any (λ x. p x ≡ true) xs → Any P xs
    found (k, x, within, is, h) = (k, x, within, is, (each x).0 h)

    passes : Any P xs → Any (λ x. p x ≡ true) xs
    passes (k, x, within, is, h) = (k, x, within, is, (each x).1 h)

pub All-cons : {A : Type 0} (P : A → Type 0) (x : A) (xs : List A) → P x → All P xs → All P (x ∷ xs)
All-cons P x xs first rest zero d l = first
All-cons P x xs first rest (suc i) d l = rest i d (omega arith)

-- and so it is passed by all exactly where it holds of all
Decides-all : {A : Type 0} (p : A → Bool) (P : A → Type 0) → ((x : A) → Decides (p x) (P x)) → (xs : List A)
    → Decides (list_all p xs) (All P xs)
Decides-all p P each [] = (λ e i d l. absurd (omega arith), λ all. refl)
Decides-all p P each (x ∷ xs) =
    let rest = Decides-all p P each xs in (
      (λ e. let both = and_parts (p x) (list_all p xs) e in All-cons P x xs ((each x).0 both.0) (rest.0 both.1)),
      (λ all. and_from (p x) (list_all p xs) ((each x).1 (all 0 x (omega arith)))
          (rest.1 (λ i d l. all (suc i) d (omega arith)))),
    )

-- the table gives each principal the level that the rows before give it, and has an entry for whom they name
record Stands (e : Equations) (table : List Level) (before : List NamedRow) : Type 0 where
  level : (name : List ℕ) → level_in table name ≡ levels_by e before name
  entry : (name : List ℕ)
      → has_entry table name ≡ (is_requester e name || list_any (λ r. bytes_eq r.principal name) before)

level_in-requesters : (top : ℕ) (requesters : List (List ℕ)) (name : List ℕ)
    → level_in (entries_of top requesters) name ≡ cond (list_any (bytes_eq name) requesters) top 0
level_in-requesters top [] name = refl
level_in-requesters top (r ∷ rs) name =
    ap (λ t. cond t top (level_in (entries_of top rs) name)) (bytes_eq-turned r name)
    ∙ ap (cond (bytes_eq name r) top) (level_in-requesters top rs name)
    ∙ by (bytes_eq name r)
  where
    by : (t : Bool) → cond t top (cond (list_any (bytes_eq name) rs) top 0)
        ≡ cond (t || list_any (bytes_eq name) rs) top 0
    by true = refl
    by false = refl

has_entry-requesters : (top : ℕ) (requesters : List (List ℕ)) (name : List ℕ)
    → has_entry (entries_of top requesters) name ≡ list_any (bytes_eq name) requesters
has_entry-requesters top [] name = refl
has_entry-requesters top (r ∷ rs) name =
    ap (λ t. t || has_entry (entries_of top rs) name) (bytes_eq-turned r name)
    ∙ ap (λ t. bytes_eq name r || t) (has_entry-requesters top rs name)

or-false : (a : Bool) → (a || false) ≡ a
or-false true = refl
or-false false = refl

stands-first : (e : Equations) → Stands e (entries_of e.top e.requesters) []
stands-first e = record {
  level = level_in-requesters e.top e.requesters;
  entry = λ name. has_entry-requesters e.top e.requesters name ∙ sym (or-false (is_requester e name));
}

level_in-push : (table : List Level) (x : Level) (name : List ℕ)
    → level_in (table ++ x ∷ []) name
    ≡ cond (has_entry table name) (level_in table name) (cond (bytes_eq x.name name) x.level 0)
level_in-push [] x name = refl
level_in-push (y ∷ table) x name = ap (cond (bytes_eq y.name name) y.level) (level_in-push table x name)
    ∙ by (bytes_eq y.name name)
  where
    by : (t : Bool) → cond t y.level
        (cond (has_entry table name) (level_in table name) (cond (bytes_eq x.name name) x.level 0))
        ≡ cond (t || has_entry table name) (cond t y.level (level_in table name))
        (cond (bytes_eq x.name name) x.level 0)
    by true = refl
    by false = refl

pub row_level-push : (rows : List NamedRow) (row : NamedRow) (name : List ℕ)
    → row_level (rows ++ row ∷ []) name ≡ cond (list_any (λ r. bytes_eq r.principal name) rows) (row_level rows name)
    (cond (bytes_eq row.principal name) row.value 0)
row_level-push [] row name = refl
row_level-push (r ∷ rows) row name = ap (cond (bytes_eq r.principal name) r.value) (row_level-push rows row name)
    ∙ by (bytes_eq r.principal name)
  where
    by : (t : Bool) → cond t r.value
        (cond (list_any (λ x. bytes_eq x.principal name) rows) (row_level rows name)
        (cond (bytes_eq row.principal name) row.value 0))
        ≡ cond (t || list_any (λ x. bytes_eq x.principal name) rows) (cond t r.value (row_level rows name))
        (cond (bytes_eq row.principal name) row.value 0)
    by true = refl
    by false = refl

or-assoc : (a b c : Bool) → ((a || b) || c) ≡ (a || (b || c))
or-assoc true b c = refl
or-assoc false b c = refl

-- one row more in both
stands-next : (e : Equations) (table : List Level) (before : List NamedRow) (row : NamedRow) → Stands e table before
    → Stands e (with_row table row) (before ++ row ∷ [])
stands-next e table before row stands = record { level = level; entry = entry }
  where
    named : List ℕ → Bool
    named name = list_any (λ r. bytes_eq r.principal name) before

    by : (requester earlier : Bool) (before_level last : ℕ)
        → cond (requester || earlier) (cond requester e.top before_level) last
        ≡ cond requester e.top (cond earlier before_level last)
    by true earlier before_level last = refl
    by false earlier before_level last = refl

    level : (name : List ℕ) → level_in (with_row table row) name ≡ levels_by e (before ++ row ∷ []) name
    level name =
        level_in-push table (entry_of row.principal row.value) name
        ∙ ap (λ t. cond t (level_in table name) (cond (bytes_eq row.principal name) row.value 0)) (stands.entry name)
        ∙ ap (λ n. cond (is_requester e name || list_any (λ r. bytes_eq r.principal name) before) n
        (cond (bytes_eq row.principal name) row.value 0)) (stands.level name)
        ∙ by (is_requester e name) (list_any (λ r. bytes_eq r.principal name) before) (row_level before name)
        (cond (bytes_eq row.principal name) row.value 0)
        ∙ ap (cond (is_requester e name) e.top) (sym (row_level-push before row name))

    entry : (name : List ℕ)
        → has_entry (with_row table row) name
        ≡ (is_requester e name || list_any (λ r. bytes_eq r.principal name) (before ++ row ∷ []))
    entry name =
        list_any-append (λ (x : Level). bytes_eq x.name name) table (entry_of row.principal row.value ∷ [])
        ∙ ap (λ t. t || (bytes_eq row.principal name || false)) (stands.entry name)
        ∙ or-assoc (is_requester e name) (list_any (λ r. bytes_eq r.principal name) before)
        (bytes_eq row.principal name || false)
        ∙ ap (λ t. is_requester e name || t)
        (sym (list_any-append (λ (r : NamedRow). bytes_eq r.principal name) before (row ∷ [])))

-- the same levels make an assertion worth the same
worth-same : (top : ℕ) (at other : Levels) → ((name : List ℕ) → at name ≡ other name) → (s : Statement)
    → worth top at s ≡ worth top other s
worth-same top at other same s =
    let below = worth-below top at other (λ name. let is = same name in omega arith) s in
    let above = worth-below top other at (λ name. let is = same name in omega arith) s in
    omega arith

module _ (e : Equations) where
  Decides-supports : (table : List Level) (before : List NamedRow) → Stands e table before
      → (row : NamedRow) (s : Statement)
      → Decides (supports e.top (level_in table) row s) (Supports e (levels_by e before) row s)
  Decides-supports table before stands row s = (to, from)
    where
      same : worth e.top (level_in table) s ≡ worth e.top (levels_by e before) s
      same = worth-same e.top (level_in table) (levels_by e before) stands.level s

      to : supports e.top (level_in table) row s ≡ true → Supports e (levels_by e before) row s
      to h =
          let both = and_parts (is_same_id s.id row.id) (bytes_eq s.authorizer row.principal
          && nat_le row.value (worth e.top (level_in table) s)) h in
          let rest = and_parts (bytes_eq s.authorizer row.principal) (nat_le row.value (worth e.top (level_in table) s))
          both.1 in
          let enough = leb-true row.value (worth e.top (level_in table) s) rest.1 in
          let is = same in
          record {
            named = (Decides-id s.id row.id).0 both.0;
            own = (bytes_eq-Decides s.authorizer row.principal).0 rest.0;
            enough = omega arith;
          }

      from : Supports e (levels_by e before) row s → supports e.top (level_in table) row s ≡ true
      from h =
          let enough = h.enough in
          let is = same in
          and_from (is_same_id s.id row.id) (bytes_eq s.authorizer row.principal
          && nat_le row.value (worth e.top (level_in table) s)) ((Decides-id s.id row.id).1 h.named)
          (and_from (bytes_eq s.authorizer row.principal) (nat_le row.value (worth e.top (level_in table) s))
          ((bytes_eq-Decides s.authorizer row.principal).1 h.own)
          (le-leb row.value (worth e.top (level_in table) s) (omega arith)))

  Decides-row : (table : List Level) (before : List NamedRow) → Stands e table before → (row : NamedRow)
      → Decides (may_follow e.top e.statements table row) (IsRow e before row)
  Decides-row table before stands row = (to, from)
    where
      stated : Bool
      stated = list_any (supports e.top (level_in table) row) e.statements

      any : Decides (list_any (supports e.top (level_in table) row) e.statements)
          (Any (Supports e (levels_by e before) row) e.statements)
      any = Decides-any (supports e.top (level_in table) row) (Supports e (levels_by e before) row)
          (Decides-supports table before stands row) e.statements

      to : may_follow e.top e.statements table row ≡ true → IsRow e before row
      to h =
          let both = and_parts (not (has_entry table row.principal)) ((nat_le 1 row.value && nat_le row.value e.top)
          && list_any (supports e.top (level_in table) row) e.statements) h in
          let rest = and_parts (nat_le 1 row.value && nat_le row.value e.top)
          (list_any (supports e.top (level_in table) row) e.statements) both.1 in
          let levels = and_parts (nat_le 1 row.value) (nat_le row.value e.top) rest.0 in
          let none = or_parts (is_requester e row.principal) (list_any (λ r. bytes_eq r.principal row.principal) before)
          (sym (stands.entry row.principal) ∙ not-true (has_entry table row.principal) both.0) in
          record {
            other = none.0;
            fresh = none.1;
            above_lowest = leb-true 1 row.value levels.0;
            within = leb-true row.value e.top levels.1;
            supported = any.0 rest.1;
          }

      from : IsRow e before row → may_follow e.top e.statements table row ≡ true
      from h =
          let none : has_entry table row.principal ≡ false = stands.entry row.principal
          ∙ or_from (is_requester e row.principal) (list_any (λ r. bytes_eq r.principal row.principal) before)
          h.other h.fresh in
          and_from (not (has_entry table row.principal)) ((nat_le 1 row.value && nat_le row.value e.top)
          && list_any (supports e.top (level_in table) row) e.statements)
          (not_from_false (has_entry table row.principal) none)
          (and_from (nat_le 1 row.value && nat_le row.value e.top)
          (list_any (supports e.top (level_in table) row) e.statements)
          (and_from (nat_le 1 row.value) (nat_le row.value e.top) (le-leb 1 row.value h.above_lowest)
          (le-leb row.value e.top h.within)) (any.1 h.supported))

  Decides-rows : (table : List Level) (before : List NamedRow) → Stands e table before → (rows : List NamedRow)
      → Decides (all_follow e.top e.statements table rows) (AreRows e before rows)
  Decides-rows table before stands [] = (λ h. tt, λ h. refl)
  Decides-rows table before stands (row ∷ rows) =
      let first = Decides-row table before stands row in
      let next = stands-next e table before row stands in
      let rest = Decides-rows (with_row table row) (before ++ row ∷ []) next rows in (
        (λ h. let both =
            and_parts (may_follow e.top e.statements table row)
            (all_follow e.top e.statements (with_row table row) rows) h in (first.0 both.0, rest.0 both.1)),
        (λ are. and_from (may_follow e.top e.statements table row)
            (all_follow e.top e.statements (with_row table row) rows) (first.1 are.0) (rest.1 are.1)),
      )

  stands-after : (table : List Level) (before rows : List NamedRow) → Stands e table before
      → Stands e (table_after table rows) (before ++ rows)
  stands-after table before [] stands = subst (Stands e table) (sym (append-nil before)) stands
  stands-after table before (row ∷ rows) stands =
      subst (Stands e (table_after (with_row table row) rows)) (append_assoc before (row ∷ []) rows)
      (stands-after (with_row table row) (before ++ row ∷ []) rows (stands-next e table before row stands))

  Decides-closed : (table : List Level) (rows : List NamedRow) → Stands e table rows
      → Decides (is_closed e.top e.statements table) (IsClosed e (levels_by e rows))
  Decides-closed table rows stands =
      Decides-all (is_settled e.top (level_in table)) (λ s. worth e.top (levels_by e rows) s
      ≤ levels_by e rows s.authorizer) each e.statements
    where
      each : (s : Statement)
          → Decides (is_settled e.top (level_in table) s) (worth e.top (levels_by e rows) s
          ≤ levels_by e rows s.authorizer)
      each s =
          let same = worth-same e.top (level_in table) (levels_by e rows) stands.level s in
          let level = stands.level s.authorizer in (
            (λ h. let le = leb-true (worth e.top (level_in table) s) (level_in table s.authorizer) h in omega arith),
            (λ h. le-leb (worth e.top (level_in table) s) (level_in table s.authorizer) (omega arith)),
          )

  Decides-proof : (rows : List NamedRow) (level : ℕ)
      → Decides (ends_proof e.top e.statements (entries_of e.top e.requesters) rows level) (IsProof e rows level)
  Decides-proof rows level = (to, from)
    where
      first : List Level
      first = entries_of e.top e.requesters

      in_order : Decides (all_follow e.top e.statements (entries_of e.top e.requesters) rows) (AreRows e [] rows)
      in_order = Decides-rows (entries_of e.top e.requesters) [] (stands-first e) rows

      stands : Stands e (table_after (entries_of e.top e.requesters) rows) rows
      stands = stands-after (entries_of e.top e.requesters) [] rows (stands-first e)

      closed : Decides (is_closed e.top e.statements (table_after (entries_of e.top e.requesters) rows))
          (IsClosed e (levels_by e rows))
      closed = Decides-closed (table_after (entries_of e.top e.requesters) rows) rows stands

      to : ends_proof e.top e.statements (entries_of e.top e.requesters) rows level ≡ true → IsProof e rows level
      to h =
          let last : List Level = table_after (entries_of e.top e.requesters) rows in
          let both = and_parts (all_follow e.top e.statements (entries_of e.top e.requesters) rows)
          (is_closed e.top e.statements last && (level_in last policy == level)) h in
          let rest = and_parts (is_closed e.top e.statements last) (level_in last policy == level) both.1 in
          record {
            in_order = in_order.0 both.0;
            closed = closed.0 rest.0;
            claim = sym (stands.level policy) ∙ eqb-true (level_in last policy) level rest.1;
          }

      from : IsProof e rows level → ends_proof e.top e.statements (entries_of e.top e.requesters) rows level ≡ true
      from h =
          let last : List Level = table_after (entries_of e.top e.requesters) rows in
          and_from (all_follow e.top e.statements (entries_of e.top e.requesters) rows)
          (is_closed e.top e.statements last && (level_in last policy == level)) (in_order.1 h.in_order)
          (and_from (is_closed e.top e.statements last) (level_in last policy == level) (closed.1 h.closed)
          (eq-eqb (level_in last policy) level (stands.level policy ∙ h.claim)))

pub ends_proof-Decides : (top : ℕ) (requesters : List (List ℕ)) (stated : List Stated) (rows : List NamedRow)
    (level : ℕ) (found : Bool)
    → found ≡ ends_proof top (map statement_in stated) (entries_of top requesters) rows level
    → Decides found (IsProof (equations_from top requesters stated) rows level)
ends_proof-Decides top requesters stated rows level found is =
    Decides-at found (ends_proof top (map statement_in stated) (entries_of top requesters) rows level) is
    (Decides-proof (equations_from top requesters stated) rows level)
