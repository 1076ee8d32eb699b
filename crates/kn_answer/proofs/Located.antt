-- Rows by numbers are a proof in the system of a query exactly where the rows by names are one of the query.
use Rattle.std.proofs.Common.{◌≡◌, ℕ, ◌+◌, ◌-◌, ◌^◌, ◌<◌, ◌≤◌, true, false, cond, List, [], ◌∷◌, ◌++◌, slice_get}
use Rattle.std.proofs.Common.{slice_index_or, slice_set, length, Some, inl, inr, sym, ap, ◌∙◌, subst, arith}
use Rattle.std.proofs.lemmas.List.{append-nil, append_assoc}
use Rattle.std.proofs.lemmas.Option.{slice_get_within, slice_get-get_or}
use Rattle.kn_principal.specs.Principals.{policy}
use Rattle.kn_proof.specs.declared.named.NamedRow.{NamedRow}
use Rattle.kn_proof.specs.declared.row.Row.{Row as ProofRow}
use Rattle.kn_meaning.specs.Equations.{Equations, Statement, is_requester}
use Rattle.kn_meaning.specs.Equations as named
use Rattle.kn_meaning.specs.Proofs.{row_level, levels_by, Supports, IsRow, AreRows}
use Rattle.kn_meaning.specs.Proofs as proof
use Rattle.kn_system.specs.Equations.{row_at}
use Rattle.kn_system.specs.Least.{worth, at_first}
use Rattle.kn_system.specs.Proofs.{levels_after, IsStep, AreSteps, IsProof}
use Rattle.kn_rows.specs.Numbering.{IsNumber, AreDistinct}
use Rattle.kn_rows.proofs.NewNames.{AreNumbered-length}
use Rattle.kn_answer.specs.Built.{Interned}
use Rattle.kn_answer.specs.Located.{IsFound, IsLocated, AreLocated}
use Rattle.kn_answer.proofs.ProofLevels.{row_level-none, row_level-zero, HaveFollowed, HaveFollowed-none}
use Rattle.kn_answer.proofs.ProofLevels.{HaveFollowed-row}
use Rattle.kn_answer.proofs.StatementRows.{IsStated, IsAt, at-statement, at-row, worth-at, flag-at, rows-few}
use Rattle.kn_answer.proofs.StatementRows.{closed-named, closed-numbered}

-- a number in range is that of the item
pub found-within : {A : Type 0} (items : List A) (item : A) (p : ℕ) → IsFound items item p → p < 2 ^ 32 - 1
    → IsNumber items item p
found-within items item p (inl number) within = number
found-within items item p (inr none) within = absurd (omega (arith, none.1))

-- an item that has a number is found
pub found-there : {A : Type 0} (items : List A) (item : A) (p q : ℕ) → IsFound items item p → IsNumber items item q
    → IsNumber items item p
found-there items item p q (inl number) there = number
found-there items item p q (inr none) there = absurd (none.0 q there)

-- a step by numbers is a row that may follow by names
step-named : (e : Equations) (built : Interned) → IsStated e built → (before : List NamedRow) (levels : List ℕ)
    → HaveFollowed e built.names before levels
    → (named_row : NamedRow) (row : ProofRow) → IsLocated built named_row row → IsStep built.system levels row
    → IsRow e before named_row
step-named e built is before levels followed named_row row located step =
    let few : length built.system.requesters ≤ 2 ^ 24 = is.well_formed.principals_fit.1 in
    let few_rows : length built.system.rows < 2 ^ 24 = rows-few built.system is.well_formed in
    let number : IsNumber built.names named_row.principal row.principal =
    found-within built.names named_row.principal row.principal located.principal (omega (arith, step.principal)) in
    let by : IsNumber built.ids named_row.id row.by =
    found-within built.ids named_row.id row.by located.by (omega (arith, step.named)) in
    let flag : slice_index_or built.system.requesters row.principal true ≡ is_requester e named_row.principal =
    flag-at e.requesters built.names built.system.requesters (is_requester e) is.of.numbered.flagged
    named_row.principal row.principal number in
    let other : is_requester e named_row.principal ≡ false = sym flag ∙ step.other in
    let none : row_level before named_row.principal ≡ 0 =
    sym (ap (λ b. cond b e.top (row_level before named_row.principal)) other)
    ∙ sym (followed.have row.principal named_row.principal number) ∙ step.fresh in
    let s : Statement = (at-row e built is row.by step.named).0 in
    let here : IsAt e built row.by s = (at-row e built is row.by step.named).1 in
    let value : worth (built.system.levels - 1) levels (row_at built.system.rows row.by)
    ≡ named.worth e.top (levels_by e before) s =
    worth-at e built is (levels_by e before) levels followed.have row.by s here in
    let level : row.value ≡ named_row.value = located.level in
    let top : built.system.levels ≡ e.top + 1 = is.of.top in
    let ids : Some s.id ≡ Some named_row.id = sym here.id ∙ by in
    let owners : Some s.authorizer ≡ Some named_row.principal = sym here.row.authorizer
    ∙ ap (slice_get built.names) step.own ∙ number in
    record {
      other = other;
      fresh = row_level-zero before named_row.principal followed.above none;
      above_lowest = omega (arith, step.positive);
      within = omega (arith, step.level);
      supported = (
        row.by,
        s,
        here.listed,
        here.here,
        record {
          named = cc;
          own = cc;
          enough = omega (arith, step.supported);
        },
      );
    }

-- the number of a row's principal
number-of : (e : Equations) (built : Interned) → IsStated e built
    → (before : List NamedRow) (named_row : NamedRow) (row : ProofRow) → IsLocated built named_row row
    → IsRow e before named_row → IsNumber built.names named_row.principal row.principal
number-of e built is before named_row row located follows =
    let i : ℕ = follows.supported.0 in
    let s : Statement = follows.supported.1 in
    let supports : Supports e (levels_by e before) named_row s = follows.supported.4 in
    let there : slice_get e.statements i ≡ Some s = slice_get-get_or e.statements i s follows.supported.2
    ∙ ap Some follows.supported.3 in
    let here : IsAt e built i s = at-statement e built is i s there in
    found-there built.names named_row.principal row.principal (row_at built.system.rows i).authorizer located.principal
    (here.row.authorizer ∙ ap Some supports.own)

-- a row that may follow by names is a step by numbers
row-numbered : (e : Equations) (built : Interned) → IsStated e built → AreDistinct built.ids
    → (before : List NamedRow) (levels : List ℕ) → HaveFollowed e built.names before levels
    → (named_row : NamedRow) (row : ProofRow) → IsLocated built named_row row → IsRow e before named_row
    → IsStep built.system levels row
row-numbered e built is differ before levels followed named_row row located follows =
    let i : ℕ = follows.supported.0 in
    let s : Statement = follows.supported.1 in
    let supports : Supports e (levels_by e before) named_row s = follows.supported.4 in
    let there : slice_get e.statements i ≡ Some s = slice_get-get_or e.statements i s follows.supported.2
    ∙ ap Some follows.supported.3 in
    let here : IsAt e built i s = at-statement e built is i s there in
    let number : IsNumber built.names named_row.principal row.principal =
    number-of e built is before named_row row located follows in
    let owner : IsNumber built.names named_row.principal (row_at built.system.rows i).authorizer = here.row.authorizer
    ∙ ap Some supports.own in
    let id : IsNumber built.ids named_row.id i = here.id ∙ ap Some supports.named in
    let by : row.by ≡ i = differ row.by i named_row.id (found-there built.ids named_row.id row.by i located.by id) id in
    let own : (row_at built.system.rows i).authorizer ≡ row.principal =
    is.of.numbered.distinct (row_at built.system.rows i).authorizer row.principal named_row.principal owner
    number in
    let flag : slice_index_or built.system.requesters row.principal true ≡ is_requester e named_row.principal =
    flag-at e.requesters built.names built.system.requesters (is_requester e) is.of.numbered.flagged
    named_row.principal row.principal number in
    let each : length built.names ≡ length built.system.requesters =
    AreNumbered-length e.requesters built.names built.system.requesters is.of.numbered in
    let in_range : row.principal < length built.names =
    slice_get_within built.names row.principal named_row.principal number in
    let value : worth (built.system.levels - 1) levels (row_at built.system.rows i)
    ≡ named.worth e.top (levels_by e before) s =
    worth-at e built is (levels_by e before) levels followed.have i s here in
    let level : row.value ≡ named_row.value = located.level in
    let top : built.system.levels ≡ e.top + 1 = is.of.top in
    let enough : row.value ≤ worth (built.system.levels - 1) levels (row_at built.system.rows i) =
    omega (arith, supports.enough) in
    record {
      principal = omega arith;
      named = omega (arith, here.within);
      level = omega (arith, follows.within);
      other = flag ∙ follows.other;
      fresh = followed.have row.principal named_row.principal number
          ∙ ap (λ b. cond b e.top (row_level before named_row.principal)) follows.other
          ∙ row_level-none before named_row.principal follows.fresh;
      positive = omega (arith, follows.above_lowest);
      own = ap (λ j. (row_at built.system.rows j).authorizer) by ∙ own;
      supported = subst (λ j. row.value ≤ worth (built.system.levels - 1) levels (row_at built.system.rows j)) (sym by)
          enough;
    }

-- the levels after a row are the same by number and by name
followed-more : (e : Equations) (built : Interned) → IsStated e built → (before : List NamedRow) (levels : List ℕ)
    → HaveFollowed e built.names before levels
    → (named_row : NamedRow) (row : ProofRow) → IsLocated built named_row row → IsRow e before named_row
    → HaveFollowed e built.names (before ++ named_row ∷ []) (slice_set levels row.principal row.value)
followed-more e built is before levels followed named_row row located follows =
    subst (λ v. HaveFollowed e built.names (before ++ named_row ∷ []) (slice_set levels row.principal v))
    (sym located.level)
    (HaveFollowed-row e built.names is.of.numbered.distinct before levels followed named_row row.principal
    (number-of e built is before named_row row located follows) follows.other follows.fresh follows.above_lowest)

-- What holds after rows that may follow these.
pub record IsFollowed (e : Equations) (built : Interned) (before : List NamedRow) (levels : List ℕ)
    (rows : List NamedRow) (located : List ProofRow) : Type 0 where
  pub in_order : AreRows e before rows
  pub steps : AreSteps built.system levels located
  pub after : HaveFollowed e built.names (before ++ rows) (levels_after levels located)

IsFollowed-none : (e : Equations) (built : Interned) (before : List NamedRow) (levels : List ℕ)
    → HaveFollowed e built.names before levels → IsFollowed e built before levels [] []
IsFollowed-none e built before levels followed = record {
  in_order = tt;
  steps = tt;
  after = subst (λ xs. HaveFollowed e built.names xs levels) (sym (append-nil before)) followed;
}

IsFollowed-more : (e : Equations) (built : Interned) (before : List NamedRow) (levels : List ℕ) (named_row : NamedRow)
    (row : ProofRow) (rows : List NamedRow) (located : List ProofRow)
    → IsRow e before named_row → IsStep built.system levels row
    → IsFollowed e built (before ++ named_row ∷ []) (slice_set levels row.principal row.value) rows located
    → IsFollowed e built before levels (named_row ∷ rows) (row ∷ located)
IsFollowed-more e built before levels named_row row rows located follows step rest = record {
  in_order = (follows, rest.in_order);
  steps = (step, rest.steps);
  after = subst (λ xs. HaveFollowed e built.names xs (levels_after levels (row ∷ located)))
      (append_assoc before (named_row ∷ []) rows) rest.after;
}

-- steps by numbers are rows by names
pub steps-named : (e : Equations) (built : Interned) → IsStated e built → (before : List NamedRow) (levels : List ℕ)
    → HaveFollowed e built.names before levels
    → (rows : List NamedRow) (located : List ProofRow) → AreLocated built rows located
    → AreSteps built.system levels located → IsFollowed e built before levels rows located
steps-named e built is before levels followed [] [] are steps = IsFollowed-none e built before levels followed
steps-named e built is before levels followed [] (row ∷ located) are steps = absurd are
steps-named e built is before levels followed (named_row ∷ rows) [] are steps = absurd are
steps-named e built is before levels followed (named_row ∷ rows) (row ∷ located) are steps =
    let follows : IsRow e before named_row = step-named e built is before levels followed named_row row are.0 steps.0 in
    let next = followed-more e built is before levels followed named_row row are.0 follows in
    IsFollowed-more e built before levels named_row row rows located follows steps.0
    (steps-named e built is (before ++ named_row ∷ []) (slice_set levels row.principal row.value) next rows located
    are.1 steps.1)

-- rows by names are steps by numbers
rows-numbered : (e : Equations) (built : Interned) → IsStated e built → AreDistinct built.ids
    → (before : List NamedRow) (levels : List ℕ) → HaveFollowed e built.names before levels
    → (rows : List NamedRow) (located : List ProofRow) → AreLocated built rows located → AreRows e before rows
    → IsFollowed e built before levels rows located
rows-numbered e built is differ before levels followed [] [] are follow = IsFollowed-none e built before levels followed
rows-numbered e built is differ before levels followed [] (row ∷ located) are follow = absurd are
rows-numbered e built is differ before levels followed (named_row ∷ rows) [] are follow = absurd are
rows-numbered e built is differ before levels followed (named_row ∷ rows) (row ∷ located) are follow =
    let next = followed-more e built is before levels followed named_row row are.0 follow.0 in
    IsFollowed-more e built before levels named_row row rows located follow.0
    (row-numbered e built is differ before levels followed named_row row are.0 follow.0)
    (rows-numbered e built is differ (before ++ named_row ∷ []) (slice_set levels row.principal row.value) next rows
    located are.1 follow.1)

-- what is proved by numbers is proved by names
pub proof-named : (e : Equations) (built : Interned) → IsStated e built
    → (rows : List NamedRow) (located : List ProofRow) → AreLocated built rows located → (level : ℕ)
    → IsProof built.system located level → proof.IsProof e rows level
proof-named e built is rows located are level proves =
    let first = HaveFollowed-none e built.names built.system is.of in
    let all : IsFollowed e built [] (at_first built.system) rows located =
    steps-named e built is [] (at_first built.system) first rows located are proves.steps in
    let after : List ℕ = levels_after (at_first built.system) located in
    record {
      in_order = all.in_order;
      closed = closed-named e built is (levels_by e rows) after all.after.have proves.closed;
      claim = sym (all.after.have 0 policy is.of.numbered.first) ∙ proves.claim;
    }

-- and the other way round, where the ids differ
pub proof-numbered : (e : Equations) (built : Interned) → IsStated e built → AreDistinct built.ids
    → (rows : List NamedRow) (located : List ProofRow) → AreLocated built rows located → (level : ℕ)
    → proof.IsProof e rows level → IsProof built.system located level
proof-numbered e built is differ rows located are level proves =
    let first = HaveFollowed-none e built.names built.system is.of in
    let all : IsFollowed e built [] (at_first built.system) rows located =
    rows-numbered e built is differ [] (at_first built.system) first rows located are proves.in_order in
    let after : List ℕ = levels_after (at_first built.system) located in
    record {
      steps = all.steps;
      closed = closed-numbered e built is (levels_by e rows) after all.after.have proves.closed;
      claim = all.after.have 0 policy is.of.numbered.first ∙ proves.claim;
    }
