-- Why rows by numbers are no proof in the system of a query says why the rows by names are none.
use Rattle.std.proofs.Common.{◌≡◌, ◌≢◌, ℕ, suc, zero, ◌+◌, ◌^◌, ◌<◌, ◌≤◌, Bool, true, false, cond, List, [], ◌∷◌}
use Rattle.std.proofs.Common.{slice_get, slice_index, slice_index_or, get_or, length, take, Some, refl, sym, ap, ◌∙◌}
use Rattle.std.proofs.Common.{subst, arith}
use Rattle.std.specs.List.{list_any}
use Rattle.std.specs.Str.{bytes_eq}
use Rattle.std.proofs.lemmas.List.{length-map, length-take-le, get_or-take}
use Rattle.std.proofs.lemmas.Option.{slice_get_within, slice_get-get_or}
use Rattle.kn_principal.specs.Principals.{policy}
use Rattle.kn_proof.specs.declared.named.NamedRow.{NamedRow}
use Rattle.kn_proof.specs.declared.row.Row.{Row}
use Rattle.kn_check.specs.declared.reject.Reject.{Reject}
use Rattle.kn_check.specs.declared.reject.Reject.TheVariants.{Range, Requester, Again, Zero, Foreign, Unsupported}
use Rattle.kn_check.specs.declared.reject.Reject.TheVariants.{Unclosed, Claim}
use Rattle.kn_check.specs.Rejects.{proof_row_at}
use Rattle.kn_check.specs.Rejects as numbered
use Rattle.kn_system.specs.Equations.{row_at}
use Rattle.kn_system.specs.Least.{at_first}
use Rattle.kn_system.specs.Proofs.{levels_after}
use Rattle.kn_meaning.specs.Formulas.{Levels}
use Rattle.kn_meaning.specs.Equations.{Equations, Statement, is_requester}
use Rattle.kn_meaning.specs.Equations as named
use Rattle.kn_meaning.specs.Proofs.{row_level, levels_by}
use Rattle.kn_rows.specs.Numbering.{IsNumber, HaveLevels}
use Rattle.kn_rows.proofs.NewNames.{AreNumbered-length}
use Rattle.kn_answer.specs.Built.{Interned, IsBuilt}
use Rattle.kn_answer.specs.Located.{IsLocated, AreLocated}
use Rattle.kn_answer.proofs.StatementRows.{IsAt, IsBuilt-stated, at-statement, at-row, worth-at, flag-at, rows-few}
use Rattle.kn_answer.proofs.StatementRows.{length-rows, closed-named}
use Rattle.kn_answer.proofs.ProofLevels.{row_level-none, row_level-zero, HaveFollowed, HaveFollowed-none}
use Rattle.kn_answer.proofs.Located.{found-within, found-there, IsFollowed, steps-named}
use Rattle.kn_verify.specs.Rejections.{IsNamedInRange, NamesOther, NamesFresh, NamesRaised, IsNamedRowReject}
use Rattle.kn_verify.specs.Rejections.{IsNamedRowFault, IsNamedUnclosed, IsRejected}

-- a row by names, which stands where a row by numbers does
record IsNamed (built : Interned) (rows : List NamedRow) (k : ℕ) (row : Row) : Type 0 where
  named_row : NamedRow
  here : slice_get rows k ≡ Some named_row
  located : IsLocated built named_row row

located-at : (built : Interned) (rows : List NamedRow) (located : List Row) → AreLocated built rows located → (k : ℕ)
    → k < length located → IsNamed built rows k (proof_row_at located k)
located-at built [] [] are k l = absurd (omega arith)
located-at built [] (row ∷ located) are k l = absurd are
located-at built (named_row ∷ rows) [] are k l = absurd are
located-at built (named_row ∷ rows) (row ∷ located) are zero l =
    record { named_row = named_row; here = refl; located = are.0 }
located-at built (named_row ∷ rows) (row ∷ located) are (suc k) l =
    let rest : IsNamed built rows k (proof_row_at located k) = located-at built rows located are.1 k (omega arith) in
    record { named_row = rest.named_row; here = rest.here; located = rest.located }

located-take : (built : Interned) (rows : List NamedRow) (located : List Row) → AreLocated built rows located → (k : ℕ)
    → AreLocated built (take k rows) (take k located)
located-take built rows located are zero = tt
located-take built [] [] are (suc k) = tt
located-take built [] (row ∷ located) are (suc k) = absurd are
located-take built (named_row ∷ rows) [] are (suc k) = absurd are
located-take built (named_row ∷ rows) (row ∷ located) are (suc k) = (are.0, located-take built rows located are.1 k)

-- The numbers of a row are those of its principal and of its assertion.
record IsThere (e : Equations) (built : Interned) (named_row : NamedRow) (row : Row) : Type 0 where
  number : IsNumber built.names named_row.principal row.principal
  statement : Statement
  at : IsAt e built row.by statement
  id : statement.id ≡ named_row.id

is-there : (e : Equations) (built : Interned) → IsBuilt e built → (named_row : NamedRow) (row : Row)
    → IsLocated built named_row row → numbered.IsInRange built.system row → IsThere e built named_row row
is-there e built is named_row row located range =
    let few : length built.system.requesters ≤ 2 ^ 24 = is.well_formed.principals_fit.1 in
    let few_rows : length built.system.rows < 2 ^ 24 = rows-few built.system is.well_formed in
    let by : IsNumber built.ids named_row.id row.by =
    found-within built.ids named_row.id row.by located.by (omega (arith, range.named)) in
    let s : Statement = (at-row e built (IsBuilt-stated e built is) row.by range.named).0 in
    let here : IsAt e built row.by s = (at-row e built (IsBuilt-stated e built is) row.by range.named).1 in
    let ids : Some s.id ≡ Some named_row.id = sym here.id ∙ by in
    record {
      number = found-within built.names named_row.principal row.principal located.principal
          (omega (arith, range.principal));
      statement = s;
      at = here;
      id = cc;
    }

range-named : (e : Equations) (built : Interned) → IsBuilt e built → (named_row : NamedRow) (row : Row)
    → IsLocated built named_row row → numbered.IsInRange built.system row → IsNamedInRange e named_row
range-named e built is named_row row located range =
    let there : IsThere e built named_row row = is-there e built is named_row row located range in
    let top : built.system.levels ≡ e.top + 1 = is.of.top in
    let level : row.value ≡ named_row.value = located.level in
    record {
      principal = is.principals.only row.principal named_row.principal there.number;
      assertion = (row.by, there.statement, there.at.listed, there.at.here, there.id);
      level = omega (arith, range.level);
    }

range-numbered : (e : Equations) (built : Interned) → IsBuilt e built → (named_row : NamedRow) (row : Row)
    → IsLocated built named_row row → IsNamedInRange e named_row → numbered.IsInRange built.system row
range-numbered e built is named_row row located range =
    let p : (p : ℕ) × IsNumber built.names named_row.principal p =
    is.principals.all named_row.principal range.principal in
    let number : IsNumber built.names named_row.principal row.principal =
    found-there built.names named_row.principal row.principal p.0 located.principal p.1 in
    let in_names : row.principal < length built.names =
    slice_get_within built.names row.principal named_row.principal number in
    let each : length built.names ≡ length built.system.requesters =
    AreNumbered-length e.requesters built.names built.system.requesters is.of.numbered in
    let i : ℕ = range.assertion.0 in
    let s : Statement = range.assertion.1 in
    let here : IsAt e built i s =
    at-statement e built (IsBuilt-stated e built is) i s (slice_get-get_or e.statements i s range.assertion.2
    ∙ ap Some range.assertion.3) in
    let id : IsNumber built.ids named_row.id i = here.id ∙ ap Some range.assertion.4 in
    let by : IsNumber built.ids named_row.id row.by = found-there built.ids named_row.id row.by i located.by id in
    let in_ids : row.by < length built.ids = slice_get_within built.ids row.by named_row.id by in
    let count : length built.ids ≡ length e.statements = ap length is.ids ∙ simp length-map in
    let rows : length e.statements ≡ length built.system.rows =
    length-rows e.top built.names e.statements built.system.rows is.of.rows in
    let top : built.system.levels ≡ e.top + 1 = is.of.top in
    let level : row.value ≡ named_row.value = located.level in
    record {
      principal = omega arith;
      named = omega arith;
      level = omega (arith, range.level);
    }

-- a principal by its number is a requester where it is one by its name
flag-there : (e : Equations) (built : Interned) → IsBuilt e built → (named_row : NamedRow) (row : Row)
    → IsNumber built.names named_row.principal row.principal → slice_index_or built.system.requesters row.principal true
    ≡ is_requester e named_row.principal
flag-there e built is named_row row number =
    flag-at e.requesters built.names built.system.requesters (is_requester e) is.of.numbered.flagged named_row.principal
    row.principal number

other-named : (e : Equations) (built : Interned) → IsBuilt e built → (named_row : NamedRow) (row : Row)
    → IsLocated built named_row row → numbered.IsOther built.system row → NamesOther e named_row
other-named e built is named_row row located other = record {
  range = range-named e built is named_row row located other.range;
  other = sym (flag-there e built is named_row row (is-there e built is named_row row located other.range).number)
      ∙ other.other;
}

-- the level of a principal who is no requester is that of the rows before
level-before : (e : Equations) (built : Interned) → IsBuilt e built → (before : List NamedRow) (levels : List ℕ)
    → HaveFollowed e built.names before levels → (named_row : NamedRow) (row : Row)
    → IsNumber built.names named_row.principal row.principal → is_requester e named_row.principal ≡ false
    → slice_index levels row.principal ≡ row_level before named_row.principal
level-before e built is before levels followed named_row row number other =
    followed.have row.principal named_row.principal number
    ∙ ap (λ b. cond b e.top (row_level before named_row.principal)) other

fresh-named : (e : Equations) (built : Interned) → IsBuilt e built → (before : List NamedRow) (levels : List ℕ)
    → HaveFollowed e built.names before levels → (named_row : NamedRow) (row : Row)
    → IsLocated built named_row row → numbered.IsFresh built.system levels row → NamesFresh e before named_row
fresh-named e built is before levels followed named_row row located fresh =
    let other : NamesOther e named_row = other-named e built is named_row row located fresh.other in
    let there : IsThere e built named_row row = is-there e built is named_row row located fresh.other.range in
    record {
      other = other;
      fresh = row_level-zero before named_row.principal followed.above
          (sym (level-before e built is before levels followed named_row row there.number other.other) ∙ fresh.fresh);
    }

-- who has a level by the rows before stands in one of them
stands-in : (before : List NamedRow) (name : List ℕ) → 0 < row_level before name
    → list_any (λ r. bytes_eq r.principal name) before ≡ true
stands-in before name some = by (list_any (λ r. bytes_eq r.principal name) before) refl
  where
    by : (b : Bool) → list_any (λ r. bytes_eq r.principal name) before ≡ b
        → list_any (λ r. bytes_eq r.principal name) before ≡ true
    by true e = e
    by false e = let none : row_level before name ≡ 0 = row_level-none before name e in absurd (omega arith)

raised-named : (e : Equations) (built : Interned) → IsBuilt e built → (before : List NamedRow) (levels : List ℕ)
    → HaveFollowed e built.names before levels → (named_row : NamedRow) (row : Row)
    → IsLocated built named_row row → numbered.IsRaising built.system levels row → NamesRaised e before named_row
raised-named e built is before levels followed named_row row located raising = record {
  fresh = fresh-named e built is before levels followed named_row row located raising.fresh;
  above_lowest = let level : row.value ≡ named_row.value = located.level in omega (arith, raising.positive);
}

-- why a row by numbers may not follow says why the row by names may not
reason-named : (e : Equations) (built : Interned) → IsBuilt e built → (before : List NamedRow) (levels : List ℕ)
    → HaveFollowed e built.names before levels → (k : ℕ) (named_row : NamedRow) (row : Row)
    → IsLocated built named_row row → (reject : Reject) → numbered.IsRowReject built.system levels k row reject
    → IsNamedRowReject e before k named_row reject
reason-named e built is before levels followed k named_row row located (Range j) reason =
    (reason.0, λ range. reason.1 (range-numbered e built is named_row row located range))
reason-named e built is before levels followed k named_row row located (Requester j) reason = (
  reason.0,
  range-named e built is named_row row located reason.1,
  sym (flag-there e built is named_row row (is-there e built is named_row row located reason.1).number) ∙ reason.2,
)
reason-named e built is before levels followed k named_row row located (Again j) reason =
    let other : NamesOther e named_row = other-named e built is named_row row located reason.1 in
    let there : IsThere e built named_row row = is-there e built is named_row row located reason.1.range in
    let level : slice_index levels row.principal ≡ row_level before named_row.principal =
    level-before e built is before levels followed named_row row there.number other.other in
    let some : 0 < slice_index levels row.principal = reason.2 in
    (reason.0, other, stands-in before named_row.principal (omega arith))
reason-named e built is before levels followed k named_row row located (Zero j) reason = (
  reason.0,
  fresh-named e built is before levels followed named_row row located reason.1,
  sym located.level
      ∙ reason.2,
)
reason-named e built is before levels followed k named_row row located (Foreign j) reason =
    let there : IsThere e built named_row row = is-there e built is named_row row located reason.1.fresh.other.range in
    let s : Statement = there.statement in
    let another : s.authorizer ≢ named_row.principal =
    λ same. reason.2
    (is.of.numbered.distinct (row_at built.system.rows row.by).authorizer row.principal named_row.principal
    (there.at.row.authorizer ∙ ap Some same) there.number) in (
      reason.0,
      raised-named e built is before levels followed named_row row located reason.1,
      (row.by, s, there.at.listed, there.at.here, (there.id, another)),
    )
reason-named e built is before levels followed k named_row row located (Unsupported j found) reason =
    let own = reason.1 in
    let there : IsThere e built named_row row =
    is-there e built is named_row row located own.raising.fresh.other.range in
    let s : Statement = there.statement in
    let owners : Some s.authorizer ≡ Some named_row.principal = sym there.at.row.authorizer
    ∙ ap (slice_get built.names) own.own ∙ there.number in
    let level : row.value ≡ named_row.value = located.level in
    let less : found < row.value = reason.3 in (
      reason.0,
      raised-named e built is before levels followed named_row row located own.raising,
      (
        row.by,
        s,
        there.at.listed,
        there.at.here,
        record {
          named = there.id;
          own = cc;
          worth_found = reason.2
              ∙ worth-at e built (IsBuilt-stated e built is) (levels_by e before) levels followed.have row.by s
              there.at;
        },
      ),
      omega arith,
    )
reason-named e built is before levels followed k named_row row located (Unclosed i found) reason = absurd reason
reason-named e built is before levels followed k named_row row located (Claim found) reason = absurd reason

fault-named : (e : Equations) (built : Interned) → IsBuilt e built → (rows : List NamedRow) (located : List Row)
    → AreLocated built rows located → (reject : Reject) (k : ℕ) → numbered.IsRowFault built.system located reject k
    → IsNamedRowFault e rows reject
fault-named e built is rows located are reject k fault =
    let found : IsNamed built rows k (proof_row_at located k) = located-at built rows located are k fault.within in
    let front : IsFollowed e built [] (at_first built.system) (take k rows) (take k located) =
    steps-named e built (IsBuilt-stated e built is) [] (at_first built.system)
    (HaveFollowed-none e built.names built.system is.of) (take k rows) (take k located)
    (located-take built rows located are k) fault.before in
    record {
      k = k;
      row = found.named_row;
      here = found.here;
      before = front.in_order;
      reason = reason-named e built is (take k rows) (levels_after (at_first built.system) (take k located)) front.after
          k found.named_row (proof_row_at located k) found.located reject fault.reason;
    }

unclosed-named : (e : Equations) (built : Interned) → IsBuilt e built → (at : Levels) (levels : List ℕ)
    → HaveLevels built.names at levels → (i found : ℕ) → numbered.IsUnclosed built.system levels i found
    → IsNamedUnclosed e at i found
unclosed-named e built is at levels have i found unclosed =
    let s : Statement = (at-row e built (IsBuilt-stated e built is) i unclosed.within).0 in
    let here : IsAt e built i s = (at-row e built (IsBuilt-stated e built is) i unclosed.within).1 in
    let own : slice_index levels (row_at built.system.rows i).authorizer ≡ at s.authorizer =
    have (row_at built.system.rows i).authorizer s.authorizer here.row.authorizer in
    let more : slice_index levels (row_at built.system.rows i).authorizer < found = unclosed.more in
    record {
      statement = s;
      here = slice_get-get_or e.statements i s here.listed ∙ ap Some here.here;
      before = λ j d l. before here.listed j d l;
      worth_found = unclosed.worth ∙ worth-at e built (IsBuilt-stated e built is) at levels have i s here;
      more = omega arith;
    }
  where
    before : i < length e.statements → (j : ℕ) (d : Statement) → j < length (take i e.statements)
        → named.worth e.top at (get_or (take i e.statements) j d) ≤ at (get_or (take i e.statements) j d).authorizer
    before listed j d l =
        let count : length (take i e.statements) ≡ i = length-take-le i e.statements (omega arith) in
        let less : j < i = omega arith in
        let t : Statement = get_or e.statements j d in
        let there : IsAt e built j t =
        at-statement e built (IsBuilt-stated e built is) j t (slice_get-get_or e.statements j d (omega arith)) in
        let low = unclosed.before j less in
        let value = worth-at e built (IsBuilt-stated e built is) at levels have j t there in
        let own : slice_index levels (row_at built.system.rows j).authorizer ≡ at t.authorizer =
        have (row_at built.system.rows j).authorizer t.authorizer there.row.authorizer in
        let holds : named.worth e.top at t ≤ at t.authorizer = omega arith in
        subst (λ x. named.worth e.top at x ≤ at x.authorizer) (sym (get_or-take i e.statements j d less)) holds

-- the first item that fails is the same by names
pub rejected-named : (e : Equations) (built : Interned) → IsBuilt e built → (rows : List NamedRow) (located : List Row)
    → AreLocated built rows located → (level : ℕ) (reject : Reject)
    → numbered.IsReject built.system located level reject → IsRejected e rows level reject
rejected-named e built is rows located are level (Range j) rejects =
    fault-named e built is rows located are (Range j) rejects.0 rejects.1
rejected-named e built is rows located are level (Requester j) rejects =
    fault-named e built is rows located are (Requester j) rejects.0 rejects.1
rejected-named e built is rows located are level (Again j) rejects =
    fault-named e built is rows located are (Again j) rejects.0 rejects.1
rejected-named e built is rows located are level (Zero j) rejects =
    fault-named e built is rows located are (Zero j) rejects.0 rejects.1
rejected-named e built is rows located are level (Foreign j) rejects =
    fault-named e built is rows located are (Foreign j) rejects.0 rejects.1
rejected-named e built is rows located are level (Unsupported j found) rejects =
    fault-named e built is rows located are (Unsupported j found) rejects.0 rejects.1
rejected-named e built is rows located are level (Unclosed i found) rejects =
    let all : IsFollowed e built [] (at_first built.system) rows located =
    steps-named e built (IsBuilt-stated e built is) [] (at_first built.system)
    (HaveFollowed-none e built.names built.system is.of) rows located are rejects.0 in (
      all.in_order,
      unclosed-named e built is (levels_by e rows) (levels_after (at_first built.system) located)
          all.after.have i found rejects.1,
    )
rejected-named e built is rows located are level (Claim found) rejects =
    let all : IsFollowed e built [] (at_first built.system) rows located =
    steps-named e built (IsBuilt-stated e built is) [] (at_first built.system)
    (HaveFollowed-none e built.names built.system is.of) rows located are rejects.0 in (
      all.in_order,
      record {
        closed = closed-named e built (IsBuilt-stated e built is) (levels_by e rows)
            (levels_after (at_first built.system) located) all.after.have rejects.1.closed;
        level = rejects.1.level ∙ all.after.have 0 policy is.of.numbered.first;
        differs = rejects.1.differs;
      },
    )
