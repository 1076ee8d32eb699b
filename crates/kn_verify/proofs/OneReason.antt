-- Rows that are refused have one reason, and are no proof.
use Rattle.std.proofs.Common.{◌≡◌, ℕ, suc, zero, ◌<◌, ◌≤◌, ◌⊎◌, Bool, true, false, ◌||◌, ◌==◌, if◌then◌else◌, Any, List}
use Rattle.std.proofs.Common.{[], ◌∷◌, ◌++◌, slice_get, get_or, length, map, take, flat_map, Some, inl, inr, refl, sym}
use Rattle.std.proofs.Common.{ap, ◌∙◌, subst, arith, true≢false}
use Rattle.std.specs.List.{list_any}
use Rattle.std.specs.Option.{option_map}
use Rattle.std.specs.Str.{bytes_eq}
use Rattle.std.proofs.Math.Seq.{take-length}
use Rattle.std.proofs.lemmas.Bool.{cases_lt}
use Rattle.std.proofs.lemmas.List.{append-nil, append_assoc, get_or-take, length-take-le}
use Rattle.std.proofs.lemmas.List.Folds.{list_any-append}
use Rattle.std.proofs.lemmas.Option.{slice_get_within, slice_get-map, slice_get-get_or, get_or_from_slice_get}
use Rattle.kn_principal.specs.Principals.{policy}
use Rattle.kn_proof.specs.declared.named.NamedRow.{NamedRow}
use Rattle.kn_check.specs.declared.reject.Reject.{Reject}
use Rattle.kn_check.specs.declared.reject.Reject.TheVariants.{Range, Requester, Again, Zero, Foreign, Unsupported}
use Rattle.kn_check.specs.declared.reject.Reject.TheVariants.{Unclosed, Claim}
use Rattle.kn_check.specs.Rejects.{reason_number, reason_row, reason_found}
use Rattle.kn_meaning.specs.Formulas.{Levels}
use Rattle.kn_meaning.specs.Equations.{Equations, Statement, is_requester, worth}
use Rattle.kn_meaning.specs.Occurring.{occurring, licensees_names, statement_names}
use Rattle.kn_meaning.specs.Proofs.{levels_by, IsRow, AreRows, IsClosed, IsProof}
use Rattle.kn_rows.specs.Numbering.{AreDistinct}
use Rattle.kn_rows.proofs.Names.{bytes_eq-same}
use Rattle.kn_verify.specs.Rejections.{IsNamedInRange, IsNamedRowReject, IsNamedRowFault, IsNamedUnclosed}
use Rattle.kn_verify.specs.Rejections.{IsNamedOtherClaim, IsRejected}

-- Two reasons are told alike: by their number, row and level.
record SameReason (reject other : Reject) : Type 0 where
  number : reason_number reject ≡ reason_number other
  row : reason_row reject ≡ reason_row other
  found : reason_found reject ≡ reason_found other

-- the reason of which so much is told
abbrev reason_of : ℕ → ℕ → ℕ → Reject
reason_of number row found =
    if number == 1 then Range row
    else if number == 2 then Requester row
    else if number == 3 then Again row
    else if number == 4 then Zero row
    else if number == 5 then Foreign row
    else if number == 6 then Unsupported row found
    else if number == 7 then Unclosed row found
    else Claim found

reason_of-told : (reject : Reject) → reason_of (reason_number reject) (reason_row reject) (reason_found reject) ≡ reject
reason_of-told (Range row) = refl
reason_of-told (Requester row) = refl
reason_of-told (Again row) = refl
reason_of-told (Zero row) = refl
reason_of-told (Foreign row) = refl
reason_of-told (Unsupported row found) = refl
reason_of-told (Unclosed i found) = refl
reason_of-told (Claim found) = refl

-- reasons that are told alike are one
told_alike : (reject other : Reject) → SameReason reject other → reject ≡ other
told_alike reject other same =
    sym (reason_of-told reject)
    ∙ ap (λ (n : ℕ). reason_of n (reason_row reject) (reason_found reject)) same.number
    ∙ ap (λ (n : ℕ). reason_of (reason_number other) n (reason_found reject)) same.row
    ∙ ap (reason_of (reason_number other) (reason_row other)) same.found
    ∙ reason_of-told other

-- no two statements have one id
abbrev pub HaveIds : Equations → Type 0
HaveIds e = AreDistinct (map (λ s. s.id) e.statements)

there : {P : Statement → Type 0} (e : Equations) (any : Any P e.statements) → slice_get e.statements any.0 ≡ Some any.1
there e any = slice_get-get_or e.statements any.0 any.1 any.2 ∙ ap Some any.3

-- a statement has its id alone
one_statement : (e : Equations) → HaveIds e → (i j : ℕ) (s t : Statement) → slice_get e.statements i ≡ Some s
    → slice_get e.statements j ≡ Some t → s.id ≡ t.id → s ≡ t
one_statement e ids i j s t here other same =
    let first : slice_get (map (λ x. x.id) e.statements) i ≡ Some s.id = slice_get-map (λ x. x.id) e.statements i
    ∙ ap (option_map (λ x. x.id)) here in
    let second : slice_get (map (λ x. x.id) e.statements) j ≡ Some s.id = slice_get-map (λ x. x.id) e.statements j
    ∙ ap (option_map (λ x. x.id)) other ∙ ap Some (sym same) in
    let place : i ≡ j = ids i j s.id first second in
    let both : Some s ≡ Some t = sym here ∙ ap (slice_get e.statements) place ∙ other in
    cc

true_or : (a b : Bool) → a ≡ true → (a || b) ≡ true
true_or a b is = ap (λ x. x || b) is

or_as_true : (a b : Bool) → b ≡ true → (a || b) ≡ true
or_as_true true b is = refl
or_as_true false b is = is

among_names : (statements : List Statement) (i : ℕ) (s : Statement) → slice_get statements i ≡ Some s
    → list_any (bytes_eq s.authorizer) (flat_map statement_names statements) ≡ true
among_names [] i s here = absurd (let within : i < 0 = slice_get_within [] i s here in omega arith)
among_names (t ∷ statements) zero s here =
    let same : s ≡ t = cc in
    true_or (bytes_eq s.authorizer t.authorizer)
    (list_any (bytes_eq s.authorizer) (licensees_names t.licensees ++ flat_map statement_names statements))
    (bytes_eq-same s.authorizer t.authorizer (ap (λ x. x.authorizer) same))
among_names (t ∷ statements) (suc i) s here =
    list_any-append (bytes_eq s.authorizer) (statement_names t) (flat_map statement_names statements)
    ∙ or_as_true (list_any (bytes_eq s.authorizer) (statement_names t))
    (list_any (bytes_eq s.authorizer) (flat_map statement_names statements)) (among_names statements i s here)

-- an authorizer occurs in the query
author_occurs : (e : Equations) (i : ℕ) (s : Statement) → slice_get e.statements i ≡ Some s
    → list_any (bytes_eq s.authorizer) (occurring e) ≡ true
author_occurs e i s here =
    or_as_true (bytes_eq s.authorizer policy)
    (list_any (bytes_eq s.authorizer) (e.requesters ++ flat_map statement_names e.statements))
    (list_any-append (bytes_eq s.authorizer) e.requesters (flat_map statement_names e.statements)
    ∙ or_as_true (list_any (bytes_eq s.authorizer) e.requesters)
    (list_any (bytes_eq s.authorizer) (flat_map statement_names e.statements)) (among_names e.statements i s here))

in_range : (e : Equations) (before : List NamedRow) (row : NamedRow) → IsRow e before row → IsNamedInRange e row
in_range e before row follows = record {
  principal = subst (λ name. list_any (bytes_eq name) (occurring e) ≡ true) follows.supported.4.own
      (author_occurs e follows.supported.0 follows.supported.1 (there e follows.supported));
  assertion = (
    follows.supported.0,
    follows.supported.1,
    follows.supported.2,
    follows.supported.3,
    follows.supported.4.named,
  );
  level = follows.within;
}

-- a row that may not follow doesn't follow
not_row : (e : Equations) → HaveIds e → (before : List NamedRow) (k : ℕ) (row : NamedRow) (reject : Reject)
    → IsNamedRowReject e before k row reject → IsRow e before row → ⊥
not_row e ids before k row (Range j) reason follows = reason.1 (in_range e before row follows)
not_row e ids before k row (Requester j) reason follows = true≢false (sym reason.2 ∙ follows.other)
not_row e ids before k row (Again j) reason follows = true≢false (sym reason.2 ∙ follows.fresh)
not_row e ids before k row (Zero j) reason follows = let above : 1 ≤ row.value = follows.above_lowest in
    let zero_level : row.value ≡ 0 = reason.2 in omega arith
not_row e ids before k row (Foreign j) reason follows =
    let a = reason.2 in
    let b = follows.supported in
    let same : a.1 ≡ b.1 = one_statement e ids a.0 b.0 a.1 b.1 (there e a) (there e b) (a.4.0 ∙ sym b.4.named) in
    a.4.1 (ap (λ s. s.authorizer) same ∙ b.4.own)
not_row e ids before k row (Unsupported j found) reason follows =
    let a = reason.2 in
    let b = follows.supported in
    let same : a.1 ≡ b.1 = one_statement e ids a.0 b.0 a.1 b.1 (there e a) (there e b) (a.4.named ∙ sym b.4.named) in
    let value : found ≡ worth e.top (levels_by e before) b.1 = a.4.worth_found
    ∙ ap (worth e.top (levels_by e before)) same in
    let enough : row.value ≤ worth e.top (levels_by e before) b.1 = b.4.enough in
    let less : found < row.value = reason.3 in
    omega arith
not_row e ids before k row (Unclosed i found) reason follows = absurd reason
not_row e ids before k row (Claim found) reason follows = absurd reason

-- the tests that a row passed which is refused by the n-th
record HasPassed (e : Equations) (before : List NamedRow) (row : NamedRow) (n : ℕ) : Type 0 where
  range : 2 ≤ n → IsNamedInRange e row
  other : 3 ≤ n → is_requester e row.principal ≡ false
  fresh : 4 ≤ n → list_any (λ r. bytes_eq r.principal row.principal) before ≡ false
  above : 5 ≤ n → 1 ≤ row.value
  own : 6 ≤ n → Any (λ s. (s.id ≡ row.id) × (s.authorizer ≡ row.principal)) e.statements
  most : n ≤ 6

has_passed : (e : Equations) (before : List NamedRow) (k : ℕ) (row : NamedRow) (reject : Reject)
    → IsNamedRowReject e before k row reject → HasPassed e before row (reason_number reject)
has_passed e before k row (Range j) reason = record {
  range = λ l. absurd (omega arith);
  other = λ l. absurd (omega arith);
  fresh = λ l. absurd (omega arith);
  above = λ l. absurd (omega arith);
  own = λ l. absurd (omega arith);
  most = omega arith;
}
has_passed e before k row (Requester j) reason = record {
  range = λ l. reason.1;
  other = λ l. absurd (omega arith);
  fresh = λ l. absurd (omega arith);
  above = λ l. absurd (omega arith);
  own = λ l. absurd (omega arith);
  most = omega arith;
}
has_passed e before k row (Again j) reason = record {
  range = λ l. reason.1.range;
  other = λ l. reason.1.other;
  fresh = λ l. absurd (omega arith);
  above = λ l. absurd (omega arith);
  own = λ l. absurd (omega arith);
  most = omega arith;
}
has_passed e before k row (Zero j) reason = record {
  range = λ l. reason.1.other.range;
  other = λ l. reason.1.other.other;
  fresh = λ l. reason.1.fresh;
  above = λ l. absurd (omega arith);
  own = λ l. absurd (omega arith);
  most = omega arith;
}
has_passed e before k row (Foreign j) reason = record {
  range = λ l. reason.1.fresh.other.range;
  other = λ l. reason.1.fresh.other.other;
  fresh = λ l. reason.1.fresh.fresh;
  above = λ l. reason.1.above_lowest;
  own = λ l. absurd (omega arith);
  most = omega arith;
}
has_passed e before k row (Unsupported j found) reason = record {
  range = λ l. reason.1.fresh.other.range;
  other = λ l. reason.1.fresh.other.other;
  fresh = λ l. reason.1.fresh.fresh;
  above = λ l. reason.1.above_lowest;
  own = λ l. (reason.2.0, reason.2.1, reason.2.2, reason.2.3, (reason.2.4.named, reason.2.4.own));
  most = omega arith;
}
has_passed e before k row (Unclosed i found) reason = absurd reason
has_passed e before k row (Claim found) reason = absurd reason

-- a row that fails one test doesn't pass it
not_later : (e : Equations) → HaveIds e → (before : List NamedRow) (k : ℕ) (row : NamedRow) (reject : Reject) (n : ℕ)
    → IsNamedRowReject e before k row reject → HasPassed e before row n → reason_number reject < n → ⊥
not_later e ids before k row (Range j) n reason passed less = reason.1 (passed.range (omega arith))
not_later e ids before k row (Requester j) n reason passed less = true≢false (sym reason.2 ∙ passed.other (omega arith))
not_later e ids before k row (Again j) n reason passed less = true≢false (sym reason.2 ∙ passed.fresh (omega arith))
not_later e ids before k row (Zero j) n reason passed less = let above : 1 ≤ row.value = passed.above (omega arith) in
    let zero_level : row.value ≡ 0 = reason.2 in omega arith
not_later e ids before k row (Foreign j) n reason passed less =
    let a = reason.2 in
    let b = passed.own (omega arith) in
    let same : a.1 ≡ b.1 = one_statement e ids a.0 b.0 a.1 b.1 (there e a) (there e b) (a.4.0 ∙ sym b.4.0) in
    a.4.1 (ap (λ s. s.authorizer) same ∙ b.4.1)
not_later e ids before k row (Unsupported j found) n reason passed less = let most : n ≤ 6 = passed.most in omega arith
not_later e ids before k row (Unclosed i found) n reason passed less = absurd reason
not_later e ids before k row (Claim found) n reason passed less = absurd reason

-- what a reason tells of a row: its place, and the level that was found, which only the sixth test does
record TellsOfRow (e : Equations) (before : List NamedRow) (k : ℕ) (row : NamedRow) (reject : Reject) : Type 0 where
  place : reason_row reject ≡ k
  none : reason_number reject < 6 → reason_found reject ≡ 0
  found : reason_number reject ≡ 6
      → Any (λ s. (s.id ≡ row.id) × (reason_found reject ≡ worth e.top (levels_by e before) s)) e.statements

tells_of_row : (e : Equations) (before : List NamedRow) (k : ℕ) (row : NamedRow) (reject : Reject)
    → IsNamedRowReject e before k row reject → TellsOfRow e before k row reject
tells_of_row e before k row (Range j) reason =
    record { place = reason.0; none = λ l. refl; found = λ same. absurd (omega arith) }
tells_of_row e before k row (Requester j) reason =
    record { place = reason.0; none = λ l. refl; found = λ same. absurd (omega arith) }
tells_of_row e before k row (Again j) reason =
    record { place = reason.0; none = λ l. refl; found = λ same. absurd (omega arith) }
tells_of_row e before k row (Zero j) reason =
    record { place = reason.0; none = λ l. refl; found = λ same. absurd (omega arith) }
tells_of_row e before k row (Foreign j) reason =
    record { place = reason.0; none = λ l. refl; found = λ same. absurd (omega arith) }
tells_of_row e before k row (Unsupported j found) reason = record {
  place = reason.0;
  none = λ l. absurd (omega arith);
  found = λ same. (reason.2.0, reason.2.1, reason.2.2, reason.2.3, (reason.2.4.named, reason.2.4.worth_found));
}
tells_of_row e before k row (Unclosed i found) reason = absurd reason
tells_of_row e before k row (Claim found) reason = absurd reason

-- a row has one reason
one_row_reason : (e : Equations) → HaveIds e → (before : List NamedRow) (k : ℕ) (row : NamedRow) (reject other : Reject)
    → IsNamedRowReject e before k row reject → IsNamedRowReject e before k row other → SameReason reject other
one_row_reason e ids before k row reject other a b = record {
  number = number;
  row = tells_a.place ∙ sym tells_b.place;
  found = found;
}
  where
    passed_a : HasPassed e before row (reason_number reject)
    passed_a = has_passed e before k row reject a

    passed_b : HasPassed e before row (reason_number other)
    passed_b = has_passed e before k row other b

    tells_a : TellsOfRow e before k row reject
    tells_a = tells_of_row e before k row reject a

    tells_b : TellsOfRow e before k row other
    tells_b = tells_of_row e before k row other b

    number : reason_number reject ≡ reason_number other
    number = elim (cases_lt (reason_number reject) (reason_number other)) [
      | inl less ↦ absurd (not_later e ids before k row reject (reason_number other) a passed_b less)
      | inr least ↦ elim (cases_lt (reason_number other) (reason_number reject)) [
        | inl less ↦ absurd (not_later e ids before k row other (reason_number reject) b passed_a less)
        | inr most ↦ omega arith
      ]
    ]

    found : reason_found reject ≡ reason_found other
    found = elim (cases_lt (reason_number reject) 6) [
      | inl less ↦ tells_a.none less
          ∙ sym (tells_b.none (let same : reason_number reject ≡ reason_number other = number in omega arith))
      | inr least ↦
          let most : reason_number reject ≤ 6 = passed_a.most in
          let same : reason_number reject ≡ reason_number other = number in
          let first = tells_a.found (omega arith) in
          let second = tells_b.found (omega arith) in
          let one : first.1 ≡ second.1 =
          one_statement e ids first.0 second.0 first.1 second.1 (there e first) (there e second) (first.4.0
          ∙ sym second.4.0) in
          first.4.1 ∙ ap (worth e.top (levels_by e before)) one ∙ sym second.4.1
    ]

-- of rows that follow one another each follows those before it
row-at : (e : Equations) (before rows : List NamedRow) (n : ℕ) → AreRows e before (take n rows)
    → (k : ℕ) (row : NamedRow) → k < n → slice_get rows k ≡ Some row → IsRow e (before ++ take k rows) row
row-at e before [] n are k row less here = absurd (let within : k < 0 = slice_get_within [] k row here in omega arith)
row-at e before (r ∷ rows) zero are k row less here = absurd (omega arith)
row-at e before (r ∷ rows) (suc n) are zero row less here =
    let same : r ≡ row = cc in
    subst (λ rs. IsRow e rs row) (sym (append-nil before)) (subst (IsRow e before) same are.0)
row-at e before (r ∷ rows) (suc n) are (suc k) row less here =
    subst (λ rs. IsRow e rs row) (append_assoc before (r ∷ []) (take k rows))
    (row-at e (before ++ r ∷ []) rows n are.1 k row (omega arith) here)

-- a row that is refused doesn't stand among rows that follow one another
not_among : (e : Equations) → HaveIds e → (rows : List NamedRow) (n : ℕ) → AreRows e [] (take n rows)
    → (reject : Reject) (fault : IsNamedRowFault e rows reject) → fault.k < n → ⊥
not_among e ids rows n are reject fault less =
    not_row e ids (take fault.k rows) fault.k fault.row reject fault.reason
    (row-at e [] rows n are fault.k fault.row less fault.here)

not_in_whole : (e : Equations) → HaveIds e → (rows : List NamedRow) → AreRows e [] rows → (reject : Reject)
    → IsNamedRowFault e rows reject → ⊥
not_in_whole e ids rows are reject fault =
    let within : fault.k < length rows = slice_get_within rows fault.k fault.row fault.here in
    not_among e ids rows (length rows) (subst (AreRows e []) (sym (take-length rows)) are) reject fault within

one_fault : (e : Equations) → HaveIds e → (rows : List NamedRow) (reject other : Reject) → IsNamedRowFault e rows reject
    → IsNamedRowFault e rows other → SameReason reject other
one_fault e ids rows reject other a b =
    elim (cases_lt a.k b.k) [
      | inl less ↦ absurd (not_among e ids rows b.k b.before reject a less)
      | inr least ↦ elim (cases_lt b.k a.k) [
        | inl less ↦ absurd (not_among e ids rows a.k a.before other b less)
        | inr most ↦
            let same : b.k ≡ a.k = omega arith in
            let both : Some b.row ≡ Some a.row = sym b.here ∙ ap (slice_get rows) same ∙ a.here in
            let row : b.row ≡ a.row = cc in
            one_row_reason e ids (take a.k rows) a.k a.row reject other a.reason
            (subst (λ r. IsNamedRowReject e (take a.k rows) a.k r other) row
            (subst (λ k. IsNamedRowReject e (take k rows) k b.row other) same b.reason))
      ]
    ]

-- What is refused of rows that follow one another: an assertion, or the claim.
record IsLaterUnclosed (e : Equations) (rows : List NamedRow) (reject : Reject) : Type 0 where
  rows_follow : AreRows e [] rows
  i : ℕ
  found : ℕ
  is : reject ≡ Unclosed i found
  unclosed : IsNamedUnclosed e (levels_by e rows) i found

record IsLaterClaim (e : Equations) (rows : List NamedRow) (level : ℕ) (reject : Reject) : Type 0 where
  rows_follow : AreRows e [] rows
  found : ℕ
  is : reject ≡ Claim found
  claim : IsNamedOtherClaim e (levels_by e rows) level found

split : (e : Equations) (rows : List NamedRow) (level : ℕ) (reject : Reject) → IsRejected e rows level reject
    → IsNamedRowFault e rows reject ⊎ (IsLaterUnclosed e rows reject ⊎ IsLaterClaim e rows level reject)
split e rows level (Range j) rejected = inl rejected
split e rows level (Requester j) rejected = inl rejected
split e rows level (Again j) rejected = inl rejected
split e rows level (Zero j) rejected = inl rejected
split e rows level (Foreign j) rejected = inl rejected
split e rows level (Unsupported j found) rejected = inl rejected
split e rows level (Unclosed i found) rejected =
    inr (inl (record { rows_follow = rejected.0; i = i; found = found; is = refl; unclosed = rejected.1 }))
split e rows level (Claim found) rejected =
    inr (inr (record { rows_follow = rejected.0; found = found; is = refl; claim = rejected.1 }))

-- an assertion that is worth too much doesn't stand among those that aren't
not_closed : (e : Equations) (at : Levels) (i found n : ℕ) → IsNamedUnclosed e at i found → n ≤ length e.statements
    → i < n
    → ((j : ℕ) (d : Statement) → j < length (take n e.statements)
    → worth e.top at (get_or (take n e.statements) j d) ≤ at (get_or (take n e.statements) j d).authorizer) → ⊥
not_closed e at i found n unclosed fits less closed =
    let s : Statement = unclosed.statement in
    let count : length (take n e.statements) ≡ n = length-take-le n e.statements fits in
    let here : get_or (take n e.statements) i s ≡ s = get_or-take n e.statements i s less
    ∙ get_or_from_slice_get e.statements i s s unclosed.here in
    let low : worth e.top at s ≤ at s.authorizer =
    subst (λ x. worth e.top at x ≤ at x.authorizer) here (closed i s (omega arith)) in
    let more : at s.authorizer < found = unclosed.more in
    let value : found ≡ worth e.top at s = unclosed.worth_found in
    omega arith

not_closed_whole : (e : Equations) (at : Levels) (i found : ℕ) → IsNamedUnclosed e at i found → IsClosed e at → ⊥
not_closed_whole e at i found unclosed closed =
    let within : i < length e.statements = slice_get_within e.statements i unclosed.statement unclosed.here in
    not_closed e at i found (length e.statements) unclosed (omega arith) within
    (subst (λ ss. (j : ℕ) (d : Statement) → j < length ss
    → worth e.top at (get_or ss j d) ≤ at (get_or ss j d).authorizer) (sym (take-length e.statements)) closed)

one_unclosed : (e : Equations) (at : Levels) (i found j other : ℕ) → IsNamedUnclosed e at i found
    → IsNamedUnclosed e at j other → (i ≡ j) × (found ≡ other)
one_unclosed e at i found j other a b =
    let within : i < length e.statements = slice_get_within e.statements i a.statement a.here in
    let within_b : j < length e.statements = slice_get_within e.statements j b.statement b.here in
    elim (cases_lt i j) [
      | inl less ↦ absurd (not_closed e at i found j a (omega arith) less b.before)
      | inr least ↦ elim (cases_lt j i) [
        | inl less ↦ absurd (not_closed e at j other i b (omega arith) less a.before)
        | inr most ↦
            let same : i ≡ j = omega arith in
            let both : Some a.statement ≡ Some b.statement = sym a.here ∙ ap (slice_get e.statements) same ∙ b.here in
            let one : a.statement ≡ b.statement = cc in
            (same, a.worth_found ∙ ap (worth e.top at) one ∙ sym b.worth_found)
      ]
    ]

same_told : (a b reject other : Reject) → reject ≡ a → other ≡ b → SameReason a b → SameReason reject other
same_told a b reject other first second same =
    subst (λ r. SameReason r other) (sym first) (subst (SameReason a) (sym second) same)

-- rows that are refused are told one reason
one_reason_told : (e : Equations) → HaveIds e → (rows : List NamedRow) (level : ℕ) (reject other : Reject)
    → IsRejected e rows level reject → IsRejected e rows level other → SameReason reject other
one_reason_told e ids rows level reject other a b = by (split e rows level reject a) (split e rows level other b)
  where
    by : IsNamedRowFault e rows reject ⊎ (IsLaterUnclosed e rows reject ⊎ IsLaterClaim e rows level reject)
        → IsNamedRowFault e rows other ⊎ (IsLaterUnclosed e rows other ⊎ IsLaterClaim e rows level other)
        → SameReason reject other
    by (inl x) (inl y) = one_fault e ids rows reject other x y
    by (inl x) (inr (inl y)) = absurd (not_in_whole e ids rows y.rows_follow reject x)
    by (inl x) (inr (inr y)) = absurd (not_in_whole e ids rows y.rows_follow reject x)
    by (inr (inl x)) (inl y) = absurd (not_in_whole e ids rows x.rows_follow other y)
    by (inr (inr x)) (inl y) = absurd (not_in_whole e ids rows x.rows_follow other y)
    by (inr (inl x)) (inr (inl y)) =
        let same = one_unclosed e (levels_by e rows) x.i x.found y.i y.found x.unclosed y.unclosed in
        same_told (Unclosed x.i x.found) (Unclosed y.i y.found) reject other x.is y.is
        (record { number = refl; row = same.0; found = same.1 })
    by (inr (inl x)) (inr (inr y)) =
        absurd (not_closed_whole e (levels_by e rows) x.i x.found x.unclosed y.claim.closed)
    by (inr (inr x)) (inr (inl y)) =
        absurd (not_closed_whole e (levels_by e rows) y.i y.found y.unclosed x.claim.closed)
    by (inr (inr x)) (inr (inr y)) =
        same_told (Claim x.found) (Claim y.found) reject other x.is y.is
        (record { number = refl; row = refl; found = x.claim.level ∙ sym y.claim.level })

-- so they have one
pub one_reason : (e : Equations) → HaveIds e → (rows : List NamedRow) (level : ℕ) (reject other : Reject)
    → IsRejected e rows level reject → IsRejected e rows level other → reject ≡ other
one_reason e ids rows level reject other a b =
    told_alike reject other (one_reason_told e ids rows level reject other a b)

-- and are no proof
pub not_both : (e : Equations) → HaveIds e → (rows : List NamedRow) (level : ℕ) (reject : Reject) → IsProof e rows level
    → IsRejected e rows level reject → ⊥
not_both e ids rows level reject proves rejected = by (split e rows level reject rejected)
  where
    by : IsNamedRowFault e rows reject ⊎ (IsLaterUnclosed e rows reject ⊎ IsLaterClaim e rows level reject) → ⊥
    by (inl x) = not_in_whole e ids rows proves.in_order reject x
    by (inr (inl x)) = not_closed_whole e (levels_by e rows) x.i x.found x.unclosed proves.closed
    by (inr (inr x)) = x.claim.differs (x.claim.level ∙ proves.claim)
