-- Names that get numbers behind the others.
use Rattle.std.proofs.Common.{◌≡◌, ℕ, suc, zero, ◌+◌, ◌<◌, ◌≤◌, ◌⊎◌, Bool, true, false, ◌||◌, List, [], ◌∷◌, ◌++◌}
use Rattle.std.proofs.Common.{slice_get, get_or, take, length, map, Some, Result, Ok, Err, OnOk, inl, inr, refl}
use Rattle.std.proofs.Common.{sym, ap, ◌∙◌, subst, arith}
use Rattle.std.specs.List.{list_any}
use Rattle.std.specs.Str.{bytes_eq}
use Rattle.std.proofs.lemmas.Bool.{false_from_ne_true}
use Rattle.std.proofs.lemmas.List.{length-map, length-append, map-append, take_more}
use Rattle.std.proofs.lemmas.List.Folds.{list_any_at, list_any-append}
use Rattle.std.proofs.lemmas.Option.{slice_get_within}
use Rattle.kn_meaning.specs.Formulas.{Levels}
use Rattle.kn_meaning.specs.Equations.{Equations, Statement, is_requester}
use Rattle.kn_system.specs.Rows.{SystemRow}
use Rattle.kn_system.specs.declared.rows.Piece.{Piece}
use Rattle.kn_system.specs.declared.rows.Piece.TheVariants as P
use Rattle.kn_system.specs.Equations.{SystemEquations}
use Rattle.kn_rows.proofs.Names.{bytes_eq-same, bytes_eq-true, true_or, or_as_true}
use Rattle.kn_rows.specs.declared.numbered.Numbered.{Numbered}
use Rattle.kn_rows.specs.Numbering.{IsNumber, IsAbsent, AreDistinct, HaveLevels, NamedPiece, Leaf, Gate, IsPieceOf}
use Rattle.kn_rows.specs.Numbering.{ArePiecesOf, licensees_pieces, IsRowOf, AreRowsOf, AreNumbered, AreNamesOf}
use Rattle.kn_rows.specs.Numbering.{IsSystemOf}
use Rattle.kn_rows.specs.Extending.{Keeps, AddsNames, Extends, AddsRequester, with_statement}

-- what stands in a list stands in a longer one at the same place
pub slice_get-front : {A : Type 0} (xs ys : List A) (p : ℕ) (x : A) → slice_get xs p ≡ Some x
    → slice_get (xs ++ ys) p ≡ Some x
slice_get-front [] ys p x here = absurd (let within : p < 0 = slice_get_within [] p x here in omega arith)
slice_get-front (y ∷ xs) ys zero x here = here
slice_get-front (y ∷ xs) ys (suc p) x here = slice_get-front xs ys p x here

pub slice_get-last : {A : Type 0} (xs : List A) (x : A) → slice_get (xs ++ x ∷ []) (length xs) ≡ Some x
slice_get-last [] x = refl
slice_get-last (y ∷ xs) x = slice_get-last xs x

-- a name of a longer list stood there, or is the last
pub number_in_longer : (names : List (List ℕ)) (last name : List ℕ) (p : ℕ) → IsNumber (names ++ last ∷ []) name p
    → IsNumber names name p ⊎ ((p ≡ length names) × (last ≡ name))
number_in_longer [] last name zero here = inr (refl, cc)
number_in_longer [] last name (suc p) here =
    absurd (let within : suc p < 1 = slice_get_within (last ∷ []) (suc p) name here in omega arith)
number_in_longer (n ∷ names) last name zero here = inl here
number_in_longer (n ∷ names) last name (suc p) here =
    elim (number_in_longer names last name p here) [ inl there ↦ inl there | inr is ↦ inr (ap suc is.0, is.1) ]

pub Keeps-longer : (names more : List (List ℕ)) → Keeps names (names ++ more)
Keeps-longer names more p name here = slice_get-front names more p name here

pub AreDistinct-longer : (names : List (List ℕ)) (last : List ℕ) → AreDistinct names → IsAbsent names last
    → AreDistinct (names ++ last ∷ [])
AreDistinct-longer names last distinct absent p q name here there =
    by (number_in_longer names last name p here) (number_in_longer names last name q there)
  where
    by : IsNumber names name p ⊎ ((p ≡ length names) × (last ≡ name)) → IsNumber names name q
        ⊎ ((q ≡ length names) × (last ≡ name)) → p ≡ q
    by (inl a) (inl b) = distinct p q name a b
    by (inl a) (inr b) = absurd (absent p (a ∙ ap Some (sym b.1)))
    by (inr a) (inl b) = absurd (absent q (b ∙ ap Some (sym a.1)))
    by (inr a) (inr b) = a.0 ∙ sym b.0

HaveLevels-kept : (old new : List (List ℕ)) → Keeps old new → (at : Levels) (levels : List ℕ) → HaveLevels new at levels
    → HaveLevels old at levels
HaveLevels-kept old new keeps at levels have p name here = have p name (keeps p name here)

IsPieceOf-kept : (old new : List (List ℕ)) → Keeps old new → (named : NamedPiece) (piece : Piece)
    → IsPieceOf old named piece → IsPieceOf new named piece
IsPieceOf-kept old new keeps (Leaf name) (P.Who p) is = keeps p name is
IsPieceOf-kept old new keeps (Leaf name) (P.Gate need count) is = absurd is
IsPieceOf-kept old new keeps (Gate need count) (P.Who p) is = absurd is
IsPieceOf-kept old new keeps (Gate need count) (P.Gate k n) is = is

-- pieces stay those of a formula
pub ArePiecesOf-kept : (old new : List (List ℕ)) → Keeps old new → (named : List NamedPiece) (pieces : List Piece)
    → ArePiecesOf old named pieces → ArePiecesOf new named pieces
ArePiecesOf-kept old new keeps [] [] are = tt
ArePiecesOf-kept old new keeps [] (p ∷ pieces) are = absurd are
ArePiecesOf-kept old new keeps (n ∷ named) [] are = absurd are
ArePiecesOf-kept old new keeps (n ∷ named) (p ∷ pieces) are =
    (IsPieceOf-kept old new keeps n p are.0, ArePiecesOf-kept old new keeps named pieces are.1)

-- rows stay those of their statements
pub IsRowOf-kept : (top : ℕ) (old new : List (List ℕ)) → Keeps old new → (statement : Statement) (row : SystemRow)
    → IsRowOf top old statement row → IsRowOf top new statement row
IsRowOf-kept top old new keeps statement row is = record {
  authorizer = keeps row.authorizer statement.authorizer is.authorizer;
  ceiling = is.ceiling;
  pieces = ArePiecesOf-kept old new keeps (licensees_pieces statement.licensees) row.formula is.pieces;
  licensees = λ at levels have. is.licensees at levels (HaveLevels-kept old new keeps at levels have);
}

pub AreRowsOf-kept : (top : ℕ) (old new : List (List ℕ)) → Keeps old new
    → (statements : List Statement) (rows : List SystemRow) → AreRowsOf top old statements rows
    → AreRowsOf top new statements rows
AreRowsOf-kept top old new keeps [] [] are = tt
AreRowsOf-kept top old new keeps [] (row ∷ rows) are = absurd are
AreRowsOf-kept top old new keeps (s ∷ statements) [] are = absurd are
AreRowsOf-kept top old new keeps (s ∷ statements) (row ∷ rows) are =
    (IsRowOf-kept top old new keeps s row are.0, AreRowsOf-kept top old new keeps statements rows are.1)

pub AreRowsOf-longer : (top : ℕ) (names : List (List ℕ)) (statements : List Statement) (rows : List SystemRow)
    → AreRowsOf top names statements rows → (statement : Statement) (row : SystemRow) → IsRowOf top names statement row
    → AreRowsOf top names (statements ++ statement ∷ []) (rows ++ row ∷ [])
AreRowsOf-longer top names [] [] are statement row is = (is, tt)
AreRowsOf-longer top names [] (r ∷ rows) are statement row is = absurd are
AreRowsOf-longer top names (s ∷ statements) [] are statement row is = absurd are
AreRowsOf-longer top names (s ∷ statements) (r ∷ rows) are statement row is =
    (are.0, AreRowsOf-longer top names statements rows are.1 statement row is)

pub AreNumbered-longer : (requesters names : List (List ℕ)) (flags : List Bool) (name : List ℕ) (flag : Bool)
    → AreNumbered requesters names flags → IsAbsent names name → list_any (bytes_eq name) requesters ≡ flag
    → AreNumbered requesters (names ++ name ∷ []) (flags ++ flag ∷ [])
AreNumbered-longer requesters names flags name flag are absent is = record {
  first = Keeps-longer names (name ∷ []) 0 _ are.first;
  distinct = AreDistinct-longer names name are.distinct absent;
  flagged = ap (λ fs. fs ++ flag ∷ []) are.flagged ∙ ap (λ f. map asks names ++ f ∷ []) (sym is)
      ∙ sym (map-append asks names (name ∷ []));
}
  where
    asks : List ℕ → Bool
    asks = λ n. list_any (bytes_eq n) requesters

-- as many flags as names
pub AreNumbered-length : (requesters names : List (List ℕ)) (flags : List Bool) → AreNumbered requesters names flags
    → length names ≡ length flags
AreNumbered-length requesters names flags are = let same : length flags ≡ length names = ap length are.flagged
    ∙ simp length-map in sym same

-- a principal that is no requester gets the next number
pub IsSystemOf-longer : (e : Equations) (names : List (List ℕ)) (s : SystemEquations) → IsSystemOf e names s
    → (name : List ℕ) → IsAbsent names name
    → IsSystemOf e (names ++ name ∷ []) (record s { requesters = s.requesters ++ false ∷ [] })
IsSystemOf-longer e names s of name absent = record {
  numbered = AreNumbered-longer e.requesters names s.requesters name false of.numbered absent
      (false_from_ne_true (is_requester e name) (λ r. let number : (p : ℕ) × IsNumber names name p = of.all name r in
      absent number.0 number.1));
  all = λ other r. let number : (p : ℕ) × IsNumber names other p = of.all other r in
      (number.0, Keeps-longer names (name ∷ []) number.0 other number.1);
  top = of.top;
  rows = AreRowsOf-kept e.top names (names ++ name ∷ []) (Keeps-longer names (name ∷ [])) e.statements s.rows of.rows;
}

-- one more row
pub IsSystemOf-row : (e : Equations) (names : List (List ℕ)) (s : SystemEquations) → IsSystemOf e names s
    → (statement : Statement) (row : SystemRow) → IsRowOf e.top names statement row
    → IsSystemOf (with_statement e statement) names (record s { rows = s.rows ++ row ∷ [] })
IsSystemOf-row e names s of statement row is = record {
  numbered = of.numbered;
  all = of.all;
  top = of.top;
  rows = AreRowsOf-longer e.top names e.statements s.rows of.rows statement row is;
}

-- no names
pub AddsNames-none : (names : List (List ℕ)) → AddsNames [] names names
AddsNames-none names = record {
  keeps = λ p name here. here;
  all = λ name among. absurd (no among);
  only = λ p name here. inl (p, here);
}
  where
    no : false ≡ true → ⊥
    no same = cc

-- the one name that another is among
pub among_one : (other name : List ℕ) → list_any (bytes_eq other) (name ∷ []) ≡ true → other ≡ name
among_one other name among = by (bytes_eq other name) refl among
  where
    by : (b : Bool) → bytes_eq other name ≡ b → (b || false) ≡ true → other ≡ name
    by true e among = bytes_eq-true other name e
    by false e among = cc

one_among : (other name : List ℕ) → other ≡ name → list_any (bytes_eq other) (name ∷ []) ≡ true
one_among other name same = ap (λ b. b || false) (bytes_eq-same other name same)

-- a name that gets the next number
pub AddsNames-longer : (old new : List (List ℕ)) (name : List ℕ) → new ≡ old ++ name ∷ []
    → AddsNames (name ∷ []) old new
AddsNames-longer old new name names = record {
  keeps = λ p other here. ap (λ ns. slice_get ns p) names ∙ Keeps-longer old (name ∷ []) p other here;
  all = λ other among. (
    length old,
    ap (λ ns. slice_get ns (length old)) names ∙ slice_get-last old name
        ∙ ap Some (sym (among_one other name among)),
  );
  only = λ p other here. by p other (number_in_longer old name other p (ap (λ ns. slice_get ns p) (sym names) ∙ here));
}
  where
    by : (p : ℕ) (other : List ℕ) → IsNumber old other p ⊎ ((p ≡ length old) × (name ≡ other))
        → ((q : ℕ) × IsNumber old other q) ⊎ (list_any (bytes_eq other) (name ∷ []) ≡ true)
    by p other (inl there) = inl (p, there)
    by p other (inr is) = inr (one_among other name (sym is.1))

or_true : (a b : Bool) → (a || b) ≡ true → (a ≡ true) ⊎ (b ≡ true)
or_true true b either = inl refl
or_true false b either = inr either

-- names, and then more
pub AddsNames-then : (first second old between new : List (List ℕ)) → AddsNames first old between
    → AddsNames second between new → AddsNames (first ++ second) old new
AddsNames-then first second old between new a b = record {
  keeps = λ p name here. b.keeps p name (a.keeps p name here);
  all = λ name among.
      has name (or_true (list_any (bytes_eq name) first) (list_any (bytes_eq name) second)
      (sym (list_any-append (bytes_eq name) first second) ∙ among));
  only = λ p name here. from name (b.only p name here);
}
  where
    has : (name : List ℕ) → (list_any (bytes_eq name) first ≡ true) ⊎ (list_any (bytes_eq name) second ≡ true) → (p : ℕ)
        × IsNumber new name p
    has name (inl among) = let number : (p : ℕ) × IsNumber between name p = a.all name among in
        (number.0, b.keeps number.0 name number.1)
    has name (inr among) = b.all name among

    behind : (name : List ℕ) → ((q : ℕ) × IsNumber old name q) ⊎ (list_any (bytes_eq name) first ≡ true)
        → ((q : ℕ) × IsNumber old name q) ⊎ (list_any (bytes_eq name) (first ++ second) ≡ true)
    behind name (inl there) = inl there
    behind name (inr among) =
        inr (list_any-append (bytes_eq name) first second
        ∙ true_or (list_any (bytes_eq name) first) (list_any (bytes_eq name) second) among)

    from : (name : List ℕ) → ((q : ℕ) × IsNumber between name q) ⊎ (list_any (bytes_eq name) second ≡ true)
        → ((q : ℕ) × IsNumber old name q) ⊎ (list_any (bytes_eq name) (first ++ second) ≡ true)
    from name (inl there) = behind name (a.only there.0 name there.1)
    from name (inr among) =
        inr (list_any-append (bytes_eq name) first second
        ∙ or_as_true (list_any (bytes_eq name) first) (list_any (bytes_eq name) second) among)

-- where no name had a number before, these have one and no others
pub AreNamesOf-added : (principals names : List (List ℕ)) → AddsNames principals [] names → AreNamesOf principals names
AreNamesOf-added principals names added = record {
  all = added.all;
  only = λ p name here. by name (added.only p name here);
}
  where
    by : (name : List ℕ) → ((q : ℕ) × IsNumber [] name q) ⊎ (list_any (bytes_eq name) principals ≡ true)
        → list_any (bytes_eq name) principals ≡ true
    by name (inl there) = absurd (let within : there.0 < 0 = slice_get_within [] there.0 name there.1 in omega arith)
    by name (inr among) = among

pub Extends-none : (old : Numbered) → length old.names ≡ length old.system.requesters → Extends 0 [] old old
Extends-none old one_each = record {
  names = AddsNames-none old.names;
  few = omega arith;
  one_each = one_each;
  distinct = λ h. h;
  levels = refl;
  rows = refl;
  same = λ e of. of;
}

pub Extends-within : (n m : ℕ) (added others : List (List ℕ)) (old new : Numbered) → n ≤ m → added ≡ others
    → Extends n added old new → Extends m others old new
Extends-within n m added others old new within same ext = record {
  names = subst (λ ns. AddsNames ns old.names new.names) same ext.names;
  few = let few : length new.names ≤ length old.names + n = ext.few in omega arith;
  one_each = ext.one_each;
  distinct = ext.distinct;
  levels = ext.levels;
  rows = ext.rows;
  same = ext.same;
}

pub Extends-then : (n m : ℕ) (added more : List (List ℕ)) (old between new : Numbered) → Extends n added old between
    → Extends m more between new → Extends (n + m) (added ++ more) old new
Extends-then n m added more old between new first second = record {
  names = AddsNames-then added more old.names between.names new.names first.names second.names;
  few = let a : length between.names ≤ length old.names + n = first.few in
      let b : length new.names ≤ length between.names + m = second.few in omega arith;
  one_each = second.one_each;
  distinct = λ h. second.distinct (first.distinct h);
  levels = second.levels ∙ first.levels;
  rows = second.rows ∙ first.rows;
  same = λ e of. second.same e (first.same e of);
}

length_longer : {A : Type 0} (xs : List A) (x : A) → length (xs ++ x ∷ []) ≡ length xs + 1
length_longer xs x = simp length-append

-- a principal that is no requester gets the next number
pub Extends-longer : (old new : Numbered) (name : List ℕ) → length old.names ≡ length old.system.requesters
    → IsAbsent old.names name → new.names ≡ old.names ++ name ∷ []
    → new.system ≡ record old.system { requesters = old.system.requesters ++ false ∷ [] }
    → Extends 1 (name ∷ []) old new
Extends-longer old new name one_each absent names system = record {
  names = AddsNames-longer old.names new.names name names;
  few = let same : length new.names ≡ length old.names + 1 = ap length names ∙ length_longer old.names name in
      omega arith;
  one_each = ap length names ∙ length_longer old.names name ∙ ap (λ n. n + 1) one_each
      ∙ sym (length_longer old.system.requesters false) ∙ sym (ap (λ s. length s.requesters) system);
  distinct = λ h. subst AreDistinct (sym names) (AreDistinct-longer old.names name h absent);
  levels = ap (λ s. s.levels) system;
  rows = ap (λ s. s.rows) system;
  same = λ e of. subst (λ ns. IsSystemOf e ns new.system) (sym names)
      (subst (λ s. IsSystemOf e (old.names ++ name ∷ []) s) (sym system)
      (IsSystemOf-longer e old.names old.system of name absent));
}

pub AddsRequester-longer : (old new : Numbered) (name : List ℕ) → length old.names ≡ length old.system.requesters
    → IsAbsent old.names name → new.names ≡ old.names ++ name ∷ []
    → new.system ≡ record old.system { requesters = old.system.requesters ++ true ∷ [] } → AddsRequester name old new
AddsRequester-longer old new name one_each absent names system = record {
  names = AddsNames-longer old.names new.names name names;
  few = let same : length new.names ≡ length old.names + 1 = ap length names ∙ length_longer old.names name in
      omega arith;
  one_each = ap length names ∙ length_longer old.names name ∙ ap (λ n. n + 1) one_each
      ∙ sym (length_longer old.system.requesters true) ∙ sym (ap (λ s. length s.requesters) system);
  levels = ap (λ s. s.levels) system;
  rows = ap (λ s. s.rows) system;
  numbered = λ requesters is are. subst (λ ns. AreNumbered requesters ns new.system.requesters) (sym names)
      (subst (λ s. AreNumbered requesters (old.names ++ name ∷ []) s.requesters) (sym system)
      (AreNumbered-longer requesters old.names old.system.requesters name true are absent is));
}

-- what follows where a call was made well
pub both_on_ok : {T E : Type 0} (r : Result T E) (P Q R : Type 0) → (P → Q → R) → OnOk r P → OnOk r Q → OnOk r R
both_on_ok (Ok x) P Q R f p q = f p q
both_on_ok (Err e) P Q R f p q = tt

-- a requester is among the requesters
pub is_among : (requesters : List (List ℕ)) (i : ℕ) (name : List ℕ) → i < length requesters
    → name ≡ get_or requesters i name → list_any (bytes_eq name) requesters ≡ true
is_among requesters i name within here =
    list_any_at (bytes_eq name) requesters i name within (bytes_eq-same name (get_or requesters i name) here)

-- one requester more has a number
pub AddsNames-requester : (requesters : List (List ℕ)) (i : ℕ) (name : List ℕ) (first : List (List ℕ))
    (old new : Numbered) → i < length requesters → name ≡ get_or requesters i name → AddsRequester name old new
    → AddsNames (take i requesters) first old.names → AddsNames (take (i + 1) requesters) first new.names
AddsNames-requester requesters i name first old new within here added before =
    let longer : take i requesters ++ name ∷ [] ≡ take (i + 1) requesters = ap (λ n. take i requesters ++ n ∷ []) here
    ∙ sym (take_more requesters i name within) in
    subst (λ ns. AddsNames ns first new.names) longer
    (AddsNames-then (take i requesters) (name ∷ []) first old.names new.names before added.names)

pub known_on_ok : {T E : Type 0} (r : Result T E) (P : Type 0) → P → OnOk r P
known_on_ok (Ok x) P p = p
known_on_ok (Err e) P p = tt

pub map_on_ok : {T E : Type 0} (r : Result T E) (P Q : Type 0) → (P → Q) → OnOk r P → OnOk r Q
map_on_ok (Ok x) P Q f p = f p
map_on_ok (Err e) P Q f p = tt
