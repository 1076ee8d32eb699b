-- A base that goes on from another one, and what it is without what was added.
use Rattle.std.proofs.Common.{◌≡◌, ℕ, zero, suc, ◌+◌, ◌≤◌, Bool, true, false, cond, All, List, [], ◌∷◌, ◌++◌, length}
use Rattle.std.proofs.Common.{take, refl, sym, ap, ◌∙◌, subst, arith, replicate}
use Rattle.std.specs.List.{list_any}
use Rattle.std.specs.Str.{bytes_eq}
use Rattle.std.proofs.lemmas.List.{take-append-le, take_all, take-take, length-take}
use Rattle.std.proofs.lemmas.List.Elements.{All-weaker}
use Rattle.kn_trees.specs.declared.assertion.Assertion.{Assertion}
use Rattle.kn_meaning.specs.Equations.{Part}
use Rattle.kn_system.specs.Rows.{SystemRow}
use Rattle.kn_system.specs.Equations.{IsRowOver, IsSystemRow}
use Rattle.kn_rows.specs.declared.numbered.Numbered.{Numbered}
use Rattle.kn_rows.specs.Numbering.{IsNumber, with_name, with_names}
use Rattle.kn_rows.specs.Extending.{AddsRow, Keeps}
use Rattle.kn_answer.specs.Removed.{live_parts}
use Rattle.kn_answer.specs.Based.{BaseView, GoesOn}
use Rattle.kn_answer.proofs.Capped.{live-all}

-- the first of two lists after one another
pub take-front : {X : Type 0} (xs ys : List X) → take (length xs) (xs ++ ys) ≡ xs
take-front xs ys = take-append-le (length xs) xs ys (omega arith) ∙ take_all (length xs) xs (omega arith)

-- who begins what another begins with begins the other
pub first-of : {X : Type 0} (xs ys zs : List X) → take (length xs) ys ≡ xs → take (length ys) zs ≡ ys
    → take (length xs) zs ≡ xs
first-of xs ys zs h k =
    let within : length xs ≤ length ys = omega (arith, ap length h, length-take (length xs) ys) in
    sym (take-take (length xs) (length ys) zs within) ∙ ap (take (length xs)) k ∙ h

-- and is no longer
pub first-within : {X : Type 0} (xs ys : List X) → take (length xs) ys ≡ xs → length xs ≤ length ys
first-within xs ys h = omega (arith, ap length h, length-take (length xs) ys)

pub goes-on-same : (b : BaseView) → GoesOn b b
goes-on-same b = record {
  names = take_all (length b.names) b.names (omega arith);
  rows = take_all (length b.system.rows) b.system.rows (omega arith);
}

pub goes-on-after : (a b c : BaseView) → GoesOn a b → GoesOn b c → GoesOn a c
goes-on-after a b c h k = record {
  names = first-of a.names b.names c.names h.names k.names;
  rows = first-of a.system.rows b.system.rows c.system.rows h.rows k.rows;
}

-- names that keep their numbers are the first ones
keeps-first : (old new : List (List ℕ)) → Keeps old new → take (length old) new ≡ old
keeps-first [] new keeps = refl
keeps-first (x ∷ old) [] keeps = let there : IsNumber [] x 0 = keeps 0 x refl in absurd (cc)
keeps-first (x ∷ old) (y ∷ new) keeps =
    let there : IsNumber (y ∷ new) x 0 = keeps 0 x refl in
    let same : y ≡ x = cc in
    ap (λ z. z ∷ take (length old) new) same
    ∙ ap (λ zs. x ∷ zs) (keeps-first old new (λ p name here. keeps (suc p) name here))

pub goes-on-row : (assertion : Assertion) (ceiling : ℕ) (old new : Numbered) → AddsRow assertion ceiling old new
    → (before after : List Bool)
    → GoesOn (record { names = old.names; system = old.system; live = before })
    (record { names = new.names; system = new.system; live = after })
goes-on-row assertion ceiling old new adds before after = record {
  names = keeps-first old.names new.names adds.names.keeps;
  rows = ap (take (length old.system.rows)) adds.rows ∙ take-front old.system.rows (adds.row ∷ []);
}

-- names that are entered stand behind the others
name-first : (names : List (List ℕ)) (name : List ℕ) → take (length names) (with_name names name) ≡ names
name-first names name = by (list_any (bytes_eq name) names)
  where
    by : (b : Bool) → take (length names) (cond b names (names ++ name ∷ [])) ≡ names
    by true = take_all (length names) names (omega arith)
    by false = take-front names (name ∷ [])

pub names-first : (names others : List (List ℕ)) → take (length names) (with_names names others) ≡ names
names-first names [] = take_all (length names) names (omega arith)
names-first names (name ∷ others) =
    first-of names (with_name names name) (with_names (with_name names name) others) (name-first names name)
    (names-first (with_name names name) others)

-- further assertions are there
pub live-more : (parts : List Part) (live : List Bool) (others : List Part) → length live ≡ length parts
    → live_parts (parts ++ others) (live ++ replicate (length others) true) ≡ live_parts parts live ++ others
live-more [] [] others size = live-all others (length others) refl
live-more [] (flag ∷ live) others size = absurd (omega (arith, size))
live-more (part ∷ parts) [] others size = absurd (omega (arith, size))
live-more (part ∷ parts) (true ∷ live) others size =
    ap (λ ps. part ∷ ps) (live-more parts live others (omega (arith, size)))
live-more (part ∷ parts) (false ∷ live) others size = live-more parts live others (omega (arith, size))

-- the number of an item is the same where others follow
pub number-front : {X : Type 0} (xs ys : List X) (item : X) (p : ℕ) → IsNumber xs item p → IsNumber (xs ++ ys) item p
number-front [] ys item p here = absurd (cc)
number-front (x ∷ xs) ys item zero here = here
number-front (x ∷ xs) ys item (suc p) here = number-front xs ys item p here

-- and greater by so many as stand before it
pub number-behind : {X : Type 0} (xs ys : List X) (item : X) (p n : ℕ) → n ≡ length xs + p → IsNumber ys item p
    → IsNumber (xs ++ ys) item n
number-behind [] ys item p n e here = let same : p ≡ n = omega (arith, e) in subst (IsNumber ys item) same here
number-behind (x ∷ xs) ys item p zero e here = absurd (omega (arith, e))
number-behind (x ∷ xs) ys item p (suc n) e here = number-behind xs ys item p n (omega (arith, e)) here

-- the rows of a system are rows over its principals
pub over-these : (levels principals n : ℕ) (rows : List SystemRow) → principals ≡ n
    → All (IsSystemRow levels principals) rows → All (IsRowOver n) rows
over-these levels principals n rows e h =
    subst (λ m. All (IsRowOver m) rows) e
    (All-weaker (IsSystemRow levels principals) (IsRowOver principals)
    (λ row fits. record { authorizer = fits.authorizer; formula = fits.formula }) rows h)

-- a base that goes on from another one, after an answer: its first principals and rows are still the other's
pub taken-back : (old base new : BaseView) (requesters : List (List ℕ)) → GoesOn old base
    → new.names ≡ with_names base.names requesters → new.system.rows ≡ base.system.rows → GoesOn old new
taken-back old base new requesters on entered same = record {
  names = first-of old.names base.names new.names on.names (ap (take (length base.names)) entered
      ∙ names-first base.names requesters);
  rows = ap (take (length old.system.rows)) same ∙ on.rows;
}
