-- Names in chains: one more, one less, and which a search may leave out.
use Rattle.std.proofs.Common.{◌≡◌, ◌≢◌, true, eqb, ◌&&◌, ℕ, zero, suc, ◌+◌, ◌-◌, ◌^◌, ◌<◌, List, [], ◌∷◌, ◌++◌, Some}
use Rattle.std.proofs.Common.{get_or, length, take, slice_get, slice_set, replicate, inl, inr, refl, sym, ap, ◌∙◌}
use Rattle.std.proofs.Common.{subst, arith}
use Rattle.std.proofs.lemmas.Bool.{cases_eq}
use Rattle.std.proofs.lemmas.Bool.Decides.{nat_tests}
use Rattle.std.specs.Cmp.Lexicographic.{pointwise}
use Rattle.std.proofs.lemmas.List.{get_or-set_same, get_or-set_other, get_or-take, get_or_push, length-set}
use Rattle.std.proofs.lemmas.List.{length-take-le, length_push}
use Rattle.std.proofs.lemmas.Option.{slice_get-get_or, slice_get_within}
use Rattle.kn_names.specs.Chains.{AreChained, IsLast, IsSought, IsTable, home_at, home_of}

alike : {X : Type 0} (x : X) (n i : ℕ) → get_or (replicate n x) i x ≡ x
alike x zero zero = refl
alike x zero (suc i) = refl
alike x (suc n) zero = refl
alike x (suc n) (suc i) = alike x n i

-- the same chains of other names that begin alike
pub last_same : (names others : List (List ℕ)) (chains chain count number : ℕ)
    → ((i : ℕ) → i < count → get_or others i [] ≡ get_or names i []) → IsLast names chains chain count number
    → IsLast others chains chain count number
last_same names others chains chain count number same is = record {
  within = is.within;
  own = λ some. ap (home_of chains) (same (number - 1) (omega (arith, some, is.within))) ∙ is.own some;
  last = λ place few e. is.last place few (sym (ap (home_of chains) (same place few)) ∙ e);
}

pub chained_same : (names others : List (List ℕ)) (count : ℕ) (heads links after : List ℕ)
    → ((i : ℕ) → i < count → get_or others i [] ≡ get_or names i [])
    → ((i : ℕ) → i < count → get_or after i 0 ≡ get_or links i 0) → AreChained names count heads links
    → AreChained others count heads after
chained_same names others count heads links after same same_links are = record {
  heads = λ chain l. last_same names others (length heads) chain count (get_or heads chain 0) same (are.heads chain l);
  links = λ place few.
      let chain : home_at others (length heads) place ≡ home_at names (length heads) place =
      ap (home_of (length heads)) (same place few) in
      subst (λ v. IsLast others (length heads) (home_at others (length heads) place) place v)
      (sym (same_links place few))
      (subst (λ b. IsLast others (length heads) b place (get_or links place 0)) (sym chain)
      (last_same names others (length heads) (home_at names (length heads) place) place (get_or links place 0)
      (λ i l. same i (omega (arith, l, few))) (are.links place few)));
}

-- one more name in its chain
pub chained_next : (names : List (List ℕ)) (count : ℕ) (heads links more after : List ℕ) (home : ℕ)
    → home ≡ home_at names (length heads) count → home < length heads → more ≡ slice_set heads home (count + 1)
    → ((i : ℕ) → i < count → get_or after i 0 ≡ get_or links i 0) → get_or after count 0 ≡ get_or heads home 0
    → AreChained names count heads links → AreChained names (count + 1) more after
chained_next names count heads links more after home is there set same own are =
    let size : length more ≡ length heads = ap length set ∙ length-set heads home (count + 1) in
    let head : (chain : ℕ) → chain < length heads
    → IsLast names (length heads) chain (count + 1) (get_or more chain 0) =
    (λ chain l.
    elim (cases_eq chain home) [
      | inl e ↦
          let now : get_or more chain 0 ≡ count + 1 = ap (get_or more chain) refl ∙ ap (λ c. get_or more c 0) e
          ∙ ap (λ hs. get_or hs home 0) set ∙ get_or-set_same heads home (count + 1) 0 there in
          record {
            within = omega (arith, now);
            own = λ some. ap (home_at names (length heads)) (omega (arith, now)) ∙ sym is ∙ sym e;
            last = λ place few f. omega (arith, now, few);
          }
      | inr differs ↦
          let now : get_or more chain 0 ≡ get_or heads chain 0 = ap (λ hs. get_or hs chain 0) set
          ∙ get_or-set_other heads home chain (count + 1) 0 differs in
          let was = are.heads chain l in
          subst (λ v. IsLast names (length heads) chain (count + 1) v) (sym now) (record {
            within = omega (arith, was.within);
            own = was.own;
            last = λ place few f.
                elim (cases_eq place count) [
                  | inl g ↦ absurd (differs (sym f ∙ ap (home_at names (length heads)) g ∙ sym is))
                  | inr behind ↦ was.last place (omega (arith, few, behind)) f
                ];
          })
    ]) in
    let link : (place : ℕ) → place < count + 1
    → IsLast names (length heads) (home_at names (length heads) place) place (get_or after place 0) =
    (λ place few.
    elim (cases_eq place count) [
      | inl e ↦
          let v : get_or after place 0 ≡ get_or heads home 0 = ap (λ p. get_or after p 0) e ∙ own in
          let b : home_at names (length heads) place ≡ home = ap (home_at names (length heads)) e ∙ sym is in
          subst (λ v. IsLast names (length heads) (home_at names (length heads) place) place v) (sym v)
          (subst (λ b. IsLast names (length heads) b place (get_or heads home 0)) (sym b)
          (subst (λ n. IsLast names (length heads) home n (get_or heads home 0)) (sym e) (are.heads home there)))
      | inr differs ↦
          let before : place < count = omega (arith, few, differs) in
          subst (λ v. IsLast names (length heads) (home_at names (length heads) place) place v)
          (sym (same place before)) (are.links place before)
    ]) in
    record {
      heads = λ chain l. subst (λ n. IsLast names n chain (count + 1) (get_or more chain 0)) (sym size)
          (head chain (omega (arith, l, size)));
      links = λ place few. subst (λ n. IsLast names n (home_at names n place) place (get_or after place 0)) (sym size)
          (link place few);
    }

-- the last name is taken from its chain
pub chained_less : (names : List (List ℕ)) (count : ℕ) (heads links less : List ℕ) (home : ℕ)
    → home ≡ home_at names (length heads) count → home < length heads
    → less ≡ slice_set heads home (get_or links count 0) → AreChained names (count + 1) heads links
    → AreChained names count less links
chained_less names count heads links less home is there set are =
    let size : length less ≡ length heads = ap length set ∙ length-set heads home (get_or links count 0) in
    let head : (chain : ℕ) → chain < length heads → IsLast names (length heads) chain count (get_or less chain 0) =
    (λ chain l.
    elim (cases_eq chain home) [
      | inl e ↦
          let now : get_or less chain 0 ≡ get_or links count 0 = ap (λ c. get_or less c 0) e
          ∙ ap (λ hs. get_or hs home 0) set ∙ get_or-set_same heads home (get_or links count 0) 0 there in
          subst (λ v. IsLast names (length heads) chain count v) (sym now)
          (subst (λ b. IsLast names (length heads) b count (get_or links count 0)) (sym is
          ∙ sym e) (are.links count (omega arith)))
      | inr differs ↦
          let now : get_or less chain 0 ≡ get_or heads chain 0 = ap (λ hs. get_or hs chain 0) set
          ∙ get_or-set_other heads home chain (get_or links count 0) 0 differs in
          let was = are.heads chain l in
          let v : ℕ = get_or heads chain 0 in
          let not_it : v ≢ count + 1 =
          (λ f. differs (sym (was.own (omega (arith, f))) ∙ ap (home_at names (length heads)) (omega (arith, f))
          ∙ sym is)) in
          subst (λ v. IsLast names (length heads) chain count v) (sym now) (record {
            within = omega (arith, was.within, not_it);
            own = was.own;
            last = λ place few f. was.last place (omega (arith, few)) f;
          })
    ]) in
    record {
      heads = λ chain l. subst (λ n. IsLast names n chain count (get_or less chain 0)) (sym size)
          (head chain (omega (arith, l, size)));
      links = λ place few. subst (λ n. IsLast names n (home_at names n place) place (get_or links place 0)) (sym size)
          (are.links place (omega (arith, few)));
    }

pub front : {X : Type 0} (xs ys : List X) (i : ℕ) (d : X) → i < length xs → get_or (xs ++ ys) i d ≡ get_or xs i d
front [] ys i d l = absurd (omega (arith, l))
front (x ∷ xs) ys zero d l = refl
front (x ∷ xs) ys (suc i) d l = front xs ys i d (omega (arith, l))

-- a name that is found stands in its chain
pub named : (names : List (List ℕ)) (chains place : ℕ) (name : List ℕ) → slice_get names place ≡ Some name
    → home_at names chains place ≡ home_of chains name
named names chains place name e =
    let read : Some (get_or names place []) ≡ Some name =
    sym (slice_get-get_or names place [] (slice_get_within names place name e)) ∙ e in
    ap (home_of chains) (cc)

-- and goes on with the name before one that isn't it
pub sought_next : (names : List (List ℕ)) (heads links : List ℕ) (name here : List ℕ) (place number : ℕ)
    → AreChained names (length names) heads links → IsSought names (length heads) name (place + 1)
    → slice_get names place ≡ Some here → here ≢ name → number ≡ get_or links place 0
    → IsSought names (length heads) name number
sought_next names heads links name here place number are sought e differs f =
    let few : place < length names = omega (arith, sought.within) in
    let own : home_at names (length heads) place ≡ home_of (length heads) name =
    ap (home_at names (length heads)) (omega arith) ∙ sought.own (omega arith) in
    let last : IsLast names (length heads) (home_at names (length heads) place) place number =
    subst (IsLast names (length heads) (home_at names (length heads) place) place) (sym f) (are.links place few) in
    record {
      within = omega (arith, last.within, few);
      own = λ some. last.own some ∙ own;
      left = λ other g.
          elim (cases_eq other place) [
            | inl same ↦ absurd (differs (here-is other same g))
            | inr behind ↦ last.last other (omega (arith, sought.left other g, behind))
                (named names (length heads) other name g ∙ sym own)
          ];
    }
  where
    here-is : (other : ℕ) → other ≡ place → slice_get names other ≡ Some name → here ≡ name
    here-is other same g =
        let both : Some here ≡ Some name = sym e ∙ ap (slice_get names) (sym same) ∙ g in
        cc

-- a name more in a table with room
pub table_pushed : (names : List (List ℕ)) (name : List ℕ) (heads links more after : List ℕ) (home : ℕ)
    → IsTable names heads links → length names < length heads → length names < 2 ^ 24
    → home ≡ home_of (length heads) name → home < length heads → more ≡ slice_set heads home (length names + 1)
    → after ≡ links ++ get_or heads home 0 ∷ [] → IsTable (names ++ name ∷ []) more after
table_pushed names name heads links more after home table room few is there set put =
    let n : ℕ = length names in
    let own : home ≡ home_at (names ++ name ∷ []) (length heads) n = is
    ∙ ap (home_of (length heads)) (sym (get_or_push names name [] n refl)) in
    let size : length more ≡ length heads = ap length set ∙ length-set heads home (n + 1) in
    let names_size = length_push names name in
    let links_size : length after ≡ length links + 1 = ap length put ∙ length_push links (get_or heads home 0) in
    let was : AreChained (names ++ name ∷ []) n heads links =
    chained_same names (names ++ name ∷ []) n heads links links (λ i l. front names (name ∷ []) i [] l)
    (λ i l. refl) table.chained in
    let now : AreChained (names ++ name ∷ []) (n + 1) more after =
    chained_next (names ++ name ∷ []) n heads links more after home own there set
    (λ i l. ap (λ ls. get_or ls i 0) put ∙ front links (get_or heads home 0 ∷ []) i 0 (omega (arith, l, table.links)))
    (ap (λ ls. get_or ls n 0) put ∙ get_or_push links (get_or heads home 0) 0 n table.links) was in
    record {
      chained = subst (λ k. AreChained (names ++ name ∷ []) k more after) (sym names_size) now;
      links = omega (arith, links_size, names_size, table.links);
      chains = omega (arith, size, names_size, room);
      few = omega (arith, names_size, few);
    }

-- a table without its last name
pub table_popped : (names : List (List ℕ)) (name : List ℕ) (heads links less after : List ℕ) (last home : ℕ)
    → IsTable names heads links → last + 1 ≡ length names → slice_get names last ≡ Some name
    → home ≡ home_of (length heads) name → home < length heads → less ≡ slice_set heads home (get_or links last 0)
    → after ≡ take last links → IsTable (take last names) less after
table_popped names name heads links less after last home table size e is there set cut =
    let own : home ≡ home_at names (length heads) last = is ∙ sym (named names (length heads) last name e) in
    let all : AreChained names (last + 1) heads links =
    subst (λ k. AreChained names k heads links) (sym size) table.chained in
    let was : AreChained names last less links = chained_less names last heads links less home own there set all in
    let names_size : length (take last names) ≡ last = length-take-le last names (omega (arith, size)) in
    let links_size : length after ≡ last = ap length cut
    ∙ length-take-le last links (omega (arith, size, table.links)) in
    let heads_size : length less ≡ length heads = ap length set ∙ length-set heads home (get_or links last 0) in
    let now : AreChained (take last names) last less after =
    chained_same names (take last names) last less links after (λ i l. get_or-take last names i [] l)
    (λ i l. ap (λ ls. get_or ls i 0) cut ∙ get_or-take last links i 0 l) was in
    record {
      chained = subst (λ k. AreChained (take last names) k less after) (sym names_size) now;
      links = omega (arith, links_size, names_size);
      chains = omega (arith, names_size, heads_size, size, table.chains);
      few = omega (arith, names_size, size, table.few);
    }

pub pointwise-same : (xs ys : List ℕ) → xs ≡ ys → pointwise eqb xs ys ≡ true
pointwise-same xs ys e = subst (λ zs. pointwise eqb xs zs ≡ true) e (itself xs)
  where
    itself : (xs : List ℕ) → pointwise eqb xs xs ≡ true
    itself [] = refl
    itself (x ∷ xs) = let first : eqb x x ≡ true = grind (arith, nat_tests) in ap (λ b. b && pointwise eqb xs xs) first
        ∙ itself xs
