-- Readers of a form, and those that are made of others.
use Rattle.std.proofs.Common.{◌≡◌, ◌⊎◌, ℕ, zero, suc, ◌-◌, ◌<◌, ◌≤◌, Bool, true, false, cond, ltb, List, [], ◌∷◌, ◌++◌}
use Rattle.std.proofs.Common.{length, take, drop, Result, Ok, Err, refl, sym, ap, ◌∙◌, subst, arith, append_assoc, inl}
use Rattle.std.proofs.Common.{inr}
use Rattle.std.specs.Prelude.{◌==◌, flat_map}
use Rattle.std.specs.List.{AllByRecursion}
use Rattle.std.proofs.lemmas.Bool.{ltb-false, ltb-true, le-ltb}
use Rattle.std.proofs.lemmas.Bool.Decides.{Decides-eqb}
use Rattle.std.proofs.lemmas.List.{append-nil, append_cancel_right, length-append, length-take, length-replicate}
use Rattle.std.proofs.lemmas.List.{take-append-drop, take_at, drop_at}
use lib.ListN.{replicate}
use Rattle.kn_follow.specs.Reading.{Read, ◌>>=◌, both, map_reading, times, literal_at, bytes_at}

-- Results.

abbrev pub got : {A : Type 0} → A → List ℕ → Read A
got a rest = Ok (a, rest)

abbrev pub stopped : {A : Type 0} → List ℕ → Read A
stopped rest = Err rest

abbrev done : {A : Type 0} → A → Result A (List ℕ)
done x = Ok x

done_is : {A : Type 0} (x y : A) → done x ≡ done y → x ≡ y
done_is x y e = cc

pub got_is : {A : Type 0} (a b : A) (rest left : List ℕ) → got a rest ≡ got b left → (a ≡ b) × (rest ≡ left)
got_is {A} a b rest left e =
    let x : A × List ℕ = (a, rest) in
    let y : A × List ℕ = (b, left) in
    let same : x ≡ y = done_is x y e in
    (ap (λ (p : A × List ℕ). p.0) same, ap (λ (p : A × List ℕ). p.1) same)

pub stopped_is : {A : Type 0} (rest left : List ℕ) → stopped {A = A} rest ≡ stopped left → rest ≡ left
stopped_is rest left e = cc

pub bind_ok : {A B : Type 0} (r : Result A (List ℕ)) (f : A → Result B (List ℕ)) (y : B) → (r >>= f) ≡ Ok y → (x : A)
    × (r ≡ Ok x) × (f x ≡ Ok y)
bind_ok (Ok x) f y e = (x, refl, e)
bind_ok (Err rest) f y e = absurd cc

pub bind_err : {A B : Type 0} (r : Result A (List ℕ)) (f : A → Result B (List ℕ)) (rest : List ℕ) → (r >>= f) ≡ Err rest
    → (r ≡ Err rest) ⊎ ((x : A) × (r ≡ Ok x) × (f x ≡ Err rest))
bind_err (Ok x) f rest e = inr (x, refl, e)
bind_err (Err left) f rest e = inl cc

pub chosen : {A : Type 0} (b : Bool) (x y z : A) → cond b x y ≡ z → ((b ≡ true) × (x ≡ z)) ⊎ ((b ≡ false) × (y ≡ z))
chosen true x y z e = inl (refl, e)
chosen false x y z e = inr (refl, e)

-- no text is longer than itself
pub not_longer : (front more : List ℕ) (b : ℕ) → more ≡ front ++ b ∷ more → ⊥
not_longer front more b e =
    let size = ap length e in
    let parts = length-append front (b ∷ more) in
    absurd (omega (arith, size, parts))

pub not_behind : (x : ℕ) (front more : List ℕ) (b : ℕ) → x ∷ (front ++ b ∷ more) ≡ b ∷ more → ⊥
not_behind x front more b e =
    let size = ap length e in
    let parts = length-append front (b ∷ more) in
    absurd (omega (arith, size, parts))

-- Readers.

-- this is in front of what is left of a text, and begins the spelling of some value
pub record Fronts {A : Type 0} (Fits : A → Type 0) (spelling : A → List ℕ) (text rest : List ℕ) : Type 0 where
  pub front : List ℕ
  pub value : A
  pub behind : List ℕ
  pub fits : Fits value
  pub cut : text ≡ front ++ rest
  pub begins : spelling value ≡ front ++ behind

-- It reads the spellings of these values: what is read is spelled, what is spelled is read, and where it stops, the
-- bytes in front begin some spelling, and it stops there whatever follows the byte.
pub record IsReader {A : Type 0} (Fits : A → Type 0) (spelling : A → List ℕ) (read : List ℕ → Read A) : Type 0 where
  pub sound : (text : List ℕ) (a : A) (rest : List ℕ) → read text ≡ got a rest → Fits a × (text ≡ spelling a ++ rest)
  pub whole : (a : A) (rest : List ℕ) → Fits a → read (spelling a ++ rest) ≡ got a rest
  pub fronts : (text rest : List ℕ) → read text ≡ stopped rest → Fronts Fits spelling text rest
  pub local : (front : List ℕ) (b : ℕ) (more other : List ℕ) → read (front ++ b ∷ more) ≡ stopped (b ∷ more)
      → read (front ++ b ∷ other) ≡ stopped (b ∷ other)

-- Where nothing is read, no spelling begins with the bytes in front and the one that follows them.
pub record Unspelled {A : Type 0} (Fits : A → Type 0) (spelling : A → List ℕ) (front : List ℕ) (b : ℕ) : Type 0 where
  pub none : (a : A) (behind : List ℕ) → Fits a → spelling a ≡ (front ++ b ∷ []) ++ behind → ⊥

pub stops-unspelled : {A : Type 0} (Fits : A → Type 0) (spelling : A → List ℕ) (read : List ℕ → Read A)
    → IsReader Fits spelling read → (front : List ℕ) (b : ℕ) (more : List ℕ)
    → read (front ++ b ∷ more) ≡ stopped (b ∷ more) → Unspelled Fits spelling front b
stops-unspelled {A} Fits spelling read reader front b more e = record {
  none = λ a behind fits begins.
      let there : read (front ++ b ∷ behind) ≡ stopped (b ∷ behind) = reader.local front b more behind e in
      let whole : read (spelling a) ≡ got a [] = ap read (sym (append-nil (spelling a))) ∙ reader.whole a [] fits in
      let same : spelling a ≡ front ++ b ∷ behind = begins ∙ append_assoc front (b ∷ []) behind in
      let clash : got a [] ≡ stopped (b ∷ behind) = sym whole ∙ ap read same ∙ there in
      absurd (cc (clash));
}

-- Both.

pub both-reader : {A B : Type 0} (F : A → Type 0) (s : A → List ℕ) (r : List ℕ → Read A) (G : A → B → Type 0) (u : A → B
    → List ℕ) (q : A → List ℕ → Read B) → IsReader F s r → ((a : A) → F a → IsReader (G a) (u a) (q a))
    → ((a : A) → F a → (b : B) × G a b)
    → IsReader (λ (p : A × B). F p.0 × G p.0 p.1) (λ (p : A × B). s p.0 ++ u p.0 p.1) (both r q)
both-reader {A} {B} F s r G u q R Q some = record {
  sound = λ text p rest e.
      let a = bind_ok (r text) (λ (a : A × List ℕ). q a.0 a.1 >>= λ b. Ok ((a.0, b.0), b.1)) (p, rest) e in
      let b = bind_ok (q a.0.0 a.0.1) (λ (b : B × List ℕ). Ok ((a.0.0, b.0), b.1)) (p, rest) a.2 in
      let first = R.sound text a.0.0 a.0.1 a.1 in
      let second = (Q a.0.0 first.0).sound a.0.1 b.0.0 b.0.1 b.1 in
      let same = got_is (a.0.0, b.0.0) p b.0.1 rest b.2 in
      let made : (F a.0.0 × G a.0.0 b.0.0) × (text ≡ (s a.0.0 ++ u a.0.0 b.0.0) ++ b.0.1) = (
        (first.0, second.0),
        first.1 ∙ ap (λ l. s a.0.0 ++ l) second.1
            ∙ sym (append_assoc (s a.0.0) (u a.0.0 b.0.0) b.0.1),
      ) in
      subst (λ (l : List ℕ). (F p.0 × G p.0 p.1) × (text ≡ (s p.0 ++ u p.0 p.1) ++ l)) same.1
      (subst (λ (y : A × B). (F y.0 × G y.0 y.1) × (text ≡ (s y.0 ++ u y.0 y.1) ++ b.0.1)) same.0 made);
  whole = λ p rest fits.
      ap (both r q) (append_assoc (s p.0) (u p.0 p.1) rest)
      ∙ rw (R.whole p.0 (u p.0 p.1 ++ rest) fits.0, (Q p.0 fits.0).whole p.1 rest fits.1) refl;
  fronts = λ text rest e.
      elim (bind_err (r text) (λ (a : A × List ℕ). q a.0 a.1 >>= λ b. Ok ((a.0, b.0), b.1)) rest e) [
        | inl h ↦
            let f = R.fronts text rest h in
            let more = some f.value f.fits in
            record {
              front = f.front;
              value = (f.value, more.0);
              behind = f.behind ++ u f.value more.0;
              fits = (f.fits, more.1);
              cut = f.cut;
              begins = ap (λ l. l ++ u f.value more.0) f.begins ∙ append_assoc f.front f.behind (u f.value more.0);
            }
        | inr x ↦
            let first = R.sound text x.0.0 x.0.1 x.1 in
            elim (bind_err (q x.0.0 x.0.1) (λ (b : B × List ℕ). Ok ((x.0.0, b.0), b.1)) rest x.2) [
              | inl h ↦
                  let f = (Q x.0.0 first.0).fronts x.0.1 rest h in
                  record {
                    front = s x.0.0 ++ f.front;
                    value = (x.0.0, f.value);
                    behind = f.behind;
                    fits = (first.0, f.fits);
                    cut = first.1 ∙ ap (λ l. s x.0.0 ++ l) f.cut ∙ sym (append_assoc (s x.0.0) f.front rest);
                    begins = ap (λ l. s x.0.0 ++ l) f.begins ∙ sym (append_assoc (s x.0.0) f.front f.behind);
                  }
              | inr y ↦ absurd (cc (y.2))
            ]
      ];
  local = λ front b ys other e.
      elim (bind_err (r (front ++ b ∷ ys)) (λ (a : A × List ℕ). q a.0 a.1 >>= λ b. Ok ((a.0, b.0), b.1)) (b ∷ ys) e) [
        | inl h ↦ rw (R.local front b ys other h) refl
        | inr x ↦
            let first = R.sound (front ++ b ∷ ys) x.0.0 x.0.1 x.1 in
            elim (bind_err (q x.0.0 x.0.1) (λ (b : B × List ℕ). Ok ((x.0.0, b.0), b.1)) (b ∷ ys) x.2) [
              | inl h ↦
                  let f = (Q x.0.0 first.0).fronts x.0.1 (b ∷ ys) h in
                  let cut : front ≡ s x.0.0 ++ f.front = append_cancel_right front (s x.0.0 ++ f.front) (b ∷ ys)
                  (first.1 ∙ ap (λ l. s x.0.0 ++ l) f.cut ∙ sym (append_assoc (s x.0.0) f.front (b ∷ ys))) in
                  let one : r (front ++ b ∷ other) ≡ got x.0.0 (f.front ++ b ∷ other) =
                  ap (λ l. r (l ++ b ∷ other)) cut ∙ ap r (append_assoc (s x.0.0) f.front (b ∷ other))
                  ∙ R.whole x.0.0 (f.front ++ b ∷ other) first.0 in
                  let two : q x.0.0 (f.front ++ b ∷ other) ≡ stopped (b ∷ other) =
                  (Q x.0.0 first.0).local f.front b ys other (ap (q x.0.0) (sym f.cut) ∙ h) in
                  rw (one, two) refl
              | inr y ↦ absurd (cc (y.2))
            ]
      ];
}

-- What a value stands for.

pub record Stands {A B : Type 0} (F : A → Type 0) (s : A → List ℕ) (G : B → Type 0) (u : B → List ℕ) (f : A → B) :
    Type 0 where
  pub fits : (a : A) → F a → G (f a) × (u (f a) ≡ s a)
  pub each : (b : B) → G b → (a : A) × F a × (f a ≡ b)

pub mapped-reader : {A B : Type 0} (F : A → Type 0) (s : A → List ℕ) (r : List ℕ → Read A) (G : B → Type 0) (u : B
    → List ℕ) (f : A → B) → IsReader F s r → Stands F s G u f → IsReader G u (map_reading f r)
mapped-reader {A} {B} F s r G u f R stands = record {
  sound = λ text b rest e.
      let a = bind_ok (r text) (λ (a : A × List ℕ). Ok (f a.0, a.1)) (b, rest) e in
      let first = R.sound text a.0.0 a.0.1 a.1 in
      let to = stands.fits a.0.0 first.0 in
      let same = got_is (f a.0.0) b a.0.1 rest a.2 in
      let made : G (f a.0.0) × (text ≡ u (f a.0.0) ++ a.0.1) = (to.0, first.1 ∙ ap (λ l. l ++ a.0.1) (sym to.1)) in
      subst (λ (l : List ℕ). G b
      × (text ≡ u b ++ l)) same.1 (subst (λ (y : B). G y × (text ≡ u y ++ a.0.1)) same.0 made);
  whole = λ b rest fits.
      let w = stands.each b fits in
      let spelled : u b ≡ s w.0 = ap u (sym w.2) ∙ (stands.fits w.0 w.1).1 in
      ap (λ l. map_reading f r (l ++ rest)) spelled ∙ rw (R.whole w.0 rest w.1) (ap (λ (y : B). got y rest) w.2);
  fronts = λ text rest e.
      elim (bind_err (r text) (λ (a : A × List ℕ). Ok (f a.0, a.1)) rest e) [
        | inl h ↦
            let g = R.fronts text rest h in
            let to = stands.fits g.value g.fits in
            record {
              front = g.front;
              value = f g.value;
              behind = g.behind;
              fits = to.0;
              cut = g.cut;
              begins = to.1
                  ∙ g.begins;
            }
        | inr y ↦ absurd (cc (y.2))
      ];
  local = λ front b more other e.
      elim (bind_err (r (front ++ b ∷ more)) (λ (a : A × List ℕ). Ok (f a.0, a.1)) (b ∷ more) e) [
        | inl h ↦ rw (R.local front b more other h) refl
        | inr y ↦ absurd (cc (y.2))
      ];
}

-- So many values.

abbrev pub AreTimes : {A : Type 0} → (A → Type 0) → ℕ → List A → Type 0
AreTimes F n xs = (length xs ≡ n) × AllByRecursion F xs

pub some-times : {A : Type 0} (F : A → Type 0) (a : A) → F a → (n : ℕ) → (xs : List A) × AreTimes F n xs
some-times F a fits zero = ([], (refl, tt))
some-times F a fits (suc n) = let more = some-times F a fits n in (a ∷ more.0, (ap suc more.1.0, (fits, more.1.1)))

no-times : {A : Type 0} (F : A → Type 0) (s : A → List ℕ) (r : List ℕ → Read A)
    → IsReader (AreTimes F 0) (flat_map s) (times r 0)
unfolding times
no-times {A} F s r = record {
  sound = λ text xs rest e.
      let same = got_is [] xs text rest e in
      subst (λ (ys : List A). AreTimes F 0 ys × (text ≡ flat_map s ys ++ rest)) same.0 ((refl, tt), same.1);
  whole = λ xs rest fits. none xs rest fits;
  fronts = λ text rest e. absurd (cc (e));
  local = λ front b more other e. absurd (cc (e));
}
  where
    none : (xs : List A) (rest : List ℕ) → AreTimes F 0 xs → got [] (flat_map s xs ++ rest) ≡ got xs rest
    none [] rest fits = refl
    none (x ∷ xs) rest fits = absurd (cc (fits.0))

abbrev to_list : {A : Type 0} → A × List A → List A
to_list p = p.0 ∷ p.1

abbrev pair_behind : {A B : Type 0} → A → B × List ℕ → Read (A × B)
pair_behind a b = Ok ((a, b.0), b.1)

abbrev list_behind : {A : Type 0} → A → List A × List ℕ → Read (List A)
list_behind a others = Ok (a ∷ others.0, others.1)

abbrev as_list : {A : Type 0} → (A × List A) × List ℕ → Read (List A)
as_list p = Ok (to_list p.0, p.1)

same_times : {A : Type 0} (r : List ℕ → Read A) (n : ℕ) (text : List ℕ)
    → times r (suc n) text ≡ map_reading to_list (both r (λ _. times r n)) text
unfolding times
same_times {A} r n text = by (r text)
  where
    again : (x : A) (found : Read (List A)) → (found >>= list_behind x) ≡ ((found >>= pair_behind x) >>= as_list)
    again x (Ok others) = refl
    again x (Err rest) = refl

    by : (found : Read A)
        → (found >>= λ a. (times r n a.1 >>= list_behind a.0))
        ≡ ((found >>= λ a. (times r n a.1 >>= pair_behind a.0)) >>= as_list)
    by (Ok x) = again x.0 (times r n x.1)
    by (Err rest) = refl

same-reader : {A : Type 0} (F : A → Type 0) (s : A → List ℕ) (r q : List ℕ → Read A)
    → ((text : List ℕ) → q text ≡ r text) → IsReader F s r → IsReader F s q
same-reader F s r q same R = record {
  sound = λ text a rest e. R.sound text a rest (sym (same text) ∙ e);
  whole = λ a rest fits. same (s a ++ rest) ∙ R.whole a rest fits;
  fronts = λ text rest e. R.fronts text rest (sym (same text) ∙ e);
  local = λ front b more other e. same (front ++ b ∷ other)
      ∙ R.local front b more other (sym (same (front ++ b ∷ more)) ∙ e);
}

list-stands : {A : Type 0} (F : A → Type 0) (s : A → List ℕ) (n : ℕ)
    → Stands (λ (p : A × List A). F p.0 × AreTimes F n p.1) (λ (p : A × List A). s p.0 ++ flat_map s p.1)
    (AreTimes F (suc n)) (flat_map s) to_list
list-stands {A} F s n = record { fits = λ p fits. ((ap suc fits.1.0, (fits.0, fits.1.1)), refl); each = each }
  where
    each : (xs : List A) → AreTimes F (suc n) xs → (p : A × List A) × (F p.0 × AreTimes F n p.1) × (to_list p ≡ xs)
    each [] fits = absurd (cc (fits.0))
    each (x ∷ xs) fits = let size : length xs ≡ n = cc in ((x, xs), (fits.1.0, (size, fits.1.1)), refl)

pub times-reader : {A : Type 0} (F : A → Type 0) (s : A → List ℕ) (r : List ℕ → Read A) (a : A) → F a → IsReader F s r
    → (n : ℕ) → IsReader (AreTimes F n) (flat_map s) (times r n)
times-reader F s r a fits R zero = no-times F s r
times-reader {A} F s r a fits R (suc n) =
    same-reader (AreTimes F (suc n)) (flat_map s) (map_reading to_list (both r (λ _. times r n))) (times r (suc n))
    (same_times r n)
    (mapped-reader (λ (p : A × List A). F p.0 × AreTimes F n p.1) (λ (p : A × List A). s p.0 ++ flat_map s p.1)
    (both r (λ _. times r n)) (AreTimes F (suc n)) (flat_map s) to_list
    (both-reader F s r (λ _. AreTimes F n) (λ _. flat_map s) (λ _. times r n) R (λ x f. times-reader F s r a fits R n)
    (λ x f. some-times F a fits n))
    (list-stands F s n))

-- These bytes and no others.

abbrev pub Always : Unit {0} → Type 0
Always _ = Unit {0}

literal-sound : (cs text : List ℕ) (rest : List ℕ) → literal_at cs text ≡ got tt rest → text ≡ cs ++ rest
unfolding literal_at
literal-sound [] text rest e = (got_is tt tt text rest e).1
literal-sound (c ∷ cs) [] rest e = absurd (cc (e))
literal-sound (c ∷ cs) (b ∷ text) rest e =
    elim (chosen (b == c) (literal_at cs text) (stopped (b ∷ text)) (got tt rest) e) [
      | inl h ↦ let same = (Decides-eqb b c).0 h.0 in let more = literal-sound cs text rest h.1 in
          ap (λ x. x ∷ text) same ∙ ap (λ l. c ∷ l) more
      | inr h ↦ absurd (cc (h.1))
    ]

literal-whole : (cs rest : List ℕ) → literal_at cs (cs ++ rest) ≡ got tt rest
unfolding literal_at
literal-whole [] rest = refl
literal-whole (c ∷ cs) rest = rw ((Decides-eqb c c).1 refl) (literal-whole cs rest)

pub record StandsInFront (cs text rest : List ℕ) : Type 0 where
  pub front : List ℕ
  pub behind : List ℕ
  pub cut : text ≡ front ++ rest
  pub begins : cs ≡ front ++ behind

literal-fronts : (cs text rest : List ℕ) → literal_at cs text ≡ stopped rest → StandsInFront cs text rest
unfolding literal_at
literal-fronts [] text rest e = absurd (cc (e))
literal-fronts (c ∷ cs) [] rest e = record { front = []; behind = c ∷ cs; cut = cc; begins = refl }
literal-fronts (c ∷ cs) (b ∷ text) rest e =
    elim (chosen (b == c) (literal_at cs text) (stopped (b ∷ text)) (stopped rest) e) [
      | inl h ↦
          let same = (Decides-eqb b c).0 h.0 in
          let more = literal-fronts cs text rest h.1 in
          record {
            front = b ∷ more.front;
            behind = more.behind;
            cut = ap (λ l. b ∷ l) more.cut;
            begins =
                ap (λ x. x ∷ cs) (sym same) ∙ ap (λ l. b ∷ l) more.begins;
          }
      | inr h ↦ record { front = []; behind = c ∷ cs; cut = stopped_is (b ∷ text) rest h.1; begins = refl }
    ]

literal-local : (cs front : List ℕ) (b : ℕ) (more other : List ℕ)
    → literal_at cs (front ++ b ∷ more) ≡ stopped (b ∷ more) → literal_at cs (front ++ b ∷ other) ≡ stopped (b ∷ other)
unfolding literal_at
literal-local [] front b more other e = absurd (cc (e))
literal-local (c ∷ cs) [] b more other e =
    elim (chosen (b == c) (literal_at cs more) (stopped (b ∷ more)) (stopped (b ∷ more)) e) [
      | inl h ↦ let f = literal-fronts cs more (b ∷ more) h.1 in absurd (not_longer f.front more b f.cut)
      | inr h ↦ rw h.0 refl
    ]
literal-local (c ∷ cs) (x ∷ front) b more other e =
    elim (chosen (x == c) (literal_at cs (front ++ b ∷ more)) (stopped (x ∷ (front ++ b ∷ more))) (stopped (b ∷ more))
    e) [
      | inl h ↦ rw h.0 (literal-local cs front b more other h.1)
      | inr h ↦ absurd (not_behind x front more b (stopped_is (x ∷ (front ++ b ∷ more)) (b ∷ more) h.1))
    ]

pub literal-reader : (cs : List ℕ) → IsReader Always (λ _. cs) (literal_at cs)
literal-reader cs = record {
  sound = λ text a rest e. (tt, literal-sound cs text rest e);
  whole = λ a rest fits. literal-whole cs rest;
  fronts = λ text rest e.
      let f = literal-fronts cs text rest e in
      record { front = f.front; value = tt; behind = f.behind; fits = tt; cut = f.cut; begins = f.begins };
  local = literal-local cs;
}

-- So many bytes.

abbrev pub HasLength : ℕ → List ℕ → Type 0
HasLength n bytes = length bytes ≡ n

pub bytes-reader : (n : ℕ) → IsReader (HasLength n) (λ bytes. bytes) (bytes_at n)
unfolding bytes_at
bytes-reader n = record {
  sound = λ text a rest e.
      elim (chosen (ltb (length text) n) (stopped []) (got (take n text) (drop n text)) (got a rest) e) [
        | inl h ↦ absurd (cc (h.1))
        | inr h ↦
            let long : n ≤ length text = ltb-false (length text) n h.0 in
            let size : length (take n text) ≡ n = let l = length-take n text in omega (arith, l, long) in
            let same = got_is (take n text) a (drop n text) rest h.1 in
            subst (λ (l : List ℕ). (length a ≡ n) × (text ≡ a ++ l)) same.1
            (subst (λ (y : List ℕ). (length y ≡ n) × (text ≡ y ++ drop n text)) same.0 (
              size,
              sym (take-append-drop n text),
            ))
      ];
  whole = λ a rest fits.
      let size = length-append a rest in
      let long : ltb (length (a ++ rest)) n ≡ false = le-ltb (length (a ++ rest)) n (omega (arith, size, fits)) in
      rw (long, take_at a rest n fits, drop_at a rest n fits) refl;
  fronts = λ text rest e.
      elim (chosen (ltb (length text) n) (stopped []) (got (take n text) (drop n text)) (stopped rest) e) [
        | inl h ↦
            let short : length text < n = ltb-true (length text) n h.0 in
            let none : [] ≡ rest = stopped_is [] rest h.1 in
            let fill : List ℕ = replicate (n - length text) 0 in
            let sizes = length-append text fill in
            let filled = length-replicate {A = ℕ} (n - length text) 0 in
            record {
              front = text;
              value = text ++ fill;
              behind = fill;
              fits = omega (arith, sizes, filled, short);
              cut = sym (append-nil text) ∙ ap (λ l. text ++ l) none;
              begins = refl;
            }
        | inr h ↦ absurd (cc (h.1))
      ];
  local = λ front b more other e.
      elim (chosen (ltb (length (front ++ b ∷ more)) n) (stopped [])
      (got (take n (front ++ b ∷ more)) (drop n (front ++ b ∷ more))) (stopped (b ∷ more)) e) [
        | inl h ↦ absurd (cc (h.1))
        | inr h ↦ absurd (cc (h.1))
      ];
}
