-- The lines of a key file together: what the lines so far say, and that a text reads as one thing.
use Rattle.std.proofs.Common.{◌≡◌, ◌⊎◌, ℕ, ◌+◌, ◌≤◌, ◌<◌, Bool, true, false, List, [], ◌∷◌, ◌++◌, length, Option, Some}
use Rattle.std.proofs.Common.{None, Result, Ok, Err, refl, sym, ap, ◌∙◌, arith, inl, inr, append_assoc, length-append}
use Rattle.std.specs.Prelude.{IfOk, IfErr, filter_map}
use Rattle.std.specs.Bool.{MatchBool}
use Rattle.std.specs.List.{AllZip, AllByRecursion, IsDistinct, concat}
use Rattle.std.specs.Str.{bytes_eq}
use Rattle.std.specs.Str.Lines.{lines}
use Rattle.std.proofs.lemmas.Bool.{cases_Bool, cases_lt, false≢true}
use Rattle.std.proofs.lemmas.List.{append-nil, map-append}
use Rattle.std.proofs.lemmas.List.Elements.{filter_map-append}
use Rattle.std.proofs.lemmas.Slice.Eq.{bytes_eq-Decides}
use Rattle.kn_auth.specs.KeyLines.{SpellsKey, States}
use Rattle.kn_auth.specs.KeyFiles.{key_in, digest_in, secret_in, keys_in, principals_of, AreWellFormed, IsOfEntries}
use Rattle.kn_auth.specs.KeyFiles.{IsKeyFile, IsFirstMalformed}
use Rattle.kn_auth.specs.Reading.{with_entry, with_secret, IsTaken, IsLineRefused}
use Rattle.kn_auth.specs.Verdicts.{has_key}
use Rattle.kn_auth.specs.Causes.{IsCause}
use Rattle.kn_auth.specs.declared.entry.MacKey.{MacKey}
use Rattle.kn_auth.specs.declared.entry.Entry.{Entry}
use Rattle.kn_auth.specs.declared.entry.Entry.TheVariants.{Comment, Mac, Digest, Secret}
use Rattle.kn_auth.specs.declared.fault.KeyFault.{KeyFault}
use Rattle.kn_auth.specs.declared.fault.KeyFault.TheVariants.{Line, NoMemory}
use Rattle.kn_auth.specs.declared.key_file.KeyFile.{KeyFile}
use Rattle.kn_auth.proofs.LineEntries.{states_once}

-- a line whose entry is known is taken, or it is refused whatever it states
pub taken_or_refused : {E : Type 0} (old new : KeyFile) (line : List ℕ) (entry : Entry) (r : Result Bool E)
    → States line entry
    → IfOk r (λ added. MatchBool added (with_entry old entry ≡ Some new) (with_entry old entry ≡ None))
    → IfOk r (λ taken. MatchBool taken (IsTaken old line new) (IsLineRefused old line))
taken_or_refused old new line entry (Ok true) s added = record { entry = entry; stated = s; added = added }
taken_or_refused old new line entry (Ok false) s refused =
    λ other t. ap (with_entry old) (states_once line other entry t s) ∙ refused
taken_or_refused old new line entry (Err e) s h = tt

-- ---- two lists side by side

module _ {A B : Type 0} (R : A → B → Type 0) where
  zip_push : (xs : List A) (ys : List B) (x : A) (y : B) → AllZip R xs ys → R x y
      → AllZip R (xs ++ x ∷ []) (ys ++ y ∷ [])
  zip_push [] [] x y s h = (h, tt)
  zip_push [] (b ∷ ys) x y s h = absurd s
  zip_push (a ∷ xs) [] x y s h = absurd s
  zip_push (a ∷ xs) (b ∷ ys) x y s h = (s.0, zip_push xs ys x y s.1 h)

  -- what stands beside the front of a list
  record Beside (xs rest : List A) (ys : List B) : Type 0 where
    front : List B
    behind : List B
    split : ys ≡ front ++ behind
    stands : AllZip R xs front
    rests : AllZip R rest behind

  zip_split : (xs rest : List A) (ys : List B) → AllZip R (xs ++ rest) ys → Beside xs rest ys
  zip_split [] rest ys s = record { front = []; behind = ys; split = refl; stands = tt; rests = s }
  zip_split (a ∷ xs) rest [] s = absurd s
  zip_split (a ∷ xs) rest (b ∷ ys) s =
      let more = zip_split xs rest ys s.1 in
      record {
        front = b ∷ more.front;
        behind = more.behind;
        split = ap (λ (l : List B). b ∷ l) more.split;
        stands =
            (s.0, more.stands);
        rests = more.rests;
      }

  zip_once : ((a : A) (x y : B) → R a x → R a y → x ≡ y) → (xs : List A) (ys zs : List B) → AllZip R xs ys
      → AllZip R xs zs → ys ≡ zs
  zip_once once [] [] [] s t = refl
  zip_once once [] [] (c ∷ zs) s t = absurd t
  zip_once once [] (b ∷ ys) zs s t = absurd s
  zip_once once (a ∷ xs) [] zs s t = absurd s
  zip_once once (a ∷ xs) (b ∷ ys) [] s t = absurd t
  zip_once once (a ∷ xs) (b ∷ ys) (c ∷ zs) s t =
      let first : b ≡ c = once a b c s.0 t.0 in
      let rest : ys ≡ zs = zip_once once xs ys zs s.1 t.1 in
      λ i. first i ∷ rest i

-- ---- names that differ

flips : (x y : List ℕ) → bytes_eq x y ≡ false → bytes_eq y x ≡ false
flips x y h =
    elim (cases_Bool (bytes_eq y x)) [
      | inl e ↦
          let same : x ≡ y = sym ((bytes_eq-Decides y x).0 e) in
          absurd (false≢true (sym h ∙ (bytes_eq-Decides x y).1 same))
      | inr e ↦ e
    ]

all_push : {A : Type 0} (P : A → Type 0) (xs : List A) (x : A) → AllByRecursion P xs → P x
    → AllByRecursion P (xs ++ x ∷ [])
all_push P [] x h p = (p, tt)
all_push P (a ∷ xs) x h p = (h.0, all_push P xs x h.1 p)

all_front : {A : Type 0} (P : A → Type 0) (xs ys : List A) → AllByRecursion P (xs ++ ys) → AllByRecursion P xs
all_front P [] ys h = tt
all_front P (a ∷ xs) ys h = (h.0, all_front P xs ys h.1)

all_last : {A : Type 0} (P : A → Type 0) (xs : List A) (x : A) → AllByRecursion P (xs ++ x ∷ []) → P x
all_last P [] x h = h.0
all_last P (a ∷ xs) x h = all_last P xs x h.1

distinct_front : (xs ys : List (List ℕ)) → IsDistinct bytes_eq (xs ++ ys) → IsDistinct bytes_eq xs
unfolding IsDistinct
distinct_front [] ys h = tt
distinct_front (x ∷ xs) ys h = (all_front _ xs ys h.0, distinct_front xs ys h.1)

has_name_cons : (x : List ℕ) (mac : MacKey) (keys : List MacKey) → has_key x (mac ∷ keys) ≡ false
    → (bytes_eq x mac.principal ≡ false) × (has_key x keys ≡ false)
has_name_cons x mac keys h = by (bytes_eq x mac.principal) refl
  where
    by : (b : Bool) → bytes_eq x mac.principal ≡ b → (bytes_eq x mac.principal ≡ false) × (has_key x keys ≡ false)
    by true e = let at : true ≡ false = rw e at h in cc
    by false e = (e, rw e at h)

distinct_push : (keys : List MacKey) (x : List ℕ) → IsDistinct bytes_eq (principals_of keys) → has_key x keys ≡ false
    → IsDistinct bytes_eq (principals_of keys ++ x ∷ [])
unfolding IsDistinct
distinct_push [] x h new = (tt, tt)
distinct_push (mac ∷ keys) x h new =
    let parts = has_name_cons x mac keys new in
    (all_push _ (principals_of keys) x h.0 (flips x mac.principal parts.0), distinct_push keys x h.1 parts.1)

distinct_new : (keys : List MacKey) (x : List ℕ) → IsDistinct bytes_eq (principals_of keys ++ x ∷ [])
    → has_key x keys ≡ false
unfolding IsDistinct
distinct_new [] x h = refl
distinct_new (mac ∷ keys) x h =
    let other : bytes_eq x mac.principal ≡ false = flips mac.principal x (all_last _ (principals_of keys) x h.0) in
    rw other (distinct_new keys x h.1)

-- ---- one entry more

module _ {X : Type 0} (h : Entry → Option X) (entries : List Entry) (entry : Entry) where
  pushed_none : h entry ≡ None → filter_map h (entries ++ entry ∷ []) ≡ filter_map h entries
  pushed_none none = filter_map-append h entries (entry ∷ []) ∙ rw none (append-nil (filter_map h entries))

  pushed_some : (x : X) → h entry ≡ Some x → filter_map h (entries ++ entry ∷ []) ≡ filter_map h entries ++ x ∷ []
  pushed_some x some = filter_map-append h entries (entry ∷ []) ∙ rw some refl

-- the secrets that lines state have bytes
secrets_none : (texts : List (List ℕ)) (entries : List Entry) → AllZip States texts entries
    → concat (filter_map secret_in entries) ≡ [] → filter_map secret_in entries ≡ []
secrets_none [] [] s h = refl
secrets_none [] (entry ∷ entries) s h = absurd s
secrets_none (text ∷ texts) [] s h = absurd s
secrets_none (text ∷ texts) (Comment ∷ entries) s h = secrets_none texts entries s.1 h
secrets_none (text ∷ texts) (Mac mac ∷ entries) s h = secrets_none texts entries s.1 h
secrets_none (text ∷ texts) (Digest digest ∷ entries) s h = secrets_none texts entries s.1 h
secrets_none (text ∷ texts) (Secret secret ∷ entries) s h =
    let key : SpellsKey s.0.0 secret = s.0.2 in
    let some : 1 ≤ length secret = key.some in
    let size : length (secret ++ concat (filter_map secret_in entries)) ≡ 0 = ap length h in
    absurd (omega (arith, length-append secret (concat (filter_map secret_in entries))))

concat_push : (xs : List (List ℕ)) (x : List ℕ) → xs ≡ [] → concat (xs ++ x ∷ []) ≡ x
concat_push xs x none = rw none (append-nil x)

-- what an entry behind others needs, in terms of the entries
abbrev MayFollow : List Entry → Entry → Type 0
MayFollow entries Comment = Unit {0}
MayFollow entries (Mac mac) = has_key mac.principal (keys_in entries) ≡ false
MayFollow entries (Digest digest) = Unit {0}
MayFollow entries (Secret secret) = filter_map secret_in entries ≡ []

well_formed_push : (texts : List (List ℕ)) (entries : List Entry) (line : List ℕ) (entry : Entry)
    → AreWellFormed texts entries → States line entry → MayFollow entries entry
    → AreWellFormed (texts ++ line ∷ []) (entries ++ entry ∷ [])
well_formed_push texts entries line Comment w s may = record {
  stated = zip_push States texts entries line Comment w.stated s;
  one_key_each = rw (pushed_none key_in entries Comment refl) w.one_key_each;
  one_secret = rw (pushed_none secret_in entries Comment refl) w.one_secret;
}
well_formed_push texts entries line (Mac mac) w s may = record {
  stated = zip_push States texts entries line (Mac mac) w.stated s;
  one_key_each =
      rw (pushed_some key_in entries (Mac mac) mac refl)
      (rw (map-append (λ (m : MacKey). m.principal) (keys_in entries) (mac ∷ []))
      (distinct_push (keys_in entries) mac.principal w.one_key_each may));
  one_secret = rw (pushed_none secret_in entries (Mac mac) refl) w.one_secret;
}
well_formed_push texts entries line (Digest digest) w s may = record {
  stated = zip_push States texts entries line (Digest digest) w.stated s;
  one_key_each = rw (pushed_none key_in entries (Digest digest) refl) w.one_key_each;
  one_secret = rw (pushed_none secret_in entries (Digest digest) refl) w.one_secret;
}
well_formed_push texts entries line (Secret secret) w s may = record {
  stated = zip_push States texts entries line (Secret secret) w.stated s;
  one_key_each = rw (pushed_none key_in entries (Secret secret) refl) w.one_key_each;
  one_secret = rw (pushed_some secret_in entries (Secret secret) secret refl) (rw may (omega arith));
}

-- the last of well-formed entries may follow the others
follows : (texts : List (List ℕ)) (entries : List Entry) (entry : Entry) → AreWellFormed texts (entries ++ entry ∷ [])
    → MayFollow entries entry
follows texts entries Comment w = tt
follows texts entries (Mac mac) w =
    distinct_new (keys_in entries) mac.principal
    (rw (
      pushed_some key_in entries (Mac mac) mac refl,
      map-append (λ (m : MacKey). m.principal) (keys_in entries) (mac ∷ []),
    ) at w.one_key_each)
follows texts entries (Digest digest) w = tt
follows texts entries (Secret secret) w =
    few (filter_map secret_in entries) (rw (pushed_some secret_in entries (Secret secret) secret refl) at w.one_secret)
  where
    few : (secrets : List (List ℕ)) → length (secrets ++ secret ∷ []) ≤ 1 → secrets ≡ []
    few [] h = refl
    few (x ∷ xs) h = absurd (omega (arith, length-append xs (secret ∷ [])))

-- the lines at the front of well-formed ones are well formed
record HasFront (texts rest : List (List ℕ)) (entries : List Entry) : Type 0 where
  front : List Entry
  behind : List Entry
  split : entries ≡ front ++ behind
  well_formed : AreWellFormed texts front
  rests : AllZip States rest behind

well_formed_front : (texts rest : List (List ℕ)) (entries : List Entry) → AreWellFormed (texts ++ rest) entries
    → HasFront texts rest entries
well_formed_front texts rest entries w =
    let beside = zip_split States texts rest entries w.stated in
    let keys : principals_of (keys_in entries) ≡ principals_of (keys_in beside.front)
    ++ principals_of (keys_in beside.behind) =
    ap (λ (l : List Entry). principals_of (keys_in l)) beside.split
    ∙ ap principals_of (filter_map-append key_in beside.front beside.behind)
    ∙ map-append (λ (m : MacKey). m.principal) (keys_in beside.front) (keys_in beside.behind) in
    let secrets : length (filter_map secret_in entries) ≡ length (filter_map secret_in beside.front)
    + length (filter_map secret_in beside.behind) =
    ap (λ (l : List Entry). length (filter_map secret_in l)) beside.split
    ∙ ap length (filter_map-append secret_in beside.front beside.behind)
    ∙ length-append (filter_map secret_in beside.front) (filter_map secret_in beside.behind) in
    let one = w.one_secret in
    record {
      front = beside.front;
      behind = beside.behind;
      split = beside.split;
      well_formed = record {
        stated = beside.stands;
        one_key_each = distinct_front (principals_of (keys_in beside.front)) (principals_of (keys_in beside.behind))
            (rw keys at w.one_key_each);
        one_secret = omega (arith, secrets, one);
      };
      rests = beside.rests;
    }

-- ---- the file so far

-- an entry that the file takes may follow those of the file
may_follow : (texts : List (List ℕ)) (entries : List Entry) (old new : KeyFile) (entry : Entry)
    → AreWellFormed texts entries → IsOfEntries entries old
    → with_entry old entry ≡ Some new → MayFollow entries entry
may_follow texts entries old new Comment w is added = tt
may_follow texts entries old new (Mac mac) w is added = by (has_key mac.principal old.auth.keys) refl
  where
    by : (b : Bool) → has_key mac.principal old.auth.keys ≡ b → has_key mac.principal (keys_in entries) ≡ false
    by true e = let at : None ≡ Some new = rw e at added in cc
    by false e = rw is.keys at e
may_follow texts entries old new (Digest digest) w is added = tt
may_follow texts entries old new (Secret secret) w is added =
    secrets_none texts entries w.stated (sym is.secret ∙ by old.secret added)
  where
    by : (kept : List ℕ) → with_secret old kept secret ≡ Some new → kept ≡ []
    by [] e = refl
    by (b ∷ bytes) e = cc

-- an entry that the file refuses may not follow those of the file
may_not_follow : (entries : List Entry) (old : KeyFile) (entry : Entry) → IsOfEntries entries old
    → with_entry old entry ≡ None → ¬ MayFollow entries entry
may_not_follow entries old Comment is refused may = cc refused
may_not_follow entries old (Mac mac) is refused may =
    let new : has_key mac.principal old.auth.keys ≡ false = rw is.keys may in
    let at = rw new at refused in
    cc at
may_not_follow entries old (Digest digest) is refused may = cc refused
may_not_follow entries old (Secret secret) is refused may =
    let none : old.secret ≡ [] = is.secret ∙ ap concat may in
    let at = rw none at refused in
    cc at

-- the file with an entry more
of_entries_push : (entries : List Entry) (old new : KeyFile) (entry : Entry) → IsOfEntries entries old
    → MayFollow entries entry → with_entry old entry ≡ Some new
    → IsOfEntries (entries ++ entry ∷ []) new
of_entries_push entries old new Comment is may added =
    let same : old ≡ new = cc in
    rw (← same) record {
      keys = is.keys ∙ sym (pushed_none key_in entries Comment refl);
      digests = is.digests ∙ sym (pushed_none digest_in entries Comment refl);
      secret = is.secret ∙ ap concat (sym (pushed_none secret_in entries Comment refl));
    }
of_entries_push entries old new (Mac mac) is may added =
    let fresh : has_key mac.principal old.auth.keys ≡ false = rw is.keys may in
    let at = rw fresh at added in
    let same : record old { auth = record old.auth { keys = old.auth.keys ++ mac ∷ [] } } ≡ new = cc at in
    rw (← same) record {
      keys = ap (λ (l : List MacKey). l ++ mac ∷ []) is.keys ∙ sym (pushed_some key_in entries (Mac mac) mac refl);
      digests = is.digests ∙ sym (pushed_none digest_in entries (Mac mac) refl);
      secret = is.secret ∙ ap concat (sym (pushed_none secret_in entries (Mac mac) refl));
    }
of_entries_push entries old new (Digest digest) is may added =
    let same : record old { auth = record old.auth { digests = old.auth.digests ++ digest ∷ [] } } ≡ new = cc in
    rw (← same) record {
      keys = is.keys ∙ sym (pushed_none key_in entries (Digest digest) refl);
      digests = ap (λ (l : List (List ℕ)). l ++ digest ∷ []) is.digests
          ∙ sym (pushed_some digest_in entries (Digest digest) digest refl);
      secret = is.secret ∙ ap concat (sym (pushed_none secret_in entries (Digest digest) refl));
    }
of_entries_push entries old new (Secret secret) is may added =
    let none : old.secret ≡ [] = is.secret ∙ ap concat may in
    let at = rw none at added in
    let same : record old { secret = secret } ≡ new = cc at in
    rw (← same) record {
      keys = is.keys ∙ sym (pushed_none key_in entries (Secret secret) refl);
      digests = is.digests ∙ sym (pushed_none digest_in entries (Secret secret) refl);
      secret = sym (ap concat (pushed_some secret_in entries (Secret secret) secret refl)
          ∙ concat_push (filter_map secret_in entries) secret may);
    }

-- what the lines so far say, and the lines that are left
pub record IsReadTo (text : List ℕ) (number : ℕ) (file : KeyFile) (rest : List (List ℕ)) : Type 0 where
  pub front : List (List ℕ)
  pub entries : List Entry
  pub split : lines text ≡ front ++ rest
  pub count : number ≡ length front
  pub well_formed : AreWellFormed front entries
  pub stated : IsOfEntries entries file

pub read_none : (text : List ℕ) (file : KeyFile) → file.auth.keys ≡ [] → file.auth.digests ≡ [] → file.secret ≡ []
    → IsReadTo text 0 file (lines text)
unfolding IsDistinct
read_none text file keys digests secret = record {
  front = [];
  entries = [];
  split = refl;
  count = refl;
  well_formed = record { stated = tt; one_key_each = tt; one_secret = omega arith };
  stated = record { keys = keys; digests = digests; secret = secret };
}

-- one line more is read
pub read_more : (text : List ℕ) (number : ℕ) (old new : KeyFile) (line : List ℕ) (rest : List (List ℕ))
    → IsReadTo text number old (line ∷ rest) → IsTaken old line new
    → IsReadTo text (number + 1) new rest
read_more text number old new line rest r taken =
    let may = may_follow r.front r.entries old new taken.entry r.well_formed r.stated taken.added in
    let count = r.count in
    record {
      front = r.front ++ line ∷ [];
      entries = r.entries ++ taken.entry ∷ [];
      split = r.split ∙ sym (append_assoc r.front (line ∷ []) rest);
      count = omega (arith, count, length-append r.front (line ∷ []));
      well_formed = well_formed_push r.front r.entries line taken.entry r.well_formed taken.stated may;
      stated = of_entries_push r.entries old new taken.entry r.stated may taken.added;
    }

-- a line that is refused is the first malformed one
pub first_refused : (text : List ℕ) (number : ℕ) (old : KeyFile) (line : List ℕ) (rest : List (List ℕ))
    → IsReadTo text number old (line ∷ rest) → IsLineRefused old line
    → IsFirstMalformed text (number + 1)
first_refused text number old line rest r refused =
    let count = r.count in
    record {
      before = r.front;
      malformed = line;
      behind = rest;
      split = r.split;
      place = omega (arith, count);
      entries = r.entries;
      well_formed = r.well_formed;
      ill_formed = λ more w. ill more (well_formed_front r.front (line ∷ []) more w) w;
    }
  where
    last : (behind : List Entry) → AllZip States (line ∷ []) behind → (entry : Entry) × (behind ≡ entry ∷ [])
        × States line entry
    last [] s = absurd s
    last (entry ∷ []) s = (entry, refl, s.0)
    last (entry ∷ other ∷ more) s = absurd s.1

    ill : (more : List Entry) → HasFront r.front (line ∷ []) more → AreWellFormed (r.front ++ line ∷ []) more → ⊥
    ill more has w =
        let end = last has.behind has.rests in
        let same : has.front ≡ r.entries =
        zip_once States states_once r.front has.front r.entries has.well_formed.stated r.well_formed.stated in
        let whole : more ≡ r.entries ++ end.0 ∷ [] = has.split ∙ ap (λ (l : List Entry). l ++ has.behind) same
        ∙ ap (λ (l : List Entry). r.entries ++ l) end.1 in
        may_not_follow r.entries old end.0 r.stated (refused end.0 end.2)
        (follows (r.front ++ line ∷ []) r.entries end.0 (rw whole at w))

-- where no line is left the file is read
pub read_whole : (text : List ℕ) (number : ℕ) (file : KeyFile) → IsReadTo text number file [] → IsKeyFile text file
read_whole text number file r = record {
  entries = r.entries;
  well_formed = rw (r.split ∙ append-nil r.front) r.well_formed;
  stated = r.stated;
}

-- ---- a text reads as one thing

entries_once : (texts : List (List ℕ)) (xs ys : List Entry) → AreWellFormed texts xs → AreWellFormed texts ys → xs ≡ ys
entries_once texts xs ys w v = zip_once States states_once texts xs ys w.stated v.stated

pub one_file : (text : List ℕ) (file other : KeyFile) → IsKeyFile text file → IsKeyFile text other → file ≡ other
one_file text file other f g =
    let same : f.entries ≡ g.entries = entries_once (lines text) f.entries g.entries f.well_formed g.well_formed in
    let keys : file.auth.keys ≡ other.auth.keys = f.stated.keys ∙ ap keys_in same ∙ sym g.stated.keys in
    let digests : file.auth.digests ≡ other.auth.digests = f.stated.digests ∙ ap (filter_map digest_in) same
    ∙ sym g.stated.digests in
    let secret : file.secret ≡ other.secret = f.stated.secret
    ∙ ap (λ (l : List Entry). concat (filter_map secret_in l)) same ∙ sym g.stated.secret in
    λ i. record { auth = record { keys = keys i; digests = digests i }; secret = secret i }

pub file_or_line : (text : List ℕ) (file : KeyFile) (number : ℕ) → IsKeyFile text file → ¬ IsFirstMalformed text number
file_or_line text file number f m =
    let split : lines text ≡ (m.before ++ m.malformed ∷ []) ++ m.behind = m.split
    ∙ sym (append_assoc m.before (m.malformed ∷ []) m.behind) in
    let has = well_formed_front (m.before ++ m.malformed ∷ []) m.behind f.entries (rw split at f.well_formed) in
    m.ill_formed has.front has.well_formed

-- of two texts with one whole, the longer front goes on behind the other
goes_on : (xs ys : List (List ℕ)) (x y : List ℕ) (r s : List (List ℕ)) → xs ++ x ∷ r ≡ ys ++ y ∷ s
    → length xs < length ys → (more : List (List ℕ)) × (ys ≡ xs ++ x ∷ more)
goes_on [] [] x y r s e less = absurd (omega arith)
goes_on [] (b ∷ ys) x y r s e less = let first : x ≡ b = cc in (ys, ap (λ (a : List ℕ). a ∷ ys) (sym first))
goes_on (a ∷ xs) [] x y r s e less = absurd (omega arith)
goes_on (a ∷ xs) (b ∷ ys) x y r s e less =
    let first : a ≡ b = cc in
    let rest : xs ++ x ∷ r ≡ ys ++ y ∷ s = cc in
    let more = goes_on xs ys x y r s rest (omega arith) in
    let tail : ys ≡ xs ++ x ∷ more.0 = more.1 in
    (more.0, cc)

not_before : (text : List ℕ) (number other : ℕ) (m : IsFirstMalformed text number) (n : IsFirstMalformed text other)
    → ¬ (length m.before < length n.before)
not_before text number other m n less =
    let more = goes_on m.before n.before m.malformed n.malformed m.behind n.behind (sym m.split ∙ n.split) less in
    let split : n.before ≡ (m.before ++ m.malformed ∷ []) ++ more.0 = more.1
    ∙ sym (append_assoc m.before (m.malformed ∷ []) more.0) in
    let has = well_formed_front (m.before ++ m.malformed ∷ []) more.0 n.entries (rw split at n.well_formed) in
    m.ill_formed has.front has.well_formed

pub one_line : (text : List ℕ) (number other : ℕ) → IsFirstMalformed text number → IsFirstMalformed text other
    → number ≡ other
one_line text number other m n =
    let place = m.place in
    let elsewhere = n.place in
    elim (cases_lt (length m.before) (length n.before)) [
      | inl less ↦ absurd (not_before text number other m n less)
      | inr more ↦ elim (cases_lt (length n.before) (length m.before)) [
        | inl less ↦ absurd (not_before text other number n m less)
        | inr equal ↦ omega arith
      ]
    ]

-- what is answered for a key file
pub only_file : (text : List ℕ) (file : KeyFile) (r : Result KeyFile KeyFault) → IfOk r (λ read. IsKeyFile text read)
    → IfErr r (λ fault. IsCause text fault) → IsKeyFile text file
    → (r ≡ Ok file) ⊎ (r ≡ Err NoMemory)
only_file text file (Ok read) ok err is = inl (ap Ok (one_file text read file ok is))
only_file text file (Err (Line number)) ok err is = absurd (file_or_line text file number is err)
only_file text file (Err NoMemory) ok err is = inr refl

-- what is answered for a text with a malformed line
pub only_line : (text : List ℕ) (number : ℕ) (r : Result KeyFile KeyFault) → IfOk r (λ read. IsKeyFile text read)
    → IfErr r (λ fault. IsCause text fault) → IsFirstMalformed text number
    → (r ≡ Err (Line number)) ⊎ (r ≡ Err NoMemory)
only_line text number (Ok read) ok err is = absurd (file_or_line text read number ok is)
only_line text number (Err (Line told)) ok err is =
    inl (ap (λ (n : ℕ). Err (Line n)) (one_line text told number err is))
only_line text number (Err NoMemory) ok err is = inr refl
