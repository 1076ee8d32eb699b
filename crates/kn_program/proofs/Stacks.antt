-- Parts of what is read, as they stand on the stack.
use Rattle.std.proofs.Common.{◌≡◌, ℕ, ◌+◌, ◌-◌, ◌<◌, List, [], ◌∷◌, ◌++◌, length, Some, None, Ok, refl, sym, ap, ◌∙◌}
use Rattle.std.proofs.Common.{arith}
use Rattle.std.proofs.Common.{append_assoc, length-append}
use Rattle.kn_fields.specs.Words.{Word}
use Rattle.kn_fields.specs.Reading.{Read, taken, read_mark}
use Rattle.kn_fields.proofs.Steps.{not_none, going_more, going_last}
use Rattle.kn_trees.specs.declared.program.Expr.{Expr}
use Rattle.kn_trees.specs.declared.program.Expr.TheVariants as E
use Rattle.kn_trees.specs.declared.program.Link2.{Link2}
use Rattle.kn_trees.specs.declared.program.Operation.{Operation}
use Rattle.kn_trees.specs.Forms.{link, links_of}
use Rattle.kn_program.specs.Signs.{joint_text, operation_of}
use Rattle.kn_program.specs.Trees.{several, chained}
use Rattle.kn_program.specs.declared.signs.Joint.{Joint}
use Rattle.kn_program.specs.declared.signs.Precedence.{Precedence}
use Rattle.kn_program.specs.Reading.{test_at, side_at}
use Rattle.kn_program.specs.Stacking.{Stands, PutsBehind}
use Rattle.kn_program.proofs.TreeLemmas.{joined_more}
use Rattle.kn_program.proofs.Steps.{Tests, Links}

-- some expression stands where one was

last_of : (list : List Expr) → 0 < length list → (below : List Expr) × (last : Expr) × (list ≡ below ++ last ∷ [])
last_of [] some = absurd (omega arith)
last_of (last ∷ []) some = ([], last, refl)
last_of (first ∷ next ∷ list) some =
    let behind = last_of (next ∷ list) (omega arith) in
    (first ∷ behind.0, behind.1, ap (λ list. first ∷ list) behind.2)

pub still_some : {wanted : Expr → Read Expr} {old stack : List Expr} {rest : List Word} → 0 < length old
    → PutsBehind (Ok tt) wanted old stack rest → 0 < length stack
still_some {old} some puts =
    let last = last_of old some in
    let stands = puts last.0 last.1 last.2 in
    omega (arith, ap length stands.top, length-append last.0 (stands.read ∷ []))

-- an expression more, on top of parts that stand there

on_parts : {wanted : Read Expr} {stack longer : List Expr} {rest : List Word} (below parts : List Expr)
    → stack ≡ below ++ parts
    → (read : Stands wanted stack longer rest) → longer ≡ below ++ (parts ++ read.read ∷ [])
on_parts below parts stand read = rw (read.top, stand) (append_assoc below parts (read.read ∷ []))

one_more : {A : Type 0} (n : ℕ) (list : List A) (last : A) → length list ≡ n → length (list ++ last ∷ []) ≡ n + 1
one_more n list last counted = omega (arith, length-append list (last ∷ []))

-- tests of which these are read, on top of what stood there
pub record Parts (joint : Joint) (budget left count : ℕ) (below stack : List Expr) (words : List Word)
    (all : Read Expr) : Type 0 where
  pub parts : List Expr
  pub stand : stack ≡ below ++ parts
  pub counted : length parts ≡ count
  pub some : parts ≡ [] → ⊥
  pub going : Tests joint budget left parts words all

-- whatever stood below a first one
abbrev pub PartsStand : Joint → ℕ → ℕ → ℕ → List Expr → List Expr → List Word → (Expr → Read Expr) → Type 0
PartsStand joint budget left count old stack words all =
    (below : List Expr) (first : Expr) → old ≡ below ++ first ∷ []
    → Parts joint budget left count below stack words (all first)

-- a test more is read
module _ {joint : Joint} {budget left count : ℕ} {below stack longer : List Expr} {words rest : List Word} {all :
    Read Expr}
    (p : Parts joint budget left count below stack words all) (some : 0 < left)
    (read : Stands (test_at budget joint words) stack longer rest) where
  -- and a joint behind it
  pub parts_more : {further : List Word} → read_mark (joint_text joint) rest ≡ Some (tt, further)
      → Parts joint budget (left - 1) (count + 1) below longer further all
  parts_more sign = record {
    parts = p.parts ++ read.read ∷ [];
    stand = on_parts below p.parts p.stand read;
    counted = one_more count p.parts read.read p.counted;
    some = not_none p.parts _ read.read refl;
    going = going_more p.going some read.is refl sign;
  }

  -- no joint is behind it
  pub parts_last : {whole : List Expr} {end : List Word} → read_mark (joint_text joint) rest ≡ None → end ≡ rest
      → ((front parts : List Expr) → longer ≡ front ++ parts → length parts ≡ count + 1
      → whole ≡ front ++ several joint parts ∷ [])
      → Stands all below whole end
  parts_last none same joins =
      let parts : List Expr = p.parts ++ read.read ∷ [] in
      record {
        read = several joint parts;
        is = going_last p.going some read.is none same (joined_more joint p.parts read.read p.some);
        top = joins below parts (on_parts below p.parts p.stand read) (one_more count p.parts read.read p.counted);
      }

-- links, one by one

links_more : {longer : List Operation} (signs : List Operation) (rights : List Expr) (sign : Operation) (right : Expr)
    → length rights ≡ length signs
    → longer ≡ signs ++ sign ∷ [] → links_of longer (rights ++ right ∷ []) ≡ links_of signs rights ++ link sign right
    ∷ []
links_more signs rights sign right same added = rw added (by signs rights same)
  where
    by : (signs : List Operation) (rights : List Expr) → length rights ≡ length signs
        → links_of (signs ++ sign ∷ []) (rights ++ right ∷ []) ≡ links_of signs rights ++ link sign right ∷ []
    by [] [] same = refl
    by [] (other ∷ rights) same = absurd (omega arith)
    by (s ∷ signs) [] same = absurd (omega arith)
    by (s ∷ signs) (other ∷ rights) same = ap (λ links. link s other ∷ links) (by signs rights (omega arith))

chain_some : (first : Expr) (links : List Link2) (last : Link2)
    → E.Chain first (links ++ last ∷ []) ≡ chained first (links ++ last ∷ [])
unfolding chained
chain_some first [] last = refl
chain_some first (link ∷ links) last = refl

-- operations of which these right sides are read, on top of a first side
pub record Rights (level : Precedence) (budget left : ℕ) (sign : Operation) (signs : List Operation) (first : Expr)
    (below stack : List Expr)
    (words : List Word) (all : Read Expr) : Type 0 where
  pub rights : List Expr
  pub stand : stack ≡ below ++ first ∷ rights
  pub counted : length rights ≡ length signs
  pub going : Links level first budget left sign (links_of signs rights) words all

-- whatever stood below that
abbrev pub RightsStand : Precedence → ℕ → ℕ → Operation → List Operation → List Expr → List Expr → List Word
    → (Expr → Read Expr) → Type 0
RightsStand level budget left sign signs old stack words all =
    (below : List Expr) (first : Expr) → old ≡ below ++ first ∷ []
    → Rights level budget left sign signs first below stack words (all first)

-- an operation more is read
module _ {level : Precedence} {budget left : ℕ} {sign : Operation} {signs longer_signs : List Operation} {first :
    Expr} {below stack longer : List Expr}
    {words rest : List Word} {all : Read Expr} (r : Rights level budget left sign signs first below stack words all)
    (some : 0 < left)
    (read : Stands (side_at budget level words) stack longer rest) (added : longer_signs ≡ signs ++ sign ∷ []) where
  as_many : length (r.rights ++ read.read ∷ []) ≡ length longer_signs
  as_many = one_more _ r.rights read.read r.counted ∙ sym (ap length added ∙ one_more _ signs sign refl)

  -- and a sign behind it
  pub rights_more : {next : Operation} {further : List Word} → taken (operation_of level) rest ≡ Some (next, further)
      → Rights level budget (left - 1) next longer_signs first below longer further all
  rights_more found = record {
    rights = r.rights ++ read.read ∷ [];
    stand = on_parts below (first ∷ r.rights) r.stand read;
    counted = as_many;
    going = going_more r.going some read.is (links_more signs r.rights sign read.read r.counted added) found;
  }

  -- no sign is behind it
  pub rights_last : {whole : List Expr} {end : List Word} → taken (operation_of level) rest ≡ None → end ≡ rest
      → ((front rights : List Expr) (first : Expr) → longer ≡ front ++ first ∷ rights
      → length rights ≡ length longer_signs
      → whole ≡ front ++ E.Chain first (links_of longer_signs rights) ∷ [])
      → Stands all below whole end
  rights_last none same chains =
      let rights : List Expr = r.rights ++ read.read ∷ [] in
      let links : links_of longer_signs rights ≡ links_of signs r.rights ++ link sign read.read ∷ [] =
      links_more signs r.rights sign read.read r.counted added in
      record {
        read = E.Chain first (links_of longer_signs rights);
        is = going_last r.going some read.is none same (ap (E.Chain first) links
            ∙ chain_some first (links_of signs r.rights) (link sign read.read));
        top = chains below rights first (on_parts below (first ∷ r.rights) r.stand read) as_many;
      }
