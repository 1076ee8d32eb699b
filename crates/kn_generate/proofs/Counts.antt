-- What is counted of the system of a query is what is counted of the query.
use Rattle.std.proofs.Common.{◌≡◌, ◌∙◌, ◌+◌, ◌⊎◌, ℕ, suc, Bool, cond, not, ◌&&◌, List, [], ◌∷◌, length, map}
use Rattle.std.proofs.Common.{false, slice_index, Some, inl, inr, refl, sym, ap, arith}
use Rattle.std.specs.Prelude.{nat_lt, sum_by, count_by}
use Rattle.std.specs.List.{list_any, IsDistinct, AllByRecursion}
use Rattle.std.specs.Str.{bytes_eq}
use Rattle.std.proofs.lemmas.Bool.{false_from_ne_true}
use Rattle.std.proofs.lemmas.List.Sums.{sum_by-cons}
use Rattle.kn_principal.specs.Principals.{policy}
use Rattle.kn_meaning.specs.Critical.{licensees_nodes}
use Rattle.kn_meaning.specs.Formulas.{Levels}
use Rattle.kn_meaning.specs.Equations.{Equations, Statement, is_requester}
use Rattle.kn_meaning.specs.Occurring.{occurring, licensees_names}
use Rattle.kn_system.specs.Rows.{SystemRow}
use Rattle.kn_system.specs.Equations.{SystemEquations, node_total, leaf_total}
use Rattle.kn_system.specs.Least.{least_levels}
use Rattle.kn_system.specs.Lawful.{IsLeast}
use Rattle.kn_rows.specs.Numbering.{IsNumber, IsAbsent, AreDistinct, AreNamesOf, AreRowsOf, HaveLevels}
use Rattle.kn_rows.specs.Numbering.{licensees_pieces}
use Rattle.kn_rows.proofs.Names.{absent-among, bytes_eq-true, number-among, number_or_none}
use Rattle.kn_rows.proofs.NewNames.{AreNumbered-length}
use Rattle.kn_rows.proofs.Pieces.{licensees-nodes, licensees-uses, same-nodes, same-uses}
use Rattle.kn_answer.specs.Built.{Interned, IsBuilt}
use Rattle.kn_answer.proofs.NamedLevels.{level_at, level_at-have, IsLeast-by_name}
use Rattle.kn_generate.specs.declared.query.Measured.{Measured}
use Rattle.kn_generate.specs.Measured.{granted_count, HasCounts, IsMeasured}

-- who has no number differs from all names
differs-from : (name : List ℕ) (names : List (List ℕ)) → IsAbsent names name
    → AllByRecursion (λ other. bytes_eq name other ≡ false) names
differs-from name [] none = tt
differs-from name (other ∷ names) none = (
  false_from_ne_true (bytes_eq name other) (λ e. none 0 (ap Some (sym (bytes_eq-true name other e)))),
  differs-from name names (λ p here. none (suc p) here),
)

-- where no name has two numbers, no name stands twice
each_once : (names : List (List ℕ)) → AreDistinct names → IsDistinct bytes_eq names
unfolding IsDistinct
each_once [] distinct = tt
each_once (name ∷ names) distinct = (
  differs-from name names (λ p here. let same : 0 ≡ suc p = distinct 0 (suc p) name refl here in
      absurd (omega (arith, same))),
  each_once names (λ p q item a b. let same : suc p ≡ suc q = distinct (suc p) (suc q) item a b in omega (arith, same)),
)

among-same : (principals names : List (List ℕ)) → AreNamesOf principals names → (name : List ℕ)
    → list_any (bytes_eq name) names ≡ list_any (bytes_eq name) principals
among-same principals names are name = by (number_or_none names name)
  where
    by : ((p : ℕ) × IsNumber names name p) ⊎ IsAbsent names name
        → list_any (bytes_eq name) names ≡ list_any (bytes_eq name) principals
    by (inl number) = number-among names name number.0 number.1 ∙ sym (are.only number.0 name number.1)
    by (inr none) = absent-among names name none
        ∙ sym (false_from_ne_true (list_any (bytes_eq name) principals) (λ among. let number = are.all name among in
        none number.0 number.1))

-- as many are granted by their numbers as by their names
granted-named : (asks : List ℕ → Bool) (at : Levels) (names : List (List ℕ)) (levels : List ℕ)
    → length levels ≡ length names → HaveLevels names at levels
    → granted_count (map asks names) levels ≡ count_by (λ name. not (asks name) && nat_lt 0 (at name)) names
granted-named asks at [] levels size have = refl
granted-named asks at (name ∷ names) [] size have = absurd (omega (arith, size))
granted-named asks at (name ∷ names) (level ∷ levels) size have =
    let first : level ≡ at name = have 0 name refl in
    let rest = granted-named asks at names levels (omega (arith, size)) (λ p other here. have (suc p) other here) in
    ap (λ (l : ℕ). cond (not (asks name) && nat_lt 0 l) 1 0 + granted_count (map asks names) levels) first
    ∙ ap (λ (n : ℕ). cond (not (asks name) && nat_lt 0 (at name)) 1 0 + n) rest
    ∙ sym (sum_by-cons (λ other. cond (not (asks other) && nat_lt 0 (at other)) 1 0) name names)

-- the rows of statements have the nodes of their formulas, and as many uses as these name principals
rows-nodes : (top : ℕ) (names : List (List ℕ)) (statements : List Statement) (rows : List SystemRow)
    → AreRowsOf top names statements rows → node_total rows ≡ sum_by (λ s. licensees_nodes s.licensees) statements
rows-nodes top names [] [] are = refl
rows-nodes top names [] (row ∷ rows) are = absurd are
rows-nodes top names (s ∷ statements) [] are = absurd are
rows-nodes top names (s ∷ statements) (row ∷ rows) are =
    let first = same-nodes names (licensees_pieces s.licensees) row.formula are.0.pieces
    ∙ licensees-nodes s.licensees in
    let rest = rows-nodes top names statements rows are.1 in
    let sum = sum_by-cons (λ (x : Statement). licensees_nodes x.licensees) s statements in
    omega (arith, first, rest, sum)

rows-uses : (top : ℕ) (names : List (List ℕ)) (statements : List Statement) (rows : List SystemRow)
    → AreRowsOf top names statements rows
    → leaf_total rows ≡ sum_by (λ s. length (licensees_names s.licensees)) statements
rows-uses top names [] [] are = refl
rows-uses top names [] (row ∷ rows) are = absurd are
rows-uses top names (s ∷ statements) [] are = absurd are
rows-uses top names (s ∷ statements) (row ∷ rows) are =
    let first = same-uses names (licensees_pieces s.licensees) row.formula are.0.pieces ∙ licensees-uses s.licensees in
    let rest = rows-uses top names statements rows are.1 in
    let sum = sum_by-cons (λ (x : Statement). length (licensees_names x.licensees)) s statements in
    omega (arith, first, rest, sum)

-- what is counted of the system is what is counted of the query
pub counts-named : (e : Equations) (built : Interned) (m : Measured) → IsBuilt e built
    → IsLeast built.system (least_levels built.system)
    → length (least_levels built.system) ≡ length built.system.requesters
    → m.level ≡ slice_index (least_levels built.system) 0 → HasCounts built.system m → IsMeasured e m
counts-named e built m is least size level counts =
    let names : List (List ℕ) = built.names in
    let s : SystemEquations = built.system in
    let levels : List ℕ = least_levels s in
    let each : length names ≡ length s.requesters = AreNumbered-length e.requesters names s.requesters is.of.numbered in
    let at : Levels = level_at levels names in
    record {
      level = record {
        levels = at;
        least = IsLeast-by_name e names s is.of levels least;
        here = sym (level_at-have levels names is.of.numbered.distinct 0 policy is.of.numbered.first) ∙ sym level;
      };
      names = names;
      each_once = each_once names is.of.numbered.distinct;
      occur = among-same (occurring e) names is.principals;
      rows = counts.rows ∙ ap (λ (flags : List Bool). granted_count flags levels) is.of.numbered.flagged
          ∙ granted-named (is_requester e) at names levels (size
          ∙ sym each) (level_at-have levels names is.of.numbered.distinct);
      principals = counts.principals ∙ sym each;
      nodes = counts.nodes ∙ rows-nodes e.top names e.statements s.rows is.of.rows;
      uses = counts.uses ∙ rows-uses e.top names e.statements s.rows is.of.rows;
      levels = counts.levels ∙ is.of.top;
    }
