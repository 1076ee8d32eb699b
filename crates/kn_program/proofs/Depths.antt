-- A program that tokens spell has no more levels than their brackets and prefix signs allow: 25 for each bracket that
-- is open, and as many for what stands in the innermost.
use Rattle.std.proofs.Common.{◌≡◌, ℕ, ◌+◌, ◌*◌, ◌≤◌, max, pos, List, [], ◌∷◌, ◌++◌, map, codes, Some, Ok, refl, ap}
use Rattle.std.proofs.Common.{arith}
use Rattle.kn_lex.specs.Cutting.{TokenView}
use Rattle.kn_fields.specs.Depth.{IsTooDeep}
use Rattle.kn_fields.proofs.Nesting.{Fits, shallow_fits, fits_here, fits_front, fits_between, fits_group, fits_block}
use Rattle.kn_trees.specs.Formulas.{greatest_of}
use Rattle.kn_trees.specs.Depths.{expr_depth, program_depth, clause_depth}
use Rattle.kn_trees.proofs.ExprDepthLaws.{link_depths, depth-Truth, depth-Whole, depth-Text, depth-Name, depth-Not}
use Rattle.kn_trees.proofs.ExprDepthLaws.{depth-Minus, depth-Number, depth-Deref, depth-And, depth-Or, depth-Compare}
use Rattle.kn_trees.proofs.ExprDepthLaws.{depth-Chain, depth-Top, depth-Value, depth-Block, depth-clause, depth-program}
use Rattle.kn_trees.specs.declared.program.Expr.{Expr}
use Rattle.kn_trees.specs.declared.program.Link2.{Link2}
use Rattle.kn_trees.specs.declared.program.Program.{Program as ProgramTree}
use Rattle.kn_trees.specs.declared.program.Clause.{Clause as ClauseTree}
use Rattle.kn_program.specs.Signs.{operation_text, comparison_text}
use Rattle.kn_fields.specs.Words.{Word}
use Rattle.kn_fields.specs.Words.Word.{sign as sign_word}
use Rattle.kn_program.specs.Trees.{joined, chained, with_prefix}
use Rattle.kn_program.specs.Grammar.{Or, And, Not, Cmp, Sum, Product, Power, Unary, Atom, or_words, and_words}
use Rattle.kn_program.specs.Grammar.{not_words, cmp_words, sum_words, product_words, power_words, unary_words}
use Rattle.kn_program.specs.Grammar.{atom_words, or_parts, and_parts, not_tree, cmp_tree, sum_first, sum_links}
use Rattle.kn_program.specs.Grammar.{product_first, product_links, power_first, power_links, unary_tree, atom_tree}
use Rattle.kn_program.specs.Grammar.{or_tree, Program, Clause, program_words, entry_words, clause_words, program_with}
use Rattle.kn_program.specs.Grammar.{program_clauses, entry_clauses, clause_tree, program_tree}
use Rattle.kn_program.proofs.Derivations.{ands, either, nots, each, cmp, negated, sum, compared, product, added, power}
use Rattle.kn_program.proofs.Derivations.{multiplied, unary, raised, atom, signed, group, literal, number, truth, name}
use Rattle.kn_program.proofs.Derivations.{ends, goes_on, nothing, something, bare, valued, nested}
use Rattle.kn_program.specs.Conditions.{program_of}
use Rattle.kn_program.specs.declared.signs.Joint.{Joint}
use Rattle.kn_program.specs.declared.signs.Joint.TheVariants as joint
use Rattle.kn_program.specs.declared.signs.Prefix.{Prefix}
use Rattle.kn_program.specs.declared.signs.Prefix.TheVariants.{Minus, Number, Deref}
use Rattle.kn_program.proofs.Stated.{program_stands}
use Rattle.kn_program.proofs.Nesting.{fits_prefix, fits_not, plain_operation, plain_comparison, and_closes, not_closes}
use Rattle.kn_program.proofs.Nesting.{or_closes, sum_closes, product_closes, power_closes, unary_closes, entry_closes}

abbrev parts_depth : List Expr → ℕ
parts_depth parts = greatest_of (map expr_depth parts)

abbrev links_depth : List Link2 → ℕ
links_depth links = greatest_of (link_depths links)

abbrev clauses_depth : List ClauseTree → ℕ
clauses_depth clauses = greatest_of (map clause_depth clauses)

depth_joined : (between : Joint) (parts : List Expr) → expr_depth (joined between parts) ≤ 1 + parts_depth parts
unfolding joined
depth_joined joint.Or [] = omega (arith, depth-Or [])
depth_joined joint.And [] = omega (arith, depth-And [])
depth_joined between (part ∷ []) = omega arith
depth_joined joint.Or (part ∷ next ∷ parts) = omega (arith, depth-Or (part ∷ next ∷ parts))
depth_joined joint.And (part ∷ next ∷ parts) = omega (arith, depth-And (part ∷ next ∷ parts))

depth_chained : (first : Expr) (links : List Link2)
    → expr_depth (chained first links) ≤ 1 + max (expr_depth first) (links_depth links)
unfolding chained
depth_chained first [] = omega arith
depth_chained first (link ∷ links) = omega (arith, depth-Chain first (link ∷ links))

depth_prefixed : (sign : Prefix) (part : Expr) → expr_depth (with_prefix sign part) ≡ 1 + expr_depth part
depth_prefixed Minus part = depth-Minus part
depth_prefixed Number part = depth-Number part
depth_prefixed Deref part = depth-Deref part

-- a first side and the links behind it, where so many levels are left
abbrev ChainFits : ℕ → Expr → List Link2 → ℕ → Type 0
ChainFits depth first links most = (expr_depth first + 25 * depth ≤ most) × (links_depth links + 25 * depth ≤ most + 1)

mutual
  unfolding or_words and_words not_words cmp_words sum_words product_words power_words unary_words atom_words or_parts
      and_parts not_tree cmp_tree sum_first sum_links product_first product_links power_first power_links unary_tree
      atom_tree

  or_levels : (depth run : ℕ) (o : Or) → Fits depth run (or_words o) → parts_depth (or_parts o) + 25 * depth ≤ 1625
  or_levels depth run (ands a) fits = omega (arith, depth_joined joint.And (and_parts a), and_levels depth run a fits)
  or_levels depth run (either a o) fits =
      omega (
        arith,
        depth_joined joint.And (and_parts a),
        and_levels depth run a (fits_front depth run (and_words a) (sign_word (codes "||") ∷ or_words o) fits),
        or_levels depth 0 o (fits_between depth run (and_words a) (or_words o) (sign_word (codes "||")) (and_closes a)
            (λ depth. refl) fits),
      )

  and_levels : (depth run : ℕ) (a : And) → Fits depth run (and_words a) → parts_depth (and_parts a) + 25 * depth ≤ 1624
  and_levels depth run (nots n) fits = omega (arith, not_levels depth run n fits)
  and_levels depth run (each n a) fits =
      omega (
        arith,
        not_levels depth run n (fits_front depth run (not_words n) (sign_word (codes "&&") ∷ and_words a) fits),
        and_levels depth 0 a (fits_between depth run (not_words n) (and_words a) (sign_word (codes "&&")) (not_closes n)
            (λ depth. refl) fits),
      )

  not_levels : (depth run : ℕ) (n : Not) → Fits depth run (not_words n)
      → expr_depth (not_tree n) + run + 25 * depth ≤ 1624
  not_levels depth run (cmp c) fits =
      omega (arith, (fits_here depth run (cmp_words c) fits).1, cmp_levels depth run c fits)
  not_levels depth run (negated n) fits =
      omega (arith, depth-Not (not_tree n), not_levels depth (run + 1) n (fits_not depth run (not_words n) fits))

  cmp_levels : (depth run : ℕ) (c : Cmp) → Fits depth run (cmp_words c) → expr_depth (cmp_tree c) + 25 * depth ≤ 1616
  cmp_levels depth run (sum s) fits =
      omega (arith, depth_chained (sum_first s) (sum_links s), sum_levels depth run s fits)
  cmp_levels depth run (compared s sign t) fits =
      omega (
        arith,
        depth-Compare sign (chained (sum_first s) (sum_links s)) (chained (sum_first t) (sum_links t)),
        depth_chained (sum_first s) (sum_links s),
        depth_chained (sum_first t) (sum_links t),
        sum_levels depth run s
            (fits_front depth run (sum_words s) (sign_word (comparison_text sign) ∷ sum_words t) fits),
        sum_levels depth 0 t
            (fits_between depth run (sum_words s) (sum_words t) (sign_word (comparison_text sign)) (sum_closes s)
            (plain_comparison sign) fits),
      )

  sum_levels : (depth run : ℕ) (s : Sum) → Fits depth run (sum_words s)
      → ChainFits depth (sum_first s) (sum_links s) 1613
  sum_levels depth run (product p) fits = (
    omega (arith, depth_chained (product_first p) (product_links p), product_levels depth run p fits),
    omega (arith, (fits_here depth run (product_words p) fits).0),
  )
  sum_levels depth run (added p sign is s) fits = (
    omega (
      arith,
      depth_chained (product_first p) (product_links p),
      product_levels depth run p
          (fits_front depth run (product_words p) (sign_word (operation_text sign) ∷ sum_words s) fits),
    ),
    omega (
      arith,
      sum_levels depth 0 s
          (fits_between depth run (product_words p) (sum_words s) (sign_word (operation_text sign)) (product_closes p)
          (plain_operation sign) fits),
    ),
  )

  product_levels : (depth run : ℕ) (p : Product) → Fits depth run (product_words p)
      → ChainFits depth (product_first p) (product_links p) 1611
  product_levels depth run (power p) fits = (
    omega (arith, depth_chained (power_first p) (power_links p), power_levels depth run p fits),
    omega (arith, (fits_here depth run (power_words p) fits).0),
  )
  product_levels depth run (multiplied p sign is q) fits = (
    omega (
      arith,
      depth_chained (power_first p) (power_links p),
      power_levels depth run p (fits_front depth run (power_words p) (sign_word (operation_text sign) ∷ product_words q)
          fits),
    ),
    omega (
      arith,
      product_levels depth 0 q
          (fits_between depth run (power_words p) (product_words q) (sign_word (operation_text sign)) (power_closes p)
          (plain_operation sign) fits),
    ),
  )

  power_levels : (depth run : ℕ) (p : Power) → Fits depth run (power_words p)
      → ChainFits depth (power_first p) (power_links p) 1609
  power_levels depth run (unary u) fits =
      (omega (arith, unary_levels depth run u fits), omega (arith, (fits_here depth run (unary_words u) fits).0))
  power_levels depth run (raised u sign is p) fits = (
    omega (
      arith,
      unary_levels depth run u
          (fits_front depth run (unary_words u) (sign_word (operation_text sign) ∷ power_words p) fits),
    ),
    omega (
      arith,
      power_levels depth 0 p
          (fits_between depth run (unary_words u) (power_words p) (sign_word (operation_text sign)) (unary_closes u)
          (plain_operation sign) fits),
    ),
  )

  unary_levels : (depth run : ℕ) (u : Unary) → Fits depth run (unary_words u)
      → expr_depth (unary_tree u) + run + 25 * depth ≤ 1609
  unary_levels depth run (atom a) fits =
      omega (arith, (fits_here depth run (atom_words a) fits).1, atom_levels depth run a fits)
  unary_levels depth run (signed sign u) fits =
      omega (
        arith,
        depth_prefixed sign (unary_tree u),
        unary_levels depth (run + 1) u (fits_prefix depth run sign (unary_words u) fits),
      )

  atom_levels : (depth run : ℕ) (a : Atom) → Fits depth run (atom_words a)
      → expr_depth (atom_tree a) + 25 * depth ≤ 1601
  atom_levels depth run (group o) fits =
      omega (
        arith,
        depth_joined joint.Or (or_parts o),
        or_levels (depth + 1) 0 o (fits_group depth run (or_words o) fits),
      )
  atom_levels depth run (literal value) fits = omega (arith, (fits_here depth run _ fits).0, depth-Text value)
  atom_levels depth run (number digits value is) fits =
      omega (arith, (fits_here depth run _ fits).0, depth-Whole (pos value))
  atom_levels depth run (truth text value is) fits = omega (arith, (fits_here depth run _ fits).0, depth-Truth value)
  atom_levels depth run (name text is) fits = omega (arith, (fits_here depth run _ fits).0, depth-Name text)

test_levels : (depth run : ℕ) (o : Or) → Fits depth run (or_words o) → expr_depth (or_tree o) + 25 * depth ≤ 1626
test_levels depth run o fits = omega (arith, depth_joined joint.Or (or_parts o), or_levels depth run o fits)

depth_with : (clauses : List ClauseTree) → program_depth (program_with clauses) ≡ 1 + clauses_depth clauses
depth_with clauses = depth-program clauses

mutual
  unfolding program_words entry_words clause_words program_clauses entry_clauses clause_tree

  clauses_levels : (depth run : ℕ) (p : Program) → Fits depth run (program_words p)
      → clauses_depth (program_clauses p) + 25 * depth ≤ 1628
  clauses_levels depth run (ends nothing) fits = omega (arith, (fits_here depth run [] fits).0)
  clauses_levels depth run (ends (something c)) fits = omega (arith, clause_depth_step depth run c fits)
  clauses_levels depth run (goes_on nothing p) fits =
      omega (
        arith,
        clauses_levels depth 0 p
            (fits_between depth run [] (program_words p) (sign_word (codes ";")) (entry_closes nothing) (λ depth. refl)
            fits),
      )
  clauses_levels depth run (goes_on (something c) p) fits =
      omega (
        arith,
        clause_depth_step depth run c
            (fits_front depth run (clause_words c) (sign_word (codes ";") ∷ program_words p) fits),
        clauses_levels depth 0 p
            (fits_between depth run (clause_words c) (program_words p) (sign_word (codes ";"))
            (entry_closes (something c)) (λ depth. refl) fits),
      )

  clause_depth_step : (depth run : ℕ) (c : Clause) → Fits depth run (clause_words c)
      → clause_depth (clause_tree c) + 25 * depth ≤ 1628
  clause_depth_step depth run (bare test) fits =
      omega (
        arith,
        (fits_here depth run (or_words test) fits).0,
        depth-clause (clause_tree (bare test)),
        depth-Top,
        test_levels depth run test fits,
      )
  clause_depth_step depth run (valued test value) fits =
      let left = fits_front depth run (or_words test) (sign_word (codes "->") ∷ or_words value) fits in
      let right = fits_between depth run (or_words test) (or_words value) (sign_word (codes "->")) (or_closes test)
      (λ depth. refl) fits in
      omega (
        arith,
        depth-clause (clause_tree (valued test value)),
        depth-Value (or_tree value),
        test_levels depth run test left,
        test_levels depth 0 value right,
      )
  clause_depth_step depth run (nested test p) fits =
      let block : List Word = sign_word (codes "{") ∷ (program_words p ++ sign_word (codes "}") ∷ []) in
      let left = fits_front depth run (or_words test) (sign_word (codes "->") ∷ block) fits in
      let right = fits_between depth run (or_words test) block (sign_word (codes "->")) (or_closes test) (λ depth. refl)
      fits in
      omega (
        arith,
        depth-clause (clause_tree (nested test p)),
        depth-Block (program_tree p),
        depth_with (program_clauses p),
        test_levels depth run test left,
        clauses_levels (depth + 1) 0 p (fits_block depth 0 (program_words p) right),
      )

-- what is found of tokens that don't go too deep
pub found_shallow : (tokens : List TokenView) (program : ProgramTree) → program_of tokens ≡ Ok (Some program)
    → (IsTooDeep tokens → ⊥) → program_depth program ≤ 1700
found_shallow tokens program found shallow =
    let spelled = (program_stands tokens (Some program) found).spelled in
    let fits : Fits 0 0 (program_words spelled.form) = rw spelled.words (shallow_fits tokens shallow) in
    omega (
      arith,
      ap program_depth spelled.tree,
      depth_with (program_clauses spelled.form),
      clauses_levels 0 0 spelled.form fits,
    )
