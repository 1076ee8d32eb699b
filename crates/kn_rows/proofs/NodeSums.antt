-- The nodes of the formulas of assertions, added up without a query.
use Rattle.std.proofs.Common.{◌≡◌, ℕ, ◌+◌, ◌<◌, ◌≤◌, ◌^◌, List, [], ◌∷◌, get_or, length, map, take, Option, Some, None}
use Rattle.std.proofs.Common.{refl, ap, ◌∙◌, arith}
use Rattle.std.specs.Prelude.{sum_by}
use Rattle.std.proofs.lemmas.List.Sums.{sum_by-cons, sum_by_more, sum_by-take-le}
use Rattle.kn_trees.specs.declared.formula.Formula.{Formula}
use Rattle.kn_trees.specs.Formulas.{field_nodes}
use Rattle.kn_env.specs.Environment.{Asked}
use Rattle.kn_meaning.specs.Critical.{equation_nodes, licensees_nodes}
use Rattle.kn_meaning.specs.Equations.{Part, Statement, equations_over, statement_of}
use Rattle.kn_assert.proofs.Answered.{ReadingTold}
use Rattle.kn_rows.specs.Sizes.{HaveTexts, total_size}
use Rattle.kn_rows.proofs.Texts.{SoundTold, texts_small}

-- the nodes of an assertion's formula
abbrev pub part_nodes : Part → ℕ
part_nodes part = licensees_nodes part.assertion.licensees

pub equation-nodes : (asked : Asked) (parts : List Part)
    → sum_by part_nodes parts ≡ equation_nodes (equations_over asked parts)
equation-nodes asked [] = refl
equation-nodes asked (part ∷ parts) =
    let here = sum_by-cons part_nodes part parts in
    let there = sum_by-cons (λ (s : Statement). licensees_nodes s.licensees) (statement_of asked part)
    (map (statement_of asked) parts) in
    let rest = equation-nodes asked parts in
    omega (arith, here, there, rest)

few-nodes : (licensees : Option Formula) → licensees_nodes licensees ≤ 2 + field_nodes licensees
few-nodes None = omega arith
few-nodes (Some formula) = omega arith

-- they are no more than what the assertions may add to a system
nodes-size : (parts : List Part) → sum_by part_nodes parts ≤ total_size parts
nodes-size [] = omega arith
nodes-size (part ∷ parts) =
    let here = sum_by-cons part_nodes part parts in
    let rest = nodes-size parts in
    omega (arith, here, rest, few-nodes part.assertion.licensees)

-- so those of the first assertions are few, where their texts aren't too long
pub nodes-few : ReadingTold → SoundTold → (parts : List Part) → HaveTexts parts → (n : ℕ)
    → sum_by part_nodes (take n parts) < 2 ^ 24
nodes-few told sound parts have n =
    let small = texts_small told sound parts have in
    omega (arith, sum_by-take-le part_nodes parts n, nodes-size parts, small)

-- the next assertion adds its own
pub nodes-next : (parts items : List Part) → items ≡ parts → (i : ℕ) (part : Part) → i < length items
    → part ≡ get_or items i part → (nodes : ℕ) → nodes ≡ part_nodes part
    → sum_by part_nodes (take (i + 1) parts) ≡ sum_by part_nodes (take i parts) + nodes
nodes-next parts items same i part within here nodes own =
    let there : part ≡ get_or parts i part = here ∙ ap (λ ps. get_or ps i part) same in
    let more = sum_by_more part_nodes parts i part (omega (arith, within, ap length same)) in
    omega (arith, own, ap part_nodes there, more)
