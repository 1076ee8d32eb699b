-- The levels of the grammar that are lists.
use Rattle.std.proofs.Common.{◌≡◌, ℕ, true, List, [], ◌∷◌, ◌++◌, codes, Option, Some, None, ◌⊎◌, inl, inr, refl, ap}
use Rattle.std.proofs.Common.{◌∙◌, arith}
use Rattle.kn_fields.specs.Words.{Word, Mark}
use Rattle.kn_fields.specs.Words.Word.{sign as sign_word}
use Rattle.kn_fields.specs.Reading.{one_part, taken}
use Rattle.kn_fields.proofs.Words.{taken_before, taken_there}
use Rattle.kn_fields.proofs.Levels.{Level, mark_level}
use Rattle.kn_trees.specs.Forms.{link}
use Rattle.kn_trees.specs.declared.program.Expr.{Expr}
use Rattle.kn_trees.specs.declared.program.Link2.{Link2}
use Rattle.kn_trees.specs.declared.program.Operation.{Operation}
use Rattle.kn_trees.specs.declared.program.Clause.{Clause as ClauseTree}
use Rattle.kn_program.specs.Signs.{operation_text, operation_of, is_at}
use Rattle.kn_program.specs.Trees.{joined, chained}
use Rattle.kn_program.specs.Grammar.{Or, And, Not, Sum, Product, Power, Unary, or_words, and_words, not_words}
use Rattle.kn_program.specs.Grammar.{sum_words, product_words, power_words, unary_words, or_parts, and_parts, not_tree}
use Rattle.kn_program.specs.Grammar.{sum_first, sum_links, product_first, product_links, power_first, power_links}
use Rattle.kn_program.specs.Grammar.{unary_tree, Program, Entry, program_words, entry_words, program_clauses}
use Rattle.kn_program.specs.Grammar.{entry_clauses, clause_tree}
use Rattle.kn_program.proofs.Derivations.{ands, either, nots, each, product, added, power, multiplied, unary, raised}
use Rattle.kn_program.proofs.Derivations.{ends, goes_on, nothing, something}
use Rattle.kn_program.specs.Reading.{one_link, one_entry, entries_of}
use Rattle.kn_program.specs.declared.signs.Joint.TheVariants as joint
use Rattle.kn_program.specs.declared.signs.Precedence.{Precedence}
use Rattle.kn_program.specs.declared.signs.Precedence.TheVariants as level
use Rattle.kn_program.proofs.SignLemmas.{operation_before, operation_there}

abbrev pub and_tree : And → Expr
and_tree a = joined joint.And (and_parts a)

abbrev pub sum_tree : Sum → Expr
sum_tree s = chained (sum_first s) (sum_links s)

abbrev pub product_tree : Product → Expr
product_tree p = chained (product_first p) (product_links p)

abbrev pub power_tree : Power → Expr
power_tree p = chained (power_first p) (power_links p)

-- `||` and `&&`

pub or_split : (d : Or) → ((i : And) × (d ≡ ands i)) ⊎ ((i : And) × (o : Or) × (d ≡ either i o))
or_split (ands a) = inl (a, refl)
or_split (either a o) = inr (a, o, refl)

pub and_split : (d : And) → ((i : Not) × (d ≡ nots i)) ⊎ ((i : Not) × (o : And) × (d ≡ each i o))
and_split (nots n) = inl (n, refl)
and_split (each n a) = inr (n, a, refl)

abbrev pub or_level : Level Mark Expr Expr Expr And Or
unfolding or_words or_parts
or_level = mark_level (codes "||") one_part (joined joint.Or) and_words and_tree or_words or_parts ands either
    (λ a. refl) (λ a. refl) (λ a o. refl) (λ a o. refl) or_split

abbrev pub and_level : Level Mark Expr Expr Expr Not And
unfolding and_words and_parts
and_level = mark_level (codes "&&") one_part (joined joint.And) not_words not_tree and_words and_parts nots each
    (λ n. refl) (λ n. refl) (λ n a. refl) (λ n a. refl) and_split

-- the chains

pub chain_before : (l : Precedence) (words rest : List Word) (s : Operation)
    → taken (operation_of l) words ≡ Some (s, rest)
    → (words ≡ sign_word (operation_text s) ∷ rest) × (is_at l s ≡ true)
chain_before l words rest s e =
    let t = taken_before (operation_of l) words rest s e in
    let o = operation_before l t.text s t.stands_for in
    (t.words_are ∙ ap (λ (text : List ℕ). sign_word text ∷ rest) o.0, o.1)

pub chain_there : (l : Precedence) (s : Operation) (rest : List Word) → is_at l s ≡ true
    → taken (operation_of l) (sign_word (operation_text s) ∷ rest) ≡ Some (s, rest)
chain_there l s rest fits = taken_there (operation_of l) (operation_text s) rest s (operation_there l s fits)

-- a level by the first side of its derivations and the links behind it
abbrev pub chain_level : {I D : Type 0} (l : Precedence) (item_words : I → List Word) (item_tree : I → Expr) (words : D
    → List Word) (first : D → Expr) (links : D → List Link2)
    (alone : I → D) (more : I → (s : Operation) → is_at l s ≡ true → D → D)
    → ((i : I) → words (alone i) ≡ item_words i) → ((i : I) → first (alone i) ≡ item_tree i)
    → ((i : I) → links (alone i) ≡ [])
    → ((i : I) (s : Operation) (f : is_at l s ≡ true) (d : D)
    → words (more i s f d) ≡ item_words i ++ sign_word (operation_text s) ∷ words d)
    → ((i : I) (s : Operation) (f : is_at l s ≡ true) (d : D) → first (more i s f d) ≡ item_tree i)
    → ((i : I) (s : Operation) (f : is_at l s ≡ true) (d : D) → links (more i s f d) ≡ link s (first d) ∷ links d)
    → ((d : D) → ((i : I) × (d ≡ alone i))
    ⊎ ((i : I) × (s : Operation) × (f : is_at l s ≡ true) × (o : D) × (d ≡ more i s f o)))
    → Level Operation Expr Link2 Expr I D
chain_level l item_words item_tree words first links alone more alone_words alone_first alone_links more_words
    more_first more_links split = record {
      which = taken (operation_of l);
      piece = one_link;
      finish = chained;
      sign = λ s. sign_word (operation_text s);
      fits = is_at l;
      item_words = item_words;
      item_tree = item_tree;
      words = words;
      tree = λ d. chained (first d) (links d);
      alone = alone;
      more = more;
      Parted = λ d x others. (first d ≡ x) × (links d ≡ others);
      tree_is = λ d x others is. ap (λ (x : Expr). chained x (links d)) is.0 ∙ ap (chained x) is.1;
      alone_words = alone_words;
      alone_parts = λ i. (alone_first i, alone_links i);
      more_words = more_words;
      more_parts = λ i s fits d x others is. (
        more_first i s fits d,
        more_links i s fits d ∙ ap (λ (x : Expr). link s x ∷ links d) is.0
            ∙ ap (λ (others : List Link2). link s x ∷ others) is.1,
      );
      split = split;
      sign_before = chain_before l;
      sign_there = chain_there l;
    }

pub sum_split : (d : Sum) → ((i : Product) × (d ≡ product i))
    ⊎ ((i : Product) × (s : Operation) × (f : is_at level.Sum s ≡ true) × (o : Sum) × (d ≡ added i s f o))
sum_split (product p) = inl (p, refl)
sum_split (added p s f o) = inr (p, s, f, o, refl)

pub product_split : (d : Product) → ((i : Power) × (d ≡ power i))
    ⊎ ((i : Power) × (s : Operation) × (f : is_at level.Product s ≡ true) × (o : Product) × (d ≡ multiplied i s f o))
product_split (power p) = inl (p, refl)
product_split (multiplied p s f o) = inr (p, s, f, o, refl)

pub power_split : (d : Power) → ((i : Unary) × (d ≡ unary i))
    ⊎ ((i : Unary) × (s : Operation) × (f : is_at level.Power s ≡ true) × (o : Power) × (d ≡ raised i s f o))
power_split (unary u) = inl (u, refl)
power_split (raised u s f o) = inr (u, s, f, o, refl)

abbrev pub sum_level : Level Operation Expr Link2 Expr Product Sum
unfolding sum_words sum_first sum_links
sum_level =
    chain_level level.Sum product_words product_tree sum_words sum_first sum_links product added (λ p. refl) (λ p. refl)
    (λ p. refl) (λ p s f o. refl) (λ p s f o. refl) (λ p s f o. refl) sum_split

abbrev pub product_level : Level Operation Expr Link2 Expr Power Product
unfolding product_words product_first product_links
product_level =
    chain_level level.Product power_words power_tree product_words product_first product_links power multiplied
    (λ p. refl) (λ p. refl) (λ p. refl) (λ p s f o. refl) (λ p s f o. refl) (λ p s f o. refl)
    product_split

abbrev pub power_level : Level Operation Expr Link2 Expr Unary Power
unfolding power_words power_first power_links
power_level =
    chain_level level.Power unary_words unary_tree power_words power_first power_links unary raised (λ u. refl)
    (λ u. refl) (λ u. refl) (λ u s f o. refl) (λ u s f o. refl) (λ u s f o. refl) power_split

-- programs

abbrev pub entry_tree : Entry → Option ClauseTree
entry_tree nothing = None
entry_tree (something c) = Some (clause_tree c)

pub entry_listed : (e : Entry) → entry_clauses e ≡ entries_of (entry_tree e) ++ []
unfolding entry_clauses
entry_listed e = grind arith

pub entry_first : (e : Entry) (clauses : List ClauseTree)
    → entry_clauses e ++ clauses ≡ entries_of (entry_tree e) ++ clauses
unfolding entry_clauses
entry_first e clauses = grind arith

pub program_split : (d : Program) → ((i : Entry) × (d ≡ ends i)) ⊎ ((i : Entry) × (o : Program) × (d ≡ goes_on i o))
program_split (ends e) = inl (e, refl)
program_split (goes_on e p) = inr (e, p, refl)

abbrev pub program_level : Level Mark (Option ClauseTree) ClauseTree (List ClauseTree) Entry Program
unfolding program_words program_clauses
program_level =
    mark_level (codes ";") one_entry (λ clauses. clauses) entry_words entry_tree program_words program_clauses ends
    goes_on (λ e. refl) entry_listed (λ e p. refl) (λ e p. entry_first e (program_clauses p))
    program_split
