-- What is read of a program is what is spelled.
use Rattle.std.proofs.Common.{◌≡◌, ℕ, zero, suc, ◌+◌, ◌*◌, ◌≤◌, Bool, true, false, List, [], ◌∷◌, ◌++◌, length, codes}
use Rattle.std.proofs.Common.{Option, Some, None, inl, inr, refl, sym, ap, ◌∙◌, arith, length-append}
use Rattle.std.proofs.lemmas.List.{append_assoc}
use Rattle.kn_trees.specs.declared.program.Expr.{Expr}
use Rattle.kn_trees.specs.declared.program.Clause.{Clause as ClauseTree}
use Rattle.kn_trees.specs.declared.program.Then.{Then}
use Rattle.kn_trees.specs.declared.program.Then.TheVariants.{Top, Value}
use Rattle.kn_fields.specs.Words.{Word, itself}
use Rattle.kn_fields.specs.Words.Word.{sign as sign_word}
use Rattle.kn_program.specs.Grammar.{Or, or_words, or_tree, Program, Entry, Clause, program_words, entry_words}
use Rattle.kn_program.specs.Grammar.{clause_words, program_clauses, clause_tree}
use Rattle.kn_program.specs.Grammar.Entry.{nothing, something}
use Rattle.kn_program.specs.Grammar.Clause.{bare, valued, nested}
use Rattle.kn_fields.specs.Reading.{Read, Reader, map_read, then_read, behind_sign, closed_by, taken, read_mark}
use Rattle.kn_fields.proofs.Words.{read_parts, marked_before, marked_there}
use Rattle.kn_fields.proofs.Steps.{mapped, behind, chosen}
use Rattle.kn_fields.proofs.Levels.{Spelled, IsSound, none_sound, level_sound, level_complete, closed_sound}
use Rattle.kn_fields.proofs.Levels.{closed_complete}
use Rattle.kn_program.specs.Reading.{has_clause, entry_by, entry_at, clause_with, block, value_after, tests_at}
use Rattle.kn_program.specs.Reading.{program_at, clause_at}
use Rattle.kn_program.specs.declared.signs.Joint.TheVariants as joint
use Rattle.kn_program.proofs.Lists.{entry_tree, program_level}
use Rattle.kn_program.proofs.Fronts.{starts_some, test_some, or_starts}
use Rattle.kn_program.proofs.Sound.{sound_or}
use Rattle.kn_program.proofs.Complete.{StopsOr, arrow_stops, semicolon_stops, brace_stops, complete_or}

-- what is read is spelled

entry_sound : (clause : Reader ClauseTree) → IsSound clause_words clause_tree clause
    → IsSound entry_words entry_tree (entry_at clause)
unfolding entry_words
entry_sound clause sound words x rest e = by (has_clause words) e
  where
    by : (b : Bool) → entry_by b clause words ≡ Some (x, rest) → Spelled entry_words entry_tree words x rest
    by false is =
        let same = read_parts {X = Option ClauseTree} None x words rest is in
        record { form = nothing; spelled = sym same.1; means = same.0 }
    by true is =
        let m = mapped {Y = Option ClauseTree} Some (clause words) x rest is in
        let c = sound words m.from rest m.is in
        record {
          form = something c.form;
          spelled = c.spelled;
          means = ap (λ (clause : ClauseTree). Some clause) c.means
              ∙ m.made;
        }

abbrev clause_go : (Reader Expr) → (Reader (List ClauseTree)) → Expr → Reader ClauseTree
clause_go tests program test rest =
    behind_sign (read_mark (codes "->") rest) (Some (clause_with test Top, rest))
    (λ mark behind. map_read (clause_with test) (value_after behind tests program))

value_sound : (tests : Reader Expr) (program : Reader (List ClauseTree))
    → IsSound or_words or_tree tests → IsSound program_words program_clauses program
    → (o : Or) (left : List Word) (value : Then) (rest words middle : List Word) (x : ClauseTree) (test : Expr)
    → value_after left tests program ≡ Some (value, rest) → or_words o ++ middle ≡ words
    → middle ≡ sign_word (codes "->") ∷ left → or_tree o ≡ test → clause_with test value ≡ x
    → Spelled clause_words clause_tree words x rest
unfolding clause_words clause_tree
value_sound tests program tested programmed o left value rest words middle x test e front middle_is test_is made =
    elim (chosen (read_mark (codes "{") left) (map_read Value (tests left))
    (λ mark inner. map_read block (then_read (program inner) (closed_by (codes "}")))) value rest e) [
      | inl a ↦
          let m = mapped Value (tests left) value rest a.is in
          let v = tested left m.from rest m.is in
          record {
            form = valued o v.form;
            spelled = rw (append_assoc, v.spelled, ← middle_is) front;
            means = rw (test_is, v.means, m.made) made;
          }
      | inr t ↦
          let m = mapped block (then_read (program t.left) (closed_by (codes "}"))) value rest t.is in
          let p = closed_sound (codes "}") program_words program_clauses program programmed t.left m.from rest m.is in
          record {
            form = nested o p.form;
            spelled = rw (append_assoc, p.spelled, ← marked_before (codes "{") left t.left t.found t.there, ← middle_is)
                front;
            means = rw (test_is, p.means, m.made) made;
          }
    ]

clause_sound : (tests : Reader Expr) (program : Reader (List ClauseTree))
    → IsSound or_words or_tree tests → IsSound program_words program_clauses program
    → IsSound clause_words clause_tree (λ words. then_read (tests words) (clause_go tests program))
unfolding clause_words clause_tree
clause_sound tests program tested programmed words x rest e =
    let b = behind (tests words) (clause_go tests program) x rest e in
    let o = tested words b.first b.middle b.is in
    elim (chosen (read_mark (codes "->") b.middle) (Some (clause_with b.first Top, b.middle))
    (λ mark behind. map_read (clause_with b.first) (value_after behind tests program)) x rest b.then_is) [
      | inl a ↦
          let same = read_parts (clause_with b.first Top) x b.middle rest a.is in
          record {
            form = bare o.form;
            spelled = ap (λ (rest : List Word). or_words o.form ++ rest) (sym same.1) ∙ o.spelled;
            means = rw o.means same.0;
          }
      | inr t ↦
          let m = mapped (clause_with b.first) (value_after t.left tests program) x rest t.is in
          value_sound tests program tested programmed o.form t.left m.from rest words b.middle x b.first m.is o.spelled
          (marked_before (codes "->") b.middle t.left t.found t.there) o.means m.made
    ]

mutual
  unfolding program_at clause_at program_words program_clauses

  pub sound_program : (n : ℕ) → IsSound program_words program_clauses (program_at n)
  sound_program zero words x rest e = none_sound program_words program_clauses words x rest e
  sound_program (suc n) words x rest e =
      level_sound program_level (entry_at (clause_at n)) (suc n) words x rest
      (entry_sound (clause_at n) (sound_clause n)) e

  pub sound_clause : (n : ℕ) → IsSound clause_words clause_tree (clause_at n)
  sound_clause zero words x rest e = none_sound clause_words clause_tree words x rest e
  sound_clause (suc n) words x rest e =
      clause_sound (tests_at n joint.Or) (program_at n) (sound_or n) (sound_program n) words x rest e

-- what is spelled is read

-- no clause goes on with these words, and none begins with them
abbrev pub StopsClause : List Word → Type 0
StopsClause rest = StopsOr rest × (read_mark (codes "->") rest ≡ None)

abbrev pub StopsEntry : List Word → Type 0
StopsEntry rest = StopsClause rest × (has_clause rest ≡ false)

between_entries : (rest : List Word) → StopsEntry (sign_word (codes ";") ∷ rest)
unfolding taken itself
between_entries rest = ((semicolon_stops rest, refl), refl)

brace_entry : (rest : List Word) → StopsEntry (sign_word (codes "}") ∷ rest)
unfolding taken itself
brace_entry rest = ((brace_stops rest, refl), refl)

brace_last : (rest : List Word) → read_mark (codes ";") (sign_word (codes "}") ∷ rest) ≡ None
unfolding taken itself
brace_last rest = refl

clause_front : (c : Clause) (rest : List Word) → has_clause (clause_words c ++ rest) ≡ true
unfolding clause_words
clause_front (bare test) rest = (or_starts test rest).0
clause_front (valued test value) rest = rw append_assoc (or_starts test _).0
clause_front (nested test p) rest = rw append_assoc (or_starts test _).0

abbrev pub IsClauseComplete : ℕ → Type 0
IsClauseComplete n = (c : Clause) (rest : List Word) → 12 * length (clause_words c) ≤ n → StopsClause rest
    → clause_at n (clause_words c ++ rest) ≡ Some (clause_tree c, rest)

abbrev pub IsProgramComplete : ℕ → Type 0
IsProgramComplete n =
    (p : Program) (rest : List Word) → 12 * length (program_words p) + 1 ≤ n → StopsEntry rest
    → read_mark (codes ";") rest ≡ None → program_at n (program_words p ++ rest) ≡ Some (program_clauses p, rest)

entry_complete : (n : ℕ) → IsClauseComplete n → (e : Entry) (rest : List Word) → 12 * length (entry_words e) ≤ n
    → StopsEntry rest
    → entry_at (clause_at n) (entry_words e ++ rest) ≡ Some (entry_tree e, rest)
unfolding entry_words
entry_complete n below nothing rest few stops = rw stops.1 refl
entry_complete n below (something c) rest few stops = rw (clause_front c rest, below c rest few stops.0) refl

clause_complete : (n : ℕ) → IsProgramComplete n → IsClauseComplete (suc n)
unfolding clause_at clause_words clause_tree
clause_complete n below (bare test) rest few stops =
    rw (complete_or n test rest (omega (arith, few, test_some _ (or_starts test))) stops.0, stops.1) refl
clause_complete n below (valued test value) rest few stops =
    let size = length-append (or_words test) (sign_word (codes "->") ∷ or_words value) in
    let left : List Word = or_words value ++ rest in
    rw (
      append_assoc (or_words test) (sign_word (codes "->") ∷ or_words value) rest,
      complete_or n test (sign_word (codes "->") ∷ left) (omega (arith, few, size, test_some _ (or_starts test)))
          (arrow_stops left),
      marked_there (codes "->") left,
      (or_starts value rest).1,
      complete_or n value rest (omega (arith, few, size, test_some _ (or_starts test))) stops.0,
    ) refl
clause_complete n below (nested test p) rest few stops =
    let inner : List Word = program_words p ++ sign_word (codes "}") ∷ [] in
    let size = length-append (or_words test) (sign_word (codes "->") ∷ sign_word (codes "{") ∷ inner) in
    let inner_size = length-append (program_words p) (sign_word (codes "}") ∷ []) in
    let left : List Word = inner ++ rest in
    rw (
      append_assoc (or_words test) (sign_word (codes "->") ∷ sign_word (codes "{") ∷ inner) rest,
      complete_or n test (sign_word (codes "->") ∷ sign_word (codes "{") ∷ left)
          (omega (arith, few, size, inner_size, test_some _ (or_starts test)))
          (arrow_stops (sign_word (codes "{") ∷ left)),
      marked_there (codes "->") (sign_word (codes "{") ∷ left),
      marked_there (codes "{") left,
    )
    (ap (λ (read : Read (List ClauseTree)). map_read (clause_with (or_tree test)) (map_read block read))
    (closed_complete (codes "}") (program_at n) (program_words p) rest (program_clauses p)
    (below p (sign_word (codes "}") ∷ rest) (omega (arith, few, size, inner_size, test_some _ (or_starts test)))
    (brace_entry rest) (brace_last rest))))

mutual
  unfolding program_at program_words program_clauses

  pub complete_program : (n : ℕ) → IsProgramComplete n
  complete_program zero d rest few stops last = absurd (omega (arith, few))
  complete_program (suc n) d rest few stops last =
      level_complete program_level (entry_at (clause_at n)) StopsEntry (suc n) d rest
      (λ i rest short stops. entry_complete n (complete_clause n) i rest (omega (arith, few, short)) stops)
      (λ s rest fits. between_entries rest)
      (omega (arith, few)) stops last

  pub complete_clause : (n : ℕ) → IsClauseComplete n
  complete_clause zero c rest few stops = absurd (omega (arith, few, starts_some _ (clause_front c)))
  complete_clause (suc n) c rest few stops = clause_complete n (complete_program n) c rest few stops
