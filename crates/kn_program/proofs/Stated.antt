-- What the tokens of a field state is what is read of them.
use Rattle.std.proofs.Common.{◌≡◌, ℕ, ◌+◌, ◌*◌, Bool, true, false, List, [], ◌∷◌, length, Option, Some, None, Result}
use Rattle.std.proofs.Common.{Ok, Err, refl, sym, ap, subst, ◌∙◌, arith, append-nil}
use Rattle.std.specs.Prelude.{if◌then◌else◌}
use Rattle.kn_lex.specs.Cutting.{TokenView}
use Rattle.kn_fields.specs.Words.{Word, words_of}
use Rattle.kn_fields.specs.Reading.{map_read, taken}
use Rattle.kn_fields.proofs.Steps.{mapped, whole_read}
use Rattle.kn_trees.specs.Kinds.{is_well_kinded}
use Rattle.kn_trees.specs.declared.program.Program.{Program as ProgramTree}
use Rattle.kn_program.specs.Grammar.{Program, program_words, program_clauses, program_with, program_tree, IsProgram}
use Rattle.kn_program.specs.Reading.{program_at, read_program}
use Rattle.kn_program.specs.Conditions.{IsConditions, HasNoProgram, Shows, check_program, judged_read, program_of}
use Rattle.kn_program.specs.declared.fault.ProgramFault.{ProgramFault}
use Rattle.kn_program.specs.declared.fault.ProgramFault.TheVariants.{Syntax, Kind, NoMemory}
use Rattle.kn_program.proofs.Complete.{nil_stops}
use Rattle.kn_program.proofs.Programs.{StopsEntry, sound_program, complete_program}

-- what is read of all the words is spelled by them
pub read_spelled : (tokens : List TokenView) (program : ProgramTree) → read_program (words_of tokens) ≡ Some program
    → IsProgram tokens program
unfolding read_program
read_spelled tokens program e =
    let words : List Word = words_of tokens in
    let n : ℕ = 12 * length words + 1 in
    let all = whole_read (map_read program_with (program_at n words)) program e in
    let m = mapped program_with (program_at n words) program [] all in
    let s = sound_program n words m.from [] m.is in
    record {
      form = s.form;
      words = sym (append-nil (program_words s.form)) ∙ s.spelled;
      tree = ap program_with s.means
          ∙ m.made;
    }

nothing_stops : StopsEntry []
unfolding taken
nothing_stops = ((nil_stops, refl), refl)

-- what is spelled is read
pub form_read : (form : Program) → read_program (program_words form) ≡ Some (program_tree form)
unfolding read_program taken
form_read form =
    let n : ℕ = 12 * length (program_words form) + 1 in
    let all = complete_program n form [] (omega arith) nothing_stops refl in
    let same : program_at n (program_words form) ≡ Some (program_clauses form, []) = rw append-nil at all in
    rw same refl

pub spelled_read : (tokens : List TokenView) (program : ProgramTree) → IsProgram tokens program
    → read_program (words_of tokens) ≡ Some program
spelled_read tokens program s = rw (← s.words, form_read s.form, s.tree) refl

-- tokens spell at most one program
pub spelled_once : (tokens : List TokenView) (a b : ProgramTree) → IsProgram tokens a → IsProgram tokens b → a ≡ b
spelled_once tokens a b s t = let first = spelled_read tokens a s in let second = spelled_read tokens b t in cc

-- what is found of tokens, by what is spelled
of_spelled : (tokens : List TokenView) (program : ProgramTree) → (tokens ≡ [] → ⊥) → IsProgram tokens program
    → program_of tokens ≡ check_program program
unfolding program_of
of_spelled [] program some s = absurd (some refl)
of_spelled (token ∷ tokens) program some s = ap judged_read (spelled_read (token ∷ tokens) program s)

-- the program, if there is one, is what is found
pub program_is_found : (tokens : List TokenView) (p : Option ProgramTree) → IsConditions tokens p
    → program_of tokens ≡ Ok p
unfolding program_of
program_is_found tokens None none = ap program_of none
program_is_found tokens (Some program) is = rw (of_spelled tokens program is.some is.spelled, is.kinds) refl

-- so is the fault
pub fault_is_found : (tokens : List TokenView) (fault : ProgramFault) → Shows tokens fault
    → program_of tokens ≡ Err fault
unfolding program_of
fault_is_found tokens Syntax h = no_program tokens h
  where
    no_program : (tokens : List TokenView) → HasNoProgram tokens → program_of tokens ≡ Err Syntax
    no_program [] h = absurd (h.some refl)
    no_program (token ∷ tokens) h =
        let none = λ (program : ProgramTree) (is : read_program (words_of (token ∷ tokens)) ≡ Some program).
        h.none program (read_spelled (token ∷ tokens) program is) in
        grind (arith, none)
fault_is_found tokens Kind h = rw (of_spelled tokens h.program h.some h.spelled, h.bad) refl
fault_is_found tokens NoMemory h = absurd h

-- what a finding says of the tokens
abbrev Says : List TokenView → Result (Option ProgramTree) ProgramFault → Type 0
Says tokens (Ok program) = IsConditions tokens program
Says tokens (Err fault) = Shows tokens fault

judged_says : (tokens : List TokenView) (program : ProgramTree) → (tokens ≡ [] → ⊥) → IsProgram tokens program
    → (well : Bool) → is_well_kinded program ≡ well
    → Says tokens (if well then Ok (Some program) else Err Kind)
judged_says tokens program some s true well = record { some = some; spelled = s; kinds = well }
judged_says tokens program some s false bad = record { some = some; program = program; spelled = s; bad = bad }

found_says : (tokens : List TokenView) → Says tokens (program_of tokens)
unfolding program_of
found_says [] = refl
found_says (token ∷ tokens) = by (read_program (words_of (token ∷ tokens))) refl
  where
    by : (read : Option ProgramTree) → read_program (words_of (token ∷ tokens)) ≡ read
        → Says (token ∷ tokens) (judged_read read)
    by None none = record { some = λ e. cc; none = λ program s. cc (spelled_read (token ∷ tokens) program s) }
    by (Some program) some = judged_says (token ∷ tokens) program (λ e. cc) (read_spelled (token ∷ tokens) program some)
        (is_well_kinded program) refl

pub program_stands : (tokens : List TokenView) (p : Option ProgramTree) → program_of tokens ≡ Ok p
    → IsConditions tokens p
program_stands tokens p e = subst (Says tokens) e (found_says tokens)

pub fault_stands : (tokens : List TokenView) (fault : ProgramFault) → program_of tokens ≡ Err fault → Shows tokens fault
fault_stands tokens fault e = subst (Says tokens) e (found_says tokens)

pub ruleset findings = (program_is_found, fault_is_found, program_stands, fault_stands)

-- a field with no token states no program, and one with tokens is judged by what is read of them

pub nothing_found : (tokens : List TokenView) → length (words_of tokens) ≡ 0 → program_of tokens ≡ Ok None
unfolding program_of words_of
nothing_found [] none = refl
nothing_found (token ∷ tokens) none = absurd (omega arith)

pub judged_by : (tokens : List TokenView) → (length (words_of tokens) ≡ 0 → ⊥)
    → program_of tokens ≡ judged_read (read_program (words_of tokens))
unfolding program_of words_of
judged_by [] some = absurd (some refl)
judged_by (token ∷ tokens) some = refl
