-- The assertion of a text, or its first fault, computed. Laws say that they are those of the relations.
use Rattle.std.specs.Prelude.{ℕ, ◌+◌, ◌≡◌, ◌<◌, ◌≤◌, ◌==◌, true, List, [], ◌∷◌, length, Option, Some, None, Result, Ok}
use Rattle.std.specs.Prelude.{Err, IfSome, if◌then◌else◌}
use Rattle.std.specs.Result.{result_ok, result_err}
use Rattle.kn_base.specs.declared.limits.TheConstants.{PRINCIPAL_BYTES}
use Rattle.kn_env.specs.declared.constant.Constant.{Constant as Set}
use Rattle.kn_lex.specs.Cutting.{TokenView}
use Rattle.kn_fields.specs.Fields.{Field, field_of, fields_of, field_with, signed_to}
use Rattle.kn_fields.specs.Faults.{constants_in}
use Rattle.kn_fields.specs.Scanning.{goes_deep}
use Rattle.kn_fields.specs.Computed.{fields_or_fault}
use Rattle.kn_fields.specs.declared.fault.ReadFault.{ReadFault}
use Rattle.kn_fields.specs.declared.fault.ReadFault.TheVariants.{NoAuthorizer, TooDeep}
use Rattle.kn_trees.specs.declared.assertion.Assertion.{Assertion}
use Rattle.kn_trees.specs.declared.formula.Formula.{Formula}
use Rattle.kn_trees.specs.declared.program.Program.{Program}
use Rattle.kn_trees.specs.Formulas.{IsReadable, field_nodes}
use Rattle.kn_trees.specs.Kinds.{is_well_kinded}
use Rattle.kn_formula.specs.Licensing.{licensees_of}
use Rattle.kn_program.specs.Conditions.{program_of}
use Rattle.kn_assert.specs.Parts.{authorizer_of, conditions_by, licensees_by, signature_of}
use Rattle.kn_assert.specs.declared.stated.Stated.{Stated}

-- tokens that go too deep aren't read
abbrev pub shallow : {X : Type 0} → ℕ → List TokenView → Result X ReadFault → Result X ReadFault
shallow number tokens read = if goes_deep 0 0 tokens then Err (TooDeep number) else read

abbrev pub authorizer_in : List Set → List TokenView → Result (List ℕ) ReadFault
authorizer_in constants tokens = shallow 1 tokens (authorizer_of constants tokens)

abbrev pub conditions_in : List TokenView → Result (Option Program) ReadFault
conditions_in tokens = shallow 3 tokens (conditions_by (program_of tokens))

abbrev pub licensees_in : List Set → List TokenView → Result (Option Formula) ReadFault
licensees_in constants tokens = shallow 5 tokens (licensees_by (licensees_of constants tokens))

abbrev pub signature_in : List TokenView → Result (Option (List ℕ)) ReadFault
signature_in tokens = shallow 7 tokens (signature_of tokens)

abbrev pub and_then : {X Y : Type 0} → Result X ReadFault → (X → Result Y ReadFault) → Result Y ReadFault
and_then (Ok x) go = go x
and_then (Err fault) go = Err fault

abbrev pub nothing : Stated
nothing = record { authorizer = None; licensees = None; conditions = None; signature = None }

-- what is stated with the field of this number and these tokens; fields of other numbers state nothing
abbrev pub with_field : List Set → Stated → Option ℕ → List TokenView → Result Stated ReadFault
with_field constants s None tokens = Ok s
with_field constants s (Some number) tokens =
    if number == 1 then and_then (authorizer_in constants tokens) (λ x. Ok (record s { authorizer = Some x }))
    else if number == 3 then and_then (conditions_in tokens) (λ x. Ok (record s { conditions = x }))
    else if number == 5 then and_then (licensees_in constants tokens) (λ x. Ok (record s { licensees = x }))
    else if number == 7 then and_then (signature_in tokens) (λ x. Ok (record s { signature = x }))
    else Ok s

-- what is stated with these fields, or the fault of the first one that has one
unfoldable pub stated_by : List Set → Stated → List Field → Result Stated ReadFault
stated_by constants s [] = Ok s
stated_by constants s (field ∷ fields) =
    and_then (with_field constants s (field_of field.label) field.tokens) (λ next. stated_by constants next fields)

-- the assertion of what is stated
abbrev pub assemble_assertion : List Set → ℕ → Stated → Option (List ℕ) → Result Assertion ReadFault
assemble_assertion constants signed s None = Err NoAuthorizer
assemble_assertion constants signed s (Some principal) = Ok (record {
  authorizer = principal;
  constants = constants;
  licensees = s.licensees;
  conditions = s.conditions;
  signature = s.signature;
  signed_to = signed;
})

-- the assertion of a text with these tokens, or the first fault of what its fields state
unfoldable pub reading_with : List ℕ → List TokenView → Result Assertion ReadFault
reading_with text tokens =
    and_then (stated_by (constants_in (field_with 6 tokens)) nothing (fields_of tokens))
    (λ s. assemble_assertion (constants_in (field_with 6 tokens)) (signed_to text tokens) s s.authorizer)

-- the assertion of a text, or its first fault; it is never `NoMemory`
unfoldable pub reading_of : List ℕ → Result Assertion ReadFault
reading_of text = and_then (fields_or_fault text) (reading_with text)

-- the assertion of a text, where it has one
abbrev pub assertion_of : List ℕ → Option Assertion
assertion_of text = result_ok (reading_of text)

-- the first fault of a text, where it has one
abbrev pub fault_of : List ℕ → Option ReadFault
fault_of text = result_err (reading_of text)

-- An assertion of a text of so many bytes: its authorizer is as long as a principal may be, its formula is readable,
-- with so much fewer nodes than bytes, and its program is well kinded.
pub record IsSound (bytes : ℕ) (assertion : Assertion) : Type 0 where
  pub some : 0 < length assertion.authorizer
  pub short : length assertion.authorizer ≤ PRINCIPAL_BYTES
  pub licensees : IfSome assertion.licensees (λ formula. IsReadable bytes formula)
  pub nodes : 2 + field_nodes assertion.licensees ≤ bytes
  pub conditions : IfSome assertion.conditions (λ program. is_well_kinded program ≡ true)
