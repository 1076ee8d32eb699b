-- What the texts of the worked examples state.
use Rattle.std.proofs.Common.{◌≡◌, ℕ, false, List, [], ◌∷◌, Some, None, Result, Ok, refl, ap, ◌∙◌, codes, length, arith}
use Rattle.std.specs.Prelude.{nat_lt}
use Rattle.kn_lex.specs.Cutting.{TokenView, start}
use Rattle.kn_lex.specs.Literal.{value_behind}
use Rattle.kn_lex.specs.Computed.{tokens_or_fault}
use Rattle.kn_lex.specs.Scanning.{plain_lexeme, white_len, colon_len, zero_place, quote_len}
use Rattle.kn_lex.specs.declared.token.Sort.TheVariants.{Label, Text}
use Rattle.kn_lex.specs.declared.lexeme.Lexeme.{Lexeme}
use Rattle.kn_lex.specs.declared.lexeme.Lexeme.TheVariants.{White, Token}
use Rattle.kn_fields.specs.Fields.{field_of, fields_of, field_with}
use Rattle.kn_fields.specs.Scanning.{fault_in, first_place, fault_at, fault_without, version_place, constant_place}
use Rattle.kn_fields.specs.Scanning.{departure, goes_deep}
use Rattle.kn_fields.specs.Depth.{depth_behind, run_behind}
use Rattle.kn_fields.specs.Words as L
use Rattle.kn_trees.specs.declared.formula.Formula.{Formula}
use Rattle.kn_trees.specs.declared.formula.Formula.TheVariants.{Who as Licensee}
use Rattle.kn_trees.specs.declared.assertion.Assertion.{Assertion}
use Rattle.kn_formula.specs.Trees.{has_bad_name, formula_of}
use Rattle.kn_formula.specs.declared.written.Principal.TheVariants.{Literal}
use Rattle.kn_formula.specs.declared.written.Written.TheVariants.{Who}
use Rattle.kn_formula.proofs.TreeLemmas.{bad_threshold_who, bad_name_who, formula_who}
use Rattle.kn_formula.specs.Reading.{read_words}
use Rattle.kn_formula.specs.Licensing as licensing
use Rattle.kn_formula.specs.Licensing.{licensees_of}
use Rattle.kn_assert.specs.Parts.{principal_of, authorizer_of, licensees_by}
use Rattle.kn_assert.specs.Reading.{authorizer_in, licensees_in, and_then, stated_by, reading_with, reading_of}
use Rattle.kn_fields.specs.declared.fault.ReadFault.{ReadFault}
use Rattle.kn_assert.specs.declared.stated.Stated.{Stated}
use Rattle.kn_generate.proofs.Scans.{tokens_at, AreCuts, text_tokens}
use Rattle.kn_generate.proofs.Readings.{of_field, fields_told, one_spells}
use Rattle.kn_worked.specs.Texts.{policy_text, policy_assertion, credential_text, credential_assertion}

abbrev Cuts : Type 0
Cuts = List (Lexeme × List ℕ)

-- a field that is read leaves what the others state
field_read : {X : Type 0} (r : Result X ReadFault) (x : X) (make : X → Stated) (rest : Stated → Result Stated ReadFault)
    (last : Stated → Result Assertion ReadFault) → r ≡ Ok x
    → and_then (and_then (and_then r (λ x. Ok (make x))) rest) last ≡ and_then (rest (make x)) last
field_read r x make rest last e = ap (λ r. and_then (and_then (and_then r (λ x. Ok (make x))) rest) last) e

-- a text of these tokens, whose fields state these parts
reads : (text : List ℕ) (tokens : List TokenView) (assertion : Assertion) → nat_lt 16384 (length text) ≡ false
    → tokens_or_fault text ≡ Ok tokens → fault_in tokens ≡ None
    → reading_with text tokens ≡ Ok assertion → reading_of text ≡ Ok assertion
unfolding reading_of
reads text tokens assertion short cut none is = rw (fields_told text tokens short cut none) is

-- the text of a policy's or a credential's two fields, as it is cut
abbrev two_fields : List ℕ → List ℕ → Cuts
two_fields authorizer licensee =
    (Token Label, codes "Authorizer:") ∷ (White, codes " ") ∷ (Token Text, authorizer) ∷ (White, codes "\n")
    ∷ (Token Label, codes "Licensees:") ∷ (White, codes " ") ∷ (Token Text, licensee) ∷ (White, codes "\n") ∷ []

abbrev policy_cuts : Cuts
policy_cuts = two_fields (codes "\"POLICY\"") (codes "\"alice\"")

abbrev credential_cuts : Cuts
credential_cuts = two_fields (codes "\"alice\"") (codes "\"bob\"")

policy_cut : AreCuts start policy_cuts
unfolding plain_lexeme white_len colon_len zero_place quote_len
policy_cut = (
  record { some = refl; exact = refl; cut = refl; clean = λ at. refl },
  (
    record { some = refl; exact = refl; cut = refl; clean = λ at. refl },
    (
      record { some = refl; exact = refl; cut = refl; clean = λ at. refl },
      (
        record { some = refl; exact = refl; cut = refl; clean = λ at. refl },
        (
          record { some = refl; exact = refl; cut = refl; clean = λ at. refl },
          (
            record { some = refl; exact = refl; cut = refl; clean = λ at. refl },
            (
              record { some = refl; exact = refl; cut = refl; clean = λ at. refl },
              (record { some = refl; exact = refl; cut = refl; clean = λ at. refl }, tt),
            ),
          ),
        ),
      ),
    ),
  ),
)

credential_cut : AreCuts start credential_cuts
unfolding plain_lexeme white_len colon_len zero_place quote_len
credential_cut = (
  record { some = refl; exact = refl; cut = refl; clean = λ at. refl },
  (
    record { some = refl; exact = refl; cut = refl; clean = λ at. refl },
    (
      record { some = refl; exact = refl; cut = refl; clean = λ at. refl },
      (
        record { some = refl; exact = refl; cut = refl; clean = λ at. refl },
        (
          record { some = refl; exact = refl; cut = refl; clean = λ at. refl },
          (
            record { some = refl; exact = refl; cut = refl; clean = λ at. refl },
            (
              record { some = refl; exact = refl; cut = refl; clean = λ at. refl },
              (record { some = refl; exact = refl; cut = refl; clean = λ at. refl }, tt),
            ),
          ),
        ),
      ),
    ),
  ),
)

abbrev policy_tokens : List TokenView
policy_tokens = tokens_at start 0 policy_cuts

abbrev credential_tokens : List TokenView
credential_tokens = tokens_at start 0 credential_cuts

no_faults_in : (fault_in policy_tokens ≡ None) × (fault_in credential_tokens ≡ None)
unfolding fault_in first_place fault_at fault_without version_place constant_place departure field_with fields_of
    field_of
no_faults_in = (refl, refl)

authorizers : (authorizer_in [] (of_field 1 policy_tokens) ≡ Ok (codes "POLICY"))
    × (authorizer_in [] (of_field 1 credential_tokens) ≡ Ok (codes "alice"))
unfolding field_with fields_of field_of goes_deep depth_behind run_behind authorizer_of principal_of value_behind
authorizers = (refl, refl)

formula_ok : (v : List ℕ) → has_bad_name [] (Who (Literal v)) ≡ false
    → licensees_by (licensing.judged_read [] (read_words (L.literal v ∷ [])))
    ≡ Ok (Some (formula_of [] (Who (Literal v))))
formula_ok v good = rw (one_spells v, bad_threshold_who (Literal v), good) refl

licensed : (licensees_in [] (of_field 5 policy_tokens) ≡ Ok (Some (formula_of [] (Who (Literal (codes "alice"))))))
    × (licensees_in [] (of_field 5 credential_tokens) ≡ Ok (Some (formula_of [] (Who (Literal (codes "bob"))))))
unfolding field_with fields_of field_of goes_deep depth_behind run_behind licensees_of L.words_of value_behind
licensed = (
  formula_ok (codes "alice") (bad_name_who [] (Literal (codes "alice"))),
  formula_ok (codes "bob") (bad_name_who [] (Literal (codes "bob"))),
)

licensees : (licensees_in [] (of_field 5 policy_tokens) ≡ Ok (Some (Licensee (codes "alice"))))
    × (licensees_in [] (of_field 5 credential_tokens) ≡ Ok (Some (Licensee (codes "bob"))))
licensees = (
  licensed.0 ∙ ap (λ (f : Formula). Ok (Some f)) (formula_who [] (Literal (codes "alice"))),
  licensed.1 ∙ ap (λ (f : Formula). Ok (Some f)) (formula_who [] (Literal (codes "bob"))),
)

policy_parts : reading_with policy_text policy_tokens ≡ Ok policy_assertion
unfolding reading_with stated_by field_with fields_of field_of
policy_parts =
    field_read (authorizer_in [] (of_field 1 policy_tokens)) (codes "POLICY") _ _ _ authorizers.0
    ∙ field_read (licensees_in [] (of_field 5 policy_tokens)) (Some (Licensee (codes "alice"))) _ _ _ licensees.0

credential_parts : reading_with credential_text credential_tokens ≡ Ok credential_assertion
unfolding reading_with stated_by field_with fields_of field_of
credential_parts =
    field_read (authorizer_in [] (of_field 1 credential_tokens)) (codes "alice") _ _ _ authorizers.1
    ∙ field_read (licensees_in [] (of_field 5 credential_tokens)) (Some (Licensee (codes "bob"))) _ _ _ licensees.1

pub policy_reading : reading_of policy_text ≡ Ok policy_assertion
policy_reading =
    reads policy_text policy_tokens policy_assertion refl
    (text_tokens policy_text policy_cuts refl policy_cut (omega arith)) no_faults_in.0 policy_parts

pub credential_reading : reading_of credential_text ≡ Ok credential_assertion
credential_reading =
    reads credential_text credential_tokens credential_assertion refl
    (text_tokens credential_text credential_cuts refl credential_cut (omega arith)) no_faults_in.1 credential_parts
