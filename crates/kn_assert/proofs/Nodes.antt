-- An assertion that a text spells is sound: its formula has fewer nodes than the text has bytes.
use Rattle.std.proofs.Common.{ℕ, suc, ◌+◌, ◌≤◌, Bool, not, Option, Some, None, List, [], ◌∷◌, length, arith}
use Rattle.std.specs.Prelude.{IfSome, take_while}
use Rattle.std.specs.List.{AllByRecursion, prefix_len}
use Rattle.std.proofs.lemmas.List.{length-take}
use Rattle.kn_lex.specs.Cutting.{TokenView, Cuts}
use Rattle.kn_lex.specs.TokenFacts.{IsTokenOf, StandInOrder}
use Rattle.kn_fields.specs.Fields.{is_label, fields_of, field_with}
use Rattle.kn_fields.specs.Faults.{constants_in}
use Rattle.kn_trees.specs.declared.assertion.Assertion.{Assertion}
use Rattle.kn_trees.specs.declared.formula.Formula.{Formula}
use Rattle.kn_trees.specs.Formulas.{IsReadable, field_nodes}
use Rattle.kn_formula.specs.Licensing.{AreLicensees}
use Rattle.kn_formula.proofs.Readable.{stated_readable}
use Rattle.kn_assert.specs.Reading.{IsSound}
use Rattle.kn_assert.specs.AssertionTexts.{IsReading}
use Rattle.kn_program.specs.Conditions.{IsConditions}
use Rattle.kn_assert.proofs.Answered.{principal_sized, if_stated}
use Rattle.kn_assert.proofs.Places.{TokensTold, FaultlessOrNot, tokens_each, well_faultless, each_field, one_field}
use Rattle.kn_assert.proofs.Places.{found_field, label_long}

-- what the lexer's law says of tokens
abbrev pub OrderTold : Type 0
OrderTold = (text : List ℕ) (tokens : List TokenView) → Cuts text tokens → StandInOrder 0 tokens

-- tokens that stand in their order from a place on, and end by another one, are no more than the bytes between
order_room : (text : List ℕ) (tokens : List TokenView) (from : ℕ) → StandInOrder from tokens
    → AllByRecursion (IsTokenOf text) tokens → from ≤ length text → from + length tokens ≤ length text
order_room text [] from order all le = omega arith
order_room text (token ∷ tokens) from order all le =
    omega (arith, order_room text tokens token.span.end order.2 all.1 all.0.within, order.0, order.1)

-- the tokens and the bytes of one of them
abbrev HasRoom : ℕ → ℕ → ℕ → TokenView → Type 0
HasRoom bytes before count token = before + count + length token.text ≤ bytes + 1

one_later : (bytes before count : ℕ) (tokens : List TokenView)
    → AllByRecursion (HasRoom bytes (before + 1) count) tokens
    → AllByRecursion (HasRoom bytes before (suc count)) tokens
one_later bytes before count [] all = tt
one_later bytes before count (token ∷ tokens) all = (omega (arith, all.0), one_later bytes before count tokens all.1)

each_room : (text : List ℕ) (tokens : List TokenView) (before from : ℕ) → StandInOrder from tokens
    → AllByRecursion (IsTokenOf text) tokens → before ≤ from → from ≤ length text
    → AllByRecursion (HasRoom (length text) before (length tokens)) tokens
each_room text [] before from order all le within = tt
each_room text (token ∷ tokens) before from order all le within =
    let rest = order_room text tokens token.span.end order.2 all.1 all.0.within in
    let here : before + suc (length tokens) + length token.text ≤ length text + 1 =
    omega (arith, rest, all.0.within, all.0.size, order.0, order.1) in (
      here,
      one_later (length text) before (length tokens) tokens
          (each_room text tokens (before + 1) token.span.end order.2 all.1 (omega (arith, order.0, order.1))
          all.0.within),
    )

-- a field has no more tokens than the text
front_short : (test : TokenView → Bool) (tokens : List TokenView) → length (take_while test tokens) ≤ length tokens
front_short test tokens = omega (arith, length-take (prefix_len test tokens) tokens)

fields_short : (n : ℕ) (tokens : List TokenView) → length tokens ≤ n
    → AllByRecursion (λ field. length field.tokens ≤ n) (fields_of tokens)
fields_short n =
    each_field (λ tokens. length tokens ≤ n) (λ field. length field.tokens ≤ n) (λ token tokens le. omega arith)
    (λ token tokens le. omega (arith, front_short (λ other. not (is_label other)) tokens))

nodes_few : (n : ℕ) (licensees : Option Formula) → IfSome licensees (λ formula. IsReadable n formula)
    → field_nodes licensees ≤ n
nodes_few n None h = omega arith
nodes_few n (Some formula) h = h.small

pub reading_sound : TokensTold → OrderTold → FaultlessOrNot → (text : List ℕ) (assertion : Assertion)
    → IsReading text assertion → IsSound (length text) assertion
reading_sound told order either text assertion h =
    let tokens = h.tokens in
    let authorizer = h.spelled.authorizer in
    let one = authorizer.2.1 in
    let sized = principal_sized (constants_in (field_with 6 tokens)) one.0 assertion.authorizer one.2 in
    let all = tokens_each told text tokens h.cut (well_faultless either text h.well_fielded) in
    let rooms = each_room text tokens 0 0 (order text tokens h.cut) all (omega arith) (omega arith) in
    let room : 0 + length tokens + length authorizer.0.label.text ≤ length text + 1 =
    (one_field (HasRoom (length text) 0 (length tokens)) 1 tokens authorizer.0 authorizer.1 rooms).0 in
    let long : 8 ≤ length authorizer.0.label.text = label_long 1 tokens authorizer.0 authorizer.1 in
    let readable = λ (n : ℕ) (le : length tokens ≤ n).
    if_stated (λ f l. AreLicensees (constants_in (field_with 6 tokens)) f.tokens l)
    (λ formula. IsReadable n formula) (field_with 5 tokens) assertion.licensees
    (λ f formula is shallow own.
    let readable = stated_readable (constants_in (field_with 6 tokens)) f.tokens formula own shallow in
    let few = found_field 5 (λ g. length g.tokens ≤ length tokens) tokens f is
    (fields_short (length tokens) tokens (omega arith)) in
    record { sound = readable.sound; small = omega (arith, readable.small, few, le); shallow = readable.shallow })
    h.spelled.licensees in
    let few : field_nodes assertion.licensees ≤ length tokens =
    nodes_few (length tokens) assertion.licensees (readable (length tokens) (omega arith)) in
    record {
      some = sized.0;
      short = sized.1;
      licensees = readable (length text) (omega arith);
      nodes = omega arith;
      conditions = if_stated (λ f p. IsConditions f.tokens p) _ (field_with 3 tokens) assertion.conditions
          (λ f p is shallow own. own.kinds) h.spelled.conditions;
    }
