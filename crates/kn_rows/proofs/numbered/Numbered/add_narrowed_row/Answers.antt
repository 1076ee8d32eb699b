use Rattle.std.proofs.Common.{◌≡◌, ◌<◌, ℕ, List, length, Option, Some, None, IsSome, IfSome, IfNone, refl, subst, arith}
use Rattle.std.proofs.lemmas.Option.{slice_get_within}
use Rattle.kn_rows.specs.Numbering.{IsNumber, IsAbsent}
use Rattle.kn_rows.proofs.Names.{bytes_eq-same, true_or}
use Rattle.kn_rows.proofs.numbered.Numbered.add_narrowed_row.Goals as goal

-- who has a number is found
is_found : (found : Option ℕ) (names : List (List ℕ)) (name : List ℕ) (p : ℕ) → IsNumber names name p
    → IfNone found (IsAbsent names name) → IsSome found
is_found (Some number) names name p here absent = refl
is_found None names name p here absent = absurd (absent p here)

number_found : (found : Option ℕ) (names : List (List ℕ)) (searched name : List ℕ) (p : ℕ) → found ≡ Some p
    → searched ≡ name → IfSome found (IsNumber names searched) → IsNumber names name p
number_found found names searched name p is same number =
    subst (λ n. IsNumber names n p) same (subst (λ f. IfSome f (IsNumber names searched)) is number)

pub unwrap-authorizer-requires : goal.unwrap-authorizer-requires
unwrap-authorizer-requires c =
    let name : List ℕ = c.as_slice.result.now in
    let there : (p : ℕ) × IsNumber c.args.self.now.names name p =
    c.requires.authorizer name (true_or _ _ (bytes_eq-same name c.args.assertion.now.authorizer c.as_slice.ensures)) in
    is_found c.find.result c.args.self.now.names name there.0 there.1 c.find.ensures.absent

pub push_row-requires-clause-authorizer_in_range : goal.push_row-requires-clause-authorizer_in_range
push_row-requires-clause-authorizer_in_range c =
    let names : List (List ℕ) = c.args.self.now.names in
    let here : IsNumber names c.args.assertion.now.authorizer c.unwrap-authorizer.result =
    number_found c.find.result names c.as_slice.result.now c.args.assertion.now.authorizer c.unwrap-authorizer.result
    c.unwrap-authorizer.ensures c.as_slice.ensures c.find.ensures.number in
    let within : c.unwrap-authorizer.result < length names =
    slice_get_within names c.unwrap-authorizer.result c.args.assertion.now.authorizer here in
    omega (arith, within, c.requires.one_each)

pub returns : goal.returns
returns c = record {
  ok = record {
    row = record {
      authorizer = c.unwrap-authorizer.result;
      ceiling = c.args.ceiling;
      formula = c.in_ok-pieces.pieces;
    };
    names = refl;
    system = c.in_ok-push_row.ensures.ok;
    short = c.in_ok-pieces.ensures.short;
    capped = refl;
    is = record {
      authorizer = number_found c.find.result c.args.self.now.names c.as_slice.result.now
          c.args.assertion.now.authorizer c.unwrap-authorizer.result c.unwrap-authorizer.ensures c.as_slice.ensures
          c.find.ensures.number;
      pieces = c.in_ok-pieces.ensures.pieces;
      licensees = c.in_ok-pieces.ensures.level;
    };
  };
}
