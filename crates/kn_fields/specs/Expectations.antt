-- A list of constants token by token: what is due at each, as the reader takes them.
use Rattle.std.specs.Prelude.{ℕ, ◌≡◌, ◌==◌, Bool, not, ◌&&◌, List, [], ◌∷◌, slice_index, codes}
use Rattle.std.specs.Borrow.{Bor}
use Rattle.std.specs.BTreeSet.{BTreeSet, contains_by}
use Rattle.std.specs.Cmp.Lexicographic.{slice_cmp}
use Rattle.std.specs.List.{list_any}
use Rattle.std.specs.Ordering.{nat_cmp}
use Rattle.std.specs.Str.{bytes_eq}
use Rattle.kn_lex.specs.Cutting.{TokenView}
use Rattle.kn_fields.specs.Constants.{is_name_sort, is_sign_sort, is_text_sort}
use Rattle.kn_fields.specs.declared.constants.Expecting.{Expecting}
use Rattle.kn_fields.specs.declared.constants.Expecting.TheVariants.{Setting, Equals, Value}

-- the token is this name
abbrev pub is_name : List ℕ → TokenView → Bool
is_name name token = is_name_sort token.sort && bytes_eq token.text name

-- the set has the names among these tokens, and nothing else
abbrev pub AreNames : BTreeSet (Bor (List ℕ)) → List TokenView → Type 0
AreNames names tokens = (name : List ℕ) → contains_by (λ key. slice_cmp nat_cmp name key.now) names
    ≡ list_any (is_name name) tokens

abbrev pub next_expecting : Expecting → Expecting
next_expecting Setting = Equals
next_expecting Equals = Value
next_expecting Value = Setting

-- what is due behind these tokens, where this was due before them
unfoldable pub expecting_behind : Expecting → List TokenView → Expecting
expecting_behind expecting [] = expecting
expecting_behind expecting (token ∷ tokens) = expecting_behind (next_expecting expecting) tokens

-- the token is what is due: a name that doesn't begin with `_` and was not set before, `=`, or a literal
abbrev pub fits : Expecting → List TokenView → TokenView → Bool
fits Setting before token =
    is_name_sort token.sort && not (slice_index token.text 0 == 95) && not (list_any (is_name token.text) before)
fits Equals before token = is_sign_sort token.sort && bytes_eq token.text (codes "=")
fits Value before token = is_text_sort token.sort

-- the list departs with this token behind these
abbrev pub departs : List TokenView → TokenView → Bool
departs before token = not (fits (expecting_behind Setting before) before token)
