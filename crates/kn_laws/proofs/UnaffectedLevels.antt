-- Whom a change of assertions can't affect keeps its level.
use Rattle.std.proofs.Common.{◌≡◌, ℕ, ◌≤◌, Bool, true, false, cond, not, List, [], ◌∷◌, map, All, max, min, refl, sym}
use Rattle.std.proofs.Common.{ap, ◌∙◌, le_refl, arith, true≢false}
use Rattle.std.specs.Str.{bytes_eq}
use Rattle.std.proofs.lemmas.Bool.{false_from_ne_true}
use Rattle.std.proofs.lemmas.List.Elements.{All-head, All-tail}
use Rattle.std.proofs.lemmas.Slice.Eq.{bytes_eq-Decides}
use Rattle.kn_env.specs.Environment.{Asked}
use Rattle.kn_principal.specs.Principals.{policy}
use Rattle.kn_meaning.specs.Formulas.{Levels}
use Rattle.kn_meaning.specs.Equations.{Part, statement_of, equations_over, worth, highest_worth, is_requester, round}
use Rattle.kn_meaning.specs.Equations.{IsLeast}
use Rattle.kn_laws.specs.Unaffected.{IsUserAffected, unaffected_parts, UnaffectedKeepLevel}
use Rattle.kn_laws.proofs.FormulaNames.{licensees_level-names}
use Rattle.kn_laws.proofs.Rounds.{round-le}
use Rattle.kn_laws.proofs.Settles.{has_level, least-within}

module _ (asked : Asked) (affected : List ℕ → Bool) where
  -- who isn't affected has the same level in both
  abbrev AgreeElsewhere : Levels → Levels → Type 0
  AgreeElsewhere at other = (name : List ℕ) → affected name ≡ false → at name ≡ other name

  -- an assertion of an authorizer who isn't affected names no one who is, so it is worth the same
  worth-elsewhere : (top : ℕ) (at other : Levels) → AgreeElsewhere at other → (part : Part)
      → IsUserAffected affected part → affected part.assertion.authorizer ≡ false
      → worth top at (statement_of asked part) ≡ worth top other (statement_of asked part)
  worth-elsewhere top at other agree part users own =
      ap (min (statement_of asked part).ceiling)
      (licensees_level-names top at other part.assertion.licensees (λ name among.
      agree name (false_from_ne_true (affected name) (λ is. true≢false (sym (users name among is) ∙ own)))))

  abbrev highest : ℕ → Levels → List ℕ → List Part → ℕ
  highest top at name parts = highest_worth top at name (map (statement_of asked) parts)

  -- who isn't affected has no assertions but those whose authorizers aren't
  highest-elsewhere : (top : ℕ) (at other : Levels) → AgreeElsewhere at other → (name : List ℕ) → affected name ≡ false
      → (parts : List Part) → All (IsUserAffected affected) parts
      → highest top at name parts ≡ highest top other name (unaffected_parts affected parts)
  highest-elsewhere top at other agree name own [] users = refl
  highest-elsewhere top at other agree name own (part ∷ parts) users =
      by (affected part.assertion.authorizer) refl
      (highest-elsewhere top at other agree name own parts (All-tail (IsUserAffected affected) part parts users))
    where
      test : Bool
      test = bytes_eq part.assertion.authorizer name

      by : (b : Bool) → affected part.assertion.authorizer ≡ b
          → highest top at name parts ≡ highest top other name (unaffected_parts affected parts)
          → max (cond test (worth top at (statement_of asked part)) 0) (highest top at name parts)
          ≡ highest top other name (cond (not b) (part ∷ unaffected_parts affected parts)
          (unaffected_parts affected parts))
      by true is rest =
          let differs : test ≡ false =
          false_from_ne_true test (λ same. true≢false (sym is
          ∙ ap affected ((bytes_eq-Decides part.assertion.authorizer name).0 same) ∙ own)) in
          let none : max 0 (highest top at name parts) ≡ highest top at name parts = omega arith in
          ap (λ b. max (cond b (worth top at (statement_of asked part)) 0) (highest top at name parts)) differs
          ∙ none ∙ rest
      by false is rest =
          let value : worth top at (statement_of asked part) ≡ worth top other (statement_of asked part) =
          worth-elsewhere top at other agree part (All-head (IsUserAffected affected) part parts users) is in
          ap (λ w. max (cond test w 0) (highest top at name parts)) value
          ∙ ap (max (cond test (worth top other (statement_of asked part)) 0)) rest

  -- the top for who is affected
  abbrev raised : ℕ → Levels → Levels
  raised top at name = cond (affected name) top (at name)

  raised-elsewhere : (top : ℕ) (at : Levels) → AgreeElsewhere (raised top at) at
  raised-elsewhere top at name own = ap (λ b. cond b top (at name)) own

  raised-within : (top : ℕ) (at : Levels) → ((name : List ℕ) → at name ≤ top) → (name : List ℕ)
      → raised top at name ≤ top
  raised-within top at within name = by (affected name)
    where
      by : (b : Bool) → cond b top (at name) ≤ top
      by true = le_refl top
      by false = within name

  module _ (old new : List Part) (olds : All (IsUserAffected affected) old) (news : All (IsUserAffected affected) new)
      (same : unaffected_parts affected old ≡ unaffected_parts affected new) where
    abbrev top_level : ℕ
    top_level = (equations_over asked old).top

    -- the least levels with the new assertions, where who is affected has the top, are raised by no old one
    raised-closed : (at : Levels) → IsLeast (equations_over asked new) at → (name : List ℕ)
        → round (equations_over asked old) (raised top_level at) name ≤ raised top_level at name
    raised-closed at least name = by (affected name) refl
      where
        kept : affected name ≡ false
            → round (equations_over asked old) (raised top_level at) name ≡ round (equations_over asked new) at name
        kept own =
            ap (cond (is_requester (equations_over asked old) name) top_level)
            (highest-elsewhere top_level (raised top_level at) at (raised-elsewhere top_level at) name own old olds
            ∙ ap (highest top_level at name) same
            ∙ sym (highest-elsewhere top_level at at (λ other _. refl) name own new news))

        by : (b : Bool) → affected name ≡ b
            → round (equations_over asked old) (raised top_level at) name ≤ cond b top_level (at name)
        by true is = round-le (equations_over asked old) (raised top_level at)
            (raised-within top_level at (least-within (equations_over asked new) at least)) name
        by false is = let after = kept is in let solved = least.solves name in omega arith

    -- so who isn't affected has no higher level with the old ones
    pub least-elsewhere : (at other : Levels) → IsLeast (equations_over asked old) at
        → IsLeast (equations_over asked new) other → (name : List ℕ) → affected name ≡ false → at name ≤ other name
    least-elsewhere at other least others name own =
        let below : at name ≤ raised top_level other name =
        least.least (raised top_level other) (raised-closed other others) name in
        let here : raised top_level other name ≡ other name = raised-elsewhere top_level other name own in
        omega arith

pub unaffected-keep_level : UnaffectedKeepLevel
unaffected-keep_level asked affected old new olds news same own level is =
    let found = (has_level (equations_over asked new)).1 in
    let below : is.levels policy ≤ found.levels policy =
    least-elsewhere asked affected old new olds news same is.levels found.levels is.least found.least policy own in
    let above : found.levels policy ≤ is.levels policy =
    least-elsewhere asked affected new old news olds (sym same) found.levels is.levels found.least is.least policy
    own in
    let here : is.levels policy ≡ level = is.here in
    record { levels = found.levels; least = found.least; here = omega arith }
