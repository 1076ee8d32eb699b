-- What the worked connections ask, its levels, and the rows that prove them.
use Rattle.std.proofs.Common.{ℕ, zero, suc, ◌≡◌, ◌≤◌, List, [], ◌∷◌, ◌++◌, codes, refl, ◌∙◌, ap, arith, true, Some}
use Rattle.std.proofs.Common.{None, Result, if◌then◌else◌}
use Rattle.std.specs.Str.{bytes_eq}
use Rattle.std.specs.Prelude.{is_some, All}
use Rattle.std.specs.Result.{result_ok}
use Rattle.kn_meaning.specs.Equations.{Statement}
use Rattle.kn_assert.specs.Reading.{reading_of, assertion_of}
use Rattle.kn_fields.specs.declared.fault.ReadFault.{ReadFault}
use Rattle.kn_trees.specs.declared.assertion.Assertion.{Assertion}
use Rattle.kn_proof.specs.declared.named.NamedRow.{NamedRow}
use Rattle.kn_proof.specs.declared.named.Id.TheVariants.{Shared}
use Rattle.kn_meaning.specs.Formulas.{Levels}
use Rattle.kn_meaning.specs.Equations.{Part, Equations, round, equations_over, worth, IsPolicyLevel}
use Rattle.kn_meaning.specs.Examples as M
use Rattle.kn_meaning.specs.Proofs.{IsProof, levels_by}
use Rattle.kn_meaning.proofs.Walks.{formula_level_who}
use Rattle.kn_history.specs.declared.update.Update.{Update}
use Rattle.kn_session.specs.Sessions.{Session}
use Rattle.kn_daemon.specs.Daemon.{part_by, asked_of, equations_of}
use Rattle.kn_worked.specs.Texts.{policy_text, policy_assertion, credential_text}
use Rattle.kn_worked.specs.Connections.{policy_history, longer_history, shorter_history}
use Rattle.kn_worked.proofs.Readings.{policy_reading, credential_reading}

pub of_one : (P : Statement → Type 0) (s : Statement) → P s → All P (s ∷ [])
of_one P s p zero d lt = p
of_one P s p (suc k) d lt = absurd (omega (arith, lt))

of_two : (P : Statement → Type 0) (s t : Statement) → P s → P t → All P (s ∷ t ∷ [])
of_two P s t p q zero d lt = p
of_two P s t p q (suc zero) d lt = q
of_two P s t p q (suc (suc k)) d lt = absurd (omega (arith, lt))

-- an assertion is worth no more than its authorizer has under these rows
abbrev pub IsWorth : Equations → List NamedRow → Statement → Type 0
IsWorth e rows s = worth e.top (levels_by e rows) s ≤ levels_by e rows s.authorizer

abbrev pub two_values : List (List ℕ)
two_values = codes "no" ∷ codes "yes" ∷ []

-- what a session asks of these parts
abbrev asked_by : Session → List Part → Equations
asked_by session parts = equations_over (asked_of session two_values) parts

abbrev pub policy_row : NamedRow
policy_row = record { value = 1; id = Shared 1; principal = codes "POLICY" }

abbrev pub alice_equations : Equations
alice_equations = M.question (codes "alice") M.direct_policy

-- alice and the policy at the top
alice_levels : Levels
alice_levels name = if bytes_eq name (codes "alice") then 1 else (if bytes_eq (codes "POLICY") name then 1 else 0)

alice_solves : (name : List ℕ) → round alice_equations alice_levels name ≡ alice_levels name
unfolding alice_levels
alice_solves name = grind (arith, formula_level_who 1 alice_levels (codes "alice"))

alice_below : (other : Levels) → ((name : List ℕ) → round alice_equations other name ≤ other name) → (name : List ℕ)
    → alice_levels name ≤ other name
unfolding alice_levels
alice_below other closed name =
    grind (arith, formula_level_who 1 other (codes "alice"), closed (codes "alice"), closed name)

pub alice_level : IsPolicyLevel alice_equations 1
unfolding alice_levels
alice_level = record {
  levels = alice_levels;
  least = record { solves = alice_solves; least = alice_below };
  here = refl;
}

pub alice_proof : IsProof alice_equations (policy_row ∷ []) 1
alice_proof = record {
  in_order = (
    record {
      other = refl;
      fresh = refl;
      above_lowest = omega arith;
      within = omega arith;
      supported = (
        0,
        M.licence 1 (codes "POLICY") (codes "alice"),
        omega arith,
        refl,
        record {
          named = refl;
          own = refl;
          enough = grind (arith, formula_level_who 1 (levels_by alice_equations []) (codes "alice"));
        },
      );
    },
    tt,
  );
  closed =
      of_one (IsWorth alice_equations (policy_row ∷ [])) _
      (grind (arith, formula_level_who 1 (levels_by alice_equations (policy_row ∷ [])) (codes "alice")));
  claim = refl;
}

-- the session behind OPEN and AUTH, pinned to this version
abbrev pub pinned_session : List Update → List ℕ → Session
pinned_session past requester = record {
  number = 1;
  pinned = past;
  privates = [];
  made = 0;
  attributes = [];
  requesters = requester ∷ [];
  standing = None;
}

abbrev pub alice_session : Session
alice_session = pinned_session policy_history (codes "alice")

pub alice_question : equations_of alice_session two_values ≡ alice_equations
alice_question =
    ap (λ (r : Result Assertion ReadFault). asked_by alice_session ((part_by Shared 1 (result_ok r) ++ []) ++ []))
    policy_reading

pub policy_valid : is_some (result_ok (reading_of policy_text)) ≡ true
policy_valid = ap (λ (r : Result Assertion ReadFault). is_some (result_ok r)) policy_reading

-- Bob asks: nothing is granted by the policy alone.

abbrev pub bob_equations : Equations
bob_equations = M.question (codes "bob") M.direct_policy

bob_levels : Levels
bob_levels name = if bytes_eq name (codes "bob") then 1 else 0

bob_solves : (name : List ℕ) → round bob_equations bob_levels name ≡ bob_levels name
unfolding bob_levels
bob_solves name = grind (arith, formula_level_who 1 bob_levels (codes "alice"))

bob_below : (other : Levels) → ((name : List ℕ) → round bob_equations other name ≤ other name) → (name : List ℕ)
    → bob_levels name ≤ other name
unfolding bob_levels
bob_below other closed name =
    grind (arith, formula_level_who 1 other (codes "alice"), closed (codes "bob"), closed name)

pub bob_level : IsPolicyLevel bob_equations 0
unfolding bob_levels
bob_level = record { levels = bob_levels; least = record { solves = bob_solves; least = bob_below }; here = refl }

pub bob_proof : IsProof bob_equations [] 0
bob_proof = record {
  in_order = tt;
  closed =
      of_one (IsWorth bob_equations []) _
      (grind (arith, formula_level_who 1 (levels_by bob_equations []) (codes "alice")));
  claim = refl;
}

abbrev pub bob_session : Session
bob_session = pinned_session policy_history (codes "bob")

pub bob_question : equations_of bob_session two_values ≡ bob_equations
bob_question =
    ap (λ (r : Result Assertion ReadFault). asked_by bob_session ((part_by Shared 1 (result_ok r) ++ []) ++ []))
    policy_reading

-- With the credential the policy reaches bob through alice.

abbrev pub alice_row : NamedRow
alice_row = record { value = 1; id = Shared 2; principal = codes "alice" }

abbrev pub longer_equations : Equations
longer_equations =
    M.question (codes "bob")
    (M.licence 1 (codes "POLICY") (codes "alice") ∷ M.licence 2 (codes "alice") (codes "bob") ∷ [])

longer_levels : Levels
longer_levels name =
    if bytes_eq name (codes "bob") then 1
    else (if bytes_eq (codes "alice") name then 1 else (if bytes_eq (codes "POLICY") name then 1 else 0))

longer_solves : (name : List ℕ) → round longer_equations longer_levels name ≡ longer_levels name
unfolding longer_levels
longer_solves name =
    grind (arith, formula_level_who 1 longer_levels (codes "alice"), formula_level_who 1 longer_levels (codes "bob"))

longer_below : (other : Levels) → ((name : List ℕ) → round longer_equations other name ≤ other name) → (name : List ℕ)
    → longer_levels name ≤ other name
unfolding longer_levels
longer_below other closed name =
    grind (
      arith,
      formula_level_who 1 other (codes "alice"),
      formula_level_who 1 other (codes "bob"),
      closed (codes "bob"),
      closed (codes "alice"),
      closed name,
    )

pub longer_level : IsPolicyLevel longer_equations 1
unfolding longer_levels
longer_level = record {
  levels = longer_levels;
  least = record { solves = longer_solves; least = longer_below };
  here = refl;
}

abbrev pub both_rows : List NamedRow
both_rows = alice_row ∷ policy_row ∷ []

pub longer_proof : IsProof longer_equations both_rows 1
longer_proof = record {
  in_order = (
    record {
      other = refl;
      fresh = refl;
      above_lowest = omega arith;
      within = omega arith;
      supported = (
        1,
        M.licence 2 (codes "alice") (codes "bob"),
        omega arith,
        refl,
        record {
          named = refl;
          own = refl;
          enough = grind (arith, formula_level_who 1 (levels_by longer_equations []) (codes "bob"));
        },
      );
    },
    (
      record {
        other = refl;
        fresh = refl;
        above_lowest = omega arith;
        within = omega arith;
        supported = (
          0,
          M.licence 1 (codes "POLICY") (codes "alice"),
          omega arith,
          refl,
          record {
            named = refl;
            own = refl;
            enough = grind (arith, formula_level_who 1 (levels_by longer_equations (alice_row ∷ [])) (codes "alice"));
          },
        );
      },
      tt,
    ),
  );
  closed =
      of_two (IsWorth longer_equations both_rows) _ _
      (grind (arith, formula_level_who 1 (levels_by longer_equations both_rows) (codes "alice")))
      (grind (arith, formula_level_who 1 (levels_by longer_equations both_rows) (codes "bob")));
  claim = refl;
}

abbrev pub later_session : ℕ → Session
later_session caller = pinned_session (longer_history caller) (codes "bob")

pub later_question : (caller : ℕ) → equations_of (later_session caller) two_values ≡ longer_equations
later_question caller =
    ap (λ (r : Result Assertion ReadFault). asked_by (later_session caller)
    ((part_by Shared 1 (result_ok r) ++ (part_by Shared 2 (assertion_of credential_text) ++ [])) ++ []))
    policy_reading
    ∙ ap (λ (r : Result Assertion ReadFault). asked_by (later_session caller)
    ((part_by Shared 1 (Some policy_assertion) ++ (part_by Shared 2 (result_ok r) ++ [])) ++ []))
    credential_reading

-- Without the policy's assertion nothing is granted.

abbrev pub shorter_equations : Equations
shorter_equations = M.question (codes "bob") (M.licence 2 (codes "alice") (codes "bob") ∷ [])

shorter_levels : Levels
shorter_levels name = if bytes_eq name (codes "bob") then 1 else (if bytes_eq (codes "alice") name then 1 else 0)

shorter_solves : (name : List ℕ) → round shorter_equations shorter_levels name ≡ shorter_levels name
unfolding shorter_levels
shorter_solves name = grind (arith, formula_level_who 1 shorter_levels (codes "bob"))

shorter_below : (other : Levels) → ((name : List ℕ) → round shorter_equations other name ≤ other name) → (name : List ℕ)
    → shorter_levels name ≤ other name
unfolding shorter_levels
shorter_below other closed name =
    grind (arith, formula_level_who 1 other (codes "bob"), closed (codes "bob"), closed (codes "alice"), closed name)

pub shorter_level : IsPolicyLevel shorter_equations 0
unfolding shorter_levels
shorter_level = record {
  levels = shorter_levels;
  least = record { solves = shorter_solves; least = shorter_below };
  here = refl;
}

abbrev pub shorter_session : ℕ → Session
shorter_session caller = pinned_session (shorter_history caller) (codes "bob")

pub shorter_question : (caller : ℕ) → equations_of (shorter_session caller) two_values ≡ shorter_equations
shorter_question caller =
    ap (λ (r : Result Assertion ReadFault). asked_by (shorter_session caller)
    ((part_by Shared 2 (result_ok r) ++ []) ++ []))
    credential_reading
