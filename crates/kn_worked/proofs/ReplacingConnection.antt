-- That the connection of an administrator who replaces credentials by batches is served as it says.
use Rattle.std.proofs.Common.{ℕ, ◌≡◌, ◌≤◌, [], ◌∷◌, ◌++◌, List, codes, refl, sym, subst, ap, inl, le_refl, arith, Some}
use Rattle.std.proofs.Common.{true, None, Option, Result, if◌then◌else◌}
use Rattle.std.specs.Fmt.{digits}
use Rattle.std.specs.Str.{bytes_eq}
use Rattle.std.specs.Result.{result_ok}
use Rattle.std.specs.Prelude.{option_map}
use Rattle.std.specs.Option.{option_or}
use Rattle.kn_fields.specs.declared.fault.ReadFault.{ReadFault}
use Rattle.kn_trees.specs.declared.assertion.Assertion.{Assertion}
use Rattle.kn_proof.specs.declared.named.Id.TheVariants.{Shared}
use Rattle.kn_meaning.specs.Formulas.{Levels}
use Rattle.kn_meaning.specs.Equations.{Equations, round, equations_over, IsPolicyLevel}
use Rattle.kn_meaning.specs.Examples as M
use Rattle.kn_meaning.specs.Proofs.{IsProof}
use Rattle.kn_meaning.proofs.Walks.{formula_level_who}
use Rattle.kn_history.specs.declared.update.Update.{Update}
use Rattle.kn_session.specs.Sessions.{Session, StandingQuery, started_session, query_with, query_at, pin_at, asker}
use Rattle.kn_wire.specs.Items.{AddText, DropId}
use Rattle.kn_wire.specs.Requests.{Open, Admin, Auth, Query, Batch, Watch, News as ForNews, PinAt, Log as ForLog, Bye}
use Rattle.kn_reply.specs.declared.refusal.Refusal.TheVariants as R
use Rattle.kn_reply.specs.declared.refusal.ItemRefusal.{ItemRefusal}
use Rattle.kn_reply.specs.declared.refusal.ItemRefusal.TheVariants as I
use Rattle.kn_reply.specs.Replies.{Done, Started, Value, Batched, PinnedAt, Log, News}
use Rattle.kn_daemon.specs.Shapes.{shape_of}
use Rattle.kn_daemon.specs.Daemon.{DaemonConfig, State, Permits, first_state, part_by, asked_of, equations_of}
use Rattle.kn_daemon.specs.Daemon.{refusal_from}
use Rattle.kn_daemon.specs.Linearized.{Exchange}
use Rattle.kn_worked.specs.Texts.{policy_text, policy_assertion, credential_text, credential_assertion}
use Rattle.kn_worked.specs.Connections.{policy_history, batched_history, replaced_history, BatchesAreSeen}
use Rattle.kn_worked.proofs.Readings.{policy_reading, credential_reading}
use Rattle.kn_worked.proofs.Levels.{two_values, policy_row, pinned_session, policy_valid}
use Rattle.kn_worked.proofs.Levels.{alice_level, alice_proof, alice_question}
use Rattle.kn_worked.proofs.Admin.{credential_valid, admits}
use Rattle.kn_worked.proofs.Batches.{block, items_admitted}
use Rattle.kn_worked.proofs.Turns.{turns_stand}

-- the history with the first batch
abbrev first_history : List Update
first_history = batched_history 0

-- What alice asks.

abbrev asking : Session
asking = pinned_session first_history (codes "alice")

abbrev kept_query : StandingQuery
kept_query = query_with two_values asking

-- the standing query over the newest version
abbrev moved_query : StandingQuery
moved_query = query_at replaced_history kept_query

-- Without the policy's assertion nothing is granted.

abbrev without_policy : Equations
without_policy = M.question (codes "alice") (M.licence 2 (codes "alice") (codes "bob") ∷ [])

requester_alone : Levels
requester_alone name = if bytes_eq name (codes "alice") then 1 else 0

alone_solves : (name : List ℕ) → round without_policy requester_alone name ≡ requester_alone name
unfolding requester_alone
alone_solves name = grind (arith, formula_level_who 1 requester_alone (codes "bob"))

alone_below : (other : Levels) → ((name : List ℕ) → round without_policy other name ≤ other name) → (name : List ℕ)
    → requester_alone name ≤ other name
unfolding requester_alone
alone_below other closed name =
    grind (arith, formula_level_who 1 other (codes "bob"), closed (codes "alice"), closed name)

lost_level : IsPolicyLevel without_policy 0
unfolding requester_alone
lost_level = record {
  levels = requester_alone;
  least = record { solves = alone_solves; least = alone_below };
  here = refl;
}

lost_question : equations_of asking two_values ≡ without_policy
lost_question =
    ap (λ (r : Result Assertion ReadFault). equations_over (asked_of asking two_values)
    ((part_by Shared 2 (result_ok r) ++ []) ++ [])) credential_reading

-- The policy's text again has another id, which changes no level.

abbrev with_policy : Equations
with_policy = M.question (codes "alice") (M.licence 3 (codes "POLICY") (codes "alice") ∷ [])

regained_level : IsPolicyLevel with_policy 1
regained_level = record {
  levels = alice_level.levels;
  least = record { solves = alice_level.least.solves; least = alice_level.least.least };
  here = alice_level.here;
}

regained_question : equations_of (asker moved_query) two_values ≡ with_policy
regained_question =
    ap (λ (r : Result Assertion ReadFault). equations_over (asked_of (asker moved_query) two_values)
    ((part_by Shared 3 (result_ok r) ++ []) ++ [])) policy_reading

-- The exchanges one by one.

abbrev admin_with : ℕ → List Session → State
admin_with started sessions = record { started = started; sessions = sessions; is_admin = true }

abbrev shown : State
shown = admin_with 0 []

abbrev opened : State
opened = admin_with 1 (started_session 1 first_history ∷ [])

abbrev asked : State
asked = admin_with 1 (asking ∷ [])

-- the session that keeps this query
abbrev keeping : StandingQuery → Session
keeping query = record asking { standing = Some query }

abbrev watching : State
watching = admin_with 1 (keeping kept_query ∷ [])

abbrev moved : State
moved = admin_with 1 (keeping moved_query ∷ [])

-- the session back at version 1
abbrev back : Session
back = pin_at policy_history (keeping moved_query)

abbrev pinned : State
pinned = admin_with 1 (back ∷ [])

-- the block that adds the policy's text and removes the credential
abbrev later_block : List ℕ
later_block = codes "ADD 40\n" ++ policy_text ++ codes "\nDROP a2\n"

module _ (g : DaemonConfig) where
  is_admin : g.secret ≡ codes "s3cret"
      → Permits g 0 policy_history first_state (shape_of (Admin (codes "733363726574"))) Done shown
  is_admin secret = record { accepted = rw secret refl; answered = refl; next = refl }

  first_batch : g.verdict credential_text credential_assertion ≡ 0
      → Permits g 0 first_history shown (shape_of (Batch (block (codes "1")))) (Batched 2 1 2) shown
  first_batch verdict = record {
    accepted = items_admitted g 1 verdict;
    answered = record {
      first = 2;
      committed = record { before = policy_history; ends = refl; accepted = rw credential_valid refl };
      first_is = refl;
      exact = refl;
    };
    next = refl;
  }

  is_open : Permits g 0 first_history shown (shape_of Open) (Started 1 2) opened
  is_open = record { accepted = refl; answered = refl; next = refl }

  alice_asks : Permits g 0 first_history opened (shape_of (Auth 1 (codes "alice"))) Done asked
  unfolding digits
  alice_asks = record { accepted = refl; answered = refl; next = refl }

  is_kept : Permits g 0 first_history asked (shape_of (Watch 1 (codes "no,yes"))) (News 0 (codes "no") 2) watching
  is_kept = record {
    accepted = refl;
    answered = record {
      level = 0;
      exact = refl;
      least = subst (λ (e : Equations). IsPolicyLevel e 0) (sym lost_question) lost_level;
    };
    next = refl;
  }

  later_admitted : g.verdict policy_text policy_assertion ≡ 0
      → refusal_from g 1 (AddText policy_text ∷ DropId 2 ∷ []) ≡ None
  later_admitted verdict =
      ap (λ (o : Option ItemRefusal). option_or (option_map (R.Item 1) o) (refusal_from g 2 (DropId 2 ∷ [])))
      (admits I.Read I.Auth g policy_reading verdict)

  later_batch : g.verdict policy_text policy_assertion ≡ 0
      → Permits g 0 replaced_history watching (shape_of (Batch later_block)) (Batched 3 1 3) watching
  later_batch verdict = record {
    accepted = later_admitted verdict;
    answered = record {
      first = 3;
      committed = record { before = first_history; ends = refl; accepted = rw policy_valid refl };
      first_is = refl;
      exact = refl;
    };
    next = refl;
  }

  is_news : Permits g 0 replaced_history watching (shape_of (ForNews 1)) (News 1 (codes "yes") 3) moved
  is_news = record {
    accepted = refl;
    answered = record {
      level = 1;
      exact = refl;
      least = subst (λ (e : Equations). IsPolicyLevel e 1) (sym regained_question) regained_level;
    };
    next = refl;
  }

  is_pinned : Permits g 0 replaced_history moved (shape_of (PinAt 1 1)) (PinnedAt 1 3) pinned
  is_pinned = record { accepted = refl; answered = (refl, refl); next = refl }

  is_answered : Permits g 0 replaced_history pinned (shape_of (Query 1 (codes "no,yes")))
      (Value 1 (codes "yes") 1 (policy_row ∷ [])) pinned
  is_answered = record {
    accepted = refl;
    answered = record {
      level = 1;
      rows = policy_row ∷ [];
      exact = refl;
      proved = subst (λ (e : Equations). IsProof e (policy_row ∷ []) 1) (sym alice_question) alice_proof;
      least = subst (λ (e : Equations). IsPolicyLevel e 1) (sym alice_question) alice_level;
    };
    next = refl;
  }

  is_logged : Permits g 0 replaced_history pinned (shape_of (ForLog 1)) (Log 1 replaced_history) pinned
  is_logged = record { accepted = refl; answered = (omega arith, refl); next = refl }

  is_left : Permits g 0 replaced_history pinned (shape_of Bye) Done pinned
  is_left = record { accepted = refl; answered = refl; next = refl }

-- The connection.

abbrev replacing_exchanges : List Exchange
replacing_exchanges =
    record { request = Admin (codes "733363726574"); reply = Done; place = 1 }
    ∷ record { request = Batch (block (codes "1")); reply = Batched 2 1 2; place = 2 }
    ∷ record { request = Open; reply = Started 1 2; place = 2 }
    ∷ record { request = Auth 1 (codes "alice"); reply = Done; place = 2 }
    ∷ record { request = Watch 1 (codes "no,yes"); reply = News 0 (codes "no") 2; place = 2 }
    ∷ record { request = Batch later_block; reply = Batched 3 1 3; place = 3 }
    ∷ record { request = ForNews 1; reply = News 1 (codes "yes") 3; place = 3 }
    ∷ record { request = PinAt 1 1; reply = PinnedAt 1 3; place = 3 }
    ∷ record { request = Query 1 (codes "no,yes"); reply = Value 1 (codes "yes") 1 (policy_row ∷ []); place = 3 }
    ∷ record { request = ForLog 1; reply = Log 1 replaced_history; place = 3 }
    ∷ record { request = Bye; reply = Done; place = 3 } ∷ []

pub batches_are_seen : BatchesAreSeen
unfolding digits
batches_are_seen g is_over secret verdict later = record {
  exchanges = replacing_exchanges;
  rest = [];
  last = pinned;
  requests = (
    _,
    refl,
    (_, refl, (_, refl, (_, refl, (_, refl, (_, refl, (_, refl, (_, refl, (_, refl, (_, refl, (_, refl, refl)))))))))),
  );
  replies = (
    shown,
    is_admin g secret,
    (
      shown,
      first_batch g verdict,
      (
        opened,
        is_open g,
        (
          asked,
          alice_asks g,
          (
            watching,
            is_kept g,
            (
              watching,
              later_batch g later,
              (
                moved,
                is_news g,
                (
                  pinned,
                  is_pinned g,
                  (pinned, is_answered g, (pinned, is_logged g, (pinned, is_left g, refl))),
                ),
              ),
            ),
          ),
        ),
      ),
    ),
  );
  places = record {
    valid = rw (policy_valid, credential_valid) refl;
    within = le_refl 3;
    in_order = (
      le_refl 1,
      (
        omega arith,
        (
          le_refl 2,
          (
            le_refl 2,
            (
              le_refl 2,
              (omega arith, (le_refl 3, (le_refl 3, (le_refl 3, (le_refl 3, (le_refl 3, le_refl 3)))))),
            ),
          ),
        ),
      ),
    );
    own = refl;
    stopped = turns_stand replacing_exchanges;
  };
  bytes = refl;
  one_bye = refl;
  count = omega arith;
  why = inl refl;
}
