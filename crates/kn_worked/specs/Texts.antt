-- The texts of the worked examples, and the assertions that they state.
use Rattle.std.specs.Prelude.{ℕ, List, [], codes, Some, None}
use Rattle.kn_trees.specs.declared.assertion.Assertion.{Assertion}
use Rattle.kn_trees.specs.declared.formula.Formula.TheVariants.{Who}

-- the policy licenses alice
abbrev pub policy_text : List ℕ
policy_text = codes "Authorizer: \"POLICY\"\nLicensees: \"alice\"\n"

abbrev pub policy_assertion : Assertion
policy_assertion = record {
  authorizer = codes "POLICY";
  constants = [];
  licensees = Some (Who (codes "alice"));
  conditions = None;
  signature = None;
  signed_to = 40;
}

-- alice licenses bob
abbrev pub credential_text : List ℕ
credential_text = codes "Authorizer: \"alice\"\nLicensees: \"bob\"\n"

abbrev pub credential_assertion : Assertion
credential_assertion = record {
  authorizer = codes "alice";
  constants = [];
  licensees = Some (Who (codes "bob"));
  conditions = None;
  signature = None;
  signed_to = 37;
}
