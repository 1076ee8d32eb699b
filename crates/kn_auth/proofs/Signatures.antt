-- The verdict of keys, by what stands behind the algorithm of a signature.
use Rattle.std.proofs.Common.{◌≡◌, ◌≢◌, ℕ, Bool, cond, nat_eq, List, ◌++◌, length, take, drop, Option, Some, sym, ap}
use Rattle.std.proofs.Common.{◌∙◌, inl, inr, take-append-drop}
use Rattle.std.specs.List.{starts_with}
use Rattle.std.proofs.lemmas.Bool.{cases_Bool}
use Rattle.std.proofs.lemmas.Slice.Eq.{bytes_eq-Decides}
use Rattle.kn_trees.specs.declared.assertion.Assertion.{Assertion}
use Rattle.kn_auth.specs.Verdicts.{key_of, mac_algorithm, code_verdict, signature_verdict, mac_verdict}
use Rattle.kn_auth.specs.declared.entry.MacKey.{MacKey}

-- a signature of another algorithm
pub of_another : (keys : List MacKey) (text : List ℕ) (assertion : Assertion) (signature : List ℕ)
    → assertion.signature ≡ Some signature
    → ((digits : List ℕ) → signature ≢ mac_algorithm ++ digits) → mac_verdict keys text assertion ≡ 2
of_another keys text assertion signature signed other =
    ap (λ (s : Option (List ℕ)). signature_verdict s (key_of assertion.authorizer keys) (take assertion.signed_to text))
    signed
    ∙ elim (cases_Bool (starts_with nat_eq signature mac_algorithm)) [
      | inl begins ↦
          let front : mac_algorithm ≡ take (length mac_algorithm) signature =
          (bytes_eq-Decides mac_algorithm (take (length mac_algorithm) signature)).0 begins in
          absurd (other (drop (length mac_algorithm) signature) (sym (take-append-drop (length mac_algorithm) signature)
          ∙ ap (λ (l : List ℕ). l ++ drop (length mac_algorithm) signature) (sym front)))
      | inr none ↦ ap (λ (b : Bool).
          cond b (code_verdict (key_of assertion.authorizer keys) (drop (length mac_algorithm) signature)
          (take assertion.signed_to text)) 2) none
    ]
