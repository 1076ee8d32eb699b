-- The names of a command's files (keynoted's own).
use Rattle.std.specs.Prelude.{ℕ, List, [], ◌∷◌, Option, option_to_list}

-- the files of `ask`: the policy, and the key file where one is named
pub record AskNames : Type 0 where
  pub policy : List ℕ
  pub keys : Option (List ℕ)

-- in the order in which they are read
abbrev pub ask_order : AskNames → List (List ℕ)
ask_order names = names.policy ∷ option_to_list names.keys

-- the files of `check`: the policy, the script, and the reply to the query that the script means
pub record CheckNames : Type 0 where
  pub policy : List ℕ
  pub script : List ℕ
  pub reply : List ℕ

-- in the order in which they are read
abbrev pub in_order : CheckNames → List (List ℕ)
in_order names = names.policy ∷ names.script ∷ names.reply ∷ []

-- the files of `verify`: the policy, what a client sent on a whole connection, and what it got
pub record VerifyNames : Type 0 where
  pub policy : List ℕ
  pub script : List ℕ
  pub replies : List ℕ

-- in the order in which they are read
abbrev pub verify_order : VerifyNames → List (List ℕ)
verify_order names = names.policy ∷ names.script ∷ names.replies ∷ []
