-- The words of the commands (keynoted's own).
use Rattle.std.specs.Prelude.{ℕ, ◌≡◌, ◌≤◌, List, [], ◌∷◌, All, slice_get, codes, true, Option, Some, option_and_then}
use Rattle.std.specs.Str.{IsUtf8}
use Rattle.clap.specs.Words.{App, Rule, Text, new_app, new_rule, with_rule, matches_of, first_of, fault_of}
use Rattle.kn_base.specs.Decimal.{decimal_of}
use Rattle.kn_base.specs.declared.limits.TheConstants.{GENERATED_CREDENTIALS, WORKERS, CONNECTIONS}
use Rattle.kn_words.specs.Names.{AskNames, ask_order, CheckNames, in_order, VerifyNames, verify_order}
use Rattle.kn_words.specs.Orders.{Order}
use Rattle.kn_words.specs.declared.gen_words.GenNumbers.{GenNumbers}

-- the words ask for the policy in a file, and name a key file or none
abbrev pub AskFor : List (List ℕ) → AskNames → Type 0
AskFor words names = words ≡ codes "ask" ∷ ask_order names

-- the words ask whether a reply is proved
abbrev pub CheckFor : List (List ℕ) → CheckNames → Type 0
CheckFor words names = words ≡ codes "check" ∷ in_order names

-- the words ask what the log in a file makes of a replica
abbrev pub FollowFor : List (List ℕ) → List ℕ → Type 0
FollowFor words name = words ≡ codes "follow" ∷ name ∷ []

-- the words ask whether a transcript is accepted
abbrev pub VerifyFor : List (List ℕ) → VerifyNames → Type 0
VerifyFor words names = words ≡ codes "verify" ∷ verify_order names

-- Two words spell these numbers by one to nine digits, and there are from 1 to 2,048 credentials.
pub record AreGenNumbers (first second : List ℕ) (numbers : GenNumbers) : Type 0 where
  pub start : decimal_of first ≡ Some numbers.start
  pub count : decimal_of second ≡ Some numbers.count
  pub some : 1 ≤ numbers.count
  pub most : numbers.count ≤ GENERATED_CREDENTIALS

-- the words ask for the credentials that these numbers give
pub record GenFor (words : List (List ℕ)) (numbers : GenNumbers) : Type 0 where
  pub first : List ℕ
  pub second : List ℕ
  pub spelled : words ≡ codes "gen" ∷ first ∷ second ∷ []
  pub are : AreGenNumbers first second numbers

-- two words spell no such numbers
abbrev pub AreNoGenNumbers : List ℕ → List ℕ → Type 0
AreNoGenNumbers first second = (numbers : GenNumbers) → AreGenNumbers first second numbers → ⊥

-- The command that reads the words of `serve`, as `clap` sees it: one address, and options of which each has a value.
-- The first word stands where a program has its name.
abbrev pub address_rule : Rule
address_rule = record (new_rule (codes "ADDR")) { required = true }

abbrev pub policy_rule : Rule
policy_rule = record (new_rule (codes "policy")) { long = Some (codes "policy"); required = true }

abbrev pub keys_rule : Rule
keys_rule = record (new_rule (codes "keys")) { long = Some (codes "keys") }

abbrev pub workers_rule : Rule
workers_rule = record (new_rule (codes "workers")) { long = Some (codes "workers"); defaults = codes "4" ∷ [] }

abbrev pub connections_rule : Rule
connections_rule = record (new_rule (codes "connections")) { long = Some (codes "connections"); required = true }

abbrev pub serve_app : App
serve_app =
    with_rule (with_rule (with_rule (with_rule (with_rule (new_app (codes "serve"))
    address_rule) policy_rule) keys_rule) workers_rule) connections_rule

-- the value that words give an option, or its default
abbrev pub option_value : List Text → Text → Option Text
option_value words id = first_of id (matches_of serve_app words)

-- The values of options are those of a service: its numbers are in their ranges, and have the form of `decimal_of`.
pub record AreValuesOf (value : Text → Option Text) (order : Order) : Type 0 where
  pub address : value (codes "ADDR") ≡ Some order.address
  pub policy : value (codes "policy") ≡ Some order.files.policy
  pub keys : value (codes "keys") ≡ order.files.keys
  pub workers : option_and_then decimal_of (value (codes "workers")) ≡ Some order.workers
  pub connections : option_and_then decimal_of (value (codes "connections")) ≡ Some order.connections
  pub some_workers : (1 ≤ order.workers) × (order.workers ≤ WORKERS)
  pub some_connections : (1 ≤ order.connections) × (order.connections ≤ CONNECTIONS)

-- The words ask for a service: the first is `serve`, all are UTF-8, `clap` finds no fault in them, and their values are
-- those of the service.
pub record ServeFor (words : List (List ℕ)) (order : Order) : Type 0 where
  pub serve : slice_get words 0 ≡ Some (codes "serve")
  pub texts : All IsUtf8 words
  pub taken : fault_of serve_app words ≡ []
  pub values : AreValuesOf (option_value words) order

-- the words ask for nothing of this kind
abbrev pub IsNo : {X : Type 0} → (List (List ℕ) → X → Type 0) → List (List ℕ) → Type 0
IsNo {X} For words = (asked : X) → For words asked → ⊥

-- the words are those of no command
pub record IsNoCommand (words : List (List ℕ)) : Type 0 where
  pub ask : IsNo AskFor words
  pub check : IsNo CheckFor words
  pub follow : IsNo FollowFor words
  pub gen : IsNo GenFor words
  pub serve : IsNo ServeFor words
  pub verify : IsNo VerifyFor words
