-- What `clap` reads of the words of a service.
use Rattle.std.proofs.Common.{◌≡◌, List, [], refl, sym, ap, ◌∙◌, subst, true, Option, Some, None}
use Rattle.std.specs.Prelude.{codes, slice_get, All, option_and_then, IfSome, IfNone}
use Rattle.std.specs.Str.{IsUtf8}
use Rattle.clap.specs.Words.{Text, first_of, first_value, found_of, fault_of, is_simple, is_simple_and_free}
use Rattle.clap.specs.Words.{HasMatchesOf}
use Rattle.clap.specs.declared.parser.matches.ArgMatches.{ArgMatches}
use Rattle.clap.proofs.OnLiterals.{clap_on_literals}
use Rattle.clap.proofs.WalkLemmas.{first_value-rows}
use Rattle.kn_base.specs.Decimal.{decimal_of}
use Rattle.kn_words.specs.Orders.{Order}
use Rattle.kn_words.specs.Commands.{serve_app, option_value, AreValuesOf, ServeFor, IsNo}

-- the command is one of which `clap` says what it reads
pub serve_app_is_simple : is_simple serve_app ≡ true
unfolding clap_on_literals
serve_app_is_simple = refl

pub serve_app_is_free : is_simple_and_free serve_app ≡ true
unfolding clap_on_literals
serve_app_is_free = refl

-- what a clause says of the value that there is, or where there is none
pub some_value : {X : Type 0} (r : Option X) (x : X) (P : X → Type 0) → r ≡ Some x → IfSome r P → P x
some_value r x P is said = subst (λ (o : Option _). IfSome o P) is said

pub no_value : {X Q : Type 0} (r : Option X) → r ≡ None → IfNone r Q → Q
no_value None is said = said
no_value (Some x) is said = absurd (cc)

-- what follows where there is no value
pub if_none_then : {X P Q : Type 0} (r : Option X) → (P → Q) → IfNone r P → IfNone r Q
if_none_then None then p = then p
if_none_then (Some x) then p = tt

-- the same values make the same service
same_values : (v w : Text → Option Text) (order : Order) → ((id : Text) → v id ≡ w id) → AreValuesOf v order
    → AreValuesOf w order
same_values v w order same a = record {
  address = sym (same (codes "ADDR")) ∙ a.address;
  policy = sym (same (codes "policy")) ∙ a.policy;
  keys = sym (same (codes "keys")) ∙ a.keys;
  workers = ap (λ (x : Option Text). option_and_then decimal_of x) (sym (same (codes "workers"))) ∙ a.workers;
  connections =
      ap (λ (x : Option Text). option_and_then decimal_of x) (sym (same (codes "connections"))) ∙ a.connections;
  some_workers = a.some_workers;
  some_connections = a.some_connections;
}

-- what was read is what the words give
read_value : (words : List Text) (m : ArgMatches) → HasMatchesOf serve_app words m → (id : Text)
    → first_value (found_of m) id ≡ option_value words id
read_value words m matches id = first_value-rows (found_of m) id ∙ ap (first_of id) (matches serve_app_is_simple).0

pub words_taken : (words : List Text) (m : ArgMatches) (order : Order) → slice_get words 0 ≡ Some (codes "serve")
    → All IsUtf8 words → HasMatchesOf serve_app words m → fault_of serve_app words ≡ []
    → AreValuesOf (first_value (found_of m)) order → ServeFor words order
words_taken words m order serve texts matches taken values = record {
  serve = serve;
  texts = texts;
  taken = taken;
  values = same_values (first_value (found_of m)) (option_value words) order (read_value words m matches) values;
}

pub words_without_service : (words : List Text) (m : ArgMatches) → HasMatchesOf serve_app words m
    → ((order : Order) → ¬ AreValuesOf (first_value (found_of m)) order) → IsNo ServeFor words
words_without_service words m matches none order asks =
    none order (same_values (option_value words) (first_value (found_of m)) order
    (λ id. sym (read_value words m matches id)) asks.values)
