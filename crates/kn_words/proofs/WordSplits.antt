-- Words are those of one command at most.
use Rattle.std.proofs.Common.{◌≡◌, ℕ, List, sym, ap, ◌∙◌, arith, get_or, Option, Some, None}
use Rattle.std.specs.Prelude.{codes, slice_get, All}
use Rattle.std.specs.Str.{IsUtf8}
use Rattle.kn_words.specs.Names.{AskNames, CheckNames, VerifyNames}
use Rattle.kn_words.specs.declared.gen_words.GenNumbers.{GenNumbers}
use Rattle.kn_words.specs.Commands.{AskFor, CheckFor, FollowFor, GenFor, ServeFor, VerifyFor, IsNo, IsNoCommand}

-- the first letter of the first word, or 0
abbrev pub first_letter : Option (List ℕ) → ℕ
first_letter None = 0
first_letter (Some word) = get_or word 0 0

abbrev pub letter_of : List (List ℕ) → ℕ
letter_of words = first_letter (slice_get words 0)

abbrev pub StartsServe : List (List ℕ) → Type 0
StartsServe given = slice_get given 0 ≡ Some (codes "serve")

pub ask_is_no_check : (given : List (List ℕ)) (names : AskNames) (others : CheckNames) → AskFor given names
    → CheckFor given others → ⊥
ask_is_no_check given names others ask check =
    let letters : 97 ≡ 99 = sym (ap letter_of ask) ∙ ap letter_of check in
    absurd (omega (arith, letters))

pub gen_is_no_ask : (given : List (List ℕ)) (numbers : GenNumbers) (names : AskNames) → GenFor given numbers
    → AskFor given names → ⊥
gen_is_no_ask given numbers names gen ask =
    let letters : 103 ≡ 97 = sym (ap letter_of gen.spelled) ∙ ap letter_of ask in
    absurd (omega (arith, letters))

pub gen_is_no_check : (given : List (List ℕ)) (numbers : GenNumbers) (names : CheckNames) → GenFor given numbers
    → CheckFor given names → ⊥
gen_is_no_check given numbers names gen check =
    let letters : 103 ≡ 99 = sym (ap letter_of gen.spelled) ∙ ap letter_of check in
    absurd (omega (arith, letters))

pub follow_is_no_ask : (given : List (List ℕ)) (name : List ℕ) (names : AskNames) → FollowFor given name
    → AskFor given names → ⊥
follow_is_no_ask given name names follow ask =
    let letters : 102 ≡ 97 = sym (ap letter_of follow) ∙ ap letter_of ask in
    absurd (omega (arith, letters))

pub follow_is_no_check : (given : List (List ℕ)) (name : List ℕ) (names : CheckNames) → FollowFor given name
    → CheckFor given names → ⊥
follow_is_no_check given name names follow check =
    let letters : 102 ≡ 99 = sym (ap letter_of follow) ∙ ap letter_of check in
    absurd (omega (arith, letters))

pub gen_is_no_follow : (given : List (List ℕ)) (numbers : GenNumbers) (name : List ℕ) → GenFor given numbers
    → FollowFor given name → ⊥
gen_is_no_follow given numbers name gen follow =
    let letters : 103 ≡ 102 = sym (ap letter_of gen.spelled) ∙ ap letter_of follow in
    absurd (omega (arith, letters))

pub verify_is_no_ask : (given : List (List ℕ)) (names : VerifyNames) (others : AskNames) → VerifyFor given names
    → AskFor given others → ⊥
verify_is_no_ask given names others verify ask =
    let letters : 118 ≡ 97 = sym (ap letter_of verify) ∙ ap letter_of ask in
    absurd (omega (arith, letters))

pub verify_is_no_check : (given : List (List ℕ)) (names : VerifyNames) (others : CheckNames) → VerifyFor given names
    → CheckFor given others → ⊥
verify_is_no_check given names others verify check =
    let letters : 118 ≡ 99 = sym (ap letter_of verify) ∙ ap letter_of check in
    absurd (omega (arith, letters))

pub verify_is_no_follow : (given : List (List ℕ)) (names : VerifyNames) (name : List ℕ) → VerifyFor given names
    → FollowFor given name → ⊥
verify_is_no_follow given names name verify follow =
    let letters : 118 ≡ 102 = sym (ap letter_of verify) ∙ ap letter_of follow in
    absurd (omega (arith, letters))

pub gen_is_no_verify : (given : List (List ℕ)) (numbers : GenNumbers) (names : VerifyNames) → GenFor given numbers
    → VerifyFor given names → ⊥
gen_is_no_verify given numbers names gen verify =
    let letters : 103 ≡ 118 = sym (ap letter_of gen.spelled) ∙ ap letter_of verify in
    absurd (omega (arith, letters))

pub verify_is_no_serve : (given : List (List ℕ)) (names : VerifyNames) → VerifyFor given names → StartsServe given → ⊥
verify_is_no_serve given names verify serve =
    let letters : 118 ≡ 115 = sym (ap letter_of verify) ∙ ap first_letter serve in
    absurd (omega (arith, letters))

pub ask_is_no_serve : (given : List (List ℕ)) (names : AskNames) → AskFor given names → StartsServe given → ⊥
ask_is_no_serve given names ask serve =
    let letters : 97 ≡ 115 = sym (ap letter_of ask) ∙ ap first_letter serve in
    absurd (omega (arith, letters))

pub check_is_no_serve : (given : List (List ℕ)) (names : CheckNames) → CheckFor given names → StartsServe given → ⊥
check_is_no_serve given names check serve =
    let letters : 99 ≡ 115 = sym (ap letter_of check) ∙ ap first_letter serve in
    absurd (omega (arith, letters))

pub follow_is_no_serve : (given : List (List ℕ)) (name : List ℕ) → FollowFor given name → StartsServe given → ⊥
follow_is_no_serve given name follow serve =
    let letters : 102 ≡ 115 = sym (ap letter_of follow) ∙ ap first_letter serve in
    absurd (omega (arith, letters))

pub gen_is_no_serve : (given : List (List ℕ)) (numbers : GenNumbers) → GenFor given numbers → StartsServe given → ⊥
gen_is_no_serve given numbers gen serve =
    let letters : 103 ≡ 115 = sym (ap letter_of gen.spelled) ∙ ap first_letter serve in
    absurd (omega (arith, letters))

-- words that begin otherwise ask for no service
pub no_serve_otherwise : (given : List (List ℕ)) → (slice_get given 0 ≡ Some (codes "serve") → ⊥) → IsNo ServeFor given
no_serve_otherwise given other order words = other words.serve

-- words of which one isn't UTF-8 ask for no service
pub no_serve_text : (given : List (List ℕ)) → ¬ All IsUtf8 given → IsNo ServeFor given
no_serve_text given other order words = other words.texts

-- words that begin with `serve` and ask for no service are those of no command
pub no_command : (given : List (List ℕ)) → slice_get given 0 ≡ Some (codes "serve") → IsNo ServeFor given
    → IsNoCommand given
no_command given serve none = record {
  ask = λ names words. ask_is_no_serve given names words serve;
  check = λ names words. check_is_no_serve given names words serve;
  follow = λ name words. follow_is_no_serve given name words serve;
  gen = λ numbers words. gen_is_no_serve given numbers words serve;
  serve = none;
  verify = λ names words. verify_is_no_serve given names words serve;
}
