-- Files that are read one after another, and what they hold.
use Rattle.std.proofs.Common.{◌≡◌, ℕ, List, [], ◌++◌, length, sym, ap, ◌∙◌, subst, append_assoc, append-nil, Option}
use Rattle.std.proofs.Common.{Some}
use Rattle.std.specs.Prelude.{IfSome, IsSomeAnd, ◌<◌}
use Rattle.kn_base.specs.declared.limits.TheConstants.{FILE_BYTES}
use Rattle.kn_outside.specs.Seen.{FilesSeen}
use Rattle.kn_outside.specs.Faults.{Rose}
use Rattle.kn_outside.specs.Asked.{HasAsked, HasFailed}
use Rattle.kn_inputs.specs.Held.{HasContent, IsTooLarge}

-- what a file holds was there before
pub content_there : (f f' : FilesSeen) (name bytes : List ℕ) → f'.content ≡ f.content → HasContent f' name bytes
    → HasContent f name bytes
content_there f f' name bytes same has = record {
  content = subst (λ (told : Option (List ℕ → Option (List ℕ))).
      IfSome told (λ content_of. content_of name ≡ Some bytes)) same has.content;
  within = has.within;
}

pub too_large_there : (f f' : FilesSeen) (name : List ℕ) → f'.content ≡ f.content → IsTooLarge f' name
    → IsTooLarge f name
too_large_there f f' name same large =
    subst (λ (told : Option (List ℕ → Option (List ℕ))).
    IfSome told (λ content_of. IsSomeAnd (content_of name) (λ bytes. FILE_BYTES < length bytes))) same large

pub keeps_content : (names : List (List ℕ)) (f f' : FilesSeen) → HasAsked names f f' → f'.content ≡ f.content
keeps_content names f f' asked = ap (λ (x : FilesSeen). x.content) asked

-- some files were asked for, and then others
pub asked_both : (a b : List (List ℕ)) (f f' f'' : FilesSeen) → HasAsked a f f' → HasAsked b f' f''
    → HasAsked (a ++ b) f f''
asked_both a b f f' f'' first second =
    second ∙ ap (λ (x : FilesSeen). record x { asked = x.asked ++ b }) first
    ∙ ap (λ (l : List (List ℕ)). record f { asked = l }) (append_assoc f.asked a b)

pub failed_behind : (a b : List (List ℕ)) (f f' f'' : FilesSeen) → HasAsked a f f' → HasFailed b f' f''
    → HasFailed (a ++ b) f f''
failed_behind a b f f' f'' first second =
    record {
      asked =
          second.asked ∙ ap (λ (x : FilesSeen). record x { asked = x.asked ++ b; faults = f''.faults }) first
          ∙ ap (λ (l : List (List ℕ)). record f { asked = l; faults = f''.faults }) (append_assoc f.asked a b);
      rose = subst (λ (count : ℕ). Rose count f''.faults) (ap (λ (x : FilesSeen). x.faults) first) second.rose;
    }
