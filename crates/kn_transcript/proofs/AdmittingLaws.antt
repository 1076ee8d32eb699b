-- Replies to requests about the connection itself, and to what is no request.
use Rattle.std.proofs.Common.{◌≡◌, ◌≢◌, ℕ, suc, ◌+◌, ◌*◌, ◌≤◌, ◌<◌, Bool, true, false, List, [], ◌∷◌, ◌++◌, length}
use Rattle.std.proofs.Common.{Option, Some, None, refl, sym, ap, ◌∙◌, arith, inl, inr}
use Rattle.std.specs.Prelude.{◌⊎◌, Result, Ok, Err, IfOk, option_map, nat_lt, not, ◌&&◌}
use Rattle.std.specs.Str.{bytes_eq}
use Rattle.std.proofs.lemmas.Bool.Decides.{nat_tests}
use Rattle.std.proofs.lemmas.Slice.Eq.{bytes_eq-Decides}
use Rattle.std.specs.Option.{option_or}
use Rattle.kn_history.specs.declared.update.Update.{Update}
use Rattle.kn_wire.specs.declared.fault.WireFault.{WireFault}
use Rattle.kn_wire.specs.Hex.{bytes_of_hex, digit_value}
use Rattle.kn_reply.specs.declared.refusal.Refusal.{Refusal}
use Rattle.kn_reply.specs.declared.refusal.Refusal.TheVariants as R
use Rattle.kn_reply.specs.Replies.{Reply, Done, No, NoMemory, reply_text}
use Rattle.kn_daemon.specs.Shapes.{Shape, Controls, ShowSecret, Leave, AtFault}
use Rattle.kn_daemon.specs.Daemon.{DaemonConfig, State, refuse_if, is_secret, refusal_of_fault}
use Rattle.kn_transcript.specs.Followed.{IsPermitted, history_behind}
use Rattle.kn_transcript.specs.Judging.{IsBehind, IsTaken, Judges}
use Rattle.kn_transcript.proofs.ConfigChoices.{permits_cases, own_permitted}
use Rattle.kn_transcript.proofs.DueReplies.{refused_ok, done_ok, taken_by}

module _ (past : List Update) (left : List ℕ) {X E : Type 0} (result : Result X E) (view : X
    → Option (List ℕ)) (now : State) where
  -- BYE is answered
  pub bye_judged : IfOk result (λ found. IsBehind left (reply_text Done) (view found))
      → IfOk result (λ found. Judges past now (Controls Leave) left past now (view found))
  bye_judged behind =
      done_ok past now (Controls Leave) left view Done now tt refl (λ g. refl) refl refl refl refl
      (λ g reply other does. does.answered) result behind

  -- a fault is answered by its refusal
  pub fault_judged : (fault : WireFault) (refusal : Refusal) → refusal ≡ refusal_of_fault fault
      → IfOk result (λ found. IsBehind left (reply_text (No refusal)) (view found))
      → IfOk result (λ found. Judges past now (AtFault fault) left past now (view found))
  fault_judged fault refusal same behind =
      refused_ok past now (AtFault fault) left view refusal (λ g. ap (λ (r : Refusal). Some r) (sym same)) result behind

-- a secret is shown by these bytes
abbrev shown : List ℕ → Shape
shown bytes = Controls (ShowSecret bytes)

-- it is right where the daemon was started with it
abbrev right_config : List ℕ → DaemonConfig
right_config bytes = record { secret = bytes; verdict = λ text a. 0 }

positive : (n : ℕ) → nat_lt 0 (suc n) ≡ true
positive n = grind (arith, nat_tests)

both : (a b : Bool) → a ≡ true → b ≡ true → (a && b) ≡ true
both a b p q = rw (p, q) refl

neither : (a : Bool) → (a && false) ≡ false
neither true = refl
neither false = refl

right_secret : (byte : ℕ) (bytes : List ℕ) → is_secret (byte ∷ bytes) (byte ∷ bytes) ≡ true
right_secret byte bytes = let same : bytes_eq (byte ∷ bytes) (byte ∷ bytes) ≡ true =
    (bytes_eq-Decides (byte ∷ bytes) (byte ∷ bytes)).1 refl in
    both (nat_lt 0 (length (byte ∷ bytes))) (bytes_eq (byte ∷ bytes) (byte ∷ bytes)) (positive (length bytes)) same

right_permitted : (past : List Update) (old : State) (bytes : List ℕ) → is_secret bytes bytes ≡ true
    → IsPermitted past old (shown bytes) Done (record old { is_admin = true })
right_permitted past old bytes right = record {
  grounds = right_config bytes;
  faults = λ text assertion. omega arith;
  permitted = record {
    accepted = ap (λ (b : Bool). refuse_if (not b) R.Admin None) right;
    answered = refl;
    next = refl;
  };
}

-- two digits or more are a byte at least
some_bytes : (digits : List ℕ) → 2 ≤ length digits → is_secret (bytes_of_hex digits) (bytes_of_hex digits) ≡ true
some_bytes [] many = absurd (omega arith)
some_bytes (digit ∷ []) many = absurd (omega arith)
some_bytes (high ∷ low ∷ digits) many = right_secret (digit_value high * 16 + digit_value low) (bytes_of_hex digits)

pub no_bytes : (digits : List ℕ) → length digits < 2 → bytes_of_hex digits ≡ []
no_bytes [] few = refl
no_bytes (digit ∷ []) few = refl
no_bytes (high ∷ low ∷ digits) few = absurd (omega arith)

-- no bytes are a secret
never_secret : (secret : List ℕ) → is_secret secret [] ≡ false
never_secret [] = refl
never_secret (byte ∷ secret) = neither (nat_lt 0 (length (byte ∷ secret)))

pub secret_taken : (past : List Update) (old : State) (digits left rest : List ℕ) → 2 ≤ length digits
    → left ≡ reply_text Done ++ rest
    → Judges past old (shown (bytes_of_hex digits)) left past (record old { is_admin = true }) (Some rest)
secret_taken past old digits left rest many cut =
    taken_by past old (shown (bytes_of_hex digits)) left past (record old { is_admin = true }) Done rest tt
    (right_permitted past old (bytes_of_hex digits) (some_bytes digits many)) refl cut

module _ (past : List Update) (old : State) (bytes left : List ℕ) where
  -- ADMIN is accepted only by OK
  wrong_only : (reply : Reply) (rest : List ℕ) (other : State) → reply ≢ NoMemory
      → IsTaken past old (shown bytes) left reply rest other
      → (reply ≡ No R.Admin) ⊎ ((reply ≡ Done) × (bytes ≢ []))
  wrong_only reply rest other some taken =
      let g = taken.permitted.grounds in
      elim (permits_cases g 0 (history_behind past (shown bytes) reply) old (shown bytes) reply other some
      taken.permitted.permitted) [
        | inr does ↦ inr (
          does.answered,
          λ none. filled g (ap (λ (x : List ℕ). refuse_if (not (is_secret g.secret x)) R.Admin None) (sym none)
              ∙ does.accepted),
        )
        | inl r ↦ inl (r.exact ∙ ap (λ (x : Refusal). No x) (sym (by (is_secret g.secret bytes) r.refusal r.first)))
      ]
    where
      filled : (g : DaemonConfig) → refuse_if (not (is_secret g.secret [])) R.Admin None ≡ None → ⊥
      filled g e = let never = never_secret g.secret in
          absurd (let f = ap (λ (b : Bool). refuse_if (not b) R.Admin None) (sym never) ∙ e in cc f)

      by : (b : Bool) (refusal : Refusal) → option_or (refuse_if (not b) R.Admin None) None ≡ Some refusal
          → R.Admin ≡ refusal
      by true refusal e = absurd (cc e)
      by false refusal e = cc

  pub wrong_judged : {X E : Type 0} (result : Result X E) (view : X → Option (List ℕ))
      → (bytes ≡ []) ⊎ ((rest : List ℕ) → left ≢ reply_text Done ++ rest)
      → IfOk result (λ found. IsBehind left (reply_text (No R.Admin)) (view found))
      → IfOk result (λ found. Judges past old (shown bytes) left past old (view found))
  wrong_judged (Err e) view none behind = behind
  wrong_judged (Ok found) view none behind = by (view found) behind
    where
      none_secret : is_secret [] bytes ≡ false
      none_secret = refl

      by : (o : Option (List ℕ)) → IsBehind left (reply_text (No R.Admin)) o
          → Judges past old (shown bytes) left past old o
      by (Some rest) cut =
          taken_by past old (shown bytes) left past old (No R.Admin) rest tt
          (own_permitted past old (shown bytes) R.Admin 0 (omega arith)
          (ap (λ (b : Bool). refuse_if (not b) R.Admin None) none_secret)) refl cut
      by None missing = λ reply rest other some taken.
          elim (wrong_only reply rest other some taken) [
            | inl is ↦ missing rest (taken.cut ∙ ap (λ (x : Reply). reply_text x ++ rest) is)
            | inr is ↦ elim none [
              | inl empty ↦ is.1 empty
              | inr other_text ↦ other_text rest (taken.cut ∙ ap (λ (x : Reply). reply_text x ++ rest) is.0)
            ]
          ]

-- the text that is known to stand there
pub cut_of : {X : Type 0} (view : X → List ℕ) (left text : List ℕ) (found : Option X) (rest : X) → found ≡ Some rest
    → IsBehind left text (option_map view found) → left ≡ text ++ view rest
cut_of view left text None rest is behind = absurd (cc is)
cut_of {X} view left text (Some other) rest is behind = let same : other ≡ rest = cc in behind
    ∙ ap (λ (x : X). text ++ view x) same

-- that it doesn't
pub missing_of : {X : Type 0} (view : X → List ℕ) (left text : List ℕ) (found : Option X) → found ≡ None
    → IsBehind left text (option_map view found) → (rest : List ℕ) → left ≢ text ++ rest
missing_of view left text None is behind = behind
missing_of view left text (Some other) is behind = absurd (cc is)
