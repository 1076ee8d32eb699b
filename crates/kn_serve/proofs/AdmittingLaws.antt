-- The administrators' secret.
use Rattle.std.proofs.Common.{◌≡◌, ℕ, Bool, true, false, List, length, refl, sym, ap, ◌∙◌, arith, None}
use Rattle.std.proofs.Common.{inl, inr, Decides}
use Rattle.std.specs.Prelude.{◌⊎◌, not, ◌&&◌, ◌==◌, nat_lt}
use Rattle.std.specs.Str.{bytes_eq}
use Rattle.std.proofs.lemmas.Bool.Decides.{same_from_decides, nat_tests}
use Rattle.std.proofs.lemmas.Slice.Eq.{bytes_eq-Decides}
use Rattle.kn_outside.specs.Seen.{LinkSeen}
use Rattle.kn_outside.specs.Printing.{Prints}
use Rattle.kn_reply.specs.declared.refusal.Refusal.TheVariants as R
use Rattle.kn_wire.specs.Hex.{bytes_of_hex}
use Rattle.kn_reply.specs.Replies.{Done, No, reply_text}
use Rattle.kn_daemon.specs.Shapes.{Shape, Controls, ShowSecret}
use Rattle.kn_daemon.specs.Daemon.{DaemonConfig, State, own_refusal, refuse_if, is_secret}
use Rattle.kn_serve.specs.Handling.{Tells}
use Rattle.kn_serve.proofs.HandlingLaws.{told_refused, told_done}

bytes_eq-turned : (xs ys : List ℕ) → bytes_eq xs ys ≡ bytes_eq ys xs
bytes_eq-turned xs ys =
    let other = bytes_eq-Decides ys xs in
    let turned : Decides (bytes_eq ys xs) (xs ≡ ys) = (λ t. sym (other.0 t), λ e. other.1 (sym e)) in
    same_from_decides (bytes_eq xs ys) (bytes_eq ys xs) (bytes_eq-Decides xs ys) turned

-- ADMIN with these digits
abbrev shown : List ℕ → Shape
shown digits = Controls (ShowSecret (bytes_of_hex digits))

module _ (g : DaemonConfig) (old : State) (secret digits : List ℕ) (whole : Bool) (l l' : LinkSeen)
    (same : g.secret ≡ secret) where
  own : (b : Bool) → is_secret secret (bytes_of_hex digits) ≡ b →
      own_refusal g old (shown digits) ≡ refuse_if (not b) R.Admin None
  own b e =
      ap (λ (x : List ℕ). refuse_if (not (is_secret x (bytes_of_hex digits))) R.Admin None) same
      ∙ ap (λ (x : Bool). refuse_if (not x) R.Admin None) e

  pub admin_refused : is_secret secret (bytes_of_hex digits) ≡ false →
      Prints whole (reply_text (No R.Admin)) l l' → Tells g (shown digits) whole old old l l'
  admin_refused wrong prints = told_refused g (shown digits) whole old l l' R.Admin (own false wrong) prints

  pub admin_done : is_secret secret (bytes_of_hex digits) ≡ true → Prints whole (reply_text Done) l l' →
      Tells g (shown digits) whole old (record old { is_admin = true }) l l'
  admin_done right prints =
      told_done g (shown digits) whole old l l' (record old { is_admin = true }) Done refl (own true right)
      (λ caller past. refl) (λ past. refl) (λ caller. refl) refl prints

positive : (n : ℕ) → nat_lt 0 n ≡ not (n == 0)
positive n = grind (arith, nat_tests)

secret_shown : (secret bytes : List ℕ) (empty shows : Bool) →
    empty ≡ (length secret == 0) → shows ≡ bytes_eq bytes secret → is_secret secret bytes ≡ (not empty && shows)
secret_shown secret bytes empty shows is_empty is_shown =
    ap (λ (x : Bool). x && bytes_eq secret bytes)
    (positive (length secret) ∙ ap (λ (x : Bool). not x) (sym is_empty))
    ∙ ap (λ (x : Bool). not empty && x) (bytes_eq-turned secret bytes ∙ sym is_shown)

both : (empty shows : Bool) → empty ≡ false → shows ≡ true → (not empty && shows) ≡ true
both empty shows some right = rw (some, right) refl

missing : (empty shows : Bool) → (empty ≡ true) ⊎ (shows ≡ false) → (not empty && shows) ≡ false
missing empty shows (inl none) = rw none refl
missing true shows (inr wrong) = refl
missing false shows (inr wrong) = wrong

-- a secret that was shown, and isn't empty
pub secret_right : (secret bytes : List ℕ) (empty shows : Bool) →
    empty ≡ (length secret == 0) → shows ≡ bytes_eq bytes secret → empty ≡ false → shows ≡ true →
    is_secret secret bytes ≡ true
secret_right secret bytes empty shows is_empty is_shown some right =
    secret_shown secret bytes empty shows is_empty is_shown ∙ both empty shows some right

pub secret_wrong : (secret bytes : List ℕ) (empty shows : Bool) →
    empty ≡ (length secret == 0) → shows ≡ bytes_eq bytes secret → (empty ≡ true) ⊎ (shows ≡ false) →
    is_secret secret bytes ≡ false
secret_wrong secret bytes empty shows is_empty is_shown why =
    secret_shown secret bytes empty shows is_empty is_shown ∙ missing empty shows why
