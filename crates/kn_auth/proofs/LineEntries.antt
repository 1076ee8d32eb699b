-- What a line of a key file states, and that it is one thing.
use Rattle.std.proofs.Common.{◌≡◌, ◌≢◌, ℕ, ◌==◌, true, false, List, [], ◌∷◌, ◌++◌, get_or, codes, Result, Ok, refl, sym}
use Rattle.std.proofs.Common.{ap, subst, ◌∙◌, arith, inl, inr}
use Rattle.std.specs.List.{list_any}
use Rattle.std.specs.Result.{result_unwrap_or}
use Rattle.std.proofs.lemmas.Bool.{cases_Bool, eqb-true, false≢true}
use Rattle.std.proofs.lemmas.List.{append_cancel_left}
use Rattle.std.proofs.lemmas.List.Folds.{list_any_none}
use Rattle.hex.specs.Hex.{decode_of, decode_sized, is_hex_digit}
use Rattle.hex.specs.declared.error.FromHexError.{FromHexError}
use Rattle.hex.proofs.HexLemmas.{decode_of-ok}
use Rattle.kn_auth.specs.KeyLines.{is_comment, SpellsKey, SpellsDigest, NamesPrincipal, StatesKey, States}
use Rattle.kn_auth.specs.KeyLines.{StatesNothing}
use Rattle.kn_auth.specs.declared.entry.MacKey.{MacKey}
use Rattle.kn_auth.specs.declared.entry.Entry.{Entry}
use Rattle.kn_auth.specs.declared.entry.Entry.TheVariants.{Comment, Mac, Digest, Secret}
use Rattle.kn_base.proofs.Cuts.{heads_apart, cut_once, no_cut}

-- a result has one value
pub one_result : (r : Result (List ℕ) FromHexError) (x y : List ℕ) → r ≡ Ok x → r ≡ Ok y → x ≡ y
one_result r x y e f = ap (λ (s : Result (List ℕ) FromHexError). result_unwrap_or s []) (sym e ∙ f)

-- a space is no digit
no_digit : (b : ℕ) → is_hex_digit b ≡ true → (b == 32) ≡ false
no_digit b h =
    elim (cases_Bool (b == 32)) [
      | inl e ↦
          let at : is_hex_digit 32 ≡ true = subst (λ n. is_hex_digit n ≡ true) (eqb-true b 32 e) h in
          cc at
      | inr e ↦ e
    ]

pub no_space : (digits bytes : List ℕ) → decode_of digits ≡ Ok bytes → list_any (λ b. b == 32) digits ≡ false
no_space digits bytes e =
    list_any_none (λ b. b == 32) digits
    (λ k d within. no_digit (get_or digits k d) ((decode_of-ok digits bytes e).1 k d within))

-- a key and a principal are cut at the first space
pub key_words : (text digits name : List ℕ) (mac : MacKey) → text ≡ digits ++ 32 ∷ name
    → list_any (λ b. b == 32) digits ≡ false → StatesKey text mac
    → SpellsKey digits mac.key × NamesPrincipal name mac.principal
key_words text digits name mac spelled clean s =
    let same = cut_once 32 s.digits digits s.name name (no_space s.digits mac.key s.key.decoded) clean (sym s.spelled
    ∙ spelled) in
    (subst (λ d. SpellsKey d mac.key) same.0 s.key, subst (λ n. NamesPrincipal n mac.principal) same.1 s.principal)

-- without a space there is no principal
pub no_words : (text : List ℕ) (mac : MacKey) → list_any (λ b. b == 32) text ≡ false → ¬ StatesKey text mac
no_words text mac clean s = no_cut 32 s.digits s.name (ap (list_any (λ b. b == 32)) (sym s.spelled) ∙ clean)

key_once : (digits x y : List ℕ) → SpellsKey digits x → SpellsKey digits y → x ≡ y
key_once digits x y s t = one_result (decode_of digits) x y s.decoded t.decoded

mac_once : (text : List ℕ) (x y : MacKey) → StatesKey text x → StatesKey text y → x ≡ y
mac_once text x y s t =
    let words = key_words text s.digits s.name y s.spelled (no_space s.digits x.key s.key.decoded) t in
    let key : x.key ≡ y.key = key_once s.digits x.key y.key s.key words.0 in
    let principal : x.principal ≡ y.principal = s.principal.normal ∙ sym words.1.normal in
    λ i. record { principal = principal i; key = key i }

-- what a line that begins with `mac ` states
pub behind_mac : (line text : List ℕ) (entry : Entry) → line ≡ codes "mac " ++ text → States line entry → (mac : MacKey)
    × (entry ≡ Mac mac) × StatesKey text mac
behind_mac line text Comment spelled s = cc (subst (λ l. is_comment l ≡ true) spelled s)
behind_mac line text (Mac mac) spelled s =
    (mac, refl, subst (λ t. StatesKey t mac) (append_cancel_left (codes "mac ") s.0 text (sym s.1 ∙ spelled)) s.2)
behind_mac line text (Digest digest) spelled s = absurd (heads_apart 109 100 _ _ (λ e. omega arith) (sym spelled ∙ s.1))
behind_mac line text (Secret secret) spelled s = absurd (heads_apart 109 115 _ _ (λ e. omega arith) (sym spelled ∙ s.1))

-- what a line that begins with `digest ` states
pub behind_digest : (line digits : List ℕ) (entry : Entry) → line ≡ codes "digest " ++ digits → States line entry
    → (digest : List ℕ) × (entry ≡ Digest digest) × SpellsDigest digits digest
behind_digest line digits Comment spelled s = cc (subst (λ l. is_comment l ≡ true) spelled s)
behind_digest line digits (Mac mac) spelled s = absurd (heads_apart 100 109 _ _ (λ e. omega arith) (sym spelled ∙ s.1))
behind_digest line digits (Digest digest) spelled s = (
  digest,
  refl,
  subst (λ t. SpellsDigest t digest)
      (append_cancel_left (codes "digest ") s.0 digits (sym s.1 ∙ spelled)) s.2,
)
behind_digest line digits (Secret secret) spelled s =
    absurd (heads_apart 100 115 _ _ (λ e. omega arith) (sym spelled ∙ s.1))

-- what a line that begins with `secret ` states
pub behind_secret : (line digits : List ℕ) (entry : Entry) → line ≡ codes "secret " ++ digits → States line entry
    → (secret : List ℕ) × (entry ≡ Secret secret) × SpellsKey digits secret
behind_secret line digits Comment spelled s = cc (subst (λ l. is_comment l ≡ true) spelled s)
behind_secret line digits (Mac mac) spelled s = absurd (heads_apart 115 109 _ _ (λ e. omega arith) (sym spelled ∙ s.1))
behind_secret line digits (Digest digest) spelled s =
    absurd (heads_apart 115 100 _ _ (λ e. omega arith) (sym spelled ∙ s.1))
behind_secret line digits (Secret secret) spelled s = (
  secret,
  refl,
  subst (λ t. SpellsKey t secret) (append_cancel_left (codes "secret ") s.0 digits (sym s.1 ∙ spelled))
      s.2,
)

-- a line that is passed over states nothing else
comment_alone : (line : List ℕ) (entry : Entry) → is_comment line ≡ true → States line entry → entry ≡ Comment
comment_alone line Comment h s = refl
comment_alone line (Mac mac) h s = cc (subst (λ l. is_comment l ≡ true) s.1 h)
comment_alone line (Digest digest) h s = cc (subst (λ l. is_comment l ≡ true) s.1 h)
comment_alone line (Secret secret) h s = cc (subst (λ l. is_comment l ≡ true) s.1 h)

-- a line states one thing
pub states_once : (line : List ℕ) (x y : Entry) → States line x → States line y → x ≡ y
states_once line Comment y s t = sym (comment_alone line y s t)
states_once line (Mac mac) y s t =
    let other = behind_mac line s.0 y s.1 t in
    ap Mac (mac_once s.0 mac other.0 s.2 other.2) ∙ sym other.1
states_once line (Digest digest) y s t =
    let other = behind_digest line s.0 y s.1 t in
    ap Digest (one_result (decode_sized s.0 32) digest other.0 s.2 other.2) ∙ sym other.1
states_once line (Secret secret) y s t =
    let other = behind_secret line s.0 y s.1 t in
    ap Secret (key_once s.0 secret other.0 s.2 other.2) ∙ sym other.1

-- where a key has no principal or no digits behind `mac `, the line states nothing
pub no_key : (text : List ℕ) → ((mac : MacKey) → ¬ StatesKey text mac) → StatesNothing (codes "mac " ++ text)
no_key text none = λ entry s. let mac = behind_mac (codes "mac " ++ text) text entry refl s in none mac.0 mac.2

pub no_digest : (digits : List ℕ) → ((digest : List ℕ) → ¬ SpellsDigest digits digest)
    → StatesNothing (codes "digest " ++ digits)
no_digest digits none = λ entry s. let digest = behind_digest (codes "digest " ++ digits) digits entry refl s in
    none digest.0 digest.2

pub no_secret : (digits : List ℕ) → ((secret : List ℕ) → ¬ SpellsKey digits secret)
    → StatesNothing (codes "secret " ++ digits)
no_secret digits none = λ entry s. let secret = behind_secret (codes "secret " ++ digits) digits entry refl s in
    none secret.0 secret.2

-- a line that isn't passed over and begins with no word states nothing
pub no_line : (line : List ℕ) → is_comment line ≡ false → ((rest : List ℕ) → line ≢ codes "mac " ++ rest)
    → ((rest : List ℕ) → line ≢ codes "digest " ++ rest)
    → ((rest : List ℕ) → line ≢ codes "secret " ++ rest) → StatesNothing line
no_line line passed mac digest secret Comment s = false≢true (sym passed ∙ s)
no_line line passed mac digest secret (Mac key) s = mac s.0 s.1
no_line line passed mac digest secret (Digest bytes) s = digest s.0 s.1
no_line line passed mac digest secret (Secret bytes) s = secret s.0 s.1
