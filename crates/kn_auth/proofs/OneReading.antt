-- Every text is a key file or has a first malformed line.
use Rattle.std.proofs.Common.{◌≡◌, ◌≢◌, ◌⊎◌, ℕ, ◌+◌, ◌≤◌, ◌==◌, false, List, [], ◌∷◌, ◌++◌, length, codes, Option, Some}
use Rattle.std.proofs.Common.{None, Result, Ok, Err, refl, sym, ap, subst, ◌∙◌, arith, inl, inr}
use Rattle.std.specs.List.{list_any}
use Rattle.std.proofs.lemmas.Bool.{cases_Bool, cases_lt}
use Rattle.hex.specs.Hex.{decode_of, decode_sized}
use Rattle.hex.specs.declared.error.FromHexError.{FromHexError}
use Rattle.kn_principal.specs.Principals.{normal_form}
use Rattle.kn_auth.specs.KeyLines.{is_comment, SpellsKey, SpellsDigest, NamesPrincipal, States, StatesNothing}
use Rattle.kn_auth.specs.KeyFiles.{IsKeyFile, IsFirstMalformed}
use Rattle.kn_auth.specs.Reading.{with_entry, IsTaken, IsLineRefused}
use Rattle.kn_auth.specs.declared.entry.MacKey.{MacKey}
use Rattle.kn_auth.specs.declared.entry.Entry.{Entry}
use Rattle.kn_auth.specs.declared.entry.Entry.TheVariants.{Comment, Mac, Digest, Secret}
use Rattle.kn_auth.specs.declared.key_file.KeyFile.{KeyFile}
use Rattle.kn_auth.proofs.LineEntries.{one_result, key_words, no_words, no_key, no_digest, no_secret, no_line}
use Rattle.kn_auth.proofs.LineEntries.{states_once}
use Rattle.kn_auth.proofs.KeyFiles.{IsReadTo, read_none, read_more, read_whole, first_refused}
use Rattle.kn_base.proofs.Cuts.{IsCut, HasFront, cut_or_none, front_or_none}
use Rattle.std.specs.Str.Lines.{lines}

decoded : (digits : List ℕ) (r : Result (List ℕ) FromHexError) → decode_of digits ≡ r
    → ((key : List ℕ) × SpellsKey digits key) ⊎ ((key : List ℕ) → ¬ SpellsKey digits key)
decoded digits (Err e) is = inr (λ key s. let wrong : Ok key ≡ Err e = sym s.decoded ∙ is in cc)
decoded digits (Ok bytes) is =
    elim (cases_lt (length bytes) 1) [
      | inl none ↦ inr (λ key s. let some = subst (λ (k : List ℕ). 1 ≤ length k) (same key s) s.some in
          absurd (omega arith))
      | inr some ↦ elim (cases_lt 128 (length bytes)) [
        | inl long ↦ inr (λ key s. let few : length bytes ≤ 128 =
            subst (λ (k : List ℕ). length k ≤ 128) (same key s) s.few in absurd (omega arith))
        | inr few ↦ inl (bytes, record { decoded = is; some = omega arith; few = omega arith })
      ]
    ]
  where
    same : (key : List ℕ) → SpellsKey digits key → key ≡ bytes
    same key s = one_result (decode_of digits) key bytes s.decoded is

key_or_none : (digits : List ℕ) → ((key : List ℕ) × SpellsKey digits key) ⊎ ((key : List ℕ) → ¬ SpellsKey digits key)
key_or_none digits = decoded digits (decode_of digits) refl

digest_or_none : (digits : List ℕ) (r : Result (List ℕ) FromHexError) → decode_sized digits 32 ≡ r
    → ((digest : List ℕ) × SpellsDigest digits digest) ⊎ ((digest : List ℕ) → ¬ SpellsDigest digits digest)
digest_or_none digits (Ok bytes) is = inl (bytes, is)
digest_or_none digits (Err e) is = inr (λ digest s. let wrong : Ok digest ≡ Err e = sym s ∙ is in cc)

name_or_none : (name : List ℕ) → NamesPrincipal name (normal_form name)
    ⊎ ((principal : List ℕ) → ¬ NamesPrincipal name principal)
name_or_none name =
    elim (cases_lt (length name) 1) [
      | inl none ↦ inr (λ principal s. let some = s.some in absurd (omega arith))
      | inr some ↦ elim (cases_lt 4096 (length name)) [
        | inl long ↦ inr (λ principal s. let few : length name ≤ 4096 = s.few in absurd (omega arith))
        | inr few ↦ inl (record { some = omega arith; few = omega arith; normal = refl })
      ]
    ]

-- a line that states something, or nothing
abbrev Decided : List ℕ → Type 0
Decided line = ((entry : Entry) × States line entry) ⊎ StatesNothing line

named_key : (text : List ℕ) (cut : IsCut 32 text) (key : List ℕ) → SpellsKey cut.word key
    → NamesPrincipal cut.rest (normal_form cut.rest) ⊎ ((principal : List ℕ) → ¬ NamesPrincipal cut.rest principal)
    → Decided (codes "mac " ++ text)
named_key text cut key s (inl named) =
    let mac : MacKey = record { principal = normal_form cut.rest; key = key } in
    inl (
      Mac mac,
      (
        text,
        refl,
        record { digits = cut.word; name = cut.rest; spelled = cut.spelled; key = s; principal = named },
      ),
    )
named_key text cut key s (inr none) =
    inr (no_key text (λ mac t. none mac.principal (key_words text cut.word cut.rest mac cut.spelled cut.clean t).1))

cut_key : (text : List ℕ) (cut : IsCut 32 text) → ((key : List ℕ) × SpellsKey cut.word key)
    ⊎ ((key : List ℕ) → ¬ SpellsKey cut.word key) → Decided (codes "mac " ++ text)
cut_key text cut (inl key) = named_key text cut key.0 key.1 (name_or_none cut.rest)
cut_key text cut (inr none) =
    inr (no_key text (λ mac t. none mac.key (key_words text cut.word cut.rest mac cut.spelled cut.clean t).0))

mac_line : (text : List ℕ) → IsCut 32 text ⊎ (list_any (λ b. b == 32) text ≡ false) → Decided (codes "mac " ++ text)
mac_line text (inl cut) = cut_key text cut (key_or_none cut.word)
mac_line text (inr none) = inr (no_key text (λ mac t. no_words text mac none t))

digest_line : (digits : List ℕ) → ((digest : List ℕ) × SpellsDigest digits digest)
    ⊎ ((digest : List ℕ) → ¬ SpellsDigest digits digest) → Decided (codes "digest " ++ digits)
digest_line digits (inl digest) = inl (Digest digest.0, (digits, refl, digest.1))
digest_line digits (inr none) = inr (no_digest digits none)

secret_line : (digits : List ℕ) → ((key : List ℕ) × SpellsKey digits key) ⊎ ((key : List ℕ) → ¬ SpellsKey digits key)
    → Decided (codes "secret " ++ digits)
secret_line digits (inl secret) = inl (Secret secret.0, (digits, refl, secret.1))
secret_line digits (inr none) = inr (no_secret digits none)

worded : (line : List ℕ) → is_comment line ≡ false → HasFront (codes "mac ") line
    ⊎ ((rest : List ℕ) → line ≢ codes "mac " ++ rest)
    → HasFront (codes "digest ") line ⊎ ((rest : List ℕ) → line ≢ codes "digest " ++ rest)
    → HasFront (codes "secret ") line ⊎ ((rest : List ℕ) → line ≢ codes "secret " ++ rest) → Decided line
worded line passed (inl mac) digest secret =
    subst Decided (sym mac.spelled) (mac_line mac.rest (cut_or_none 32 mac.rest))
worded line passed (inr mac) (inl digest) secret =
    subst Decided (sym digest.spelled)
    (digest_line digest.rest (digest_or_none digest.rest (decode_sized digest.rest 32) refl))
worded line passed (inr mac) (inr digest) (inl secret) =
    subst Decided (sym secret.spelled) (secret_line secret.rest (key_or_none secret.rest))
worded line passed (inr mac) (inr digest) (inr secret) = inr (no_line line passed mac digest secret)

decided : (line : List ℕ) → Decided line
decided line =
    elim (cases_Bool (is_comment line)) [
      | inl passed ↦ inl (Comment, passed)
      | inr other ↦ worded line other (front_or_none (codes "mac ") line) (front_or_none (codes "digest ") line)
          (front_or_none (codes "secret ") line)
    ]

added : (old : KeyFile) (line : List ℕ) (entry : Entry) → States line entry → (r : Option KeyFile)
    → with_entry old entry ≡ r → ((new : KeyFile) × IsTaken old line new) ⊎ IsLineRefused old line
added old line entry s (Some new) is = inl (new, record { entry = entry; stated = s; added = is })
added old line entry s None is = inr (λ other t. ap (with_entry old) (states_once line other entry t s) ∙ is)

taken : (old : KeyFile) (line : List ℕ) → Decided line → ((new : KeyFile) × IsTaken old line new)
    ⊎ IsLineRefused old line
taken old line (inl stated) = added old line stated.0 stated.1 (with_entry old stated.0) refl
taken old line (inr nothing) = inr (λ entry s. absurd (nothing entry s))

-- a text reads as a file, or has a first malformed line
abbrev pub ReadsAs : List ℕ → Type 0
ReadsAs text = ((file : KeyFile) × IsKeyFile text file) ⊎ ((line : ℕ) × IsFirstMalformed text line)

read_on : (text : List ℕ) (rest : List (List ℕ)) (number : ℕ) (file : KeyFile) → IsReadTo text number file rest
    → ReadsAs text
read_on text [] number file r = inl (file, read_whole text number file r)
read_on text (line ∷ rest) number file r =
    elim (taken file line (decided line)) [
      | inl more ↦ read_on text rest (number + 1) more.0 (read_more text number file more.0 line rest r more.1)
      | inr refused ↦ inr (number + 1, first_refused text number file line rest r refused)
    ]

pub reads_as : (text : List ℕ) → ReadsAs text
reads_as text =
    let file : KeyFile = record { auth = record { keys = []; digests = [] }; secret = [] } in
    read_on text (lines text) 0 file (read_none text file refl refl refl)
