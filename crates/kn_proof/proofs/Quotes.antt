-- A principal has one quoted text.
use Rattle.std.proofs.Common.{◌≡◌, ◌≢◌, ◌⊎◌, ℕ, suc, zero, ◌+◌, ◌-◌, ◌*◌, ◌/◌, ◌%◌, ◌<◌, ◌≤◌, false, ◌==◌, cond, List}
use Rattle.std.proofs.Common.{[], ◌∷◌, ◌++◌, length, flat_map, refl, sym, ap, ◌∙◌, arith, inl, inr, append_assoc}
use Rattle.std.proofs.Common.{length-append}
use Rattle.std.specs.Str.{bytes_eq}
use Rattle.std.proofs.lemmas.Bool.{cases_Bool, cases_eq, cases_lt, cond-false, ne_eqb}
use Rattle.std.proofs.lemmas.Bool.Decides.{nat_tests, not_from_Decides}
use Rattle.std.proofs.lemmas.List.Elements.{All-cons, All-head, All-nil, All-tail}
use Rattle.std.proofs.lemmas.Slice.Eq.{bytes_eq-Decides}
use Rattle.kn_proof.specs.Texts.{quoted_byte}
use Rattle.kn_proof.specs.Lines.{AreBytes}
use Rattle.kn_proof.specs.Quoting.{HasNoByte, IsPlain, octal_digits}

-- how a byte is quoted
pub data Quoting (b : ℕ) : Type 0 where
  quote : b ≡ 34 → Quoting b
  backslash : b ≡ 92 → Quoting b
  low : b < 32 → Quoting b
  high : 126 < b → Quoting b
  plain : IsPlain b → Quoting b

pub quoting : (b : ℕ) → Quoting b
quoting b =
    elim (cases_eq b 34) [
      | inl e ↦ quote e
      | inr no_quote ↦ elim (cases_eq b 92) [
        | inl e ↦ backslash e
        | inr no_backslash ↦ elim (cases_lt b 32) [
          | inl h ↦ low h
          | inr from ↦ elim (cases_lt 126 b) [
            | inl h ↦ high h
            | inr to ↦ plain (record { low = from; high = to; no_quote = no_quote; no_backslash = no_backslash })
          ]
        ]
      ]
    ]

pub quoted_low : (b : ℕ) → b < 32 → quoted_byte b ≡ 92 ∷ octal_digits b
quoted_low b h =
    let a : (b == 34) ≡ false = ne_eqb b 34 (λ e. omega arith) in
    let c : (b == 92) ≡ false = ne_eqb b 92 (λ e. omega arith) in
    grind (arith, nat_tests)

pub quoted_high : (b : ℕ) → 126 < b → quoted_byte b ≡ 92 ∷ octal_digits b
quoted_high b h =
    let a : (b == 34) ≡ false = ne_eqb b 34 (λ e. omega arith) in
    let c : (b == 92) ≡ false = ne_eqb b 92 (λ e. omega arith) in
    grind (arith, nat_tests)

pub quoted_plain : (b : ℕ) → IsPlain b → quoted_byte b ≡ b ∷ []
quoted_plain b h = grind (arith, nat_tests)

-- the byte that a quoted text begins with, and what is behind
abbrev octal_first : ℕ → List ℕ → ℕ × List ℕ
octal_first c [] = (0, [])
octal_first c (d ∷ []) = (0, [])
octal_first c (d ∷ e ∷ rest) = ((c - 48) * 64 + (d - 48) * 8 + (e - 48), rest)

abbrev escaped_first : List ℕ → ℕ × List ℕ
escaped_first [] = (0, [])
escaped_first (c ∷ rest) = cond (c == 34) (34, rest) (cond (c == 92) (92, rest) (octal_first c rest))

abbrev first : List ℕ → ℕ × List ℕ
first [] = (0, [])
first (c ∷ rest) = cond (c == 92) (escaped_first rest) (c, rest)

octal_value : (b : ℕ) → b < 256 → ((48 + b / 64) - 48) * 64 + ((48 + b / 8 % 8) - 48) * 8 + ((48 + b % 8) - 48) ≡ b
octal_value b small = omega arith

first_octal : (b : ℕ) (rest : List ℕ) → b < 256 → first (92 ∷ octal_digits b ++ rest) ≡ (b, rest)
first_octal b rest small =
    let q : ((48 + b / 64) == 34) ≡ false = ne_eqb (48 + b / 64) 34 (λ e. omega arith) in
    let s : ((48 + b / 64) == 92) ≡ false = ne_eqb (48 + b / 64) 92 (λ e. omega arith) in
    rw (q, s) (ap (λ (n : ℕ). (n, rest)) (octal_value b small))

first_plain : (b : ℕ) (rest : List ℕ) → IsPlain b → first (b ∷ rest) ≡ (b, rest)
first_plain b rest h = cond-false (b == 92) (escaped_first rest) (b, rest) (ne_eqb b 92 h.no_backslash)

first_byte : (b : ℕ) (rest : List ℕ) → b < 256 → Quoting b → first (quoted_byte b ++ rest) ≡ (b, rest)
first_byte b rest small (quote e) = rw e refl
first_byte b rest small (backslash e) = rw e refl
first_byte b rest small (low h) = ap (λ (q : List ℕ). first (q ++ rest)) (quoted_low b h) ∙ first_octal b rest small
first_byte b rest small (high h) = ap (λ (q : List ℕ). first (q ++ rest)) (quoted_high b h) ∙ first_octal b rest small
first_byte b rest small (plain h) = ap (λ (q : List ℕ). first (q ++ rest)) (quoted_plain b h) ∙ first_plain b rest h

-- what stands behind a quoted byte, and the byte
pub one_byte : (a b : ℕ) (x y : List ℕ) → a < 256 → b < 256 → quoted_byte a ++ x ≡ quoted_byte b ++ y → (a ≡ b)
    × (x ≡ y)
one_byte a b x y small small' e =
    let same : (a, x) ≡ (b, y) = sym (first_byte a x small (quoting a)) ∙ ap first e
    ∙ first_byte b y small' (quoting b) in
    (ap (λ (p : ℕ × List ℕ). p.0) same, ap (λ (p : ℕ × List ℕ). p.1) same)

heads : (x y : ℕ) (xs ys : List ℕ) → x ∷ xs ≡ y ∷ ys → x ≡ y
heads x y xs ys e = cc

apart : (y : ℕ) (xs ys q : List ℕ) → y ≢ 34 → q ≡ y ∷ ys → 34 ∷ xs ≢ q
apart y xs ys q other is e = other (sym (heads 34 y xs ys (e ∙ is)))

quote_closes : (b : ℕ) (rest x : List ℕ) → Quoting b → 34 ∷ rest ≢ quoted_byte b ++ x
quote_closes b rest x (quote h) =
    apart 92 rest (34 ∷ x) (quoted_byte b ++ x) (λ e. omega arith) (ap (λ (c : ℕ). quoted_byte c ++ x) h)
quote_closes b rest x (backslash h) =
    apart 92 rest (92 ∷ x) (quoted_byte b ++ x) (λ e. omega arith) (ap (λ (c : ℕ). quoted_byte c ++ x) h)
quote_closes b rest x (low h) =
    apart 92 rest _ (quoted_byte b ++ x) (λ e. omega arith) (ap (λ (q : List ℕ). q ++ x) (quoted_low b h))
quote_closes b rest x (high h) =
    apart 92 rest _ (quoted_byte b ++ x) (λ e. omega arith) (ap (λ (q : List ℕ). q ++ x) (quoted_high b h))
quote_closes b rest x (plain h) =
    apart b rest x (quoted_byte b ++ x) h.no_quote (ap (λ (q : List ℕ). q ++ x) (quoted_plain b h))

-- a quote closes
pub closed : (rest : List ℕ) → HasNoByte (34 ∷ rest)
closed rest b x small e = quote_closes b rest x (quoting b) e

-- bytes are quoted in one way, where none follows
pub one_principal : (p q r s : List ℕ) → AreBytes p → AreBytes q → HasNoByte r → HasNoByte s
    → flat_map quoted_byte p ++ r ≡ flat_map quoted_byte q ++ s → (p ≡ q) × (r ≡ s)
one_principal [] [] r s bytes bytes' stop stop' e = (refl, e)
one_principal [] (b ∷ q) r s bytes bytes' stop stop' e =
    absurd (stop b (flat_map quoted_byte q ++ s) (All-head (λ c. c < 256) b q bytes') (e
    ∙ append_assoc (quoted_byte b) (flat_map quoted_byte q) s))
one_principal (a ∷ p) [] r s bytes bytes' stop stop' e =
    absurd (stop' a (flat_map quoted_byte p ++ r) (All-head (λ c. c < 256) a p bytes) (sym e
    ∙ append_assoc (quoted_byte a) (flat_map quoted_byte p) r))
one_principal (a ∷ p) (b ∷ q) r s bytes bytes' stop stop' e =
    let next : quoted_byte a ++ (flat_map quoted_byte p ++ r) ≡ quoted_byte b ++ (flat_map quoted_byte q ++ s) =
    sym (append_assoc (quoted_byte a) (flat_map quoted_byte p) r) ∙ e
    ∙ append_assoc (quoted_byte b) (flat_map quoted_byte q) s in
    let byte = one_byte a b _ _ (All-head (λ c. c < 256) a p bytes) (All-head (λ c. c < 256) b q bytes') next in
    let rest = one_principal p q r s (All-tail (λ c. c < 256) a p bytes) (All-tail (λ c. c < 256) b q bytes') stop stop'
    byte.1 in
    let same : a ≡ b = byte.0 in
    let behind : p ≡ q = rest.0 in
    (cc, rest.1)

-- a byte that is quoted at the front of a text, and what is behind
pub record BeginsQuoted (text : List ℕ) : Type 0 where
  pub byte : ℕ
  pub rest : List ℕ
  pub small : byte < 256
  pub spelled : text ≡ quoted_byte byte ++ rest

-- a text begins with a quoted byte, or with none
pub byte_or_none : (text : List ℕ) → BeginsQuoted text ⊎ HasNoByte text
byte_or_none text =
    let byte : ℕ = (first text).0 in
    let rest : List ℕ = (first text).1 in
    let is : (b : ℕ) (behind : List ℕ) → b < 256 → text ≡ quoted_byte b ++ behind
    → first text ≡ (b, behind) = λ b behind small e. ap first e ∙ first_byte b behind small (quoting b) in
    let test = bytes_eq-Decides text (quoted_byte byte ++ rest) in
    elim (cases_lt byte 256) [
      | inl small ↦ elim (cases_Bool (bytes_eq text (quoted_byte byte ++ rest))) [
        | inl same ↦ inl (record { byte = byte; rest = rest; small = small; spelled = test.0 same })
        | inr differs ↦ inr
            (λ b behind below e. not_from_Decides (bytes_eq text (quoted_byte byte ++ rest)) test differs (e
            ∙ ap (λ (p : ℕ × List ℕ). quoted_byte p.0 ++ p.1) (sym (is b behind below e))))
      ]
      | inr large ↦ inr (λ b behind below e. let same : byte ≡ b = ap (λ (p : ℕ × List ℕ). p.0) (is b behind below e) in
          absurd (omega arith))
    ]

pub quoted-some : (b : ℕ) → Quoting b → 1 ≤ length (quoted_byte b)
quoted-some b (quote h) = rw h (omega arith)
quoted-some b (backslash h) = rw h (omega arith)
quoted-some b (low h) = rw (quoted_low b h) (omega arith)
quoted-some b (high h) = rw (quoted_high b h) (omega arith)
quoted-some b (plain h) = rw (quoted_plain b h) (omega arith)

-- the bytes that are quoted at the front of a text, as many as there are, and what is behind
pub record IsUnquoted (text : List ℕ) : Type 0 where
  pub principal : List ℕ
  pub rest : List ℕ
  pub spelled : text ≡ flat_map quoted_byte principal ++ rest
  pub bytes : AreBytes principal
  pub all : HasNoByte rest

unquoted_more : (text : List ℕ) (begins : BeginsQuoted text) → IsUnquoted begins.rest → IsUnquoted text
unquoted_more text begins behind = record {
  principal = begins.byte ∷ behind.principal;
  rest = behind.rest;
  spelled =
      begins.spelled ∙ ap (λ (l : List ℕ). quoted_byte begins.byte ++ l) behind.spelled
      ∙ sym (append_assoc (quoted_byte begins.byte) (flat_map quoted_byte behind.principal) behind.rest);
  bytes = All-cons (λ c. c < 256) begins.byte behind.principal begins.small behind.bytes;
  all = behind.all;
}

unquoted_none : (text : List ℕ) → HasNoByte text → IsUnquoted text
unquoted_none text none = record {
  principal = [];
  rest = text;
  spelled = refl;
  bytes = All-nil (λ c. c < 256);
  all = none;
}

shorter : (text : List ℕ) (begins : BeginsQuoted text) → length begins.rest < length text
shorter text begins =
    let some = quoted-some begins.byte (quoting begins.byte) in
    let size : length text ≡ length (quoted_byte begins.byte) + length begins.rest = ap length begins.spelled
    ∙ length-append (quoted_byte begins.byte) begins.rest in
    omega arith

-- each text has such bytes
unquoted_within : (most : ℕ) (text : List ℕ) → length text ≤ most → IsUnquoted text
unquoted_within zero text within = elim (byte_or_none text) [
  | inl begins ↦ let less = shorter text begins in absurd (omega arith)
  | inr none ↦ unquoted_none text none
]
unquoted_within (suc most) text within = elim (byte_or_none text) [
  | inl begins ↦ let less = shorter text begins in
      unquoted_more text begins (unquoted_within most begins.rest (omega arith))
  | inr none ↦ unquoted_none text none
]

pub unquoted_of : (text : List ℕ) → IsUnquoted text
unquoted_of text = unquoted_within (length text) text (omega arith)
