-- The scanner of literals finds a closing quote exactly where items reach one.
use Rattle.std.proofs.Common.{◌≡◌, ℕ, suc, true, false, Bool, ◌+◌, ◌≤◌, List, [], ◌∷◌, ◌++◌, Option, Some, None, length}
use Rattle.std.proofs.Common.{take, arith, refl, sym, ◌∙◌, ap, subst, append_assoc, length-append, if◌then◌else◌}
use Rattle.std.specs.Prelude.{◌||◌, ◌==◌}
use Rattle.std.specs.List.{list_all}
use Rattle.std.proofs.Math.Numerals.{one-add}
use Rattle.std.proofs.lemmas.Bool.Decides.{nat_tests}
use Rattle.kn_lex.specs.Bytes.{is_white}
use Rattle.kn_lex.specs.Spelling.{Item, plain, escaped, joined, is_item, item_bytes, items_bytes, IsLiteral}
use Rattle.kn_lex.specs.Scanning.{quote_len, quote_step, len_after, more_len}
use Rattle.kn_lex.specs.declared.quote.Quote.{Quote}
use Rattle.kn_lex.specs.declared.quote.Quote.TheVariants.{Opening, Plain, Escaped, Returned, Joined}
use Rattle.kn_lex.specs.declared.quote.Step.{Step}
use Rattle.kn_lex.specs.declared.quote.Step.TheVariants.{Fail, Close, Go}
use Rattle.kn_lex.proofs.Scans.{more_len_zero}
use Rattle.kn_lex.proofs.ScannedLengths.{choice, same_byte}

-- items and the closing quote
pub record IsClosed (bytes : List ℕ) : Type 0 where
  pub items : List Item
  pub allowed : list_all is_item items ≡ true
  pub spelled : bytes ≡ items_bytes items ++ 34 ∷ []

-- white space that an escaped newline leaves out, then items and the closing quote
pub record IsJoined (bytes : List ℕ) : Type 0 where
  pub white : List ℕ
  pub all : list_all is_white white ≡ true
  pub items : List Item
  pub allowed : list_all is_item items ≡ true
  pub spelled : bytes ≡ white ++ items_bytes items ++ 34 ∷ []

-- what the bytes are that close a literal from within it
abbrev pub Closes : Quote → List ℕ → Type 0
Closes Opening bytes = IsLiteral bytes
Closes Plain bytes = IsClosed bytes
Closes Escaped bytes = IsClosed (92 ∷ bytes)
Closes Returned bytes = IsClosed (92 ∷ 13 ∷ bytes)
Closes Joined bytes = IsJoined bytes

abbrev pub Steps : Quote → ℕ → List ℕ → Step → Type 0
Steps quote c bytes Fail = Unit {0}
Steps quote c bytes Close = Closes quote (c ∷ [])
Steps quote c bytes (Go next) = Closes next bytes → Closes quote (c ∷ bytes)

closed_now : (c : ℕ) → (c == 34) ≡ true → IsClosed (c ∷ [])
closed_now c e = record { items = []; allowed = refl; spelled = ap (λ (b : ℕ). b ∷ []) (same_byte c 34 e) }

joined_now : (bytes : List ℕ) → IsClosed bytes → IsJoined bytes
joined_now bytes h = record { white = []; all = refl; items = h.items; allowed = h.allowed; spelled = h.spelled }

-- one more item stands in front
closed_more : (item : Item) (bytes whole : List ℕ) → is_item item ≡ true → whole ≡ item_bytes item ++ bytes
    → IsClosed bytes → IsClosed whole
closed_more item bytes whole is e h = record {
  items = item ∷ h.items;
  allowed = rw is h.allowed;
  spelled = e ∙ ap (λ (bs : List ℕ). item_bytes item ++ bs) h.spelled
      ∙ sym (append_assoc (item_bytes item) (items_bytes h.items) (34 ∷ []));
}

closed_joined : (returned : Bool) (bytes whole : List ℕ) (h : IsJoined bytes)
    → whole ≡ (if returned then 92 ∷ 13 ∷ 10 ∷ bytes else 92 ∷ 10 ∷ bytes) → IsClosed whole
closed_joined returned bytes whole h e = record {
  items = joined returned h.white ∷ h.items;
  allowed = rw h.all h.allowed;
  spelled = grind (arith, h.spelled, append_assoc h.white (items_bytes h.items) (34 ∷ []));
}

joined_more : (c : ℕ) (bytes : List ℕ) → is_white c ≡ true → IsJoined bytes → IsJoined (c ∷ bytes)
joined_more c bytes w h =
    record {
      white = c ∷ h.white;
      all = rw (w, h.all) refl;
      items = h.items;
      allowed = h.allowed;
      spelled =
          ap (λ (bs : List ℕ). c ∷ bs) h.spelled;
    }

at : (quote : Quote) (c d : ℕ) (bytes : List ℕ) → (c == d) ≡ true → Closes quote (d ∷ bytes) → Closes quote (c ∷ bytes)
at quote c d bytes e h = subst (λ (b : ℕ). Closes quote (b ∷ bytes)) (sym (same_byte c d e)) h

pub steps : (quote : Quote) (c : ℕ) (bytes : List ℕ) → Steps quote c bytes (quote_step quote c)
steps Opening c bytes = grind arith
steps Plain c bytes = grind (arith, closed_now, at Plain c 92 bytes, closed_more (plain c) bytes)
steps Escaped c bytes =
    choice (Steps Escaped c bytes) (c == 13) _ _ (λ e h. at Escaped c 13 bytes e h)
    (λ r. choice (Steps Escaped c bytes) (c == 10) _ _
    (λ e h. at Escaped c 10 bytes e (closed_joined false bytes _ h refl))
    (λ n. closed_more (escaped c) bytes _ (grind (arith, nat_tests)) refl))
steps Returned c bytes =
    choice (Steps Returned c bytes) (c == 10) _ _ (λ e h. at Returned c 10 bytes e (closed_joined true bytes _ h refl))
    (λ _. tt)
steps Joined c bytes =
    choice (Steps Joined c bytes) (c == 34) _ _ (λ e. joined_now (c ∷ []) (closed_now c e))
    (λ q. choice (Steps Joined c bytes) (c == 92) _ _ (λ e h. at Joined c 92 bytes e (joined_now (92 ∷ bytes) h))
    (λ b. choice (Steps Joined c bytes) (c == 32 || c == 9 || c == 13 || c == 10) _ _ (joined_more c bytes)
    (λ n h. joined_now (c ∷ bytes) (closed_more (plain c) bytes _ (grind (arith, nat_tests)) refl h))))

-- what is found is a literal
pub quote_sound : (quote : Quote) (xs : List ℕ) (n : ℕ) → quote_len quote xs ≡ Some n → (n ≤ length xs)
    × Closes quote (take n xs)
unfolding quote_len
quote_sound quote [] n e = absurd (cc)
quote_sound quote (c ∷ cs) n e =
    by (quote_step quote c) (λ bytes. steps quote c bytes) e (λ next m h. quote_sound next cs m h)
  where
    more : (next : Quote) (k : Option ℕ) → ((bytes : List ℕ) → Closes next bytes → Closes quote (c ∷ bytes))
        → more_len 1 k ≡ Some n
        → ((m : ℕ) → k ≡ Some m → (m ≤ length cs) × Closes next (take m cs))
        → (n ≤ length (c ∷ cs)) × Closes quote (take n (c ∷ cs))
    more next None step e rest = absurd (cc)
    more next (Some m) step e rest =
        let r = rest m refl in
        let is : suc m ≡ n = sym (one-add m) ∙ (cc) in
        (omega (arith, r.0, is), subst (λ (k : ℕ). Closes quote (take k (c ∷ cs))) is (step (take m cs) r.1))

    by : (s : Step) → ((bytes : List ℕ) → Steps quote c bytes s) → len_after s (λ next. quote_len next cs) ≡ Some n
        → ((next : Quote) (m : ℕ) → quote_len next cs ≡ Some m → (m ≤ length cs) × Closes next (take m cs))
        → (n ≤ length (c ∷ cs)) × Closes quote (take n (c ∷ cs))
    by Fail step e rest = absurd (cc)
    by Close step e rest = let is : 1 ≡ n = cc in
        (omega arith, subst (λ (k : ℕ). Closes quote (take k (c ∷ cs))) is (step []))
    by (Go next) step e rest = more next (quote_len next cs) step e (rest next)

joined_run : (white rest : List ℕ) → list_all is_white white ≡ true
    → quote_len Joined (white ++ rest) ≡ more_len (length white) (quote_len Joined rest)
unfolding quote_len
joined_run [] rest e = sym (more_len_zero _)
joined_run (c ∷ cs) rest e = grind (arith, nat_tests, joined_run cs rest)

-- items and a closing quote are passed whole, also in the white space behind an escaped newline
abbrev pub Passes : List Item → List ℕ → Type 0
Passes items more =
    (quote_len Plain (items_bytes items ++ 34 ∷ more) ≡ Some (length (items_bytes items) + 1))
    × (quote_len Joined (items_bytes items ++ 34 ∷ more) ≡ Some (length (items_bytes items) + 1))

pub items_pass : (items : List Item) (more : List ℕ) → list_all is_item items ≡ true → Passes items more
unfolding quote_len
items_pass [] more e = (refl, refl)
items_pass (plain c ∷ items) more e = let rest = items_pass items more (grind arith) in
    (grind (arith, nat_tests), grind (arith, nat_tests))
items_pass (escaped c ∷ items) more e = let rest = items_pass items more (grind arith) in
    (grind (arith, nat_tests), grind (arith, nat_tests))
items_pass (joined returned white ∷ items) more e =
    grind (arith, joined_run, append_assoc, length-append, items_pass items more (grind arith))

-- a front that is a literal is found
pub literal_found : (front more : List ℕ) → IsLiteral front → quote_len Opening (front ++ more) ≡ Some (length front)
unfolding quote_len
literal_found front more h = grind (arith, items_pass, append_assoc, length-append)
