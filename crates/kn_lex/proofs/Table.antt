-- The value of a literal has the rows of the table of escapes, and no other function of literals has them.
use Rattle.std.proofs.Common.{nat_le, ◌&&◌, ◌≡◌, ◌≢◌, ℕ, zero, suc, ◌+◌, ◌-◌, ◌≤◌, Bool, true, false, List, [], ◌∷◌}
use Rattle.std.proofs.Common.{◌++◌, length, get_or, arith, refl, sym, ◌∙◌, ap, append_assoc, length-append}
use Rattle.std.specs.Prelude.{◌==◌, codes}
use Rattle.std.specs.List.{prefix_len, list_all, list_any}
use Rattle.std.proofs.lemmas.List.Folds.{list_all-append}
use Rattle.std.proofs.lemmas.Bool.{ne_eqb, false≢true}
use Rattle.std.proofs.lemmas.List.{take_at, drop_at}
use Rattle.std.proofs.lemmas.Bool.Decides.{nat_tests}
use Rattle.kn_lex.specs.Bytes.{is_white, is_octal_digit, begins_with}
use Rattle.kn_lex.specs.Spelling.{Item, plain as plain_item, escaped, joined as joined_item, is_item, item_bytes}
use Rattle.kn_lex.specs.Spelling.{items_bytes, IsLiteral}
use Rattle.kn_lex.specs.Literal.{value_behind, begins_octal, begins_low, inside, literal_value}
use Rattle.kn_lex.specs.Escapes.{EscapeTable, BeginsOctal, BeginsLow, BeginsOther, octal}
use Rattle.kn_lex.proofs.ScannedLengths.{both}
use Rattle.kn_lex.proofs.Values.{skipped}

-- white space is counted up to the next other character
run_len : (white rest : List ℕ) → list_all is_white white ≡ true → begins_with is_white rest ≡ false
    → prefix_len is_white (white ++ rest) ≡ length white
run_len [] rest all next = grind arith
run_len (byte ∷ white) rest all next = grind (arith, run_len white rest)

pub joined : (white rest : List ℕ) → list_all is_white white ≡ true → begins_with is_white rest ≡ false
    → value_behind 0 (92 ∷ 10 ∷ white ++ rest) ≡ value_behind 0 rest
unfolding value_behind
joined white rest all next = grind (arith, skipped, run_len, drop_at)

pub returned : (white rest : List ℕ) → list_all is_white white ≡ true → begins_with is_white rest ≡ false
    → value_behind 0 (92 ∷ 13 ∷ 10 ∷ white ++ rest) ≡ value_behind 0 rest
unfolding value_behind
returned white rest all next = grind (arith, skipped, run_len, drop_at)

pub plain : (byte : ℕ) (rest : List ℕ) → byte ≢ 92 → value_behind 0 (byte ∷ rest) ≡ byte ∷ value_behind 0 rest
unfolding value_behind
plain byte rest n = rw (ne_eqb _ _ n) refl

all_five : (a b c d e : Bool) → (a && b && c && d && e) ≡ true → (a ≡ true) × (b ≡ true) × (c ≡ true) × (d ≡ true)
    × (e ≡ true)
all_five a b c d e h = grind arith

at_most : (m n : ℕ) → nat_le m n ≡ true → m ≤ n
at_most m n e = grind (arith, nat_tests)

digit_byte : (a : ℕ) → is_octal_digit a ≡ true → (48 ≤ a) × (a ≤ 55)
digit_byte a e = grind (arith, nat_tests)

digits_back : (a b c : ℕ) (rest : List ℕ) → 48 ≤ a → 48 ≤ b → 48 ≤ c
    → a ∷ b ∷ c ∷ rest ≡ (48 + (a - 48)) ∷ (48 + (b - 48)) ∷ (48 + (c - 48)) ∷ rest
digits_back a b c rest x y z = grind arith

-- what begins with three octal digits of a byte does so in the words of the table
octal_from : (bytes : List ℕ) → begins_octal bytes ≡ true → BeginsOctal bytes
octal_from [] e = absurd (cc)
octal_from (a ∷ []) e = absurd (grind (arith, nat_tests))
octal_from (a ∷ b ∷ []) e = absurd (grind (arith, nat_tests))
octal_from (a ∷ b ∷ c ∷ rest) e =
    grind (
      arith,
      all_five (is_octal_digit a) (is_octal_digit b) (is_octal_digit c),
      digit_byte a,
      digit_byte b,
      digit_byte c,
      at_most 1,
      at_most,
      digits_back a b c rest,
    )

octal_to : (bytes : List ℕ) → BeginsOctal bytes → begins_octal bytes ≡ true
octal_to bytes o = rw o.here (grind (arith, nat_tests))

octal_at : (high mid low : ℕ) (rest : List ℕ) → high ≤ 7 → mid ≤ 7 → low ≤ 7 → 1 ≤ octal high mid low
    → octal high mid low ≤ 255
    → value_behind 0 (92 ∷ (48 + high) ∷ (48 + mid) ∷ (48 + low) ∷ rest) ≡ octal high mid low ∷ value_behind 0 rest
unfolding value_behind
octal_at high mid low rest a b c least most = grind (arith, nat_tests)

pub octal_row : (bytes : List ℕ) (o : BeginsOctal bytes)
    → value_behind 0 (92 ∷ bytes) ≡ octal o.high o.mid o.low ∷ value_behind 0 o.rest
octal_row bytes o = grind (arith, octal_at)

no_digit_next : (rest : List ℕ) → begins_with is_octal_digit rest ≡ is_octal_digit (get_or rest 0 0)
no_digit_next rest = grind arith

low_from : (bytes : List ℕ) → begins_low bytes ≡ true → BeginsLow bytes
low_from [] e = absurd (cc)
low_from (a ∷ []) e = absurd (grind (arith, nat_tests))
low_from (a ∷ b ∷ rest) e =
    let facts : (a ≡ 48) × (49 ≤ b) × (b ≤ 55) = grind (arith, nat_tests) in
    record {
      digit = b - 48;
      rest = rest;
      least = omega arith;
      most = omega arith;
      alone = grind (arith, no_digit_next rest);
      here = grind arith;
    }

low_to : (bytes : List ℕ) → BeginsLow bytes → begins_low bytes ≡ true
low_to bytes l = rw l.here (grind (arith, nat_tests, no_digit_next l.rest))

low_at : (digit : ℕ) (rest : List ℕ) → 1 ≤ digit → digit ≤ 7 → begins_with is_octal_digit rest ≡ false
    → value_behind 0 (92 ∷ 48 ∷ (48 + digit) ∷ rest) ≡ digit ∷ value_behind 0 rest
unfolding value_behind
low_at digit rest least most alone = grind (arith, nat_tests, no_digit_next rest)

pub low_row : (bytes : List ℕ) (l : BeginsLow bytes) → value_behind 0 (92 ∷ bytes) ≡ l.digit ∷ value_behind 0 l.rest
low_row bytes l = ap (λ bs. value_behind 0 (92 ∷ bs)) l.here ∙ low_at l.digit l.rest l.least l.most l.alone

-- a test is false where what it tells is
untold : {P : Type 0} (b : Bool) → (b ≡ true → P) → (P → ⊥) → b ≡ false
untold b tells never = grind arith

pub other_row : (byte : ℕ) (rest : List ℕ) → BeginsOther byte rest
    → value_behind 0 (92 ∷ byte ∷ rest) ≡ byte ∷ value_behind 0 rest
unfolding value_behind
other_row byte rest o =
    let octal_not = untold (begins_octal (byte ∷ rest)) (octal_from (byte ∷ rest)) o.octal in
    let low_not = untold (begins_low (byte ∷ rest)) (low_from (byte ∷ rest)) o.low in
    let letter = o.letter in
    let newline = o.newline in
    let carriage_return = o.carriage_return in
    grind (arith, nat_tests)

-- the value of a literal has the rows of the table
pub value_rows : EscapeTable (value_behind 0)
unfolding value_behind
value_rows = grind (arith, joined, returned, octal_row, low_row, other_row)

decide : {P : Type 0} (b : Bool) → (b ≡ true → P) → (b ≡ false → P) → P
decide b first second = grind arith

-- what stands behind white space among items, and is no white space
record Behind (items : List Item) : Type 0 where
  white : List ℕ
  all : list_all is_white white ≡ true
  rest : List Item
  allowed : list_all is_item rest ≡ true
  next : begins_with is_white (items_bytes rest) ≡ false
  here : items_bytes items ≡ white ++ items_bytes rest

at_once : (items : List Item) → list_all is_item items ≡ true → begins_with is_white (items_bytes items) ≡ false
    → Behind items
at_once items e next = record { white = []; all = refl; rest = items; allowed = e; next = next; here = refl }

behind : (items : List Item) → list_all is_item items ≡ true → Behind items
behind [] e = at_once [] e refl
behind (plain_item c ∷ items) e =
    decide (is_white c) (more (behind items (both _ _ e).1)) (at_once (plain_item c ∷ items) e)
  where
    more : Behind items → is_white c ≡ true → Behind (plain_item c ∷ items)
    more rest w = record {
      white = c ∷ rest.white;
      all = rw (w, rest.all) refl;
      rest = rest.rest;
      allowed =
          rest.allowed;
      next = rest.next;
      here = cc;
    }
behind (escaped c ∷ items) e = at_once (escaped c ∷ items) e refl
behind (joined_item returned white ∷ items) e = at_once (joined_item returned white ∷ items) e (grind arith)

-- what stands behind a byte among items that is no backslash
record After (byte : ℕ) (more : List ℕ) : Type 0 where
  rest : List Item
  allowed : list_all is_item rest ≡ true
  here : more ≡ items_bytes rest

after : (items : List Item) (byte : ℕ) (more : List ℕ) → list_all is_item items ≡ true → byte ≢ 92
    → items_bytes items ≡ byte ∷ more → After byte more
after [] byte more e n h = absurd (cc)
after (plain_item c ∷ items) byte more e n h = record { rest = items; allowed = (both _ _ e).1; here = cc }
after (escaped c ∷ items) byte more e n h = absurd (n (cc))
after (joined_item returned white ∷ items) byte more e n h = absurd (grind arith)

-- two functions agree on items that have at most so many bytes
abbrev Agree : (List ℕ → List ℕ) → (List ℕ → List ℕ) → ℕ → Type 0
Agree v w n = (items : List Item) → length (items_bytes items) ≤ n → list_all is_item items ≡ true
    → v (items_bytes items) ≡ w (items_bytes items)

tail_same : (c d : ℕ) (xs ys : List ℕ) → c ∷ xs ≡ d ∷ ys → xs ≡ ys
tail_same c d xs ys e = cc

octal_same : (v w : List ℕ → List ℕ) → EscapeTable v → EscapeTable w → (c : ℕ) (items : List Item)
    → list_all is_item items ≡ true
    → Agree v w (length (items_bytes items)) → BeginsOctal (c ∷ items_bytes items)
    → v (92 ∷ c ∷ items_bytes items) ≡ w (92 ∷ c ∷ items_bytes items)
octal_same v w t u c items e agree o =
    let here = tail_same c (48 + o.high) (items_bytes items) ((48 + o.mid) ∷ (48 + o.low) ∷ o.rest) o.here in
    let mid = after items (48 + o.mid) ((48 + o.low) ∷ o.rest) e (λ h. absurd (omega (arith, o.digits.1, h))) here in
    let low = after mid.rest (48 + o.low) o.rest mid.allowed (λ h. absurd (omega (arith, o.digits.2, h)))
    (sym mid.here) in
    let size : length (items_bytes low.rest) ≤ length (items_bytes items) =
    omega (arith, ap length low.here, ap length here) in
    cc (low.here, agree low.rest size low.allowed, t.octal (c ∷ items_bytes items) o, u.octal (c ∷ items_bytes items) o)

low_same : (v w : List ℕ → List ℕ) → EscapeTable v → EscapeTable w → (c : ℕ) (items : List Item)
    → list_all is_item items ≡ true
    → Agree v w (length (items_bytes items)) → BeginsLow (c ∷ items_bytes items)
    → v (92 ∷ c ∷ items_bytes items) ≡ w (92 ∷ c ∷ items_bytes items)
low_same v w t u c items e agree l =
    let here = tail_same c 48 (items_bytes items) ((48 + l.digit) ∷ l.rest) l.here in
    let digit = after items (48 + l.digit) l.rest e (λ h. absurd (omega (arith, l.most, h))) here in
    let size : length (items_bytes digit.rest) ≤ length (items_bytes items) =
    omega (arith, ap length digit.here, ap length here) in
    cc (
      digit.here,
      agree digit.rest size digit.allowed,
      t.low (c ∷ items_bytes items) l,
      u.low (c ∷ items_bytes items) l,
    )

escaped_same : (v w : List ℕ → List ℕ) → EscapeTable v → EscapeTable w → (c : ℕ) (items : List Item)
    → is_item (escaped c) ≡ true
    → list_all is_item items ≡ true
    → Agree v w (length (items_bytes items)) → v (92 ∷ c ∷ items_bytes items) ≡ w (92 ∷ c ∷ items_bytes items)
escaped_same v w t u c items item e agree =
    let more : List ℕ = items_bytes items in
    let rest : v more ≡ w more = agree items (omega arith) e in
    decide (list_any (λ letter. c == letter) (codes "nrtf"))
    (λ letter.
    grind (
      arith,
      nat_tests,
      t.newline more,
      u.newline more,
      t.carriage_return more,
      u.carriage_return more,
      t.tab more,
      u.tab more,
      t.form_feed more,
      u.form_feed more,
    ))
    (λ letter. decide (begins_octal (c ∷ more)) (λ o. octal_same v w t u c items e agree (octal_from (c ∷ more) o))
    (λ o. decide (begins_low (c ∷ more)) (λ l. low_same v w t u c items e agree (low_from (c ∷ more) l))
    (λ l.
    let other : BeginsOther c more = record {
      letter = letter;
      newline = λ h. absurd (grind (arith, nat_tests));
      carriage_return = λ h. absurd (grind (arith, nat_tests));
      octal = λ begins. false≢true (sym o ∙ octal_to (c ∷ more) begins);
      low = λ begins. false≢true (sym l ∙ low_to (c ∷ more) begins);
    } in
    cc (t.other c more other, u.other c more other))))

joined_same : (v w : List ℕ → List ℕ) → EscapeTable v → EscapeTable w → (returned : Bool) (white rest : List ℕ)
    → list_all is_white white ≡ true
    → begins_with is_white rest ≡ false → v rest ≡ w rest
    → v (item_bytes (joined_item returned white) ++ rest) ≡ w (item_bytes (joined_item returned white) ++ rest)
joined_same v w t u true white rest all next e = t.returned white rest all next ∙ e
    ∙ sym (u.returned white rest all next)
joined_same v w t u false white rest all next e = t.joined white rest all next ∙ e ∙ sym (u.joined white rest all next)

-- two functions that have the rows of the table agree on items
items_same : (v w : List ℕ → List ℕ) → EscapeTable v → EscapeTable w → (n : ℕ) → Agree v w n
items_same v w t u n [] h e = t.empty ∙ sym u.empty
items_same v w t u zero (plain_item c ∷ items) h e = absurd (omega arith)
items_same v w t u (suc n) (plain_item c ∷ items) h e =
    let other : c ≢ 92 = λ is. absurd (grind (arith, nat_tests)) in
    let rest = items_same v w t u n items (omega arith) (both _ _ e).1 in
    cc (t.plain c (items_bytes items) other, u.plain c (items_bytes items) other)
items_same v w t u zero (escaped c ∷ items) h e = absurd (omega arith)
items_same v w t u (suc n) (escaped c ∷ items) h e =
    let parts = both (is_item (escaped c)) (list_all is_item items) e in
    escaped_same v w t u c items parts.0 parts.1
    (λ rest size allowed. items_same v w t u n rest (omega (arith, size, h)) allowed)
items_same v w t u zero (joined_item returned white ∷ items) h e = absurd (grind arith)
items_same v w t u (suc n) (joined_item returned white ∷ items) h e =
    let parts = both (list_all is_white white) (list_all is_item items) e in
    let b = behind items parts.1 in
    let all : list_all is_white (white ++ b.white) ≡ true =
    grind (arith, list_all-append is_white white b.white, parts.0, b.all) in
    let here : item_bytes (joined_item returned white) ++ items_bytes items
    ≡ item_bytes (joined_item returned (white ++ b.white)) ++ items_bytes b.rest =
    grind (arith, b.here, append_assoc white b.white (items_bytes b.rest)) in
    let size : length (items_bytes b.rest) ≤ n = grind (arith, b.here, length-append, h) in
    cc (
      here,
      joined_same v w t u returned (white ++ b.white) (items_bytes b.rest) all b.next
          (items_same v w t u n b.rest size b.allowed),
    )

inside_items : (items : List Item) → inside (34 ∷ items_bytes items ++ 34 ∷ []) ≡ items_bytes items
inside_items items =
    take_at (items_bytes items) (34 ∷ []) (length (34 ∷ items_bytes items ++ 34 ∷ []) - 2)
    (omega (arith, length-append (items_bytes items) (34 ∷ [])))

-- whatever has the rows of the table gives the value of each literal
pub table_value : (value : List ℕ → List ℕ) → EscapeTable value → (text : List ℕ) → IsLiteral text
    → literal_value text ≡ value (inside text)
table_value value table text literal =
    let is : inside text ≡ items_bytes literal.items = ap inside literal.spelled ∙ inside_items literal.items in
    rw is (items_same (value_behind 0) value value_rows table (length (items_bytes literal.items)) literal.items
    (omega arith) literal.allowed)
