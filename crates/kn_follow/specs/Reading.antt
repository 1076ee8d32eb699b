-- Reading a reply from its first byte on. What is read is a value, and the bytes behind it; a text of which none is
-- read gives the bytes from the first one on that can't stand there, or none where it breaks off.
use Rattle.std.specs.Prelude.{ℕ, zero, suc, ◌+◌, ◌-◌, ◌*◌, ◌/◌, Bool, ◌==◌, ◌&&◌, ◌||◌, nat_le, nat_lt}
use Rattle.std.specs.Prelude.{min, if◌then◌else◌, List, [], ◌∷◌, length, take, drop, codes, Result, Ok, Err}
use Rattle.kn_base.specs.Decimal.{is_digit}
use Rattle.kn_base.specs.declared.limits.TheConstants.{CHANGES, LOG_UPDATES}
use Rattle.kn_wire.specs.Items.{BatchItem, AddText, DropId}
use Rattle.kn_follow.specs.declared.reply.TheConstants.{NINE_DIGITS}
use Rattle.kn_follow.specs.Forms.{ReceivedUpdate, LogReply}

abbrev pub Read : Type 0 → Type 0
Read A = Result (A × List ℕ) (List ℕ)

infixl 10 ◌>>=◌
abbrev pub ◌>>=◌ : {A B : Type 0} → Result A (List ℕ) → (A → Result B (List ℕ)) → Result B (List ℕ)
(Ok x) >>= f = f x
(Err rest) >>= f = Err rest

-- a value, and one behind it that depends on it
abbrev pub both : {A B : Type 0} → (List ℕ → Read A) → (A → List ℕ → Read B) → List ℕ → Read (A × B)
both first second text = do
  a ← first text
  b ← second a.0 a.1
  Ok ((a.0, b.0), b.1)

-- what a value stands for
abbrev pub map_reading : {A B : Type 0} → (A → B) → (List ℕ → Read A) → List ℕ → Read B
map_reading f read text = do
  a ← read text
  Ok (f a.0, a.1)

-- so many values, one behind the other
unfoldable pub times : {A : Type 0} → (List ℕ → Read A) → ℕ → List ℕ → Read (List A)
times read zero text = Ok ([], text)
times read (suc n) text = do
  a ← read text
  others ← times read n a.1
  Ok (a.0 ∷ others.0, others.1)

-- these bytes and no others
unfoldable pub literal_at : List ℕ → List ℕ → Read (Unit {0})
literal_at [] text = Ok (tt, text)
literal_at (c ∷ cs) [] = Err []
literal_at (c ∷ cs) (b ∷ text) = if b == c then literal_at cs text else Err (b ∷ text)

-- so many bytes
unfoldable pub bytes_at : ℕ → List ℕ → Read (List ℕ)
bytes_at n text = if nat_lt (length text) n then Err [] else Ok (take n text, drop n text)

-- the number is from `least` to `most`
abbrev pub is_between : ℕ → ℕ → ℕ → Bool
is_between least most n = nat_le least n && nat_le n most

-- whether the digits of n, with at most so many digits behind them, are a number from `least` to `most`
abbrev pub begins_number : ℕ → ℕ → ℕ → ℕ → Bool
begins_number zero least most n = is_between least most n
begins_number (suc more) least most n =
    is_between least most n || (nat_lt 0 n && begins_number more (least / 10) (most / 10) n)

-- the byte ends a number from `least` to `most`, whose digits are those of n
abbrev pub ends_number : ℕ → ℕ → ℕ → ℕ → ℕ → Bool
ends_number least most end n b = b == end && is_between least most n

-- the byte is one more digit behind those of n, which a number from `least` to `most` may have
abbrev pub is_next_digit : ℕ → ℕ → ℕ → ℕ → Bool
is_next_digit least most n b = (nat_lt 0 n && is_digit b) && begins_number 8 least most (n * 10 + (b - 48))

-- the rest of a number from `least` to `most`, behind the digits of n, through the byte that ends it
unfoldable pub digits_at : ℕ → ℕ → ℕ → ℕ → List ℕ → Read ℕ
digits_at least most end n [] = Err []
digits_at least most end n (b ∷ text) =
    if b == end && is_between least most n then Ok (n, text)
    else if is_next_digit least most n b then digits_at least most end (n * 10 + (b - 48)) text
    else Err (b ∷ text)

-- a number from `least` to `most`, through the byte that ends it
unfoldable pub number_at : ℕ → ℕ → ℕ → List ℕ → Read ℕ
number_at least most end [] = Err []
number_at least most end (b ∷ text) =
    if is_digit b && begins_number 8 least most (b - 48) then digits_at least most end (b - 48) text else Err (b ∷ text)

unfoldable pub addition_at : List ℕ → Read BatchItem
addition_at text =
    map_reading (λ p. AddText p.1.1.0)
    (both (literal_at (codes "ADD "))
    (λ _. both (number_at 0 NINE_DIGITS 10) (λ n. both (bytes_at n) (λ _. literal_at (10 ∷ [])))))
    text

unfoldable pub removal_at : List ℕ → Read BatchItem
removal_at text = map_reading (λ p. DropId p.1) (both (literal_at (codes "DROP a")) (λ _. number_at 0 NINE_DIGITS 10))
    text

-- an item, by its first byte: `A` or `D`
unfoldable pub item_at : List ℕ → Read BatchItem
item_at [] = Err []
item_at (b ∷ text) =
    if b == 65 then addition_at (b ∷ text) else if b == 68 then removal_at (b ∷ text) else Err (b ∷ text)

unfoldable pub update_at : List ℕ → Read ReceivedUpdate
update_at text =
    map_reading (λ p. record { caller = p.1.0; items = p.1.1.1 })
    (both (literal_at (codes "UPDATE "))
    (λ _. both (number_at 0 NINE_DIGITS 32) (λ _. both (number_at 1 CHANGES 10) (λ n. times item_at n))))
    text

-- how many updates a reply may have that is to a client which holds the first `from`
abbrev pub most_updates : ℕ → ℕ
most_updates from = min LOG_UPDATES (NINE_DIGITS - from)

-- the greatest place of a reply with so many updates
abbrev pub greatest_place : ℕ → ℕ → ℕ
greatest_place from count = if count == LOG_UPDATES then NINE_DIGITS else from + count

unfoldable pub reply_at : List ℕ → Read LogReply
reply_at text =
    map_reading (λ p. record { from = p.1.0; place = p.1.1.1.0; updates = p.1.1.1.1.0 })
    (both (literal_at (codes "LOG "))
    (λ _. both (number_at 0 NINE_DIGITS 32) (λ from. both (number_at 0 (most_updates from) 32)
    (λ count. both (number_at (from + count) (greatest_place from count) 10)
    (λ _. both (times update_at count) (λ _. literal_at (codes "END\n")))))))
    text
