-- An orderly connection ends in order: every other end contradicts what it took.
use Rattle.std.proofs.Common.{◌≡◌, ℕ, zero, suc, ◌+◌, ◌<◌, Bool, true, false, List, [], ◌∷◌, ◌++◌, length, take, inl}
use Rattle.std.proofs.Common.{inr, refl, sym, ap, ◌∙◌, append-nil, arith, Option, Some, None, subst, length-append}
use Rattle.std.specs.Prelude.{◌⊎◌, ◌||◌, ◌-◌, IfSome}
use Rattle.std.specs.List.{list_any, last_or}
use Rattle.std.proofs.lemmas.Bool.{eqb-true}
use Rattle.std.proofs.lemmas.List.{length-map}
use Rattle.kn_base.specs.declared.limits.TheConstants.{REQUESTS}
use Rattle.kn_outside.specs.Seen.{LinkSeen}
use Rattle.kn_outside.specs.SpecifiedBytes.{before}
use Rattle.kn_wire.specs.declared.fault.WireFault.TheVariants as F
use Rattle.kn_wire.specs.Requests.{Request, Bye, Faulty, Takes, first_of}
use Rattle.kn_wire.proofs.Growing.{no_request, same_first, requests-grow}
use Rattle.kn_daemon.specs.declared.ended.Ended.{Ended}
use Rattle.kn_daemon.specs.declared.ended.Ended.TheVariants as E
use Rattle.kn_daemon.specs.Daemon.{DaemonConfig}
use Rattle.kn_daemon.specs.Linearized.{Exchange, requests_in}
use Rattle.kn_daemon.specs.Served.{is_bye, is_block}
use Rattle.kn_registry.specs.Passes.{PassSeen}
use Rattle.kn_serve.specs.Serving.{Serves, is_over, IsOrderly, IsFaultless}

true_not_false : true ≡ false → ⊥
true_not_false e = cc

either-false : (a b : Bool) → (a || b) ≡ false → (a ≡ false) × (b ≡ false)
either-false false b e = (refl, e)
either-false true b e = absurd (true_not_false e)

or-right : (a b : Bool) → b ≡ true → (a || b) ≡ true
or-right false b e = e
or-right true b e = refl

-- a test that the last one passes
last-passes : (p : Request → Bool) (x : Request) (xs : List Request) (last : Request) →
    last_or (Some x) xs ≡ Some last → p last ≡ true → list_any p (x ∷ xs) ≡ true
last-passes p x [] last e passes = ap (λ (b : Bool). b || false) (ap p (same_first x last e) ∙ passes)
last-passes p x (y ∷ ys) last e passes = or-right (p x) (list_any p (y ∷ ys)) (last-passes p y ys last e passes)

any-last : (p : Request → Bool) (xs : List Request) (last : Request) → last_or None xs ≡ Some last → p last ≡ true →
    list_any p xs ≡ true
any-last p [] last e passes = absurd (no_request last e)
any-last p (x ∷ xs) last e passes = last-passes p x xs last e passes

-- a test that the last one doesn't pass, and none before it
last-fails : (p : Request → Bool) (x : Request) (xs : List Request) (n : ℕ) (last : Request) → n ≡ length xs →
    last_or (Some x) xs ≡ Some last → p last ≡ false →
    list_any p (take n (x ∷ xs)) ≡ false → list_any p (x ∷ xs) ≡ false
last-fails p x [] n last is e fails none = ap (λ (b : Bool). b || false) (ap p (same_first x last e) ∙ fails)
last-fails p x (y ∷ ys) zero last is e fails none = absurd (omega (arith, is))
last-fails p x (y ∷ ys) (suc n) last is e fails none =
    let parts = either-false (p x) (list_any p (take n (y ∷ ys))) none in
    let later : list_any p (y ∷ ys) ≡ false = last-fails p y ys n last (omega (arith, is)) e fails parts.1 in
    ap (λ (b : Bool). b || list_any p (y ∷ ys)) parts.0 ∙ later

none-last : (p : Request → Bool) (xs : List Request) (last : Request) → last_or None xs ≡ Some last → p last ≡ false →
    list_any p (take (length xs - 1) xs) ≡ false → list_any p xs ≡ false
none-last p [] last e fails none = refl
none-last p (x ∷ xs) last e fails none = last-fails p x xs (length (x ∷ xs) - 1) last (omega arith) e fails none

-- the end of the others is not yet come
ends-later : (b c : Bool) (rest : List ℕ) → b ≡ false → ((b || c) ≡ true) ⊎ (rest ≡ []) → (c ≡ true) ⊎ (rest ≡ [])
ends-later false c rest fails (inl e) = inl e
ends-later true c rest fails (inl e) = absurd (true_not_false fails)
ends-later b c rest fails (inr e) = inr e

nothing-more : (text : List ℕ) (first : Request × List ℕ) → text ≡ [] → first_of text ≡ Some first → ⊥
nothing-more text first empty e = no_request first (ap first_of (sym empty) ∙ e)

not-ended : (text rest : List ℕ) (first : Request × List ℕ) → text ≡ rest → first_of text ≡ Some first →
    (false ≡ true) ⊎ (rest ≡ []) → ⊥
not-ended text rest first same e (inl fails) = true_not_false (sym fails)
not-ended text rest first same e (inr empty) = nothing-more text first (same ∙ empty) e

-- requests without BYE are the first ones of those that a text has to its end
continues : (text : List ℕ) (requests others : List Request) (rest other_rest : List ℕ) → Takes text requests rest →
    Takes text others other_rest →
    list_any is_bye requests ≡ false → (list_any is_bye others ≡ true) ⊎ (other_rest ≡ []) →
    (tail : List Request) × (others ≡ requests ++ tail) × Takes rest tail other_rest
continues text [] others rest other_rest a b fails ends =
    (others, refl, subst (λ (t : List ℕ). Takes t others other_rest) a b)
continues text (request ∷ requests) [] rest other_rest a b fails ends =
    absurd (not-ended text other_rest (request, a.0) b a.1 ends)
continues text (request ∷ requests) (other ∷ others) rest other_rest a b fails ends =
    let both = same_first (request, a.0) (other, b.0) (sym a.1 ∙ b.1) in
    let same : other ≡ request = sym (ap (λ (p : Request × List ℕ). p.0) both) in
    let left : a.0 ≡ b.0 = ap (λ (p : Request × List ℕ). p.1) both in
    let parts = either-false (is_bye request) (list_any is_bye requests) fails in
    let later = ends-later (is_bye other) (list_any is_bye others) other_rest (ap is_bye same ∙ parts.0) ends in
    let more =
    continues b.0 requests others rest other_rest (subst (λ (t : List ℕ). Takes t requests rest) left a.2) b.2
    parts.1 later in (
      more.0,
      ap (λ (rs : List Request). other ∷ rs) more.1 ∙ ap (λ (r : Request). r ∷ (requests ++ more.0)) same,
      more.2,
    )

-- and so they are of an orderly input
orderly-ends : (input : List ℕ) (o : IsOrderly input) → (list_any is_bye o.requests ≡ true) ⊎ (o.rest ≡ [])
orderly-ends input o = by o.ends
  where
    by : (last_or None o.requests ≡ Some Bye) ⊎ (o.rest ≡ []) → (list_any is_bye o.requests ≡ true) ⊎ (o.rest ≡ [])
    by (inl e) = inl (any-last is_bye o.requests Bye e refl)
    by (inr e) = inr e

orderly-begins : (input : List ℕ) (o : IsOrderly input) (requests : List Request) (rest : List ℕ) →
    Takes input requests rest → list_any is_bye requests ≡ false →
    (tail : List Request) × (o.requests ≡ requests ++ tail) × Takes rest tail o.rest
orderly-begins input o requests rest t fails =
    continues input requests o.requests rest o.rest t o.taken fails (orderly-ends input o)

any-append : (p : Request → Bool) (xs ys : List Request) → list_any p (xs ++ ys) ≡ false → list_any p xs ≡ false
any-append p [] ys none = refl
any-append p (x ∷ xs) ys none =
    let parts = either-false (p x) (list_any p (xs ++ ys)) none in
    ap (λ (b : Bool). b || list_any p xs) parts.0 ∙ any-append p xs ys parts.1

-- none of what an orderly input begins with is a refused block
no-block : (input : List ℕ) (o : IsOrderly input) (requests : List Request) (rest : List ℕ) (n : ℕ) →
    Takes input requests rest → list_any is_bye requests ≡ false →
    last_or None requests ≡ Some (Faulty (F.Block n)) → ⊥
no-block input o requests rest n t fails last =
    let begun = orderly-begins input o requests rest t fails in
    let none : list_any is_block requests ≡ false =
    any-append is_block requests begun.0 (ap (list_any is_block) (sym begun.1) ∙ o.no_block) in
    true_not_false (sym (any-last is_block requests (Faulty (F.Block n)) last refl) ∙ none)

-- and they are fewer than a connection has
no-budget : (input : List ℕ) (o : IsOrderly input) (requests : List Request) (rest : List ℕ) →
    Takes input requests rest → list_any is_bye requests ≡ false → length requests ≡ REQUESTS → ⊥
no-budget input o requests rest t fails full =
    let begun = orderly-begins input o requests rest t fails in
    let whole : length o.requests ≡ length requests + length begun.0 =
    ap length begun.1 ∙ length-append requests begun.0 in
    let fewer = o.fewer in
    omega (arith, whole, fewer, full)

-- nothing is left of an orderly input where no more request is
no-cut : (input : List ℕ) (o : IsOrderly input) (requests : List Request) (rest : List ℕ) → Takes input requests rest →
    list_any is_bye requests ≡ false → first_of rest ≡ None → 0 < length rest → ⊥
no-cut input o requests rest t fails none some =
    let begun = orderly-begins input o requests rest t fails in
    by begun.0 begun.1 begun.2 (orderly-ends input o)
  where
    by : (tail : List Request) → o.requests ≡ requests ++ tail → Takes rest tail o.rest →
        (list_any is_bye o.requests ≡ true) ⊎ (o.rest ≡ []) → ⊥
    by (first ∷ tail) all left ends = no_request (first, left.0) (sym none ∙ left.1)
    by [] all left (inl bye) = true_not_false (sym bye ∙ ap (list_any is_bye) (all ∙ append-nil requests) ∙ fails)
    by [] all left (inr empty) = let size : length rest ≡ 0 = ap length (left ∙ empty) in omega (arith, size, some)

-- what is left of an input of which this was taken
told-left : (left : Option (List ℕ)) (taken input : List ℕ) → Some input ≡ before taken left →
    (after : List ℕ) × (left ≡ Some after) × (taken ++ after ≡ input)
told-left None taken input e = absurd (no_request input (sym e))
told-left (Some after) taken input e = (after, refl, sym (same_first input (taken ++ after) e))

over-empty : (after : List ℕ) → is_over (Some after) ≡ true → after ≡ []
over-empty [] over = refl
over-empty (b ∷ after) over = let none = eqb-true (length (b ∷ after)) 0 over in absurd (omega (arith, none))

module _ (g : DaemonConfig) (v w : PassSeen) (l l' : LinkSeen) (input : List ℕ) (told : l.left ≡ Some input)
    (o : IsOrderly input) (faultless : IsFaultless l l') where
  -- the requests that were served are the first ones of the input
  served-begin : (taken : List ℕ) (requests : List Request) (rest : List ℕ) → l.left ≡ before taken l'.left →
      Takes taken requests rest → (after : List ℕ) × Takes input requests after
  served-begin taken requests rest left t =
      let left' = told-left l'.left taken input (sym told ∙ left) in
      let grown = requests-grow taken left'.0 requests rest t in
      (grown.0, subst (λ (text : List ℕ). Takes text requests grown.0) left'.2 grown.1)

  -- at the end of the input all of it was taken
  served-whole : (taken : List ℕ) (requests : List Request) (rest : List ℕ) → l.left ≡ before taken l'.left →
      is_over l'.left ≡ true → Takes taken requests rest → Takes input requests rest
  served-whole taken requests rest left over t =
      let left' = told-left l'.left taken input (sym told ∙ left) in
      let empty : left'.0 ≡ [] = over-empty left'.0 (ap is_over (sym left'.1) ∙ over) in
      let whole : taken ≡ input = sym (append-nil taken) ∙ ap (λ (x : List ℕ). taken ++ x) (sym empty) ∙ left'.2 in
      subst (λ (text : List ℕ). Takes text requests rest) whole t

  pub ends-in-order : (ended : Ended) → Serves g v w l l' ended → (ended ≡ E.Done) ⊎ (ended ≡ E.Memory)
  ends-in-order E.Done s = inl refl
  ends-in-order E.Memory s = inr refl
  ends-in-order E.ReadFault s = let rose = s.cause in absurd (omega (arith, rose, faultless))
  ends-in-order E.WriteFault s = let rose = s.cause in absurd (omega (arith, rose, faultless))
  ends-in-order (E.Cut n) s =
      let served = s.served in
      let why = served.why in
      let size = why.2 in
      let some = why.3 in
      absurd (no-cut input o (requests_in served.exchanges) served.rest
      (served-whole s.taken (requests_in served.exchanges) served.rest s.gains.left why.1 served.requests)
      why.0.goes_on.no_bye why.0.no_more (omega (arith, size, some)))
  ends-in-order (E.Block n) s =
      let served = s.served in
      let begun = served-begin s.taken (requests_in served.exchanges) served.rest s.gains.left served.requests in
      let size : length (requests_in served.exchanges) ≡ length served.exchanges =
      length-map served.exchanges (λ (e : Exchange). e.request) in
      let requests : List Request = requests_in served.exchanges in
      let front : list_any is_bye (take (length requests - 1) requests) ≡ false =
      subst (λ (k : ℕ). list_any is_bye (take (k - 1) requests) ≡ false) (sym size) served.one_bye in
      absurd
      (no-block input o (requests_in served.exchanges) begun.0 n begun.1
      (none-last is_bye (requests_in served.exchanges) (Faulty (F.Block n)) served.why refl front) served.why)
  ends-in-order E.Budget s =
      let served = s.served in
      let begun = served-begin s.taken (requests_in served.exchanges) served.rest s.gains.left served.requests in
      absurd (no-budget input o (requests_in served.exchanges) begun.0 begun.1 served.why.1.no_bye served.why.0)

-- where the link tells its input
pub completes : (g : DaemonConfig) (v w : PassSeen) (l l' : LinkSeen) (ended : Ended) → Serves g v w l l' ended →
    IfSome l.left (λ input. IsOrderly input → IsFaultless l l' → (ended ≡ E.Done) ⊎ (ended ≡ E.Memory))
completes g v w l l' ended s = by l.left refl
  where
    by : (told : Option (List ℕ)) → l.left ≡ told →
        IfSome told (λ input. IsOrderly input → IsFaultless l l' → (ended ≡ E.Done) ⊎ (ended ≡ E.Memory))
    by None e = tt
    by (Some input) e = λ o faultless. ends-in-order g v w l l' input e o faultless ended s
