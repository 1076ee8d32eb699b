-- A transcript has one verdict: two ways along it are one as far as both go.
use Rattle.std.proofs.Common.{◌≡◌, ◌≢◌, ◌⊎◌, ◌+◌, ◌<◌, ◌^◌, ℕ, Bool, true, false, cond, ◌||◌, List, [], ◌∷◌, ◌++◌}
use Rattle.std.proofs.Common.{length, filter, refl, sym, ap, ◌∙◌, arith, subst, inl, inr, append_assoc, length-append}
use Rattle.std.specs.Prelude.{Result, Ok, Err}
use Rattle.std.specs.List.{list_any, AllByRecursion}
use Rattle.std.proofs.lemmas.List.{append_cancel_left}
use Rattle.std.proofs.lemmas.List.Elements.{recursion_from_All}
use Rattle.std.proofs.lemmas.List.Sums.{length-filter}
use Rattle.kn_history.specs.declared.update.Update.{Update}
use Rattle.kn_wire.specs.Requests.{Request}
use Rattle.kn_wire.proofs.Readings.{one_reading}
use Rattle.kn_reply.specs.Replies.{Reply, Done, Started, Number, PrivateAdded, Added, Value, Batched, PinnedAt, Log}
use Rattle.kn_reply.specs.Replies.{News, Critical, No, NoMemory, reply_text}
use Rattle.kn_reply_reader.specs.Texts.{HasText, BeginsWith}
use Rattle.kn_reply_reader.proofs.ApartLaws.{replies_apart}
use Rattle.kn_daemon.specs.Shapes.{shape_of}
use Rattle.kn_daemon.specs.Daemon.{State, first_state}
use Rattle.kn_transcript.specs.declared.fault.TranscriptFault.{TranscriptFault}
use Rattle.kn_transcript.specs.declared.fault.TranscriptFault.TheVariants as F
use Rattle.kn_transcript.specs.Followed.{Answered, Follows, IsPermitted, history_behind}
use Rattle.kn_transcript.specs.Accepted.{IsFollowed, is_foreign, is_value, meant_of, requests_in, text_in}
use Rattle.kn_transcript.specs.Laws.{HasVerdict, OneVerdict}
use Rattle.kn_transcript.proofs.DeterminedLaws.{one_value, one_outcome}

values_in : List Answered → ℕ
values_in answered = length (filter (λ (a : Answered). is_value a.reply) answered)

-- where a way along a transcript stands
record Place : Type 0 where
  behind : List Request
  left : List ℕ
  history : List Update
  state : State
  count : ℕ
  values : ℕ

abbrev place_at : List Request → List ℕ → List Update → State → ℕ → ℕ → Place
place_at behind left history state count values =
    record { behind = behind; left = left; history = history; state = state; count = count; values = values }

-- these requests and replies lead from here to there
record Leads (past : List Update) (old : State) (meant : List Request) (replies : List ℕ) (count values : ℕ)
    (answered : List Answered) (p : Place) : Type 0 where
  cut : meant ≡ requests_in answered ++ p.behind
  judged : list_any is_foreign (requests_in answered) ≡ false
  texts : replies ≡ text_in answered ++ p.left
  each : AllByRecursion (λ (a : Answered). HasText a.reply) answered
  follows : Follows past old answered p.history p.state
  number : p.count ≡ count + length answered
  worth : p.values ≡ values + values_in answered

-- a permitted reply leads further
record Passes (p : Place) : Type 0 where
  a : Answered
  others : List Request
  more : List ℕ
  mid : State
  cut : p.behind ≡ a.request ∷ others
  judged : is_foreign a.request ≡ false
  text : HasText a.reply
  left : p.left ≡ reply_text a.reply ++ more
  permitted : IsPermitted p.history p.state (shape_of a.request) a.reply mid

or-left : (a b : Bool) → (a || b) ≡ false → a ≡ false
or-left true b e = cc e
or-left false b e = refl

or-right : (a b : Bool) → (a || b) ≡ false → b ≡ false
or-right true b e = absurd (cc e)
or-right false b e = e

passes-by : (past : List Update) (old : State) (meant : List Request) (replies : List ℕ) (count values : ℕ)
    (a : Answered) (answered : List Answered) (p q : Place)
    → Leads past old meant replies count values (a ∷ answered) p → Leads past old meant replies count values [] q
    → Passes q
passes-by past old meant replies count values a answered p q l m = record {
  a = a;
  others = requests_in answered ++ p.behind;
  more = text_in answered ++ p.left;
  mid = l.follows.0;
  cut = sym m.cut ∙ l.cut;
  judged = or-left (is_foreign a.request) (list_any is_foreign (requests_in answered)) l.judged;
  text = l.each.0;
  left = sym m.texts ∙ l.texts ∙ append_assoc (reply_text a.reply) (text_in answered) p.left;
  permitted =
      subst (λ (h : List Update). IsPermitted h q.state (shape_of a.request) a.reply l.follows.0) (sym m.follows.0)
      (subst (λ (s : State). IsPermitted past s (shape_of a.request) a.reply l.follows.0) (sym m.follows.1)
      l.follows.1);
}

same-place : (past : List Update) (old : State) (meant : List Request) (replies : List ℕ) (count values : ℕ)
    (p q : Place)
    → Leads past old meant replies count values [] p → Leads past old meant replies count values [] q → p ≡ q
same-place past old meant replies count values p q l m =
    let a : p.behind ≡ q.behind = sym l.cut ∙ m.cut in
    let b : p.left ≡ q.left = sym l.texts ∙ m.texts in
    let c : p.history ≡ q.history = l.follows.0 ∙ sym m.follows.0 in
    let d : p.state ≡ q.state = l.follows.1 ∙ sym m.follows.1 in
    let e : p.count ≡ q.count = l.number ∙ sym m.number in
    let f : p.values ≡ q.values = l.worth ∙ sym m.worth in
    ap (λ (x : List Request). place_at x p.left p.history p.state p.count p.values) a
    ∙ ap (λ (x : List ℕ). place_at q.behind x p.history p.state p.count p.values) b
    ∙ ap (λ (x : List Update). place_at q.behind q.left x p.state p.count p.values) c
    ∙ ap (λ (x : State). place_at q.behind q.left q.history x p.count p.values) d
    ∙ ap (λ (x : ℕ). place_at q.behind q.left q.history q.state x p.values) e
    ∙ ap (λ (x : ℕ). place_at q.behind q.left q.history q.state q.count x) f

-- the values behind one more reply
worth-of : ℕ → Bool → ℕ
worth-of values b = values + cond b 1 0

-- the way from behind the first reply
shorter : (past : List Update) (old : State) (meant : List Request) (replies : List ℕ) (count values : ℕ) (a : Answered)
    (answered : List Answered) (p : Place)
    → (l : Leads past old meant replies count values (a ∷ answered) p)
    → Leads (history_behind past (shape_of a.request) a.reply) l.follows.0 (requests_in answered ++ p.behind)
    (text_in answered ++ p.left)
    (count + 1) (worth-of values (is_value a.reply)) answered p
unfolding worth-of values_in
shorter past old meant replies count values a answered p l = record {
  cut = refl;
  judged = or-right (is_foreign a.request) (list_any is_foreign (requests_in answered)) l.judged;
  texts = refl;
  each = l.each.1;
  follows = l.follows.2;
  number = let n = l.number in omega (arith, n);
  worth = l.worth ∙ by (is_value a.reply);
}
  where
    fs : List Answered
    fs = filter (λ (a : Answered). is_value a.reply) answered

    by : (b : Bool) → values + length (cond b (a ∷ fs) fs) ≡ (values + cond b 1 0) + length fs
    by true = omega arith
    by false = omega arith

-- two ways from one place are one, or one of them leads further
Meets : Place → Place → Type 0
Meets p q = (p ≡ q) ⊎ (Passes p ⊎ Passes q)

meet : (past : List Update) (old : State) (meant : List Request) (replies : List ℕ) (count values : ℕ)
    (xs ys : List Answered) (p q : Place) → length replies < 2 ^ 64
    → Leads past old meant replies count values xs p → Leads past old meant replies count values ys q → Meets p q
unfolding Meets
meet past old meant replies count values [] [] p q small l m =
    inl (same-place past old meant replies count values p q l m)
meet past old meant replies count values [] (b ∷ ys) p q small l m =
    inr (inl (passes-by past old meant replies count values b ys q p m l))
meet past old meant replies count values (a ∷ xs) [] p q small l m =
    inr (inr (passes-by past old meant replies count values a xs p q l m))
meet past old meant replies count values (a ∷ xs) (b ∷ ys) p q small l m =
    let cut : a.request ∷ (requests_in xs ++ p.behind) ≡ b.request ∷ (requests_in ys ++ q.behind) = sym l.cut ∙ m.cut in
    let request : a.request ≡ b.request = cc cut in
    let others : requests_in xs ++ p.behind ≡ requests_in ys ++ q.behind = cc cut in
    let first : replies ≡ reply_text a.reply ++ (text_in xs ++ p.left) = l.texts
    ∙ append_assoc (reply_text a.reply) (text_in xs) p.left in
    let second : replies ≡ reply_text b.reply ++ (text_in ys ++ q.left) = m.texts
    ∙ append_assoc (reply_text b.reply) (text_in ys) q.left in
    let text : reply_text a.reply ≡ reply_text b.reply =
    replies_apart replies a.reply b.reply small (record { more = text_in xs ++ p.left; text = l.each.0; cut = first })
    (record { more = text_in ys ++ q.left; text = m.each.0; cut = second }) in
    let rest : text_in xs ++ p.left ≡ text_in ys ++ q.left =
    append_cancel_left (reply_text a.reply) (text_in xs ++ p.left) (text_in ys ++ q.left)
    (sym first ∙ second ∙ ap (λ (t : List ℕ). t ++ (text_in ys ++ q.left)) (sym text)) in
    let permitted : IsPermitted past old (shape_of a.request) b.reply m.follows.0 =
    subst (λ (r : Request). IsPermitted past old (shape_of r) b.reply m.follows.0) (sym request) m.follows.1 in
    let outcome = one_outcome past old (shape_of a.request) a.reply b.reply l.follows.0 m.follows.0 l.follows.1
    permitted text in
    let value = one_value past old (shape_of a.request) a.reply b.reply l.follows.0 m.follows.0 l.follows.1 permitted
    text in
    let history : history_behind past (shape_of b.request) b.reply ≡ history_behind past (shape_of a.request) a.reply =
    ap (λ (r : Request). history_behind past (shape_of r) b.reply) (sym request) ∙ sym outcome.0 in
    let size = ap length first ∙ length-append (reply_text a.reply) (text_in xs ++ p.left) in
    meet (history_behind past (shape_of a.request) a.reply) l.follows.0 (requests_in xs ++ p.behind)
    (text_in xs ++ p.left)
    (count + 1) (worth-of values (is_value a.reply)) xs ys p q (omega (arith, size, small))
    (shorter past old meant replies count values a xs p l)
    (subst (λ (v : Bool). Leads (history_behind past (shape_of a.request) a.reply) l.follows.0
    (requests_in xs ++ p.behind) (text_in xs ++ p.left) (count + 1) (worth-of values v) ys q) (sym value)
    (subst (λ (h : List Update). Leads h l.follows.0 (requests_in xs ++ p.behind) (text_in xs ++ p.left) (count + 1)
    (worth-of values (is_value b.reply)) ys q) history
    (subst (λ (s : State). Leads (history_behind past (shape_of b.request) b.reply) s (requests_in xs ++ p.behind)
    (text_in xs ++ p.left) (count + 1) (worth-of values (is_value b.reply)) ys q) (sym outcome.1)
    (subst (λ (rs : List Request). Leads (history_behind past (shape_of b.request) b.reply) m.follows.0 rs
    (text_in xs ++ p.left) (count + 1) (worth-of values (is_value b.reply)) ys q) (sym others)
    (subst (λ (t : List ℕ). Leads (history_behind past (shape_of b.request) b.reply) m.follows.0
    (requests_in ys ++ q.behind) t (count + 1) (worth-of values (is_value b.reply)) ys q) (sym rest)
    (shorter past old meant replies count values b ys q m))))))

-- Verdicts.

Begins : List ℕ → Type 0
Begins left = (reply : Reply) × BeginsWith left reply

Misses : Place → Request → Type 0
Misses p request = (reply : Reply) (new : State) → BeginsWith p.left reply
    → IsPermitted p.history p.state (shape_of request) reply new → ⊥

record StopsAt (p : Place) (n : ℕ) : Type 0 where
  request : Request
  others : List Request
  cut : p.behind ≡ request ∷ others
  place : n ≡ p.count + 1

record StopsJudged (p : Place) (n : ℕ) : Type 0 where
  at : StopsAt p n
  judged : is_foreign at.request ≡ false

-- a way along so many bytes stops here, with this verdict
Stops : ℕ → Place → Result (ℕ × ℕ) TranscriptFault → Type 0
Stops size p (Ok told) = (p.behind ≡ []) × (p.left ≡ []) × (told.0 ≡ p.values) × (told.1 ≡ length p.history)
Stops size p (Err (F.Missing n)) = StopsJudged p n × (p.left ≡ [])
Stops size p (Err (F.Text n)) = StopsJudged p n × (p.left ≢ []) × (Begins p.left → ⊥)
Stops size p (Err (F.Wrong n)) = (s : StopsJudged p n) × Begins p.left × Misses p s.at.request
Stops size p (Err (F.Rest at)) = (p.behind ≡ []) × (p.left ≢ []) × (at + length p.left ≡ size)
Stops size p (Err (F.Foreign n)) = (s : StopsAt p n) × (is_foreign s.request ≡ true)
Stops size p (Err F.NoMemory) = ⊥

some_text : (reply : Reply) (rest : List ℕ) → reply_text reply ++ rest ≢ []
some_text Done rest = λ e. cc e
some_text (Started s version) rest = λ e. cc e
some_text (Number version) rest = λ e. cc e
some_text (PrivateAdded k) rest = λ e. cc e
some_text (Added k version) rest = λ e. cc e
some_text (Value index name version rows) rest = λ e. cc e
some_text (Batched first added version) rest = λ e. cc e
some_text (PinnedAt version newest) rest = λ e. cc e
some_text (Log n history) rest = λ e. cc e
some_text (News index name version) rest = λ e. cc e
some_text (Critical index ids) rest = λ e. cc e
some_text (No refusal) rest = λ e. cc e
some_text NoMemory rest = λ e. cc e

begun-empty : (left : List ℕ) → left ≡ [] → Begins left → ⊥
unfolding Begins
begun-empty left empty b = some_text b.0 b.1.more (sym b.1.cut ∙ empty)

-- no request is there
nothing-behind : (p : Place) (request : Request) (others : List Request) → p.behind ≡ [] → p.behind ≡ request ∷ others
    → ⊥
nothing-behind p request others e f = cc (e, f)

one-request : (p : Place) (a b : Request) (xs ys : List Request) → p.behind ≡ a ∷ xs → p.behind ≡ b ∷ ys → a ≡ b
one-request p a b xs ys e f = cc (e, f)

-- a way that stops with a verdict isn't led further
stopped : (size : ℕ) (p : Place) (verdict : Result (ℕ × ℕ) TranscriptFault) → Stops size p verdict → Passes p → ⊥
unfolding Stops Begins Misses
stopped size p (Ok told) s x = nothing-behind p x.a.request x.others s.0 x.cut
stopped size p (Err (F.Missing n)) s x = some_text x.a.reply x.more (sym x.left ∙ s.1)
stopped size p (Err (F.Text n)) s x = s.2 (x.a.reply, record { more = x.more; text = x.text; cut = x.left })
stopped size p (Err (F.Wrong n)) s x =
    let same = one-request p x.a.request s.0.at.request x.others s.0.at.others x.cut s.0.at.cut in
    s.2 x.a.reply x.mid (record { more = x.more; text = x.text; cut = x.left })
    (subst (λ (r : Request). IsPermitted p.history p.state (shape_of r) x.a.reply x.mid) same x.permitted)
stopped size p (Err (F.Rest at)) s x = nothing-behind p x.a.request x.others s.0 x.cut
stopped size p (Err (F.Foreign n)) s x =
    let same = one-request p x.a.request s.0.request x.others s.0.others x.cut s.0.cut in
    let judged = x.judged in
    let foreign = s.1 in
    absurd (cc (same, judged, foreign))
stopped size p (Err F.NoMemory) s x = s

both : (p : Place) (n m : ℕ) → StopsAt p n → StopsAt p m → n ≡ m
both p n m s t = s.place ∙ sym t.place

one-foreign : (p : Place) (n m : ℕ) (s : StopsAt p n) (t : StopsJudged p m) → is_foreign s.request ≡ true → ⊥
one-foreign p n m s t foreign =
    let same = one-request p s.request t.at.request s.others t.at.others s.cut t.at.cut in
    let judged = t.judged in
    absurd (cc (same, judged, foreign))

-- and there it has one
one-stop : (size : ℕ) (p : Place) (verdict other : Result (ℕ × ℕ) TranscriptFault) → Stops size p verdict
    → Stops size p other → verdict ≡ other
unfolding Stops Begins
one-stop size p (Ok a) (Ok b) s t =
    let x : a.0 ≡ b.0 = s.2 ∙ sym t.2 in let y : a.1 ≡ b.1 = s.3 ∙ sym t.3 in
    ap (λ (n : ℕ × ℕ). Ok n) (ap (λ (n : ℕ). (n, a.1)) x ∙ ap (λ (n : ℕ). (b.0, n)) y)
one-stop size p (Ok a) (Err (F.Missing n)) s t = absurd (nothing-behind p t.0.at.request t.0.at.others s.0 t.0.at.cut)
one-stop size p (Ok a) (Err (F.Text n)) s t = absurd (nothing-behind p t.0.at.request t.0.at.others s.0 t.0.at.cut)
one-stop size p (Ok a) (Err (F.Wrong n)) s t = absurd (nothing-behind p t.0.at.request t.0.at.others s.0 t.0.at.cut)
one-stop size p (Ok a) (Err (F.Rest at)) s t = absurd (t.1 s.1)
one-stop size p (Ok a) (Err (F.Foreign n)) s t = absurd (nothing-behind p t.0.request t.0.others s.0 t.0.cut)
one-stop size p (Ok a) (Err F.NoMemory) s t = absurd t
one-stop size p (Err (F.Missing n)) (Ok b) s t = absurd (nothing-behind p s.0.at.request s.0.at.others t.0 s.0.at.cut)
one-stop size p (Err (F.Missing n)) (Err (F.Missing m)) s t =
    ap (λ (k : ℕ). Err (F.Missing k)) (both p n m s.0.at t.0.at)
one-stop size p (Err (F.Missing n)) (Err (F.Text m)) s t = absurd (t.1 s.1)
one-stop size p (Err (F.Missing n)) (Err (F.Wrong m)) s t = absurd (begun-empty p.left s.1 t.1)
one-stop size p (Err (F.Missing n)) (Err (F.Rest at)) s t = absurd (t.1 s.1)
one-stop size p (Err (F.Missing n)) (Err (F.Foreign m)) s t = absurd (one-foreign p m n t.0 s.0 t.1)
one-stop size p (Err (F.Missing n)) (Err F.NoMemory) s t = absurd t
one-stop size p (Err (F.Text n)) (Ok b) s t = absurd (nothing-behind p s.0.at.request s.0.at.others t.0 s.0.at.cut)
one-stop size p (Err (F.Text n)) (Err (F.Missing m)) s t = absurd (s.1 t.1)
one-stop size p (Err (F.Text n)) (Err (F.Text m)) s t = ap (λ (k : ℕ). Err (F.Text k)) (both p n m s.0.at t.0.at)
one-stop size p (Err (F.Text n)) (Err (F.Wrong m)) s t = absurd (s.2 t.1)
one-stop size p (Err (F.Text n)) (Err (F.Rest at)) s t =
    absurd (nothing-behind p s.0.at.request s.0.at.others t.0 s.0.at.cut)
one-stop size p (Err (F.Text n)) (Err (F.Foreign m)) s t = absurd (one-foreign p m n t.0 s.0 t.1)
one-stop size p (Err (F.Text n)) (Err F.NoMemory) s t = absurd t
one-stop size p (Err (F.Wrong n)) (Ok b) s t = absurd (nothing-behind p s.0.at.request s.0.at.others t.0 s.0.at.cut)
one-stop size p (Err (F.Wrong n)) (Err (F.Missing m)) s t = absurd (begun-empty p.left t.1 s.1)
one-stop size p (Err (F.Wrong n)) (Err (F.Text m)) s t = absurd (t.2 s.1)
one-stop size p (Err (F.Wrong n)) (Err (F.Wrong m)) s t = ap (λ (k : ℕ). Err (F.Wrong k)) (both p n m s.0.at t.0.at)
one-stop size p (Err (F.Wrong n)) (Err (F.Rest at)) s t =
    absurd (nothing-behind p s.0.at.request s.0.at.others t.0 s.0.at.cut)
one-stop size p (Err (F.Wrong n)) (Err (F.Foreign m)) s t = absurd (one-foreign p m n t.0 s.0 t.1)
one-stop size p (Err (F.Wrong n)) (Err F.NoMemory) s t = absurd t
one-stop size p (Err (F.Rest at)) (Ok b) s t = absurd (s.1 t.1)
one-stop size p (Err (F.Rest at)) (Err (F.Missing m)) s t = absurd (s.1 t.1)
one-stop size p (Err (F.Rest at)) (Err (F.Text m)) s t =
    absurd (nothing-behind p t.0.at.request t.0.at.others s.0 t.0.at.cut)
one-stop size p (Err (F.Rest at)) (Err (F.Wrong m)) s t =
    absurd (nothing-behind p t.0.at.request t.0.at.others s.0 t.0.at.cut)
one-stop size p (Err (F.Rest at)) (Err (F.Rest m)) s t =
    let x = s.2 in let y = t.2 in let same : at ≡ m = omega (arith, x, y) in ap (λ (k : ℕ). Err (F.Rest k)) same
one-stop size p (Err (F.Rest at)) (Err (F.Foreign m)) s t = absurd (nothing-behind p t.0.request t.0.others s.0 t.0.cut)
one-stop size p (Err (F.Rest at)) (Err F.NoMemory) s t = absurd t
one-stop size p (Err (F.Foreign n)) (Ok b) s t = absurd (nothing-behind p s.0.request s.0.others t.0 s.0.cut)
one-stop size p (Err (F.Foreign n)) (Err (F.Missing m)) s t = absurd (one-foreign p n m s.0 t.0 s.1)
one-stop size p (Err (F.Foreign n)) (Err (F.Text m)) s t = absurd (one-foreign p n m s.0 t.0 s.1)
one-stop size p (Err (F.Foreign n)) (Err (F.Wrong m)) s t = absurd (one-foreign p n m s.0 t.0 s.1)
one-stop size p (Err (F.Foreign n)) (Err (F.Rest at)) s t = absurd (nothing-behind p s.0.request s.0.others t.0 s.0.cut)
one-stop size p (Err (F.Foreign n)) (Err (F.Foreign m)) s t = ap (λ (k : ℕ). Err (F.Foreign k)) (both p n m s.0 t.0)
one-stop size p (Err (F.Foreign n)) (Err F.NoMemory) s t = absurd t
one-stop size p (Err F.NoMemory) other s t = absurd s

-- the way to a verdict
record Ends (past : List Update) (script replies : List ℕ) (verdict : Result (ℕ × ℕ) TranscriptFault) : Type 0 where
  answered : List Answered
  p : Place
  followed : IsFollowed past script replies answered p.behind p.left p.history p.state
  count : p.count ≡ length answered
  values : p.values ≡ values_in answered
  stops : Stops (length replies) p verdict

module _ (past : List Update) (script replies : List ℕ) where
  ends-of : (verdict : Result (ℕ × ℕ) TranscriptFault) → HasVerdict past script replies verdict
      → Ends past script replies verdict
  unfolding Stops Begins Misses values_in
  ends-of (Ok told) v = record {
    answered = v.answered;
    p = record {
      behind = [];
      left = [];
      history = v.history;
      state = v.state;
      count = length v.answered;
      values =
          values_in v.answered;
    };
    followed = v.followed;
    count = refl;
    values = refl;
    stops = (refl, refl, v.values ∙ sym (length-filter (λ (a : Answered). is_value a.reply) v.answered), v.updates);
  }
  ends-of (Err (F.Missing n)) v =
      let r = v.reached in
      record {
        answered = r.answered;
        p = record {
          behind = v.request ∷ r.others;
          left = [];
          history = r.history;
          state = r.state;
          count =
              length r.answered;
          values = values_in r.answered;
        };
        followed = r.followed;
        count = refl;
        values = refl;
        stops = (
          record {
            at = record { request = v.request; others = r.others; cut = refl; place = r.place };
            judged =
                v.judged;
          },
          refl,
        );
      }
  ends-of (Err (F.Text n)) v =
      let r = v.at.reached in
      record {
        answered = r.answered;
        p = record {
          behind = v.at.request ∷ r.others;
          left = v.left;
          history = r.history;
          state = r.state;
          count =
              length r.answered;
          values = values_in r.answered;
        };
        followed = r.followed;
        count = refl;
        values = refl;
        stops = (
          record {
            at = record { request = v.at.request; others = r.others; cut = refl; place = r.place };
            judged =
                v.at.judged;
          },
          v.some,
          λ b. v.none b.0 b.1,
        );
      }
  ends-of (Err (F.Wrong n)) v =
      let r = v.at.reached in
      record {
        answered = r.answered;
        p = record {
          behind = v.at.request ∷ r.others;
          left = v.left;
          history = r.history;
          state = r.state;
          count =
              length r.answered;
          values = values_in r.answered;
        };
        followed = r.followed;
        count = refl;
        values = refl;
        stops = (
          record {
            at = record { request = v.at.request; others = r.others; cut = refl; place = r.place };
            judged =
                v.at.judged;
          },
          v.some,
          v.none,
        );
      }
  ends-of (Err (F.Rest at)) v = record {
    answered = v.answered;
    p = record {
      behind = [];
      left = v.left;
      history = v.history;
      state = v.state;
      count = length v.answered;
      values =
          values_in v.answered;
    };
    followed = v.followed;
    count = refl;
    values = refl;
    stops =
        let sizes = ap length v.followed.texts ∙ length-append (text_in v.answered) v.left in
        let place = v.place in
        (refl, v.some, omega (arith, sizes, place));
  }
  ends-of (Err (F.Foreign n)) v =
      let r = v.reached in
      record {
        answered = r.answered;
        p = record {
          behind = v.request ∷ r.others;
          left = v.left;
          history = r.history;
          state = r.state;
          count =
              length r.answered;
          values = values_in r.answered;
        };
        followed = r.followed;
        count = refl;
        values = refl;
        stops = (record { request = v.request; others = r.others; cut = refl; place = r.place }, v.foreign_is);
      }
  ends-of (Err F.NoMemory) v = absurd v

  leads-of : (requests : List Request) (verdict : Result (ℕ × ℕ) TranscriptFault) (e : Ends past script replies verdict)
      → e.followed.requests ≡ requests
      → Leads past first_state (meant_of requests) replies 0 0 e.answered e.p
  leads-of requests verdict e same =
      let count = e.count in
      let values = e.values in
      record {
        cut = ap meant_of (sym same) ∙ e.followed.cut;
        judged = e.followed.judged;
        texts = e.followed.texts;
        each = recursion_from_All (λ (a : Answered). HasText a.reply) e.answered e.followed.each;
        follows = e.followed.follows;
        number = omega (arith, count);
        worth = omega (arith, values);
      }

  pub verdict-once : (verdict other : Result (ℕ × ℕ) TranscriptFault) → length replies < 2 ^ 64
      → HasVerdict past script replies verdict
      → HasVerdict past script replies other → verdict ≡ other
  unfolding Meets
  verdict-once verdict other small v w =
      let e = ends-of verdict v in
      let f = ends-of other w in
      let same = (one_reading script f.followed.requests e.followed.requests f.followed.rest e.followed.rest
      f.followed.read e.followed.read).0 in
      elim (meet past first_state (meant_of e.followed.requests) replies 0 0 e.answered f.answered e.p f.p small
      (leads-of e.followed.requests verdict e refl) (leads-of e.followed.requests other f same)) [
        | inl at ↦ one-stop (length replies) f.p verdict other
            (subst (λ (p : Place). Stops (length replies) p verdict) at e.stops) f.stops
        | inr on ↦ elim on [
          | inl x ↦ absurd (stopped (length replies) e.p verdict e.stops x)
          | inr x ↦ absurd (stopped (length replies) f.p other f.stops x)
        ]
      ]

pub one-verdict : OneVerdict
one-verdict past script replies verdict other small v w = verdict-once past script replies verdict other small v w
