-- That nothing else is written for the bytes of a worked connection.
use Rattle.std.proofs.Common.{◌≡◌, ℕ, zero, suc, ◌<◌, ◌≤◌, ⊎_elim, inl, inr, ◌||◌, Bool, true, false, List, [], ◌∷◌}
use Rattle.std.proofs.Common.{◌++◌, take, get_or, codes, refl, sym, ap, ◌∙◌, subst, arith, Option, Some, None}
use Rattle.std.specs.Prelude.{flat_map, slice_index_or}
use Rattle.std.specs.Fmt.{digits}
use Rattle.std.specs.List.{list_any}
use Rattle.std.specs.Str.{bytes_eq}
use Rattle.kn_history.specs.declared.update.Update.{Update}
use Rattle.kn_proof.specs.declared.named.NamedRow.{NamedRow}
use Rattle.kn_proof.specs.declared.named.Id.TheVariants.{Shared}
use Rattle.kn_meaning.specs.Equations.{Equations, Statement, IsPolicyLevel}
use Rattle.kn_meaning.specs.Examples as M
use Rattle.kn_meaning.specs.Proofs.{IsRow, IsProof}
use Rattle.kn_meaning.proofs.Walks.{formula_level_who}
use Rattle.kn_wire.specs.Requests.{Request, Open, Auth, Query, Bye, Takes, first_of}
use Rattle.kn_reply.specs.Replies.{Reply, Done, Started, Number, PrivateAdded, Added, Value, Batched, PinnedAt, Log}
use Rattle.kn_reply.specs.Replies.{News, Critical, No, NoMemory, reply_text}
use Rattle.kn_daemon.specs.declared.ended.Ended.TheVariants as E
use Rattle.kn_daemon.specs.Shapes.{shape_of}
use Rattle.kn_daemon.specs.Daemon as D
use Rattle.kn_daemon.specs.Daemon.{DaemonConfig, State, first_state, Permits}
use Rattle.kn_daemon.specs.Linearized.{Exchange, Along, InOrder, IsBehind, update_by, requests_in, texts_in}
use Rattle.kn_daemon.specs.Served.{HasEnd}
use Rattle.kn_worked.specs.Connections.{policy_history, alice_asks, alice_may, is_no_memory, AliceIsAnsweredSo}
use Rattle.kn_worked.proofs.Levels.{two_values, policy_row, alice_equations, alice_session, alice_question}
use Rattle.kn_worked.proofs.Asking.{after_open, after_auth}

some_none : {X : Type 0} {x : X} → None ≡ Some x → ⊥
some_none e = cc e

true_false : true ≡ false → ⊥
true_false e = cc e

-- the level is the one that was proved
one_level : (level : ℕ) → IsPolicyLevel alice_equations level → level ≡ 1
one_level level is =
    let one : is.levels (codes "POLICY") ≡ 1 =
    omega (
      arith,
      is.least.solves (codes "POLICY"),
      is.least.solves (codes "alice"),
      formula_level_who 1 is.levels
          (codes "alice"),
    ) in
    sym is.here ∙ one

-- a row that may follow is the policy's
row_is : (before : List NamedRow) (row : NamedRow) → IsRow alice_equations before row → row ≡ policy_row
row_is before row is =
    by is.supported.0 is.supported.1 is.supported.2 is.supported.3 is.supported.4.named is.supported.4.own
  where
    same_row : (r : NamedRow) → r.value ≡ 1 → r.id ≡ Shared 1 → r.principal ≡ codes "POLICY" → r ≡ policy_row
    same_row r a b c =
        ap (λ (v : ℕ). record { value = v; id = r.id; principal = r.principal }) a
        ∙ ap (λ i. record { value = 1; id = i; principal = r.principal }) b
        ∙ ap (λ (p : List ℕ). record { value = 1; id = Shared 1; principal = p }) c

    by : (k : ℕ) (s : Statement) → k < 1 → get_or M.direct_policy k s ≡ s → s.id ≡ row.id → s.authorizer ≡ row.principal
        → row ≡ policy_row
    by zero s low at named own =
        let above = is.above_lowest in
        let within = is.within in
        let first : M.licence 1 (codes "POLICY") (codes "alice") ≡ s = at in
        same_row row (omega arith) (sym named ∙ ap (λ (t : Statement). t.id) (sym first))
        (sym own ∙ ap (λ (t : Statement). t.authorizer) (sym first))
    by (suc k) s low at named own = absurd (omega (arith, low))

-- the rows are those that were told
only_row : (rows : List NamedRow) → IsProof alice_equations rows 1 → rows ≡ policy_row ∷ []
only_row [] p = absurd (omega (arith, p.claim))
only_row (row ∷ []) p = ap (λ (r : NamedRow). r ∷ []) (row_is [] row p.in_order.0)
only_row (row ∷ second ∷ rest) p =
    let a : row ≡ policy_row = row_is [] row p.in_order.0 in
    let b : second ≡ policy_row = row_is ([] ++ row ∷ []) second p.in_order.1.0 in
    let fresh : list_any (λ r. bytes_eq r.principal policy_row.principal) (policy_row ∷ []) ≡ false =
    ap (λ (x : NamedRow × NamedRow). list_any (λ r. bytes_eq r.principal x.1.principal) (x.0 ∷ []))
    (λ i. (sym a i, sym b i)) ∙ p.in_order.1.0.fresh in
    absurd (true_false fresh)

module _ (g : DaemonConfig) (caller : ℕ) where
  opened : (reply : Reply) (mid : State) → is_no_memory reply ≡ false
      → Permits g caller policy_history first_state (shape_of Open) reply mid
      → (reply ≡ Started 1 1) × (mid ≡ after_open)
  opened Done mid some p = absurd (cc p.answered)
  opened (Started s version) mid some p = (p.answered, p.next)
  opened (Number version) mid some p = absurd (cc p.answered)
  opened (PrivateAdded k) mid some p = absurd (cc p.answered)
  opened (Added k version) mid some p = absurd (cc p.answered)
  opened (Value index name version rows) mid some p = absurd (cc p.answered)
  opened (Batched first added version) mid some p = absurd (cc p.answered)
  opened (PinnedAt version newest) mid some p = absurd (cc p.answered)
  opened (Log n history) mid some p = absurd (cc p.answered)
  opened (News index name version) mid some p = absurd (cc p.answered)
  opened (Critical index ids) mid some p = absurd (cc p.answered)
  opened (No refusal) mid some p = absurd (some_none p.0)
  opened NoMemory mid some p = absurd (cc some)

  authed : (reply : Reply) (mid : State) → is_no_memory reply ≡ false
      → Permits g caller policy_history after_open (shape_of (Auth 1 (codes "alice"))) reply mid
      → (reply ≡ Done) × (mid ≡ after_auth)
  authed Done mid some p = (refl, p.next)
  authed (Started s version) mid some p = absurd (cc p.answered)
  authed (Number version) mid some p = absurd (cc p.answered)
  authed (PrivateAdded k) mid some p = absurd (cc p.answered)
  authed (Added k version) mid some p = absurd (cc p.answered)
  authed (Value index name version rows) mid some p = absurd (cc p.answered)
  authed (Batched first added version) mid some p = absurd (cc p.answered)
  authed (PinnedAt version newest) mid some p = absurd (cc p.answered)
  authed (Log n history) mid some p = absurd (cc p.answered)
  authed (News index name version) mid some p = absurd (cc p.answered)
  authed (Critical index ids) mid some p = absurd (cc p.answered)
  authed (No refusal) mid some p = absurd (some_none p.0)
  authed NoMemory mid some p = absurd (cc some)

  abbrev told : Reply
  told = Value 1 (codes "yes") 1 (policy_row ∷ [])

  queried : (reply : Reply) (mid : State) → is_no_memory reply ≡ false
      → Permits g caller policy_history after_auth (shape_of (Query 1 (codes "no,yes"))) reply mid → reply ≡ told
  queried Done mid some p = absurd (cc p.answered.exact)
  queried (Started s version) mid some p = absurd (cc p.answered.exact)
  queried (Number version) mid some p = absurd (cc p.answered.exact)
  queried (PrivateAdded k) mid some p = absurd (cc p.answered.exact)
  queried (Added k version) mid some p = absurd (cc p.answered.exact)
  queried (Value index name version rows) mid some p = on p.answered
    where
      at_level : (level : ℕ) (told_rows : List NamedRow) → IsPolicyLevel alice_equations level
          → IsProof alice_equations told_rows level
          → Value level (slice_index_or two_values level []) 1 told_rows ≡ told
      at_level level told_rows least proved =
          let one : level ≡ 1 = one_level level least in
          let only : told_rows ≡ policy_row ∷ [] =
          only_row told_rows (subst (λ (n : ℕ). IsProof alice_equations told_rows n) one proved) in
          ap (λ (n : ℕ). Value n (slice_index_or two_values n []) 1 told_rows) one
          ∙ ap (λ (l : List NamedRow). Value 1 (codes "yes") 1 l) only

      on : D.IsAnswer alice_session two_values (Value index name version rows)
          → Value index name version rows ≡ told
      on is =
          is.exact ∙ at_level is.level is.rows (subst (λ (e : Equations). IsPolicyLevel e is.level) alice_question
          is.least) (subst (λ (e : Equations). IsProof e is.rows is.level) alice_question is.proved)
  queried (Batched first added version) mid some p = absurd (cc p.answered.exact)
  queried (PinnedAt version newest) mid some p = absurd (cc p.answered.exact)
  queried (Log n history) mid some p = absurd (cc p.answered.exact)
  queried (News index name version) mid some p = absurd (cc p.answered.exact)
  queried (Critical index ids) mid some p = absurd (cc p.answered.exact)
  queried (No refusal) mid some p = absurd (some_none p.0)
  queried NoMemory mid some p = absurd (cc some)

-- the requests are those of the bytes
abbrev asked : List Request
asked = Open ∷ Auth 1 (codes "alice") ∷ Query 1 (codes "no,yes") ∷ []

first_is : (text left : List ℕ) (request r : Request) (rs : List Request) (rest : List ℕ)
    → first_of text ≡ Some (request, left) → Takes text (r ∷ rs) rest → (r ≡ request) × Takes left rs rest
first_is text left request r rs rest is takes =
    let both : Some (request, left) ≡ Some (r, takes.0) = sym is ∙ takes.1 in
    let pair : (request, left) ≡ (r, takes.0) = same_some both in (
      sym (ap (λ (x : Request × List ℕ). x.0) pair),
      subst (λ (l : List ℕ). Takes l rs rest) (sym (ap (λ (x : Request × List ℕ). x.1) pair)) takes.2,
    )
  where
    same_some : {X : Type 0} {x y : X} → Some x ≡ Some y → x ≡ y
    same_some e = cc e

none_left : (r : Request) (rs : List Request) (rest : List ℕ) → Takes [] (r ∷ rs) rest → ⊥
none_left r rs rest takes = some_none takes.1

requests_are : (rs : List Request) (rest : List ℕ) → Takes alice_asks rs rest → HasEnd E.Done true rs rest → rs ≡ asked
requests_are [] rest takes (inl bye) = absurd (cc bye)
requests_are [] rest takes (inr dry) = absurd (cc (takes ∙ dry.1))
requests_are (a ∷ []) rest takes end =
    let one = first_is alice_asks (codes "AUTH 1 alice\nQUERY 1 no,yes\n") Open a [] rest refl takes in
    ⊎_elim (λ (bye : Some a ≡ Some Bye). absurd (not_bye Open (one.0) bye)) (λ dry. absurd (cc (one.1 ∙ dry.1))) end
  where
    not_bye : (r : Request) → a ≡ Open → Some a ≡ Some Bye → ⊥
    not_bye r is bye = let both : Some Open ≡ Some Bye = ap (λ (x : Request). Some x) (sym is) ∙ bye in absurd (cc)
requests_are (a ∷ b ∷ []) rest takes end =
    let one = first_is alice_asks (codes "AUTH 1 alice\nQUERY 1 no,yes\n") Open a (b ∷ []) rest refl takes in
    let two =
    first_is (codes "AUTH 1 alice\nQUERY 1 no,yes\n") (codes "QUERY 1 no,yes\n")
    (Auth 1 (codes "alice")) b [] rest refl one.1 in
    ⊎_elim (λ (bye : Some b ≡ Some Bye). absurd (not_bye two.0 bye)) (λ dry. absurd (cc (two.1 ∙ dry.1))) end
  where
    not_bye : b ≡ Auth 1 (codes "alice") → Some b ≡ Some Bye → ⊥
    not_bye is bye =
        let both : Some (Auth 1 (codes "alice")) ≡ Some Bye = ap (λ (x : Request). Some x) (sym is) ∙ bye in absurd (cc)
requests_are (a ∷ b ∷ c ∷ rs) rest takes end =
    let one = first_is alice_asks (codes "AUTH 1 alice\nQUERY 1 no,yes\n") Open a (b ∷ c ∷ rs) rest refl takes in
    let two =
    first_is (codes "AUTH 1 alice\nQUERY 1 no,yes\n") (codes "QUERY 1 no,yes\n") (Auth 1 (codes "alice")) b
    (c ∷ rs) rest refl one.1 in
    let three = first_is (codes "QUERY 1 no,yes\n") [] (Query 1 (codes "no,yes")) c rs rest refl two.1 in
    by rs three.1 one.0 two.0 three.0
  where
    by : (more : List Request) → Takes [] more rest → a ≡ Open → b ≡ Auth 1 (codes "alice")
        → c ≡ Query 1 (codes "no,yes") → a ∷ b ∷ c ∷ more ≡ asked
    by [] none x y z =
        ap (λ (r : Request). r ∷ b ∷ c ∷ []) x ∙ ap (λ (r : Request). Open ∷ r ∷ c ∷ []) y
        ∙ ap (λ (r : Request). Open ∷ Auth 1 (codes "alice") ∷ r ∷ []) z
    by (r ∷ more) none x y z = absurd (none_left r more rest none)

-- a request that makes no update stands no earlier than the one before it
no_earlier : (caller low place : ℕ) (request known : Request) (reply : Reply) → request ≡ known
    → update_by caller (shape_of known) reply ≡ None → IsBehind (update_by caller (shape_of request) reply) low place
    → low ≤ place
no_earlier caller low place request known reply is none behind =
    subst (λ (o : Option Update). IsBehind o low place) none
    (subst (λ (r : Request). IsBehind (update_by caller (shape_of r) reply) low place) is behind)

-- a reply at the only place
at_place : (g : DaemonConfig) (caller place : ℕ) (old mid : State) (request known : Request) (reply : Reply) → place ≡ 1
    → request ≡ known →
    Permits g caller (take place policy_history) old (shape_of request) reply mid
    → Permits g caller policy_history old (shape_of known) reply mid
at_place g caller place old mid request known reply one is p =
    subst (λ (r : Request). Permits g caller policy_history old (shape_of r) reply mid) is
    (subst (λ (n : ℕ). Permits g caller (take n policy_history) old (shape_of request) reply mid) one p)

first_false : (a b : Bool) → (a || b) ≡ false → a ≡ false
first_false true b e = cc e
first_false false b e = refl

second_false : (a b : Bool) → (a || b) ≡ false → b ≡ false
second_false true b e = absurd (cc e)
second_false false b e = e

three_replies : (g : DaemonConfig) (caller start end : ℕ) (written : List ℕ) (es : List Exchange) (last : State)
    → 1 ≤ start
    → end ≤ 1 → requests_in es ≡ asked → Along g caller policy_history first_state es last →
    InOrder caller start es end → written ≡ flat_map (λ text. text) (texts_in es)
    → list_any (λ e. is_no_memory e.reply) es ≡ false → written ≡ alice_may
unfolding digits
three_replies g caller start end written [] last low high are along order bytes some = absurd (cc are)
three_replies g caller start end written (a ∷ []) last low high are along order bytes some = absurd (cc are)
three_replies g caller start end written (a ∷ b ∷ []) last low high are along order bytes some = absurd (cc are)
three_replies g caller start end written (a ∷ b ∷ c ∷ d ∷ es) last low high are along order bytes some = absurd (cc are)
three_replies g caller start end written (a ∷ b ∷ c ∷ []) last low high are along order bytes some =
    let x : a.request ≡ Open = cc are in
    let y : b.request ≡ Auth 1 (codes "alice") = cc are in
    let z : c.request ≡ Query 1 (codes "no,yes") = cc are in
    let oa : start ≤ a.place = no_earlier caller start a.place a.request Open a.reply x refl order.0 in
    let ob : a.place ≤ b.place =
    no_earlier caller a.place b.place b.request (Auth 1 (codes "alice")) b.reply y refl order.1.0 in
    let oc : b.place ≤ c.place =
    no_earlier caller b.place c.place c.request (Query 1 (codes "no,yes")) c.reply z refl order.1.1.0 in
    let od : c.place ≤ end = order.1.1.1 in
    let na = first_false (is_no_memory a.reply) _ some in
    let rest = second_false (is_no_memory a.reply) _ some in
    let nb = first_false (is_no_memory b.reply) _ rest in
    let nc = first_false (is_no_memory c.reply) _ (second_false (is_no_memory b.reply) _ rest) in
    let first =
    opened g caller a.reply along.0 na (at_place g caller a.place first_state along.0 a.request Open a.reply
    (omega (arith, low, high, oa, ob, oc, od)) x along.1) in
    let second = authed g caller b.reply along.2.0 nb
    (subst (λ (s : State). Permits g caller policy_history s
    (shape_of (Auth 1 (codes "alice"))) b.reply along.2.0) first.1
    (at_place g caller b.place along.0 along.2.0 b.request (Auth 1 (codes "alice")) b.reply
    (omega (arith, low, high, oa, ob, oc, od)) y along.2.1)) in
    let third = queried g caller c.reply along.2.2.0 nc
    (subst (λ (s : State). Permits g caller policy_history s
    (shape_of (Query 1 (codes "no,yes"))) c.reply along.2.2.0) second.1
    (at_place g caller c.place along.2.0 along.2.2.0 c.request (Query 1 (codes "no,yes")) c.reply
    (omega (arith, low, high, oa, ob, oc, od)) z along.2.2.1)) in
    bytes ∙ ap (λ (r : Reply). reply_text r ++ (reply_text b.reply ++ (reply_text c.reply ++ []))) first.0
    ∙ ap (λ (r : Reply). reply_text (Started 1 1) ++ (reply_text r ++ (reply_text c.reply ++ []))) second.0
    ∙ ap (λ (r : Reply). reply_text (Started 1 1) ++ (reply_text Done ++ (reply_text r ++ []))) third

pub alice_is_answered_so : AliceIsAnsweredSo
alice_is_answered_so g written start end caller stops s low some =
    three_replies g caller start end written s.exchanges s.last low s.places.within
    (requests_are (requests_in s.exchanges) s.rest s.requests s.why) s.replies s.places.in_order s.bytes some
