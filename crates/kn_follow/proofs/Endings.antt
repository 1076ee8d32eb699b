-- A file of replies has one ending.
use Rattle.std.proofs.Common.{◌≡◌, ◌≢◌, ◌⊎◌, ℕ, zero, suc, ◌+◌, ◌-◌, ◌<◌, ◌≤◌, true, false, Option, Some, None}
use Rattle.std.proofs.Common.{List, [], ◌∷◌, ◌++◌, length, take, drop, Ok, Err, refl, sym, ap, ◌∙◌, subst, append_assoc}
use Rattle.std.proofs.Common.{arith, inl, inr}
use Rattle.std.specs.List.{AllByRecursion, concat}
use Rattle.std.proofs.lemmas.Bool.{cases_Bool, cases_eq}
use Rattle.std.proofs.lemmas.List.{append-nil, length-append}
use Rattle.kn_history.specs.declared.update.Update.{Update}
use Rattle.kn_follow.specs.declared.fault.FollowFault.{FollowFault}
use Rattle.kn_follow.specs.declared.fault.FollowFault.TheVariants.{Line, Gap, Refused, NoMemory}
use Rattle.kn_follow.specs.declared.reply.TheConstants.{REPLY_BYTES}
use Rattle.kn_follow.specs.Forms.{ReceivedUpdate, LogReply, form_text, IsLogText}
use Rattle.kn_follow.specs.Following.{may_be_taken, update_behind, Takes, IsRefusedAt, IsReplyFault}
use Rattle.kn_follow.specs.Following.{IsApplied, Applies}
use Rattle.kn_follow.specs.Files.{IsWithinLimit, AppliesFront, IsFrontFault, IsLogFile, IsLogFault, StartsWith}
use Rattle.kn_follow.specs.Laws.{SomeEnding, OneEnding}
use Rattle.kn_follow.specs.Reading.{Read, reply_at}
use Rattle.kn_follow.proofs.Readers.{got, got_is}
use Rattle.kn_follow.proofs.Replies.{reply-reader, one-reading}
use Rattle.kn_follow.proofs.Followers.{taken-in_one_way}
use Rattle.kn_follow.proofs.Fronts.{front-read, front-departs, front_applied, front_fault, front_shorter, some-text}

-- Updates that are taken, or of which one is refused.

-- where all are taken, none is refused
none_refused : (old : List Update) (front : List ReceivedUpdate) (u : ReceivedUpdate) (rest : List ReceivedUpdate)
    (new mid : List Update) → Takes old (front ++ u ∷ rest) new → Takes old front mid → may_be_taken mid u ≡ false → ⊥
none_refused old [] u rest new mid takes front refused =
    let may : may_be_taken mid u ≡ true = ap (λ (l : List Update). may_be_taken l u) front ∙ takes.0 in
    absurd (cc (may, refused))
none_refused old (x ∷ front) u rest new mid takes taken refused =
    none_refused (old ++ update_behind old x ∷ []) front u rest new mid takes.1 taken.1 refused

-- one place alone is refused
one_refused : (old : List Update) (updates front other : List ReceivedUpdate) (u w : ReceivedUpdate)
    (rest more : List ReceivedUpdate) (new mid : List Update)
    → updates ≡ front ++ u ∷ rest → updates ≡ other ++ w ∷ more → Takes old front new → Takes old other mid
    → may_be_taken new u ≡ false → may_be_taken mid w ≡ false → new ≡ mid
one_refused old [] front other u w rest more new mid cut also takes taken not_this not_that =
    absurd (not_none front u rest cut)
  where
    not_none : (l : List ReceivedUpdate) (x : ReceivedUpdate) (m : List ReceivedUpdate) → [] ≡ l ++ x ∷ m → ⊥
    not_none [] x m e = cc
    not_none (y ∷ l) x m e = cc
one_refused old (x ∷ updates) [] [] u w rest more new mid cut also takes taken not_this not_that = takes ∙ sym taken
one_refused old (x ∷ updates) [] (z ∷ other) u w rest more new mid cut also takes taken not_this not_that =
    let same : u ≡ z = cc (cut, also) in
    let may : may_be_taken new u ≡ true = ap (λ (l : List Update). may_be_taken l u) takes ∙ ap (may_be_taken old) same
    ∙ taken.0 in
    absurd (cc (may, not_this))
one_refused old (x ∷ updates) (y ∷ front) [] u w rest more new mid cut also takes taken not_this not_that =
    let same : w ≡ y = cc (cut, also) in
    let may : may_be_taken mid w ≡ true = ap (λ (l : List Update). may_be_taken l w) taken ∙ ap (may_be_taken old) same
    ∙ takes.0 in
    absurd (cc (may, not_that))
one_refused old (x ∷ updates) (y ∷ front) (z ∷ other) u w rest more new mid cut also takes taken not_this not_that =
    let first : x ≡ y = cc (cut) in
    let second : x ≡ z = cc (also) in
    one_refused (old ++ update_behind old x ∷ []) updates front other u w rest more new mid (cc (cut)) (cc (also))
    (subst (λ (v : ReceivedUpdate). Takes (old ++ update_behind old v ∷ []) front new) (sym first) takes.1)
    (subst (λ (v : ReceivedUpdate). Takes (old ++ update_behind old v ∷ []) other mid) (sym second) taken.1) not_this
    not_that

one_place : (old : List Update) (updates : List ReceivedUpdate) (place other : ℕ) (new mid : List Update)
    → IsRefusedAt old updates place new → IsRefusedAt old updates other mid → place ≡ other
one_place old updates place other new mid is also =
    let same = one_refused old updates is.front also.front is.refused also.refused is.rest also.rest new mid is.cut
    also.cut is.takes also.takes is.not_this also.not_this in
    is.number ∙ ap (λ (l : List Update). length l + 1) same ∙ sym also.number

-- One reply stands at a front.

one_front : (text other rest more : List ℕ) (reply another : LogReply) → text ++ rest ≡ other ++ more
    → IsLogText text reply → IsLogText other another → (text ≡ other) × (reply ≡ another) × (rest ≡ more)
one_front text other rest more reply another cut is also =
    let one : reply_at (text ++ rest) ≡ got reply rest = ap (λ l. reply_at (l ++ rest)) is.same
    ∙ reply-reader.whole reply rest is.form in
    let two : reply_at (other ++ more) ≡ got another more = ap (λ l. reply_at (l ++ more)) also.same
    ∙ reply-reader.whole another more also.form in
    let same = got_is reply another rest more (sym one ∙ ap reply_at cut ∙ two) in
    (is.same ∙ ap form_text same.0 ∙ sym also.same, same.0, same.1)

-- One fault stands at a front.

no_gap : (held : List Update) (reply other : LogReply) (from have : ℕ) (new : List Update) → reply ≡ other
    → IsReplyFault held reply (Gap from have) new → other.from ≡ length held → ⊥
no_gap held reply other from have new same gap here =
    gap.2 (gap.0 ∙ ap (λ (r : LogReply). r.from) same ∙ here ∙ sym gap.1)

two_gaps : (held : List Update) (reply other : LogReply) (from have start size : ℕ) (new mid : List Update)
    → reply ≡ other → IsReplyFault held reply (Gap from have) new → IsReplyFault held other (Gap start size) mid
    → Gap from have ≡ Gap start size
two_gaps held reply other from have start size new mid same is also =
    let one : from ≡ start = is.0 ∙ ap (λ (r : LogReply). r.from) same ∙ sym also.0 in
    let two : have ≡ size = is.1 ∙ sym also.1 in
    rw (one, two) refl

two_refusals : (held : List Update) (reply other : LogReply) (place number : ℕ) (new mid : List Update) → reply ≡ other
    → IsReplyFault held reply (Refused place) new → IsReplyFault held other (Refused number) mid
    → Refused place ≡ Refused number
two_refusals held reply other place number new mid same is also =
    let that = subst (λ (r : LogReply). IsRefusedAt held r.updates number mid) (sym same) also.1 in
    ap Refused (one_place held reply.updates place number new mid is.1 that)

one_fault : (held : List Update) (left : List ℕ) (fault other : FollowFault) → IsFrontFault held left fault
    → IsFrontFault held left other → fault ≢ NoMemory → other ≢ NoMemory → fault ≡ other
one_fault held left NoMemory other is also some any = absurd (some refl)
one_fault held left (Line at) NoMemory is also some any = absurd (any refl)
one_fault held left (Gap from have) NoMemory is also some any = absurd (any refl)
one_fault held left (Refused place) NoMemory is also some any = absurd (any refl)
one_fault held left (Line at) (Line byte) is also some any =
    ap Line ((one-reading (take REPLY_BYTES left)).one_byte at byte is.departs also.departs)
one_fault held left (Line at) (Gap from have) is also some any =
    absurd (is.none also.text also.rest also.refused.reply also.cut also.short also.refused.form)
one_fault held left (Line at) (Refused place) is also some any =
    absurd (is.none also.text also.rest also.refused.reply also.cut also.short also.refused.form)
one_fault held left (Gap from have) (Line at) is also some any =
    absurd (also.none is.text is.rest is.refused.reply is.cut is.short is.refused.form)
one_fault held left (Refused place) (Line at) is also some any =
    absurd (also.none is.text is.rest is.refused.reply is.cut is.short is.refused.form)
one_fault held left (Gap from have) (Gap start size) is also some any =
    let same = one_front is.text also.text is.rest also.rest is.refused.reply also.refused.reply (sym is.cut
    ∙ also.cut) is.refused.form also.refused.form in
    two_gaps held is.refused.reply also.refused.reply from have start size is.new also.new same.1 is.refused.fault_is
    also.refused.fault_is
one_fault held left (Gap from have) (Refused place) is also some any =
    let same = one_front is.text also.text is.rest also.rest is.refused.reply also.refused.reply (sym is.cut
    ∙ also.cut) is.refused.form also.refused.form in
    absurd (no_gap held is.refused.reply also.refused.reply from have is.new same.1 is.refused.fault_is
    also.refused.fault_is.0)
one_fault held left (Refused place) (Gap from have) is also some any =
    let same = one_front is.text also.text is.rest also.rest is.refused.reply also.refused.reply (sym is.cut
    ∙ also.cut) is.refused.form also.refused.form in
    absurd (no_gap held also.refused.reply is.refused.reply from have also.new (sym same.1) also.refused.fault_is
    is.refused.fault_is.0)
one_fault held left (Refused place) (Refused number) is also some any =
    let same = one_front is.text also.text is.rest also.rest is.refused.reply also.refused.reply (sym is.cut
    ∙ also.cut) is.refused.form also.refused.form in
    two_refusals held is.refused.reply also.refused.reply place number is.new also.new same.1 is.refused.fault_is
    also.refused.fault_is

-- a reply that is applied has no fault
no_fault : (held : List Update) (left text rest : List ℕ) (count : ℕ) (new : List Update) (fault : FollowFault)
    → left ≡ text ++ rest → IsWithinLimit text → IsApplied held text count new → IsFrontFault held left fault
    → fault ≢ NoMemory → ⊥
no_fault held left text rest count new NoMemory cut short is why some = some refl
no_fault held left text rest count new (Line at) cut short is why some = why.none text rest is.reply cut short is.form
no_fault held left text rest count new (Gap from have) cut short is why some =
    let same = one_front why.text text why.rest rest why.refused.reply is.reply (sym why.cut
    ∙ cut) why.refused.form is.form in
    no_gap held why.refused.reply is.reply from have why.new same.1 why.refused.fault_is is.taken.here
no_fault held left text rest count new (Refused place) cut short is why some =
    let same = one_front why.text text why.rest rest why.refused.reply is.reply (sym why.cut
    ∙ cut) why.refused.form is.form in
    let at = why.refused.fault_is.1 in
    let taken = subst (λ (r : LogReply). Takes held r.updates new) (sym same.1) is.taken.takes in
    none_refused held at.front at.refused at.rest new why.new
    (subst (λ (l : List ReceivedUpdate). Takes held l new) at.cut taken) at.takes at.not_this

-- Endings.

-- nothing is left where a replica has these updates, or it doesn't go on with what is left, for this cause
abbrev IsEnd : List Update → List ℕ → Option FollowFault → Type 0
IsEnd held left None = left ≡ []
IsEnd held left (Some fault) = IsFrontFault held left fault × (fault ≢ NoMemory)

no_bytes : (left text rest : List ℕ) (reply : LogReply) → left ≡ [] → left ≡ text ++ rest → IsLogText text reply → ⊥
no_bytes left text rest reply none cut is =
    let some = some-text text reply is in
    let size = ap length (sym none ∙ cut) in
    let parts = length-append text rest in
    absurd (omega (arith, some, size, parts))

-- a reply that is applied is no end
no_end : (held : List Update) (left text rest : List ℕ) (count : ℕ) (new : List Update) (end : Option FollowFault)
    → left ≡ text ++ rest → IsWithinLimit text → IsApplied held text count new → IsEnd held left end → ⊥
no_end held left text rest count new None cut short is end = no_bytes left text rest is.reply end cut is.form
no_end held left text rest count new (Some fault) cut short is end =
    no_fault held left text rest count new fault cut short is end.0 end.1

fault_left : (held : List Update) (left : List ℕ) (fault : FollowFault) → left ≡ [] → IsFrontFault held left fault
    → fault ≢ NoMemory → ⊥
fault_left held left NoMemory none why some = some refl
fault_left held left (Line at) none why some = why.some none
fault_left held left (Gap from have) none why some =
    no_bytes left why.text why.rest why.refused.reply none why.cut why.refused.form
fault_left held left (Refused place) none why some =
    no_bytes left why.text why.rest why.refused.reply none why.cut why.refused.form

one_end : (held : List Update) (left : List ℕ) (end other : Option FollowFault) → IsEnd held left end
    → IsEnd held left other → end ≡ other
one_end held left None None is also = refl
one_end held left None (Some fault) is also = absurd (fault_left held left fault is also.0 also.1)
one_end held left (Some fault) None is also = absurd (fault_left held left fault also is.0 is.1)
one_end held left (Some fault) (Some other) is also = ap Some (one_fault held left fault other is.0 also.0 is.1 also.1)

same_end : (held : List Update) (texts others : List (List ℕ)) (left more : List ℕ) (new mid : List Update)
    (end other : Option FollowFault) → concat texts ++ left ≡ concat others ++ more
    → AllByRecursion IsWithinLimit texts → AllByRecursion IsWithinLimit others → Applies held texts new
    → Applies held others mid → IsEnd new left end → IsEnd mid more other → (new ≡ mid) × (end ≡ other)
same_end held [] [] left more new mid end other cut short few is also here there =
    let same : new ≡ mid = is ∙ sym also in
    let moved = subst (λ (l : List Update). IsEnd l more other) (sym same) there in
    (same, one_end new left end other here (subst (λ (l : List ℕ). IsEnd new l other) (sym cut) moved))
same_end held [] (text ∷ others) left more new mid end other cut short few is also here there =
    absurd (no_end held left text (concat others ++ more) also.0 also.1 end (cut
    ∙ append_assoc text (concat others) more) few.0 also.2 (subst (λ (l : List Update). IsEnd l left end) is here))
same_end held (text ∷ texts) [] left more new mid end other cut short few is also here there =
    absurd (no_end held more text (concat texts ++ left) is.0 is.1 other (sym cut
    ∙ append_assoc text (concat texts) left) short.0 is.2
    (subst (λ (l : List Update). IsEnd l more other) also there))
same_end held (text ∷ texts) (another ∷ others) left more new mid end other cut short few is also here there =
    let both = sym (append_assoc text (concat texts) left) ∙ cut ∙ append_assoc another (concat others) more in
    let front = one_front text another (concat texts ++ left) (concat others ++ more) is.2.reply also.2.reply both
    is.2.form also.2.form in
    let applied = subst (λ (l : List ℕ). IsApplied held l also.0 also.1) (sym front.0) also.2 in
    let same = (taken-in_one_way text held is.1 also.1 is.0 also.0 is.2 applied).0 in
    same_end is.1 texts others left more new mid end other front.2 short.1 few.1 is.3
    (subst (λ (l : List Update). Applies l others mid) (sym same) also.3) here there

-- Some ending.

takes_or_refuses : (old : List Update) (updates : List ReceivedUpdate) → ((new : List Update) × Takes old updates new)
    ⊎ ((place : ℕ) × (new : List Update) × IsRefusedAt old updates place new)
takes_or_refuses old [] = inl (old, refl)
takes_or_refuses old (u ∷ updates) =
    elim (cases_Bool (may_be_taken old u)) [
      | inl may ↦
          elim (takes_or_refuses (old ++ update_behind old u ∷ []) updates) [
            | inl t ↦ inl (t.0, (may, t.1))
            | inr r ↦
                let at = r.2 in
                inr (
                  r.0,
                  r.1,
                  record {
                    front = u ∷ at.front;
                    refused = at.refused;
                    rest = at.rest;
                    cut =
                        ap (λ (l : List ReceivedUpdate). u ∷ l) at.cut;
                    takes = (may, at.takes);
                    not_this = at.not_this;
                    number = at.number;
                  },
                )
          ]
      | inr refused ↦ inr (
        length old + 1,
        old,
        record {
          front = [];
          refused = u;
          rest = updates;
          cut = refl;
          takes = refl;
          not_this = refused;
          number =
              refl;
        },
      )
    ]

-- a replica applies what stands at the front of these bytes, or it has a fault
abbrev FrontEnds : List Update → List ℕ → Type 0
FrontEnds held left = ((rest : List ℕ) × (new : List Update) × AppliesFront held left rest new
    × (length rest < length left)) ⊎ ((fault : FollowFault) × IsFrontFault held left fault × (fault ≢ NoMemory))

is_line : (at : ℕ) → Line at ≢ NoMemory
is_line at e = cc

is_gap : (from have : ℕ) → Gap from have ≢ NoMemory
is_gap from have e = cc

is_refusal : (place : ℕ) → Refused place ≢ NoMemory
is_refusal place e = cc

reply_ends : (held : List Update) (left : List ℕ) (reply : LogReply) (rest : List ℕ) → StartsWith left reply rest
    → FrontEnds held left
reply_ends held left reply rest starts =
    elim (cases_eq reply.from (length held)) [
      | inl here ↦
          elim (takes_or_refuses held reply.updates) [
            | inl t ↦ inl (
              rest,
              t.0,
              front_applied held left reply rest (length reply.updates) t.0 starts
                  (record { here = here; takes = t.1; number = refl }),
              front_shorter left reply rest starts,
            )
            | inr r ↦ inr (
              Refused r.0,
              front_fault held left reply rest (Refused r.0) r.1 starts (here, r.2),
              is_refusal r.0,
            )
          ]
      | inr other ↦ inr (
        Gap reply.from (length held),
        front_fault held left reply rest (Gap reply.from (length held)) held starts (refl, refl, other, refl),
        is_gap reply.from (length held),
      )
    ]

front_ends : (held : List Update) (left : List ℕ) → 1 ≤ length left → FrontEnds held left
front_ends held left some = by (reply_at (take REPLY_BYTES left)) refl
  where
    by : (found : Read LogReply) → reply_at (take REPLY_BYTES left) ≡ found → FrontEnds held left
    by (Ok x) e = reply_ends held left x.0 (x.1 ++ drop REPLY_BYTES left) (front-read left x.0 x.1 e)
    by (Err rest) e = inr (
      Line (length (take REPLY_BYTES left) - length rest),
      front-departs left rest some e,
      is_line (length (take REPLY_BYTES left) - length rest),
    )

record HasEnd (held : List Update) (left : List ℕ) : Type 0 where
  texts : List (List ℕ)
  rest : List ℕ
  new : List Update
  ending : Option FollowFault
  cut : left ≡ concat texts ++ rest
  short : AllByRecursion IsWithinLimit texts
  applied : Applies held texts new
  is_end : IsEnd new rest ending

ends_later : (held : List Update) (left rest : List ℕ) (new : List Update) → AppliesFront held left rest new
    → HasEnd new rest → HasEnd held left
ends_later held left rest new front more = record {
  texts = front.text ∷ more.texts;
  rest = more.rest;
  new = more.new;
  ending = more.ending;
  cut = front.cut ∙ ap (λ l. front.text ++ l) more.cut ∙ sym (append_assoc front.text (concat more.texts) more.rest);
  short = (front.short, more.short);
  applied = (front.count, new, front.applied, more.applied);
  is_end = more.is_end;
}

has_end : (n : ℕ) (held : List Update) (left : List ℕ) → length left ≤ n → HasEnd held left
has_end n held [] few = record {
  texts = [];
  rest = [];
  new = held;
  ending = None;
  cut = refl;
  short = tt;
  applied =
      refl;
  is_end = refl;
}
has_end zero held (b ∷ left) few = absurd (omega (arith, few))
has_end (suc n) held (b ∷ left) few =
    elim (front_ends held (b ∷ left) (omega arith)) [
      | inl s ↦ let less = s.3 in ends_later held (b ∷ left) s.0 s.1 s.2 (has_end n s.1 s.0 (omega (arith, few, less)))
      | inr f ↦ record {
        texts = [];
        rest = b ∷ left;
        new = held;
        ending = Some f.0;
        cut = refl;
        short = tt;
        applied =
            refl;
        is_end = (f.1, f.2);
      }
    ]

pub some-ending : SomeEnding
some-ending text = by (has_end (length text) [] text (omega arith))
  where
    of : (e : HasEnd [] text) (ending : Option FollowFault) → IsEnd e.new e.rest ending
        → ((new : List Update) × IsLogFile text new)
        ⊎ ((fault : FollowFault) × (fault ≢ NoMemory) × IsLogFault text fault)
    of e None end = inl (
      e.new,
      record {
        replies = e.texts;
        whole = e.cut ∙ ap (λ l. concat e.texts ++ l) end
            ∙ append-nil (concat e.texts);
        short = e.short;
        applied = e.applied;
      },
    )
    of e (Some fault) end =
        inr (
          fault,
          end.1,
          record {
            held = e.new;
            left = e.rest;
            first =
                record { replies = e.texts; cut = e.cut; short = e.short; applied = e.applied };
            why = end.0;
          },
        )

    by : HasEnd [] text → ((new : List Update) × IsLogFile text new)
        ⊎ ((fault : FollowFault) × (fault ≢ NoMemory) × IsLogFault text fault)
    by e = of e e.ending e.is_end

-- One ending.

file_end : (text : List ℕ) (new : List Update) (f : IsLogFile text new) → text ≡ concat f.replies ++ []
file_end text new f = f.whole ∙ sym (append-nil (concat f.replies))

pub one-ending : (text : List ℕ) → OneEnding text
one-ending text = record {
  one_history = λ new other is also.
      (same_end [] is.replies also.replies [] [] new other None None (sym (file_end text new is)
      ∙ file_end text other also) is.short also.short is.applied also.applied refl refl).0;
  one_fault = λ fault other some any is also.
      some_is fault other
      (same_end [] is.first.replies also.first.replies is.left also.left is.held also.held (Some fault) (Some other)
      (sym is.first.cut ∙ also.first.cut) is.first.short also.first.short is.first.applied also.first.applied
      (is.why, some) (also.why, any)).1;
  not_both = λ new fault some is also.
      not_some fault
      (same_end [] is.replies also.first.replies [] also.left new also.held None (Some fault)
      (sym (file_end text new is) ∙ also.first.cut) is.short also.first.short is.applied also.first.applied
      refl (also.why, some)).1;
}
  where
    some_is : (fault other : FollowFault) → Some fault ≡ Some other → fault ≡ other
    some_is fault other e = cc

    not_some : (fault : FollowFault) → None ≡ Some fault → ⊥
    not_some fault e = cc
