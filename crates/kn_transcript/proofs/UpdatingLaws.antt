-- Replies to ADD and DROP.
use Rattle.std.proofs.Common.{◌≡◌, ◌⊎◌, ℕ, zero, suc, ◌+◌, ◌≤◌, Bool, true, false, List, [], ◌∷◌, ◌++◌, length, Option}
use Rattle.std.proofs.Common.{Some, None, refl, sym, ap, ◌∙◌, arith, inl, inr, subst, length-append}
use Rattle.std.specs.Prelude.{Result, IfOk, ◌==◌, not, option_and_then}
use Rattle.std.proofs.lemmas.Bool.Decides.{nat_tests}
use Rattle.kn_trees.specs.declared.assertion.Assertion.{Assertion}
use Rattle.kn_assert.specs.Reading.{reading_of, assertion_of, fault_of}
use Rattle.kn_fields.specs.declared.fault.ReadFault.{ReadFault}
use Rattle.kn_fields.specs.declared.fault.ReadFault.TheVariants as F
use Rattle.kn_history.specs.declared.update.Update.{Update}
use Rattle.kn_history.specs.declared.fault.StoreFault.{StoreFault}
use Rattle.kn_history.specs.History.{all_changes, next_id, refusal_of_text as fault_of_text}
use Rattle.kn_history.specs.History.{refusal_of_id as fault_of_id, addition_by, removal_by, RefusesChange}
use Rattle.kn_history.specs.History.{UpdateFollows}
use Rattle.kn_reply.specs.declared.refusal.Refusal.{Refusal}
use Rattle.kn_reply.specs.declared.refusal.Refusal.TheVariants as R
use Rattle.kn_reply.specs.Replies.{Number, Added, No, reply_text}
use Rattle.kn_daemon.specs.Shapes.{AddText, DropId, Updates}
use Rattle.kn_daemon.specs.Daemon.{DaemonConfig, State, own_refusal, refusal_at_text, refusal_at_reading}
use Rattle.kn_daemon.specs.Daemon.{refusal_of_store, refusal_at_verdict, refuse_if}
use Rattle.kn_daemon.proofs.Reading.{fault-refuses, reading-goes_on}
use Rattle.kn_transcript.specs.declared.fault.TheConstants.{AUTH_FAULTS}
use Rattle.kn_transcript.specs.Judging.{IsBehind, Judges}
use Rattle.kn_transcript.specs.Verdicts.{IsAuthFault, IsBehindVerdict}
use Rattle.kn_transcript.proofs.ConfigChoices.{config_at, own_permitted}
use Rattle.kn_transcript.proofs.DueReplies.{taken_by, refused_ok, told_by}
use Rattle.kn_transcript.proofs.CommittedLaws.{addition_follows, removal_follows, added_only, removed_only}
use Rattle.kn_transcript.proofs.VerdictLaws.{NoneStands, RefusesOr, update_placed, update_made}

-- a number that isn't 0 refuses
pub verdict_refuses : (n : ℕ) → 1 ≤ n → refusal_at_verdict R.Auth n ≡ Some (R.Auth n)
verdict_refuses n above =
    let other : (n == 0) ≡ false = grind (arith, nat_tests, above) in
    rw other refl

-- a refusal of the store other than `NoMemory`
pub store_told : (found : Option StoreFault) (fault : StoreFault) (told : Option Refusal) (due : Refusal)
    → RefusesChange found fault → told ≡ refusal_of_store fault → told ≡ Some due
    → option_and_then refusal_of_store found ≡ Some due
store_told found fault told due (inl none) is some =
    absurd (let gone = is ∙ ap refusal_of_store none in cc (gone, some))
store_told found fault told due (inr same) is some = ap (option_and_then refusal_of_store) same ∙ sym is ∙ some

-- a refusal told is one that is found
found_by : (found : Option StoreFault) (due : Refusal) → option_and_then refusal_of_store found ≡ Some due
    → found ≡ None → ⊥
found_by found due told none = let gone = ap (option_and_then refusal_of_store) none in cc (told, gone)

-- what refuses a text to an administrator
abbrev text_refusal : DaemonConfig → List ℕ → Option Refusal
text_refusal g text = refusal_at_reading R.Read (reading_of text) (λ a. refusal_at_verdict R.Auth (g.verdict text a))

-- a text's refusal by an authenticator
abbrev pub IsVerdict : Refusal → Type 0
IsVerdict told = (fault : ℕ) × IsAuthFault fault × (told ≡ R.Auth fault)

module _ (past : List Update) (old : State) (text left : List ℕ) (admin : old.is_admin ≡ true) where
  shown : (g : DaemonConfig) (o : Option Refusal) → text_refusal g text ≡ o
      → own_refusal g old (Updates (AddText text)) ≡ o
  shown g o is = ap (λ (b : Bool). refuse_if (not b) R.Admin (text_refusal g text)) admin ∙ is

  -- the text has a fault
  pub add_unread : {X E : Type 0} (result : Result X E) (view : X → Option (List ℕ)) (fault : ReadFault)
      (told : Option Refusal)
      → (fault ≡ F.NoMemory) ⊎ (fault_of text ≡ Some fault) → told ≡ refusal_at_text R.Read fault
      → IfOk result (λ found. (due : Refusal) × (told ≡ Some due) × IsBehind left (reply_text (No due)) (view found))
      → IfOk result (λ found. Judges past old (Updates (AddText text)) left past old (view found))
  add_unread result view fault told why is behind =
      told_by result view left told (λ found. Judges past old (Updates (AddText text)) left past old (view found))
      behind
      (λ due r some there. refused_ok past old (Updates (AddText text)) left view due
      (λ g. shown g (Some due) (refuses g due some why)) r there)
    where
      refuses : (g : DaemonConfig) (due : Refusal) → told ≡ Some due → (fault ≡ F.NoMemory)
          ⊎ (fault_of text ≡ Some fault)
          → text_refusal g text ≡ Some due
      refuses g due some (inl none) = absurd (let gone = is ∙ ap (refusal_at_text R.Read) none in cc (gone, some))
      refuses g due some (inr faulty) =
          fault-refuses text fault (λ a. refusal_at_verdict R.Auth (g.verdict text a)) faulty
          ∙ sym is ∙ some

  module _ (a : Assertion) (reads : assertion_of text ≡ Some a) where
    said : (g : DaemonConfig) → text_refusal g text ≡ refusal_at_verdict R.Auth (g.verdict text a)
    said g = reading-goes_on text a (λ x. refusal_at_verdict R.Auth (g.verdict text x)) reads

    -- the authenticator refuses the text
    pub add_unadmitted : (rest : List ℕ) → IsBehindVerdict None left (Some rest)
        → Judges past old (Updates (AddText text)) left past old (Some rest)
    add_unadmitted rest stands =
        let fault : ℕ = stands.0 in
        let own : own_refusal (config_at fault) old (Updates (AddText text)) ≡ Some (R.Auth fault) =
        shown (config_at fault) (Some (R.Auth fault)) (said (config_at fault) ∙ verdict_refuses fault stands.1.0) in
        taken_by past old (Updates (AddText text)) left past old (No (R.Auth fault)) rest tt
        (own_permitted past old (Updates (AddText text)) (R.Auth fault) fault stands.1.1 own) refl stands.2

    pub none_of : IsBehindVerdict None left None → NoneStands past old (Updates (AddText text)) left IsVerdict
    none_of missing told rest (fault, is_fault, is) e =
        missing fault rest is_fault (e ∙ ap (λ (r : Refusal). reply_text (No r) ++ rest) is)

    may : (none : NoneStands past old (Updates (AddText text)) left IsVerdict)
        → RefusesOr past old (AddText text) left IsVerdict none None
    may none g few = by (g.verdict text a) refl (few text a)
      where
        by : (n : ℕ) → g.verdict text a ≡ n → g.verdict text a ≤ AUTH_FAULTS
            → ((told : Refusal) × IsVerdict told × (own_refusal g old (Updates (AddText text)) ≡ Some told))
            ⊎ (own_refusal g old (Updates (AddText text)) ≡ None)
        by zero is within = inr (shown g None (said g ∙ ap (refusal_at_verdict R.Auth) is))
        by (suc n) is within =
            let some : 1 ≤ suc n = omega arith in
            let few : suc n ≤ AUTH_FAULTS = omega (arith, is, within) in
            inl (
              R.Auth (suc n),
              (suc n, (some, few), refl),
              shown g (Some (R.Auth (suc n)))
                  (said g ∙ ap (refusal_at_verdict R.Auth) is ∙ verdict_refuses (suc n) some),
            )

    module _ (none : NoneStands past old (Updates (AddText text)) left IsVerdict) {X E : Type 0} (result : Result X E)
        (view : X → Option (List ℕ)) where
      -- the text was added
      pub add_made : (ready : List ℕ) (history : List Update) (id version : ℕ) → ready ≡ text
          → history ≡ past ++ addition_by 0 ready (next_id past) ∷ []
          → UpdateFollows past (addition_by 0 ready (next_id past))
          → id ≡ next_id past → version ≡ length history
          → IfOk result (λ found. IsBehind left (reply_text (Added id version)) (view found))
          → IfOk result (λ found. Judges past old (Updates (AddText text)) left history old (view found))
      add_made ready history id version same made follows number at behind =
          let u = addition_by 0 text (next_id past) in
          let here : history ≡ past ++ u ∷ [] =
          made ∙ ap (λ (t : List ℕ). past ++ addition_by 0 t (next_id past) ∷ []) same in
          let accepted : UpdateFollows past u =
          subst (λ (t : List ℕ). UpdateFollows past (addition_by 0 t (next_id past))) same follows in
          let size : version ≡ length past + 1 = at ∙ ap (λ (h : List Update). length h) here
          ∙ length-append past (u ∷ []) in
          let unrefused = (addition_follows (all_changes past) 0 text (next_id past) accepted).0 in
          update_made past old (AddText text) left IsVerdict none result view history (Added id version) tt refl
          (shown (config_at 0) None (said (config_at 0))) (may none) (ap (option_and_then refusal_of_store) unrefused)
          (here ∙ ap (λ (k : ℕ). past ++ addition_by 0 text k ∷ []) (sym number))
          (next_id past, record { before = past; ends = here; accepted = accepted }, rw (number, at) refl)
          (λ reply is. (added_only past old text reply is).0 ∙ rw (number, size) refl) behind

      -- the history refuses it
      pub add_refused : (ready : List ℕ) (history : List Update) (fault : StoreFault) (told : Option Refusal)
          → ready ≡ text
          → history ≡ past → RefusesChange (fault_of_text (all_changes past) ready) fault
          → told ≡ refusal_of_store fault
          → IfOk result (λ found. (due : Refusal) × (told ≡ Some due)
          × IsBehind left (reply_text (No due)) (view found))
          → IfOk result (λ found. Judges past old (Updates (AddText text)) left history old (view found))
      add_refused ready history fault told same kept why is behind =
          told_by result view left told
          (λ found. Judges past old (Updates (AddText text)) left history old (view found)) behind
          (λ due r some there. at due r some there)
        where
          at : (due : Refusal) (r : Result X E) → told ≡ Some due
              → IfOk r (λ found. IsBehind left (reply_text (No due)) (view found))
              → IfOk r (λ found. Judges past old (Updates (AddText text)) left history old (view found))
          at due r some there =
              let why' : RefusesChange (fault_of_text (all_changes past) text) fault =
              subst (λ (t : List ℕ). RefusesChange (fault_of_text (all_changes past) t) fault) same why in
              let placed = store_told (fault_of_text (all_changes past) text) fault told due why' is some in
              subst (λ (h : List Update).
              IfOk r (λ found. Judges past old (Updates (AddText text)) left h old (view found))) (sym kept)
              (update_placed past old (AddText text) left IsVerdict none r view due
              (shown (config_at 0) None (said (config_at 0))) (may none) placed
              (λ reply done. found_by (fault_of_text (all_changes past) text) due placed
              (added_only past old text reply done).1)
              there)

module _ (past : List Update) (old : State) (id : ℕ) (left : List ℕ) (admin : old.is_admin ≡ true) {X E : Type 0}
    (result : Result X E) (view : X → Option (List ℕ)) where
  -- an authenticator says nothing of a removal
  abbrev Never : Refusal → Type 0
  Never told = ⊥

  never : NoneStands past old (Updates (DropId id)) left Never
  never told rest is = absurd is

  allowed : (g : DaemonConfig) → own_refusal g old (Updates (DropId id)) ≡ None
  allowed g = ap (λ (b : Bool). refuse_if (not b) R.Admin None) admin

  -- the id was removed
  pub drop_made : (history : List Update) (version : ℕ) → history ≡ past ++ removal_by 0 id ∷ []
      → UpdateFollows past (removal_by 0 id) → version ≡ length history
      → IfOk result (λ found. IsBehind left (reply_text (Number version)) (view found))
      → IfOk result (λ found. Judges past old (Updates (DropId id)) left history old (view found))
  drop_made history version made follows at behind =
      let size : version ≡ length past + 1 = at ∙ ap (λ (h : List Update). length h) made
      ∙ length-append past (removal_by 0 id ∷ []) in
      let unrefused = removal_follows (all_changes past) 0 id follows in
      update_made past old (DropId id) left Never never result view history (Number version) tt refl
      (allowed (config_at 0)) (λ g few. inr (allowed g)) (ap (option_and_then refusal_of_store) unrefused) made
      (record { before = past; ends = made; accepted = follows }, ap (λ (n : ℕ). Number n) at)
      (λ reply is. (removed_only past old id reply is).0 ∙ ap (λ (n : ℕ). Number n) (sym size)) behind

  -- it wasn't
  pub drop_refused : (history : List Update) (fault : StoreFault) (told : Option Refusal) → history ≡ past
      → RefusesChange (fault_of_id (all_changes past) id) fault → told ≡ refusal_of_store fault
      → IfOk result (λ found. (due : Refusal) × (told ≡ Some due) × IsBehind left (reply_text (No due)) (view found))
      → IfOk result (λ found. Judges past old (Updates (DropId id)) left history old (view found))
  drop_refused history fault told kept why is behind =
      told_by result view left told (λ found. Judges past old (Updates (DropId id)) left history old (view found))
      behind
      (λ due r some there. at due r some there)
    where
      at : (due : Refusal) (r : Result X E) → told ≡ Some due
          → IfOk r (λ found. IsBehind left (reply_text (No due)) (view found))
          → IfOk r (λ found. Judges past old (Updates (DropId id)) left history old (view found))
      at due r some there =
          let placed = store_told (fault_of_id (all_changes past) id) fault told due why is some in
          subst (λ (h : List Update). IfOk r (λ found. Judges past old (Updates (DropId id)) left h old (view found)))
          (sym kept)
          (update_placed past old (DropId id) left Never never r view due (allowed (config_at 0))
          (λ g few. inr (allowed g)) placed
          (λ reply done. found_by (fault_of_id (all_changes past) id) due placed
          (removed_only past old id reply done).1)
          there)
