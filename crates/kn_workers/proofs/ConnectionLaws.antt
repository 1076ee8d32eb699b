-- One connection that was served.
use Rattle.std.proofs.Common.{◌≡◌, ℕ, ◌<◌, ◌≤◌, true, false, List, [], ◌++◌, length, drop, sym, ap, ◌∙◌, arith, Option}
use Rattle.std.proofs.Common.{Some, None, subst}
use Rattle.std.specs.Prelude.{◌⊎◌, IfSome}
use Rattle.std.proofs.Math.Seq.{drop-append_seam}
use Rattle.kn_outside.specs.Seen.{LinkSeen}
use Rattle.kn_outside.specs.SpecifiedBytes.{more, before}
use Rattle.kn_outside.specs.Faults.{Rose, count_up}
use Rattle.kn_history.specs.declared.update.Update.{Update}
use Rattle.kn_history.specs.History.{is_valid_history}
use Rattle.kn_daemon.specs.declared.ended.Ended.{Ended}
use Rattle.kn_daemon.specs.declared.ended.Ended.TheVariants as E
use Rattle.kn_daemon.specs.Daemon.{DaemonConfig}
use Rattle.kn_daemon.specs.Laws.{ServedLonger}
use Rattle.kn_daemon.specs.Served.{IsServed}
use Rattle.kn_registry.specs.Passes.{PassSeen, Moves}
use Rattle.kn_serve.specs.Serving.{Serves, HasCause, is_over, IsOrderly, IsFaultless}
use Rattle.kn_workers.specs.Connections.{ServedSeen, is_fault, IsNew, IsConnection}

told-new : (told : Option (List ℕ)) (bytes : List ℕ) → IfSome told (λ all. all ≡ []) →
    IfSome (more bytes told) (λ all. all ≡ bytes)
told-new None bytes new = tt
told-new (Some x) bytes new = ap (λ (y : List ℕ). y ++ bytes) new

-- what is said of all the input, where a part of it was taken
input-left : (P : List ℕ → Type 0) (taken : List ℕ) (told : Option (List ℕ)) → IfSome (before taken told) P →
    IfSome told (λ left. P (taken ++ left))
input-left P taken None all = tt
input-left P taken (Some left) all = all

rose-above : (old new : ℕ) → old ≡ 0 → Rose old new → 0 < new
rose-above old new none rose = subst (λ (n : ℕ). Rose n new → 0 < new) (sym none) (λ (r : 1 ≤ new). r) rose

pub has-fault : (ended : Ended) (l l' : LinkSeen) → l.faults ≡ 0 → HasCause ended l l' → is_fault ended ≡ true →
    0 < l'.faults
has-fault E.Done l l' none cause fault = absurd (cc fault)
has-fault E.Memory l l' none cause fault = absurd (cc fault)
has-fault E.ReadFault l l' none cause fault = rose-above l.faults l'.faults none cause
has-fault E.WriteFault l l' none cause fault = rose-above l.faults l'.faults none cause
has-fault (E.Cut held) l l' none cause fault = absurd (cc fault)
has-fault (E.Block n) l l' none cause fault = absurd (cc fault)
has-fault E.Budget l l' none cause fault = absurd (cc fault)

no-fault : (ended : Ended) (l l' : LinkSeen) → l.faults ≡ 0 → HasCause ended l l' → is_fault ended ≡ false →
    l'.faults ≡ 0
no-fault E.Done l l' none cause calm = cause ∙ none
no-fault E.Memory l l' none cause calm = ap (λ (x : LinkSeen). x.faults) cause ∙ none
no-fault E.ReadFault l l' none cause calm = absurd (cc calm)
no-fault E.WriteFault l l' none cause calm = absurd (cc calm)
no-fault (E.Cut held) l l' none cause calm = cause ∙ none
no-fault (E.Block n) l l' none cause calm = cause ∙ none
no-fault E.Budget l l' none cause calm = cause ∙ none

faultless : (old new : ℕ) → old ≡ 0 → new ≡ 0 → new < count_up old
faultless old new none none' =
    subst (λ (n : ℕ). new < count_up n) (sym none) (subst (λ (n : ℕ). n < count_up 0) (sym none') (omega arith))

-- what the calls show of where the turn was had
pub stops_between : (v w : PassSeen) (more own : List Update) (stops : List ℕ) → Moves v w more own stops →
    drop (length v.stops) w.stops ≡ stops
stops_between v w more own stops moves = ap (drop (length v.stops)) moves.stops ∙ drop-append_seam v.stops stops

module _ {C : Type 0} (seen : C → LinkSeen) (g : DaemonConfig) (v w : PassSeen) (link link' : C) (ended : Ended)
    (caller from to : ℕ) (stops : List ℕ) where
  abbrev pub shown : ServedSeen C
  shown = record { link = link'; ended = ended; caller = caller; from = from; to = to; stops = stops }

  pub is_connection : IsNew (seen link) → Serves g v w (seen link) (seen link') ended →
      IfSome (seen link).left
      (λ input. IsOrderly input → IsFaultless (seen link) (seen link') → (ended ≡ E.Done) ⊎ (ended ≡ E.Memory)) →
      caller ≡ w.number → from ≡ length v.seen → to ≡ length w.seen → stops ≡ drop (length v.stops) w.stops →
      IsConnection seen g w.seen v.number shown
  is_connection new s complete caller_is from_is to_is stops_are =
      let gains = s.gains in
      let same : stops ≡ s.stops = stops_are ∙ stops_between v w gains.seen gains.own s.stops gains.moves in
      let all =
      subst
      (λ (t : Option (List ℕ)). IfSome t
      (λ input. IsOrderly input → IsFaultless (seen link) (seen link') →
      (ended ≡ E.Done) ⊎ (ended ≡ E.Memory))) gains.left complete in
      let rest =
      input-left
      (λ (input : List ℕ). IsOrderly input → IsFaultless (seen link) (seen link') →
      (ended ≡ E.Done) ⊎ (ended ≡ E.Memory)) s.taken (seen link').left all in
      record {
        number = caller_is ∙ gains.moves.number;
        taken = s.taken;
        written = s.written;
        took =
            subst (λ (t : Option (List ℕ)). IfSome t (λ bytes. bytes ≡ s.taken)) (sym gains.took)
            (told-new (seen link).taken s.taken new.taken);
        wrote =
            subst (λ (t : Option (List ℕ)). IfSome t (λ bytes. bytes ≡ s.written)) (sym gains.wrote)
            (told-new (seen link).written s.written new.written);
        served =
            subst (λ (n : ℕ). IsServed g s.taken s.written ended (is_over (seen link').left) w.seen n to v.number stops)
            (sym from_is)
            (subst
            (λ (n : ℕ). IsServed g s.taken s.written ended (is_over (seen link').left) w.seen (length v.seen) n
            v.number stops) (sym to_is)
            (subst
            (λ (l : List ℕ). IsServed g s.taken s.written ended (is_over (seen link').left) w.seen (length v.seen)
            (length w.seen) v.number l) (sym same) s.served));
        cause = has-fault ended (seen link) (seen link') new.faults s.cause;
        calm = no-fault ended (seen link) (seen link') new.faults s.cause;
        complete = of-told (seen link').taken (seen link').left s.taken (seen link').faults
            (subst (λ (t : Option (List ℕ)). IfSome t (λ bytes. bytes ≡ s.taken)) (sym gains.took)
            (told-new (seen link).taken s.taken new.taken))
            (faultless-rest (seen link').left s.taken (seen link').faults rest
            (λ none. faultless (seen link).faults (seen link').faults new.faults none));
      }
    where
      faultless-rest : (told : Option (List ℕ)) (taken : List ℕ) (faults : ℕ) →
          IfSome told
          (λ left. IsOrderly (taken ++ left) → IsFaultless (seen link) (seen link') →
          (ended ≡ E.Done) ⊎ (ended ≡ E.Memory)) → (faults ≡ 0 → IsFaultless (seen link) (seen link')) →
          IfSome told (λ left. IsOrderly (taken ++ left) → faults ≡ 0 → (ended ≡ E.Done) ⊎ (ended ≡ E.Memory))
      faultless-rest None taken faults all none = tt
      faultless-rest (Some left) taken faults all none = λ orderly zero. all orderly (none zero)

      of-told : (told left : Option (List ℕ)) (taken : List ℕ) (faults : ℕ) → IfSome told (λ bytes. bytes ≡ taken) →
          IfSome left (λ rest. IsOrderly (taken ++ rest) → faults ≡ 0 → (ended ≡ E.Done) ⊎ (ended ≡ E.Memory)) →
          IfSome told
          (λ bytes. IfSome left
          (λ rest. IsOrderly (bytes ++ rest) → faults ≡ 0 → (ended ≡ E.Done) ⊎ (ended ≡ E.Memory)))
      of-told None left taken faults same all = tt
      of-told (Some bytes) left taken faults same all =
          subst
          (λ (b : List ℕ). IfSome left
          (λ rest. IsOrderly (b ++ rest) → faults ≡ 0 → (ended ≡ E.Done) ⊎ (ended ≡ E.Memory))) (sym same) all

-- how the call moved the pass, with where the turn was had as a served connection shows it
pub moves_shown : (g : DaemonConfig) (v w : PassSeen) (l l' : LinkSeen) (ended : Ended) (stops : List ℕ) →
    Serves g v w l l' ended → stops ≡ drop (length v.stops) w.stops →
    (more : List Update) × (own : List Update) × Moves v w more own stops
moves_shown g v w l l' ended stops s stops_are =
    let gains = s.gains in
    let same : stops ≡ s.stops = stops_are ∙ stops_between v w gains.seen gains.own s.stops gains.moves in
    (gains.seen, gains.own, subst (λ (x : List ℕ). Moves v w gains.seen gains.own x) (sym same) gains.moves)

-- in a longer valid history it stays served
pub connection_longer : {C : Type 0} (longer : ServedLonger) (seen : C → LinkSeen) (g : DaemonConfig)
    (history more : List Update) (caller : ℕ) (s : ServedSeen C) →
    is_valid_history (history ++ more) ≡ true → IsConnection seen g history caller s →
    IsConnection seen g (history ++ more) caller s
connection_longer longer seen g history more caller s valid c = record {
  number = c.number;
  taken = c.taken;
  written = c.written;
  took = c.took;
  wrote = c.wrote;
  served =
      longer g c.taken c.written s.ended (is_over (seen s.link).left) history more s.from s.to caller s.stops valid
      c.served;
  cause = c.cause;
  calm = c.calm;
  complete = c.complete;
}
