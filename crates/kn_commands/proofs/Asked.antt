-- Why `ask` ends.
use Rattle.std.proofs.Common.{◌≡◌, ℕ, List, [], ◌∷◌, length, take, drop, refl, sym, ap, ◌∙◌, subst, ◌⊎◌}
use Rattle.std.specs.Prelude.{IfSome, option_to_list}
use Rattle.std.proofs.lemmas.List.{take_at, drop_at}
use Rattle.kn_outside.specs.Seen.{FilesSeen, LinkSeen}
use Rattle.kn_outside.specs.Asked.{HasAsked}
use Rattle.kn_auth.specs.declared.key_file.KeyFile.{KeyFile}
use Rattle.kn_files.specs.Pieces.{pieces_of}
use Rattle.kn_history.specs.declared.update.Update.{Update}
use Rattle.kn_history.specs.History.{loaded_history, own_updates}
use Rattle.kn_daemon.specs.Daemon.{DaemonConfig}
use Rattle.kn_daemon.specs.Alone.{IsServedAlone}
use Rattle.kn_daemon.specs.Served.{IsServed}
use Rattle.kn_daemon.specs.Laws.{ServedAlone}
use Rattle.kn_daemon.specs.declared.ended.Ended.{Ended}
use Rattle.kn_daemon.specs.declared.ended.Ended.TheVariants as E
use Rattle.kn_registry.specs.Passes.{PassSeen, IsSoundPass}
use Rattle.kn_serve.specs.Serving.{Serves, is_over, IsOrderly, IsFaultless}
use Rattle.kn_inputs.specs.declared.input_fault.InputFault.TheVariants.{Memory}
use Rattle.kn_words.specs.Names.{AskNames}
use Rattle.kn_inputs.specs.Held.{IsPolicy, AreKeys}
use Rattle.kn_load.specs.declared.fault.LoadFault.TheVariants as L
use Rattle.kn_history.specs.declared.fault.StoreFault.TheVariants as F
use Rattle.kn_load.proofs.Alone.{alone}
use Rattle.kn_inputs.specs.Inputs.{config_of_keys}
use Rattle.kn_commands.specs.Asking.{IsLinkServed, IsLinkAnswered}
use Rattle.kn_inputs.proofs.Stopped.{keys_there}
use Rattle.kn_inputs.proofs.Files.{asked_both}

pub answered_there : (f mid f' : FilesSeen) (o o' : LinkSeen) (names : AskNames) (bytes : List ℕ) (keys : KeyFile)
    (ended : Ended) → IsPolicy f names.policy bytes →
    HasAsked (names.policy ∷ []) f mid → HasAsked (option_to_list names.keys) mid f' → AreKeys mid names.keys keys →
    IsLinkServed (config_of_keys keys) (loaded_history (pieces_of bytes)) o o' ended
    → IsLinkAnswered f f' o o' names ended
answered_there f mid f' o o' names bytes keys ended policy before asked known served = record {
  asked = asked_both (names.policy ∷ []) (option_to_list names.keys) f mid f' before asked;
  bytes = bytes;
  policy = policy;
  keys = keys;
  known = keys_there (names.policy ∷ []) f mid names.keys keys before known;
  runs = served;
}

-- a link that a root served which is alone is served by a daemon of one thread
pub link_served : ServedAlone → (g : DaemonConfig) (v w : PassSeen) (o o' : LinkSeen) (ended : Ended) → v.number ≡ 0
    → v.splits ≡ 0 → IsSoundPass w → Serves g v w o o' ended →
    IfSome o.left (λ input. IsOrderly input → IsFaultless o o' → (ended ≡ E.Done) ⊎ (ended ≡ E.Memory))
    → IsLinkServed g v.seen o o' ended
link_served law g v w o o' ended number unsplit sound serves complete =
    let gains = serves.gains in
    let more_own = alone v w gains.seen gains.own _ number unsplit sound gains.moves in
    let behind : drop (length v.seen) w.seen ≡ gains.seen = ap (drop (length v.seen)) gains.moves.seen
    ∙ drop_at v.seen gains.seen (length v.seen) refl in
    let front : take (length v.seen) w.seen ≡ v.seen = ap (take (length v.seen)) gains.moves.seen
    ∙ take_at v.seen gains.seen (length v.seen) refl in
    let own : own_updates v.number (drop (length v.seen) w.seen) ≡ drop (length v.seen) w.seen =
    subst (λ (l : List Update). own_updates v.number l ≡ l) (sym behind) (gains.moves.named ∙ sym more_own) in
    let by_replies : IsServedAlone g serves.taken serves.written ended (is_over o'.left) (take (length v.seen) w.seen)
    w.seen v.number =
    law g serves.taken serves.written ended (is_over o'.left) w.seen (length v.seen) v.number serves.stops serves.served
    own in
    let served : IsServed g serves.taken serves.written ended (is_over o'.left) w.seen (length v.seen) (length w.seen) 0
    serves.stops =
    subst (λ (n : ℕ). IsServed g serves.taken serves.written ended (is_over o'.left) w.seen (length v.seen)
    (length w.seen) n serves.stops) number serves.served in
    let alone : IsServedAlone g serves.taken serves.written ended (is_over o'.left) v.seen w.seen 0 =
    subst (λ (n : ℕ). IsServedAlone g serves.taken serves.written ended (is_over o'.left) v.seen w.seen n) number
    (subst (λ (l : List Update). IsServedAlone g serves.taken serves.written ended (is_over o'.left) l w.seen v.number)
    front by_replies) in
    record {
      taken = serves.taken;
      written = serves.written;
      added = gains.seen;
      stops = serves.stops;
      served = subst (λ (l : List Update). IsServed g serves.taken serves.written ended (is_over o'.left) l
          (length v.seen) (length l) 0 serves.stops) gains.moves.seen served;
      alone = subst (λ (l : List Update). IsServedAlone g serves.taken serves.written ended (is_over o'.left) v.seen l
          0) gains.moves.seen alone;
      took = gains.took;
      left = gains.left;
      wrote = gains.wrote;
      cause = serves.cause;
      complete = complete;
    }
