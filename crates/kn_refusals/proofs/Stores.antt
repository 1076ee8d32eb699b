-- What the store refuses, of a request and of an item.
use Rattle.std.proofs.Common.{◌≡◌, refl}
use Rattle.std.specs.Prelude.{option_map}
use Rattle.kn_history.specs.declared.fault.StoreFault.{StoreFault}
use Rattle.kn_history.specs.declared.fault.StoreFault.TheVariants as S
use Rattle.kn_reply.specs.declared.refusal.ItemRefusal.TheVariants as I
use Rattle.kn_daemon.specs.Daemon.{refusal_of_store, refusal_at_store}
use Rattle.kn_refusals.specs.Refusals.{request_refusal}

-- what the store refuses of a request it refuses of an item
pub refusal_of_store-request : (fault : StoreFault) →
    refusal_of_store fault ≡ option_map request_refusal (refusal_at_store I.Unknown I.Limit fault)
refusal_of_store-request (S.Unknown id) = refl
refusal_of_store-request (S.LiveFull count) = refl
refusal_of_store-request (S.BytesFull bytes) = refl
refusal_of_store-request (S.HistoryFull updates) = refl
refusal_of_store-request (S.LogFull bytes) = refl
refusal_of_store-request S.NoMemory = refl
