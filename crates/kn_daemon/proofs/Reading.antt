-- What a text's reading refuses.
use Rattle.std.proofs.Common.{◌≡◌, ℕ, List, Option, Some, Result, Ok, Err, option_map, ap}
use Rattle.std.specs.Result.{result_err, result_ok}
use Rattle.kn_trees.specs.declared.assertion.Assertion.{Assertion}
use Rattle.kn_assert.specs.Reading.{reading_of, assertion_of, fault_of}
use Rattle.kn_fields.specs.Numbers.{fault_number, fault_place}
use Rattle.kn_fields.specs.declared.fault.ReadFault.{ReadFault}
use Rattle.kn_reply.specs.declared.refusal.Refusal.{Refusal}
use Rattle.kn_reply.specs.declared.refusal.Refusal.TheVariants as R
use Rattle.kn_reply.specs.declared.refusal.ItemRefusal.TheVariants as I
use Rattle.kn_session.specs.declared.fault.CallFault.{CallFault}
use Rattle.kn_session.specs.declared.fault.CallFault.TheVariants as T
use Rattle.kn_session.specs.Calls.{text_fault}
use Rattle.kn_wire.specs.Items.{AddText}
use Rattle.kn_daemon.specs.Daemon.{DaemonConfig, refusal_at_reading, refusal_at_verdict}
use Rattle.kn_daemon.specs.Daemon.{item_refusal}

by_fault : (r : Result Assertion ReadFault) (fault : ReadFault) → result_err r ≡ Some fault → r ≡ Err fault
by_fault (Ok assertion) fault e = cc
by_fault (Err other) fault e = cc

pub by_assertion : (r : Result Assertion ReadFault) (assertion : Assertion) → result_ok r ≡ Some assertion
    → r ≡ Ok assertion
by_assertion (Ok other) assertion e = cc
by_assertion (Err fault) assertion e = cc

pub fault-refuses : (text : List ℕ) (fault : ReadFault) (next : Assertion → Option Refusal) → fault_of text ≡ Some fault
    → refusal_at_reading R.Read (reading_of text) next ≡ option_map (λ number. R.Read number (fault_place fault))
    (fault_number fault)
fault-refuses text fault next e = ap (λ r. refusal_at_reading R.Read r next) (by_fault (reading_of text) fault e)

pub reading-goes_on : (text : List ℕ) (assertion : Assertion) (next : Assertion → Option Refusal)
    → assertion_of text ≡ Some assertion
    → refusal_at_reading R.Read (reading_of text) next ≡ next assertion
reading-goes_on text assertion next e =
    ap (λ r. refusal_at_reading R.Read r next) (by_assertion (reading_of text) assertion e)

pub fault-refuses_item : (g : DaemonConfig) (text : List ℕ) (fault : ReadFault) → fault_of text ≡ Some fault
    → item_refusal g (AddText text) ≡ option_map (λ number. I.Read number (fault_place fault)) (fault_number fault)
fault-refuses_item g text fault e =
    ap (λ r. refusal_at_reading I.Read r (λ a. refusal_at_verdict I.Auth (g.verdict text a)))
    (by_fault (reading_of text) fault e)

pub reading-admits_item : (g : DaemonConfig) (text : List ℕ) (assertion : Assertion)
    → assertion_of text ≡ Some assertion
    → item_refusal g (AddText text) ≡ refusal_at_verdict I.Auth (g.verdict text assertion)
reading-admits_item g text assertion e =
    ap (λ r. refusal_at_reading I.Read r (λ a. refusal_at_verdict I.Auth (g.verdict text a)))
    (by_assertion (reading_of text) assertion e)

pub fault-refuses_call : (text : List ℕ) (fault : ReadFault) (next : Assertion → Option CallFault)
    → fault_of text ≡ Some fault
    → text_fault (reading_of text) next ≡ Some (T.Text fault)
fault-refuses_call text fault next e = ap (λ r. text_fault r next) (by_fault (reading_of text) fault e)

pub call-goes_on : (text : List ℕ) (assertion : Assertion) (next : Assertion → Option CallFault)
    → assertion_of text ≡ Some assertion
    → text_fault (reading_of text) next ≡ next assertion
call-goes_on text assertion next e = ap (λ r. text_fault r next) (by_assertion (reading_of text) assertion e)
