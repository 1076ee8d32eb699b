use Rattle.kn_serve.proofs.AdmissionLaws.{text_unread, text_unadmitted, text_admitted}
use Rattle.kn_serve.proofs.admission.admit_text.Goals as goal

pub returns-in-Err-clause-refused : goal.returns-in-Err-clause-refused
returns-in-Err-clause-refused g c = text_unread _ _ _ _ c.in-Err.ensures.err c.item_refusal_of_text.ensures

pub returns-in-Err-admit-clause-refused : goal.returns-in-Err-admit-clause-refused
returns-in-Err-admit-clause-refused g c =
    text_unadmitted _ _ _ c.in-Err-admit.fault _ c.in-Ok.ensures.ok c.number-fault.ensures c.in-Err-admit.ensures

pub returns-in-Ok-of-clause-admitted : goal.returns-in-Ok-of-clause-admitted
returns-in-Ok-of-clause-admitted g c = text_admitted _ _ _ c.in-Ok.ensures.ok c.in-Ok-admit.ensures
