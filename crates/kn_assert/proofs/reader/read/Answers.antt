use Rattle.std.proofs.Common.{Ok, Err}
use Rattle.std.proofs.lemmas.Result.{IfOk-weaker, IfErr-weaker}
use Rattle.kn_assert.proofs.Answered.{ok_told, err_told, reading_told, first_told, each_told, reading_short}
use Rattle.kn_assert.proofs.Answered.{reading_shallow, place_told}
use Rattle.kn_assert.proofs.reader.read.Goals as goal

pub returns : goal.returns
returns c =
    let text = c.args.text.now in
    let given = c.reading.ensures in
    let stated = reading_told c.readings_are_computed.ensures.reading text c.reading.result given in
    let refused = first_told c.readings_are_computed.ensures.fault text c.reading.result given in
    record {
      ok = ok_told text c.reading.result given;
      err = err_told text c.reading.result given;
      reading = stated;
      first = refused;
      each_reading = λ assertion h. each_told text c.reading.result (Ok assertion) given
          ((c.readings_are_computed.ensures.reading text assertion).1 h);
      each_fault = λ fault h. each_told text c.reading.result (Err fault) given
          ((c.readings_are_computed.ensures.fault text fault).1 h);
      sound = IfOk-weaker c.reading.result _ _ (c.readings_are_sound.ensures text) stated;
      shallow = IfOk-weaker c.reading.result _ _ (reading_shallow text) stated;
      short = IfOk-weaker c.reading.result _ _ (reading_short text) stated;
      place = IfErr-weaker c.reading.result _ _ (place_told text (c.faults_stand_in_the_text.ensures text)) refused;
    }
