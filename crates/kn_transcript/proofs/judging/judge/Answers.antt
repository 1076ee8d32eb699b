use Rattle.std.proofs.Common.{option_map}
use Rattle.kn_transcript.specs.Judging.{state_of}
use Rattle.kn_transcript.proofs.JudgingLaws.{judged_as}
use Rattle.kn_transcript.proofs.judging.judge.Goals as goal

pub returns-in-Call : goal.returns-in-Call
returns-in-Call c = record {
  judged = judged_as _ _ _ _ _ _ _ _ c.judge_call.result (λ found. option_map (λ rest. rest.now) found)
      c.shape_of.ensures.shape
      c.in-Call.is (c.judge_call.ensures.judged c.args.book.now);
}

pub returns-in-SetHex : goal.returns-in-SetHex
returns-in-SetHex c = record {
  judged = judged_as _ _ _ _ _ _ _ _ c.judge_set_hex.result (λ found. option_map (λ rest. rest.now) found)
      c.shape_of.ensures.shape
      c.in-SetHex.is (c.judge_set_hex.ensures.judged c.args.book.now);
}

pub returns-in-Query : goal.returns-in-Query
returns-in-Query c = record {
  judged = judged_as _ _ _ _ _ _ _ _ c.judge_query.result (λ found. option_map (λ rest. rest.now) found)
      c.shape_of.ensures.shape
      c.in-Query.is (c.judge_query.ensures.judged c.args.book.now);
}

pub returns-in-Admin : goal.returns-in-Admin
returns-in-Admin c = record {
  judged = judged_as _ _ _ _ _ _ _ _ c.judge_secret.result (λ found. option_map (λ rest. rest.now) found)
      c.shape_of.ensures.shape
      c.in-Admin.is (c.judge_secret.ensures.judged c.args.book.now);
}

pub returns-in-Bye : goal.returns-in-Bye
returns-in-Bye c = record {
  judged = judged_as _ _ _ _ _ _ _ _ c.judge_bye.result (λ found. option_map (λ rest. rest.now) found)
      c.shape_of.ensures.shape
      c.in-Bye.is (c.judge_bye.ensures.judged c.args.book.now (state_of c.args.connection.now));
}

pub returns-in-Open : goal.returns-in-Open
returns-in-Open c = record {
  judged = judged_as _ _ _ _ _ _ _ _ c.judge_open.result (λ found. option_map (λ rest. rest.now) found)
      c.shape_of.ensures.shape
      c.in-Open.is c.judge_open.ensures.judged;
}

pub returns-in-Pin : goal.returns-in-Pin
returns-in-Pin c = record {
  judged = judged_as _ _ _ _ _ _ _ _ c.judge_pin.result (λ found. option_map (λ rest. rest.now) found)
      c.shape_of.ensures.shape
      c.in-Pin.is c.judge_pin.ensures.judged;
}

pub returns-in-PinAt : goal.returns-in-PinAt
returns-in-PinAt c = record {
  judged = judged_as _ _ _ _ _ _ _ _ c.judge_pin_at.result (λ found. option_map (λ rest. rest.now) found)
      c.shape_of.ensures.shape
      c.in-PinAt.is c.judge_pin_at.ensures.judged;
}

pub returns-in-Add : goal.returns-in-Add
returns-in-Add c = record {
  judged = judged_as _ _ _ _ _ _ _ _ c.judge_add.result (λ found. option_map (λ rest. rest.now) found)
      c.shape_of.ensures.shape
      c.in-Add.is c.judge_add.ensures.judged;
}

pub returns-in-Remove : goal.returns-in-Remove
returns-in-Remove c = record {
  judged = judged_as _ _ _ _ _ _ _ _ c.judge_drop.result (λ found. option_map (λ rest. rest.now) found)
      c.shape_of.ensures.shape
      c.in-Remove.is c.judge_drop.ensures.judged;
}

pub returns-in-Batch : goal.returns-in-Batch
returns-in-Batch c = record {
  judged = judged_as _ _ _ _ _ _ _ _ c.judge_batch.result (λ found. option_map (λ rest. rest.now) found)
      c.shape_of.ensures.shape
      c.in-Batch.is c.judge_batch.ensures.judged;
}
