use Rattle.std.proofs.Common.{refl}
use Rattle.keynoted.specs.Outcomes.{NoCommand, AskEnded, CheckEnded, FollowEnded, VerifyEnded}
use Rattle.kn_words.proofs.WordSplits.{no_serve_otherwise}
use Rattle.keynoted.proofs.GenLaws.{gen_ended}
use Rattle.keynoted.proofs.run.dispatch.Goals as goal

pub returns-in-Some : goal.returns-in-Some
returns-in-Some g c = record {
  outcome = AskEnded c.in-Some.names c.ask-ending.result;
  cause = (c.in-Some.ensures.some, c.ask-ending.ensures, refl);
  printed = c.end_ask.ensures;
}

pub returns-in-Some-log_file : goal.returns-in-Some-log_file
returns-in-Some-log_file g c = record {
  outcome = FollowEnded c.in-Some-log_file.name.now c.follow-ending.result;
  cause = (c.in-Some-log_file.ensures.some, c.follow-ending.ensures, refl, refl);
  printed = c.end_follow.ensures;
}

pub returns-in-Some-verify_files : goal.returns-in-Some-verify_files
returns-in-Some-verify_files g c = record {
  outcome = VerifyEnded c.in-Some-verify_files.names c.verify-ending.result;
  cause = (c.in-Some-verify_files.ensures.some, c.verify-ending.ensures, refl, refl);
  printed = c.end_verify.ensures;
}

pub run_gen-requires : goal.run_gen-requires
run_gen-requires g c =
    record { some = c.in-Some-gen_numbers.ensures.some.are.some; most = c.in-Some-gen_numbers.ensures.some.are.most }

pub returns-in-Some-gen_numbers : goal.returns-in-Some-gen_numbers
returns-in-Some-gen_numbers g c =
    gen_ended _ _ _ _ _ _ _ c.in-Some-gen_numbers.ensures.some (record { files = refl; net = refl; link = refl })
    c.run_gen.ensures

pub returns-in-Some-check_files : goal.returns-in-Some-check_files
returns-in-Some-check_files g c = record {
  outcome = CheckEnded c.in-Some-check_files.names c.check-ending.result;
  cause = (c.in-Some-check_files.ensures.some, c.check-ending.ensures, refl, refl);
  printed = c.end_check.ensures;
}

pub returns-in-None : goal.returns-in-None
returns-in-None g c = record {
  outcome = NoCommand;
  cause = (
    record {
      ask = c.in_default.ensures.none;
      check = c.in-None.ensures.none;
      follow = c.in_default-log_file.ensures.none;
      gen = c.in_default-gen_numbers.ensures.none;
      serve = no_serve_otherwise c.args.words.now (c.asks_to_serve.ensures.no c.if-asks_to_serve.false);
      verify = c.in_default-verify_files.ensures.none;
    },
    record { files = refl; net = refl; link = refl },
  );
  printed = c.end.ensures;
}
