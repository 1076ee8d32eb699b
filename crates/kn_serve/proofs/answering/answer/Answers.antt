use Rattle.std.proofs.Common.{refl}
use Rattle.kn_serve.specs.Configs.{config_of}
use Rattle.kn_serve.proofs.HandlingLaws.{told_handled, handles_as}
use Rattle.kn_serve.proofs.KeptLaws.{kept-handled}
use Rattle.kn_serve.proofs.LastLaws.{keeps_as, last-handled, last-handled-same, none-last}
use Rattle.kn_serve.proofs.answering.answer.Goals as goal

pub returns-in-Call-clause-handled : goal.returns-in-Call-clause-handled
returns-in-Call-clause-handled g c =
    handles_as _ _ _ _ _ _ _ c.shape_of.ensures.shape c.in-Call.is
    (told_handled _ _ _ _ _ _ _ _ (c.call.ensures.exact _))

pub returns-in-SetHex-clause-handled : goal.returns-in-SetHex-clause-handled
returns-in-SetHex-clause-handled g c =
    handles_as _ _ _ _ _ _ _ c.shape_of.ensures.shape c.in-SetHex.is
    (told_handled _ _ _ _ _ _ _ _ (c.set_hex.ensures.exact _))

pub returns-in-Query-clause-handled : goal.returns-in-Query-clause-handled
returns-in-Query-clause-handled g c =
    handles_as _ _ _ _ _ _ _ c.shape_of.ensures.shape c.in-Query.is
    (told_handled _ _ _ _ _ _ _ _ (c.query.ensures.exact _))

pub returns-in-Watch-clause-handled : goal.returns-in-Watch-clause-handled
returns-in-Watch-clause-handled g c =
    handles_as _ _ _ _ _ _ _ c.shape_of.ensures.shape c.in-Watch.is
    (told_handled _ _ _ _ _ _ _ _ (c.watch.ensures.exact _))

pub returns-in-Critical-clause-handled : goal.returns-in-Critical-clause-handled
returns-in-Critical-clause-handled g c =
    handles_as _ _ _ _ _ _ _ c.shape_of.ensures.shape c.in-Critical.is
    (told_handled _ _ _ _ _ _ _ _ (c.critical.ensures.exact _))

pub returns-in-Admin-clause-handled : goal.returns-in-Admin-clause-handled
returns-in-Admin-clause-handled g c =
    handles_as _ _ _ _ _ _ _ c.shape_of.ensures.shape c.in-Admin.is
    (told_handled _ _ _ _ _ _ _ _ (c.show_secret.ensures.exact _ refl))

pub returns-in-Bye-clause-handled : goal.returns-in-Bye-clause-handled
returns-in-Bye-clause-handled g c =
    handles_as _ _ _ _ _ _ _ c.shape_of.ensures.shape c.in-Bye.is
    (told_handled _ _ _ _ _ _ _ _ (c.say_bye.ensures.exact _ _))

pub returns-in-Open-clause-handled : goal.returns-in-Open-clause-handled
returns-in-Open-clause-handled g c =
    handles_as _ _ _ _ _ _ _ c.shape_of.ensures.shape c.in-Open.is (c.open.ensures.handled _)

pub returns-in-Pin-clause-handled : goal.returns-in-Pin-clause-handled
returns-in-Pin-clause-handled g c =
    handles_as _ _ _ _ _ _ _ c.shape_of.ensures.shape c.in-Pin.is (c.pin.ensures.handled _)

pub returns-in-PinAt-clause-handled : goal.returns-in-PinAt-clause-handled
returns-in-PinAt-clause-handled g c =
    handles_as _ _ _ _ _ _ _ c.shape_of.ensures.shape c.in-PinAt.is (c.pin_at.ensures.handled _)

pub returns-in-Add-clause-handled : goal.returns-in-Add-clause-handled
returns-in-Add-clause-handled g c =
    handles_as _ _ _ _ _ _ _ c.shape_of.ensures.shape c.in-Add.is (c.add.ensures.handled _ refl)

pub returns-in-Remove-clause-handled : goal.returns-in-Remove-clause-handled
returns-in-Remove-clause-handled g c =
    handles_as _ _ _ _ _ _ _ c.shape_of.ensures.shape c.in-Remove.is (c.remove.ensures.handled _)

pub returns-in-Batch-clause-handled : goal.returns-in-Batch-clause-handled
returns-in-Batch-clause-handled g c =
    handles_as _ _ _ _ _ _ _ c.shape_of.ensures.shape c.in-Batch.is (c.batch.ensures.handled _ refl)

pub returns-in-Log-clause-handled : goal.returns-in-Log-clause-handled
returns-in-Log-clause-handled g c =
    handles_as _ _ _ _ _ _ _ c.shape_of.ensures.shape c.in-Log.is (c.log.ensures.handled _)

pub returns-in-News-clause-handled : goal.returns-in-News-clause-handled
returns-in-News-clause-handled g c =
    handles_as _ _ _ _ _ _ _ c.shape_of.ensures.shape c.in-News.is (c.news.ensures.handled _)

pub returns-in-Open-clause-of_history : goal.returns-in-Open-clause-of_history
returns-in-Open-clause-of_history g c =
    kept-handled _ _ _ _ _ _ (c.open.ensures.handled (config_of g.A.Authenticator.verdict c.args.config.now))
    c.requires.of_history

pub returns-in-Pin-clause-of_history : goal.returns-in-Pin-clause-of_history
returns-in-Pin-clause-of_history g c =
    kept-handled _ _ _ _ _ _ (c.pin.ensures.handled (config_of g.A.Authenticator.verdict c.args.config.now))
    c.requires.of_history

pub returns-in-PinAt-clause-of_history : goal.returns-in-PinAt-clause-of_history
returns-in-PinAt-clause-of_history g c =
    kept-handled _ _ _ _ _ _ (c.pin_at.ensures.handled (config_of g.A.Authenticator.verdict c.args.config.now))
    c.requires.of_history

pub returns-in-Add-clause-of_history : goal.returns-in-Add-clause-of_history
returns-in-Add-clause-of_history g c =
    kept-handled _ _ _ _ _ _ (c.add.ensures.handled (config_of g.A.Authenticator.verdict c.args.config.now) refl)
    c.requires.of_history

pub returns-in-Remove-clause-of_history : goal.returns-in-Remove-clause-of_history
returns-in-Remove-clause-of_history g c =
    kept-handled _ _ _ _ _ _ (c.remove.ensures.handled (config_of g.A.Authenticator.verdict c.args.config.now))
    c.requires.of_history

pub returns-in-Batch-clause-of_history : goal.returns-in-Batch-clause-of_history
returns-in-Batch-clause-of_history g c =
    kept-handled _ _ _ _ _ _ (c.batch.ensures.handled (config_of g.A.Authenticator.verdict c.args.config.now) refl)
    c.requires.of_history

pub returns-in-Log-clause-of_history : goal.returns-in-Log-clause-of_history
returns-in-Log-clause-of_history g c =
    kept-handled _ _ _ _ _ _ (c.log.ensures.handled (config_of g.A.Authenticator.verdict c.args.config.now))
    c.requires.of_history

pub returns-in-Query-clause-of_history : goal.returns-in-Query-clause-of_history
returns-in-Query-clause-of_history g c =
    c.query.ensures.stays c.args.pass.now.seen c.requires.pinned c.requires.of_history

pub returns-in-Watch-clause-of_history : goal.returns-in-Watch-clause-of_history
returns-in-Watch-clause-of_history g c =
    c.watch.ensures.stays c.args.pass.now.seen c.requires.pinned c.requires.of_history

pub query-requires : goal.query-requires
query-requires g c = record {
  one_history = record {
    history = c.args.pass.now.seen;
    pinned = c.requires.pinned;
    bases = c.requires.of_history;
    still = c.requires.last;
  };
}

pub watch-requires : goal.watch-requires
watch-requires g c = record {
  one_history = record { history = c.args.pass.now.seen; pinned = c.requires.pinned; is = c.requires.of_history };
}

pub returns-in-Call-clause-last : goal.returns-in-Call-clause-last
returns-in-Call-clause-last g c = none-last _ _ _ c.call.ensures.forgotten

pub returns-in-SetHex-clause-last : goal.returns-in-SetHex-clause-last
returns-in-SetHex-clause-last g c = none-last _ _ _ c.set_hex.ensures.forgotten

pub returns-in-Open-clause-last : goal.returns-in-Open-clause-last
returns-in-Open-clause-last g c = none-last _ _ _ c.open.ensures.forgotten

pub returns-in-News-clause-last : goal.returns-in-News-clause-last
returns-in-News-clause-last g c = none-last _ _ _ c.news.ensures.forgotten

pub returns-in-Watch-clause-last : goal.returns-in-Watch-clause-last
returns-in-Watch-clause-last g c = none-last _ _ _ c.watch.ensures.forgotten

pub returns-in-Admin-clause-last : goal.returns-in-Admin-clause-last
returns-in-Admin-clause-last g c = none-last _ _ _ c.show_secret.ensures.forgotten

pub returns-in-Bye-clause-last : goal.returns-in-Bye-clause-last
returns-in-Bye-clause-last g c = c.requires.last

pub returns-in-Add-clause-last : goal.returns-in-Add-clause-last
returns-in-Add-clause-last g c =
    last-handled _ _ _ _ _ _ (returns-in-Add-clause-handled g c)
    (keeps_as _ _ _ c.shape_of.ensures.shape c.in-Add.is refl) c.requires.last

pub returns-in-Remove-clause-last : goal.returns-in-Remove-clause-last
returns-in-Remove-clause-last g c =
    last-handled _ _ _ _ _ _ (returns-in-Remove-clause-handled g c)
    (keeps_as _ _ _ c.shape_of.ensures.shape c.in-Remove.is refl) c.requires.last

pub returns-in-Batch-clause-last : goal.returns-in-Batch-clause-last
returns-in-Batch-clause-last g c =
    last-handled _ _ _ _ _ _ (returns-in-Batch-clause-handled g c)
    (keeps_as _ _ _ c.shape_of.ensures.shape c.in-Batch.is refl) c.requires.last

pub returns-in-Log-clause-last : goal.returns-in-Log-clause-last
returns-in-Log-clause-last g c =
    last-handled _ _ _ _ _ _ (returns-in-Log-clause-handled g c)
    (keeps_as _ _ _ c.shape_of.ensures.shape c.in-Log.is refl) c.requires.last

pub returns-in-Critical-clause-last : goal.returns-in-Critical-clause-last
returns-in-Critical-clause-last g c =
    last-handled _ _ _ _ _ _ (returns-in-Critical-clause-handled g c)
    (keeps_as _ _ _ c.shape_of.ensures.shape c.in-Critical.is refl) c.requires.last

pub returns-in-Pin-clause-last : goal.returns-in-Pin-clause-last
returns-in-Pin-clause-last g c =
    last-handled-same _ _ _ _ _ _ _ (returns-in-Pin-clause-handled g c) c.pin.ensures.last
    (keeps_as _ _ _ c.shape_of.ensures.shape c.in-Pin.is refl) c.requires.last

pub returns-in-PinAt-clause-last : goal.returns-in-PinAt-clause-last
returns-in-PinAt-clause-last g c =
    last-handled-same _ _ _ _ _ _ _ (returns-in-PinAt-clause-handled g c) c.pin_at.ensures.last
    (keeps_as _ _ _ c.shape_of.ensures.shape c.in-PinAt.is refl) c.requires.last

pub returns-in-Query-clause-last : goal.returns-in-Query-clause-last
returns-in-Query-clause-last g c = c.query.ensures.last c.args.pass.now.seen c.requires.pinned c.requires.last
