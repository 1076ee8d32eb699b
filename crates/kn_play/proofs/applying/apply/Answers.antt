use Rattle.kn_play.proofs.applying.apply.Goals as goal

pub returns-in-Call : goal.returns-in-Call
returns-in-Call c = rw c.in-Call.is (c.apply_call.ensures c.args.book.now)

pub returns-in-SetHex : goal.returns-in-SetHex
returns-in-SetHex c = rw c.in-SetHex.is (c.set_hex.ensures c.args.book.now)

pub returns-in-Watch : goal.returns-in-Watch
returns-in-Watch c = rw c.in-Watch.is (c.watch.ensures c.args.book.now)
