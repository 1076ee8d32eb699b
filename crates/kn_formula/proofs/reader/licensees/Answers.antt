use Rattle.std.proofs.Common.{◌+◌, arith}
use Rattle.kn_fields.specs.Fields.{between}
use Rattle.kn_formula.proofs.Readable.{given_readable}
use Rattle.kn_formula.proofs.Licenses.{given_stated, given_shown}
use Rattle.kn_formula.proofs.reader.licensees.Goals as goal

pub returns-clause-stated : goal.returns-clause-stated
returns-clause-stated c =
    given_stated c.args.constants.now (between (c.args.part.label + 1) c.args.part.end c.args.tokens.now)
    c.read_licensees.result c.read_licensees.ensures

pub returns-clause-shown : goal.returns-clause-shown
returns-clause-shown c =
    given_shown c.args.constants.now (between (c.args.part.label + 1) c.args.part.end c.args.tokens.now)
    c.read_licensees.result c.read_licensees.ensures

pub returns-clause-readable : goal.returns-clause-readable
returns-clause-readable c =
    given_readable c.args.constants.now c.args.tokens.now (c.args.part.label + 1) c.args.part.end
    c.read_licensees.result (omega (arith, c.requires.before)) c.requires.within
    c.read_licensees.ensures c.requires.shallow
