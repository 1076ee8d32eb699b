use Rattle.kn_auth.proofs.KeyFiles.{only_file, only_line}
use Rattle.kn_auth.proofs.key_file.read_keys.Goals as goal

pub returns-clause-each_file : goal.returns-clause-each_file
returns-clause-each_file c =
    λ file is. only_file c.args.bytes.now file c.read.result c.read.ensures.ok c.read.ensures.err is

pub returns-clause-each_line : goal.returns-clause-each_line
returns-clause-each_line c =
    λ line is. only_line c.args.bytes.now line c.read.result c.read.ensures.ok c.read.ensures.err is
