use Rattle.kn_auth.proofs.OneReading.{reads_as}
use Rattle.kn_auth.proofs.KeyFiles.{file_or_line, one_file, one_line}
use Rattle.kn_auth.proofs.laws.one_reading.Goals as goal

pub returns : goal.returns
returns c = record { each = reads_as; not_both = file_or_line; one_file = one_file; one_line = one_line }
