use Rattle.kn_proof.proofs.ScanLaws.{row_again}
use Rattle.kn_proof.proofs.row_line.read_row.Goals as goal

pub returns-in-Ok-read_quoted-clause-spelled : goal.returns-in-Ok-read_quoted-clause-spelled
returns-in-Ok-read_quoted-clause-spelled c =
    row_again c.args.text.now c.in-Ok.line.quoted.now c.in-Ok.line.rest.now c.in-Ok-read_quoted.quoted.principal
    c.in-Ok-read_quoted.quoted.rest.now c.in-Ok.line.value c.in-Ok.line.id c.in-Ok.ensures.ok
    c.in-Ok-read_quoted.ensures.spelled c.in-Ok-read_quoted.ensures.bytes c.in-Ok-read_quoted.ensures.all
