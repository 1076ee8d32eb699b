use Rattle.kn_proof.proofs.ScanLaws.{counted_more, end_behind, few_more}
use Rattle.kn_proof.proofs.reader.scan_rows.Goals as goal

pub returns-in-Some-clause-err : goal.returns-in-Some-clause-err
returns-in-Some-clause-err c = λ header same.
    end_behind header c.args.lines.now c.rows.rest.now c.in-Some.after.now c.rows.rows c.end.result
    c.rows.invariant.scanned c.in-Some.ensures (c.end.ensures.err header same)

pub rows-preserved : goal.rows-preserved
rows-preserved c = record {
  scanned = counted_more c.args.lines.now c.rows.rest.now c.in-Ok.line.quoted.now c.in-Ok.line.rest.now c.rows.rows
      c.in-Ok.line.value c.in-Ok.line.id c.rows.invariant.scanned c.in-Ok.ensures.ok;
  few = few_more c.args.lines.now c.rows.rest.now c.in-Ok.line.quoted.now c.in-Ok.line.rest.now c.rows.rows
      c.in-Ok.line.value c.in-Ok.line.id c.rows.invariant.few c.in-Ok.ensures.ok;
}
