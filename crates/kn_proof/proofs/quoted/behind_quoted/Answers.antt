use Rattle.kn_proof.proofs.ScanLaws.{quoted_more}
use Rattle.kn_proof.proofs.quoted.behind_quoted.Goals as goal

pub bytes-preserved : goal.bytes-preserved
bytes-preserved c = quoted_more c.args.text.now c.bytes.rest.now c.in-Some.behind.now c.in-Some._byte c.bytes.invariant
    c.in-Some.ensures.small c.in-Some.ensures.some
