use Rattle.std.proofs.Common.{◌≡◌, ◌<◌, [], length, sym, ◌∙◌, arith}
use Rattle.std.proofs.lemmas.Bool.{eqb-true}
use Rattle.std.proofs.lemmas.Grind.{common_steps}
use Rattle.kn_proof.specs.declared.reply.ReadReply.{ReadReply}
use Rattle.kn_verify.proofs.NumberedReplies.{name_decides}
use Rattle.kn_verify.proofs.verdict.tells.Goals as goal
use Rattle.kn_verify.proofs.verdict.tells.Goals.{then-head-version, else-head-version}

pub returns-then-head-len : goal.returns-then-head-len
returns-then-head-len c =
    elim c.if-head-version.branch [
      | then-head-version w ↦
          let same : c.args.head.now.version ≡ c.args.version = grind (arith, common_steps) in
          let within : c.args.head.now.value < length c.args.values.now = grind (arith, common_steps) in
          let reply : ReadReply =
          record {
            value = c.args.head.now.value;
            name = c.args.head.now.name.now;
            version =
                c.args.head.now.version;
            rows = [];
          } in
          name_decides c.args.version c.args.values.now reply c.name.result.now c.eq.result same within c.name.ensures
          c.eq.ensures
      | else-head-version w ↦ absurd
          (w.if-head-version.false (eqb-true c.args.head.now.version c.args.version (sym w.value-is
          ∙ c.if-head-len.true)))
    ]
