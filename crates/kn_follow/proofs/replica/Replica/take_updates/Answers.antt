use Rattle.std.proofs.Common.{◌≡◌, ℕ, ◌<◌, length, ap, arith}
use Rattle.std.proofs.lemmas.Result.{err_from_is_err_and}
use Rattle.kn_follow.proofs.Takings.{taken_here, refused_here, tellable_here}
use Rattle.kn_follow.proofs.replica.Replica.take_updates.Goals as goal

pub take_update-requires : goal.take_update-requires
take_update-requires c =
    let us = c.args.updates.now in
    let same : c.as_slice-update-items.result.now ≡ us = c.as_slice-update-items.ensures in
    let i : ℕ = c.loop-update.update-index in
    let within : i < length us = omega (arith, ap length same) in
    record {
      tellable =
          tellable_here c.as_slice-update-items.result.now us i c.update-item.result same c.update-item.is within
          c.requires.each;
    }

pub loop-update-preserved : goal.loop-update-preserved
loop-update-preserved c =
    let us = c.args.updates.now in
    let same : c.as_slice-update-items.result.now ≡ us = c.as_slice-update-items.ensures in
    let i : ℕ = c.loop-update.update-index in
    let within : i < length us = omega (arith, ap length same) in
    taken_here _ c.loop-update.self _ c.as_slice-update-items.result.now us i c.update-item.result same
    c.update-item.is within c.loop-update.invariant c.in_ok-take_update.ensures.may
    c.in_ok-take_update.ensures.taken

pub returns-in_err-take_update-clause-fault : goal.returns-in_err-take_update-clause-fault
returns-in_err-take_update-clause-fault c =
    let told = err_from_is_err_and c.from_residual.result c.from_residual.ensures.1 in
    let us = c.args.updates.now in
    let same : c.as_slice-update-items.result.now ≡ us = c.as_slice-update-items.ensures in
    let i : ℕ = c.loop-update.update-index in
    let within : i < length us = omega (arith, ap length same) in
    rw (told.1, told.2)
    (refused_here _ c.loop-update.self _ c.as_slice-update-items.result.now us i c.update-item.result _ same
    c.update-item.is within c.loop-update.invariant c.in_err-take_update.ensures.fault
    c.in_err-take_update.ensures.kept)
