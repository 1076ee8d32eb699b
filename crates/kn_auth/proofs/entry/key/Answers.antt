use Rattle.std.proofs.Common.{◌≡◌, ◌≤◌, length, Ok, arith}
use Rattle.std.proofs.lemmas.Grind.{common_steps}
use Rattle.hex.specs.Hex.{decode_of}
use Rattle.kn_auth.proofs.Taking.{key_digits, spelled_key}
use Rattle.kn_auth.proofs.entry.key.Goals.{then-is_empty-via-then-is_empty, then-is_empty-via-else-is_empty+then-digits}
use Rattle.kn_auth.proofs.entry.key.Goals as goal

pub returns-then-is_empty-clause-key : goal.returns-then-is_empty-clause-key
returns-then-is_empty-clause-key c = λ key spells.
    let fit = key_digits c.args.digits.now key spells in
    elim c.then-is_empty.branch [
      | then-is_empty-via-then-is_empty w ↦ grind (arith, common_steps, fit.0, w.if-is_empty.true, c.is_empty.ensures)
      | then-is_empty-via-else-is_empty+then-digits w ↦ omega (arith, fit.1, w.if-digits.true)
    ]

pub returns-clause-key : goal.returns-clause-key
returns-clause-key c =
    let decoded : decode_of c.args.digits.now ≡ Ok c.in_ok-key.key =
    rw (c.in_ok-key.ensures, c.as_slice.ensures.value) c.in-Ok.ensures.ok in
    let some : 1 ≤ length c.args.digits.now = grind (arith, common_steps, c.if-is_empty.false, c.is_empty.ensures) in
    spelled_key c.args.digits.now c.in_ok-key.key decoded some (omega (arith, c.if-digits.false))
