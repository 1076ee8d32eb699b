use Rattle.std.proofs.Common.{◌≤◌, length, Err, refl, ap, arith, inl, inr}
use Rattle.std.proofs.lemmas.Bool.{cases_lt}
use Rattle.kn_auth.proofs.entry.principal.Goals as goal

pub returns-in-Err-TooLong-clause-principal : goal.returns-in-Err-TooLong-clause-principal
returns-in-Err-TooLong-clause-principal c = λ principal named.
    let long = (c.in-Err-TooLong.ensures.too_long c.in-Err-TooLong.field-0-0).0 (ap Err c.in-Err-TooLong.field-0-is) in
    let few : length c.args.name.now ≤ 4096 = named.few in
    omega (arith, long.0, long.1)

pub returns-in-Err-NoMemory-clause-few : goal.returns-in-Err-NoMemory-clause-few
returns-in-Err-NoMemory-clause-few c =
    elim (cases_lt 4096 (length c.args.name.now)) [
      | inl long ↦
          let told = (c.in-Err-NoMemory.ensures.too_long (length c.args.name.now)).1 (refl, long) in
          let is = c.in-Err-NoMemory.field-0-is in
          cc
      | inr few ↦ few
    ]
