use Rattle.std.proofs.Common.{refl, codes, []}
use Rattle.kn_wire.proofs.worked.whole_texts.Goals as goal

pub returns-clause-session : goal.returns-clause-session
returns-clause-session c =
    (codes "AUTH 1 alice\nQUERY 1 no,yes\n", refl, (codes "QUERY 1 no,yes\n", refl, ([], refl, refl)))

pub returns-clause-faulty : goal.returns-clause-faulty
returns-clause-faulty c =
    (codes "OPEN x\nopen\n\nBY", refl, (codes "open\n\nBY", refl, (codes "\nBY", refl, (codes "BY", refl, refl))))

pub returns-clause-spaces : goal.returns-clause-spaces
returns-clause-spaces c = (codes "AUTH 1 \nQUERY 1 \n", refl, (codes "QUERY 1 \n", refl, ([], refl, refl)))

pub returns-clause-attributes : goal.returns-clause-attributes
returns-clause-attributes c = (codes "SET 1 v \nSET 1 v\n", refl, (codes "SET 1 v\n", refl, ([], refl, refl)))
