use Rattle.std.proofs.Common.{◌^◌, ◌≤◌, [], ◌∷◌, ◌++◌, length, sym, ◌∙◌, subst, arith}
use Rattle.std.proofs.lemmas.List.{length-append}
use Rattle.kn_rows.proofs.NamesAdded.{with_name-absent, with_name-known}
use Rattle.kn_rows.proofs.NewNames.{Extends-longer, both_on_ok, map_on_ok}
use Rattle.kn_rows.proofs.numbered.Numbered.number.Goals as goal

pub add-requires-clause-few : goal.add-requires-clause-few
add-requires-clause-few c =
    let longer : length (c.args.self.now.names ++ c.args.name.now ∷ []) ≤ 2 ^ 24 =
    subst (λ names. length names ≤ 2 ^ 24)
    (with_name-absent c.args.self.now.names c.args.name.now c.in-None.ensures.absent) c.requires.few in
    omega (arith, longer, simp length-append at longer)

pub returns-in-Some-clause-entered : goal.returns-in-Some-clause-entered
returns-in-Some-clause-entered c =
    sym (with_name-known c.args.self.now.names c.args.name.now c.in-Some.number c.in-Some.ensures.number)

pub returns-in-None-clause-ok : goal.returns-in-None-clause-ok
returns-in-None-clause-ok c =
    both_on_ok c.add.result _ _ _
    (Extends-longer c.args.self.now c.add.new.self c.args.name.now c.requires.one_each c.in-None.ensures.absent)
    c.add.ensures.names c.add.ensures.system

pub returns-in-None-clause-entered : goal.returns-in-None-clause-entered
returns-in-None-clause-entered c =
    map_on_ok c.add.result _ _ (λ names. names
    ∙ sym (with_name-absent c.args.self.now.names c.args.name.now c.in-None.ensures.absent)) c.add.ensures.names
