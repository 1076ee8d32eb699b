use Rattle.std.proofs.Common.{◌++◌, List, ℕ, sym, subst}
use Rattle.kn_load.specs.Loaded.{IsLoaded, StopsLoading}
use Rattle.kn_load.proofs.Loaded.{loaded_more}
use Rattle.kn_load.proofs.ReadingLaws.{all_read, refused_there, faulty_there}
use Rattle.kn_load.proofs.load.add_readings.Goals as goal

pub returns-in-Err-clause-stopped : goal.returns-in-Err-clause-stopped
returns-in-Err-clause-stopped g c = λ front texts rest are l at.
    subst (StopsLoading (front ++ texts ++ rest)) (sym c.stop_by_refusal.ensures)
    (refused_there texts c.args.readings are front rest c.args.registry.now c.args.root.now c.add_all.new.pass l
    c.in-Err.ensures.sound c.args.before c.in-Err.place c.in-Err.refusal at c.in-Err.ensures.refused)

pub returns-in-Some-clause-stopped : goal.returns-in-Some-clause-stopped
returns-in-Some-clause-stopped g c = λ front texts rest are l at.
    let loaded = loaded_more front c.args.readings.ready_texts.items c.args.registry.now c.args.root.now
    c.add_all.new.pass
    l c.in-Ok.ensures.sound c.in-Ok.ensures.ready c.in-Ok.ensures.added in
    faulty_there texts c.args.readings are front rest loaded.loadable c.args.before c.in-Some.fault
    c.stop_by_fault.result at c.in-Some.is
    (rw (c.len.ensures, c.args.readings.ready_texts.ok.0) at c.stop_by_fault.ensures)

pub returns-in-None-clause-loaded : goal.returns-in-None-clause-loaded
returns-in-None-clause-loaded g c = λ front texts are l.
    subst (λ (t : List (List ℕ)). IsLoaded (front ++ t) c.args.registry.now c.add_all.new.pass)
    (all_read texts c.args.readings are c.in-None.is)
    (loaded_more front c.args.readings.ready_texts.items c.args.registry.now c.args.root.now c.add_all.new.pass l
    c.in-Ok.ensures.sound c.in-Ok.ensures.ready c.in-Ok.ensures.added)
