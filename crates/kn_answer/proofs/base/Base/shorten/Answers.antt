use Rattle.std.proofs.Common.{◌≡◌, All, List, length, take, sym, ap, ◌∙◌, subst, arith}
use Rattle.std.proofs.lemmas.List.{length-take}
use Rattle.kn_system.specs.Equations.{IsRowOver, SystemEquations}
use Rattle.kn_system.specs.Rows.{SystemRow}
use Rattle.kn_answer.specs.Based.{BaseView}
use Rattle.kn_answer.proofs.base.Base.shorten.Goals as goal

pub shorten_rows-requires : goal.shorten_rows-requires
shorten_rows-requires c =
    let seen = ap (λ (b : BaseView). length b.live) c.self.view_is in
    omega (arith, seen, c.requires.rows, c.self.invariant.1)

pub shorten_principals-requires : goal.shorten_principals-requires
shorten_principals-requires c =
    let seen = ap (λ (b : BaseView). length b.names) c.self.view_is in
    let rows : take c.args.rows c.args.self.now.system.rows ≡ c.shorten_rows.new.self.rows =
    ap (λ (b : BaseView). take c.args.rows b.system.rows) (sym c.self.view_is)
    ∙ sym (ap (λ (s : SystemEquations). s.rows) c.shorten_rows.ensures) in
    let principals = ap (λ (s : SystemEquations). length s.requesters) c.shorten_rows.ensures in
    record {
      some = c.requires.some;
      in_range = omega (arith, seen, principals, c.requires.principals, c.self.invariant.0);
      over_them = subst (λ (rs : List SystemRow). All (IsRowOver c.args.principals) rs) rows c.requires.over_them;
    }

pub shorten_flags-requires : goal.shorten_flags-requires
shorten_flags-requires c =
    let seen = ap (λ (b : BaseView). length b.live) c.self.view_is in
    omega (arith, seen, c.requires.rows)

pub invariant_of-self : goal.invariant_of-self
invariant_of-self c =
    let s = c.self.inside in
    let names = ap length c.shorten.ensures ∙ length-take c.args.principals s.numbered.names in
    let flags = ap length c.shorten_flags.ensures ∙ length-take c.args.rows s.live in
    let left = ap (λ (e : SystemEquations). length e.requesters) c.shorten_principals.ensures
    ∙ length-take c.args.principals c.shorten_rows.new.self.requesters in
    let kept = ap (λ (e : SystemEquations). length e.requesters) c.shorten_rows.ensures in
    let rows = ap (λ (e : SystemEquations). length e.rows) c.shorten_principals.ensures
    ∙ ap (λ (e : SystemEquations). length e.rows) c.shorten_rows.ensures
    ∙ length-take c.args.rows s.numbered.system.rows in
    (omega (arith, names, left, kept, c.self.invariant.0), omega (arith, flags, rows, c.self.invariant.1))
