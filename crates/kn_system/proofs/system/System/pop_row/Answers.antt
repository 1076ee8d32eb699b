use Rattle.std.proofs.Common.{◌≡◌, ◌-◌, ◌++◌, ◌∷◌, [], false, List, length, take, sym, ap, ◌∙◌, subst, arith}
use Rattle.kn_system.specs.Equations.{SystemEquations, IsSystem}
use Rattle.kn_system.specs.KeptRows.{kept_row, kept_rows}
use Rattle.kn_system.specs.Rows.{SystemRow}
use Rattle.kn_system.proofs.WithoutLast.{IsKeptLess, IsSystem-less_rows, last_ends, popped_less}
use Rattle.kn_system.proofs.WithoutLast.{take-popped}
use Rattle.kn_system.proofs.system.System.pop_row.Goals as goal

pub shorten-requires : goal.shorten-requires
shorten-requires g c =
    let s = c.self.inside in
    omega (arith, last_ends c.pop.new.self s.rows c.in-Some.row s.flat c.in-Some.ensures c.self.invariant.1)

pub invariant_of-self : goal.invariant_of-self
invariant_of-self g c =
    let s = c.self.inside in
    let less : IsKeptLess c.pop.new.self c.in-Some.row s.flat c.shorten.new.self =
    popped_less s.levels (length (false ∷ s.others)) c.pop.new.self s.rows c.in-Some.row s.flat c.shorten.new.self
    c.in-Some.ensures c.self.invariant.0.rows_fit c.self.invariant.1 c.shorten.ensures.pieces
    c.shorten.ensures.ups in
    let rows : List SystemRow = kept_rows c.shorten.new.self.pieces c.pop.new.self in
    let row : SystemRow = kept_row s.flat.pieces c.in-Some.row in
    let whole : kept_rows s.flat.pieces s.rows ≡ rows ++ row ∷ [] = ap (kept_rows s.flat.pieces) c.in-Some.ensures
    ∙ less.popped in
    let fits = IsSystem-less_rows s.levels (false ∷ s.others) rows row
    (subst (λ (rs : List SystemRow). IsSystem (record { levels = s.levels; requesters = false ∷ s.others; rows = rs }))
    whole c.self.invariant.0) in (
      fits,
      less.kept,
    )

pub returns-in-Some : goal.returns-in-Some
returns-in-Some g c =
    let s = c.self.inside in
    let less : IsKeptLess c.pop.new.self c.in-Some.row s.flat c.shorten.new.self =
    popped_less s.levels (length (false ∷ s.others)) c.pop.new.self s.rows c.in-Some.row s.flat c.shorten.new.self
    c.in-Some.ensures c.self.invariant.0.rows_fit c.self.invariant.1 c.shorten.ensures.pieces
    c.shorten.ensures.ups in
    let rows : List SystemRow = kept_rows c.shorten.new.self.pieces c.pop.new.self in
    let row : SystemRow = kept_row s.flat.pieces c.in-Some.row in
    let whole : kept_rows s.flat.pieces s.rows ≡ rows ++ row ∷ [] = ap (kept_rows s.flat.pieces) c.in-Some.ensures
    ∙ less.popped in
    let left : take (length (kept_rows s.flat.pieces s.rows) - 1) (kept_rows s.flat.pieces s.rows) ≡ rows =
    ap (λ (rs : List SystemRow). take (length rs - 1) rs) whole ∙ take-popped rows row in
    ap (λ (rs : List SystemRow). record { levels = s.levels; requesters = false ∷ s.others; rows = rs }) (sym left)
    ∙ ap (λ (e : SystemEquations). record e { rows = take (length e.rows - 1) e.rows }) c.self.view_is
