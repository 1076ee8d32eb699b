use Rattle.std.proofs.Common.{◌≡◌, ◌<◌, ◌+◌, ◌-◌, ◌/◌, ℕ, List, length, map, Some, arith}
use Rattle.std.specs.Prelude.{slice_get}
use Rattle.kn_history.specs.History.{NumberedText}
use Rattle.kn_query.proofs.Rows.{id-nowhere, read-id, stands-behind}
use Rattle.kn_query.proofs.shared_rows.find_row.Goals as goal

pub loop-low-preserved-then-here-id-2 : goal.loop-low-preserved-then-here-id-2
loop-low-preserved-then-here-id-2 c =
    let rows : List NumberedText = c.args.rows.now in
    let middle : ℕ = c.loop-low.low + (c.loop-low.high - c.loop-low.low) / 2 in
    let within : c.loop-low.low + (c.loop-low.high - c.loop-low.low) / 2 < length rows =
    omega (arith, c.loop-low.invariant.in_range, c.loop-low-test.true) in
    let here : slice_get (map (λ (x : NumberedText). x.id) rows) middle ≡ Some c.id-here.result =
    read-id rows c.as_slice.result.now middle c.id-here.result c.index-as_slice-middle.result c.as_slice.ensures within
    c.index-as_slice-middle.is c.id-here.ensures in
    record {
      in_range = c.loop-low.invariant.in_range;
      within = λ i at.
          let behind : c.loop-low.low + (c.loop-low.high - c.loop-low.low) / 2 < i =
          stands-behind 0 rows middle i c.id-here.result c.args.id c.requires here at c.if-here-id-2.true in
          (omega (arith, behind), (c.loop-low.invariant.within i at).1);
    }

pub loop-low-preserved : goal.loop-low-preserved
loop-low-preserved c =
    let rows : List NumberedText = c.args.rows.now in
    let middle : ℕ = c.loop-low.low + (c.loop-low.high - c.loop-low.low) / 2 in
    let within : c.loop-low.low + (c.loop-low.high - c.loop-low.low) / 2 < length rows =
    omega (arith, c.loop-low.invariant.in_range, c.loop-low-test.true) in
    let here : slice_get (map (λ (x : NumberedText). x.id) rows) middle ≡ Some c.id-here.result =
    read-id rows c.as_slice.result.now middle c.id-here.result c.index-as_slice-middle.result c.as_slice.ensures within
    c.index-as_slice-middle.is c.id-here.ensures in
    let below : c.args.id < c.id-here.result = omega (arith, c.if-here-id.false, c.if-here-id-2.false) in
    record {
      in_range = omega (arith, within);
      within = λ i at. (
        (c.loop-low.invariant.within i at).0,
        stands-behind 0 rows i middle c.args.id c.id-here.result c.requires at here below,
      );
    }

pub returns : goal.returns
returns c =
    id-nowhere c.args.id c.args.rows.now
    (λ i at. let low = (c.loop-low.invariant.within i at).0 in let high = (c.loop-low.invariant.within i at).1 in
    omega (arith, low, high, c.loop-low-test.false))
