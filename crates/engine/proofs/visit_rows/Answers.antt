-- `visit_rows` meets its contract: after each turn of the loop one more row is visited.
use Rattle.std.proofs.Common.{◌+◌, ◌^◌, ◌<◌, arith}
use Rattle.plot.proofs.DrawingLaws.{pixels-lt}
use Rattle.engine.proofs.RowsLaws.{no_rows, next-rows}
use Rattle.engine.proofs.visit_rows.Goals as goal

-- the pixels end below 2^32
end_lt : (c : goal.After-pixel_at-to) → c.args.k + c.args.n < 2 ^ 32
end_lt c =
    let cols : c.args.d.cols < 2 ^ 16 = omega arith in
    let rows : c.args.d.rows < 2 ^ 16 = omega arith in
    omega (arith, c.requires.2, pixels-lt c.args.d cols rows)

pub loop-i-init : goal.loop-i-init
loop-i-init c =
    no_rows c.requires.0 (end_lt c) c.requires.1 c.pixel_at-from.ensures c.pixel_at-to.ensures

pub loop-i-preserved : goal.loop-i-preserved
loop-i-preserved c =
    next-rows c.loop-i.invariant c.loop-i-test.true c.least-count.ensures
    c.draw_row.ensures c.wrapping_add_u32-from.ensures.value c.wrapping_add_u32-to.ensures.value
