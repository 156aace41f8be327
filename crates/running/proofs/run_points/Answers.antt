-- `running::run_points` meets its contract. Assumes nothing.
use native.Mathlib.Omega.{arith}
use Rattle.points.specs.Table.{axes_in}
use Rattle.running.proofs.ProgressLaws.{start, turn, line-room}
use Rattle.running.proofs.run_points.Goals as goal

pub loop-i-init : goal.loop-i-init
loop-i-init c =
    start _ _ _ _ _ _ _

pub loop-i-preserved : goal.loop-i-preserved
loop-i-preserved c =
    let h = c.loop-i.invariant in
    let x = c.args in
    turn x.draw (axes_in x.axes x.table.now) x.first x.count x.image.now x.memory.now x.out.now
    c.requires.count_in_bounds c.loop-i-test.true h
    c.run_point-p.ensures.result_value c.run_point-p.ensures.image_after c.run_point-p.ensures.memory_after c.run_point-p.ensures.out_after
    (omega arith)

pub run_point-p-requires-clause-longest_in_bounds : goal.run_point-p-requires-clause-longest_in_bounds
run_point-p-requires-clause-longest_in_bounds c =
    let x = c.args in
    line-room x.draw (axes_in x.axes x.table.now) x.first x.count x.image.now x.memory.now x.out.now
    c.requires.count_in_bounds c.loop-i-test.true c.loop-i.invariant
