-- `running::run_point` meets its contract. Assumes nothing.
use lib.ListN.{length}
use Rattle.points.specs.Table.{axes_in}
use Rattle.running.proofs.ProgressLaws.{line-fits, point-run}
use Rattle.running.proofs.run_point.Goals as goal

pub put_line-at-requires : goal.put_line-at-requires
put_line-at-requires c =
    let x = c.args in
    line-fits (length x.image.now) x.draw (axes_in x.axes x.table.now) x.point x.p
    c.experiment_of-e.ensures.settings_value c.experiment_of-e.ensures.seed_value c.prepare.ensures c.operation_of-op.ensures
    c.run_over-ran.ensures.0
    x.out.now c.requires.longest_in_bounds

pub returns-clause-result_value : goal.returns-clause-result_value
returns-clause-result_value c =
    let x = c.args in
    (point-run (length x.image.now) x.draw (axes_in x.axes x.table.now) x.point x.p
    c.experiment_of-e.ensures.settings_value c.experiment_of-e.ensures.seed_value c.prepare.ensures c.operation_of-op.ensures
    c.run_over-ran.ensures.0
    x.out.now c.run_over-ran.ensures.1 c.put_line-at.ensures.value c.put_line-at.ensures.out_after).0

pub returns-clause-out_after : goal.returns-clause-out_after
returns-clause-out_after c =
    let x = c.args in
    (point-run (length x.image.now) x.draw (axes_in x.axes x.table.now) x.point x.p
    c.experiment_of-e.ensures.settings_value c.experiment_of-e.ensures.seed_value c.prepare.ensures c.operation_of-op.ensures
    c.run_over-ran.ensures.0
    x.out.now c.run_over-ran.ensures.1 c.put_line-at.ensures.value c.put_line-at.ensures.out_after).1.1.1
