-- `running::run_points` meets its contract. Assumes nothing.
use Rattle.points.specs.Table.{axes_in}
use Rattle.running.proofs.ProgressLaws.{RunTo}
use Rattle.running.proofs.run_points.Given as goal

abbrev pub invariant-loop-i : goal.invariant-loop-i
invariant-loop-i l =
    RunTo l.draw (axes_in l.axes l.table) l.first l.count l.initial.image l.initial.memory l.initial.out l.p l.image l.memory l.out l.i
