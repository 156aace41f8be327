-- `visit_rows` meets its contract: after each turn of the loop one more row is visited.
use Rattle.std.proofs.Common.{◌-◌}
use Rattle.engine.proofs.RowsLaws.{Rows}
use Rattle.engine.proofs.visit_rows.Given as goal

abbrev pub invariant-loop-i : goal.invariant-loop-i
invariant-loop-i l =
    Rows l.initial.memory l.d l.k l.n l.memory l.from l.to l.i

abbrev pub decreases-loop-i : goal.decreases-loop-i
decreases-loop-i l =
    l.n - l.i
