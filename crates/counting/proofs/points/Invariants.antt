-- `counting::points` meets its contract. Assumes nothing.
use Rattle.points.proofs.StepLaws.{Counted}
use Rattle.counting.proofs.points.Given as goal

abbrev pub invariant-loop-i : goal.invariant-loop-i
invariant-loop-i l =
    Counted l.table l.axes l.i l.count l.at
