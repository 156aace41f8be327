-- No more points are done than asked for. The measure is the number of points left.
use Rattle.std.proofs.Common.{◌-◌, ◌<◌, ◌≤◌}
use Rattle.programs.specs.Batch.{most_points}
use Rattle.programs.proofs.listings.run_all.Given as goal

abbrev pub invariant-loop-done : goal.invariant-loop-done
invariant-loop-done l = (l.done ≤ l.range.count) × (0 < l.batch) × (l.batch ≤ most_points)

abbrev pub decreases-loop-done : goal.decreases-loop-done
decreases-loop-done l = l.range.count - l.done
