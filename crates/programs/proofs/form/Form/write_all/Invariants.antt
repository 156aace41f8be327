-- The measure is the number of points left.
use Rattle.std.proofs.Common.{◌-◌, ◌≤◌}
use Rattle.programs.proofs.form.Form.write_all.Given as goal

abbrev pub invariant-loop-first : goal.invariant-loop-first
invariant-loop-first l = l.first ≤ l.end

abbrev pub decreases-loop-first : goal.decreases-loop-first
decreases-loop-first l = l.end - l.first
