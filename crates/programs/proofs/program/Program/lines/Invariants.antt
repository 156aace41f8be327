-- Each turn leaves less to write.
use Rattle.std.proofs.Common.{◌≤◌, length}
use Rattle.programs.proofs.program.Program.lines.Given as goal

abbrev pub invariant-loop-rest : goal.invariant-loop-rest
invariant-loop-rest l = length l.rest ≤ length l.bytes

abbrev pub decreases-loop-rest : goal.decreases-loop-rest
decreases-loop-rest l = length l.rest
