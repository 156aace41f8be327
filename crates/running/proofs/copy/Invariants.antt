-- `running::copy` meets its contract. Assumes nothing.
use Rattle.running.proofs.CopyLaws.{Copied}
use Rattle.running.proofs.copy.Given as goal

abbrev pub invariant-loop-i : goal.invariant-loop-i
invariant-loop-i l = Copied l.from l.to l.i
