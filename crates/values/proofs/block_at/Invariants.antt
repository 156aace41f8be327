-- `values::block_at` meets its contract. The invariant: the values read and those left are all the values.
use Prim.Native.Nat.{◌+◌, ◌-◌}
use lib.ListN.{length}
use Rattle.values.proofs.BlockLaws.{Filled}
use Rattle.values.proofs.block_at.Given as goal

abbrev pub invariant-loop-count : goal.invariant-loop-count
invariant-loop-count l =
    Filled l.line l.from l.most l.values l.count l.p l.bad l.above

abbrev pub decreases-loop-count : goal.decreases-loop-count
decreases-loop-count l =
    length l.line + 1 - l.p
