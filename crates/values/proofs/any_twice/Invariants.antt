-- `values::any_twice` meets its contract. The invariant: the search among all the values comes out as that among the values left.
use mathlib.Core.Path.{◌≡◌}
use Prim.Native.Nat.{◌+◌, ◌-◌}
use lib.Dec.{eqb}
use lib.ListN.{length}
use Rattle.lists.specs.Search.{any_pair}
use Rattle.values.specs.Block.{values_from}
use Rattle.values.proofs.any_twice.Given as goal

abbrev pub invariant-loop-p : goal.invariant-loop-p
invariant-loop-p l =
    any_pair eqb (values_from l.line l.from) ≡ any_pair eqb (values_from l.line l.p)

abbrev pub decreases-loop-p : goal.decreases-loop-p
decreases-loop-p l =
    length l.line + 1 - l.p
