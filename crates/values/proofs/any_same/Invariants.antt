-- `values::any_same` meets its contract. The invariant: the search among all the numbers comes out as that among those left.
use Rattle.std.proofs.Common.{◌≡◌, eqb, length}
use Rattle.lists.specs.Search.{any_pair}
use Rattle.values.proofs.any_same.Given as goal

abbrev pub invariant-loop-v : goal.invariant-loop-v
invariant-loop-v l =
    any_pair eqb l.held ≡ any_pair eqb l.rest

abbrev pub decreases-loop-v : goal.decreases-loop-v
decreases-loop-v l =
    length l.rest
