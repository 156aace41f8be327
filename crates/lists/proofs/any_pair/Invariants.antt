-- `any_pair` meets its contract: the items before the rest stand in the relation to none later. Assumes nothing.
use Rattle.std.proofs.Common.{◌≡◌, Bool, length}
use Rattle.lists.specs.Search.{any_pair}
use Rattle.lists.proofs.any_pair.Given as goal

abbrev pub invariant-loop-x : goal.invariant-loop-x
invariant-loop-x g l =
    (r : _) → ((x y : _) (b : Bool) → goal.F-post g l.fn.related x y b → b ≡ r x y) → any_pair r l.fn.items ≡ any_pair r l.rest

abbrev pub decreases-loop-x : goal.decreases-loop-x
decreases-loop-x g l = length l.rest
