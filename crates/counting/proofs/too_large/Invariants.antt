-- `counting::too_large` meets its contract. Assumes nothing.
use Rattle.points.proofs.LimitLaws.{Joined}
use Rattle.counting.proofs.too_large.Given as goal

abbrev pub invariant-loop-v : goal.invariant-loop-v
invariant-loop-v l =
    Joined l.name l.values l.all l.v-index
