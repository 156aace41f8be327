-- `store_axes` meets its contract: at each turn the axes so far are in the table. Assumes nothing.
use Rattle.plan.proofs.StoreLaws.{AxesStored}
use Rattle.plan.proofs.store_axes.Given as goal

abbrev pub invariant-loop-at : goal.invariant-loop-at
invariant-loop-at l =
    AxesStored l.text l.initial.table l.fn.starts l.axes l.table l.used l.at-index
