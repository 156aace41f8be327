-- `store_axes` meets its contract: at each turn the axes so far are in the table. Assumes nothing.
use Rattle.plan.proofs.StoreLaws.{none-stored, turn-room, turn-stored}
use Rattle.plan.proofs.store_axes.Goals as goal

pub loop-at-init : goal.loop-at-init
loop-at-init c =
    let p = c.requires in none-stored p.0 p.1

pub store_axis-used-requires : goal.store_axis-used-requires
store_axis-used-requires c =
    turn-room c.loop-at.invariant c.loop-at-test.true _ c.part-line.ensures.bytes

pub loop-at-preserved : goal.loop-at-preserved
loop-at-preserved c =
    turn-stored c.loop-at.invariant c.loop-at-test.true _ c.part-line.ensures.bytes c.store_axis-used.ensures.entered
    c.store_axis-used.ensures.after
