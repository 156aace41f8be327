-- `draw_row` meets its contract: after i turns of the loop i pixels are drawn.
use Rattle.std.proofs.Common.{rules}
use Rattle.row.proofs.DrawnLaws.{none-drawn, next_drawn}
use Rattle.row.proofs.draw_row.Goals as goal

pub loop-i-init : goal.loop-i-init
loop-i-init c =
    none-drawn c.colors_of-colors.ensures (search rules) (search rules)

pub loop-i-preserved : goal.loop-i-preserved
loop-i-preserved c =
    next_drawn c.loop-i.invariant c.loop-i-test.true c.draw_at.ensures
    c.wrapping_add_u32-from.ensures.value c.wrapping_add_u32-to.ensures.value
