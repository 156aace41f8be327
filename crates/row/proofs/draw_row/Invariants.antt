-- `draw_row` meets its contract: after i turns of the loop i pixels are drawn.
use Rattle.std.proofs.Common.{◌-◌}
use Rattle.row.proofs.DrawnLaws.{Drawn}
use Rattle.row.proofs.draw_row.Given as goal

abbrev pub invariant-loop-i : goal.invariant-loop-i
invariant-loop-i l =
    Drawn l.initial.memory l.d l.src l.dest l.n l.colors l.memory l.from l.to l.i

abbrev pub decreases-loop-i : goal.decreases-loop-i
decreases-loop-i l =
    l.n - l.i
