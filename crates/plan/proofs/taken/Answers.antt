-- `taken` meets its contract: the memory line, the draw line, or an axis line. Assumes nothing.
use Rattle.text.proofs.TextLaws.{part-take}
use Rattle.plan.proofs.StateLaws.{points-le}
use Rattle.plan.proofs.TurnLaws.{after-memory, after-draw, after-axis}
use Rattle.plan.proofs.taken.Goals as goal

pub returns-then-plan-eq0 : goal.returns-then-plan-eq0
returns-then-plan-eq0 c =
    rw (c.with_memory.ensures, c.memory_of.ensures)
    (after-memory c.requires.1 c.requires.2 c.requires.0 _ (part-take 10 _ _ _ c.requires.1.reached.ends) c.if-plan-eq0.true)

pub returns-then-plan-eq-DRAWING_COUNT : goal.returns-then-plan-eq-DRAWING_COUNT
returns-then-plan-eq-DRAWING_COUNT c =
    rw (c.with_draw.ensures, c.draw_of.ensures)
    (after-draw c.requires.1 c.requires.2 c.requires.0 _ (part-take 10 _ _ _ c.requires.1.reached.ends)
    c.if-plan-eq0.false c.if-plan-eq-DRAWING_COUNT.true)

pub with_axis-requires : goal.with_axis-requires
with_axis-requires c =
    points-le (c.requires.2.axes c.if-plan-eq0.false c.if-plan-eq-DRAWING_COUNT.false).holds

pub returns : goal.returns
returns c =
    rw c.with_axis.ensures
    (after-axis c.requires.1 c.requires.2 c.requires.0 _ (part-take 10 _ _ _ c.requires.1.reached.ends)
    c.if-plan-eq0.false c.if-plan-eq-DRAWING_COUNT.false)
