-- `with_axis` meets its contract. Assumes nothing.
use mathlib.Core.Path.{sym, ◌∙◌}
use Rattle.plan.proofs.AxisLaws.{good, taken-is}
use Rattle.plan.proofs.with_axis.Goals as goal

pub with_values-requires : goal.with_values-requires
with_values-requires c =
    let is = sym c.axis_of.ensures ∙ c.in-Ok.is in
    let g = good _ _ _ _ is in
    rw (← taken-is _ _ _ _ is) (g.known, g.few, g.room, c.requires)

pub returns-in-Ok : goal.returns-in-Ok
returns-in-Ok c =
    let is = sym c.axis_of.ensures ∙ c.in-Ok.is in
    rw (c.with_values.ensures, ← taken-is _ _ _ _ is, is)
