-- `pixt_to_xy` meets its contract. Assumes nothing.
use mathlib.Core.Path.{sym, ◌∙◌}
use Rattle.pixt.proofs.LoneLaws.{xy_destination-aligned}
use Rattle.pixt.proofs.pixt_to_xy.Goals as goal

pub draw_register-requires : goal.draw_register-requires
draw_register-requires c =
    xy_destination-aligned _ _ _ _ _ (sym c.xy_destination.ensures ∙ c.in_ok-l.was)
