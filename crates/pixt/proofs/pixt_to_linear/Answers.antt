-- `pixt_to_linear` meets its contract. Assumes nothing.
use mathlib.Core.Path.{sym, ◌∙◌}
use Rattle.pixt.proofs.LoneLaws.{linear_pixel-aligned}
use Rattle.pixt.proofs.pixt_to_linear.Goals as goal

pub draw_register-requires : goal.draw_register-requires
draw_register-requires c =
    linear_pixel-aligned _ _ _ _ _ (sym c.linear_pixel.ensures ∙ c.in_ok-l.was)
