-- `drav::drav` meets its contract. Assumes nothing.
use mathlib.Core.Path.{◌≡◌, refl, sym, ◌∙◌}
use lib.ListN.{length}
use Rattle.std.specs.Prelude.{Ok}
use Rattle.lone.specs.Lone.{pixel_address, xy_destination}
use Rattle.pixt.specs.Pixt.{pixel_drawn}
use Rattle.pixt.proofs.LoneLaws.{xy_destination-at}
use Rattle.drav.specs.Drav.{point_color}
use Rattle.drav.proofs.drav.Goals as goal
use Rattle.drav.proofs.drav.Goals.{in-Some, in_default}

pub returns : goal.returns
returns c =
    let a = c.args in
    let m = a.memory.now in
    let l = c.in_ok-l.l in
    let at : xy_destination (length m) a.s a.point a.v ≡ Ok l = sym c.xy_destination.ensures ∙ c.in_ok-l.was in
    let drawn : c.match-l.memory ≡ pixel_drawn a.s l.pixel (point_color a.s (pixel_address a.s a.point)) m = (elim c.match-l.branch [
      | in-Some w ↦ rw (w.in-Some.is, w.memory-is, w.draw.ensures, xy_destination-at _ _ _ _ _ _ at w.in-Some.is)
      | in_default w ↦ rw (w.memory-is, w.in_default.is)
    ]) in
    rw (at, c.done.ensures, c.advanced.ensures) (refl, drawn)
