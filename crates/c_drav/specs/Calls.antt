-- The promise of DRAV: what a call answers, and what it leaves in the memory and the output array.
-- Assumes nothing.
use Rattle.std.specs.Prelude.{cond, List, ℕ, length}
use Rattle.settings.specs.Settings.{settings_of}
use Rattle.lone.specs.Lone.{pixel_address, xy_destination}
use Rattle.pixt.specs.Pixt.{lone_drawn}
use Rattle.drav.specs.Drav.{point_color, drav_of}
use Rattle.c_arrays.specs.Out.{is_set}
use Rattle.c_lone.specs.Pixel.{bad_pixel, PixelCall}

-- `drav`
abbrev pub DravCall : (memory settings : List ℕ) (step point v : ℕ) (out : List ℕ)
    (answer : ℕ) (memory' out' : List ℕ) → Type 0
DravCall memory settings step point v out answer memory' out' =
    let s = settings_of settings in
    let at = xy_destination (length memory) s point (is_set v) in
    let call = drav_of s point step at in
    let drawn = lone_drawn s at (point_color s (pixel_address s point)) memory in
    let after = cond (bad_pixel settings out) memory drawn in
    PixelCall settings v point out call after answer memory' out'
