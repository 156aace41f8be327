-- The promises of PIXT register to memory: what a call answers, and what it leaves in the memory
-- and the output array. Assumes nothing.
use Rattle.std.specs.Prelude.{cond, List, ℕ, length, Result}
use Rattle.answers.specs.declared.Refused.{Refused}
use Rattle.settings.specs.Settings.{settings_of}
use Rattle.lone.specs.declared.Lone.{Lone}
use Rattle.lone.specs.Lone.{linear_pixel, xy_destination}
use Rattle.pixt.specs.Pixt.{lone_drawn, low_bits, pixt_to}
use Rattle.c_arrays.specs.Out.{is_set}
use Rattle.c_lone.specs.Pixel.{bad_pixel, PixelCall}

-- at a pixel: the register's low bits are drawn there
abbrev pub PixtToCall : (memory settings : List ℕ) (value : ℕ) (at : Result Lone Refused)
    (v : ℕ) (out : List ℕ) (answer : ℕ) (memory' out' : List ℕ) → Type 0
PixtToCall memory settings value at v out answer memory' out' =
    let s = settings_of settings in
    let after = cond (bad_pixel settings out) memory (lone_drawn s at (low_bits s value) memory) in
    PixelCall settings v 0 out (pixt_to s at) after answer memory' out'

-- `pixt_to_linear`
abbrev pub PixtToLinearCall : (memory settings : List ℕ) (value address v : ℕ) (out : List ℕ)
    (answer : ℕ) (memory' out' : List ℕ) → Type 0
PixtToLinearCall memory settings value address v out answer memory' out' =
    let at = linear_pixel (length memory) (settings_of settings) address (is_set v) in
    PixtToCall memory settings value at v out answer memory' out'

-- `pixt_to_xy`
abbrev pub PixtToXYCall : (memory settings : List ℕ) (value xy v : ℕ) (out : List ℕ)
    (answer : ℕ) (memory' out' : List ℕ) → Type 0
PixtToXYCall memory settings value xy v out answer memory' out' =
    let at = xy_destination (length memory) (settings_of settings) xy (is_set v) in
    PixtToCall memory settings value at v out answer memory' out'
