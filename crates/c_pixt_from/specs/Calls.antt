-- The promises of PIXT memory to register: what a call answers, and what it leaves in the memory
-- and the output array. Assumes nothing.
use Rattle.std.specs.Prelude.{List, ℕ, length, Result}
use Rattle.answers.specs.declared.Refused.{Refused}
use Rattle.settings.specs.Settings.{settings_of}
use Rattle.lone.specs.declared.Lone.{Lone}
use Rattle.lone.specs.Lone.{linear_pixel, xy_source}
use Rattle.pixt.specs.Pixt.{pixt_from}
use Rattle.c_arrays.specs.Out.{is_set}
use Rattle.c_lone.specs.Pixel.{PixelCall}

-- at a pixel: it is read, and the memory stays in every case
abbrev pub PixtFromCall : (memory settings : List ℕ) (at : Result Lone Refused) (v : ℕ)
    (out : List ℕ) (answer : ℕ) (memory' out' : List ℕ) → Type 0
PixtFromCall memory settings at v out answer memory' out' =
    let call = pixt_from (settings_of settings) at memory in
    PixelCall settings v 0 out call memory answer memory' out'

-- `pixt_from_linear`
abbrev pub PixtFromLinearCall : (memory settings : List ℕ) (address v : ℕ) (out : List ℕ)
    (answer : ℕ) (memory' out' : List ℕ) → Type 0
PixtFromLinearCall memory settings address v out answer memory' out' =
    let at = linear_pixel (length memory) (settings_of settings) address (is_set v) in
    PixtFromCall memory settings at v out answer memory' out'

-- `pixt_from_xy`
abbrev pub PixtFromXYCall : (memory settings : List ℕ) (xy v : ℕ) (out : List ℕ)
    (answer : ℕ) (memory' out' : List ℕ) → Type 0
PixtFromXYCall memory settings xy v out answer memory' out' =
    let at = xy_source (length memory) (settings_of settings) xy (is_set v) in
    PixtFromCall memory settings at v out answer memory' out'
