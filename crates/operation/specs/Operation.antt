-- The eight drawings: FILL L and XY; PIXBLT L,L, L,XY, XY,L, XY,XY, B,L and B,XY (the scope, "What
-- is modelled"). Assumes nothing.
use Rattle.std.specs.Prelude.{Bool, true, false, List, [], ◌∷◌, ℕ, get_or}
use Rattle.plot.specs.declared.Source.{Source}
use Rattle.plot.specs.declared.Source.TheVariants.{Color, Pixels, Bits}
use Rattle.operation.specs.declared.Operation.{Operation}
use Rattle.operation.specs.declared.Operation.TheVariants.{FillL, FillXY, PixbltLL}
use Rattle.operation.specs.declared.Operation.TheVariants.{PixbltLXY, PixbltXYL}
use Rattle.operation.specs.declared.Operation.TheVariants.{PixbltXYXY, PixbltBL, PixbltBXY}

-- the eight, numbered from 0 in that order; any other number is the last one's
abbrev pub operations : List Operation
operations =
    FillL ∷ FillXY ∷ PixbltLL ∷ PixbltLXY ∷ PixbltXYL ∷ PixbltXYXY ∷ PixbltBL ∷ PixbltBXY ∷ []

abbrev pub operation_of : ℕ → Operation
operation_of number = get_or operations number PixbltBXY

-- the destination is XY
abbrev pub to_xy : Operation → Bool
to_xy FillL = false
to_xy FillXY = true
to_xy PixbltLL = false
to_xy PixbltLXY = true
to_xy PixbltXYL = false
to_xy PixbltXYXY = true
to_xy PixbltBL = false
to_xy PixbltBXY = true

-- the source is XY
abbrev pub from_xy : Operation → Bool
from_xy FillL = false
from_xy FillXY = false
from_xy PixbltLL = false
from_xy PixbltLXY = false
from_xy PixbltXYL = true
from_xy PixbltXYXY = true
from_xy PixbltBL = false
from_xy PixbltBXY = false

-- the model walks to the chosen corner: L,XY, XY,L and XY,XY (for L,L the caller gives it; request
-- Eight)
abbrev pub walks_to_corner : Operation → Bool
walks_to_corner FillL = false
walks_to_corner FillXY = false
walks_to_corner PixbltLL = false
walks_to_corner PixbltLXY = true
walks_to_corner PixbltXYL = true
walks_to_corner PixbltXYXY = true
walks_to_corner PixbltBL = false
walks_to_corner PixbltBXY = false

-- what it draws from
abbrev pub source_of : Operation → Source
source_of FillL = Color
source_of FillXY = Color
source_of PixbltLL = Pixels
source_of PixbltLXY = Pixels
source_of PixbltXYL = Pixels
source_of PixbltXYXY = Pixels
source_of PixbltBL = Bits
source_of PixbltBXY = Bits

-- is there a source array? of pixels?
abbrev pub copies : Source → Bool
copies Color = false
copies Pixels = true
copies Bits = true

abbrev pub copies_pixels : Source → Bool
copies_pixels Color = false
copies_pixels Pixels = true
copies_pixels Bits = false
