-- One pixel of a drawing, and the pixels of one row (the scope, "One pixel" and "Arrays, windows
-- and slices"): what S is, and what each pixel leaves in memory; each one reads memory as the ones
-- before left it. Assumes nothing.
use Rattle.std.specs.Prelude.{ℕ, zero, suc, ◌/◌, cond, List, ◌==◌, slice_index}
use Rattle.memory.specs.Bits.{bit_at}
use Rattle.pixel.specs.Pixel.{top_of, pixel_of, plotted}
use Rattle.walk.specs.declared.Walk.{Walk}
use Rattle.walk.specs.Walk.{address_at, start_at}
use Rattle.plot.specs.declared.Source.{Source}
use Rattle.plot.specs.declared.Source.TheVariants.{Color, Pixels, Bits}
use Rattle.plot.specs.declared.Drawing.{Drawing}

-- a colour at the destination's place in its word
abbrev pub color_at : Drawing → ℕ → ℕ → ℕ
color_at d color to = pixel_of (top_of d.psize) color to

-- S, for a source at address from and a destination at address to. FILL takes COLOR1 at the
-- destination's place; a PIXBLT the source pixel; a B source COLOR1 for a 1 bit and COLOR0 for a 0
-- bit, the same way
abbrev pub source_by : Source → Drawing → ℕ → ℕ → List ℕ → ℕ
source_by Color d from to m = color_at d d.color1 to
source_by Pixels d from to m = pixel_of (top_of d.psize) (slice_index m (from / 16)) from
source_by Bits d from to m =
    cond (bit_at m from == 1) (color_at d d.color1 to) (color_at d d.color0 to)

unfoldable pub source_at : Drawing → ℕ → ℕ → List ℕ → ℕ
source_at d from to m = source_by d.source d from to m

-- the memory after the pixel at address to is drawn from the source at address from
unfoldable pub drawn_at : Drawing → ℕ → ℕ → List ℕ → List ℕ
drawn_at d from to m =
    plotted d.pp d.t (top_of d.psize) d.pmask to (source_at d from to m) m

-- i pixels on from an address of a walk
abbrev pub along : Walk → ℕ → ℕ → ℕ
along w a i = address_at (start_at w a) 0 i

-- the memory after n pixels of a row are drawn, the first at address to from the source at address
-- from
unfoldable pub row_drawn : Drawing → ℕ → ℕ → ℕ → List ℕ → List ℕ
row_drawn d from to zero m = m
row_drawn d from to (suc n) m =
    drawn_at d (along d.src from n) (along d.dest to n) (row_drawn d from to n m)
