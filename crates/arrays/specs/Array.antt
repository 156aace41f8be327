-- The arrays of a drawing after the window (the scope, "Arrays, windows and slices"; request
-- Eight): what is drawn, and both walks. Assumes nothing.
use Rattle.std.specs.Prelude.{Bool, cond, ◌&&◌, ℕ, ◌+◌, ◌/◌, ◌%◌, ◌^◌}
use Rattle.control.specs.Control.{transparency, windowing, processing}
use Rattle.control.specs.Control.{right_to_left, bottom_to_top}
use Rattle.walk.specs.declared.Walk.{Walk}
use Rattle.walk.specs.Walk.{address_at, start_at}
use Rattle.corner.specs.Corner.{turned, from_corner}
use Rattle.address.specs.Coordinate.{x_of, y_of}
use Rattle.address.specs.Address.{xy_address}
use Rattle.windows.specs.Window.{window_of, clipped, v_under, unclipped}
use Rattle.windows.specs.declared.Rectangle.{Rectangle}
use Rattle.windows.specs.declared.Clipped.{Clipped}
use Rattle.settings.specs.declared.Settings.{Settings}
use Rattle.plot.specs.declared.Source.{Source}
use Rattle.plot.specs.declared.Source.TheVariants.{Color, Pixels, Bits}
use Rattle.plot.specs.declared.Drawing.{Drawing}
use Rattle.operation.specs.declared.Operation.{Operation}
use Rattle.operation.specs.Operation.{to_xy, from_xy, walks_to_corner, source_of, copies_pixels}

-- the destination rectangle X to X+DX-1, Y to Y+DY-1; DX and DY are unsigned
abbrev pub rectangle_of : Settings → Rectangle
rectangle_of s =
    record {
      x = x_of s.daddr;
      y = y_of s.daddr;
      cols = s.dydx % 2 ^ 16;
      rows = s.dydx / 2 ^ 16;
    }

-- what of it is drawn, with the request; linear destinations ignore W
unfoldable pub clipped_array : Operation → Settings → Clipped
clipped_array op s =
    cond (to_xy op)
    (clipped (windowing s.control) (rectangle_of s) (window_of s.wstart s.wend))
    (unclipped (rectangle_of s))

-- V after the call; linear destinations keep it
unfoldable pub v_after : Operation → Settings → Bool → Bool
v_after op s v =
    cond (to_xy op)
    (v_under (windowing s.control) (rectangle_of s) (window_of s.wstart s.wend) v)
    v

-- the XY start of an array after clipping, which moves it by the columns and rows skipped,
-- unwrapped
abbrev pub start_x : ℕ → Clipped → ℕ
start_x xy c = x_of xy + c.left

abbrev pub start_y : ℕ → Clipped → ℕ
start_y xy c = y_of xy + c.above

-- where what is drawn of the destination starts: upper left, but for an L,L as given
unfoldable pub dest_start : Operation → Settings → Clipped → ℕ
dest_start op s c =
    cond (to_xy op)
    (xy_address s.offset s.dptch s.psize (start_x s.daddr c) (start_y s.daddr c))
    s.daddr

-- from one source pixel to the next: PSIZE bits, or one bit of a B source
abbrev pub step_of : Source → ℕ → ℕ
step_of Color psize = 0
step_of Pixels psize = psize
step_of Bits psize = 1

-- the walk of a linear source, before clipping
abbrev pub linear_source : Operation → Settings → Walk
linear_source op s =
    record { start = s.saddr; pitch = s.sptch; step = step_of (source_of op) s.psize }

-- where its source starts: a linear start moves by the same columns and rows, a B source by bits
-- and SPTCH
unfoldable pub src_start : Operation → Settings → Clipped → ℕ
src_start op s c =
    cond (from_xy op)
    (xy_address s.offset s.sptch s.psize (start_x s.saddr c) (start_y s.saddr c))
    (address_at (linear_source op s) c.above c.left)

-- PBH=1 walks each row from its right end, PBV=1 walks rows from the last one up; B sources and
-- FILL ignore both bits (request Eight)
abbrev pub from_right : Operation → Settings → Bool
from_right op s = copies_pixels (source_of op) && right_to_left s.control

abbrev pub from_bottom : Operation → Settings → Bool
from_bottom op s = copies_pixels (source_of op) && bottom_to_top s.control

-- an array's walk in the chosen order. For L,L the given start is the chosen corner's pixel itself;
-- for L,XY, XY,L and XY,XY the model walks to the corner linearly from the clipped array's upper
-- left start
unfoldable pub chosen_walk : Operation → Settings → Clipped → Walk → Walk
chosen_walk op s c w =
    let pbh = from_right op s in
    let pbv = from_bottom op s in
    cond (walks_to_corner op) (from_corner pbh pbv c.cols c.rows w) (turned pbh pbv w)

-- the two arrays from their starts, before an order is chosen
abbrev pub dest_walk : Operation → Settings → Clipped → Walk
dest_walk op s c = record { start = dest_start op s c; pitch = s.dptch; step = s.psize }

abbrev pub src_walk : Operation → Settings → Clipped → Walk
src_walk op s c = start_at (linear_source op s) (src_start op s c)

-- the drawing; the low 16 bits of the colours count
unfoldable pub drawing_of : Operation → Settings → Clipped → Drawing
drawing_of op s c =
    record {
      cols = c.cols;
      rows = c.rows;
      dest = chosen_walk op s c (dest_walk op s c);
      source = source_of op;
      src = chosen_walk op s c (src_walk op s c);
      psize = s.psize;
      pp = processing s.control;
      t = transparency s.control;
      pmask = s.pmask;
      color0 = s.color0 % 2 ^ 16;
      color1 = s.color1 % 2 ^ 16;
    }

-- the drawing of an operation with its settings
abbrev pub drawing_for : Operation → Settings → Drawing
drawing_for op s = drawing_of op s (clipped_array op s)
