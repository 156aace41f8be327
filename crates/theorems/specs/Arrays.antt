-- Arrays: which pixels a drawing visits, and where they lie. The proofs are in
-- proofs/Arrays.antt. Assumes nothing.
use Rattle.std.specs.Prelude.{◌≡◌, Bool, false, cond, ◌≢◌, ◌↔◌, ℕ, ◌+◌, ◌*◌, ◌/◌, ◌%◌, ◌^◌, ◌≤◌, ◌<◌}
use Rattle.memory.specs.Bits.{no_memory}
use Rattle.control.specs.Control.{right_to_left, bottom_to_top}
use Rattle.address.specs.Coordinate.{coordinate, x_of, y_of, register_of}
use Rattle.address.specs.Address.{xy_address}
use Rattle.windows.specs.Kept.{InRectangle, kept}
use Rattle.walk.specs.declared.Walk.{Walk}
use Rattle.walk.specs.Walk.{address_at, address_of}
use Rattle.corner.specs.Corner.{turned, chosen_index}
use Rattle.extent.specs.Extent.{leaves_memory}
use Rattle.settings.specs.declared.Settings.{Settings}
use Rattle.plot.specs.Drawing.{pixels}
use Rattle.engine.specs.Engine.{dest_of, src_of}
use Rattle.operation.specs.declared.Operation.{Operation}
use Rattle.operation.specs.declared.Operation.TheVariants.{PixbltLL}
use Rattle.operation.specs.Operation.{to_xy, from_xy}
use Rattle.arrays.specs.Array.{rectangle_of, clipped_array, linear_source, from_right, from_bottom}
use Rattle.arrays.specs.Array.{drawing_for}
use Rattle.array_refusal.specs.Refusal.{refusal}

-- ---- coordinates

-- A half stands for the signed number that it is in two's complement: below 2^15 for itself, from
-- 2^15 on for itself less 2^16. Its coordinate is that number plus 2^15.
abbrev pub CoordinateIsSigned : Type 0
CoordinateIsSigned =
    ((half : ℕ) → half < 2 ^ 15 → coordinate half ≡ half + 2 ^ 15)
    × ((half : ℕ) → 2 ^ 15 ≤ half → half < 2 ^ 16 → coordinate half + 2 ^ 16 ≡ half + 2 ^ 15)

-- A register and its two coordinates correspond: taken apart and put together it is itself, and
-- each two coordinates are those of their register.
abbrev pub RegisterIsCoordinates : Type 0
RegisterIsCoordinates =
    ((xy : ℕ) → xy < 2 ^ 32 → register_of (x_of xy) (y_of xy) ≡ xy)
    × ((x y : ℕ) → x < 2 ^ 16 → y < 2 ^ 16
    → (x_of (register_of x y) ≡ x) × (y_of (register_of x y) ≡ y))

-- ---- walks

-- A walk that is not refused with 17 visits addresses inside the memory only, and a walk that
-- visits only such is not refused.
abbrev pub WalkInside : Type 0
WalkInside =
    (words : ℕ) (w : Walk) (cols rows : ℕ) → no_memory words ≡ false
    → (leaves_memory words w cols rows ≡ false)
    ↔ ((i : ℕ) → i < cols * rows → address_of w cols i < 16 * words)

-- ---- the pixels of a drawing, by columns and rows of the array that its
-- settings give, before the window

-- the column and the row of pixel i: those that clipping skips, and its own in what is drawn, row
-- by row in the chosen order
abbrev pub column_of : Operation → Settings → ℕ → ℕ
column_of op s i =
    let c = clipped_array op s in
    c.left + chosen_index (from_right op s) c.cols (i % c.cols)

abbrev pub row_of : Operation → Settings → ℕ → ℕ
row_of op s i =
    let c = clipped_array op s in
    c.above + chosen_index (from_bottom op s) c.rows (i / c.cols)

-- the address so many columns and rows from an array's start: of an XY array that of its own X and
-- Y, else as the pitch and the step say
abbrev pub place_at : Bool → ℕ → Walk → ℕ → ℕ → ℕ
place_at xy offset w column row =
    cond xy
    (xy_address offset w.pitch w.step (x_of w.start + column) (y_of w.start + row))
    (address_at w row column)

-- the destination that settings give, with the start that its register holds
abbrev pub destination : Settings → Walk
destination s = record { start = s.daddr; pitch = s.dptch; step = s.psize }

-- The pixels visited are those that the window keeps: each one visited is kept,
-- and each one kept is visited.
abbrev pub KeptIsVisited : Type 0
KeptIsVisited =
    (op : Operation) (s : Settings)
    → ((i : ℕ) → i < pixels (drawing_for op s)
    → InRectangle (kept (rectangle_of s) (clipped_array op s))
    (x_of s.daddr + column_of op s i) (y_of s.daddr + row_of op s i))
    × ((x y : ℕ) → InRectangle (kept (rectangle_of s) (clipped_array op s)) x y
    → (i : ℕ) × (i < pixels (drawing_for op s))
    × (x ≡ x_of s.daddr + column_of op s i) × (y ≡ y_of s.daddr + row_of op s i))

-- Each pixel of a drawing that is not refused, clipped or not, from whichever corner, lies at the
-- address of its own X and Y if the destination is XY, and its source lies as many columns and rows
-- from the source's start as it does from the destination's. (A FILL takes no notice of the second.
-- The starts of an L,L are not upper left: GivenPlaces.)
abbrev pub PixelPlaces : Type 0
PixelPlaces =
    (op : Operation) (s : Settings) (place words : ℕ)
    → op ≢ PixbltLL → refusal op s place words ≡ 0
    → (i : ℕ) → i < pixels (drawing_for op s)
    → (dest_of (drawing_for op s) i
    ≡ place_at (to_xy op) s.offset (destination s) (column_of op s i) (row_of op s i))
    × (src_of (drawing_for op s) i
    ≡ place_at (from_xy op) s.offset (linear_source op s) (column_of op s i) (row_of op s i))

-- Each pixel of an L,L and its source lie as many columns and rows from the given starts, which are
-- those of the chosen corner, walked in the chosen order.
abbrev pub GivenPlaces : Type 0
GivenPlaces =
    (s : Settings) (i : ℕ)
    → let d = drawing_for PixbltLL s in
    let pbh = right_to_left s.control in
    let pbv = bottom_to_top s.control in
    (dest_of d i ≡ address_at (turned pbh pbv (destination s)) (i / d.cols) (i % d.cols))
    × (src_of d i
    ≡ address_at (turned pbh pbv (linear_source PixbltLL s)) (i / d.cols) (i % d.cols))

-- every statement of this file
pub record OfArrays : Type 0 where
  pub coordinate-is-signed : CoordinateIsSigned
  pub register-is-coordinates : RegisterIsCoordinates
  pub walk_inside : WalkInside
  pub kept-is-visited : KeptIsVisited
  pub pixel-places : PixelPlaces
  pub given-places : GivenPlaces
