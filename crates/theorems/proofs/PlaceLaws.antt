-- Where the pixels of a drawing lie: each at the address of its own X and Y. No contract cites this file. Assumes nothing.
use mathlib.Core.Path.{◌≡◌, refl, sym, ap, ap₂, subst, ◌∙◌}
use mathlib.Core.Bool.{Bool, true, false, cond, ◌&&◌, ◌||◌, false≢true}
use mathlib.Core.Logic.{◌≢◌}
use Prim.Native.Nat.{ℕ, ◌+◌, ◌-◌, ◌*◌, ◌/◌, ◌%◌, ◌^◌, ◌≤◌, ◌<◌}
use native.Mathlib.Nat.{add_assoc, zero-mul, mul_comm}
use native.Mathlib.Omega.{arith}
use borrow.Author.Tests.{ltb-false}
use lib.Arith.{digits_lt, digits_div, digits_mod}
use Rattle.memory.proofs.Tests.{or-false-left, or-false-right}
use Rattle.control.specs.Control.{right_to_left, bottom_to_top}
use Rattle.address.specs.Coordinate.{x_of, y_of, negative}
use Rattle.address.specs.Address.{xy_address}
use Rattle.windows.specs.Kept.{InRectangle, kept}
use Rattle.windows.specs.declared.Rectangle.{Rectangle}
use Rattle.windows.specs.declared.Clipped.{Clipped}
use Rattle.walk.specs.declared.Walk.{Walk}
use Rattle.walk.specs.Walk.{address_at, address_of, start_at}
use Rattle.walk.proofs.WalkLaws.{address_at-moved, column-lt, row_lt}
use Rattle.corner.specs.Corner.{turned, chosen_index}
use Rattle.corner.proofs.CornerLaws.{chosen_index-lt, chosen_index-twice}
use Rattle.settings.specs.declared.Settings.{Settings}
use Rattle.plot.specs.declared.Source.{Source}
use Rattle.plot.specs.declared.Source.TheVariants.{Pixels}
use Rattle.plot.specs.Drawing.{pixels}
use Rattle.engine.specs.Engine.{dest_of, src_of}
use Rattle.operation.specs.declared.Operation.{Operation}
use Rattle.operation.specs.declared.Operation.TheVariants.{FillL, FillXY, PixbltLL, PixbltLXY, PixbltXYL, PixbltXYXY, PixbltBL, PixbltBXY}
use Rattle.operation.specs.Operation.{to_xy, from_xy, source_of, copies_pixels}
use Rattle.arrays.specs.Array.{rectangle_of, clipped_array, start_x, start_y, step_of, linear_source, dest_start, src_start}
use Rattle.arrays.specs.Array.{from_right, from_bottom, chosen_walk, dest_walk, src_walk, drawing_of, drawing_for}
use Rattle.arrays.proofs.ArrayLaws.{chosen_walk-place}
use Rattle.array_refusal.specs.Refusal.{bad_dest, bad_source, negative_start, refusal}
use Rattle.array_refusal.proofs.RefusalLaws.{passes}
use Rattle.slices.proofs.FootLaws.{and-false, starts}
use Rattle.theorems.specs.Arrays.{column_of, row_of, place_at, destination}

-- ---- a walk from an XY address: the address of a pixel's own X and Y
walk-xy : (offset pitch psize x y row column : ℕ) → 2 ^ 15 ≤ x → 2 ^ 15 ≤ y
    → address_at (record { start = xy_address offset pitch psize x y; pitch = pitch; step = psize }) row column
    ≡ xy_address offset pitch psize (x + column) (y + row)
unfolding xy_address
walk-xy offset pitch psize x y row column hx hy =
    let ex : x - 2 ^ 15 + column ≡ x + column - 2 ^ 15 = omega arith in
    let ey : y - 2 ^ 15 + row ≡ y + row - 2 ^ 15 = omega arith in
    let w : Walk = record { start = offset; pitch = pitch; step = psize } in
    address_at-moved w (y - 2 ^ 15) (x - 2 ^ 15) row column ∙ ap₂ (address_at w) ey ex

-- ---- row by row: the column and row of pixel i, and the number of a column and row

abbrev In : (cols rows x left y above a b : ℕ) → Type 0
In cols rows x left y above a b = (x + left ≤ a) × (a < x + left + cols) × (y + above ≤ b) × (b < y + above + rows)

module _ (pbh pbv : Bool) (cols rows : ℕ) where
  row-col : (i : ℕ) → i < cols * rows → (x left y above : ℕ)
      → In cols rows x left y above (x + (left + chosen_index pbh cols (i % cols))) (y + (above + chosen_index pbv rows (i / cols)))
  row-col i h x left y above =
      omega (
        arith,
        chosen_index-lt pbh cols (i % cols) (column-lt cols rows i h),
        chosen_index-lt pbv rows (i / cols)
            (row_lt cols rows i h),
      )

  -- the pixel at column a and row b
  number_of : (a b : ℕ) → a < cols → b < rows
      → (i : ℕ) × (i < cols * rows) × (chosen_index pbh cols (i % cols) ≡ a) × (chosen_index pbv rows (i / cols) ≡ b)
  number_of a b ha hb =
      let c : ℕ = chosen_index pbh cols a in
      let r : ℕ = chosen_index pbv rows b in
      let hc : chosen_index pbh cols a < cols = chosen_index-lt pbh cols a ha in
      let hr : chosen_index pbv rows b < rows = chosen_index-lt pbv rows b hb in (
        r * cols + c,
        rw (mul_comm cols rows) (digits_lt hr hc),
        ap (chosen_index pbh cols) (digits_mod r hc) ∙ chosen_index-twice pbh cols a ha,
        ap (chosen_index pbv rows) (digits_div r hc) ∙ chosen_index-twice pbv rows b hb,
      )

  number : (x left y above a b : ℕ) → In cols rows x left y above a b
      → (i : ℕ) × (i < cols * rows)
      × (a ≡ x + (left + chosen_index pbh cols (i % cols))) × (b ≡ y + (above + chosen_index pbv rows (i / cols)))
  number x left y above a b p =
      let found = number_of (a - (x + left)) (b - (y + above)) (omega arith) (omega arith) in
      (found.0, found.1, omega (arith, found.2), omega (arith, found.3))

-- ---- tests

-- what holds of no FILL and of no B source holds of sources of pixels alone
pub source-pixels : (t : Operation → Bool) → t FillL ≡ false → t FillXY ≡ false → t PixbltBL ≡ false → t PixbltBXY ≡ false
    → (op : Operation) → t op ≡ true → source_of op ≡ Pixels
source-pixels t a b c d FillL e = absurd (false≢true (sym a ∙ e))
source-pixels t a b c d FillXY e = absurd (false≢true (sym b ∙ e))
source-pixels t a b c d PixbltLL e = refl
source-pixels t a b c d PixbltLXY e = refl
source-pixels t a b c d PixbltXYL e = refl
source-pixels t a b c d PixbltXYXY e = refl
source-pixels t a b c d PixbltBL e = absurd (false≢true (sym c ∙ e))
source-pixels t a b c d PixbltBXY e = absurd (false≢true (sym d ∙ e))

-- an XY source is one of pixels
xy-pixels : (op : Operation) → from_xy op ≡ true → source_of op ≡ Pixels
xy-pixels = source-pixels from_xy refl refl refl refl

-- a linear destination is not clipped
linear-left : (op : Operation) (s : Settings) → to_xy op ≡ false → (clipped_array op s).left ≡ 0
unfolding clipped_array
linear-left op s e = rw e

linear-above : (op : Operation) (s : Settings) → to_xy op ≡ false → (clipped_array op s).above ≡ 0
unfolding clipped_array
linear-above op s e = rw e

-- a start that is not negative
not_negative : (x y : ℕ) → (negative x || negative y) ≡ false → (2 ^ 15 ≤ x) × (2 ^ 15 ≤ y)
not_negative x y e = (
  ltb-false x (2 ^ 15) (or-false-left (negative x) (negative y) e),
  ltb-false y (2 ^ 15) (or-false-right (negative x) (negative y) e),
)

module _ (op : Operation) (s : Settings) (place words : ℕ) (ne : op ≢ PixbltLL) (e : refusal op s place words ≡ 0)
    (i : ℕ) (h : i < pixels (drawing_for op s)) where
  abbrev bad_to : Bool
  bad_to = bad_dest op s (clipped_array op s) (drawing_for op s)

  abbrev bad_from : Bool
  bad_from = bad_source op s (clipped_array op s) (drawing_for op s)

  good : (bad_to || bad_from) ≡ false
  good = starts op s place words (passes op s place words e) i h

  abbrev c : Clipped
  c = clipped_array op s

  -- its column and row in what is drawn
  abbrev column : ℕ
  column = chosen_index (from_right op s) c.cols (i % c.cols)

  abbrev row : ℕ
  row = chosen_index (from_bottom op s) c.rows (i / c.cols)

  placed : (w : Walk) → address_of (chosen_walk op s c w) c.cols i ≡ address_at w row column
  unfolding drawing_of
  placed w = chosen_walk-place op s c w ne i h

  -- in an XY array whose start is not negative
  place-xy : (start pitch : ℕ) → negative_start start c ≡ false
      → address_at
      (record {
        start = xy_address s.offset pitch s.psize (start_x start c) (start_y start c);
        pitch = pitch;
        step = s.psize;
      })
      row column
      ≡ xy_address s.offset pitch s.psize (x_of start + column_of op s i) (y_of start + row_of op s i)
  place-xy start pitch n =
      let p = not_negative (start_x start c) (start_y start c) n in
      walk-xy s.offset pitch s.psize (start_x start c) (start_y start c) row column p.0 p.1
      ∙ ap₂ (λ (x y : ℕ). xy_address s.offset pitch s.psize x y)
      (add_assoc (x_of start) c.left column) (add_assoc (y_of start) c.above row)

  place-linear : to_xy op ≡ false → address_at (destination s) row column ≡ address_at (destination s) (row_of op s i) (column_of op s i)
  place-linear q =
      let r : row ≡ row_of op s i = omega (arith, linear-above op s q) in
      let k : column ≡ column_of op s i = omega (arith, linear-left op s q) in
      ap₂ (address_at (destination s)) r k

  pub dest-place : dest_of (drawing_for op s) i ≡ place_at (to_xy op) s.offset (destination s) (column_of op s i) (row_of op s i)
  unfolding drawing_of dest_start
  dest-place = placed (dest_walk op s c) ∙ go (to_xy op) refl
    where
      -- where an XY destination starts
      start : ℕ
      start = xy_address s.offset s.dptch s.psize (start_x s.daddr c) (start_y s.daddr c)

      go : (t : Bool) → to_xy op ≡ t
          → address_at (start_at (destination s) (cond t start s.daddr)) row column
          ≡ place_at t s.offset (destination s) (column_of op s i) (row_of op s i)
      go true q =
          place-xy s.daddr s.dptch
          (and-false (to_xy op) _ q (or-false-left (to_xy op && negative_start s.daddr c) _ (or-false-left bad_to bad_from good)))
      go false q = place-linear q

  -- an XY source's start is not negative, and its pixels are PSIZE apart
  xy-source : from_xy op ≡ true → negative_start s.saddr c ≡ false
  xy-source q =
      and-false (from_xy op) _ q
      (or-false-left (from_xy op && negative_start s.saddr c) _
      (and-false (copies_pixels (source_of op)) _ (ap copies_pixels (xy-pixels op q)) (or-false-right bad_to bad_from good)))

  pub src-place : src_of (drawing_for op s) i ≡ place_at (from_xy op) s.offset (linear_source op s) (column_of op s i) (row_of op s i)
  unfolding drawing_of src_start
  src-place = placed (src_walk op s c) ∙ go (from_xy op) refl
    where
      -- where an XY source starts
      start : ℕ
      start = xy_address s.offset s.sptch s.psize (start_x s.saddr c) (start_y s.saddr c)

      go : (t : Bool) → from_xy op ≡ t
          → address_at (start_at (linear_source op s) (cond t start (address_at (linear_source op s) c.above c.left))) row column
          ≡ place_at t s.offset (linear_source op s) (column_of op s i) (row_of op s i)
      go true q =
          subst
          (λ (x : Source).
          address_at (record { start = start; pitch = s.sptch; step = step_of x s.psize }) row column
          ≡ xy_address s.offset s.sptch (step_of x s.psize) (x_of s.saddr + column_of op s i) (y_of s.saddr + row_of op s i))
          (sym (xy-pixels op q)) (place-xy s.saddr s.sptch (xy-source q))
      go false q = address_at-moved (linear_source op s) c.above c.left row column

-- ---- an L,L
module _ (s : Settings) (i : ℕ) where
  abbrev cols : ℕ
  cols = (drawing_for PixbltLL s).cols

  -- the walk of an array from its given start, in the chosen order
  abbrev given : Walk → Walk
  given w = turned (right_to_left s.control) (bottom_to_top s.control) w

  pub dest-given : dest_of (drawing_for PixbltLL s) i ≡ address_at (given (destination s)) (i / cols) (i % cols)
  unfolding drawing_of chosen_walk dest_start address_of
  dest-given = refl

  pub src-given : src_of (drawing_for PixbltLL s) i ≡ address_at (given (linear_source PixbltLL s)) (i / cols) (i % cols)
  unfolding drawing_of chosen_walk src_start clipped_array address_of address_at
  src-given = omega (arith, zero-mul s.sptch, zero-mul s.psize)

-- ---- the pixels visited are those kept
module _ (op : Operation) (s : Settings) where
  abbrev rect : Rectangle
  rect = kept (rectangle_of s) (clipped_array op s)

  pub visited-kept : (i : ℕ) → i < pixels (drawing_for op s)
      → InRectangle rect (x_of s.daddr + column_of op s i) (y_of s.daddr + row_of op s i)
  unfolding drawing_of
  visited-kept i h =
      row-col (from_right op s) (from_bottom op s) rect.cols rect.rows i h (x_of s.daddr) (clipped_array op s).left
      (y_of s.daddr) (clipped_array op s).above

  pub kept-visited : (x y : ℕ) → InRectangle rect x y
      → (i : ℕ) × (i < pixels (drawing_for op s)) × (x ≡ x_of s.daddr + column_of op s i) × (y ≡ y_of s.daddr + row_of op s i)
  unfolding drawing_of
  kept-visited x y p =
      number (from_right op s) (from_bottom op s) rect.cols rect.rows (x_of s.daddr) (clipped_array op s).left (y_of s.daddr)
      (clipped_array op s).above x y p
